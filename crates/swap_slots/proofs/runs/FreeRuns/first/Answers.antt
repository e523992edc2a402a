use Rattle.std.proofs.Common.{◌≡◌, ◌∙◌, ◌*◌, sym, ap, subst, length}
use Rattle.std.specs.List.{slice_get}
use Rattle.definitions.specs.Zones.{numbers}
use Rattle.definitions.proofs.SlotRuns.{numbers-runs_of}
use Rattle.swap_slots.specs.Bits.{AllClear, IsFirstBit}
use Rattle.swap_slots.specs.Kept.{kept_slots}
use Rattle.swap_slots.proofs.Keeping.{none_free, first_free}
use Rattle.swap_slots.proofs.runs.FreeRuns.first.Goals as goal

pub returns-in_err-word : goal.returns-in_err-word
returns-in_err-word c =
    let members : kept_slots c.self.inside ≡ numbers c.args.self.now.runs =
    sym (numbers-runs_of (kept_slots c.self.inside)) ∙ ap (λ r. numbers r.runs) c.self.view_is in
    let clear = subst (λ words. AllClear words (64 * 0) (64 * length words)) c.deref.ensures.value c.in_err-word.ensures in
    let none = none_free c.self.inside.room c.self.inside.count c.self.inside.bits.items c.self.inside.summary.items c.self.invariant clear in
    c.from_residual.ensures ∙ ap (λ xs. slice_get xs 0) (sym none ∙ members)

pub returns : goal.returns
returns c =
    let bits = c.self.inside.bits.items in
    let summary = c.self.inside.summary.items in
    let word = c.in_ok-word.word in
    let slot = c.in_ok-slot.slot in
    let members : kept_slots c.self.inside ≡ numbers c.args.self.now.runs =
    sym (numbers-runs_of (kept_slots c.self.inside)) ∙ ap (λ r. numbers r.runs) c.self.view_is in
    let above = subst (λ words. IsFirstBit words (64 * 0) word) c.deref.ensures.value c.in_ok-word.ensures in
    let first = subst (λ words. IsFirstBit words (64 * word) slot) c.deref-2.ensures.value c.in_ok-slot.ensures in
    let least = first_free c.self.inside.room c.self.inside.count bits summary word slot c.self.invariant above first in
    sym least.1 ∙ ap (λ xs. slice_get xs 0) members
