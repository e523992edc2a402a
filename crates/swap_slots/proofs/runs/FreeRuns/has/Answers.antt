use Rattle.std.proofs.Common.{◌≡◌, ℕ, ◌∙◌, ◌<◌, sym, ap, subst, List, arith}
use Rattle.std.specs.List.{Contains}
use Rattle.definitions.specs.Zones.{numbers}
use Rattle.definitions.proofs.SlotRuns.{numbers-runs_of}
use Rattle.swap_slots.specs.Bits.{bit_of}
use Rattle.swap_slots.specs.Kept.{kept_slots}
use Rattle.swap_slots.proofs.FreeBits.{Contains-members_of, member}
use Rattle.swap_slots.proofs.runs.FreeRuns.has.Goals as goal

pub returns : goal.returns
returns c =
    let bits = c.self.inside.bits.items in
    let room = c.self.inside.room in
    let slot = c.args.slot in
    let members : kept_slots c.self.inside ≡ numbers c.args.self.now.runs =
    sym (numbers-runs_of (kept_slots c.self.inside)) ∙ ap (λ r. numbers r.runs) c.self.view_is in
    let within : slot < room = omega (arith, ap (λ r. r.room) c.self.view_is) in
    let read = ap (λ words. bit_of words slot) c.deref.ensures.value in (
      λ yes. subst (λ (xs : List ℕ). Contains xs slot) members (Contains-members_of room bits slot within (sym read ∙ c.has_bit.ensures.0 yes)),
      λ in'. c.has_bit.ensures.1 (read ∙ (member room bits slot (subst (λ (xs : List ℕ). Contains xs slot) (sym members) in')).1),
    )
