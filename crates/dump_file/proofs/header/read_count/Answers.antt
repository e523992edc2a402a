use Rattle.std.proofs.Common.{◌≡◌, ◌+◌, ℕ, Err, leb, length, None, List, refl, sym, ap, ◌∙◌}
use Rattle.std.proofs.lemmas.Bool.{le-leb}
use Rattle.std.proofs.lemmas.Result.{err_from_is_err_and}
use Rattle.definitions.specs.Zones.{numbers}
use Rattle.dump_file.specs.Dump.{wanted}
use Rattle.dump_file.specs.Fields.{count_byte, first_record}
use Rattle.dump_file.specs.declared.dump.DumpKind.TheVariants.{Frame}
use Rattle.dump_file.proofs.Chains.{or_else-none, or_else-some, unless-false, unless-true}
use Rattle.dump_file.proofs.Heads.{count_is}
use Rattle.dump_file.proofs.Refused.{at_place, goes_on, refuses, stops}
use Rattle.dump_file.proofs.ZoneFaults.{not_most}
use Rattle.dump_file.proofs.header.read_count.Goals as goal

-- the number's bytes are there
there : (bytes : List ℕ) (end : ℕ) → end ≡ count_byte bytes → wanted bytes (end + 4) ≡ None → wanted bytes (count_byte bytes + 4) ≡ None
there bytes end is none = ap (λ (k : ℕ). wanted bytes (k + 4)) (sym is) ∙ none

pub returns-in_err-count-clause-read : goal.returns-in_err-count-clause-read
returns-in_err-count-clause-read g c bytes h made =
    let p = err_from_is_err_and c.from_residual.result c.from_residual.ensures.1 in
    stops _ _ _ (c.in_err-count.ensures.read bytes h) (p.1 ∙ ap Err p.2)
    (λ f e. or_else-some (wanted bytes (count_byte bytes + 4)) _ f (ap (λ (k : ℕ). wanted bytes (k + 4)) (sym made.end_is) ∙ e))

pub returns-then-count-clause-read : goal.returns-then-count-clause-read
returns-then-count-clause-read g c bytes h made =
    let end = c.args.end in
    let whole = (c.in_ok-count.ensures.read bytes h).right refl in
    let test = count_is bytes c.args.hw.now end c.in_ok-count.count c.count.result made (c.in_ok-count.ensures.number bytes h) (c.count.ensures.count ∙ ap length (ap numbers c.zones.ensures.zones)) in
    refuses bytes _ _ (end + 4) (record { kind = Frame; at = end }) c.fault.result _ c.fault.ensures
    (or_else-none (wanted bytes (count_byte bytes + 4)) _ (there bytes end made.end_is whole.0) ∙ sym test
    ∙ unless-false (leb c.in_ok-count.count c.count.result) Frame end (not_most c.in_ok-count.count c.count.result c.if-count.true))
    refl whole.1

pub returns-clause-read : goal.returns-clause-read
returns-clause-read g c bytes h made =
    let end = c.args.end in
    let whole = (c.in_ok-count.ensures.read bytes h).right refl in
    let test = count_is bytes c.args.hw.now end c.in_ok-count.count c.count.result made (c.in_ok-count.ensures.number bytes h) (c.count.ensures.count ∙ ap length (ap numbers c.zones.ensures.zones)) in
    goes_on _ _ _ _ _
    (or_else-none (wanted bytes (count_byte bytes + 4)) _ (there bytes end made.end_is whole.0) ∙ sym test
    ∙ unless-true (leb c.in_ok-count.count c.count.result) Frame end (le-leb c.in_ok-count.count c.count.result c.if-count.false))
    (at_place bytes (end + 4) (first_record bytes) (g.S.Source.remaining c.read_number.new.source) (ap (λ (k : ℕ). k + 4) made.end_is) whole.1)
