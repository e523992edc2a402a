use Rattle.std.proofs.Common.{◌≡◌, ℕ, ◌&&◌, Bool, List, Err, refl, sym, ap, ◌∙◌}
use Rattle.std.proofs.lemmas.Result.{err_from_is_err_and}
use Rattle.std.specs.Prelude.{nat_le}
use Rattle.dump_file.specs.Dump.{wanted}
use Rattle.dump_file.specs.Fields.{zone_count}
use Rattle.dump_file.specs.declared.dump.DumpKind.TheVariants.{Zone}
use Rattle.dump_file.proofs.Chains.{or_else-none, or_else-some, unless-false, unless-true}
use Rattle.dump_file.proofs.Refused.{goes_on, refuses, stops}
use Rattle.dump_file.proofs.front.read_zone_count.Goals as goal

pub returns-in_err-pair-clause-read : goal.returns-in_err-pair-clause-read
returns-in_err-pair-clause-read g c bytes h =
    let p = err_from_is_err_and c.from_residual.result c.from_residual.ensures.1 in
    stops _ _ _ (c.in_err-pair.ensures.read bytes h) (p.1 ∙ ap Err p.2) (λ f e. or_else-some (wanted bytes 32) _ f e)

-- what was read passes the test if and only if the field does
tested : (bytes : List ℕ) (pair : ℕ × ℕ) (n : ℕ) (b : Bool) → pair ≡ (n, zone_count bytes) → b ≡ (nat_le 1 pair.1 && nat_le pair.1 16) → (nat_le 1 (zone_count bytes) && nat_le (zone_count bytes) 16) ≡ b
tested bytes pair n b is tells = ap (λ (p : ℕ × ℕ). nat_le 1 p.1 && nat_le p.1 16) (sym is) ∙ sym tells

pub returns-then-not-is_zone_count-clause-read : goal.returns-then-not-is_zone_count-clause-read
returns-then-not-is_zone_count-clause-read g c bytes h =
    let whole = (c.in_ok-pair.ensures.read bytes h).right refl in
    let test = tested bytes c.in_ok-pair.pair _ c.is_zone_count.result (c.in_ok-pair.ensures.pair bytes h) c.is_zone_count.ensures.is in
    refuses bytes _ _ 32 (record { kind = Zone; at = 28 }) c.fault.result _ c.fault.ensures
    (or_else-none (wanted bytes 32) _ whole.0 ∙ unless-false _ Zone 28 (test ∙ c.if-not-is_zone_count.true)) refl whole.1

pub returns-clause-read : goal.returns-clause-read
returns-clause-read g c bytes h =
    let whole = (c.in_ok-pair.ensures.read bytes h).right refl in
    let test = tested bytes c.in_ok-pair.pair _ c.is_zone_count.result (c.in_ok-pair.ensures.pair bytes h) c.is_zone_count.ensures.is in
    goes_on _ _ _ _ _ (or_else-none (wanted bytes 32) _ whole.0 ∙ unless-true _ Zone 28 (test ∙ c.if-not-is_zone_count.false)) whole.1
