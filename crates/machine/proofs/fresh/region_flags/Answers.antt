use Rattle.std.proofs.Common.{◌≡◌, ℕ, Option, sym, ap, ◌∙◌, rules, tests, Bor}
use Rattle.std.proofs.lemmas.Iterator.{YieldsList-from_slice}
use Rattle.std.proofs.lemmas.Iterator.Search.{find_from_yields_List}
use Rattle.std.specs.List.{find}
use Rattle.std.specs.Option.{option_map}
use Rattle.plain_machine.specs.FreshMemory.{region_flags}
use Rattle.machine.specs.HardFault.{is_in_region}
use Rattle.machine.proofs.fresh.region_flags.Goals as goal

pub returns-in-Some : goal.returns-in-Some
returns-in-Some c =
    let found : option_map (λ (r : Bor (ℕ × ℕ × ℕ)). r.now) c.find.result ≡ find (λ r. is_in_region r c.args.p) c.args.regions.now =
    find_from_yields_List (λ r. is_in_region r c.args.p) _ _ c.find.result c.find.ensures.ran (YieldsList-from_slice c.args.regions.now cc) (λ x b q k. search (rules, tests)) in
    ap (λ (o : Option (Bor (ℕ × ℕ × ℕ))). region_flags (option_map (λ r. r.now) o)) (sym c.in-Some.is) ∙ ap region_flags found

pub returns-in-None : goal.returns-in-None
returns-in-None c =
    let found : option_map (λ (r : Bor (ℕ × ℕ × ℕ)). r.now) c.find.result ≡ find (λ r. is_in_region r c.args.p) c.args.regions.now =
    find_from_yields_List (λ r. is_in_region r c.args.p) _ _ c.find.result c.find.ensures.ran (YieldsList-from_slice c.args.regions.now cc) (λ x b q k. search (rules, tests)) in
    ap (λ (o : Option (Bor (ℕ × ℕ × ℕ))). region_flags (option_map (λ r. r.now) o)) (sym c.in-None.is) ∙ ap region_flags found
