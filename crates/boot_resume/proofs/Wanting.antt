-- What is wanted next for a page of the stream.
use Rattle.std.proofs.Common.{◌≡◌, ◌≢◌, ℕ, zero, suc, ◌/◌, ◌%◌, ◌-◌, ◌<◌, List, ◌∷◌, [], eqb, refl, sym, ap, ◌∙◌, subst, None, Some, Ok, arith}
use Rattle.std.proofs.lemmas.Bool.{cond-false, ne_eqb}
use Rattle.image_format.specs.declared.signature.area.Mark.{Mark}
use Rattle.definitions.specs.Disk.{DiskImage}
use Rattle.definitions.specs.SwapMap.{map_entry, map_link}
use Rattle.boot_resume.specs.Memory.{Names, block_fault}
use Rattle.boot_resume.specs.OnDisk.{map_at, map_cause, map_fault, mark_in, page_at, page_cause}
use Rattle.boot_resume.specs.Calls.{Turn, asks, entry_then, page_then}
use Rattle.boot_resume.specs.Wanted.{HasMapBefore, IsMap, WantsMap, WantsPage, begun_map, entry_of}
use Rattle.boot_resume.specs.declared.call.Call.TheVariants.{Read, Refused}
use Rattle.boot_resume.specs.declared.cause.Cause.{Cause}
use Rattle.boot_resume.specs.declared.machine.Machine.{Machine}
use Rattle.boot_resume.specs.declared.stage.Stage.{Stage}
use Rattle.boot_resume.proofs.Counting.{map_at-link, page_first, page_other, unless_none, unless_some}

-- the map of a page is that of the page before, unless a map begins with it
pub same_map : (m : Machine) (v : DiskImage) (map : List ℕ) (k : ℕ) → HasMapBefore m v map k → (k % 511 ≢ 0) → IsMap m v map (k / 511)
same_map m v map k before not =
    let above : 0 < k = above_zero k not in
    let same : (k - 1) / 511 ≡ k / 511 = omega arith in
    subst (IsMap m v map) same (before above)
  where
    above_zero : (k : ℕ) → (k % 511 ≢ 0) → 0 < k
    above_zero zero not = absurd (not refl)
    above_zero (suc k) not = omega arith

pub entry_named : (m : Machine) (v : DiskImage) (map : List ℕ) (k : ℕ) → IsMap m v map (k / 511) → entry_of map k ≡ page_at m v k
entry_named m v map k is = ap (λ p. map_entry p (k % 511)) is

pub begun_named : (m : Machine) (v : DiskImage) (mark : Mark) (map : List ℕ) (k : ℕ) → mark ≡ mark_in m v → HasMapBefore m v map k → k % 511 ≡ 0 → begun_map mark k map ≡ map_at m v (k / 511)
begun_named m v mark map zero is before first = ap (λ (x : Mark). x.first) is
begun_named m v mark map (suc k) is before first =
    let step : suc k / 511 ≡ suc ((suc k - 1) / 511) = omega arith in
    let some : suc k ≢ 0 = omega arith in
    cond-false (eqb (suc k) 0) mark.first (map_link map) (ne_eqb (suc k) 0 some)
    ∙ ap map_link (before (omega arith)) ∙ sym (map_at-link m v (suc k / 511) ((suc k - 1) / 511) step)

-- a block's fault by what names it
pub page_cause-named : (m : Machine) (v : DiskImage) (mark : Mark) (map : List ℕ) (k : ℕ) → mark ≡ mark_in m v → IsMap m v map (k / 511) → page_cause m v k ≡ block_fault m mark.last (entry_of map k)
page_cause-named m v mark map k is at =
    ap (λ x. block_fault m (mark_in m v).last x) (sym (entry_named m v map k at))
    ∙ ap (λ (x : Mark). block_fault m x.last (entry_of map k)) (sym is)

pub map_cause-named : (m : Machine) (v : DiskImage) (mark : Mark) (j x : ℕ) → mark ≡ mark_in m v → x ≡ map_at m v j → map_cause m v j ≡ map_fault m mark.last j x
map_cause-named m v mark j x is at =
    ap (λ y. map_fault m (mark_in m v).last j y) (sym at)
    ∙ ap (λ (y : Mark). map_fault m y.last j x) (sym is)

module _ (m : Machine) (v : DiskImage) (mark : Mark) (map : List ℕ) (k : ℕ) (stages : Stage × Stage) (rest : List Turn) (is : mark ≡ mark_in m v) (before : HasMapBefore m v map k) where
  pub wants_page : (x : ℕ) → (k % 511 ≢ 0) → Names (block_fault m mark.last (entry_of map k)) (entry_of map k) (Ok x) → WantsPage m v map k stages rest (page_then m v k rest) (record { stage = stages.1; call = Read x })
  wants_page x not named =
      let at : IsMap m v map (k / 511) = same_map m v map k before not in
      let sound : page_cause m v k ≡ None = page_cause-named m v mark map k is at ∙ named.0 in
      record {
        stage = refl;
        call = ap Read (named.1 ∙ entry_named m v map k at);
        left = page_other m v k rest not ∙ unless_none (page_cause m v k) (asks (Read (page_at m v k)) ∷ rest) sound;
        has_map = at;
      }

  pub refuses_page : (why : Cause) → (k % 511 ≢ 0) → block_fault m mark.last (entry_of map k) ≡ Some why → page_then m v k rest ≡ asks (Refused why) ∷ []
  refuses_page why not fault =
      let at : IsMap m v map (k / 511) = same_map m v map k before not in
      page_other m v k rest not
      ∙ unless_some (page_cause m v k) why (asks (Read (page_at m v k)) ∷ rest) (page_cause-named m v mark map k is at ∙ fault)

  pub wants_map : (j at x : ℕ) → j ≡ k / 511 → at ≡ begun_map mark k map → k % 511 ≡ 0 → Names (map_fault m mark.last j at) at (Ok x) → WantsMap m v k stages rest (page_then m v k rest) (record { stage = stages.0; call = Read x })
  wants_map j at x place begun first named =
      let here : at ≡ map_at m v (k / 511) = begun ∙ begun_named m v mark map k is before first in
      let sound : map_cause m v (k / 511) ≡ None = map_cause-named m v mark (k / 511) at is here ∙ ap (λ i. map_fault m mark.last i at) (sym place) ∙ named.0 in
      record {
        stage = refl;
        call = ap Read (named.1 ∙ here);
        left = page_first m v k rest first ∙ unless_none (map_cause m v (k / 511)) (asks (Read (map_at m v (k / 511))) ∷ entry_then m v k rest) sound;
      }

  pub refuses_map : (j at : ℕ) (why : Cause) → j ≡ k / 511 → at ≡ begun_map mark k map → k % 511 ≡ 0 → map_fault m mark.last j at ≡ Some why → page_then m v k rest ≡ asks (Refused why) ∷ []
  refuses_map j at why place begun first fault =
      let here : at ≡ map_at m v (k / 511) = begun ∙ begun_named m v mark map k is before first in
      page_first m v k rest first
      ∙ unless_some (map_cause m v (k / 511)) why (asks (Read (map_at m v (k / 511))) ∷ entry_then m v k rest)
      (map_cause-named m v mark (k / 511) at is here ∙ ap (λ i. map_fault m mark.last i at) (sym place) ∙ fault)
