-- What a refused write, a sync and a restart leave of the expanded image.
use Rattle.std.proofs.Common.{◌≡◌, ℕ, zero, suc, ◌+◌, ◌-◌, ◌*◌, ◌<◌, ◌≤◌, true, false, List, [], ◌∷◌, length, get_or, Contains, Option, Some, None, IfSome, refl, sym, ap, subst, ◌∙◌, inl, inr, arith}
use Rattle.std.proofs.lemmas.Bool.{cases_eq, cases_lt, false≢true}
use Rattle.std.specs.Prelude.{IsSome, IsNone, is_some}
use Rattle.std.specs.Option.{ForSome}
use Rattle.definitions.specs.Disk.{Content, DiskImage, Changes, FailsToWrite, HasRisen, IsContent, IsImage, Restarts, Sector, Syncs, as_it_reads, last_count, sector, sector_bytes, settled}
use Rattle.definitions.proofs.DiskLaws.{IsImage-as_it_reads, as_it_reads-settled, length-settled}
use Rattle.sector_disk.specs.Recorded.{with_live, written}
use Rattle.sector_disk.specs.RecordedLaws.{length-written, written-FailsToWrite, written-others, written-within}
use Rattle.overlay_disk.specs.DiskState.{RisesBelowLast}
use Rattle.expanded_disk.specs.Keeps.{FailsBelow, FailsWith}
use Rattle.expanded_disk.specs.Laid.{expanded, marred, plain_image}
use Rattle.expanded_disk.specs.declared.refused.Refused.{Refused}

-- a content of one image has one candidate for each sector
count-settled : (v : DiskImage) (s : ℕ) → s < length v → length (sector (settled v) s).candidates ≡ 1
count-settled [] s lt = absurd (omega arith)
count-settled (x ∷ v) zero lt = refl
count-settled (x ∷ v) (suc s) lt = count-settled v s (omega arith)

one_more : (b : ℕ) (page : List ℕ) (c : Content) (j : ℕ) → 8 * b + 8 ≤ length c → j < 8 →
    sector (written (λ s. true) b page c) (8 * b + j) ≡ with_live (sector_bytes page j) (sector c (8 * b + j))
one_more b page c j le lt = written-within (λ s. true) b page c j le lt

-- a disk that took a write has a sector with two candidates
pub differs : (b : ℕ) (page : List ℕ) (v w : DiskImage) → 8 * b + 8 ≤ length (settled v) → written (λ s. true) b page (settled v) ≡ settled w → ⊥
differs b page v w le is =
    let c = settled v in
    let few : 0 < 8 = omega arith in
    let many : length (sector (written (λ s. true) b page c) (8 * b + 0)).candidates ≡ suc (length (sector c (8 * b + 0)).candidates) = ap (λ (x : Sector). length x.candidates) (one_more b page c 0 le few) in
    let size : length w ≡ length v = sym (length-settled w) ∙ sym (ap length is) ∙ length-written (λ s. true) b page c ∙ length-settled v in
    let old : length (sector c (8 * b + 0)).candidates ≡ 1 = count-settled v (8 * b + 0) (omega (arith, le, length-settled v)) in
    let new : length (sector (settled w) (8 * b + 0)).candidates ≡ 1 = count-settled w (8 * b + 0) (omega (arith, le, length-settled v, size)) in
    let same : length (sector (written (λ s. true) b page c) (8 * b + 0)).candidates ≡ length (sector (settled w) (8 * b + 0)).candidates = ap (λ (x : Content). length (sector x (8 * b + 0)).candidates) is in
    omega (arith, many, old, new, same)

some_is : (x y : Content) → Some x ≡ Some y → x ≡ y
some_is x y is = cc

long_enough : (n b : ℕ) (c : Content) → b < n → IsContent n c → 8 * b + 8 ≤ length c
long_enough n b c lt whole = omega (arith, whole.size)

-- where the plain image is held, no write was refused
pub unmarred : (n header at : ℕ) (refused : Option Refused) (content : Option Content) → IsSome content → ForSome refused (λ r. r.block < n) → IfSome (expanded at content) (IsContent n) →
    marred refused (expanded at content) ≡ expanded header content → IsNone refused
unmarred n header at refused None tells inside whole is = absurd (false≢true tells)
unmarred n header at None (Some held) tells inside whole is = refl
unmarred n header at (Some r) (Some held) tells inside whole is =
    let v = plain_image (as_it_reads held) at in
    let w = plain_image (as_it_reads held) header in
    absurd (differs r.block r.page v w (long_enough n r.block (settled v) (inside r refl) whole) (some_is (written (λ s. true) r.block r.page (settled v)) (settled w) is))

pub read_through : (P : Content → Type 0) (refused : Option Refused) (content : Option Content) → is_some refused ≡ false → IfSome content P → IfSome (marred refused content) P
read_through P None content none is = is
read_through P (Some r) content none is = cc

-- a write

kept_as : (b : ℕ) (page : List ℕ) (content : Option Content) → Changes (FailsToWrite b page) content content
kept_as b page None = tt
kept_as b page (Some held) = record {
  others = record { size = refl; below = λ s lt. refl; above = λ s le. refl };
  within = λ j lt. inl refl;
}

first_refused : (n b : ℕ) (page : List ℕ) (content : Option Content) → b < n → IfSome content (IsContent n) → (r : Refused) → r.block ≡ b → r.page ≡ page →
    Changes (FailsToWrite b page) content (marred (Some r) content)
first_refused n b page None lt whole r at is = tt
first_refused n b page (Some held) lt whole r at is =
    rw (← at, ← is) (written-FailsToWrite (λ s. true) r.block r.page held (long_enough n r.block held (omega arith) whole))

pub refuses_first : (n b : ℕ) (page : List ℕ) (refused : Option Refused) (content : Option Content) → is_some refused ≡ false → b < n → IfSome content (IsContent n) → (r : Refused) → r.block ≡ b → r.page ≡ page →
    Changes (FailsToWrite b page) (marred refused content) (marred (Some r) content)
refuses_first n b page None content none lt whole r at is = first_refused n b page content lt whole r at is
refuses_first n b page (Some old) content none lt whole r at is = cc

pub refuses_again : (b : ℕ) (page : List ℕ) (refused : Option Refused) (content : Option Content) → Changes (FailsToWrite b page) (marred refused content) (marred refused content)
refuses_again b page refused content = kept_as b page (marred refused content)

-- a sync

syncs : (header : ℕ) (content : Option Content) → Changes Syncs (expanded header content) (expanded header content)
syncs header None = tt
syncs header (Some held) = ap settled (sym (as_it_reads-settled (plain_image (as_it_reads held) header)))

pub syncs_through : (header : ℕ) (refused : Option Refused) (content : Option Content) → is_some refused ≡ false → Changes Syncs (marred refused (expanded header content)) (marred refused (expanded header content))
syncs_through header None content none = syncs header content
syncs_through header (Some r) content none = cc

-- a restart

pushed : (bytes : List ℕ) (x : Sector) (y : List ℕ) → Contains x.candidates y → Contains (with_live bytes x).candidates y
pushed bytes x y (k, lt, is) = (suc k, omega arith, is)

in_block : (b : ℕ) (page : List ℕ) (c : Content) (s j : ℕ) (y : List ℕ) → 8 * b + 8 ≤ length c → j < 8 → 8 * b + j ≡ s → Contains (sector c s).candidates y → Contains (sector (written (λ s. true) b page c) s).candidates y
in_block b page c s j y le lt at has =
    let there : Contains (sector c (8 * b + j)).candidates y = subst (λ (k : ℕ). Contains (sector c k).candidates y) (sym at) has in
    subst (λ (k : ℕ). Contains (sector (written (λ s. true) b page c) k).candidates y) at
    (subst (λ (x : Sector). Contains x.candidates y) (sym (one_more b page c j le lt)) (pushed (sector_bytes page j) (sector c (8 * b + j)) y there))

still_in : (b : ℕ) (page : List ℕ) (c : Content) (s : ℕ) (y : List ℕ) → 8 * b + 8 ≤ length c → Contains (sector c s).candidates y → Contains (sector (written (λ s. true) b page c) s).candidates y
still_in b page c s y le has =
    let others = written-others (λ s. true) b page c in
    elim (cases_lt s (8 * b)) [
      | inl lt ↦ subst (λ (x : Sector). Contains x.candidates y) (sym (others.below s lt)) has
      | inr ge ↦ elim (cases_lt s (8 * b + 8)) [
        | inl lt ↦ in_block b page c s (s - 8 * b) y le (omega arith) (omega arith) has
        | inr past ↦ subst (λ (x : Sector). Contains x.candidates y) (sym (others.above s past)) has
      ]
    ]

image_of_itself : (n : ℕ) (v : DiskImage) → IsContent n (settled v) → IsImage (settled v) v
image_of_itself n v whole = subst (IsImage (settled v)) (as_it_reads-settled v) (IsImage-as_it_reads n (settled v) whole)

pub restarts : (n header : ℕ) (refused : Option Refused) (content : Option Content) → ForSome refused (λ r. r.block < n) → IfSome (expanded header content) (IsContent n) →
    Changes Restarts (marred refused (expanded header content)) (expanded header content)
restarts n header None None inside whole = tt
restarts n header None (Some held) inside whole =
    let v = plain_image (as_it_reads held) header in
    (v, image_of_itself n v whole, refl)
restarts n header (Some r) None inside whole = tt
restarts n header (Some r) (Some held) inside whole =
    let v = plain_image (as_it_reads held) header in
    let old = image_of_itself n v whole in
    let le = long_enough n r.block (settled v) (inside r refl) whole in
    let size = length-written (λ s. true) r.block r.page (settled v) in
    (v, record { size = old.size ∙ sym size; chosen = λ s lt. still_in r.block r.page (settled v) s (get_or v s []) le (old.chosen s (omega (arith, size))) }, refl)

-- what the faults come of

pub fails_with : (before now faults : ℕ) (content : Option Content) → FailsBelow content before now → FailsWith content before now faults
fails_with before now faults content below some tells = risen (below tells) where
  risen : RisesBelowLast before now → HasRisen before now
  risen rises =
      elim (cases_eq now last_count) [
        | inl last ↦ inr last
        | inr other ↦ inl (rises other)
      ]
