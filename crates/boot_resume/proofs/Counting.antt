-- The calls from a page of the stream on, and from a number on.
use Rattle.std.proofs.Common.{◌≡◌, ◌≢◌, ℕ, zero, suc, ◌+◌, ◌/◌, ◌%◌, ◌-◌, ◌<◌, ◌≤◌, List, [], ◌∷◌, Bool, true, false, cond, eqb, refl, ap, ◌∙◌, Option, Some, None, arith, add-one}
use Rattle.std.proofs.lemmas.Bool.{cond-true, cond-false, eq-eqb, ne_eqb}
use Rattle.definitions.specs.Disk.{DiskImage, block}
use Rattle.definitions.specs.SwapMap.{map_link}
use Rattle.boot_resume.specs.OnDisk.{map_at, saved_in, meta_in, has_no_data, data_before, number_cause, content_cause}
use Rattle.boot_resume.specs.Calls.{Turn, asks, unless, map_then, entry_then, page_then, again_then, data_then, places, handing, handed_from, listing, listed_from}
use Rattle.boot_resume.specs.Standing.{from_number}
use Rattle.boot_resume.specs.declared.call.Call.TheVariants.{Done, Refused}
use Rattle.boot_resume.specs.declared.cause.Cause.{Cause}
use Rattle.boot_resume.specs.declared.machine.Machine.{Machine}

pub unless_none : (fault : Option Cause) (rest : List Turn) → fault ≡ None → unless fault rest ≡ rest
unless_none fault rest is = ap (λ x. unless x rest) is

pub unless_some : (fault : Option Cause) (why : Cause) (rest : List Turn) → fault ≡ Some why → unless fault rest ≡ asks (Refused why) ∷ []
unless_some fault why rest is = ap (λ x. unless x rest) is

listing_more : (m : Machine) (v : DiskImage) (k more : ℕ) → listing m v k (suc more) ≡ page_then m v k (unless (content_cause m v k) (listing m v (k + 1) more))
unfolding listing
listing_more m v k more = refl

listing_end : (m : Machine) (v : DiskImage) (k : ℕ) → listing m v k 0 ≡ handed_from m v 0
unfolding listing
listing_end m v k = refl

handing_more : (m : Machine) (v : DiskImage) (i more : ℕ) → handing m v i (suc more) ≡ again_then m v i (unless (number_cause m v i) (data_then m v i (places m v i ∷ handing m v (i + 1) more)))
unfolding handing
handing_more m v i more = refl

handing_end : (m : Machine) (v : DiskImage) (i : ℕ) → handing m v i 0 ≡ asks (Done (saved_in m v)) ∷ []
unfolding handing
handing_end m v i = refl

pub listed_more : (m : Machine) (v : DiskImage) (k : ℕ) → k ≤ meta_in m v → listed_from m v k ≡ page_then m v k (unless (content_cause m v k) (listed_from m v (k + 1)))
listed_more m v k le =
    let n : ℕ = meta_in m v in
    let here : n + 1 - k ≡ suc (n + 1 - (k + 1)) = omega arith in
    ap (λ x. listing m v k x) here ∙ listing_more m v k (n + 1 - (k + 1))

pub listed_end : (m : Machine) (v : DiskImage) (k : ℕ) → k ≡ meta_in m v + 1 → listed_from m v k ≡ handed_from m v 0
listed_end m v k is =
    let none : meta_in m v + 1 - k ≡ 0 = omega arith in
    ap (λ x. listing m v k x) none ∙ listing_end m v k

pub handed_more : (m : Machine) (v : DiskImage) (i : ℕ) → i < saved_in m v → handed_from m v i ≡ again_then m v i (from_number m v i)
handed_more m v i lt =
    let n : ℕ = saved_in m v in
    let here : n - i ≡ suc (n - (i + 1)) = omega arith in
    ap (λ x. handing m v i x) here ∙ handing_more m v i (n - (i + 1))

pub handed_end : (m : Machine) (v : DiskImage) (i : ℕ) → i ≡ saved_in m v → handed_from m v i ≡ asks (Done (saved_in m v)) ∷ []
handed_end m v i is =
    let none : saved_in m v - i ≡ 0 = omega arith in
    ap (λ x. handing m v i x) none ∙ handing_end m v i

pub again_first : (m : Machine) (v : DiskImage) (i : ℕ) (rest : List Turn) → i % 512 ≡ 0 → again_then m v i rest ≡ map_then m v ((1 + i / 512) / 511) (entry_then m v (1 + i / 512) rest)
again_first m v i rest is = cond-true (eqb (i % 512) 0) (map_then m v ((1 + i / 512) / 511) (entry_then m v (1 + i / 512) rest)) rest (eq-eqb (i % 512) 0 is)

pub again_other : (m : Machine) (v : DiskImage) (i : ℕ) (rest : List Turn) → (i % 512 ≢ 0) → again_then m v i rest ≡ rest
again_other m v i rest not = cond-false (eqb (i % 512) 0) (map_then m v ((1 + i / 512) / 511) (entry_then m v (1 + i / 512) rest)) rest (ne_eqb (i % 512) 0 not)

pub page_first : (m : Machine) (v : DiskImage) (k : ℕ) (rest : List Turn) → k % 511 ≡ 0 → page_then m v k rest ≡ map_then m v (k / 511) (entry_then m v k rest)
page_first m v k rest is = cond-true (eqb (k % 511) 0) (map_then m v (k / 511) (entry_then m v k rest)) (entry_then m v k rest) (eq-eqb (k % 511) 0 is)

pub page_other : (m : Machine) (v : DiskImage) (k : ℕ) (rest : List Turn) → (k % 511 ≢ 0) → page_then m v k rest ≡ entry_then m v k rest
page_other m v k rest not = cond-false (eqb (k % 511) 0) (map_then m v (k / 511) (entry_then m v k rest)) (entry_then m v k rest) (ne_eqb (k % 511) 0 not)

-- a map after the first is the link of the one before
pub map_at-link : (m : Machine) (v : DiskImage) (j i : ℕ) → j ≡ suc i → map_at m v j ≡ map_link (block v (map_at m v i))
map_at-link m v j i is = ap (map_at m v) is

data_before-step : (m : Machine) (v : DiskImage) (j : ℕ) → data_before m v (suc j) ≡ cond (has_no_data m v j) (data_before m v j) (suc (data_before m v j))
data_before-step m v j = refl

pub data_before-none : (m : Machine) (v : DiskImage) (j : ℕ) → has_no_data m v j ≡ true → data_before m v (j + 1) ≡ data_before m v j
data_before-none m v j is = rw add-one (cond-true (has_no_data m v j) (data_before m v j) (suc (data_before m v j)) is)

pub data_before-one : (m : Machine) (v : DiskImage) (j : ℕ) → has_no_data m v j ≡ false → data_before m v (j + 1) ≡ data_before m v j + 1
data_before-one m v j is =
    let step : data_before m v (suc j) ≡ suc (data_before m v j) = cond-false (has_no_data m v j) (data_before m v j) (suc (data_before m v j)) is in
    rw (add-one, add-one) step

-- no more than there are numbers
pub data_before-le : (m : Machine) (v : DiskImage) (j : ℕ) → data_before m v j ≤ j
data_before-le m v zero = omega arith
data_before-le m v (suc j) = at_most (has_no_data m v j) (data_before m v j) (data_before-le m v j) where
  at_most : {k : ℕ} (b : Bool) (d : ℕ) → d ≤ k → cond b d (suc d) ≤ suc k
  at_most true d le = omega arith
  at_most false d le = omega arith
