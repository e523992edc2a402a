-- What recorded calls make of a disk's content.
use Rattle.std.proofs.Common.{◌≡◌, ℕ, ◌+◌, ◌-◌, ◌*◌, ◌<◌, ◌≤◌, ◌⊎◌, zero, suc, Bool, true, false, cond, ◌&&◌, nat_le}
use Rattle.std.proofs.Common.{nat_lt, All, List, [], ◌∷◌, ◌++◌, length, drop, get_or, Contains, refl, sym, ap, ◌∙◌, inl}
use Rattle.std.proofs.Common.{inr, subst, arith}
use Rattle.std.proofs.lemmas.List.{length-take-le, length-map, length-drop, get_or-map, get_or_default, get_or_past}
use Rattle.std.proofs.lemmas.List.FromFn.{length-map-range_with_len, get_or-map-range_with_len}
use Rattle.std.proofs.lemmas.List.Sums.{fold_push}
use Rattle.std.proofs.lemmas.Bool.{cases_lt, lt-ltb, le-ltb, le-leb, lt-leb, and_left, and_right, and_from, and_parts}
use Rattle.std.proofs.lemmas.Bool.{leb-true, ltb-true, cond_both}
use Rattle.std.proofs.lemmas.List.Elements.{All-head, All-tail}
use Rattle.std.specs.List.{fold}
use Rattle.definitions.specs.Disk.{Sector, Content, DiskImage, no_sector, sector, as_it_reads, settled, sector_bytes}
use Rattle.definitions.specs.Disk.{IsSector, IsContent, SameOutside, TakesBytes, Writes}
use Rattle.definitions.specs.Disk.{FailsToWrite}
use Rattle.definitions.proofs.DiskLaws.{length-settled, length-as_it_reads}
use Rattle.sector_disk.specs.Recorded.{lies_in, with_live, sector_after, written, after, held_after}
use Rattle.sector_disk.specs.Recorded.{as_synced, page_size}
use Rattle.sector_disk.specs.Sectors.{picks, AreSectors}
use Rattle.sector_disk.specs.declared.recorded.Recorded.{Recorded}
use Rattle.sector_disk.specs.declared.recorded.Recorded.TheVariants.{Write, FailedWrite, Sync, FailedSync}

-- A write, sector by sector.

pub length-written : (takes : ℕ → Bool) (b : ℕ) (page : List ℕ) (c : Content) →
    length (written takes b page c) ≡ length c
unfolding written
length-written takes b page c = length-map-range_with_len (sector_after takes b page c) 0 (length c)

at_written : (takes : ℕ → Bool) (b : ℕ) (page : List ℕ) (c : Content) (s : ℕ) (e : Sector) → s < length c →
    get_or (written takes b page c) s e ≡ sector_after takes b page c s
unfolding written
at_written takes b page c s e lt =
    get_or-map-range_with_len (sector_after takes b page c) 0 (length c) s s e lt (omega arith)

not_in : (takes : ℕ → Bool) (b : ℕ) (page : List ℕ) (c : Content) (s : ℕ) → lies_in b s ≡ false →
    sector_after takes b page c s ≡ sector c s
not_in takes b page c s h =
    ap (λ t. cond (t && takes s) (with_live (sector_bytes page (s - 8 * b)) (sector c s)) (sector c s)) h

other_sector : (takes : ℕ → Bool) (b : ℕ) (page : List ℕ) (c : Content) (s : ℕ) → lies_in b s ≡ false →
    sector (written takes b page c) s ≡ sector c s
other_sector takes b page c s h =
    elim (cases_lt s (length c)) [
      | inl lt ↦ at_written takes b page c s no_sector lt ∙ not_in takes b page c s h
      | inr ge ↦ get_or_past (written takes b page c) s no_sector (omega (arith, length-written takes b page c)) ∙ sym
          (get_or_past c s no_sector ge)
    ]

pub written-others : (takes : ℕ → Bool) (b : ℕ) (page : List ℕ) (c : Content) → SameOutside b c (written takes b page c)
written-others takes b page c = record {
  size = length-written takes b page c;
  below = λ s lt. other_sector takes b page c s
      (and_left (nat_le (8 * b) s) (nat_lt s (8 * b + 8)) (lt-leb (8 * b) s lt));
  above = λ s ge. other_sector takes b page c s
      (and_right (nat_le (8 * b) s) (nat_lt s (8 * b + 8)) (le-ltb s (8 * b + 8) ge));
}

in_block : (b j : ℕ) → j < 8 → lies_in b (8 * b + j) ≡ true
in_block b j lt =
    and_from (nat_le (8 * b) (8 * b + j)) (nat_lt (8 * b + j) (8 * b + 8)) (le-leb (8 * b) (8 * b + j) (omega arith))
    (lt-ltb (8 * b + j) (8 * b + 8) (omega arith))

pub written-within : (takes : ℕ → Bool) (b : ℕ) (page : List ℕ) (c : Content) (j : ℕ) → 8 * b + 8 ≤ length c → j < 8 →
    sector (written takes b page c) (8 * b + j) ≡ cond (takes (8 * b + j))
    (with_live (sector_bytes page j) (sector c (8 * b + j))) (sector c (8 * b + j))
written-within takes b page c j le lt =
    let place : 8 * b + j - 8 * b ≡ j = omega arith in
    at_written takes b page c (8 * b + j) no_sector (omega arith)
    ∙ ap (λ t. cond (t
    && takes (8 * b + j)) (with_live (sector_bytes page (8 * b + j - 8 * b)) (sector c (8 * b + j)))
    (sector c (8 * b + j))) (in_block b j lt)
    ∙ ap (λ i. cond (takes (8 * b + j)) (with_live (sector_bytes page i) (sector c (8 * b + j))) (sector c (8 * b + j)))
    place

among : (bytes : List ℕ) (xs : List (List ℕ)) (z : List ℕ) → Contains (bytes ∷ xs) z → Contains xs z ⊎ (z ≡ bytes)
among bytes xs z (zero, lt, q) = inr (sym q)
among bytes xs z (suc k, lt, q) = inl (k, omega arith, q)

with_live_takes : (bytes : List ℕ) (x y : Sector) → y ≡ with_live bytes x → TakesBytes bytes x y
with_live_takes bytes x y e =
    subst (TakesBytes bytes x) (sym e) (record { live = refl; candidates = among bytes x.candidates })

pub written-Writes : (b : ℕ) (page : List ℕ) (c : Content) → 8 * b + 8 ≤ length c →
    Writes b page c (written (λ s. true) b page c)
written-Writes b page c le = record {
  others = written-others (λ s. true) b page c;
  within = λ j lt. with_live_takes (sector_bytes page j) (sector c (8 * b + j))
      (sector (written (λ s. true) b page c) (8 * b + j)) (written-within (λ s. true) b page c j le lt);
}

perhaps : (t : Bool) (bytes : List ℕ) (x y : Sector) → y ≡ cond t (with_live bytes x) x → (y ≡ x) ⊎ TakesBytes bytes x y
perhaps true bytes x y e = inr (with_live_takes bytes x y e)
perhaps false bytes x y e = inl e

pub written-FailsToWrite : (takes : ℕ → Bool) (b : ℕ) (page : List ℕ) (c : Content) → 8 * b + 8 ≤ length c →
    FailsToWrite b page c (written takes b page c)
written-FailsToWrite takes b page c le = record {
  others = written-others takes b page c;
  within = λ j lt. perhaps (takes (8 * b + j)) (sector_bytes page j) (sector c (8 * b + j))
      (sector (written takes b page c) (8 * b + j)) (written-within takes b page c j le lt);
}

-- What a disk with `blocks` blocks holds after any calls.

IsSector-with_live : (bytes : List ℕ) (x : Sector) → length bytes ≡ 512 → IsSector x → IsSector (with_live bytes x)
IsSector-with_live bytes x size whole = record {
  each = each_more bytes x.candidates size whole.each;
  live = (0, omega arith, refl);
} where
  each_more : (bytes : List ℕ) (xs : List (List ℕ)) → length bytes ≡ 512 → All (λ y. length y ≡ 512) xs →
      All (λ y. length y ≡ 512) (bytes ∷ xs)
  each_more bytes xs size h zero d lt = size
  each_more bytes xs size h (suc k) d lt = h k d (omega arith)

length-sector_bytes : (page : List ℕ) (j : ℕ) → length page ≡ 4096 → j < 8 → length (sector_bytes page j) ≡ 512
length-sector_bytes page j size lt =
    length-take-le 512 (drop (512 * j) page) (omega (arith, length-drop (512 * j) page))

block_of : (b s : ℕ) → lies_in b s ≡ true → s - 8 * b < 8
block_of b s h =
    let (low, high) = and_parts (nat_le (8 * b) s) (nat_lt s (8 * b + 8)) h in
    omega (arith, leb-true (8 * b) s low, ltb-true s (8 * b + 8) high)

IsSector-after : (takes : ℕ → Bool) (b : ℕ) (page : List ℕ) (c : Content) (s : ℕ) → length page ≡ 4096 →
    IsSector (sector c s) → IsSector (sector_after takes b page c s)
IsSector-after takes b page c s size whole =
    cond_both (lies_in b s && takes s) (with_live (sector_bytes page (s - 8 * b)) (sector c s)) (sector c s) IsSector
    (λ e. IsSector-with_live (sector_bytes page (s - 8 * b)) (sector c s)
    (length-sector_bytes page (s - 8 * b) size (block_of b s (and_parts (lies_in b s) (takes s) e).0)) whole)
    (λ e. whole)

IsContent-written : (blocks : ℕ) (takes : ℕ → Bool) (b : ℕ) (page : List ℕ) (c : Content) → length page ≡ 4096 →
    IsContent blocks c → IsContent blocks (written takes b page c)
IsContent-written blocks takes b page c size whole = record {
  size = length-written takes b page c ∙ whole.size;
  sectors = λ s d lt.
      let inside : s < length c = omega (arith, length-written takes b page c) in
      subst IsSector (sym (at_written takes b page c s d inside))
      (IsSector-after takes b page c s size (whole.sectors s no_sector inside));
}

one_whole : (x : List ℕ) → length x ≡ 512 → IsSector (record { live = x; candidates = x ∷ [] })
one_whole x size = record { each = one_each x size; live = (0, omega arith, refl) } where
  one_each : (x : List ℕ) → length x ≡ 512 → All (λ y. length y ≡ 512) (x ∷ [])
  one_each x size zero d lt = size
  one_each x size (suc k) d lt = absurd (omega arith)

pub IsContent-settled : (blocks : ℕ) (v : DiskImage) → AreSectors (8 * blocks) v → IsContent blocks (settled v)
IsContent-settled blocks v whole = record {
  size = length-settled v ∙ whole.size;
  sectors = λ s d lt.
      let inside : s < length v = omega (arith, length-settled v) in
      subst IsSector (sym (get_or-map (λ bytes. record {
        live = bytes;
        candidates = bytes
            ∷ [];
      }) v s [] d inside)) (one_whole (get_or v s []) (whole.whole s [] inside));
}

-- the live bytes, and the oldest candidate
pub live_at : (c : Content) (s : ℕ) → get_or (as_it_reads c) s [] ≡ (sector c s).live
live_at [] s = refl
live_at (x ∷ c) zero = refl
live_at (x ∷ c) (suc s) = live_at c s

oldest : Sector → List ℕ
oldest x = get_or x.candidates (length x.candidates - 1) []

pub synced_at : (c : Content) (s : ℕ) →
    get_or (as_synced c) s [] ≡ get_or (sector c s).candidates (length (sector c s).candidates - 1) []
synced_at [] s = refl
synced_at (x ∷ c) zero = refl
synced_at (x ∷ c) (suc s) = synced_at c s

pub length-as_synced : (c : Content) → length (as_synced c) ≡ length c
length-as_synced c = length-map c _

pub as_synced-settled : (v : DiskImage) → as_synced (settled v) ≡ v
as_synced-settled [] = refl
as_synced-settled (x ∷ v) = ap (λ (w : DiskImage). x ∷ w) (as_synced-settled v)

live_whole : (x : Sector) → IsSector x → length x.live ≡ 512
live_whole x whole = has_length x.candidates x.live whole.each whole.live where
  has_length : (xs : List (List ℕ)) (y : List ℕ) → All (λ z. length z ≡ 512) xs → Contains xs y → length y ≡ 512
  has_length xs y h (k, lt, e) = ap length (sym e) ∙ h k y lt

pub reads_whole : (blocks : ℕ) (c : Content) → IsContent blocks c → AreSectors (8 * blocks) (as_it_reads c)
reads_whole blocks c whole = record {
  size = length-as_it_reads c ∙ whole.size;
  whole = λ s d lt.
      let inside : s < length c = omega (arith, length-as_it_reads c) in
      ap length (get_or_default (as_it_reads c) s d [] lt ∙ live_at c s) ∙ live_whole (sector c s)
      (whole.sectors s no_sector inside);
}

oldest_whole : (xs : List (List ℕ)) (y : List ℕ) → All (λ z. length z ≡ 512) xs → Contains xs y →
    length (get_or xs (length xs - 1) []) ≡ 512
oldest_whole [] y each (k, lt, e) = absurd (omega arith)
oldest_whole (x ∷ xs) y each h = each (length (x ∷ xs) - 1) [] (omega arith)

pub synced_whole : (blocks : ℕ) (c : Content) → IsContent blocks c → AreSectors (8 * blocks) (as_synced c)
synced_whole blocks c whole = record {
  size = length-as_synced c ∙ whole.size;
  whole = λ s d lt.
      let inside : s < length c = omega (arith, length-as_synced c) in
      let one = whole.sectors s no_sector inside in
      ap length (get_or_default (as_synced c) s d [] lt ∙ synced_at c s) ∙ oldest_whole (sector c s).candidates
      (sector c s).live one.each one.live;
}

pub IsContent-after : (blocks : ℕ) (c : Content) (r : Recorded) → page_size r ≡ 4096 → IsContent blocks c →
    IsContent blocks (after c r)
IsContent-after blocks c (Write b page) size whole = IsContent-written blocks (λ s. true) b page c size whole
IsContent-after blocks c (FailedWrite b page pick) size whole =
    IsContent-written blocks (picks pick) b page c size whole
IsContent-after blocks c Sync size whole = IsContent-settled blocks (as_it_reads c) (reads_whole blocks c whole)
IsContent-after blocks c FailedSync size whole = whole

pub IsContent-fold : (blocks : ℕ) (c : Content) (log : List Recorded) → All (λ r. page_size r ≡ 4096) log →
    IsContent blocks c → IsContent blocks (fold after c log)
IsContent-fold blocks c [] sizes whole = whole
IsContent-fold blocks c (r ∷ log) sizes whole =
    IsContent-fold blocks (after c r) log (All-tail (λ q. page_size q ≡ 4096) r log sizes)
    (IsContent-after blocks c r (All-head (λ q. page_size q ≡ 4096) r log sizes) whole)

pub held_whole : (blocks : ℕ) (start : DiskImage) (log : List Recorded) → AreSectors (8 * blocks) start →
    All (λ r. page_size r ≡ 4096) log → IsContent blocks (held_after start log)
held_whole blocks start log whole sizes =
    IsContent-fold blocks (settled start) log sizes (IsContent-settled blocks start whole)

-- One more call.

pub length-after : (c : Content) (r : Recorded) → length (after c r) ≡ length c
length-after c (Write b page) = length-written (λ s. true) b page c
length-after c (FailedWrite b page pick) = length-written (picks pick) b page c
length-after c Sync = length-settled (as_it_reads c) ∙ length-as_it_reads c
length-after c FailedSync = refl

pub held_after-push : (start : DiskImage) (log : List Recorded) (r : Recorded) →
    held_after start (log ++ r ∷ []) ≡ after (held_after start log) r
held_after-push start log r = fold_push after (settled start) log r
