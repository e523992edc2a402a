-- A disk at rest before an image is written to it.
use Rattle.std.proofs.Common.{◌≡◌, ◌<◌, ◌≤◌, ◌⊎◌, ℕ, ◌+◌, ◌%◌, Bool, true, false, eqb, List, ◌++◌, length, Option, Some, None, is_none, is_some, not, refl, sym, ap, ◌∙◌, subst, inl, inr, ⊎_elim, arith, length-append}
use Rattle.std.proofs.lemmas.Bool.{cases_lt, cases_Bool, eqb-true, cond-false}
use Rattle.definitions.specs.Disk.{Content, DiskImage, Changes, as_it_reads, settled}
use Rattle.definitions.proofs.DiskLaws.{as_it_reads-settled}
use Rattle.image_write.specs.Answers.{after}
use Rattle.image_write.specs.Writing.{Writing, writes_of}
use Rattle.image_write.specs.declared.write_step.WriteStep.{WriteStep}
use Rattle.image_write.specs.declared.write_step.WriteStep.TheVariants.{More, Done, Fault}
use Rattle.stream_in.specs.declared.slots.SlotMemory.{SlotMemory}
use Rattle.stream_in.specs.Outside.{KeepsOutside, IsAtRest, PutsAtRest, FailsAtRest, KeepsAtRest, WritesAtRest, StopsAtRest}
use Rattle.stream_in.specs.Grammar.{image_pages, all_pages}
use Rattle.stream_in.proofs.Steps.{counts_from}
use Rattle.stream_in.specs.Putting.{CanPut, is_map_next, pages_in, writes_made}
use Rattle.stream_in.specs.Session.{IsOutput}
use Rattle.stream_in.specs.Holding.{MakesMore, ReadAsMade}
use Rattle.stream_in.proofs.Contents.{changes_as, changes_then}
use Rattle.stream_in.proofs.Outsides.{keeps_none, keeps_then}

-- One page.

-- whether the page is the first one
pub is_first : (w : Option Writing) (begins : Bool) → is_some w ≡ not begins → begins ≡ is_none w
is_first None true is = refl
is_first None false is = cc
is_first (Some w) true is = cc
is_first (Some w) false is = refl

-- no map follows the first page of an image that has more than two
pub no_map_first : (step : WriteStep) (writes : ℕ) → (step ≡ Fault) ⊎ (step ≡ after 1 writes) → 3 ≤ writes → is_map_next step ≡ false
no_map_first step writes (inl fault) some = ap is_map_next fault
no_map_first step writes (inr is) some = ap is_map_next is ∙ elim (cases_Bool (eqb 1 writes)) [
  | inl same ↦ absurd (let is_one = eqb-true 1 writes same in omega arith)
  | inr more ↦ ap is_map_next (cond-false (eqb 1 writes) Done (More 1 writes) more) ∙ elim (cases_Bool (eqb 2 writes)) [
    | inl same ↦ absurd (let is_two = eqb-true 2 writes same in omega arith)
    | inr other ↦ other
  ]
]

pub first_alone : (w : Writing) (step : WriteStep) → w.written ≡ 0 → 3 ≤ w.info.pages → (step ≡ Fault) ⊎ (step ≡ after (w.written + 1) (writes_of w.info)) → is_map_next step ≡ false
first_alone w step first some answer =
    no_map_first step (writes_of w.info) (subst (λ n. (step ≡ Fault) ⊎ (step ≡ after (n + 1) (writes_of w.info))) first answer) (omega arith)

-- the disk reads as before
reads_at_rest : (b : Bool) (x y : Content) → IsAtRest b x y → as_it_reads y ≡ as_it_reads x
reads_at_rest true x y synced = ap as_it_reads synced ∙ as_it_reads-settled (as_it_reads x)
reads_at_rest false x y same = ap as_it_reads same

puts : (extents : List (ℕ × ℕ × ℕ)) (free : List ℕ) (w : Option Writing) (x y z : Content) → IsAtRest (is_none w) x y → KeepsOutside extents free y z → PutsAtRest extents free w x z
puts extents free None x y z synced keeps = subst (λ (c : Content). KeepsOutside extents free c z) synced keeps
puts extents free (Some w) x y z same keeps = subst (λ (c : Content). KeepsOutside extents free c z) same keeps

pub told_puts : (extents : List (ℕ × ℕ × ℕ)) (free : List ℕ) (w : Option Writing) (begins : Bool) (a b c : Option Content) → begins ≡ is_none w → Changes (IsAtRest begins) a b → Changes (KeepsOutside extents free) b c → Changes (PutsAtRest extents free w) a c
told_puts extents free w begins a b c is rests keeps =
    changes_then (IsAtRest (is_none w)) (KeepsOutside extents free) (PutsAtRest extents free w) a b c (puts extents free w) (subst (λ (t : Bool). Changes (IsAtRest t) a b) is rests) keeps

pub told_fails : (extents : List (ℕ × ℕ × ℕ)) (free : List ℕ) (w : Option Writing) (a b : Option Content) → Changes (PutsAtRest extents free w) a b → Changes (FailsAtRest extents free w) a b
told_fails extents free w a b h = changes_as (PutsAtRest extents free w) (FailsAtRest extents free w) a b (λ x y p. inr p) h

pub told_unwritten : (extents : List (ℕ × ℕ × ℕ)) (free : List ℕ) (w : Option Writing) (a b : Option Content) → b ≡ a → Changes (FailsAtRest extents free w) a b
told_unwritten extents free w a b same = subst (λ (o : Option Content). Changes (FailsAtRest extents free w) a o) (sym same) (still a) where
  still : (o : Option Content) → Changes (FailsAtRest extents free w) o o
  still None = tt
  still (Some x) = inl refl

pub told_made : (extents : List (ℕ × ℕ × ℕ)) (free : List ℕ) (count : ℕ) (pages : ℕ → List ℕ) (k m : ℕ) (begins : Bool) (a b c : Option Content) → Changes (IsAtRest begins) a b → Changes (MakesMore extents free count pages k m) b c → Changes (MakesMore extents free count pages k m) a c
told_made extents free count pages k m begins a b c rests made =
    changes_then (IsAtRest begins) (MakesMore extents free count pages k m) (MakesMore extents free count pages k m) a b c
    (λ x y z rest more before. more (subst (λ (v : DiskImage). ReadAsMade extents free count pages k v) (sym (reads_at_rest begins x y rest)) before)) rests made

-- a put takes at most three calls: only the first page has the sync before it, and no map follows that page
pub few_calls : (free : List ℕ) (memory : SlotMemory) (extents : List (ℕ × ℕ × ℕ)) (blocks : ℕ) (page : List ℕ) (w : Option Writing) (next : Writing) (begins : Bool) (before mid now : ℕ) → CanPut free memory extents blocks page w → begins ≡ is_none w → next.info.pages ≡ pages_in page w → next.written ≡ writes_made w →
    (begins ≡ false → mid ≡ before) → mid ≤ before + 1 → now ≤ mid + 3 → (next.written ≡ 0 → 3 ≤ next.info.pages → now ≤ mid + 1) → now ≤ before + 3
few_calls free memory extents blocks page None next begins before mid now can is pages made same rest put first =
    let are = counts_from (image_pages page) (all_pages page) can.counts in
    let all = are.all in
    let some = are.some in
    let few : now ≤ mid + 1 = first made (omega arith) in
    omega arith
few_calls free memory extents blocks page (Some w) next begins before mid now can is pages made same rest put first =
    let still_called : mid ≡ before = same is in
    omega arith

-- A stream.

keeps_at_rest : (free bs : List ℕ) (memory : SlotMemory) (extents : List (ℕ × ℕ × ℕ)) (w : Option Writing) (x z : Content) → IsOutput free bs memory extents w → PutsAtRest extents free w x z → KeepsAtRest extents free (length bs) x z
keeps_at_rest free bs memory extents None x z out puts = record { first = λ lt. puts; later = λ le. let early = out.early in absurd (omega arith) }
keeps_at_rest free bs memory extents (Some w) x z out puts = record { first = λ lt. let late = out.late in absurd (omega arith); later = λ le. puts }

-- a page is full with these bytes
pub told_full : (free bs part : List ℕ) (memory : SlotMemory) (extents : List (ℕ × ℕ × ℕ)) (w : Option Writing) (a b : Option Content) → 4096 ≤ length (bs ++ part) → IsOutput free bs memory extents w → Changes (PutsAtRest extents free w) a b →
    Changes (WritesAtRest extents free (length bs) (length (bs ++ part))) a b
told_full free bs part memory extents w a b full out puts =
    changes_as (PutsAtRest extents free w) (WritesAtRest extents free (length bs) (length (bs ++ part))) a b
    (λ x y p. record { early = λ lt. absurd (omega arith); late = λ le. keeps_at_rest free bs memory extents w x y out p }) puts

pub told_stop : (free bs : List ℕ) (memory : SlotMemory) (extents : List (ℕ × ℕ × ℕ)) (w : Option Writing) (a b : Option Content) → IsOutput free bs memory extents w → Changes (FailsAtRest extents free w) a b → Changes (StopsAtRest extents free (length bs)) a b
told_stop free bs memory extents w a b out fails =
    changes_as (FailsAtRest extents free w) (StopsAtRest extents free (length bs)) a b
    (λ x y. ⊎_elim (λ (same : y ≡ x). inl same) (λ (p : PutsAtRest extents free w x y). inr (keeps_at_rest free bs memory extents w x y out p))) fails

-- no page is full with these bytes
pub unwritten : (extents : List (ℕ × ℕ × ℕ)) (free : List ℕ) (n m : ℕ) (x : Content) → (4096 ≤ m → 4096 ≤ n) → WritesAtRest extents free n m x x
unwritten extents free n m x late = record {
  early = λ lt. refl;
  late = λ le. record { first = λ lt. let also = late le in absurd (omega arith); later = λ le. keeps_none extents free x };
}

still : (R : Content → Content → Type 0) (o : Option Content) → ((x : Content) → R x x) → Changes R o o
still R None same = tt
still R (Some x) same = same x

pub told_part : (extents : List (ℕ × ℕ × ℕ)) (free bs part : List ℕ) (o : Option Content) → length bs % 4096 + length part < 4096 → Changes (WritesAtRest extents free (length bs) (length (bs ++ part))) o o
told_part extents free bs part o few =
    still (WritesAtRest extents free (length bs) (length (bs ++ part))) o (λ x. unwritten extents free (length bs) (length (bs ++ part)) x (λ le. omega (arith, length-append bs part)))

pub told_nothing : (extents : List (ℕ × ℕ × ℕ)) (free : List ℕ) (n m : ℕ) (o : Option Content) → m ≡ n → Changes (WritesAtRest extents free n m) o o
told_nothing extents free n m o same = still (WritesAtRest extents free n m) o (λ x. unwritten extents free n m x (λ le. omega arith))

pub told_no_stop : (extents : List (ℕ × ℕ × ℕ)) (free : List ℕ) (n : ℕ) (o : Option Content) → Changes (StopsAtRest extents free n) o o
told_no_stop extents free n o = still (StopsAtRest extents free n) o (λ x. inl refl)

-- Some bytes, and then more.

keeps_at_rest-then : (extents : List (ℕ × ℕ × ℕ)) (free : List ℕ) (n m : ℕ) (x y z : Content) → n ≤ m → WritesAtRest extents free n m x y → KeepsAtRest extents free m y z → KeepsAtRest extents free n x z
keeps_at_rest-then extents free n m x y z grows before after = elim (cases_lt m 4096) [
  | inl lt ↦ record {
    first = λ early. subst (λ (c : Content). KeepsOutside extents free (settled (as_it_reads c)) z) (before.early lt) (after.first lt);
    later = λ le. absurd (omega arith);
  }
  | inr late ↦
      let here = before.late late in
      let more = after.later late in
      record {
        first = λ early. keeps_then extents free (settled (as_it_reads x)) y z (here.first early) more;
        later = λ le. keeps_then extents free x y z (here.later le) more;
      }
]

pub writes_then : (extents : List (ℕ × ℕ × ℕ)) (free : List ℕ) (n m k : ℕ) (x y z : Content) → n ≤ m → m ≤ k → WritesAtRest extents free n m x y → WritesAtRest extents free m k y z → WritesAtRest extents free n k x z
writes_then extents free n m k x y z le le' before after = record {
  early = λ lt. after.early lt ∙ before.early (omega arith);
  late = λ late. keeps_at_rest-then extents free n m x y z le before (after.late late);
}

pub told_writes_then : (extents other : List (ℕ × ℕ × ℕ)) (free : List ℕ) (n m m' k k' : ℕ) (a b c : Option Content) → other ≡ extents → m' ≡ m → k' ≡ k → n ≤ m → m ≤ k → Changes (WritesAtRest extents free n m) a b → Changes (WritesAtRest other free m' k') b c →
    Changes (WritesAtRest extents free n k) a c
told_writes_then extents other free n m m' k k' a b c same is is' le le' before after =
    let P : List (ℕ × ℕ × ℕ) → Type 0 = λ e. Changes (WritesAtRest e free m' k') b c in
    let Q : ℕ → Type 0 = λ j. Changes (WritesAtRest extents free j k') b c in
    let R : ℕ → Type 0 = λ j. Changes (WritesAtRest extents free m j) b c in
    changes_then (WritesAtRest extents free n m) (WritesAtRest extents free m k) (WritesAtRest extents free n k) a b c (λ x y z h i. writes_then extents free n m k x y z le le' h i) before (subst R is' (subst Q is (subst P same after)))

-- after all that was written nothing is
pub stops_still : (extents : List (ℕ × ℕ × ℕ)) (free : List ℕ) (n m : ℕ) (x y : Content) → WritesAtRest extents free n m x y → StopsAtRest extents free n x y
stops_still extents free n m x y before = elim (cases_lt m 4096) [
  | inl lt ↦ inl (before.early lt)
  | inr le ↦ inr (before.late le)
]

pub stops_then : (extents : List (ℕ × ℕ × ℕ)) (free : List ℕ) (n m : ℕ) (x y z : Content) → n ≤ m → WritesAtRest extents free n m x y → StopsAtRest extents free m y z → StopsAtRest extents free n x z
stops_then extents free n m x y z le before (inl same) = subst (λ (c : Content). StopsAtRest extents free n x c) (sym same) (stops_still extents free n m x y before)
stops_then extents free n m x y z le before (inr keeps) = inr (keeps_at_rest-then extents free n m x y z le before keeps)

pub told_stops_then : (extents other : List (ℕ × ℕ × ℕ)) (free : List ℕ) (n m m' : ℕ) (a b c : Option Content) → other ≡ extents → m' ≡ m → n ≤ m → Changes (WritesAtRest extents free n m) a b → Changes (StopsAtRest other free m') b c → Changes (StopsAtRest extents free n) a c
told_stops_then extents other free n m m' a b c same is le before after =
    let P : List (ℕ × ℕ × ℕ) → Type 0 = λ e. Changes (StopsAtRest e free m') b c in
    let Q : ℕ → Type 0 = λ j. Changes (StopsAtRest extents free j) b c in
    changes_then (WritesAtRest extents free n m) (StopsAtRest extents free m) (StopsAtRest extents free n) a b c (λ x y z h i. stops_then extents free n m x y z le h i) before (subst Q is (subst P same after))

pub told_stops : (extents : List (ℕ × ℕ × ℕ)) (free : List ℕ) (n m : ℕ) (a b : Option Content) → Changes (WritesAtRest extents free n m) a b → Changes (StopsAtRest extents free n) a b
told_stops extents free n m a b h = changes_as (WritesAtRest extents free n m) (StopsAtRest extents free n) a b (stops_still extents free n m) h

-- The other blocks read as before.

-- a disk that reads as it did, whose other blocks are kept
pub record ReadsKept (extents : List (ℕ × ℕ × ℕ)) (free : List ℕ) (old new : Content) : Type 0 where
  pub from : Content
  pub reads : as_it_reads from ≡ as_it_reads old
  pub keeps : KeepsOutside extents free from new

kept_at_rest : (extents : List (ℕ × ℕ × ℕ)) (free : List ℕ) (n : ℕ) (x y : Content) → KeepsAtRest extents free n x y → ReadsKept extents free x y
kept_at_rest extents free n x y keeps = elim (cases_lt n 4096) [
  | inl lt ↦ record { from = settled (as_it_reads x); reads = as_it_reads-settled (as_it_reads x); keeps = keeps.first lt }
  | inr le ↦ record { from = x; reads = refl; keeps = keeps.later le }
]

pub writes_kept : (extents : List (ℕ × ℕ × ℕ)) (free : List ℕ) (n m : ℕ) (x y : Content) → WritesAtRest extents free n m x y → ReadsKept extents free x y
writes_kept extents free n m x y writes = elim (cases_lt m 4096) [
  | inl lt ↦ record { from = x; reads = refl; keeps = subst (KeepsOutside extents free x) (sym (writes.early lt)) (keeps_none extents free x) }
  | inr le ↦ kept_at_rest extents free n x y (writes.late le)
]
