-- What is on the disk of a stream, as bytes of one page come.
use Rattle.std.proofs.Common.{◌≡◌, ◌⊎◌, ℕ, ◌+◌, ◌-◌, ◌*◌, ◌/◌, ◌%◌, ◌<◌, ◌≤◌, true, eqb, List, [], ◌++◌, append-nil, length, take, drop, get_or, Option, Some, None, IsSomeAnd, refl, sym, ap, ap₂, ◌∙◌, subst, inl, inr, arith, length-append, length-drop}
use Rattle.std.proofs.lemmas.Bool.{cases_eq, or_left, eq-eqb}
use Rattle.std.proofs.lemmas.List.{take-append-le, drop-append-le, length-take-le, get_or-take, get_or-drop}
use Rattle.std.proofs.lemmas.Grind.{same_number_lists}
use Rattle.definitions.specs.Disk.{Content, Changes, DiskImage, as_it_reads, block}
use Rattle.stream_in.proofs.Contents.{changes_none, changes_then}
use Rattle.stream_in.specs.declared.slots.SlotMemory.{SlotMemory}
use Rattle.plain_machine.specs.Image.{maps_of}
use Rattle.plain_machine.specs.Image.{is_map_write, page_of_write}
use Rattle.image_write.specs.Writing.{Writing}
use Rattle.stream_in.specs.Grammar.{all_pages, first_fault}
use Rattle.stream_in.proofs.Steps.{all_pages-append, sound_from}
use Rattle.stream_in.specs.Putting.{HasPut, Suffice, pages_in, pages_written, writes_made}
use Rattle.stream_in.specs.Session.{IsOutput, IsBegun}
use Rattle.stream_in.specs.Holding.{ReadAsMade, MakesMore, page_at, AreWritten, WritesOn, writes_after}
use Rattle.stream_in.proofs.Laying.{same_write}
use Rattle.stream_in.proofs.Sessions.{IsFull, first_info, sound_full, some_written, has_output}

page_at-append : (bs part : List ℕ) (i : ℕ) → 4096 * i + 4096 ≤ length bs → page_at (bs ++ part) i ≡ page_at bs i
page_at-append bs part i h =
    ap (take 4096) (drop-append-le (4096 * i) bs part (omega arith)) ∙ take-append-le 4096 (drop (4096 * i) bs) part (omega (arith, length-drop (4096 * i) bs))

-- a write before page k is one of a map or of a page before
before_page : (count k j : ℕ) → j < k + k / 511 → (is_map_write count j ≡ true) ⊎ (page_of_write j < k)
before_page count k j lt = elim (cases_eq (j % 512) 511) [
  | inl e ↦ inl (or_left (eqb (j % 512) 511) (eqb (j + 1) (count + maps_of count)) (eq-eqb (j % 512) 511 e))
  | inr ne ↦ inr (omega arith)
]

read_more : (extents : List (ℕ × ℕ × ℕ)) (free bs part : List ℕ) (count k : ℕ) (v : DiskImage) → 4096 * k ≤ length bs → ReadAsMade extents free count (page_at bs) (k + k / 511) v → ReadAsMade extents free count (page_at (bs ++ part)) (k + k / 511) v
read_more extents free bs part count k v whole read j lt =
    let which : (is_map_write count j ≡ true) ⊎ (page_at bs (page_of_write j) ≡ page_at (bs ++ part) (page_of_write j)) = elim (before_page count k j lt) [
      | inl is ↦ inl is
      | inr below ↦ inr (sym (page_at-append bs part (page_of_write j) (omega arith)))
    ] in
    let same = same_write extents free count (page_at bs (page_of_write j)) (page_at (bs ++ part) (page_of_write j)) j which in
    subst (λ (w : ℕ × List ℕ). block v w.0 ≡ w.1) same (read j lt)

-- what reads as made, under equal counts
read_same : (extents : List (ℕ × ℕ × ℕ)) (free : List ℕ) (c d k m : ℕ) (pages : ℕ → List ℕ) (v : DiskImage) → c ≡ d → k ≡ m → ReadAsMade extents free c pages k v → ReadAsMade extents free d pages m v
read_same extents free c d k m pages v e f h =
    let P : ℕ → Type 0 = λ n. ReadAsMade extents free n pages k v in
    let Q : ℕ → Type 0 = λ n. ReadAsMade extents free d pages n v in
    subst Q f (subst P e h)

-- the page isn't full, and the stream goes on
pub written_part : (extents : List (ℕ × ℕ × ℕ)) (free bs part : List ℕ) (v : DiskImage) → (length bs % 4096) + length part < 4096 → (4096 ≤ length bs → length bs < 4096 * all_pages bs) → AreWritten extents free bs v → AreWritten extents free (bs ++ part) v
written_part extents free bs part v few more written late' =
    let behind = length-append bs part in
    let late : 4096 ≤ length bs = omega arith in
    let on = more late in
    let k = length bs / 4096 in
    let below : k < all_pages bs = omega arith in
    let count = sym (all_pages-append bs part (omega arith)) in
    let same : k ≡ length (bs ++ part) / 4096 = omega arith in
    let old = read_same extents free (all_pages bs) (all_pages bs) (writes_after (all_pages bs) k) (k + k / 511) (page_at bs) v refl (some_written (all_pages bs) k below) (written late) in
    let new = read_more extents free bs part (all_pages bs) k v (omega arith) old in
    read_same extents free (all_pages bs) (all_pages (bs ++ part)) (k + k / 511) (writes_after (all_pages (bs ++ part)) (length (bs ++ part) / 4096)) (page_at (bs ++ part)) v count
    (sym (some_written (all_pages bs) k below) ∙ ap₂ writes_after count same) new

-- the page that is full is the next one of the stream
pub next_page : (bs part page : List ℕ) → IsFull bs part page → page ≡ page_at (bs ++ part) (length bs / 4096)
next_page bs part page full =
    let size = full.size in
    let at : length bs - length bs % 4096 ≡ 4096 * (length bs / 4096) = omega arith in
    let room : 4096 ≤ length (drop (4096 * (length bs / 4096)) (bs ++ part)) = omega (arith, length-drop (4096 * (length bs / 4096)) (bs ++ part), length-append bs part) in
    let whole = length-take-le 4096 (drop (4096 * (length bs / 4096)) (bs ++ part)) room in
    same_number_lists page (page_at (bs ++ part) (length bs / 4096)) (full.whole ∙ sym whole)
    (λ i lt. let below : i < 4096 = (let w = full.whole in omega arith) in full.bytes i below ∙ ap (λ k. get_or (bs ++ part) (k + i) 0) at
    ∙ sym (get_or-take 4096 (drop (4096 * (length bs / 4096)) (bs ++ part)) i 0 below ∙ get_or-drop (4096 * (length bs / 4096)) (bs ++ part) i 0))

pub page_count : (free bs part page : List ℕ) (memory : SlotMemory) (extents : List (ℕ × ℕ × ℕ)) (w : Option Writing) → IsFull bs part page → IsOutput free bs memory extents w → length bs / 4096 ≡ pages_written w
page_count free bs part page memory extents None full out = let early = out.early in omega arith
page_count free bs part page memory extents (Some w) full out =
    let sound = sound_full bs part page full in
    let late = out.late in
    let size = full.size in
    let some = full.some in
    let behind = length-append bs part in
    let within = sound.within in
    let count = all_pages-append bs part (omega arith) in
    let k = length bs / 4096 in
    let before : w.written ≡ k + k / 511 = out.written ∙ some_written (all_pages bs) k (omega arith) in
    omega arith

-- with a full page more is written
written_full : (free bs part page : List ℕ) (old memory : SlotMemory) (extents : List (ℕ × ℕ × ℕ)) (w : Option Writing) (new : Writing) → IsFull bs part page → IsOutput free bs old extents w → IsBegun free (bs ++ part) memory extents new →
    (x y : Content) → MakesMore extents free (pages_in page w) (page_at (bs ++ part)) (writes_made w) new.written x y → WritesOn extents free bs part x y
written_full free bs part page old memory extents None new full out begun x y makes written late =
    let info = first_info bs part page full out.early in
    read_same extents free (all_pages page) (all_pages (bs ++ part)) new.written (writes_after (all_pages (bs ++ part)) (length (bs ++ part) / 4096)) (page_at (bs ++ part)) (as_it_reads y)
    info.page_count begun.written (makes (λ j lt. absurd (omega arith)))
written_full free bs part page old memory extents (Some w) new full out begun x y makes written late' =
    let sound = sound_full bs part page full in
    let late = out.late in
    let size = full.size in
    let some = full.some in
    let behind = length-append bs part in
    let within = sound.within in
    let count = all_pages-append bs part (omega arith) in
    let k = length bs / 4096 in
    let below : k < all_pages bs = omega arith in
    let first = read_same extents free (all_pages bs) (all_pages bs) (writes_after (all_pages bs) k) (k + k / 511) (page_at bs) (as_it_reads x) refl (some_written (all_pages bs) k below) (written late) in
    let more = read_more extents free bs part (all_pages bs) k (as_it_reads x) (omega arith) first in
    let made = read_same extents free (all_pages bs) w.info.pages (k + k / 511) w.written (page_at (bs ++ part)) (as_it_reads x) (sym out.pages) (sym (out.written ∙ some_written (all_pages bs) k below)) more in
    read_same extents free w.info.pages (all_pages (bs ++ part)) new.written (writes_after (all_pages (bs ++ part)) (length (bs ++ part) / 4096)) (page_at (bs ++ part)) (as_it_reads y)
    (out.pages ∙ sym count) begun.written (makes made)

-- and where the writer stands after it
pub written_on : (free bs part page : List ℕ) (old memory : SlotMemory) (extents : List (ℕ × ℕ × ℕ)) (w new : Option Writing) → IsFull bs part page → IsOutput free bs old extents w →
    IsSomeAnd new (λ next. HasPut free memory extents page w next) → Suffice free page w →
    (x y : Content) → MakesMore extents free (pages_in page w) (page_at (bs ++ part)) (writes_made w) (writes_made new) x y → WritesOn extents free bs part x y
written_on free bs part page old memory extents w None full out put enough = absurd put
written_on free bs part page old memory extents w (Some next) full out put enough =
    written_full free bs part page old memory extents w next full out (has_output free bs part page old memory extents w next full out put enough)

-- where the stream goes on without a fault, it isn't whole
pub goes_on : (bs part : List ℕ) → first_fault (bs ++ part) ≡ None → 0 < length part → 4096 ≤ length bs → length bs < 4096 * all_pages bs
goes_on bs part sound some late =
    let behind = length-append bs part in
    let within = (sound_from (bs ++ part) (omega arith) sound).within in
    let count = all_pages-append bs part (omega arith) in
    omega arith

-- Parts one after another.

pub on_none : (extents : List (ℕ × ℕ × ℕ)) (free bs : List ℕ) (a : Option Content) → Changes (WritesOn extents free bs []) a a
on_none extents free bs a =
    changes_none (WritesOn extents free bs []) a a (λ x h. subst (λ (l : List ℕ). AreWritten extents free l (as_it_reads x)) (sym (append-nil bs)) h) refl

pub on_then : (x y : List (ℕ × ℕ × ℕ)) (free bs p q r : List ℕ) (a b c : Option Content) → y ≡ x → (bs ++ p) ++ q ≡ bs ++ r → Changes (WritesOn x free bs p) a b → Changes (WritesOn y free (bs ++ p) q) b c → Changes (WritesOn x free bs r) a c
on_then x y free bs p q r a b c same e f g =
    let P : List (ℕ × ℕ × ℕ) → Type 0 = λ z. Changes (WritesOn z free (bs ++ p) q) b c in
    changes_then (WritesOn x free bs p) (WritesOn x free (bs ++ p) q) (WritesOn x free bs r) a b c
    (λ u v w s t h. subst (λ (l : List ℕ). AreWritten x free l (as_it_reads w)) e (t (s h))) f (subst P same g)
