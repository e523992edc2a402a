-- A session as bytes of one page come.
use Rattle.std.proofs.Common.{◌≡◌, ℕ, ◌+◌, ◌-◌, ◌/◌, ◌%◌, ◌<◌, ◌≤◌, ◌^◌, eqb, List, ◌++◌, length, take, drop, get_or, Option, Some, None, IsSomeAnd, refl, sym, ap, ap₂, subst, ◌∙◌, inl, inr, arith, length-append, append_assoc, zero-add}
use Rattle.std.proofs.Math.Seq.{take-add}
use Rattle.std.proofs.lemmas.List.{take-append-le, take-append-drop, length-take-le, get_or-take, get_or_append_left, get_or-append_right, take_all}
use Rattle.std.proofs.lemmas.Bool.{cases_lt, cond-false, ne_eqb, or_from}
use Rattle.stream_in.specs.declared.slots.SlotMemory.{SlotMemory}
use Rattle.definitions.proofs.PageBytes.{number_at-same, bytes_at-same}
use Rattle.plain_machine.specs.Image.{maps_of}
use Rattle.plain_machine.specs.Image.{page_of_write}
use Rattle.image_write.specs.Writing.{Writing, BlocksBelow}
use Rattle.stream_in.specs.Grammar.{image_pages, all_pages, are_counts, first_fault}
use Rattle.stream_in.proofs.Steps.{IsSound, sound_from, counts_none, all_pages-append, first_fault-early}
use Rattle.stream_in.specs.declared.checking.fault.StreamFault.{StreamFault}
use Rattle.std.proofs.lemmas.Option.{none-some}
use Rattle.stream_in.specs.Putting.{CanPut, HasPut, HasTooFew, Suffice}
use Rattle.stream_in.specs.Holding.{writes_after}
use Rattle.stream_in.specs.Session.{HasPage, IsBegun, IsOutput}
use Rattle.stream_in.specs.Area.{HasTooFewFor, SufficeFor}

-- The page with more of its bytes.
pub page_part : (bs part page x post : List ℕ) (begun : ℕ) → begun ≡ length bs % 4096 → begun ≤ length page → x ≡ part → HasPage bs page → (i : ℕ) → i < begun + length part →
    get_or (take begun page ++ (x ++ post)) i 0 ≡ get_or (bs ++ part) (length bs - begun + i) 0
page_part bs part page x post begun is within x_is has i lt =
    let front = length-take-le begun page within in
    let size = ap length x_is in
    elim (cases_lt i begun) [
      | inl before ↦
          let at : length bs - length bs % 4096 + i ≡ length bs - begun + i = omega arith in
          get_or_append_left (take begun page) (x ++ post) 0 i (omega arith) ∙ get_or-take begun page i 0 before ∙ has i (omega arith)
          ∙ ap (λ k. get_or bs k 0) at ∙ sym (get_or_append_left bs part 0 (length bs - begun + i) (omega arith))
      | inr ge ↦
          let at : length bs - begun + i - length bs ≡ i - begun = omega arith in
          get_or-append_right (take begun page) (x ++ post) begun i 0 front ge ∙ get_or_append_left x post 0 (i - begun) (omega arith)
          ∙ ap (λ l. get_or l (i - begun) 0) x_is
          ∙ sym (get_or-append_right bs part (length bs) (length bs - begun + i) 0 refl (omega arith) ∙ ap (λ k. get_or part k 0) at)
    ]

-- the page isn't full with these bytes
pub page_open : (bs part page x post : List ℕ) (begun : ℕ) → begun ≡ length bs % 4096 → begun + length part < 4096 → begun ≤ length page → x ≡ part → HasPage bs page → HasPage (bs ++ part) (take begun page ++ (x ++ post))
page_open bs part page x post begun is few within x_is has i lt =
    let size = length-append bs part in
    let at : length bs - begun + i ≡ length (bs ++ part) - length (bs ++ part) % 4096 + i = omega arith in
    page_part bs part page x post begun is within x_is has i (omega arith) ∙ ap (λ k. get_or (bs ++ part) k 0) at

-- or the page is full
pub page_closed : (bs part page : List ℕ) → (length bs % 4096) + length part ≡ 4096 → HasPage (bs ++ part) page
page_closed bs part page full i lt = absurd (omega (arith, length-append bs part))

-- the output stays, where the page isn't full
pub output_open : (free bs part : List ℕ) (memory : SlotMemory) (extents : List (ℕ × ℕ × ℕ)) (w : Option Writing) → (length bs % 4096) + length part < 4096 → IsOutput free bs memory extents w → IsOutput free (bs ++ part) memory extents w
output_open free bs part memory extents None few out =
    let early = out.early in
    record { early = omega (arith, length-append bs part); is_free = out.is_free }
output_open free bs part memory extents (Some w) few out =
    let late = out.late in
    let size = length-append bs part in
    let pages = all_pages-append bs part (omega arith) in
    let quotient : length bs / 4096 ≡ length (bs ++ part) / 4096 = omega arith in
    let room = out.room in
    record {
      late = omega arith;
      room = omega arith;
      pages = out.pages ∙ sym pages;
      written = out.written ∙ ap₂ writes_after (sym pages) quotient;
      going = λ lt. out.going (omega arith);
      table_is = out.table_is;
      extents_are = out.extents_are;
      first = out.first;
    }

-- The first page is the stream so far.
pub record IsInfo (bs page : List ℕ) : Type 0 where
  pub image_count : image_pages page ≡ image_pages bs
  pub page_count : all_pages page ≡ all_pages bs

pub is_info : (bs page : List ℕ) → length page ≡ 4096 → length bs ≡ 4096 → ((i : ℕ) → i < 4096 → get_or page i 0 ≡ get_or bs i 0) → IsInfo bs page
is_info bs page whole size same = record {
  image_count = number_at-same 8 page bs 416 (bytes_at-same 8 page bs 416 (whole ∙ sym size) (λ i from to. same i (omega arith)));
  page_count = number_at-same 8 page bs 424 (bytes_at-same 8 page bs 424 (whole ∙ sym size) (λ i from to. same i (omega arith)));
}

-- A page is full with these bytes.
pub record IsFull (bs part page : List ℕ) : Type 0 where
  pub size : (length bs % 4096) + length part ≡ 4096
  pub some : 0 < length part
  pub sound : first_fault (bs ++ part) ≡ None
  pub whole : length page ≡ 4096
  pub bytes : (i : ℕ) → i < 4096 → get_or page i 0 ≡ get_or (bs ++ part) (length bs - length bs % 4096 + i) 0

pub first_info : (bs part page : List ℕ) → IsFull bs part page → length bs < 4096 → IsInfo (bs ++ part) page
first_info bs part page full early =
    let size = full.size in
    let zero : length bs - length bs % 4096 ≡ 0 = omega arith in
    is_info (bs ++ part) page full.whole (omega (arith, length-append bs part))
    (λ i lt. full.bytes i lt ∙ ap (λ k. get_or (bs ++ part) k 0) (ap (λ k. k + i) zero ∙ zero-add i))

pub sound_full : (bs part page : List ℕ) → IsFull bs part page → IsSound (bs ++ part)
sound_full bs part page full = let size = full.size in sound_from (bs ++ part) (omega (arith, length-append bs part)) full.sound

pub some_written : (pages k : ℕ) → k < pages → writes_after pages k ≡ k + k / 511
some_written pages k lt = cond-false (eqb k pages) (pages + maps_of pages) (k + k / 511) (ne_eqb k pages (λ e. omega arith))

-- The full page can be written.
pub can_put : (free bs part page : List ℕ) (memory : SlotMemory) (extents : List (ℕ × ℕ × ℕ)) (blocks : ℕ) (w : Option Writing) → length free < 2 ^ 32 → blocks < 2 ^ 32 → BlocksBelow extents free (length free) blocks →
    IsFull bs part page → IsOutput free bs memory extents w → CanPut free memory extents blocks page w
can_put free bs part page memory extents blocks None few count on_disk full out =
    let info = first_info bs part page full out.early in
    let sound = sound_full bs part page full in
    let counts = counts_none (image_pages (bs ++ part)) (all_pages (bs ++ part)) sound.counts in
    record {
      counts = ap₂ are_counts info.image_count info.page_count ∙ counts;
      is_free = out.is_free;
      few = few;
      on_disk = on_disk;
      named = λ place lt. let below = on_disk place lt in omega arith;
    }
can_put free bs part page memory extents blocks (Some w) few count on_disk full out =
    let sound = sound_full bs part page full in
    let size = full.size in
    let some = full.some in
    let late = out.late in
    let pages = all_pages-append bs part (omega arith) in
    let within = sound.within in
    let behind = length-append bs part in
    let all = sound.are.all in
    let most = sound.are.few in
    let room = out.room in
    let is = out.pages in
    let k = length bs / 4096 in
    let lt : k < all_pages bs = omega arith in
    let written : w.written ≡ k + k / 511 = out.written ∙ some_written (all_pages bs) k lt in
    record {
      writing = out.going (omega arith);
      table_is = out.table_is;
      extents_are = out.extents_are;
      on_disk = λ place lt. on_disk place (omega arith);
      at_page = or_from (eqb (w.written % 512) 511) (eqb (w.written + 1) (w.info.pages + maps_of w.info.pages))
          (ne_eqb (w.written % 512) 511 (λ e. omega arith)) (ne_eqb (w.written + 1) (w.info.pages + maps_of w.info.pages) (λ e. omega arith));
    }

-- And when the page is written:
unfinished : (pages k : ℕ) → k < pages → writes_after pages k < pages + maps_of pages
unfinished pages k lt = let e = some_written pages k lt in omega arith

pub has_output : (free bs part page : List ℕ) (old memory : SlotMemory) (extents : List (ℕ × ℕ × ℕ)) (w : Option Writing) (new : Writing) → IsFull bs part page → IsOutput free bs old extents w →
    HasPut free memory extents page w new → Suffice free page w → IsBegun free (bs ++ part) memory extents new
has_output free bs part page old memory extents None new full out put enough =
    let info = first_info bs part page full out.early in
    let early = out.early in
    let size = full.size in
    let behind = length-append bs part in
    let count = info.page_count in
    let one : 0 + 1 ≡ length (bs ++ part) / 4096 = omega arith in
    let pages : new.info.pages ≡ all_pages (bs ++ part) = put.pages ∙ count in
    let written : new.written ≡ writes_after (all_pages (bs ++ part)) (length (bs ++ part) / 4096) = put.written ∙ ap₂ writes_after count one in
    record {
      late = omega arith;
      room = omega arith;
      pages = pages;
      written = written;
      going = λ lt. put.going (let some = unfinished (all_pages (bs ++ part)) (length (bs ++ part) / 4096) (omega arith) in omega arith);
      table_is = put.table_is;
      extents_are = put.extents_are;
      first = put.first;
    }
has_output free bs part page old memory extents (Some w) new full out put enough =
    let sound = sound_full bs part page full in
    let late = out.late in
    let size = full.size in
    let some = full.some in
    let behind = length-append bs part in
    let within = sound.within in
    let count = all_pages-append bs part (omega arith) in
    let k = length bs / 4096 in
    let below : k < all_pages bs = omega arith in
    let before : w.written ≡ k + k / 511 = out.written ∙ some_written (all_pages bs) k below in
    let one : page_of_write w.written + 1 ≡ length (bs ++ part) / 4096 = omega arith in
    let pages : new.info.pages ≡ all_pages (bs ++ part) = put.pages ∙ out.pages ∙ sym count in
    let written : new.written ≡ writes_after (all_pages (bs ++ part)) (length (bs ++ part) / 4096) = put.written ∙ ap₂ writes_after (out.pages ∙ sym count) one in
    let room = out.room in
    record {
      late = omega arith;
      room = omega arith;
      pages = pages;
      written = written;
      going = λ lt. put.going (let more = unfinished (all_pages (bs ++ part)) (length (bs ++ part) / 4096) (omega arith) in omega arith);
      table_is = put.table_is;
      extents_are = put.extents_are;
      first = put.first ∙ out.first;
    }

pub output_full : (free bs part page : List ℕ) (old memory : SlotMemory) (extents : List (ℕ × ℕ × ℕ)) (w new : Option Writing) → IsFull bs part page → IsOutput free bs old extents w →
    IsSomeAnd new (λ next. HasPut free memory extents page w next) → Suffice free page w → IsOutput free (bs ++ part) memory extents new
output_full free bs part page old memory extents w None full out put enough = absurd put
output_full free bs part page old memory extents w (Some next) full out put enough = has_output free bs part page old memory extents w next full out put enough

-- Too few slots are free for the image.
pub too_few : (free bs part page : List ℕ) (memory : SlotMemory) (extents : List (ℕ × ℕ × ℕ)) (w : Option Writing) (told need : ℕ) → IsFull bs part page → IsOutput free bs memory extents w → HasTooFew free page w told need → HasTooFewFor free (bs ++ part) told need
too_few free bs part page memory extents None told need full out few =
    let info = first_info bs part page full out.early in
    let early = out.early in
    let size = full.size in
    let behind = length-append bs part in
    record {
      whole = omega arith;
      sound = ap first_fault (take_all 4096 (bs ++ part) (omega arith)) ∙ full.sound;
      told_free = few.told_free;
      told_need = few.told_need ∙ ap (λ n. n + 1026) info.page_count;
      fewer = few.fewer;
    }
too_few free bs part page memory extents (Some w) told need full out few = let none = few.begins in cc

-- the page is full with these bytes
pub full_page : (bs part page x post made : List ℕ) (begun : ℕ) → begun ≡ length bs % 4096 → begun + length part ≡ 4096 → begun ≤ length page → x ≡ part → HasPage bs page → made ≡ take begun page ++ (x ++ post) → length made ≡ 4096 → 0 < length part → first_fault (bs ++ part) ≡ None → IsFull bs part made
full_page bs part page x post made begun is size within x_is has e whole some sound = record {
  size = omega arith;
  some = some;
  sound = sound;
  whole = whole;
  bytes = λ i lt. ap (λ l. get_or l i 0) e ∙ page_part bs part page x post begun is within x_is has i (omega arith) ∙ ap (λ k. get_or (bs ++ part) (length bs - k + i) 0) is;
}

-- A piece in parts.

pub piece_part : (bs piece : List ℕ) (at end : ℕ) → at ≤ end → end ≤ length piece → (bs ++ take at piece) ++ take (end - at) (drop at piece) ≡ bs ++ take end piece
piece_part bs piece at end le within =
    append_assoc bs (take at piece) (take (end - at) (drop at piece))
    ∙ ap (λ p. bs ++ p) (sym (take-add at (end - at) piece) ∙ ap (λ n. take n piece) (let e : at + (end - at) ≡ end = omega arith in e))

pub piece_rest : (bs piece : List ℕ) (end : ℕ) → bs ++ piece ≡ (bs ++ take end piece) ++ drop end piece
piece_rest bs piece end = ap (λ p. bs ++ p) (sym (take-append-drop end piece)) ∙ sym (append_assoc bs (take end piece) (drop end piece))

pub length-part : (bs piece : List ℕ) (end : ℕ) → end ≤ length piece → length (bs ++ take end piece) ≡ length bs + end
length-part bs piece end le = length-append bs (take end piece) ∙ ap (λ n. length bs + n) (length-take-le end piece le)

-- what was too few stays too few, whatever comes after
pub too_few_more : (free bs more : List ℕ) (told need : ℕ) → HasTooFewFor free bs told need → HasTooFewFor free (bs ++ more) told need
too_few_more free bs more told need h =
    let whole = h.whole in
    record {
      whole = omega (arith, length-append bs more);
      sound = ap first_fault (take-append-le 4096 bs more whole) ∙ h.sound;
      told_free = h.told_free;
      told_need = h.told_need ∙ ap (λ n. n + 1026) (sym (all_pages-append bs more (omega arith)));
      fewer = h.fewer;
    }

-- the pages that are made full
pub pages_more : (size at end : ℕ) → at ≤ end → (size + at) / 4096 - size / 4096 + ((size + at) % 4096 + (end - at)) / 4096 ≡ (size + end) / 4096 - size / 4096
pages_more size at end le = omega arith

-- Which slots suffice.

-- the bytes that a session has taken and those of one page after them, in which there is a fault
pub part_suffice : (free bs part : List ℕ) (fault : StreamFault) (memory : SlotMemory) (extents : List (ℕ × ℕ × ℕ)) (w : Option Writing) → IsOutput free bs memory extents w →
    length bs % 4096 + length part ≤ 4096 → first_fault (bs ++ part) ≡ Some fault → SufficeFor free (bs ++ part)
part_suffice free bs part fault memory extents None output within found whole sound =
    let early = output.early in
    let all : take 4096 (bs ++ part) ≡ bs ++ part = take_all 4096 (bs ++ part) (omega (arith, early, within, length-append bs part)) in
    absurd (none-some fault (sym (sym (ap first_fault all) ∙ sound) ∙ found))
part_suffice free bs part fault memory extents (Some w) output within found whole sound =
    let late = output.late in
    let room = output.room in
    subst (λ (n : ℕ). n + 1026 ≤ length free) (sym (all_pages-append bs part (omega (arith, late)))) room

-- and more bytes, whatever they are, after a fault
pub suffice_more : (free bs more : List ℕ) (fault : StreamFault) → first_fault bs ≡ Some fault → SufficeFor free bs → SufficeFor free (bs ++ more)
suffice_more free bs more fault found enough whole sound =
    let late : 4096 ≤ length bs = elim (cases_lt (length bs) 4096) [ inl lt ↦ absurd (none-some fault (sym (first_fault-early bs lt) ∙ found)) | inr le ↦ le ] in
    subst (λ (n : ℕ). n + 1026 ≤ length free) (sym (all_pages-append bs more (omega (arith, late))))
    (enough late (sym (ap first_fault (take-append-le 4096 bs more late)) ∙ sound))
