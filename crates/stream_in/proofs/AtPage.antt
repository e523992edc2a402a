-- A writer at a page of the stream.
use Rattle.std.proofs.Common.{◌≡◌, ℕ, ◌+◌, ◌%◌, ◌<◌, ◌≤◌, eqb, List, length, Option, Some, None, IsSomeAnd, Result, Ok, Err, OnOk, sym, ap, ◌∙◌, subst, arith}
use Rattle.std.proofs.lemmas.Bool.{or_from, ne_eqb}
use Rattle.stream_in.specs.declared.slots.SlotMemory.{SlotMemory}
use Rattle.stream_in.specs.Slots.{free_of}
use Rattle.definitions.specs.InfoPage.{info_of}
use Rattle.plain_machine.specs.Image.{maps_of}
use Rattle.plain_machine.specs.Image.{page_of_write, laid_block}
use Rattle.image_write.specs.Steps.{HasBegun}
use Rattle.image_write.specs.Writing.{Writing, IsWriting, writes_of}
use Rattle.stream_in.specs.Grammar.{all_pages}
use Rattle.stream_in.specs.Putting.{CanBegin, IsAtPage, IsPagePut, HasPut, pages_in}
use Rattle.stream_in.specs.Holding.{writes_after}
use Rattle.stream_in.specs.declared.stop.InStop.{InStop}
use Rattle.stream_in.proofs.Counts.{are_few}

pub at_first : (free : List ℕ) (old memory : SlotMemory) (extents : List (ℕ × ℕ × ℕ)) (blocks : ℕ) (page : List ℕ) (w : Writing) → CanBegin free old extents blocks page → HasBegun (info_of page) extents memory.table (free_of old) memory.frames w → all_pages page + 1026 ≤ length (free_of old) → IsAtPage free memory extents blocks page None w
at_first free old memory extents blocks page w can begun room =
    let few = are_few page w.info begun.info_is can.counts in
    let pages = few.pages in
    let some = few.some in
    let writes = few.writes in
    let enough : all_pages page + 1026 ≤ length free = subst (λ (slots : List ℕ). all_pages page + 1026 ≤ length slots) can.is_free room in
    let writing : IsWriting free memory.frames w = subst (λ (slots : List ℕ). IsWriting slots memory.frames w) can.is_free begun.writing in
    let written = begun.written in
    record {
      writing = writing;
      at_page = or_from (eqb (w.written % 512) 511) (eqb (w.written + 1) (w.info.pages + maps_of w.info.pages))
          (ne_eqb (w.written % 512) 511 (λ e. omega arith)) (ne_eqb (w.written + 1) (w.info.pages + maps_of w.info.pages) (λ e. omega arith));
      on_disk = λ place lt. subst (λ (x : List (ℕ × ℕ × ℕ)). laid_block x free place < blocks) (sym begun.extents_are) (can.on_disk place (omega arith));
      pages = pages;
      count = ap page_of_write written;
      made = written;
      table_is = begun.table_is;
      extents_are = begun.extents_are;
      first_is = writing.first ∙ ap (λ (x : List (ℕ × ℕ × ℕ)). laid_block x free 0) begun.extents_are;
      enough = enough;
    }

-- and with one page more put
pub has_put : (free : List ℕ) (memory after : SlotMemory) (extents : List (ℕ × ℕ × ℕ)) (blocks : ℕ) (page : List ℕ) (old : Option Writing) (w new : Writing) → IsAtPage free memory extents blocks page old w → IsPagePut free after w new → HasPut free after extents page old new
has_put free memory after extents blocks page old w new at put =
    let info = ap writes_of put.image.info in
    record {
      pages = ap (λ i. i.pages) put.image.info ∙ at.pages;
      written = put.written ∙ ap (λ n. writes_after n (page_of_write w.written + 1)) at.pages ∙ ap (λ n. writes_after (pages_in page old) (n + 1)) at.count;
      going = λ lt. put.going (omega arith);
      table_is = put.table_is;
      extents_are = put.image.extents ∙ at.extents_are;
      first = put.image.first ∙ at.first_is;
    }

-- the same for the result of a begin, and where the writer stands then
pub at_begun : (free : List ℕ) (old memory : SlotMemory) (extents : List (ℕ × ℕ × ℕ)) (blocks : ℕ) (page : List ℕ) (new : Option Writing) (r : Result (Unit {0}) InStop) → CanBegin free old extents blocks page →
    OnOk r (IsSomeAnd new (λ w. HasBegun (info_of page) extents memory.table (free_of old) memory.frames w)) → OnOk r (all_pages page + 1026 ≤ length (free_of old)) → OnOk r (IsSomeAnd new (λ w. IsAtPage free memory extents blocks page None w))
at_begun free old memory extents blocks page (Some w) (Ok u) can begun room = at_first free old memory extents blocks page w can begun room
at_begun free old memory extents blocks page None (Ok u) can begun room = absurd begun
at_begun free old memory extents blocks page new (Err why) can begun room = tt

-- a writer that is there is at its page
pub at_some : (free : List ℕ) (memory : SlotMemory) (extents : List (ℕ × ℕ × ℕ)) (blocks : ℕ) (page : List ℕ) (old o : Option Writing) (w : Writing) → o ≡ Some w → IsSomeAnd o (λ next. IsAtPage free memory extents blocks page old next) → IsAtPage free memory extents blocks page old w
at_some free memory extents blocks page old o w is at = subst (λ (x : Option Writing). IsSomeAnd x (λ next. IsAtPage free memory extents blocks page old next)) is at
