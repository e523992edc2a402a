-- What the writes of an image leave on the disk, put by put.
use Rattle.std.proofs.Common.{◌≡◌, ◌⊎◌, ℕ, ◌+◌, ◌*◌, ◌/◌, ◌%◌, ◌<◌, ◌≤◌, true, eqb, List, length, Option, IfSome, refl, sym, ap, ◌∙◌, subst, inl, inr, ⊎_elim, arith}
use Rattle.std.proofs.lemmas.Bool.{cases_lt, cases_order, cond-true, or_left, or_right, eq-eqb}
use Rattle.definitions.specs.Bytes.{IsPage}
use Rattle.definitions.specs.Disk.{Content, Changes, IsContent, as_it_reads, block, Writes}
use Rattle.definitions.proofs.DiskLaws.{block-other}
use Rattle.plain_machine.proofs.DiskBlocks.{block-written}
use Rattle.plain_machine.specs.Image.{maps_of}
use Rattle.plain_machine.specs.Image.{laid_block, laid_map, laid_write, is_map_write, page_of_write, page_place}
use Rattle.plain_machine.specs.Image.{map_place}
use Rattle.image_write.specs.Writing.{Writing, IsWriting, BlocksBelow, Makes, write_next, writes_of}
use Rattle.image_write.proofs.Done.{AreSlots, place_of, block_of_write, place_below, blocks_apart, written_page}
use Rattle.stream_in.specs.Holding.{AreOfMap, MakesMore}
use Rattle.stream_in.proofs.Contents.{changes_from, changes_then}
use Rattle.stream_in.proofs.Puts.{Follows, IsFollowed, still_below}

-- a write of a map is the same whatever page is handed in
pub same_write : (extents : List (ℕ × ℕ × ℕ)) (free : List ℕ) (count : ℕ) (page other : List ℕ) (k : ℕ) → (is_map_write count k ≡ true) ⊎ (page ≡ other) → laid_write extents free count page k ≡ laid_write extents free count other k
same_write extents free count page other k (inr e) = ap (λ p. laid_write extents free count p k) e
same_write extents free count page other k (inl is) =
    let made : ℕ × List ℕ = (laid_block extents free (map_place (k / 512)), laid_map extents free count (k / 512)) in
    let of : List ℕ → ℕ × List ℕ = λ p. (laid_block extents free (page_place (page_of_write k)), p) in
    cond-true (is_map_write count k) made (of page) is ∙ sym (cond-true (is_map_write count k) made (of other) is)

one_more : (extents : List (ℕ × ℕ × ℕ)) (free : List ℕ) (count : ℕ) (pages : ℕ → List ℕ) (k : ℕ) (page : List ℕ) (old new : Content) → AreSlots extents free (count + maps_of count) → k < count + maps_of count → IsPage page →
    (is_map_write count k ≡ true) ⊎ (page ≡ pages (page_of_write k)) → 8 * (laid_write extents free count page k).0 + 8 ≤ length old →
    Writes (laid_write extents free count page k).0 (laid_write extents free count page k).1 old new → MakesMore extents free count pages k (k + 1) old new
one_more extents free count pages k page old new slots lt whole is within writes done j j_lt = elim (cases_lt j k) [
  | inl before ↦
      let b = (laid_write extents free count page k).0 in
      let c = (laid_write extents free count (pages (page_of_write j)) j).0 in
      let apart : (c < b) ⊎ (b < c) = elim (cases_order c b) [
        | inl e ↦ absurd (blocks_apart extents free count j k (pages (page_of_write j)) page slots before lt e)
        | inr ne ↦ ne
      ] in
      block-other b c old new writes.others apart ∙ done j before
  | inr ge ↦
      let here : k ≡ j = omega arith in
      let same = same_write extents free count page (pages (page_of_write k)) k is in
      let read : block (as_it_reads new) (laid_write extents free count page k).0 ≡ (laid_write extents free count page k).1 =
      block-written (laid_write extents free count page k).0 (laid_write extents free count page k).1 old new (written_page extents free count k page whole) within writes in
      let P : ℕ × List ℕ → Type 0 = λ w. block (as_it_reads new) w.0 ≡ w.1 in
      let Q : ℕ → Type 0 = λ i. P (laid_write extents free count (pages (page_of_write i)) i) in
      subst Q here (subst P same read)
]

are_slots : (free : List ℕ) (frames : List (List ℕ)) (w : Writing) → IsWriting free frames w → AreOfMap w.extents free → AreSlots w.extents free (writes_of w.info)
are_slots free frames w h of = record {
  file_map = (of.0, of.1, λ place lt. of.2 place (let room = h.room in omega arith));
  ascending = h.ascending;
  enough = h.room;
}

-- a put
pub put_done : (free : List ℕ) (frames : List (List ℕ)) (w : Writing) (page : List ℕ) (pages : ℕ → List ℕ) (blocks : ℕ) (a b : Option Content) → IsWriting free frames w → AreOfMap w.extents free → IsPage page →
    BlocksBelow w.extents free (writes_of w.info) blocks → IfSome a (IsContent blocks) → (is_map_write w.info.pages w.written ≡ true) ⊎ (page ≡ pages (page_of_write w.written)) →
    Changes (Makes (write_next free w page)) a b → Changes (MakesMore w.extents free w.info.pages pages w.written (w.written + 1)) a b
put_done free frames w page pages blocks a b h of whole below is which made =
    let place = place_of w.info.pages w.written in
    let lt = place_below w.info.pages w.written h.unfinished in
    let at = block_of_write w.extents free w.info.pages w.written page in
    let on = below place lt in
    changes_from (IsContent blocks) (Makes (write_next free w page)) (MakesMore w.extents free w.info.pages pages w.written (w.written + 1)) a b
    (λ x y c m. let size = c.size in one_more w.extents free w.info.pages pages w.written page x y (are_slots free frames w h of) h.unfinished whole which (omega arith) m)
    is made

pub more_then : (extents : List (ℕ × ℕ × ℕ)) (free : List ℕ) (count : ℕ) (pages : ℕ → List ℕ) (k m n : ℕ) (a b c : Option Content) → Changes (MakesMore extents free count pages k m) a b → Changes (MakesMore extents free count pages m n) b c → Changes (MakesMore extents free count pages k n) a c
more_then extents free count pages k m n a b c f g =
    changes_then (MakesMore extents free count pages k m) (MakesMore extents free count pages m n) (MakesMore extents free count pages k n) a b c (λ x y z s t done. t (s done)) f g

-- a put, under equal extents and counts
pub more_same : (x y : List (ℕ × ℕ × ℕ)) (free : List ℕ) (count other : ℕ) (pages : ℕ → List ℕ) (k l m n : ℕ) (a b : Option Content) → y ≡ x → other ≡ count → l ≡ k → n ≡ m → Changes (MakesMore y free other pages l n) a b → Changes (MakesMore x free count pages k m) a b
more_same x y free count other pages k l m n a b e f g i h =
    let P : List (ℕ × ℕ × ℕ) → Type 0 = λ z. Changes (MakesMore z free other pages l n) a b in
    let Q : ℕ → Type 0 = λ z. Changes (MakesMore x free z pages l n) a b in
    let R : ℕ → Type 0 = λ z. Changes (MakesMore x free count pages z n) a b in
    let S : ℕ → Type 0 = λ z. Changes (MakesMore x free count pages k z) a b in
    subst S i (subst R g (subst Q f (subst P e h)))

pub is_map : (count k : ℕ) → Follows k (count + maps_of count) → is_map_write count k ≡ true
is_map count k f = ⊎_elim (λ (e : k % 512 ≡ 511). or_left (eqb (k % 512) 511) (eqb (k + 1) (count + maps_of count)) (eq-eqb (k % 512) 511 e))
    (λ (e : k + 1 ≡ count + maps_of count). or_right (eqb (k % 512) 511) (eqb (k + 1) (count + maps_of count)) (eq-eqb (k + 1) (count + maps_of count) e)) f.map

-- after a put that a map follows
pub record IsBehindPut (free : List ℕ) (w : Writing) (blocks : ℕ) : Type 0 where
  pub of : AreOfMap w.extents free
  pub below : BlocksBelow w.extents free (writes_of w.info) blocks
  pub map : is_map_write w.info.pages w.written ≡ true

pub behind_put : {frames : List (List ℕ)} (free : List ℕ) (w0 w1 : Writing) (before now : ℕ) → IsFollowed free frames w0 w1 → now ≡ before → AreOfMap w0.extents free → BlocksBelow w0.extents free (writes_of w0.info) before → IsBehindPut free w1 now
behind_put free w0 w1 before now one same of below =
    let P : List (ℕ × ℕ × ℕ) → Type 0 = λ x. AreOfMap x free in
    let pages : w0.info.pages ≡ w1.info.pages = ap (λ i. i.pages) (sym one.image.info) in
    let Q : ℕ → Type 0 = λ n. is_map_write n w1.written ≡ true in
    let R : ℕ → Type 0 = λ k. is_map_write w0.info.pages k ≡ true in
    record {
      of = subst P (sym one.image.extents) of;
      below = still_below free w0 w0 w1 before now (record { info = refl; extents = refl; table = refl; first = refl }) one.image same below;
      map = subst Q pages (subst R (sym one.written) (is_map w0.info.pages (w0.written + 1) one.follows));
    }
