-- A disk that is ready for the bytes that were fed stays so.
use Rattle.std.proofs.Common.{◌≡◌, ℕ, ◌+◌, ◌*◌, ◌/◌, ◌<◌, zero, suc, Bool, true, false, cond, ltb, List, [], ◌∷◌, length, get_or, Option, Some, None, IfSome, refl, sym, ap, ◌∙◌, subst, inl, inr, arith}
use Rattle.std.proofs.lemmas.Bool.{cases_lt, ltb-true}
use Rattle.std.proofs.lemmas.List.{get_or_past}
use Rattle.std.proofs.lemmas.List.Elements.{Contains-get_or}
use Rattle.definitions.specs.Disk.{Content, DiskImage, Changes, as_it_reads, block, sector}
use Rattle.definitions.proofs.DiskLaws.{block-same, length-as_it_reads}
use Rattle.image_format.specs.AreaKind.{area_kind}
use Rattle.image_format.specs.declared.signature.area.Area.{Area}
use Rattle.image_format.specs.declared.signature.area.AreaKind.TheVariants as kind
use Rattle.plain_machine.specs.declared.no_swap.NoSwap.TheVariants as no_swap
use Rattle.stream_in.specs.declared.session.StreamIn.{StreamIn}
use Rattle.stream_in.specs.Area.{AreUsable, first_block, room_fault, open_fault}
use Rattle.stream_in.specs.Holding.{first_blocks, IsReadyFor, StaysReady}
use Rattle.stream_in.specs.Moments.{ElapsesOutside, AddsNoHeader}
use Rattle.stream_in.specs.Outside.{IsBlockOf, KeepsOutside, WritesAtRest}
use Rattle.stream_in.specs.Session.{IsOpened, TakesInto}
use Rattle.stream_in.specs.Holding.{WritesOn}
use Rattle.stream_in.proofs.Holding.{not_zero}
use Rattle.stream_in.proofs.Rests.{ReadsKept, writes_kept}
use Rattle.stream_in.proofs.Undoing.{first_block-some}

-- the header block is none of the slots'
header_apart : (area : Area) (free : List ℕ) → AreUsable area free → IsBlockOf (first_blocks area) free 0 → ⊥
header_apart area free usable (place, lt, at) =
    let some = not_zero area (get_or free place 0) (usable.each (get_or free place 0) (Contains-get_or free place 0 lt)).1 in
    omega arith

live_at : (c : Content) (s : ℕ) → get_or (as_it_reads c) s [] ≡ (sector c s).live
live_at [] s = refl
live_at (x ∷ c) zero = refl
live_at (x ∷ c) (suc s) = live_at c s

header_kept : (extents : List (ℕ × ℕ × ℕ)) (free : List ℕ) (x y : Content) → (IsBlockOf extents free 0 → ⊥) → KeepsOutside extents free x y → block (as_it_reads y) 0 ≡ block (as_it_reads x) 0
header_kept extents free x y apart keeps =
    block-same (as_it_reads y) (as_it_reads x) 0 (length-as_it_reads y ∙ keeps.size ∙ sym (length-as_it_reads x))
    (λ j few. live_at y (8 * 0 + j) ∙ ap (λ s. s.live) (keeps.others 0 j few apart) ∙ sym (live_at x (8 * 0 + j)))

stays : (area : Area) (free bs more : List ℕ) (x y : Content) → AreUsable area free → ReadsKept (first_blocks area) free x y → WritesOn (first_blocks area) free bs more x y → StaysReady area free bs more x y
stays area free bs more x y usable kept writes ready = record {
  header = ap area_kind (header_kept (first_blocks area) free kept.from y (header_apart area free usable) kept.keeps ∙ ap (λ v. block v 0) kept.reads) ∙ ready.header;
  written = writes ready.written;
}

pub told_ready : (area : Area) (free bs more : List ℕ) (extents : List (ℕ × ℕ × ℕ)) (n m : ℕ) (a b : Option Content) → AreUsable area free → extents ≡ first_blocks area → Changes (WritesAtRest extents free n m) a b → Changes (WritesOn extents free bs more) a b → Changes (StaysReady area free bs more) a b
told_ready area free bs more extents n m a b usable is keeps writes =
    told area free bs more n m a b usable (subst (λ (e : List (ℕ × ℕ × ℕ)). Changes (WritesAtRest e free n m) a b) is keeps) (subst (λ (e : List (ℕ × ℕ × ℕ)). Changes (WritesOn e free bs more) a b) is writes)
  where
    told : (area : Area) (free bs more : List ℕ) (n m : ℕ) (a b : Option Content) → AreUsable area free → Changes (WritesAtRest (first_blocks area) free n m) a b → Changes (WritesOn (first_blocks area) free bs more) a b → Changes (StaysReady area free bs more) a b
    told area free bs more n m None None usable keeps writes = tt
    told area free bs more n m None (Some y) usable keeps writes = absurd keeps
    told area free bs more n m (Some x) None usable keeps writes = absurd keeps
    told area free bs more n m (Some x) (Some y) usable keeps writes = stays area free bs more x y usable (writes_kept (first_blocks area) free n m x y keeps) writes

-- A cut in the midst of a feed.
pub no_header : (area : Area) (free : List ℕ) (extents : List (ℕ × ℕ × ℕ)) (m n : ℕ) (past since : ℕ → DiskImage → Type 0) → AreUsable area free → extents ≡ first_blocks area → ElapsesOutside extents free m n past since → AddsNoHeader m past since
no_header area free extents m n past since usable is elapses t v le left =
    let from = elapses.nothing_else t v le left in
    let agree = from.2 in
    let size = agree.size in
    let apart : IsBlockOf extents free 0 → ⊥ = λ at. header_apart area free usable (subst (λ (x : List (ℕ × ℕ × ℕ)). IsBlockOf x free 0) is at) in (
      from.0,
      from.1,
      block-same v from.0 0 agree.size (λ j few. elim (cases_lt (8 * 0 + j) (length from.0)) [
        | inl lt ↦ agree.others (8 * 0 + j) lt (λ at. apart (subst (IsBlockOf extents free) (let zero_block : (8 * 0 + j) / 8 ≡ 0 = omega arith in zero_block) at))
        | inr ge ↦ get_or_past v (8 * 0 + j) [] (omega arith) ∙ sym (get_or_past from.0 (8 * 0 + j) [] ge)
      ]),
    )

-- A newly opened session, over a header block that it could use.

room_for : (blocks : ℕ) (area : Area) → room_fault blocks area ≡ None → area.last < blocks
room_for blocks area none = below (ltb area.last blocks) (ltb area.last 131072) area.last blocks (ltb-true area.last blocks) none
  where
    below : (b d : Bool) (last blocks : ℕ) → (b ≡ true → last < blocks) → cond b (cond d None (Some (no_swap.Misfit last 131072))) (Some (no_swap.Short last blocks)) ≡ None → last < blocks
    below true d last blocks lt none = lt refl
    below false d last blocks lt none = absurd (cc)

opened_ready : (area : Area) (blocks : ℕ) (s : StreamIn) (free : List ℕ) (o : Option Content) → open_fault blocks (kind.Swap area) ≡ None → IfSome o (λ held. area_kind (first_block blocks (as_it_reads held)) ≡ kind.Swap area) → IfSome o (λ held. IsReadyFor area free [] (as_it_reads held))
opened_ready area blocks s free None none kind_is = tt
opened_ready area blocks s free (Some held) none kind_is =
    let below = room_for blocks area none in
    record {
      header = ap area_kind (sym (first_block-some blocks (as_it_reads held) (omega arith))) ∙ kind_is;
      written = λ late. absurd (omega arith);
    }

pub ready_to_take : (area : Area) (blocks : ℕ) (s : StreamIn) (o : Option Content) → IsOpened area blocks s → open_fault blocks (kind.Swap area) ≡ None → IfSome o (λ held. area_kind (first_block blocks (as_it_reads held)) ≡ kind.Swap area) →
    (free : List ℕ) × TakesInto area free [] s × IfSome o (λ held. IsReadyFor area free [] (as_it_reads held))
ready_to_take area blocks s o opened none kind_is =
    let fed = opened.fed in (
      fed.0,
      record { fed = fed.3; map_is = opened.map_is; of_map = fed.2; usable = fed.1 },
      opened_ready area blocks s fed.0 o none kind_is,
    )
