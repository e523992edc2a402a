-- What a crash inside an import may leave, from its parts.
use Rattle.std.proofs.Common.{◌⊎◌, inl, inr, ◌≤◌, ℕ, List, [], ◌++◌, Option, Some, None, refl, sym, ◌∙◌, subst, arith}
use Rattle.std.specs.Option.{IfSome, IsSome}
use Rattle.definitions.specs.Disk.{Changes, Content, DiskImage, as_it_reads, block}
use Rattle.definitions.specs.SwapHeader.{IsMarked}
use Rattle.image_format.specs.declared.signature.area.Area.{Area}
use Rattle.stream_in.specs.Holding.{HasComeIn, IsReadyFor, StaysReady}
use Rattle.stream_in.specs.Moments.{AddsNoHeader, ElapsesAlike, ElapsesOverMark, MarksWhole}
use Rattle.stream_in.specs.Session.{TakesInto}
use Rattle.stream_in.specs.Holding.{AreOfMap}
use Rattle.stream_in.specs.declared.session.StreamIn.{StreamIn}
use Rattle.command_kit.specs.View.{DiskView}
use Rattle.swsusp_cli.specs.Imports.{ImportsInside}
use Rattle.swsusp_cli.specs.Feeding.{HasFed, KeepsHeaders, TakesToEnd}

-- Header blocks, piece by piece.

pub headers_first : (m : ℕ) (past : ℕ → DiskImage → Type 0) → KeepsHeaders m m past past
headers_first m past = record { later = omega arith; adds_none = λ t v le left. (v, left, refl) }

pub headers_then : (m n o : ℕ) (p q r : ℕ → DiskImage → Type 0) → KeepsHeaders m n p q → n ≤ o → AddsNoHeader n q r → KeepsHeaders m o p r
headers_then m n o p q r first le then =
    let before = first.later in
    record {
      later = omega arith;
      adds_none = λ t v early left.
          let mid = then t v (omega arith) left in
          let was = first.adds_none t mid.0 early mid.1 in
          (was.0, was.1, mid.2 ∙ was.2);
    }

-- A session that goes on with the same area.
pub takes_more : (area : Area) (free bs : List ℕ) (s s' : StreamIn) (left left' : Option (List ℕ)) (d d' : DiskView) → TakesInto area free [] s → HasFed free bs s s' left left' d d' → TakesInto area free bs s'
takes_more area free bs s s' left left' d d' takes fed = record {
  fed = fed.fed;
  map_is = fed.map ∙ takes.map_is;
  of_map = subst (λ (m : List (ℕ × ℕ × ℕ)). AreOfMap m free) (sym fed.map) takes.of_map;
  usable = takes.usable;
}

-- A disk that was ready is ready for what has come.

pub ready_first : (area : Area) (free : List ℕ) (o : Option Content) → Changes (StaysReady area free [] []) o o
ready_first area free None = tt
ready_first area free (Some held) = λ ready. ready

pub ready_more : (area : Area) (free bs part : List ℕ) (a b c : Option Content) → Changes (StaysReady area free [] bs) a b → Changes (StaysReady area free bs part) b c → Changes (StaysReady area free [] (bs ++ part)) a c
ready_more area free bs part None None None first then = tt
ready_more area free bs part None None (Some z) first then = absurd then
ready_more area free bs part None (Some y) c first then = absurd first
ready_more area free bs part (Some x) None c first then = absurd first
ready_more area free bs part (Some x) (Some y) None first then = absurd then
ready_more area free bs part (Some x) (Some y) (Some z) first then = λ ready. then (first ready)

-- The whole import.

pub inside_none : (left left' : Option (List ℕ)) (m : ℕ) (past : ℕ → DiskImage → Type 0) → ImportsInside left left' m m past past
inside_none left left' m past = record { later = omega arith; marks = λ t w le gone marked. inl (w, gone, refl) }

pub inside_alike : (left left' : Option (List ℕ)) (m n : ℕ) (past since : ℕ → DiskImage → Type 0) → ElapsesAlike m n past since → ImportsInside left left' m n past since
inside_alike left left' m n past since alike = record {
  later = alike.later;
  marks = λ t w le gone marked. inl (w, alike.nothing_else t w le gone, refl);
}

-- opened, and then fed
headers_opened : (m n o : ℕ) (p q r : ℕ → DiskImage → Type 0) → ElapsesAlike m n p q → KeepsHeaders n o q r → KeepsHeaders m o p r
headers_opened m n o p q r alike fed =
    let first = alike.later in
    let second = fed.later in
    record {
      later = omega arith;
      adds_none = λ t v early left.
          let was = fed.adds_none t v (omega arith) left in
          (was.0, alike.nothing_else t was.0 early was.1, was.2);
    }

pub inside_fed : (left left' : Option (List ℕ)) (m n o : ℕ) (p q r : ℕ → DiskImage → Type 0) → ElapsesAlike m n p q → KeepsHeaders n o q r → ImportsInside left left' m o p r
inside_fed left left' m n o p q r alike fed =
    let all = headers_opened m n o p q r alike fed in
    record { later = all.later; marks = λ t w le gone marked. inl (all.adds_none t w le gone) }

-- and then marked
marks_by : (area : Area) (free bs : List ℕ) (n : ℕ) (past since : ℕ → DiskImage → Type 0) (a b : Option Content) → IsSome b → IfSome a (λ held. IsReadyFor area free [] (as_it_reads held)) → Changes (StaysReady area free [] bs) a b →
    IfSome b (MarksWhole area free bs n past since) → (t : ℕ) (v : DiskImage) → t ≤ n → since t v → IsMarked (block v 0) → past t v ⊎ HasComeIn area bs v
marks_by area free bs n past since a None told ready stays marks = absurd (cc)
marks_by area free bs n past since None (Some y) told ready stays marks = absurd stays
marks_by area free bs n past since (Some x) (Some y) told ready stays marks = marks (stays ready)

pub marked_later : (first n o : ℕ) (past since : ℕ → DiskImage → Type 0) (b : Option Content) → IsSome b → IfSome b (ElapsesOverMark first n o past since) → n ≤ o
marked_later first n o past since None told elapses = absurd (cc)
marked_later first n o past since (Some held) told elapses = elapses.later

pub inside_marked : (area : Area) (free : List ℕ) (s' : StreamIn) (left left' : Option (List ℕ)) (l m n o : ℕ) (p q r u : ℕ → DiskImage → Type 0) (a b : Option Content) →
    ElapsesAlike l m p q → KeepsHeaders m n q r → n ≤ o → IsSome b → IfSome a (λ held. IsReadyFor area free [] (as_it_reads held)) → (takes : TakesToEnd area free s' left left' a b) →
    IfSome b (MarksWhole area free takes.bs n r u) → ImportsInside left left' l o p u
inside_marked area free s' left left' l m n o p q r u a b alike fed le told ready takes marks =
    let all = headers_opened l m n p q r alike fed in
    let first = all.later in
    record {
      later = omega arith;
      marks = λ t w early gone marked. elim (marks_by area free takes.bs n r u a b told ready takes.ready marks t w (omega arith) gone marked) [
        | inl was ↦ inl (all.adds_none t w early was)
        | inr whole ↦ inr (area, takes.bs, takes.handed, takes.over, whole)
      ];
    }
