use Rattle.std.proofs.Common.{refl, rules, append-nil, ◌≡◌, ℕ, ◌+◌, ◌-◌, ◌*◌, ◌/◌, ◌%◌, ◌≤◌, List, [], ◌++◌, IsTrue, length, take, drop, Some, sym, ap, subst, ◌∙◌, arith, length-append, length-drop}
use Rattle.std.proofs.lemmas.List.{length-take-le, take_all}
use Rattle.stream_in.specs.Grammar.{first_fault}
use Rattle.stream_in.proofs.Steps.{first_fault-stays}
use Rattle.stream_in.specs.Session.{IsGoing, IsFed}
use Rattle.stream_in.specs.Area.{HasTooFewFor, SufficeFor}
use Rattle.definitions.specs.Disk.{Changes, DiskImage}
use Rattle.stream_in.specs.Holding.{AreOfMap, WritesOn}
use Rattle.stream_in.proofs.Pages.{on_none, on_then}
use Rattle.stream_in.specs.Outside.{WritesAtRest}
use Rattle.stream_in.proofs.Rests.{told_nothing, told_stops_then, told_writes_then}
use Rattle.stream_in.specs.Moments.{ElapsesOutside}
use Rattle.stream_in.proofs.Moments.{outside_none, outside_then, outside_same}
use Rattle.stream_in.proofs.Ready.{told_ready, no_header}
use Rattle.stream_in.proofs.Sessions.{piece_part, piece_rest, length-part, suffice_more, too_few_more, pages_more}
use Rattle.stream_in.proofs.session.StreamIn.feed.Goals as goal

-- how many calls there are
more_calls : (size at end taken part before now first : ℕ) → at ≤ end → taken ≡ size + at → part ≡ end - at → before ≤ first + 3 * ((size + at) / 4096 - size / 4096) → now ≤ before + 3 * ((taken % 4096 + part) / 4096) → now ≤ first + 3 * ((size + end) / 4096 - size / 4096)
more_calls size at end taken part before now first le taken_is part_is h i =
    let pages = pages_more size at end le in
    let P : ℕ → Type 0 = λ n. now ≤ before + 3 * ((n % 4096 + part) / 4096) in
    let Q : ℕ → Type 0 = λ n. now ≤ before + 3 * (((size + at) % 4096 + n) / 4096) in
    let j = subst Q part_is (subst P taken_is i) in
    omega arith

-- time goes on over one more part
time_more : (x y : List (ℕ × ℕ × ℕ)) (free : List ℕ) (m n o : ℕ) (p q r : ℕ → DiskImage → Type 0) → y ≡ x → ElapsesOutside x free m n p q → ElapsesOutside y free n o q r → ElapsesOutside x free m o p r
time_more x y free m n o p q r same first second = outside_then x free m n o p q r first (outside_same x y free n o q r same second)

pub loop-at-preserved : goal.loop-at-preserved
loop-at-preserved g c =
    let piece = c.args.piece.now in
    let at = c.loop-at.at in
    let end = c.end_of_page-end.result in
    let some : at ≤ end = omega (arith, c.end_of_page-end.ensures.some) in
    let within : end ≤ length piece = c.end_of_page-end.ensures.within in
    let part = take (end - at) (drop at piece) in
    let size : length part ≡ end - at = length-take-le (end - at) (drop at piece) (omega (arith, length-drop at piece)) in
    let inv = c.loop-at.invariant in
    let fed : (free bs : List ℕ) → IsFed free bs c.args.self.now → IsFed free (bs ++ take end piece) c.take.new.self =
    λ free bs f. subst (λ (l : List ℕ). IsFed free l c.take.new.self) (piece_part bs piece at end some within) (c.in-Ok.ensures.answer.taken free (bs ++ take at piece) (inv.fed free bs f)) in
    record {
      within = within;
      fed = fed;
      going = (inv.was_going.0, inv.was_going.1 ++ take end piece, fed inv.was_going.0 inv.was_going.1 inv.was_going.2);
      was_going = inv.was_going;
      count = c.take.ensures.called.blocks ∙ inv.count ∙ sym c.take.ensures.same.blocks;
      done = λ free bs f of.
          let of' = subst (λ (x : List (ℕ × ℕ × ℕ)). AreOfMap x free) (sym inv.map_same) of in
          on_then c.args.self.now.map c.loop-at.self.map free bs (take at piece) part (take end piece) (g.D.Disk.content c.args.disk.now) (g.D.Disk.content c.loop-at.disk) (g.D.Disk.content c.take.new.disk)
          inv.map_same (piece_part bs piece at end some within) (inv.done free bs f of) (c.in-Ok.ensures.writes.done free (bs ++ take at piece) (inv.fed free bs f) of');
      outside = λ free bs f. told_writes_then c.args.self.now.map c.loop-at.self.map free (length bs) (length (bs ++ take at piece)) (length (bs ++ take at piece)) (length (bs ++ take end piece)) _ (g.D.Disk.content c.args.disk.now) (g.D.Disk.content c.loop-at.disk) (g.D.Disk.content c.take.new.disk)
          inv.map_same refl (ap length (piece_part bs piece at end some within)) (omega (arith, length-append bs (take at piece))) (omega (arith, length-part bs piece at inv.within, length-part bs piece end within)) (inv.outside free bs f)
          (c.in-Ok.ensures.writes.outside free (bs ++ take at piece) (inv.fed free bs f));
      time = λ tells free bs f. time_more c.args.self.now.map c.loop-at.self.map free (g.D.Disk.moment c.args.disk.now) (g.D.Disk.moment c.loop-at.disk) (g.D.Disk.moment c.take.new.disk)
          (g.D.Disk.left_since c.args.disk.now) (g.D.Disk.left_since c.loop-at.disk) (g.D.Disk.left_since c.take.new.disk) inv.map_same (inv.time tells free bs f)
          (c.take.ensures.time (subst IsTrue (sym inv.telling) tells) free (bs ++ take at piece) (inv.fed free bs f));
      map_same = c.take.ensures.same.map ∙ inv.map_same;
      same = c.take.ensures.same.blocks ∙ inv.same;
      faults = omega (arith, inv.faults, c.take.ensures.called.faults);
      calls = λ free bs f. more_calls (length bs) at end c.taken.result (length part) (g.D.Disk.calls c.loop-at.disk) (g.D.Disk.calls c.take.new.disk) (g.D.Disk.calls c.args.disk.now) some
          (c.taken.ensures (bs ++ take at piece) (inv.fed free bs f).taken ∙ length-part bs piece at inv.within) size (inv.calls free bs f) c.take.ensures.called.calls;
      orders = c.take.ensures.called.orders ∙ inv.orders;
      blocks = c.take.ensures.called.blocks ∙ inv.blocks;
      telling = c.take.ensures.called.telling ∙ inv.telling;
    }

pub returns-in-Err-clause-answer : goal.returns-in-Err-clause-answer
returns-in-Err-clause-answer g c = record {
  taken = search rules;
  stream = λ free bs fed fault is.
      let piece = c.args.piece.now in
      let at = c.loop-at.at in
      let end = c.end_of_page-end.result in
      let some : at ≤ end = omega (arith, c.end_of_page-end.ensures.some) in
      let within : end ≤ length piece = c.end_of_page-end.ensures.within in
      let found = c.take.ensures.answer.stream free (bs ++ take at piece) (c.loop-at.invariant.fed free bs fed) fault (c.in-Err.is ∙ is) in
      let here : first_fault (bs ++ take end piece) ≡ Some fault = ap first_fault (sym (piece_part bs piece at end some within)) ∙ found in
      ap first_fault (piece_rest bs piece end) ∙ first_fault-stays (bs ++ take end piece) (drop end piece) fault here;
  suffice = λ free bs fed fault is.
      let piece = c.args.piece.now in
      let at = c.loop-at.at in
      let end = c.end_of_page-end.result in
      let some : at ≤ end = omega (arith, c.end_of_page-end.ensures.some) in
      let within : end ≤ length piece = c.end_of_page-end.ensures.within in
      let here = c.loop-at.invariant.fed free bs fed in
      let joined : bs ++ take at piece ++ take (end - at) (drop at piece) ≡ bs ++ take end piece = piece_part bs piece at end some within in
      let found = c.take.ensures.answer.stream free (bs ++ take at piece) here fault (c.in-Err.is ∙ is) in
      let enough = c.take.ensures.answer.suffice free (bs ++ take at piece) here fault (c.in-Err.is ∙ is) in
      let P : List ℕ → Type 0 = λ l. SufficeFor free l in
      subst P (sym (piece_rest bs piece end)) (suffice_more free (bs ++ take end piece) (drop end piece) fault
      (ap first_fault (sym joined) ∙ found) (subst P joined enough));
  too_few = λ free bs fed told need is.
      let piece = c.args.piece.now in
      let at = c.loop-at.at in
      let end = c.end_of_page-end.result in
      let some : at ≤ end = omega (arith, c.end_of_page-end.ensures.some) in
      let within : end ≤ length piece = c.end_of_page-end.ensures.within in
      let few = c.take.ensures.answer.too_few free (bs ++ take at piece) (c.loop-at.invariant.fed free bs fed) told need (c.in-Err.is ∙ is) in
      let P : List ℕ → Type 0 = λ l. HasTooFewFor free l told need in
      subst P (sym (piece_rest bs piece end)) (too_few_more free (bs ++ take end piece) (drop end piece) told need (subst P (piece_part bs piece at end some within) few));
}

pub returns-in-Err-clause-called : goal.returns-in-Err-clause-called
returns-in-Err-clause-called g c = record {
  cause = search rules;
  faults = search rules;
  calls = λ free bs fed.
      let piece = c.args.piece.now in
      let at = c.loop-at.at in
      let end = c.end_of_page-end.result in
      let some : at ≤ end = omega (arith, c.end_of_page-end.ensures.some) in
      let within : end ≤ length piece = c.end_of_page-end.ensures.within in
      let part = take (end - at) (drop at piece) in
      let size : length part ≡ end - at = length-take-le (end - at) (drop at piece) (omega (arith, length-drop at piece)) in
      let inv = c.loop-at.invariant in
      let upto = more_calls (length bs) at end c.taken.result (length part) (g.D.Disk.calls c.loop-at.disk) (g.D.Disk.calls c.take.new.disk) (g.D.Disk.calls c.args.disk.now) some
      (c.taken.ensures (bs ++ take at piece) (inv.fed free bs fed).taken ∙ length-part bs piece at inv.within) size (inv.calls free bs fed) c.take.ensures.called.calls in
      omega (arith, length-append bs piece);
  orders = search rules;
  blocks = search rules;
  telling = search rules;
}

pub returns-clause-answer : goal.returns-clause-answer
returns-clause-answer g c = record {
  taken = λ free bs fed.
      let all : take c.loop-at.at c.args.piece.now ≡ c.args.piece.now = take_all c.loop-at.at c.args.piece.now (omega arith) in
      subst (λ (p : List ℕ). IsFed free (bs ++ p) c.loop-at.self) all (c.loop-at.invariant.fed free bs fed);
  stream = search rules;
  suffice = search rules;
  too_few = search rules;
}

pub returns-clause-called : goal.returns-clause-called
returns-clause-called g c = record {
  cause = search rules;
  faults = search rules;
  calls = λ free bs fed.
      let inv = c.loop-at.invariant in
      let calls = inv.calls free bs fed in
      let end : c.loop-at.at ≡ length c.args.piece.now = omega (arith, inv.within) in
      omega (arith, length-append bs c.args.piece.now);
  orders = search rules;
  blocks = search rules;
  telling = search rules;
}

-- The other blocks.

pub returns-in-Err-clause-writes : goal.returns-in-Err-clause-writes
returns-in-Err-clause-writes g c = record {
  done = search rules;
  outside = search rules;
  stopped = λ free bs fed.
      let inv = c.loop-at.invariant in
      let piece = c.args.piece.now in
      let at = c.loop-at.at in
      told_stops_then c.args.self.now.map c.loop-at.self.map free (length bs) (length (bs ++ take at piece)) (length (bs ++ take at piece)) (g.D.Disk.content c.args.disk.now) (g.D.Disk.content c.loop-at.disk) (g.D.Disk.content c.take.new.disk)
      inv.map_same refl (omega (arith, length-append bs (take at piece))) (inv.outside free bs fed) (c.in-Err.ensures.writes.stopped free (bs ++ take at piece) (inv.fed free bs fed));
}

pub returns-clause-writes : goal.returns-clause-writes
returns-clause-writes g c = record {
  done = λ free bs fed of.
      let all : take c.loop-at.at c.args.piece.now ≡ c.args.piece.now = take_all c.loop-at.at c.args.piece.now (omega arith) in
      subst (λ (p : List ℕ). Changes (WritesOn c.args.self.now.map free bs p) (g.D.Disk.content c.args.disk.now) (g.D.Disk.content c.loop-at.disk)) all (c.loop-at.invariant.done free bs fed of);
  outside = λ free bs fed.
      let all : take c.loop-at.at c.args.piece.now ≡ c.args.piece.now = take_all c.loop-at.at c.args.piece.now (omega arith) in
      subst (λ (p : List ℕ). Changes (WritesAtRest c.args.self.now.map free (length bs) (length (bs ++ p))) (g.D.Disk.content c.args.disk.now) (g.D.Disk.content c.loop-at.disk)) all (c.loop-at.invariant.outside free bs fed);
  stopped = search rules;
}

-- Moments.

pub returns-in-Err-clause-moments : goal.returns-in-Err-clause-moments
returns-in-Err-clause-moments g c = λ tells. record {
  time = λ free bs fed.
      let inv = c.loop-at.invariant in
      time_more c.args.self.now.map c.loop-at.self.map free (g.D.Disk.moment c.args.disk.now) (g.D.Disk.moment c.loop-at.disk) (g.D.Disk.moment c.take.new.disk)
      (g.D.Disk.left_since c.args.disk.now) (g.D.Disk.left_since c.loop-at.disk) (g.D.Disk.left_since c.take.new.disk) inv.map_same (inv.time tells free bs fed)
      (c.take.ensures.time (subst IsTrue (sym inv.telling) tells) free (bs ++ take c.loop-at.at c.args.piece.now) (inv.fed free bs fed));
  header = λ area free bs into.
      let inv = c.loop-at.invariant in
      no_header area free c.args.self.now.map (g.D.Disk.moment c.args.disk.now) (g.D.Disk.moment c.take.new.disk) (g.D.Disk.left_since c.args.disk.now) (g.D.Disk.left_since c.take.new.disk) into.usable into.map_is
      (time_more c.args.self.now.map c.loop-at.self.map free (g.D.Disk.moment c.args.disk.now) (g.D.Disk.moment c.loop-at.disk) (g.D.Disk.moment c.take.new.disk)
      (g.D.Disk.left_since c.args.disk.now) (g.D.Disk.left_since c.loop-at.disk) (g.D.Disk.left_since c.take.new.disk) inv.map_same (inv.time tells free bs into.fed)
      (c.take.ensures.time (subst IsTrue (sym inv.telling) tells) free (bs ++ take c.loop-at.at c.args.piece.now) (inv.fed free bs into.fed)));
}

pub returns-clause-moments : goal.returns-clause-moments
returns-clause-moments g c = λ tells. record {
  time = search rules;
  header = λ area free bs into.
      no_header area free c.args.self.now.map (g.D.Disk.moment c.args.disk.now) (g.D.Disk.moment c.loop-at.disk) (g.D.Disk.left_since c.args.disk.now) (g.D.Disk.left_since c.loop-at.disk) into.usable into.map_is
      (c.loop-at.invariant.time tells free bs into.fed);
}

-- What is on the disk.

pub returns-clause-fills : goal.returns-clause-fills
returns-clause-fills g c = record {
  into = λ area free bs into.
      let inv = c.loop-at.invariant in
      let all : take c.loop-at.at c.args.piece.now ≡ c.args.piece.now = take_all c.loop-at.at c.args.piece.now (omega arith) in
      record {
        fed = subst (λ (p : List ℕ). IsFed free (bs ++ p) c.loop-at.self) all (inv.fed free bs into.fed);
        map_is = inv.map_same ∙ into.map_is;
        of_map = subst (λ (x : List (ℕ × ℕ × ℕ)). AreOfMap x free) (sym inv.map_same) into.of_map;
        usable = into.usable;
      };
  ready = λ area free bs into.
      let s = c.args.self.now in
      let a = g.D.Disk.content c.args.disk.now in
      let b = g.D.Disk.content c.loop-at.disk in
      let all : take c.loop-at.at c.args.piece.now ≡ c.args.piece.now = take_all c.loop-at.at c.args.piece.now (omega arith) in
      told_ready area free bs c.args.piece.now s.map (length bs) (length (bs ++ take c.loop-at.at c.args.piece.now)) a b into.usable into.map_is (c.loop-at.invariant.outside free bs into.fed)
      (subst (λ (p : List ℕ). Changes (WritesOn s.map free bs p) a b) all (c.loop-at.invariant.done free bs into.fed into.of_map));
}

pub loop-at-init : goal.loop-at-init
loop-at-init g c =
    let s = c.args.self.now in
    let going : IsGoing s = search rules in
    record {
      within = omega arith;
      fed = λ free bs f. subst (λ (l : List ℕ). IsFed free l s) (sym (append-nil bs)) f;
      going = going;
      was_going = going;
      done = λ free bs f of. on_none s.map free bs (g.D.Disk.content c.args.disk.now);
      outside = λ free bs f. told_nothing s.map free (length bs) (length (bs ++ [])) (g.D.Disk.content c.args.disk.now) (ap length (append-nil bs));
      time = λ tells free bs f. outside_none s.map free (g.D.Disk.moment c.args.disk.now) (g.D.Disk.left_since c.args.disk.now);
      map_same = refl;
      count = c.requires.blocks;
      same = refl;
      faults = omega arith;
      calls = λ free bs f. omega arith;
      orders = refl;
      blocks = refl;
      telling = refl;
    }
