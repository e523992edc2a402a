-- A step of a comparison: the lower page frame of two, or both.
use Rattle.std.proofs.Common.{◌≡◌, ℕ, ◌+◌, ◌<◌, ◌≤◌, Bool, true, false, cond, ltb, nat_eq, List, [], ◌∷◌, ◌++◌, Some, None, refl, sym, ap, subst, ◌∙◌, arith, append_assoc}
use Rattle.std.specs.Cmp.Lexicographic.{pointwise}
use Rattle.std.proofs.lemmas.Bool.{ltb-true, ltb-false}
use Rattle.image_pages.specs.Given.{HasGiven}
use Rattle.image_pages.specs.SavedFrames.{SavedFrame}
use Rattle.image_differ.specs.Compares.{AreCompared, HasCompared}
use Rattle.image_differ.specs.Differences.{frame_differences, no_frame}
use Rattle.image_differ.specs.Headings.{heading_differences}
use Rattle.image_differ.specs.Marks.{IsHeading}
use Rattle.image_differ.specs.Readings.{IsHead, IsPlace, IsReading, IsReady, frames_left, left_at, turn_of}
use Rattle.image_differ.specs.Sides.{SideView}
use Rattle.image_differ.specs.declared.comparison.Comparison.{Comparison}
use Rattle.image_differ.specs.declared.difference.Difference.{Difference}
use Rattle.image_differ.specs.declared.difference.Difference.TheVariants as difference
use Rattle.image_differ.specs.declared.heading.Heading.{Heading}
use Rattle.image_differ.specs.declared.reading.Place.{Place}
use Rattle.image_differ.specs.declared.reading.Place.TheVariants.{Unread, At, Ended}
use Rattle.image_differ.specs.declared.reading.Reading.{Reading}
use Rattle.image_differ.specs.declared.reading.Turn.TheVariants as turn
use Rattle.image_differ.proofs.Listing.{IsGap, below_further, below_gap, differences_gap, differences_next, differences_still, head_below, head_further, head_gap, head_least, head_page}

-- the other image is past a page frame
abbrev IsLater : ℕ → Place → Type 0
IsLater p Unread = ⊥
IsLater p (At q) = p < q
IsLater p Ended = Unit {0}

first_at : (s t : Bool) (m q p : ℕ) → s ≡ ltb m q → turn.First p ≡ cond s (turn.First m) (cond t (turn.Second q) (turn.Both m)) → (m ≡ p) × (p < q)
first_at true t m q p is e = let same : m ≡ p = cc in (same, omega (arith, ltb-true m q (sym is)))
first_at false true m q p is e = cc
first_at false false m q p is e = cc

pub first_turn : (x y : Place) (p : ℕ) → turn.First p ≡ turn_of x y → (y ≡ Unread → ⊥) → (x ≡ At p) × IsLater p y
first_turn (At m) (At q) p e read = let f = first_at (ltb m q) (ltb q m) m q p refl e in (ap At f.0, f.1)
first_turn (At m) Unread p e read = absurd (read refl)
first_turn (At m) Ended p e read = (let same : m ≡ p = cc in ap At same, tt)
first_turn Unread Unread p e read = cc
first_turn Unread (At q) p e read = cc
first_turn Unread Ended p e read = cc
first_turn Ended Unread p e read = cc
first_turn Ended (At q) p e read = cc
first_turn Ended Ended p e read = cc

second_at : (s t : Bool) (m q p : ℕ) → t ≡ ltb q m → turn.Second p ≡ cond s (turn.First m) (cond t (turn.Second q) (turn.Both m)) → (q ≡ p) × (p < m)
second_at true t m q p is e = cc
second_at false true m q p is e = let same : q ≡ p = cc in (same, omega (arith, ltb-true q m (sym is)))
second_at false false m q p is e = cc

pub second_turn : (x y : Place) (p : ℕ) → turn.Second p ≡ turn_of x y → (x ≡ Unread → ⊥) → (y ≡ At p) × IsLater p x
second_turn (At m) (At q) p e read = let f = second_at (ltb m q) (ltb q m) m q p refl e in (ap At f.0, f.1)
second_turn (At m) Unread p e read = cc
second_turn (At m) Ended p e read = cc
second_turn Unread y p e read = absurd (read refl)
second_turn Ended Unread p e read = cc
second_turn Ended (At q) p e read = (let same : q ≡ p = cc in ap At same, tt)
second_turn Ended Ended p e read = cc

both_at : (s t : Bool) (m q p : ℕ) → s ≡ ltb m q → t ≡ ltb q m → turn.Both p ≡ cond s (turn.First m) (cond t (turn.Second q) (turn.Both m)) → (m ≡ p) × (q ≡ p)
both_at true t m q p is too e = cc
both_at false true m q p is too e = cc
both_at false false m q p is too e = let same : m ≡ p = cc in (same, omega (arith, ltb-false m q (sym is), ltb-false q m (sym too)))

pub both_turn : (x y : Place) (p : ℕ) → turn.Both p ≡ turn_of x y → (x ≡ At p) × (y ≡ At p)
both_turn (At m) (At q) p e = let f = both_at (ltb m q) (ltb q m) m q p refl refl e in (ap At f.0, ap At f.1)
both_turn (At m) Unread p e = cc
both_turn (At m) Ended p e = cc
both_turn Unread Unread p e = cc
both_turn Unread (At q) p e = cc
both_turn Unread Ended p e = cc
both_turn Ended Unread p e = cc
both_turn Ended (At q) p e = cc
both_turn Ended Ended p e = cc

end_at : (s t : Bool) (m q : ℕ) → turn.End ≡ cond s (turn.First m) (cond t (turn.Second q) (turn.Both m)) → ⊥
end_at true t m q e = cc
end_at false true m q e = cc
end_at false false m q e = cc

pub end_turn : (x y : Place) → turn.End ≡ turn_of x y → (x ≡ Unread → ⊥) → (y ≡ Unread → ⊥) → (x ≡ Ended) × (y ≡ Ended)
end_turn (At m) (At q) e read other = absurd (end_at (ltb m q) (ltb q m) m q e)
end_turn (At m) Unread e read other = cc
end_turn (At m) Ended e read other = cc
end_turn Unread y e read other = absurd (read refl)
end_turn Ended Unread e read other = absurd (other refl)
end_turn Ended (At q) e read other = cc
end_turn Ended Ended e read other = (refl, refl)

-- both images are at their next page frames, or at their ends
pub record AreReady (a b : SideView) (one two : Heading) (p q : Reading) (told : List Difference) : Type 0 where
  pub first_heading : IsHeading a p.frames.numbers.info one
  pub second_heading : IsHeading b q.frames.numbers.info two
  pub first_frames : List SavedFrame
  pub second_frames : List SavedFrame
  pub bound : ℕ
  pub first : IsReading a p first_frames bound
  pub second : IsReading b q second_frames bound
  pub small : bound ≤ no_frame
  pub is : told ≡ heading_differences one two 10 ++ frame_differences first_frames second_frames bound

pub are_ready : (a b : SideView) (c : Comparison) (told : List Difference) (s : HasCompared a b c told) (p q : Reading) → c.parts ≡ 10 → IsReady a s.first_frames s.bound c.first p → IsReady b s.second_frames s.bound c.second q → AreReady a b c.one c.two p q told
are_ready a b c told s p q parts f g = record {
  first_heading = subst (λ (i : List ℕ). IsHeading a i c.one) (sym f.info) s.first_heading;
  second_heading = subst (λ (i : List ℕ). IsHeading b i c.two) (sym g.info) s.second_heading;
  first_frames = s.first_frames ++ f.more;
  second_frames = s.second_frames ++ g.more;
  bound = s.bound;
  first = f.reading;
  second = g.reading;
  small = s.small;
  is = s.is
      ∙ ap (λ (k : ℕ). heading_differences c.one c.two k ++ frame_differences s.first_frames s.second_frames s.bound) parts
      ∙ ap (λ (xs : List Difference). heading_differences c.one c.two 10 ++ xs)
      (sym (differences_still s.first_frames s.second_frames f.more g.more s.bound s.bound f.from g.from (omega arith)));
}

-- a reading whose newest page frame is compared
abbrev pub compared : Reading → Reading
compared r = record { frames = r.frames; place = Unread; page = r.page }

head_of : (v : SideView) (r : Reading) (given : List SavedFrame) (bound p : ℕ) → IsReading v r given bound → r.place ≡ At p → IsHead given bound p r.page
head_of v r given bound p i e = (subst (IsPlace v r given bound) e i.place).1

given_of : (v : SideView) (r : Reading) (given : List SavedFrame) (bound p : ℕ) → IsReading v r given bound → r.place ≡ At p → HasGiven v.content v.blocks v.header r.frames given
given_of v r given bound p i e = (subst (IsPlace v r given bound) e i.place).0

compared_reading : (v : SideView) (r : Reading) (given : List SavedFrame) (bound p : ℕ) → IsReading v r given bound → r.place ≡ At p → IsReading v (compared r) given (p + 1)
compared_reading v r given bound p i e = record {
  place = (
    given_of v r given bound p i e,
    record {
      below = head_below given bound p r.page (head_of v r given bound p i e);
      least = λ n below. head_least given bound p n r.page (head_of v r given bound p i e) below;
    },
  );
}

later_place : (v : SideView) (r : Reading) (given : List SavedFrame) (bound p : ℕ) (place : Place) → bound ≤ p → IsPlace v r given bound place → IsLater p place → IsPlace v r given (p + 1) place × IsGap given bound (p + 1)
later_place v r given bound p Unread le i later = absurd later
later_place v r given bound p (At q) le (h, head) later =
    ((h, head_further given bound (p + 1) q r.page head (omega arith) (omega arith)), head_gap given bound (p + 1) q r.page head (omega arith))
later_place v r given bound p Ended le (below, all) later =
    ((below_further given bound (p + 1) below (omega arith), all), below_gap given bound (p + 1) below)

one_more : (heads xs ys : List Difference) (told : List Difference) (d : Difference) → told ≡ heads ++ xs → ys ≡ xs ++ d ∷ [] → told ++ d ∷ [] ≡ heads ++ ys
one_more heads xs ys told d e f = ap (λ (zs : List Difference). zs ++ d ∷ []) e ∙ append_assoc heads xs (d ∷ []) ∙ ap (λ (zs : List Difference). heads ++ zs) (sym f)

abbrev pub at_frames : Heading → Heading → Reading → Reading → Comparison
at_frames one two p q = record { one = one; two = two; parts = 10; first = p; second = q }

pub step_first : (a b : SideView) (x : ℕ) (one two : Heading) (p q : Reading) (told : List Difference) → AreReady a b one two p q told → p.place ≡ At x → IsLater x q.place → HasCompared a b (at_frames one two (compared p) q) (told ++ difference.FirstAlone x ∷ [])
step_first a b x one two p q told r at later =
    let head = head_of a p r.first_frames r.bound x r.first at in
    let other = later_place b q r.second_frames r.bound x q.place head.above r.second.place later in
    record {
      first_heading = r.first_heading;
      second_heading = r.second_heading;
      first_frames = r.first_frames;
      second_frames = r.second_frames;
      bound = x + 1;
      first = compared_reading a p r.first_frames r.bound x r.first at;
      second = record { place = other.0 };
      small = omega (arith, head.small);
      parts = omega arith;
      order = λ lt. absurd (omega arith);
      is = one_more (heading_differences one two 10) (frame_differences r.first_frames r.second_frames r.bound) (frame_differences r.first_frames r.second_frames (x + 1)) told (difference.FirstAlone x) r.is
          (differences_next r.first_frames r.second_frames r.bound x (Some p.page) None head.above
          (head_gap r.first_frames r.bound x x p.page head (omega arith))
          (λ k from lt. other.1 k from (omega arith))
          (head_page r.first_frames r.bound x p.page head)
          (other.1 x head.above (omega arith)));
    }

pub step_second : (a b : SideView) (x : ℕ) (one two : Heading) (p q : Reading) (told : List Difference) → AreReady a b one two p q told → q.place ≡ At x → IsLater x p.place → HasCompared a b (at_frames one two p (compared q)) (told ++ difference.SecondAlone x ∷ [])
step_second a b x one two p q told r at later =
    let head = head_of b q r.second_frames r.bound x r.second at in
    let other = later_place a p r.first_frames r.bound x p.place head.above r.first.place later in
    record {
      first_heading = r.first_heading;
      second_heading = r.second_heading;
      first_frames = r.first_frames;
      second_frames = r.second_frames;
      bound = x + 1;
      first = record { place = other.0 };
      second = compared_reading b q r.second_frames r.bound x r.second at;
      small = omega (arith, head.small);
      parts = omega arith;
      order = λ lt. absurd (omega arith);
      is = one_more (heading_differences one two 10) (frame_differences r.first_frames r.second_frames r.bound) (frame_differences r.first_frames r.second_frames (x + 1)) told (difference.SecondAlone x) r.is
          (differences_next r.first_frames r.second_frames r.bound x None (Some q.page) head.above
          (λ k from lt. other.1 k from (omega arith))
          (head_gap r.second_frames r.bound x x q.page head (omega arith))
          (other.1 x head.above (omega arith))
          (head_page r.second_frames r.bound x q.page head));
    }

-- what two pages of a page frame give
abbrev pub page_difference : ℕ → Bool → List Difference
page_difference p true = []
page_difference p false = difference.Page p ∷ []

page_differs : (p : ℕ) (t : Bool) → cond t [] (difference.Page p ∷ []) ≡ page_difference p t
page_differs p true = refl
page_differs p false = refl

pub step_both : (a b : SideView) (x : ℕ) (one two : Heading) (p q : Reading) (told : List Difference) (t : Bool) → AreReady a b one two p q told → p.place ≡ At x → q.place ≡ At x → pointwise nat_eq p.page q.page ≡ t → HasCompared a b (at_frames one two (compared p) (compared q)) (told ++ page_difference x t)
step_both a b x one two p q told t r at other is =
    let head = head_of a p r.first_frames r.bound x r.first at in
    let second = head_of b q r.second_frames r.bound x r.second other in
    let next = differences_next r.first_frames r.second_frames r.bound x (Some p.page) (Some q.page) head.above
    (head_gap r.first_frames r.bound x x p.page head (omega arith))
    (head_gap r.second_frames r.bound x x q.page second (omega arith))
    (head_page r.first_frames r.bound x p.page head)
    (head_page r.second_frames r.bound x q.page second) in
    record {
      first_heading = r.first_heading;
      second_heading = r.second_heading;
      first_frames = r.first_frames;
      second_frames = r.second_frames;
      bound = x + 1;
      first = compared_reading a p r.first_frames r.bound x r.first at;
      second = compared_reading b q r.second_frames r.bound x r.second other;
      small = omega (arith, head.small);
      parts = omega arith;
      order = λ lt. absurd (omega arith);
      is =
          ap (λ (zs : List Difference). zs ++ page_difference x t) r.is
          ∙ append_assoc (heading_differences one two 10) (frame_differences r.first_frames r.second_frames r.bound) (page_difference x t)
          ∙ ap (λ (zs : List Difference). heading_differences one two 10 ++ zs)
          (sym (next ∙ ap (λ (zs : List Difference). frame_differences r.first_frames r.second_frames r.bound ++ zs)
          (ap (λ (u : Bool). cond u [] (difference.Page x ∷ [])) is ∙ page_differs x t)));
    }

-- all ten parts are compared
pub all_parts : (a b : SideView) (parts : ℕ) (one two : Heading) (p q : Reading) (told : List Difference) → parts ≡ 10 → HasCompared a b (at_frames one two p q) told → HasCompared a b (record { one = one; two = two; parts = parts; first = p; second = q }) told
all_parts a b parts one two p q told e h =
    subst (λ (k : ℕ). HasCompared a b (record { one = one; two = two; parts = k; first = p; second = q }) told) (sym e) h

pub fewer_left : (r : Reading) (p : ℕ) → r.place ≡ At p → frames_left (compared r) < frames_left r
fewer_left r p e = subst (λ (x : Place). frames_left (compared r) < left_at r.frames x) (sym e) (omega arith)

pub fewer_both : (c : Comparison) (p q : Reading) (x : ℕ) → p.place ≡ At x → q.place ≡ At x → frames_left p ≤ frames_left c.first → frames_left q ≤ frames_left c.second → frames_left (compared p) + frames_left (compared q) < frames_left c.first + frames_left c.second
fewer_both c p q x at other f g =
    let first = fewer_left p x at in
    let second = fewer_left q x other in
    sum_less (frames_left (compared p)) (frames_left (compared q)) (frames_left p) (frames_left q) (frames_left c.first) (frames_left c.second) first second f g where
      sum_less : (s t u v m n : ℕ) → s < u → t < v → u ≤ m → v ≤ n → s + t < m + n
      sum_less s t u v m n i j k l = omega arith

pub step_end : (a a' b b' : SideView) (one two : Heading) (p q : Reading) (told : List Difference) → AreReady a b one two p q told → p.place ≡ Ended → q.place ≡ Ended → AreCompared a a' b b' told
step_end a a' b b' one two p q told r at other =
    let first = subst (IsPlace a p r.first_frames r.bound) at r.first.place in
    let second = subst (IsPlace b q r.second_frames r.bound) other r.second.place in
    record {
      first = record { heading = one; frames = r.first_frames };
      second = record { heading = two; frames = r.second_frames };
      first_info = p.frames.numbers.info;
      second_info = q.frames.numbers.info;
      first_heading = r.first_heading;
      second_heading = r.second_heading;
      first_all = first.1 a.faults a'.faults;
      second_all = second.1 b.faults b'.faults;
      is = r.is ∙ ap (λ (zs : List Difference). heading_differences one two 10 ++ zs)
          (sym (differences_gap r.first_frames r.second_frames r.bound no_frame r.small
          (below_gap r.first_frames r.bound no_frame first.0)
          (below_gap r.second_frames r.bound no_frame second.0)));
    }
