-- The differences of page frames that are given one after another.
use Rattle.std.proofs.Common.{◌≡◌, ℕ, ◌+◌, ◌-◌, ◌<◌, ◌≤◌, Bool, cond, eqb, zero, suc, All, List, [], ◌∷◌, ◌++◌, length, Option, Some, None, flat_map, refl, sym, ap, subst, ◌∙◌, arith, append-nil, length-append}
use Rattle.std.specs.List.{range_with_len}
use Rattle.std.proofs.lemmas.Bool.{eq-eqb, ne_eqb}
use Rattle.std.proofs.lemmas.List.Concat.{flat_map-append}
use Rattle.std.proofs.lemmas.List.Elements.{All-head, All-nil, All-tail, All-push, All-weaker}
use Rattle.std.proofs.Math.Seq.{get_or-append_seam}
use Rattle.image_pages.specs.Given.{frame_of}
use Rattle.image_pages.specs.SavedFrames.{SavedFrame}
use Rattle.image_differ.specs.Differences.{difference_at, frame_differences, page_of}
use Rattle.image_differ.specs.Readings.{AreBelow, AreFrom, IsHead}
use Rattle.image_differ.specs.declared.difference.Difference.{Difference}

-- one number more of a range
last : (a n : ℕ) → range_with_len a (suc n) ≡ range_with_len a n ++ (a + n) ∷ []
last a zero = ap (λ (k : ℕ). k ∷ []) (let e : a ≡ a + 0 = omega arith in e)
last a (suc n) = ap (λ (xs : List ℕ). a ∷ xs) (last (a + 1) n ∙ ap (λ (k : ℕ). range_with_len (a + 1) n ++ k ∷ []) (let e : a + 1 + n ≡ a + suc n = omega arith in e))

pub flat_more : {A : Type 0} (f : ℕ → List A) (n : ℕ) → flat_map f (range_with_len 0 (n + 1)) ≡ flat_map f (range_with_len 0 n) ++ f n
flat_more {A = A} f n =
    ap (λ (k : ℕ). flat_map f (range_with_len 0 k)) (let e : n + 1 ≡ suc n = omega arith in e)
    ∙ ap (flat_map f) (last 0 n ∙ ap (λ (k : ℕ). range_with_len 0 n ++ k ∷ []) (let e : 0 + n ≡ n = omega arith in e))
    ∙ flat_map-append f (range_with_len 0 n) (n ∷ [])
    ∙ ap (λ (ys : List A). flat_map f (range_with_len 0 n) ++ ys) (append-nil (f n))

-- a page frame of another number
skipped : {A : Type 0} (a b : ℕ) (x y : A) → (a ≡ b → ⊥) → cond (eqb a b) x y ≡ y
skipped a b x y ne = ap (λ (t : Bool). cond t x y) (ne_eqb a b ne)

abbrev Lacks : ℕ → List SavedFrame → Type 0
Lacks p given = All (λ (g : SavedFrame). g.number ≡ p → ⊥) given

pub lacking : (p : ℕ) (given : List SavedFrame) → Lacks p given → page_of p given ≡ None
lacking p [] h = refl
lacking p (g ∷ given) h =
    skipped g.number p (Some g.page) (page_of p given) (All-head (λ (x : SavedFrame). x.number ≡ p → ⊥) g given h)
    ∙ lacking p given (All-tail (λ (x : SavedFrame). x.number ≡ p → ⊥) g given h)

pub page_of_front : (p : ℕ) (given more : List SavedFrame) → Lacks p more → page_of p (given ++ more) ≡ page_of p given
page_of_front p [] more h = lacking p more h
page_of_front p (g ∷ given) more h = ap (λ (o : Option (List ℕ)). cond (eqb g.number p) (Some g.page) o) (page_of_front p given more h)

page_of_last : (p : ℕ) (before : List SavedFrame) (page : List ℕ) → Lacks p before → page_of p (before ++ frame_of p page ∷ []) ≡ Some page
page_of_last p [] page h = ap (λ (t : Bool). cond t (Some page) None) (eq-eqb p p refl)
page_of_last p (g ∷ before) page h =
    skipped g.number p (Some g.page) (page_of p (before ++ frame_of p page ∷ [])) (All-head (λ (x : SavedFrame). x.number ≡ p → ⊥) g before h)
    ∙ page_of_last p before page (All-tail (λ (x : SavedFrame). x.number ≡ p → ⊥) g before h)

below_lacks : (bound p : ℕ) (given : List SavedFrame) → AreBelow bound given → bound ≤ p → Lacks p given
below_lacks bound p given h le = All-weaker (λ (g : SavedFrame). g.number < bound) (λ (g : SavedFrame). g.number ≡ p → ⊥) (λ g lt e. omega (arith, lt, e)) given h

from_lacks : (bound p : ℕ) (given : List SavedFrame) → AreFrom bound given → p < bound → Lacks p given
from_lacks bound p given h lt = All-weaker (λ (g : SavedFrame). bound ≤ g.number) (λ (g : SavedFrame). g.number ≡ p → ⊥) (λ g le e. omega (arith, le, e)) given h

-- no page frame from the bound up to before a number
abbrev pub IsGap : List SavedFrame → (bound p : ℕ) → Type 0
IsGap given bound p = (k : ℕ) → bound ≤ k → k < p → page_of k given ≡ None

pub below_gap : (given : List SavedFrame) (bound p : ℕ) → AreBelow bound given → IsGap given bound p
below_gap given bound p h = λ k le lt. lacking k given (below_lacks bound k given h le)

pub head_gap : (given : List SavedFrame) (bound p q : ℕ) (page : List ℕ) → IsHead given bound q page → p ≤ q → IsGap given bound p
head_gap given bound p q page h le = λ k from lt.
    ap (page_of k) h.is
    ∙ page_of_front k h.before (frame_of q page ∷ []) (All-push (λ (x : SavedFrame). x.number ≡ k → ⊥) [] (frame_of q page) (All-nil (λ (x : SavedFrame). x.number ≡ k → ⊥)) (λ e. omega arith))
    ∙ lacking k h.before (below_lacks bound k h.before h.below from)

pub head_page : (given : List SavedFrame) (bound p : ℕ) (page : List ℕ) → IsHead given bound p page → page_of p given ≡ Some page
head_page given bound p page h = ap (page_of p) h.is ∙ page_of_last p h.before page (below_lacks bound p h.before h.below h.above)

-- a compared page frame is below what comes after it
pub head_below : (given : List SavedFrame) (bound p : ℕ) (page : List ℕ) → IsHead given bound p page → AreBelow (p + 1) given
head_below given bound p page h =
    let above = h.above in
    subst (λ (x : List SavedFrame). AreBelow (p + 1) x) (sym h.is)
    (All-push (λ (g : SavedFrame). g.number < p + 1) h.before (frame_of p page)
    (All-weaker (λ (g : SavedFrame). g.number < bound) (λ (g : SavedFrame). g.number < p + 1) (λ g lt. omega (arith, lt)) h.before h.below)
    (let lt : p < p + 1 = omega arith in lt))

-- what is above all page frames is above a compared one
pub head_least : (given : List SavedFrame) (bound p n : ℕ) (page : List ℕ) → IsHead given bound p page → AreBelow n given → p + 1 ≤ n
head_least given bound p n page h below =
    let all = subst (λ (x : List SavedFrame). AreBelow n x) h.is below in
    let size = length-append h.before (frame_of p page ∷ []) in
    let lt : p < n = subst (λ (x : SavedFrame). x.number < n) (get_or-append_seam h.before (frame_of p page) [] (frame_of 0 [])) (all (length h.before) (frame_of 0 []) (omega arith)) in
    omega arith

pub below_further : (given : List SavedFrame) (bound p : ℕ) → AreBelow bound given → bound ≤ p → AreBelow p given
below_further given bound p h le = All-weaker (λ (g : SavedFrame). g.number < bound) (λ (g : SavedFrame). g.number < p) (λ g lt. omega (arith, lt)) given h

pub head_further : (given : List SavedFrame) (bound p q : ℕ) (page : List ℕ) → IsHead given bound q page → bound ≤ p → p ≤ q → IsHead given p q page
head_further given bound p q page h le more = record {
  before = h.before;
  is = h.is;
  below = below_further h.before bound p h.below le;
  above = more;
  small = h.small;
}

pub differences_none : (a b : List SavedFrame) → frame_differences a b 0 ≡ []
unfolding frame_differences
differences_none a b = refl

frames_more : (a b : List SavedFrame) (n : ℕ) → frame_differences a b (n + 1) ≡ frame_differences a b n ++ difference_at n (page_of n a) (page_of n b)
unfolding frame_differences
frames_more a b n = flat_more (λ p. difference_at p (page_of p a) (page_of p b)) n

-- page frames from the bound on change nothing below it
pub differences_still : (a b more others : List SavedFrame) (bound n : ℕ) → AreFrom bound more → AreFrom bound others → n ≤ bound → frame_differences (a ++ more) (b ++ others) n ≡ frame_differences a b n
differences_still a b more others bound zero f g le = differences_none (a ++ more) (b ++ others) ∙ sym (differences_none a b)
differences_still a b more others bound (suc m) f g le =
    let next : suc m ≡ m + 1 = omega arith in
    let before = differences_still a b more others bound m f g (omega arith) in
    ap (frame_differences (a ++ more) (b ++ others)) next
    ∙ frames_more (a ++ more) (b ++ others) m
    ∙ ap (λ (xs : List Difference). xs ++ difference_at m (page_of m (a ++ more)) (page_of m (b ++ others))) before
    ∙ ap (λ (o : Option (List ℕ)). frame_differences a b m ++ difference_at m o (page_of m (b ++ others))) (page_of_front m a more (from_lacks bound m more f (omega arith)))
    ∙ ap (λ (o : Option (List ℕ)). frame_differences a b m ++ difference_at m (page_of m a) o) (page_of_front m b others (from_lacks bound m others g (omega arith)))
    ∙ sym (frames_more a b m)
    ∙ ap (frame_differences a b) (sym next)

-- there is no difference in a gap
gap_by : (a b : List SavedFrame) (bound d : ℕ) → IsGap a bound (bound + d) → IsGap b bound (bound + d) → frame_differences a b (bound + d) ≡ frame_differences a b bound
gap_by a b bound zero f g = ap (frame_differences a b) (let e : bound + 0 ≡ bound = omega arith in e)
gap_by a b bound (suc d) f g =
    let next : bound + suc d ≡ bound + d + 1 = omega arith in
    let k = bound + d in
    ap (frame_differences a b) next
    ∙ frames_more a b k
    ∙ ap (λ (o : Option (List ℕ)). frame_differences a b k ++ difference_at k o (page_of k b)) (f k (omega arith) (omega arith))
    ∙ ap (λ (o : Option (List ℕ)). frame_differences a b k ++ difference_at k None o) (g k (omega arith) (omega arith))
    ∙ append-nil (frame_differences a b k)
    ∙ gap_by a b bound d (λ i le lt. f i le (omega arith)) (λ i le lt. g i le (omega arith))

pub differences_gap : (a b : List SavedFrame) (bound p : ℕ) → bound ≤ p → IsGap a bound p → IsGap b bound p → frame_differences a b p ≡ frame_differences a b bound
differences_gap a b bound p le f g =
    let all : bound + (p - bound) ≡ p = omega arith in
    ap (frame_differences a b) (sym all)
    ∙ gap_by a b bound (p - bound) (λ k from lt. f k from (omega arith)) (λ k from lt. g k from (omega arith))

-- after a gap comes a page frame
pub differences_next : (a b : List SavedFrame) (bound p : ℕ) (x y : Option (List ℕ)) → bound ≤ p → IsGap a bound p → IsGap b bound p → page_of p a ≡ x → page_of p b ≡ y → frame_differences a b (p + 1) ≡ frame_differences a b bound ++ difference_at p x y
differences_next a b bound p x y le f g e h =
    frames_more a b p
    ∙ ap (λ (xs : List Difference). xs ++ difference_at p (page_of p a) (page_of p b)) (differences_gap a b bound p le f g)
    ∙ ap (λ (o : Option (List ℕ)). frame_differences a b bound ++ difference_at p o (page_of p b)) e
    ∙ ap (λ (o : Option (List ℕ)). frame_differences a b bound ++ difference_at p x o) h
