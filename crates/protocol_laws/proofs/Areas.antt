-- Header blocks that agree but for bytes 4056 to 4085 say the same of the area.
use Rattle.std.proofs.Common.{◌≡◌, ℕ, ◌+◌, ◌-◌, ◌*◌, ◌++◌, replicate, Option, Some, None, ◌<◌, ◌≤◌, inl, inr, Bool, true, false, cond, eqb, ltb, nat_eq, List, map, take, drop, min, refl, sym, ap, ap₂, ◌∙◌, arith}
use Rattle.std.specs.List.{range_with_len}
use Rattle.std.specs.Cmp.Lexicographic.{pointwise, same_text}
use Rattle.std.proofs.lemmas.Bool.{cases_Bool, cases_lt, false≢true, cond-true, cond-false, lt-ltb}
use Rattle.std.proofs.lemmas.List.{ext_get_or, get_or-take, length-take, take-take, drop-take}
use Rattle.std.proofs.lemmas.List.FromFn.{length-map-range_with_len, get_or-map-range_with_len}
use Rattle.definitions.specs.Bytes.{AgreeBut, bytes_at, number_at}
use Rattle.definitions.specs.SwapHeader.{IsMarked, image_signature, old_signature, area_signature, sig_of, version_of, last_page_of, bad_count_of, bad_pages_of, first_outside}
use Rattle.definitions.proofs.PageBytes.{bytes_at-same, number_at-same}
use Rattle.image_format.specs.AreaKind.{area_kind, area_of, area_with, version_1_kind, mark_of}
use Rattle.image_format.specs.declared.signature.area.Area.{Area}
use Rattle.image_format.specs.declared.signature.area.Mark.{Mark}
use Rattle.image_format.specs.declared.signature.area.AreaFault.TheVariants.{Version, BadCount, LastZero}
use Rattle.image_format.specs.declared.signature.area.AreaKind.{AreaKind}
use Rattle.image_format.specs.declared.signature.area.AreaKind.TheVariants.{Image, Old, Other, BadArea, Swap}
use Rattle.plain_machine.specs.Stands.{AgreeOnArea}

-- a number of the first 4056 bytes is one of the front
bytes_of_front : (p : List ℕ) (k : ℕ) → k + 4 ≤ 4056 → bytes_at 4 p k ≡ drop k (take (k + 4) (take 4056 p))
bytes_of_front p k le = sym (drop-take k 4 p) ∙ ap (drop k) (sym (take-take (k + 4) 4056 p le))

pub number_same : (p q : List ℕ) (k : ℕ) → AgreeOnArea p q → k + 4 ≤ 4056 → number_at 4 p k ≡ number_at 4 q k
number_same p q k agree le =
    number_at-same 4 p q k (bytes_of_front p k le ∙ ap (λ (front : List ℕ). drop k (take (k + 4) front)) agree.front ∙ sym (bytes_of_front q k le))

pub sig_same : (p q : List ℕ) → AgreeBut 4056 4086 p q → sig_of p ≡ sig_of q
sig_same p q agree = bytes_at-same 10 p q 4086 agree.size (λ i from to. agree.after i from)

bad_pages_same : (p q : List ℕ) (n : ℕ) → AgreeOnArea p q → n ≤ 630 → bad_pages_of p n ≡ bad_pages_of q n
unfolding bad_pages_of
bad_pages_same p q n agree few =
    let f : ℕ → ℕ = λ i. number_at 4 p (1536 + 4 * i) in
    let g : ℕ → ℕ = λ i. number_at 4 q (1536 + 4 * i) in
    let size = length-map-range_with_len f 0 n in
    let other = length-map-range_with_len g 0 n in
    ext_get_or 0 (map f (range_with_len 0 n)) (map g (range_with_len 0 n)) (size ∙ sym other)
    (λ i lt. let here : i < n = omega arith in
    get_or-map-range_with_len f 0 n i i 0 here (omega arith) ∙ number_same p q (1536 + 4 * i) agree (omega arith) ∙ sym (get_or-map-range_with_len g 0 n i i 0 here (omega arith)))

area_of_same : (p q : List ℕ) → AgreeOnArea p q → bad_count_of p ≤ 630 → area_of p ≡ area_of q
unfolding area_of
area_of_same p q agree few =
    let count = number_same p q 1032 agree (omega arith) in
    let last = number_same p q 1028 agree (omega arith) in
    let bad : bad_pages_of p (bad_count_of p) ≡ bad_pages_of q (bad_count_of q) = bad_pages_same p q (bad_count_of p) agree few ∙ ap (bad_pages_of q) count in
    ap₂ (λ (l : ℕ) (b : List ℕ). area_with_fields l (bad_count_of p) b) last bad ∙ ap (λ (n : ℕ). area_with_fields (last_page_of q) n (bad_pages_of q (bad_count_of q))) count where
      area_with_fields : ℕ → ℕ → List ℕ → Area
      area_with_fields l n b = record { last = l; count = n; bad = b ++ replicate (630 - n) 0 }

pub agree_on_area : (p q : List ℕ) → AgreeBut 4056 4086 p q → AgreeOnArea p q
agree_on_area p q agree =
    let a = length-take 4056 p in
    let b = length-take 4056 q in
    let size = agree.size in
    record {
      front = ext_get_or 0 (take 4056 p) (take 4056 q) (a ∙ ap (λ (n : ℕ). min 4056 n) size ∙ sym b)
          (λ i lt. let here : i < 4056 = omega arith in get_or-take 4056 p i 0 here ∙ agree.before i here ∙ sym (get_or-take 4056 q i 0 here));
      signature = sig_same p q agree;
    }

area_with_same : (p q : List ℕ) (found : Option ℕ) → area_of p ≡ area_of q → area_with p found ≡ area_with q found
area_with_same p q None same = ap Swap same
area_with_same p q (Some slot) same = refl

fields_same : (p q : List ℕ) → AgreeOnArea p q → (bad_count_of p ≤ 630) → area_with p (first_outside (last_page_of p) (bad_pages_of p (bad_count_of p))) ≡ area_with q (first_outside (last_page_of q) (bad_pages_of q (bad_count_of q)))
fields_same p q agree few =
    let count = number_same p q 1032 agree (omega arith) in
    let last = number_same p q 1028 agree (omega arith) in
    let bad : bad_pages_of p (bad_count_of p) ≡ bad_pages_of q (bad_count_of q) = bad_pages_same p q (bad_count_of p) agree few ∙ ap (bad_pages_of q) count in
    area_with_same p q (first_outside (last_page_of p) (bad_pages_of p (bad_count_of p))) (area_of_same p q agree few)
    ∙ ap₂ (λ (l : ℕ) (b : List ℕ). area_with q (first_outside l b)) last bad

behind_count : (n m : ℕ) (x y : AreaKind) → n ≡ m → (n ≤ 630 → x ≡ y) → cond (ltb 630 n) (BadArea (BadCount n)) x ≡ cond (ltb 630 m) (BadArea (BadCount m)) y
behind_count n m x y same few = elim (cases_Bool (ltb 630 n)) [
  | inl many ↦ cond-true (ltb 630 n) (BadArea (BadCount n)) x many ∙ ap (λ (k : ℕ). BadArea (BadCount k)) same ∙ sym (cond-true (ltb 630 m) (BadArea (BadCount m)) y (ap (ltb 630) (sym same) ∙ many))
  | inr small ↦
      let le : n ≤ 630 = at_most n small in
      cond-false (ltb 630 n) (BadArea (BadCount n)) x small ∙ few le ∙ sym (cond-false (ltb 630 m) (BadArea (BadCount m)) y (ap (ltb 630) (sym same) ∙ small))
] where
  at_most : (k : ℕ) → ltb 630 k ≡ false → k ≤ 630
  at_most k e = elim (cases_lt 630 k) [ inl lt ↦ absurd (false≢true (sym e ∙ lt-ltb 630 k lt)) | inr le ↦ le ]

version_same : (p q : List ℕ) → AgreeOnArea p q → version_1_kind p ≡ version_1_kind q
version_same p q agree =
    let version = number_same p q 1024 agree (omega arith) in
    let count = number_same p q 1032 agree (omega arith) in
    let last = number_same p q 1028 agree (omega arith) in
    let inner : (bad_count_of p ≤ 630) → cond (eqb (last_page_of p) 0) (BadArea LastZero) (area_with p (first_outside (last_page_of p) (bad_pages_of p (bad_count_of p))))
    ≡ cond (eqb (last_page_of q) 0) (BadArea LastZero) (area_with q (first_outside (last_page_of q) (bad_pages_of q (bad_count_of q)))) =
    λ few. ap₂ (λ (l : ℕ) (kind : AreaKind). cond (eqb l 0) (BadArea LastZero) kind) last (fields_same p q agree few) in
    let counted = behind_count (bad_count_of p) (bad_count_of q) (cond (eqb (last_page_of p) 0) (BadArea LastZero) (area_with p (first_outside (last_page_of p) (bad_pages_of p (bad_count_of p)))))
    (cond (eqb (last_page_of q) 0) (BadArea LastZero) (area_with q (first_outside (last_page_of q) (bad_pages_of q (bad_count_of q))))) count inner in
    ap₂ (λ (v : ℕ) (kind : AreaKind). cond (eqb v 1) kind (BadArea (Version v))) version counted

false_of : (b : Bool) → (b ≡ true → ⊥) → b ≡ false
false_of true never = absurd (never refl)
false_of false never = refl

kind_behind : (p sig : List ℕ) (b : Bool) → b ≡ false →
    cond b (Image (mark_of p)) (cond (pointwise nat_eq sig old_signature) Old (cond (pointwise nat_eq sig area_signature) (version_1_kind p) (Other sig)))
    ≡ cond (pointwise nat_eq sig old_signature) Old (cond (pointwise nat_eq sig area_signature) (version_1_kind p) (Other sig))
kind_behind p sig true e = absurd (false≢true (sym e))
kind_behind p sig false e = refl

-- of blocks without an image's signature
kind_same : (p q : List ℕ) → AgreeOnArea p q → pointwise nat_eq (sig_of p) image_signature ≡ false → area_kind p ≡ area_kind q
unfolding area_kind
kind_same p q agree not_image =
    let sig = agree.signature in
    kind_behind p (sig_of p) (pointwise nat_eq (sig_of p) image_signature) not_image
    ∙ ap₂ (λ (s : List ℕ) (kind : AreaKind). cond (pointwise nat_eq s old_signature) Old (cond (pointwise nat_eq s area_signature) kind (Other s))) sig (version_same p q agree)
    ∙ sym (kind_behind q (sig_of q) (pointwise nat_eq (sig_of q) image_signature) (ap (λ (s : List ℕ). pointwise nat_eq s image_signature) (sym sig) ∙ not_image))

pub area_kind_same : (p q : List ℕ) → AgreeBut 4056 4086 p q → (IsMarked p → ⊥) → area_kind p ≡ area_kind q
area_kind_same p q agree unmarked =
    kind_same p q (agree_on_area p q agree)
    (false_of (pointwise nat_eq (sig_of p) image_signature) (λ e. unmarked (same_text (sig_of p) image_signature (sym e))))

image_kind : (p : List ℕ) → pointwise nat_eq (sig_of p) image_signature ≡ true → area_kind p ≡ Image (mark_of p)
unfolding area_kind
image_kind p is = ap (λ (b : Bool). cond b (Image (mark_of p)) (cond (pointwise nat_eq (sig_of p) old_signature) Old (cond (pointwise nat_eq (sig_of p) area_signature) (version_1_kind p) (Other (sig_of p))))) is

-- what is the same of all marks is the same of both blocks
pub same_of_kinds : {A : Type 0} (f : AreaKind → A) (p q : List ℕ) → AgreeOnArea p q → ((m n : Mark) → f (Image m) ≡ f (Image n)) → f (area_kind p) ≡ f (area_kind q)
same_of_kinds f p q agree marks = elim (cases_Bool (pointwise nat_eq (sig_of p) image_signature)) [
  | inl image ↦
      let other : pointwise nat_eq (sig_of q) image_signature ≡ true = ap (λ (s : List ℕ). pointwise nat_eq s image_signature) (sym agree.signature) ∙ image in
      ap f (image_kind p image) ∙ marks (mark_of p) (mark_of q) ∙ sym (ap f (image_kind q other))
  | inr not_image ↦ ap f (kind_same p q agree not_image)
]

-- the last page of an area is the block's

abbrev last_in : ℕ → AreaKind → ℕ
last_in default (Swap area) = area.last
last_in default (Image mark) = default
last_in default Old = default
last_in default (Other sig) = default
last_in default (BadArea why) = default

last_with : (page : List ℕ) (found : Option ℕ) → last_in (last_page_of page) (area_with page found) ≡ last_page_of page
unfolding area_of
last_with page None = refl
last_with page (Some slot) = refl

last_tests : (default : ℕ) (b c d e f g : Bool) (x y z u v w t : AreaKind) → last_in default x ≡ default → last_in default y ≡ default → last_in default z ≡ default → last_in default u ≡ default → last_in default v ≡ default → last_in default w ≡ default → last_in default t ≡ default →
    last_in default (cond b x (cond c y (cond d (cond e (cond f z (cond g u v)) w) t))) ≡ default
last_tests default true c d e f g x y z u v w t ex ey ez eu ev ew et = ex
last_tests default false true d e f g x y z u v w t ex ey ez eu ev ew et = ey
last_tests default false false true true true g x y z u v w t ex ey ez eu ev ew et = ez
last_tests default false false true true false true x y z u v w t ex ey ez eu ev ew et = eu
last_tests default false false true true false false x y z u v w t ex ey ez eu ev ew et = ev
last_tests default false false true false f g x y z u v w t ex ey ez eu ev ew et = ew
last_tests default false false false e f g x y z u v w t ex ey ez eu ev ew et = et

last_in_kind : (page : List ℕ) → last_in (last_page_of page) (area_kind page) ≡ last_page_of page
unfolding area_kind
last_in_kind page =
    last_tests (last_page_of page) (pointwise nat_eq (sig_of page) image_signature) (pointwise nat_eq (sig_of page) old_signature) (pointwise nat_eq (sig_of page) area_signature) (eqb (version_of page) 1) (ltb 630 (bad_count_of page)) (eqb (last_page_of page) 0)
    (Image (mark_of page)) Old (BadArea (BadCount (bad_count_of page))) (BadArea LastZero) (area_with page (first_outside (last_page_of page) (bad_pages_of page (bad_count_of page)))) (BadArea (Version (version_of page))) (Other (sig_of page))
    refl refl refl refl (last_with page (first_outside (last_page_of page) (bad_pages_of page (bad_count_of page)))) refl refl

pub last_of_swap : (page : List ℕ) (area : Area) → area_kind page ≡ Swap area → area.last ≡ last_page_of page
last_of_swap page area is = sym (ap (last_in (last_page_of page)) is) ∙ last_in_kind page
