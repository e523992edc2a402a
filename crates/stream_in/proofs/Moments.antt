-- Moments of a disk, over several calls.
use Rattle.std.proofs.Common.{◌≡◌, ℕ, ◌+◌, ◌*◌, ◌/◌, ◌%◌, ◌<◌, ◌≤◌, zero, suc, Bool, true, false, cond, eqb, List, [], ◌∷◌, Contains, length, get_or, map, Option, Some, None, IfSome, IsSome, refl, sym, ap, ◌∙◌, subst, inl, inr, ⊎_elim, arith, zero-add}
use Rattle.std.specs.List.{list_any, range_with_len}
use Rattle.std.proofs.lemmas.Bool.{cases_Bool, eqb-true, eq-eqb, both_ways}
use Rattle.std.proofs.lemmas.List.{get_or_default}
use Rattle.std.proofs.lemmas.List.FromFn.{length-map-range_with_len, get_or-map-range_with_len}
use Rattle.std.proofs.lemmas.List.Folds.{Any-from_list_any, list_any_at}
use Rattle.definitions.specs.Slots.{block_of}
use Rattle.definitions.specs.Disk.{Content, DiskImage, Sector, IsContent, IsImage, IsMixture, Changes, Elapses, Syncs, as_it_reads, settled, sector}
use Rattle.definitions.proofs.DiskLaws.{IsImage-as_it_reads, length-as_it_reads}
use Rattle.stream_in.specs.Outside.{IsBlockOf, KeepsOutside}
use Rattle.stream_in.specs.Moments.{ElapsesAlike, AgreeOutside, ElapsesOutside}

-- A call by which no image is added.

-- what the disk's laws say of the images of now
abbrev pub CountsNow : ℕ → (ℕ → DiskImage → Type 0) → Option Content → Type 0
CountsNow m past a = (t : ℕ) (v : DiskImage) → t ≤ m → IfSome a (λ held. IsImage held v → past t v)

alike_one : (m n : ℕ) (past since : ℕ → DiskImage → Type 0) (x y : Content) → Elapses m n past since x y → ((v : DiskImage) → IsMixture x y v → IsImage x v) → ((t : ℕ) (v : DiskImage) → t ≤ m → IsImage x v → past t v) → ElapsesAlike m n past since
alike_one m n past since x y elapses old counts = record {
  later = elapses.later;
  keeps = elapses.keeps;
  nothing_else = λ t v le left. ⊎_elim (λ (p : past t v). p) (λ (mixed : IsMixture x y v). counts t v le (old v mixed)) (elapses.nothing_else t v le left);
}

pub alike_call : (m n : ℕ) (past since : ℕ → DiskImage → Type 0) (a b : Option Content) → IsSome a → Changes (Elapses m n past since) a b → Changes (λ x y. (v : DiskImage) → IsMixture x y v → IsImage x v) a b → CountsNow m past a → ElapsesAlike m n past since
alike_call m n past since None b told elapses old counts = absurd (cc)
alike_call m n past since (Some x) None told elapses old counts = absurd elapses
alike_call m n past since (Some x) (Some y) told elapses old counts = alike_one m n past since x y elapses old counts

pub alike_none : (m : ℕ) (past : ℕ → DiskImage → Type 0) → ElapsesAlike m m past past
alike_none m past = record { later = omega arith; keeps = λ t v le p. p; nothing_else = λ t v le p. p }

pub alike_then : (m n o : ℕ) (p q r : ℕ → DiskImage → Type 0) → ElapsesAlike m n p q → ElapsesAlike n o q r → ElapsesAlike m o p r
alike_then m n o p q r first second =
    let le = first.later in
    let le' = second.later in
    record {
      later = omega arith;
      keeps = λ t v before left. second.keeps t v (omega arith) (first.keeps t v before left);
      nothing_else = λ t v before left. first.nothing_else t v before (second.nothing_else t v (omega arith) left);
    }

-- a mixture of a content and the same content, or of a content and what a sync makes of it
mixture_same : (x : Content) (v : DiskImage) → IsMixture x x v → IsImage x v
mixture_same x v mixed =
    let size = mixed.size in
    record {
      size = mixed.size;
      chosen = λ s lt. ⊎_elim (λ (c : Contains (sector x s).candidates (get_or v s [])). c) (λ (c : Contains (sector x s).candidates (get_or v s [])). c) (mixed.each s (omega arith));
    }

of_one : (x y : List ℕ) → Contains (x ∷ []) y → y ≡ x
of_one x y (zero, lt, e) = sym e
of_one x y (suc k, lt, e) = absurd (omega arith)

pub settled_candidate : (u : DiskImage) (s : ℕ) (x : List ℕ) → s < length u → Contains (sector (settled u) s).candidates x → x ≡ get_or u s []
settled_candidate [] s x lt in' = absurd (omega arith)
settled_candidate (y ∷ u) zero x lt in' = of_one y x in'
settled_candidate (y ∷ u) (suc s) x lt in' = settled_candidate u s x (omega arith) in'

mixture_synced : (blocks : ℕ) (x y : Content) (v : DiskImage) → IsContent blocks x → Syncs x y → IsMixture x y v → IsImage x v
mixture_synced blocks x y v is synced mixed =
    let size = mixed.size in
    let reads = length-as_it_reads x in
    let live = IsImage-as_it_reads blocks x is in
    record {
      size = mixed.size;
      chosen = λ s lt. ⊎_elim (λ (c : Contains (sector x s).candidates (get_or v s [])). c)
          (λ (c : Contains (sector y s).candidates (get_or v s [])).
          let at : get_or v s [] ≡ get_or (as_it_reads x) s [] = settled_candidate (as_it_reads x) s (get_or v s []) (omega arith) (subst (λ (z : Content). Contains (sector z s).candidates (get_or v s [])) synced c) in
          subst (λ (bytes : List ℕ). Contains (sector x s).candidates bytes) (sym at) (live.chosen s lt)) (mixed.each s (omega arith));
    }

pub told_same_mixtures : (a b : Option Content) → b ≡ a → Changes (λ x y. (v : DiskImage) → IsMixture x y v → IsImage x v) a b
told_same_mixtures a b e = subst (λ (o : Option Content). Changes (λ x y. (v : DiskImage) → IsMixture x y v → IsImage x v) a o) (sym e) (still a) where
  still : (o : Option Content) → Changes (λ x y. (v : DiskImage) → IsMixture x y v → IsImage x v) o o
  still None = tt
  still (Some x) = mixture_same x

pub told_synced_mixtures : (blocks : ℕ) (a b : Option Content) → IfSome a (IsContent blocks) → Changes Syncs a b → Changes (λ x y. (v : DiskImage) → IsMixture x y v → IsImage x v) a b
told_synced_mixtures blocks None None is synced = tt
told_synced_mixtures blocks None (Some y) is synced = absurd synced
told_synced_mixtures blocks (Some x) None is synced = absurd synced
told_synced_mixtures blocks (Some x) (Some y) is synced = λ v mixed. mixture_synced blocks x y v is synced mixed

-- A call that writes to a block of these slots.

-- whether sector s lies there
within : List (ℕ × ℕ × ℕ) → List ℕ → ℕ → Bool
within extents free s = list_any (λ f. eqb (block_of extents f) (s / 8)) free

within-true : (extents : List (ℕ × ℕ × ℕ)) (free : List ℕ) (s : ℕ) → within extents free s ≡ true → IsBlockOf extents free (s / 8)
unfolding within
within-true extents free s is =
    let any = Any-from_list_any (λ f. eqb (block_of extents f) (s / 8)) free is in
    (any.0, any.2, sym (ap (block_of extents) (get_or_default free any.0 0 any.1 any.2 ∙ any.3) ∙ eqb-true (block_of extents any.1) (s / 8) any.4))

within-false : (extents : List (ℕ × ℕ × ℕ)) (free : List ℕ) (s : ℕ) → within extents free s ≡ false → IsBlockOf extents free (s / 8) → ⊥
unfolding within
within-false extents free s isn't (place, lt, at) =
    both_ways (within extents free s) isn't (list_any_at (λ f. eqb (block_of extents f) (s / 8)) free place 0 lt (eq-eqb (block_of extents (get_or free place 0)) (s / 8) (sym at)))

-- the image with the bytes of before there
sector_before : List (ℕ × ℕ × ℕ) → List ℕ → Content → DiskImage → ℕ → List ℕ
sector_before extents free x v s = cond (within extents free s) (get_or (as_it_reads x) s []) (get_or v s [])

image_before : List (ℕ × ℕ × ℕ) → List ℕ → Content → DiskImage → DiskImage
image_before extents free x v = map (sector_before extents free x v) (range_with_len 0 (length x))

length-before : (extents : List (ℕ × ℕ × ℕ)) (free : List ℕ) (x : Content) (v : DiskImage) → length (image_before extents free x v) ≡ length x
unfolding image_before
length-before extents free x v = length-map-range_with_len (sector_before extents free x v) 0 (length x)

at_before : (extents : List (ℕ × ℕ × ℕ)) (free : List ℕ) (x : Content) (v : DiskImage) (s : ℕ) → s < length x → get_or (image_before extents free x v) s [] ≡ cond (within extents free s) (get_or (as_it_reads x) s []) (get_or v s [])
unfolding image_before sector_before
at_before extents free x v s lt = get_or-map-range_with_len (sector_before extents free x v) 0 (length x) s s [] lt (zero-add s)

is_before : (extents : List (ℕ × ℕ × ℕ)) (free : List ℕ) (blocks : ℕ) (x y : Content) (v : DiskImage) → IsContent blocks x → KeepsOutside extents free x y → IsMixture x y v → IsImage x (image_before extents free x v)
is_before extents free blocks x y v is keeps mixed =
    let live = IsImage-as_it_reads blocks x is in
    let size = mixed.size in
    record {
      size = length-before extents free x v;
      chosen = λ s lt.
          let P : List ℕ → Type 0 = λ bytes. Contains (sector x s).candidates bytes in
          subst P (sym (at_before extents free x v s lt))
          (elim (cases_Bool (within extents free s)) [
            | inl yes' ↦ subst P (sym (ap (λ b. cond b (get_or (as_it_reads x) s []) (get_or v s [])) yes')) (live.chosen s lt)
            | inr no' ↦ subst P (sym (ap (λ b. cond b (get_or (as_it_reads x) s []) (get_or v s [])) no'))
                (⊎_elim (λ (c : Contains (sector x s).candidates (get_or v s [])). c)
                (λ (c : Contains (sector y s).candidates (get_or v s [])).
                let here : 8 * (s / 8) + s % 8 ≡ s = omega arith in
                let same : sector y s ≡ sector x s = ap (sector y) (sym here) ∙ keeps.others (s / 8) (s % 8) (omega arith) (within-false extents free s no') ∙ ap (sector x) here in
                subst (λ (z : Sector). Contains z.candidates (get_or v s [])) same c) (mixed.each s (omega arith)))
          ]);
    }

agree_before : (extents : List (ℕ × ℕ × ℕ)) (free : List ℕ) (x y : Content) (v : DiskImage) → IsMixture x y v → AgreeOutside extents free (image_before extents free x v) v
agree_before extents free x y v mixed =
    let size = length-before extents free x v in
    record {
      size = mixed.size ∙ sym size;
      others = λ s lt not.
          sym (at_before extents free x v s (omega arith) ∙ elim (cases_Bool (within extents free s)) [
            | inl yes' ↦ absurd (not (within-true extents free s yes'))
            | inr no' ↦ ap (λ b. cond b (get_or (as_it_reads x) s []) (get_or v s [])) no'
          ]);
    }

agree_same : (extents : List (ℕ × ℕ × ℕ)) (free : List ℕ) (v : DiskImage) → AgreeOutside extents free v v
agree_same extents free v = record { size = refl; others = λ s lt not. refl }

outside_one : (extents : List (ℕ × ℕ × ℕ)) (free : List ℕ) (blocks m n : ℕ) (past since : ℕ → DiskImage → Type 0) (x y : Content) → IsContent blocks x → Elapses m n past since x y → KeepsOutside extents free x y → ((t : ℕ) (v : DiskImage) → t ≤ m → IsImage x v → past t v) →
    ElapsesOutside extents free m n past since
outside_one extents free blocks m n past since x y is elapses keeps counts = record {
  later = elapses.later;
  keeps = elapses.keeps;
  nothing_else = λ t v le left. elim (elapses.nothing_else t v le left) [
    | inl p ↦ (v, p, agree_same extents free v)
    | inr mixed ↦ (image_before extents free x v, counts t (image_before extents free x v) le (is_before extents free blocks x y v is keeps mixed), agree_before extents free x y v mixed)
  ];
}

pub outside_call : (extents : List (ℕ × ℕ × ℕ)) (free : List ℕ) (blocks m n : ℕ) (past since : ℕ → DiskImage → Type 0) (a b : Option Content) → IsSome a → IfSome a (IsContent blocks) → Changes (Elapses m n past since) a b → Changes (KeepsOutside extents free) a b → CountsNow m past a → ElapsesOutside extents free m n past since
outside_call extents free blocks m n past since None b told is elapses keeps counts = absurd (cc)
outside_call extents free blocks m n past since (Some x) None told is elapses keeps counts = absurd elapses
outside_call extents free blocks m n past since (Some x) (Some y) told is elapses keeps counts = outside_one extents free blocks m n past since x y is elapses keeps counts

pub outside_none : (extents : List (ℕ × ℕ × ℕ)) (free : List ℕ) (m : ℕ) (past : ℕ → DiskImage → Type 0) → ElapsesOutside extents free m m past past
outside_none extents free m past = record { later = omega arith; keeps = λ t v le p. p; nothing_else = λ t v le p. (v, p, agree_same extents free v) }

agree_then : (extents : List (ℕ × ℕ × ℕ)) (free : List ℕ) (u v w : DiskImage) → AgreeOutside extents free u v → AgreeOutside extents free v w → AgreeOutside extents free u w
agree_then extents free u v w first second =
    let size = first.size in
    record { size = second.size ∙ first.size; others = λ s lt not. second.others s (omega arith) not ∙ first.others s lt not }

pub outside_then : (extents : List (ℕ × ℕ × ℕ)) (free : List ℕ) (m n o : ℕ) (p q r : ℕ → DiskImage → Type 0) → ElapsesOutside extents free m n p q → ElapsesOutside extents free n o q r → ElapsesOutside extents free m o p r
outside_then extents free m n o p q r first second =
    let le = first.later in
    let le' = second.later in
    record {
      later = omega arith;
      keeps = λ t v before left. second.keeps t v (omega arith) (first.keeps t v before left);
      nothing_else = λ t v before left.
          let mid = second.nothing_else t v (omega arith) left in
          let old = first.nothing_else t mid.0 before mid.1 in
          (old.0, old.1, agree_then extents free old.0 mid.0 v old.2 mid.2);
    }

pub outside_same : (x y : List (ℕ × ℕ × ℕ)) (free : List ℕ) (m n : ℕ) (p q : ℕ → DiskImage → Type 0) → y ≡ x → ElapsesOutside y free m n p q → ElapsesOutside x free m n p q
outside_same x y free m n p q e h = subst (λ (z : List (ℕ × ℕ × ℕ)). ElapsesOutside z free m n p q) e h

-- A call that leaves what a cut may leave is one that writes to no block of these slots.
pub alike_outside : (extents : List (ℕ × ℕ × ℕ)) (free : List ℕ) (m n : ℕ) (p q : ℕ → DiskImage → Type 0) → ElapsesAlike m n p q → ElapsesOutside extents free m n p q
alike_outside extents free m n p q alike = record { later = alike.later; keeps = alike.keeps; nothing_else = λ t v le left. (v, alike.nothing_else t v le left, agree_same extents free v) }
