-- A page and the maps after it, put by put.
use Rattle.std.proofs.Common.{◌≡◌, ◌≢◌, ◌⊎◌, ℕ, ◌+◌, ◌/◌, ◌%◌, ◌<◌, true, false, eqb, ◌||◌, List, refl, sym, ap, ◌∙◌, subst, inl, inr, ⊎_elim, arith}
use Rattle.std.proofs.lemmas.Bool.{cases_eq, cond-true, cond-false, eq-eqb, ne_eqb, eqb-true, eqb-false, or_cases, or_parts, both_ways}
use Rattle.plain_machine.specs.Image.{maps_of}
use Rattle.plain_machine.specs.Image.{is_map_write, page_of_write, laid_block}
use Rattle.image_write.specs.Answers.{after, Succeeds, GoesOn}
use Rattle.image_write.specs.Writing.{Writing, IsWriting, BlocksBelow, IsSameImage, writes_of}
use Rattle.image_write.specs.declared.write_step.WriteStep.{WriteStep}
use Rattle.image_write.specs.declared.write_step.WriteStep.TheVariants.{More, Done, Fault}
use Rattle.image_write.proofs.Places.{page_write, page_is_one}
use Rattle.stream_in.specs.Putting.{is_map_next, IsPagePut}
use Rattle.stream_in.specs.declared.slots.SlotMemory.{SlotMemory}
use Rattle.stream_in.specs.Holding.{writes_after}

-- what a put of the writer says
pub record IsPut (free : List ℕ) (frames : List (List ℕ)) (old new : Writing) (r : WriteStep) : Type 0 where
  pub answer : (r ≡ Fault) ⊎ (r ≡ after (old.written + 1) (writes_of old.info))
  pub image : IsSameImage old new
  pub made : Succeeds r → new.written ≡ old.written + 1
  pub writing : GoesOn r → IsWriting free frames new

told : (r other : WriteStep) → (r ≡ Fault) ⊎ (r ≡ other) → Succeeds r → r ≡ other
told r other (inl e) ok = absurd (subst Succeeds e ok)
told r other (inr e) ok = e

-- the result of a put that a map follows, and of one that none follows
pub record Follows (k of : ℕ) : Type 0 where
  pub more : k ≢ of
  pub map : (k % 512 ≡ 511) ⊎ (k + 1 ≡ of)

pub record FollowsNot (k of : ℕ) : Type 0 where
  pub none : (k ≡ of) ⊎ ((k % 512 ≢ 511) × (k + 1 ≢ of))

follows : (k of : ℕ) → is_map_next (after k of) ≡ true → Follows k of
follows k of h = elim (cases_eq k of) [
  | inl e ↦ let done : after k of ≡ Done = cond-true (eqb k of) Done (More k of) (eq-eqb k of e) in
      let no_map : is_map_next (after k of) ≡ false = ap is_map_next done in absurd (both_ways (is_map_next (after k of)) no_map h)
  | inr ne ↦ let more : after k of ≡ More k of = cond-false (eqb k of) Done (More k of) (ne_eqb k of ne) in
      let test : (eqb (k % 512) 511 || eqb (k + 1) of) ≡ true = sym (ap is_map_next more) ∙ h in
      record { more = ne; map = ⊎_elim (λ e. inl (eqb-true (k % 512) 511 e)) (λ e. inr (eqb-true (k + 1) of e)) (or_cases (eqb (k % 512) 511) (eqb (k + 1) of) test) }
]

follows_not : (k of : ℕ) → is_map_next (after k of) ≡ false → FollowsNot k of
follows_not k of h = elim (cases_eq k of) [
  | inl e ↦ record { none = inl e }
  | inr ne ↦ let more : after k of ≡ More k of = cond-false (eqb k of) Done (More k of) (ne_eqb k of ne) in
      let test : (eqb (k % 512) 511 || eqb (k + 1) of) ≡ false = sym (ap is_map_next more) ∙ h in
      let parts = or_parts (eqb (k % 512) 511) (eqb (k + 1) of) test in
      record { none = inr (eqb-false (k % 512) 511 parts.0, eqb-false (k + 1) of parts.1) }
]

goes_on : (k of : ℕ) → k ≢ of → GoesOn (after k of)
goes_on k of ne = subst GoesOn (sym (cond-false (eqb k of) Done (More k of) (ne_eqb k of ne))) tt

pub succeeds : (k of : ℕ) → Succeeds (after k of)
succeeds k of = elim (cases_eq k of) [
  | inl e ↦ subst Succeeds (sym (cond-true (eqb k of) Done (More k of) (eq-eqb k of e))) tt
  | inr ne ↦ subst Succeeds (sym (cond-false (eqb k of) Done (More k of) (ne_eqb k of ne))) tt
]

-- a result that a map follows is no fault
pub not_fault : (r : WriteStep) → is_map_next r ≡ true → Succeeds r
not_fault (More k of) h = tt
not_fault Done h = tt
not_fault Fault h = both_ways false refl h

-- where a map follows, the write was made, and the writer goes on
pub record IsFollowed (free : List ℕ) (frames : List (List ℕ)) (old new : Writing) : Type 0 where
  pub follows : Follows (old.written + 1) (writes_of old.info)
  pub image : IsSameImage old new
  pub written : new.written ≡ old.written + 1
  pub writing : IsWriting free frames new

pub followed : (free : List ℕ) (frames : List (List ℕ)) (old new : Writing) (r : WriteStep) → IsPut free frames old new r → is_map_next r ≡ true → IsFollowed free frames old new
followed free frames old new r put h =
    let ok = not_fault r h in
    let is = told r (after (old.written + 1) (writes_of old.info)) put.answer ok in
    let f = follows (old.written + 1) (writes_of old.info) (ap is_map_next (sym is) ∙ h) in
    record {
      follows = f;
      image = put.image;
      written = put.made ok;
      writing = put.writing (subst GoesOn (sym is) (goes_on (old.written + 1) (writes_of old.info) f.more));
    }

-- where none follows
pub record IsLast (free : List ℕ) (frames : List (List ℕ)) (old new : Writing) : Type 0 where
  pub image : IsSameImage old new
  pub written : new.written ≡ old.written + 1
  pub going : old.written + 1 ≢ writes_of old.info → IsWriting free frames new

pub last : (free : List ℕ) (frames : List (List ℕ)) (old new : Writing) (r : WriteStep) → IsPut free frames old new r → Succeeds r → IsLast free frames old new
last free frames old new r put ok =
    let is = told r (after (old.written + 1) (writes_of old.info)) put.answer ok in
    record {
      image = put.image;
      written = put.made ok;
      going = λ ne. put.writing (subst GoesOn (sym is) (goes_on (old.written + 1) (writes_of old.info) ne));
    }

pub last_not : (free : List ℕ) (frames : List (List ℕ)) (old new : Writing) (r : WriteStep) → IsPut free frames old new r → Succeeds r → is_map_next r ≡ false → FollowsNot (old.written + 1) (writes_of old.info)
last_not free frames old new r put ok h =
    let is = told r (after (old.written + 1) (writes_of old.info)) put.answer ok in
    follows_not (old.written + 1) (writes_of old.info) (ap is_map_next (sym is) ∙ h)

-- How many writes that makes.

-- the page is one of the stream's
record IsPageAt (pages n : ℕ) : Type 0 where
  pub below : n % 512 < 511
  pub more : n + 1 < pages + maps_of pages
  pub one : page_of_write n < pages

at_page : (pages n : ℕ) → n < pages + maps_of pages → is_map_write pages n ≡ false → IsPageAt pages n
at_page pages n lt isn't = let p = page_write pages n lt isn't in record { below = p.below; more = p.more; one = page_is_one pages n p }

after_some : (pages k m : ℕ) → k ≢ pages → m ≡ k + k / 511 → m ≡ writes_after pages k
after_some pages k m ne e = e ∙ sym (cond-false (eqb k pages) (pages + maps_of pages) (k + k / 511) (ne_eqb k pages ne))

after_all : (pages k m : ℕ) → k ≡ pages → m ≡ pages + maps_of pages → m ≡ writes_after pages k
after_all pages k m same e = e ∙ sym (cond-true (eqb k pages) (pages + maps_of pages) (k + k / 511) (eq-eqb k pages same))

one_write : (pages n : ℕ) → IsPageAt pages n → FollowsNot (n + 1) (pages + maps_of pages) → n + 1 ≡ writes_after pages (page_of_write n + 1)
one_write pages n at f = ⊎_elim (λ (e : n + 1 ≡ pages + maps_of pages). absurd (omega (arith, at.more))) (λ (none : ((n + 1) % 512 ≢ 511) × (n + 1 + 1 ≢ pages + maps_of pages)).
    let full = none.0 in
    let end = none.1 in
    let below = at.below in
    let one = at.one in
    after_some pages (page_of_write n + 1) (n + 1) (λ e. omega arith) (omega arith)) f.none

two_writes : (pages n : ℕ) → IsPageAt pages n → Follows (n + 1) (pages + maps_of pages) → FollowsNot (n + 1 + 1) (pages + maps_of pages) → n + 1 + 1 ≡ writes_after pages (page_of_write n + 1)
two_writes pages n at f g =
    let below = at.below in
    let one = at.one in
    elim (cases_eq (page_of_write n + 1) pages) [
      | inl all ↦ after_all pages (page_of_write n + 1) (n + 1 + 1) all (⊎_elim (λ (e : n + 1 + 1 ≡ pages + maps_of pages). e)
          (λ (none : ((n + 1 + 1) % 512 ≢ 511) × (n + 1 + 1 + 1 ≢ pages + maps_of pages)). let end = none.1 in omega arith) g.none)
      | inr some ↦ after_some pages (page_of_write n + 1) (n + 1 + 1) some (⊎_elim (λ (full : (n + 1) % 512 ≡ 511). omega arith)
          (λ (e : n + 1 + 1 ≡ pages + maps_of pages). absurd (omega arith)) f.map)
    ]

three_writes : (pages n : ℕ) → IsPageAt pages n → Follows (n + 1) (pages + maps_of pages) → Follows (n + 1 + 1) (pages + maps_of pages) → n + 1 + 1 + 1 ≡ writes_after pages (page_of_write n + 1)
three_writes pages n at f g =
    let below = at.below in
    let one = at.one in
    let ne = g.more in
    let full : (n + 1) % 512 ≡ 511 = ⊎_elim (λ (e : (n + 1) % 512 ≡ 511). e) (λ (e : n + 1 + 1 ≡ pages + maps_of pages). absurd (ne e)) f.map in
    let end : n + 1 + 1 + 1 ≡ pages + maps_of pages = ⊎_elim (λ (e : (n + 1 + 1) % 512 ≡ 511). absurd (omega arith)) (λ (e : n + 1 + 1 + 1 ≡ pages + maps_of pages). e) g.map in
    after_all pages (page_of_write n + 1) (n + 1 + 1 + 1) (omega arith) end

-- All three.

same_image : (a b c : Writing) → IsSameImage a b → IsSameImage b c → IsSameImage a c
same_image a b c h i = record { info = i.info ∙ h.info; extents = i.extents ∙ h.extents; table = i.table ∙ h.table; first = i.first ∙ h.first }

pub put_one : (free : List ℕ) (f0 : List (List ℕ)) (memory : SlotMemory) (w0 w1 : Writing) (r1 : WriteStep) → w0.table ≡ memory.table → IsWriting free f0 w0 → is_map_write w0.info.pages w0.written ≡ false → IsPut free memory.frames w0 w1 r1 → Succeeds r1 → is_map_next r1 ≡ false →
    IsPagePut free memory w0 w1
put_one free f0 memory w0 w1 r1 table h page p1 ok none =
    let f1 = memory.frames in
    let l = last free f1 w0 w1 r1 p1 ok in
    let at = at_page w0.info.pages w0.written h.unfinished page in
    let count = one_write w0.info.pages w0.written at (last_not free f1 w0 w1 r1 p1 ok none) in
    let wrote = l.written in
    record { image = l.image; table_is = l.image.table ∙ table; written = wrote ∙ count; going = λ lt. l.going (λ e. omega arith) }

pub put_two : (free : List ℕ) (f0 f1 : List (List ℕ)) (memory : SlotMemory) (w0 w1 w2 : Writing) (r1 r2 : WriteStep) → w0.table ≡ memory.table → IsWriting free f0 w0 → is_map_write w0.info.pages w0.written ≡ false → IsPut free f1 w0 w1 r1 → is_map_next r1 ≡ true →
    IsPut free memory.frames w1 w2 r2 → Succeeds r2 → is_map_next r2 ≡ false → IsPagePut free memory w0 w2
put_two free f0 f1 memory w0 w1 w2 r1 r2 table h page p1 map1 p2 ok none =
    let f2 = memory.frames in
    let one = followed free f1 w0 w1 r1 p1 map1 in
    let l = last free f2 w1 w2 r2 p2 ok in
    let at = at_page w0.info.pages w0.written h.unfinished page in
    let of : writes_of w1.info ≡ writes_of w0.info = ap writes_of one.image.info in
    let k : w1.written + 1 ≡ w0.written + 1 + 1 = ap (λ n. n + 1) one.written in
    let P : ℕ → Type 0 = λ n. FollowsNot n (writes_of w0.info) in
    let Q : ℕ → Type 0 = λ m. FollowsNot (w1.written + 1) m in
    let end = subst P k (subst Q of (last_not free f2 w1 w2 r2 p2 ok none)) in
    let count = two_writes w0.info.pages w0.written at one.follows end in
    let wrote = l.written in
    let image = same_image w0 w1 w2 one.image l.image in
    record { image = image; table_is = image.table ∙ table; written = wrote ∙ k ∙ count; going = λ lt. l.going (λ e. omega arith) }

pub put_three : (free : List ℕ) (f0 f1 f2 : List (List ℕ)) (memory : SlotMemory) (w0 w1 w2 w3 : Writing) (r1 r2 r3 : WriteStep) → w0.table ≡ memory.table → IsWriting free f0 w0 → is_map_write w0.info.pages w0.written ≡ false → IsPut free f1 w0 w1 r1 → is_map_next r1 ≡ true →
    IsPut free f2 w1 w2 r2 → is_map_next r2 ≡ true → IsPut free memory.frames w2 w3 r3 → Succeeds r3 → IsPagePut free memory w0 w3
put_three free f0 f1 f2 memory w0 w1 w2 w3 r1 r2 r3 table h page p1 map1 p2 map2 p3 ok =
    let f3 = memory.frames in
    let one = followed free f1 w0 w1 r1 p1 map1 in
    let two = followed free f2 w1 w2 r2 p2 map2 in
    let l = last free f3 w2 w3 r3 p3 ok in
    let at = at_page w0.info.pages w0.written h.unfinished page in
    let of : writes_of w1.info ≡ writes_of w0.info = ap writes_of one.image.info in
    let of2 : writes_of w2.info ≡ writes_of w0.info = ap writes_of two.image.info ∙ of in
    let k : w1.written + 1 ≡ w0.written + 1 + 1 = ap (λ n. n + 1) one.written in
    let k2 : w2.written + 1 ≡ w0.written + 1 + 1 + 1 = ap (λ n. n + 1) (two.written ∙ k) in
    let P : ℕ → Type 0 = λ n. Follows n (writes_of w0.info) in
    let Q : ℕ → Type 0 = λ m. Follows (w1.written + 1) m in
    let end = subst P k (subst Q of two.follows) in
    let count = three_writes w0.info.pages w0.written at one.follows end in
    let wrote = l.written in
    let image = same_image w0 w2 w3 (same_image w0 w1 w2 one.image two.image) l.image in
    record { image = image; table_is = image.table ∙ table; written = wrote ∙ k2 ∙ count; going = λ lt. l.going (λ e. omega arith) }

-- the blocks are those of the same slots, and the disk has as many
pub still_below : (free : List ℕ) (w0 w1 w2 : Writing) (before now : ℕ) → IsSameImage w0 w1 → IsSameImage w1 w2 → now ≡ before → BlocksBelow w0.extents free (writes_of w0.info) before → BlocksBelow w2.extents free (writes_of w2.info) now
still_below free w0 w1 w2 before now h i e below place lt =
    let all = same_image w0 w1 w2 h i in
    let info = ap writes_of all.info in
    let at = ap (λ (x : List (ℕ × ℕ × ℕ)). laid_block x free place) all.extents in
    let old = below place (omega arith) in
    omega arith
