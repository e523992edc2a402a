-- The page frames that a copy reads and writes: saveable ones and free ones of the zones, and none that is both.
use Rattle.std.proofs.Common.{◌≡◌, ℕ, ◌<◌, ◌≤◌, List, length, map, take, drop, get_or, All, false, sym, ap, ◌∙◌, subst, arith}
use Rattle.std.proofs.lemmas.Bool.{false≢true}
use Rattle.std.proofs.lemmas.List.{length-map, length-take-le, get_or-map, same_lists, take-append-drop}
use Rattle.std.proofs.lemmas.List.Elements.{Contains-append_left, Contains-get_or}
use Rattle.std.specs.List.{Contains}
use Rattle.definitions.specs.Zones.{top}
use Rattle.definitions.specs.ZoneFacts.{AreApart}
use Rattle.definitions.specs.Tables.{entry_at, page_flags, is_saveable, frame}
use Rattle.definitions.specs.Tables.{saveable_frames, free_frames}
use Rattle.definitions.proofs.ZoneLists.{Contains-from_saveable_frames, Contains-from_free_frames}
use Rattle.definitions.proofs.ZoneNumbers.{below_top}
use Rattle.snapshot.specs.Copies.{AreCopied, AreDisjoint}

pub Contains-from_take : (n : ℕ) (xs : List ℕ) (x : ℕ) → Contains (take n xs) x → Contains xs x
Contains-from_take n xs x in' =
    subst (λ (ys : List ℕ). Contains ys x) (take-append-drop n xs) (Contains-append_left (take n xs) (drop n xs) x in')

-- a page frame whose entry is FREE alone is not saved
free_is_not_saved : (entry : ℕ) → entry ≡ 1 → is_saveable (page_flags entry) ≡ false
free_is_not_saved entry is = ap (λ e. is_saveable (page_flags e)) is

pub apart : (zones : List (ℕ × ℕ)) (table : ℕ) (frames : List (List ℕ)) (n : ℕ) → AreDisjoint (saveable_frames zones table frames) (take n (free_frames zones table frames))
apart zones table frames n p saved copy =
    let free = Contains-from_free_frames zones table frames p (Contains-from_take n (free_frames zones table frames) p copy) in
    let saves = Contains-from_saveable_frames zones table frames p saved in
    false≢true (sym (free_is_not_saved (entry_at frames table p) free.1) ∙ saves.1)

-- an element, at any default
element : (xs : List ℕ) (k d : ℕ) → k < length xs → Contains xs (get_or xs k d)
element xs k d lt = Contains-get_or xs k d lt

pub saved_below : (zones : List (ℕ × ℕ)) (table : ℕ) (frames : List (List ℕ)) (size k d : ℕ) → AreApart zones → top zones ≤ size → k < length (saveable_frames zones table frames) → get_or (saveable_frames zones table frames) k d < size
saved_below zones table frames size k d in_order fits lt =
    let p = get_or (saveable_frames zones table frames) k d in
    let saved = Contains-from_saveable_frames zones table frames p (element (saveable_frames zones table frames) k d lt) in
    let low = below_top zones p in_order saved.0 in
    omega arith

pub copy_below : (zones : List (ℕ × ℕ)) (table : ℕ) (frames : List (List ℕ)) (n size k d : ℕ) → AreApart zones → top zones ≤ size → k < length (take n (free_frames zones table frames)) → get_or (take n (free_frames zones table frames)) k d < size
copy_below zones table frames n size k d in_order fits lt =
    let copies = take n (free_frames zones table frames) in
    let p = get_or copies k d in
    let free = Contains-from_free_frames zones table frames p (Contains-from_take n (free_frames zones table frames) p (element copies k d lt)) in
    let low = below_top zones p in_order free.0 in
    omega arith

-- what is known of the two sets before the copying
pub record IsReadyToCopy (origs copies : List ℕ) (size : ℕ) : Type 0 where
  pub equal : length origs ≡ length copies
  pub disjoint : AreDisjoint origs copies
  pub origs_within : All (λ p. p < size) origs
  pub copies_within : All (λ p. p < size) copies

pub ready : (zones : List (ℕ × ℕ)) (table : ℕ) (frames : List (List ℕ)) (origs copies : List ℕ) (n : ℕ) → AreApart zones → top zones ≤ length frames → origs ≡ saveable_frames zones table frames → n ≡ length origs → length origs ≤ length (free_frames zones table frames) → copies ≡ take n (free_frames zones table frames) → IsReadyToCopy origs copies (length frames)
ready zones table frames origs copies n in_order fits origs_are n_is room copies_are =
    let saved = saveable_frames zones table frames in
    let free = free_frames zones table frames in
    let counted = length-take-le n free (omega arith) in
    let taken = ap length copies_are in
    record {
      equal = omega arith;
      disjoint = subst (λ (xs : List ℕ). AreDisjoint xs copies) (sym origs_are) (subst (AreDisjoint saved) (sym copies_are) (apart zones table frames n));
      origs_within = subst (All (λ p. p < length frames)) (sym origs_are) (λ k d lt. saved_below zones table frames (length frames) k d in_order fits lt);
      copies_within = subst (All (λ p. p < length frames)) (sym copies_are) (λ k d lt. copy_below zones table frames n (length frames) k d in_order fits lt);
    }

-- The pages after the copying, as whole lists.

pub pages_copied : (origs copies : List ℕ) (old new : List (List ℕ)) → length origs ≡ length copies → AreCopied origs copies old new → map (frame new) copies ≡ map (frame old) origs
pages_copied origs copies old new equal copied =
    let of_copies = length-map copies (frame new) in
    let of_origs = length-map origs (frame old) in
    same_lists (map (frame new) copies) (map (frame old) origs) (omega arith) (λ k d lt.
    let in_copies : k < length copies = omega arith in
    let in_origs : k < length origs = omega arith in
    get_or-map (frame new) copies k 0 d in_copies ∙ copied.copied k in_copies ∙ sym (get_or-map (frame old) origs k 0 d in_origs))

pub pages_kept : (origs copies : List ℕ) (old new : List (List ℕ)) → AreDisjoint origs copies → AreCopied origs copies old new → map (frame new) origs ≡ map (frame old) origs
pages_kept origs copies old new disjoint copied =
    let of_new = length-map origs (frame new) in
    let of_old = length-map origs (frame old) in
    same_lists (map (frame new) origs) (map (frame old) origs) (omega arith) (λ k d lt.
    let within : k < length origs = omega arith in
    get_or-map (frame new) origs k 0 d within
    ∙ copied.others (get_or origs k 0) (λ in'. disjoint (get_or origs k 0) (element origs k 0 within) in')
    ∙ sym (get_or-map (frame old) origs k 0 d within))
