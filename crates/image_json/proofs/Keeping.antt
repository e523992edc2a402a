-- Findings that are kept, and the object of those that were told.
use Rattle.std.proofs.Common.{Result, Ok, Err, IfOk, suc, ◌≡◌, ℕ, ◌+◌, ◌≤◌, ◌==◌, ◌||◌, Bool, true, false, cond, List, [], ◌∷◌, ◌++◌, map, length, min, Option, Some, None, refl, sym, ap, ap₂, subst, ◌∙◌, inl, inr, append-nil, arith, codes}
use Rattle.std.proofs.lemmas.Grind.{flat_map-append}
use Rattle.std.proofs.lemmas.List.{take_all}
use Rattle.definitions.specs.Disk.{last_count}
use Rattle.definitions.specs.Streams.{TakesAll}
use Rattle.byte_streams.proofs.Taken.{TakesFront-all, taken_is}
use Rattle.serde_json.specs.Data.{Data, array, boolean, object, member, no_members}
use Rattle.serde_json.specs.View.{items_of}
use Rattle.serde_json.specs.Written.{compact_text, has_float, items_have_float}
use Rattle.image_check.specs.Checked.{TellsFound}
use Rattle.image_check.specs.Lines.{finding_text, line_of, lines_of}
use Rattle.image_check.specs.Told.{Told, Tells}
use Rattle.image_check.specs.declared.checking.Outcome.{Outcome}
use Rattle.image_check.specs.declared.checking.Outcome.TheVariants.{NoImage, Checked}
use Rattle.image_check.specs.declared.finding.Finding.{Finding}
use Rattle.image_json.specs.Findings.{check_line, check_object, is_whole, text_value, texts_of, untold}
use Rattle.image_json.proofs.OneLine.{same_findings}

-- what is told of findings that are kept
abbrev pub told_of : List Finding → ℕ → Bool → Told
told_of kept count refused = record { text = Some (lines_of kept); count = count; failed = refused; faults = cond refused 1 0 }

-- a finding is kept, or memory is refused for it
pub one_kept : (f : Finding) (kept kept' : List Finding) (n n' : ℕ) (was refused : Bool) → was ≡ false → (n ≤ last_count → n' ≡ min (n + 1) last_count)
    → (refused ≡ false → kept' ≡ kept ++ f ∷ []) → (refused ≡ true → kept' ≡ kept) → Tells (f ∷ []) (told_of kept n was) (told_of kept' n' refused)
one_kept f kept kept' n n' true refused is counted more same = cc
one_kept f kept kept' n n' false false is counted more same =
    let lines : List ℕ = lines_of (f ∷ []) in
    let all : TakesAll lines (Some (lines_of kept)) (Some (lines_of kept')) =
    ap lines_of (more refl) ∙ flat_map-append line_of kept (f ∷ []) ∙ ap (λ (x : List ℕ). lines_of kept ++ x) (sym (take_all (length lines) lines (omega arith))) in
    record {
      count = counted;
      front = TakesFront-all lines (Some (lines_of kept)) (Some (lines_of kept')) all;
      whole = λ e. (refl, all);
      stops = λ e. let no : false ≡ true = e in cc;
      cause = λ e. let no : false ≡ true = e in cc;
      faults = omega arith;
    }
one_kept f kept kept' n n' false true is counted more same = record {
  count = counted;
  front = (0, omega arith, ap lines_of (same refl) ∙ sym (append-nil (lines_of kept)));
  whole = λ e. let no : true ≡ false = e in cc;
  stops = λ e. let no : false ≡ true = e in cc;
  cause = λ e. inr (inl (omega arith));
  faults = omega arith;
}

-- no more is kept
pub none_kept : (f : Finding) (kept : List Finding) (n n' : ℕ) (was : Bool) → was ≡ true → (n ≤ last_count → n' ≡ min (n + 1) last_count)
    → Tells (f ∷ []) (told_of kept n was) (told_of kept n' was)
none_kept f kept n n' false is counted = cc
none_kept f kept n n' true is counted = record {
  count = counted;
  front = (0, omega arith, sym (append-nil (lines_of kept)));
  whole = λ e. let no : true ≡ false = e in cc;
  stops = λ e. refl;
  cause = λ e. inl refl;
  faults = omega arith;
}

texts_are : (found : List Finding) → texts_of found ≡ map text_value (map finding_text found)
texts_are [] = refl
texts_are (f ∷ fs) = ap (λ (ds : List Data). text_value (finding_text f) ∷ ds) (texts_are fs)

length_is : (found : List Finding) → length (map finding_text found) ≡ length found
length_is [] = refl
length_is (f ∷ fs) = ap suc (length_is fs)

-- the object's line, by the texts
abbrev line_by : List Data → Bool → List ℕ
line_by texts whole =
    compact_text (object (member (codes "findings") (array (items_of texts)) (member (codes "image") (boolean true) (member (codes "whole") (boolean whole) no_members))))
    ++ 10 ∷ []

module _ (kept found : List Finding) (same : map finding_text kept ≡ map finding_text found) where
  same_whole : is_whole true kept ≡ is_whole true found
  same_whole = ap (λ (n : ℕ). n == 0) (sym (length_is kept) ∙ ap length same ∙ length_is found)

  same_line : check_line true kept ≡ check_line true found
  same_line = ap₂ line_by (texts_are kept ∙ ap (map text_value) same ∙ sym (texts_are found)) same_whole

-- no text of a finding has a number
pub no_float : (image : Bool) (found : List Finding) → has_float (check_object image found) ≡ false
no_float image found = ap (λ (b : Bool). b || false) (texts found)
  where
    texts : (fs : List Finding) → items_have_float (items_of (texts_of fs)) ≡ false
    texts [] = refl
    texts (f ∷ fs) = texts fs

pub none_found : (found : Option (List Finding)) (old new : Told) (outcome : Outcome) → outcome ≡ NoImage → TellsFound found old new outcome → found ≡ None
none_found None old new outcome e t = refl
none_found (Some found) old new outcome e t = let g : NoImage ≡ Checked = sym e ∙ t.0 in cc

-- the findings that are kept have the same object as those that were printed
pub all_kept : (found kept : List Finding) (new : Told) → Tells found untold new → new.text ≡ Some (lines_of kept) → new.failed ≡ false
    → (check_line true kept ≡ check_line true found) × (is_whole true kept ≡ is_whole true found)
all_kept found kept new t text sound =
    let lines = taken_is (lines_of found) (lines_of kept) (Some []) new.text (t.whole sound).1 refl text in
    let same = same_findings kept found (sym lines) in
    (same_line kept found same, same_whole kept found same)

-- what was told of an image that was checked
pub some_told : (found : Option (List Finding)) (old new : Told) (outcome : Outcome) → outcome ≡ Checked → old ≡ untold → TellsFound found old new outcome
    → (all : List Finding) × ((found ≡ Some all) × Tells all untold new)
some_told None old new outcome e begun t = let g : Checked ≡ NoImage = sym e ∙ t.0 in cc
some_told (Some found) old new outcome e begun t = (found, (refl, subst (λ (x : Told). Tells found x new) begun t.1))

-- what two facts about a result give
pub both_ok : {T E : Type 0} (r : Result T E) (P Q R : T → Type 0) → ((x : T) → P x → Q x → R x) → IfOk r P → IfOk r Q → IfOk r R
both_ok (Ok x) P Q R f p q = f x p q
both_ok (Err e) P Q R f p q = tt
