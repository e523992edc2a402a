-- What the writes of an image leave of the other blocks.
use Rattle.std.proofs.Common.{◌≡◌, ◌⊎◌, ℕ, ◌+◌, ◌*◌, List, Option, refl, sym, ◌∙◌, subst, inl, inr, arith}
use Rattle.std.proofs.lemmas.Bool.{cases_order}
use Rattle.definitions.specs.Disk.{Content, Changes, SameOutside}
use Rattle.image_write.specs.Answers.{after, Succeeds}
use Rattle.image_write.specs.Writing.{Writing, IsWriting, Makes, FailsToMake, write_next, writes_of}
use Rattle.image_write.specs.declared.write_step.WriteStep.{WriteStep}
use Rattle.image_write.specs.declared.write_step.WriteStep.TheVariants.{Fault}
use Rattle.image_write.proofs.Done.{place_of, block_of_write, place_below}
use Rattle.stream_in.specs.Outside.{IsBlockOf, KeepsOutside}
use Rattle.stream_in.proofs.Contents.{changes_as, changes_then}
use Rattle.stream_in.proofs.Puts.{succeeds}

pub keeps_none : (extents : List (ℕ × ℕ × ℕ)) (free : List ℕ) (x : Content) → KeepsOutside extents free x x
keeps_none extents free x = record { size = refl; others = λ b j lt not. refl }

pub keeps_then : (extents : List (ℕ × ℕ × ℕ)) (free : List ℕ) (x y z : Content) → KeepsOutside extents free x y → KeepsOutside extents free y z → KeepsOutside extents free x z
keeps_then extents free x y z h i = record { size = i.size ∙ h.size; others = λ b j lt not. i.others b j lt not ∙ h.others b j lt not }

-- one block is written
keeps_at : (extents : List (ℕ × ℕ × ℕ)) (free : List ℕ) (at : ℕ) (x y : Content) → IsBlockOf extents free at → SameOutside at x y → KeepsOutside extents free x y
keeps_at extents free at x y is same = record {
  size = same.size;
  others = λ b j lt not. elim (cases_order b at) [
    | inl e ↦ absurd (not (subst (IsBlockOf extents free) (sym e) is))
    | inr apart ↦ elim apart [
      | inl below ↦ same.below (8 * b + j) (omega arith)
      | inr above ↦ same.above (8 * b + j) (omega arith)
    ]
  ];
}

-- a put leaves the other blocks, whether it fails or not
pub put_keeps : (free : List ℕ) (frames : List (List ℕ)) (w : Writing) (page : List ℕ) (r : WriteStep) (a b : Option Content) → IsWriting free frames w → (r ≡ Fault) ⊎ (r ≡ after (w.written + 1) (writes_of w.info)) →
    (Succeeds r → Changes (Makes (write_next free w page)) a b) → (r ≡ Fault → Changes (FailsToMake (write_next free w page)) a b) → Changes (KeepsOutside w.extents free) a b
put_keeps free frames w page r a b h answer made failed =
    let at = (write_next free w page).0 in
    let lt = place_below w.info.pages w.written h.unfinished in
    let room = h.room in
    let is : IsBlockOf w.extents free at = (place_of w.info.pages w.written, omega arith, block_of_write w.extents free w.info.pages w.written page) in
    elim answer [
      | inl fault ↦ changes_as (FailsToMake (write_next free w page)) (KeepsOutside w.extents free) a b (λ x y f. keeps_at w.extents free at x y is f.others) (failed fault)
      | inr ok ↦ changes_as (Makes (write_next free w page)) (KeepsOutside w.extents free) a b (λ x y m. keeps_at w.extents free at x y is m.others)
          (made (subst Succeeds (sym ok) (succeeds (w.written + 1) (writes_of w.info))))
    ]

pub told_then : (extents : List (ℕ × ℕ × ℕ)) (free : List ℕ) (a b c : Option Content) → Changes (KeepsOutside extents free) a b → Changes (KeepsOutside extents free) b c → Changes (KeepsOutside extents free) a c
told_then extents free a b c h i = changes_then (KeepsOutside extents free) (KeepsOutside extents free) (KeepsOutside extents free) a b c (keeps_then extents free) h i

-- the extents are the same
pub told_same : (x y : List (ℕ × ℕ × ℕ)) (free : List ℕ) (a b : Option Content) → y ≡ x → Changes (KeepsOutside y free) a b → Changes (KeepsOutside x free) a b
told_same x y free a b e h = subst (λ (z : List (ℕ × ℕ × ℕ)). Changes (KeepsOutside z free) a b) e h
