-- A step of the writer.
use Rattle.std.proofs.Common.{◌≡◌, ◌<◌, All, Bor, ℕ, ◌+◌, List, [], length, Option, Some, None, sym, ap, ◌∙◌, subst, arith}
use Rattle.std.specs.Option.{IfSome, IfNone, option_copied}
use Rattle.frame_sets.specs.FrameSet.{FrameSet}
use Rattle.frame_sets.specs.Places.{members_in}
use Rattle.snapshot.specs.Taken.{set_over, Taken}
use Rattle.definitions.specs.declared.info.Info.{Info}
use Rattle.plain_machine.specs.Machine.{Hardware, Memory}
use Rattle.image_write.specs.Answers.{GoesOn, Succeeds}
use Rattle.image_write.specs.Writing.{Writing, IsWriting, IsSameImage, BlocksBelow, AreOfImage, HasReadCopies, writes_of}
use Rattle.image_write.specs.declared.write_step.WriteStep.{WriteStep}
use Rattle.image_write.specs.declared.write_step.WriteStep.TheVariants as answer
use Rattle.swap_slots.specs.Runs.{SlotRuns}
use Rattle.swap_slots.specs.Table.{Matches}
use Rattle.machine.specs.Running.{slot_table_of}
use Rattle.machine.specs.declared.machine.Machine.{Machine}
use Rattle.hib_core.proofs.Facts.{after_step}
use Rattle.hib_core.specs.Ready.{CanWrite, CanStep, CanMake}
use Rattle.hib_core.specs.declared.hib.Hib.{Hib}
use Rattle.hib_core.specs.declared.hib.Stage.{Stage}
use Rattle.hib_core.specs.declared.hib.Stage.TheVariants as stage
use Rattle.hib_core.specs.declared.hib.Saving.{Saving}

pub goes_on_succeeds : (a : WriteStep) → GoesOn a → Succeeds a
goes_on_succeeds (answer.More k of) goes = tt
goes_on_succeeds answer.Done goes = absurd goes
goes_on_succeeds answer.Fault goes = absurd goes

-- the set of the originals without data, and its members
pub zeros_members : (set : Option (Bor FrameSet)) (zones : List (ℕ × ℕ)) (zeros : List ℕ) → IfSome set (λ s. s.now ≡ set_over zones zeros) → IfNone set (zeros ≡ []) → members_in (option_copied set) ≡ zeros
zeros_members None zones zeros some none = sym none
zeros_members (Some s) zones zeros some none = ap (λ (x : FrameSet). x.members) some

-- what is said of three sets
pub three_sets : (P : List ℕ → List ℕ → List ℕ → Type 0) (a a' b b' z z' : List ℕ) → a ≡ a' → b ≡ b' → z ≡ z' → P a b z → P a' b' z'
three_sets P a a' b b' z z' x y w p = subst (λ (t : List ℕ). P a' b' t) w (subst (λ (t : List ℕ). P a' t z) y (subst (λ (t : List ℕ). P t b z) x p))

-- After a write that isn't the last one it can make the next.
pub can_write_on : (h : Hardware) (blocks : ℕ) (frames frames' : Memory) (sets : Taken) (saving : Saving) (w w' : Writing) → CanWrite h blocks frames sets saving w → IsSameImage w w' → w'.written ≡ w.written + 1 → ((free : List ℕ) → IsWriting free frames w → IsWriting free frames' w') →
    HasReadCopies sets.origs sets.copies sets.zeros w' → length frames' ≡ length frames → CanMake (stage.Write (after_step saving) w') h blocks frames' sets
can_write_on h blocks frames frames' sets saving w w' can same made writing reading size =
    let now : IsWriting can.ready.0 frames' w' = writing can.ready.0 can.ready.1 in
    let written : w'.written ≡ saving.done + 1 = made ∙ ap (λ (k : ℕ). k + 1) can.done in
    let steps : writes_of w'.info + 4 ≡ saving.steps = ap (λ (i : Info). writes_of i + 4) same.info ∙ can.steps in
    let unfinished = now.unfinished in (
      room saving.done w'.written (writes_of w'.info) saving.steps written steps unfinished,
      record {
        table = same.table ∙ can.table;
        done = written;
        steps = steps;
        ready = (can.ready.0, now, subst (λ (es : List (ℕ × ℕ × ℕ)). BlocksBelow es can.ready.0 (writes_of w'.info) blocks) (sym same.extents) (subst (λ (i : Info). BlocksBelow w.extents can.ready.0 (writes_of i) blocks) (sym same.info) can.ready.2));
        image = subst (λ (i : Info). AreOfImage i sets.origs sets.copies sets.zeros) (sym same.info) can.image;
        copies = subst (λ (n : ℕ). All (λ p. p < n) sets.copies) (sym size) can.copies;
        reading = reading;
      },
    ) where
      room : (m k n of : ℕ) → k ≡ m + 1 → n + 4 ≡ of → k < n → m + 1 + 4 < of
      room m k n of a b c = omega arith

-- The last write leaves four steps.
pub can_sync : (saving : Saving) (w : Writing) → w.written ≡ saving.done → writes_of w.info + 4 ≡ saving.steps → w.written + 1 ≡ writes_of w.info → saving.done + 1 + 4 ≡ saving.steps
can_sync saving w done steps last = omega arith

-- What the next step needs, after a write.
pub ready_on : (machine : Machine) (frames frames' : Memory) (runs runs' : SlotRuns) (hib : Hib) (next : Stage) → CanStep machine frames runs hib → length frames' ≡ length frames → Matches frames' (slot_table_of machine.hw) runs' →
    CanMake next machine.hw machine.blocks frames' hib.snapshot → CanStep machine frames' runs' (record hib { stage = next })
ready_on machine frames frames' runs runs' hib next can size matches makes = record {
  hardware = can.hardware;
  few = can.few;
  size = size ∙ can.size;
  table = let in' = can.table in omega arith;
  matches = matches;
  header = can.header;
  next = makes;
}
