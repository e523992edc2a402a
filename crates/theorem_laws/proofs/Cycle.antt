-- Hibernate, then resume.
use Rattle.std.proofs.Common.{◌≡◌, inl, inr, ℕ, ◌+◌, ◌-◌, Bool, true, false, not, eqb, ◌&&◌, List, [], ◌∷◌, ◌++◌, length, Option, Some, None, unwrap_or, refl, sym, ap, ◌∙◌, subst, arith}
use Rattle.std.proofs.lemmas.Bool.{cond-false, cond-true, eq-eqb, false≢true, le-leb}
use Rattle.std.proofs.lemmas.Option.{same_Some}
use Rattle.page_core.specs.declared.format.Format.{Format}
use Rattle.definitions.specs.Disk as disk
use Rattle.definitions.specs.NumberPages.{meta_of}
use Rattle.definitions.specs.Tables.{frame}
use Rattle.plain_machine.specs.Chain.{Holds, Marked}
use Rattle.plain_machine.specs.Image.{Image, d_of, n_of, resume_steps}
use Rattle.plain_machine.specs.Loader.{left_free, need}
use Rattle.plain_machine.specs.Machine.{Hardware, Memory, IsHardware, block_of_slot}
use Rattle.plain_machine.specs.Refusals.{refusal}
use Rattle.plain_machine.specs.Stands.{IsOwn, IsSameOrTakenBack}
use Rattle.plain_machine.specs.State.{Load, Running, nothing, not_yet, on}
use Rattle.plain_machine.specs.Step.{Outcome, has_room, own_step, too_few}
use Rattle.plain_machine.specs.Trace.{trace}
use Rattle.plain_machine.specs.UsableArea.{HasOriginal}
use Rattle.plain_machine.specs.declared.event.Event.TheVariants as event
use Rattle.plain_machine.specs.declared.event.IdentCheck.{IdentCheck}
use Rattle.plain_machine.specs.declared.event.Loader.TheVariants.{Table}
use Rattle.plain_machine.specs.declared.reply.Reply.{Reply}
use Rattle.plain_machine.specs.declared.reply.Reply.TheVariants as reply
use Rattle.plain_machine.proofs.Restoring.{restored-saveable}
use Rattle.protocol_laws.proofs.OwnCauses.{IsOwnDisk, own_sayable}
use Rattle.protocol_laws.proofs.Places.{task_not_header, usable_area}
use Rattle.protocol_laws.proofs.Tracing.{restored_is, traces_own}
use Rattle.sector_disk.specs.declared.disk.Disk.{Ghosts}
use Rattle.command_core.specs.Runs.{goes_on}
use Rattle.command_core.specs.declared.ending.Ended.{Ended}
use Rattle.command_core.specs.Hibernations.{EndsInFault, HasHibernated, image_to_save, machine_to_save}
use Rattle.command_core.specs.Resumptions.{HasResumed as IsResumed, IsLast, MayLeaveMark}
use Rattle.command_core.proofs.Hibernated.{has_hibernated, original_kept}
use Rattle.command_core.proofs.Resumed.{has_resumed, resumption_taken}
use Rattle.command_core.proofs.Saved.{Refuses, refusal_refuses}
use Rattle.command_core.proofs.Traces.{counted_at, trace_counts}
use Rattle.command_kit.specs.View.{View}
use Rattle.command_kit.specs.declared.status.Status.{Status}
use Rattle.dump_file.specs.Dump.{DumpValue}
use Rattle.swsusp_cli.specs.Dumps.{HasAnswered}
use Rattle.swsusp_cli.specs.Loads.{HasLoaded}
use Rattle.theorem_laws.specs.Cycle.{GivesBack, HasRoomFor}

-- A list has one last reply.

abbrev last_of : Reply → List Reply → Reply
last_of r [] = r
last_of r (s ∷ rest) = last_of s rest

last_of_front : (r : Reply) (front : List Reply) (s : Reply) → last_of r (front ++ s ∷ []) ≡ s
last_of_front r [] s = refl
last_of_front r (q ∷ front) s = last_of_front q front s

one_last : (rs : List Reply) (r s : Reply) → IsLast rs r → IsLast rs s → r ≡ s
one_last rs r s (front, first) (others, second) =
    sym (last_of_front r front r) ∙ ap (last_of r) (sym first) ∙ ap (last_of r) second ∙ last_of_front r others s

and_false : (b : Bool) → (b && false) ≡ false
and_false true = refl
and_false false = refl

-- A resume of an own image, by a loader that has room.
module _ (h : Hardware) (w : disk.DiskImage) (i : Image) (m : Memory) (check : IdentCheck) (hardware : IsHardware h) (holds : Holds h w i) (own : IsOwn h w i) (room : HasRoomFor h m i) where
  has_its_room : has_room h (record { held = nothing; found = not_yet; loader = Table; dump = m; check = check }) (d_of i) ≡ true
  has_its_room = le-leb (need (d_of i)) (length (left_free h m Table)) room

  -- the last step of the resume
  answers_resumed : (own_step h (record { held = nothing; found = not_yet; loader = Table; dump = m; check = check }) i (resume_steps i - 1)).0 ≡ reply.Resumed (n_of i)
  answers_resumed =
      let l : Load = record { held = nothing; found = not_yet; loader = Table; dump = m; check = check } in
      let k = resume_steps i - 1 in
      let last : k + 1 ≡ resume_steps i = omega arith in
      let few = eqb (k + 1) (6 + meta_of (n_of i)) in
      ap (λ (o : Outcome). o.0) (cond-false (few && not (has_room h l (d_of i))) (too_few h l (d_of i)) _ (ap (λ (b : Bool). few && not b) has_its_room ∙ and_false few))
      ∙ ap (λ (o : Outcome). o.0) (cond-true (eqb (k + 1) (resume_steps i)) _ _ (eq-eqb (k + 1) (resume_steps i) last))

  trace_ends : IsLast (trace h m w Table check) (reply.Resumed (n_of i))
  trace_ends =
      let l : Load = record { held = nothing; found = not_yet; loader = Table; dump = m; check = check } in
      let k = resume_steps i - 1 in
      let says = traces_own h w i l k hardware holds own (omega arith) (omega arith) (inr has_its_room) ∙ ap Some answers_resumed in
      elim (counted_at 1 k (trace h m w Table check) (reply.Resumed (n_of i)) (trace_counts h m w check) says) [
        | inl loading ↦ absurd (false≢true (ap goes_on loading))
        | inr last ↦ last.1
      ]

  is_own_disk : IsOwnDisk h w i
  is_own_disk = record { hardware = hardware; holds = holds; own = own; sayable = own_sayable h w i hardware own }

  -- the resume's reply is this one, if no call of the disk fails
  answers : (frames : Memory) (ended : Ended) (now : Option disk.Content) → IsResumed h m check w frames ended now → ended.failed ≡ false → ended.reply ≡ reply.Resumed (n_of i)
  answers frames ended now is unfailed = elim is.answer [
    | inl last ↦ one_last (trace h m w Table check) ended.reply (reply.Resumed (n_of i)) last.0 trace_ends
    | inr fault ↦ absurd (false≢true (sym unfailed ∙ fault.1))
  ]

  -- a task's slot is below the disk's end, and isn't the header's
  slot_left : (u : disk.DiskImage) (s : ℕ) (page : List ℕ) → IsSameOrTakenBack h w u → i.slots s ≡ Some page → disk.block u (block_of_slot h s) ≡ page
  slot_left u s page taken says =
      let memory = own.of_memory.0 in
      let of_memory = own.of_memory.1 in
      let task = of_memory.task_slots.tasks s page says in
      let below = (usable_area h w of_memory.fits_area.area).on_disk s task.0 in
      taken.others (block_of_slot h s) below (task_not_header h memory s hardware of_memory.fits task.0 task.2) ∙ holds.slots s page says

-- How many page frames a hibernation says that it saved.

abbrev saved_of : Reply → ℕ
saved_of (reply.Hibernated n) = n
saved_of _ = 0

saved_count : (n m : ℕ) (o : Option Reply) → ((r : Reply) → o ≡ Some r → Refuses r) → reply.Hibernated n ≡ unwrap_or o (reply.Hibernated m) → n ≡ m
saved_count n m None refuses e = ap saved_of e
saved_count n m (Some r) refuses e = absurd (subst Refuses (sym e) (refuses r refl))

counted : (h : Hardware) (a : Running) (f : Format) (n : ℕ) (ended : Ended) (v : disk.DiskImage) (now : Option disk.Content) → HasHibernated h a f v ended now → ended.reply ≡ reply.Hibernated n → n ≡ n_of (image_to_save h a f)
counted h a f n ended v now is hibernated = elim is.answer [
  | inl answer ↦ saved_count n (n_of (image_to_save h a f)) (refusal h (on a) (event.Hibernate f)) (refusal_refuses h f a) (sym hibernated ∙ answer.0)
  | inr fault ↦ absurd (subst EndsInFault hibernated fault.0)
]

no_mark_left : (r : Reply) (n : ℕ) → r ≡ reply.Resumed n → MayLeaveMark r → ⊥
no_mark_left r n is left = subst MayLeaveMark is left

-- A hibernation saves an image. After it, over a disk with one of the contents that this command left, comes a resume
-- into a loader of the same machine that has room, and no call of the disk fails. The machine is then resumed with each
-- saveable page and each task's slot as at the atomic copy, and no image is left.
module _ {X Y : Type 0} (D : Ghosts X) (E : Ghosts Y) (before between : X) (again after : Y) (f : Format) (size : Option ℕ) (check : IdentCheck) (x x' y y' : View) (status status' : Status) (saved loader : DumpValue) (ended resumed' : Ended) (v w : disk.DiskImage) (c : disk.Content) (n : ℕ)
    (first : HasAnswered D before between f size x x' status saved ended) (was : D.content before ≡ Some (disk.settled v)) (original : Marked saved.hw v → HasOriginal saved.hw v) (hibernated : ended.reply ≡ reply.Hibernated n)
    (left : D.content between ≡ Some c) (honest : disk.IsImage c w)
    (second : HasLoaded E again after check y y' status' loader resumed') (found : E.content again ≡ Some (disk.settled w)) (same : loader.hw ≡ saved.hw) (unfailed : resumed'.failed ≡ false)
    (room : HasRoomFor loader.hw loader.memory (image_to_save loader.hw (machine_to_save loader.hw saved.memory size v) f)) where
  has_saved : HasHibernated saved.hw (machine_to_save saved.hw saved.memory size v) f v ended (D.content between)
  has_saved = has_hibernated D saved.hw saved.memory v f size ended first.ran.0 first.ran.1 first.shown before between (first.ran.3.over v was original) first.ran.2

  holds_image : Holds saved.hw w (image_to_save saved.hw (machine_to_save saved.hw saved.memory size v) f) × IsOwn saved.hw w (image_to_save saved.hw (machine_to_save saved.hw saved.memory size v) f)
  holds_image =
      let here = same_Some has_saved.content c (sym has_saved.told ∙ left) in
      has_saved.image n hibernated w (subst (λ (d : disk.Content). disk.IsImage d w) (sym here) honest)

  original_there : HasOriginal saved.hw w
  original_there = original_kept D saved.hw saved.memory v f size ended first.ran.0 first.ran.1 first.shown before between (first.ran.3.over v was original) c left w honest

  pub hibernate_then_resume : (resumed'.reply ≡ reply.Resumed n) × (now : disk.Content) × (E.content after ≡ Some now) × GivesBack loader.hw (machine_to_save loader.hw saved.memory size v) second.shown.frames now
  hibernate_then_resume =
      let h = loader.hw in
      let a = machine_to_save h saved.memory size v in
      let i = image_to_save h a f in
      let images = subst (λ (g : Hardware). Holds g w (image_to_save g (machine_to_save g saved.memory size v) f) × IsOwn g w (image_to_save g (machine_to_save g saved.memory size v) f)) (sym same) holds_image in
      let has_original = subst (λ (g : Hardware). HasOriginal g w) (sym same) original_there in
      let over = second.ran.3.over w found (λ marked. has_original) in
      let is = has_resumed E h loader.memory w check resumed' second.ran.0 second.ran.1 second.shown again after over second.ran.2 in
      let answer = answers h w i loader.memory check second.machine images.0 images.1 room second.shown.frames resumed' (E.content after) is unfailed in
      let count : n ≡ n_of i = subst (λ (g : Hardware). n ≡ n_of (image_to_save g (machine_to_save g saved.memory size v) f)) (sym same) (counted saved.hw (machine_to_save saved.hw saved.memory size v) f n ended v (D.content between) has_saved hibernated) in
      let taken = resumption_taken E h loader.memory w check resumed' second.ran.0 second.ran.1 second.shown again after over second.ran.2 is.content is.told in (
        answer ∙ ap reply.Resumed (sym count),
        is.content,
        is.told,
        record {
          pages = λ p in' lt.
              ap (λ (frames : Memory). frame frames p) (is.restored (n_of i) answer ∙ restored_is h w i loader.memory Table (is_own_disk h w i loader.memory check second.machine images.0 images.1 room))
              ∙ restored-saveable h loader.memory a.memory Table a.slots f p in' lt;
          slots = λ s page says u in'. slot_left h w i loader.memory check second.machine images.0 images.1 room u s page (taken u in') says;
          gone = elim is.gone [ inl may ↦ absurd (no_mark_left resumed'.reply (n_of i) answer may) | inr none ↦ none ];
        },
      )
