-- A run of a resume: what it comes to, and what a crash inside it may leave.
use Rattle.std.proofs.Common.{◌≡◌, inl, inr, ℕ, true, false, List, [], ◌∷◌, Option, Some, refl, sym, ◌∙◌, subst, Contains}
use Rattle.std.proofs.lemmas.Option.{same_Some}
use Rattle.definitions.specs.Disk as disk
use Rattle.plain_machine.specs.Machine.{Hardware, Memory}
use Rattle.plain_machine.specs.Shows.{WorldView}
use Rattle.plain_machine.specs.Stands.{EachImage, IsSameOrTakenBack}
use Rattle.plain_machine.specs.State.{State, off}
use Rattle.plain_machine.specs.declared.event.Event.{Event}
use Rattle.plain_machine.specs.declared.event.Event.TheVariants as event
use Rattle.plain_machine.specs.declared.event.IdentCheck.{IdentCheck}
use Rattle.plain_machine.specs.declared.event.Loader.TheVariants.{Table}
use Rattle.plain_machine.specs.declared.reply.Reply.{Reply}
use Rattle.plain_machine.specs.declared.reply.Reply.TheVariants as reply
use Rattle.protocol_laws.specs.Rows.{blocks_written}
use Rattle.protocol_laws.proofs.Inside.{taken_itself}
use Rattle.sector_disk.specs.declared.disk.Disk.{Ghosts}
use Rattle.command_core.specs.Turns.{Situation, Turn, AreTurns, IsLeftInside, end_of}
use Rattle.command_core.specs.Runs.{AreStepped, IsResumption, RunsOver, core_steps, held_at_first}
use Rattle.command_core.specs.declared.ending.Ended.{Ended}
use Rattle.command_core.specs.Resumptions.{HasResumed}
use Rattle.command_core.proofs.Begun.{IsUntouched, untouched_first, untouched_then, untouched_at, off_writes, step_from}
use Rattle.command_core.proofs.Crashes.{resumes_inside, taken_steps, untouched_inside}
use Rattle.command_core.proofs.LastReplies.{has_gone}
use Rattle.command_core.proofs.Loaded.{resume_begins, begins_at, resumes}
use Rattle.command_core.proofs.Walking.{point, turn_at, walked_inside}

module _ (h : Hardware) (m : Memory) (check : IdentCheck) (v : disk.DiskImage) (blocks : ℕ) (p : Situation) (state : p.state ≡ off (held_at_first h v) (Some m)) (content : p.content ≡ disk.settled v) (whole : disk.IsContent blocks (disk.settled v)) where
  first_untouched : IsUntouched v (point reply.Idle true p)
  first_untouched = untouched_first blocks v (point reply.Idle true p) content whole

  begun_untouched : (begun : Reply) (q : Situation) → Turn h (event.Resume Table check) begun p q → IsUntouched v (point begun true q)
  begun_untouched begun q turn =
      untouched_then h (event.Resume Table check) v (point reply.Idle true p) (point begun true q) first_untouched (turn_at h (event.Resume Table check) reply.Idle begun true p q turn)
      (λ b in'. off_writes h (held_at_first h v) (Some m) b (subst (λ (s : State). Contains (blocks_written h s) b) state in'))

  loads : (begun : Reply) (rest : List Reply) (ended : Ended) (told : Option disk.Content) (through : List Situation) → AreStepped begun rest ended → AreTurns h p (event.Resume Table check ∷ core_steps rest) (begun ∷ rest) through → told ≡ Some (end_of p through).content → HasResumed h m check v (end_of p through).shown.frames ended told
  loads begun rest ended told [] stepped turns says = absurd turns
  loads begun rest ended told (q ∷ through) stepped (turn, turns) says =
      let start = point begun false q in
      let untouched = untouched_at v (point begun true q) start refl (begun_untouched begun q turn) in
      let is = resume_begins h m check v (disk.as_it_reads p.content) begun q.state (step_from h (event.Resume Table check) (off (held_at_first h v) (Some m)) (point reply.Idle true p) (point begun true q) state (turn_at h (event.Resume Table check) reply.Idle begun true p q turn)) in
      resumes h m check v blocks (end_of q through).shown start ended told (end_of q through).content says whole refl untouched (begins_at h m check v begun q.state false is.0 is.1) (has_gone h q begun rest ended through turn.stands turns stepped)

  -- the disk is the one that was found, but for block(0), which is as it was or taken back
  takes : (begun : Reply) (rest : List Reply) (ended : Ended) (through : List Situation) → AreStepped begun rest ended → AreTurns h p (event.Resume Table check ∷ core_steps rest) (begun ∷ rest) through → EachImage (end_of p through).content (IsSameOrTakenBack h v)
  takes begun rest ended [] stepped turns = absurd turns
  takes begun rest ended (q ∷ through) stepped (turn, turns) =
      let start = point begun false q in
      let untouched = untouched_at v (point begun true q) start refl (begun_untouched begun q turn) in
      let is = resume_begins h m check v (disk.as_it_reads p.content) begun q.state (step_from h (event.Resume Table check) (off (held_at_first h v) (Some m)) (point reply.Idle true p) (point begun true q) state (turn_at h (event.Resume Table check) reply.Idle begun true p q turn)) in
      let gone = has_gone h q begun rest ended through turn.stands turns stepped in
      subst (λ (c : disk.Content). EachImage c (IsSameOrTakenBack h v)) gone.content_is
      (taken_steps h m check v blocks gone.steps start gone.end whole untouched (begins_at h m check v begun q.state false is.0 is.1) gone.are).taken

  inside_resumption : (begun : Reply) (rest : List Reply) (ended : Ended) (w : disk.DiskImage) (through : List Situation) → AreStepped begun rest ended → AreTurns h p (event.Resume Table check ∷ core_steps rest) (begun ∷ rest) through → IsLeftInside p through w → IsSameOrTakenBack h v w
  inside_resumption begun rest ended w [] stepped turns left = absurd turns
  inside_resumption begun rest ended w (q ∷ through) stepped (turn, turns) (inl mixed) =
      taken_itself h v w (untouched_inside blocks v w (point reply.Idle true p) (point begun true q) whole first_untouched (begun_untouched begun q turn) mixed)
  inside_resumption begun rest ended w (q ∷ through) stepped (turn, turns) (inr left) =
      let start = point begun false q in
      let untouched = untouched_at v (point begun true q) start refl (begun_untouched begun q turn) in
      let is = resume_begins h m check v (disk.as_it_reads p.content) begun q.state (step_from h (event.Resume Table check) (off (held_at_first h v) (Some m)) (point reply.Idle true p) (point begun true q) state (turn_at h (event.Resume Table check) reply.Idle begun true p q turn)) in
      resumes_inside h m check v w blocks start whole untouched (begins_at h m check v begun q.state false is.0 is.1) (walked_inside h q begun false rest through w turns stepped.goes left)

-- Of the whole run.
module _ {X : Type 0} (D : Ghosts X) (h : Hardware) (m : Memory) (v : disk.DiskImage) (check : IdentCheck) (ended : Ended) (events : List Event) (replies : List Reply) (shown : WorldView) (before after : X) (over : RunsOver D h m v events replies shown before after) (is : IsResumption check ended events replies) where
  whole_first : disk.IsContent over.whole.0 (disk.settled v)
  whole_first = subst (disk.IsContent over.whole.0) over.content over.whole.1

  turns_of : AreTurns h over.first (event.Resume Table check ∷ core_steps is.rest) (is.begun ∷ is.rest) over.through
  turns_of = subst (λ (rs : List Reply). AreTurns h over.first (event.Resume Table check ∷ core_steps is.rest) rs over.through) is.replies_are (subst (λ (es : List Event). AreTurns h over.first es replies over.through) is.events_are over.turns)

  pub has_resumed : HasResumed h m check v shown.frames ended (D.content after)
  has_resumed =
      subst (λ (w : WorldView). HasResumed h m check v w.frames ended (D.content after)) over.shown_is
      (loads h m check v over.whole.0 over.first over.state over.content whole_first is.begun is.rest ended (D.content after) over.through is.stepped turns_of over.told)

  -- a crash inside leaves the disk as it was, but for block(0), which is as it was or taken back
  pub resumption_inside : (w : disk.DiskImage) → IsLeftInside over.first over.through w → IsSameOrTakenBack h v w
  resumption_inside w left = inside_resumption h m check v over.whole.0 over.first over.state over.content whole_first is.begun is.rest ended w over.through is.stepped turns_of left

  pub resumption_taken : (c : disk.Content) → D.content after ≡ Some c → EachImage c (IsSameOrTakenBack h v)
  resumption_taken c told =
      subst (λ (d : disk.Content). EachImage d (IsSameOrTakenBack h v)) (same_Some (end_of over.first over.through).content c (sym over.told ∙ told))
      (takes h m check v over.whole.0 over.first over.state over.content whole_first is.begun is.rest ended over.through is.stepped turns_of)
