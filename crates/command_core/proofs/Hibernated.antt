-- A run of a hibernation, from the boot on: what it comes to, and what a crash inside it may leave.
use Rattle.std.proofs.Common.{◌≡◌, ◌⊎◌, inl, inr, ◌↔◌, ℕ, true, false, List, [], ◌∷◌, ◌++◌, length, Option, Some, None, refl, sym, ap, ◌∙◌, subst, arith, Contains}
use Rattle.std.proofs.lemmas.Bool.{false≢true}
use Rattle.page_core.specs.declared.format.Format.{Format}
use Rattle.std.proofs.lemmas.Option.{same_Some}
use Rattle.definitions.specs.Disk as disk
use Rattle.plain_machine.specs.Stands.{EachImage}
use Rattle.plain_machine.specs.UsableArea.{HasOriginal}
use Rattle.plain_machine.specs.Machine.{Hardware, Memory}
use Rattle.plain_machine.specs.Shows.{WorldView}
use Rattle.plain_machine.specs.State.{State, off, on}
use Rattle.plain_machine.specs.declared.event.Actor.TheVariants as actor
use Rattle.plain_machine.specs.declared.event.BootFrom.TheVariants.{Kept}
use Rattle.plain_machine.specs.declared.event.Event.{Event}
use Rattle.plain_machine.specs.declared.event.Event.TheVariants as event
use Rattle.plain_machine.specs.declared.reply.Reply.{Reply}
use Rattle.plain_machine.specs.declared.reply.Reply.TheVariants as reply
use Rattle.plain_machine.specs.State.{Running}
use Rattle.protocol_laws.specs.Rows.{TellsNewFault, blocks_written}
use Rattle.sector_disk.specs.declared.disk.Disk.{Ghosts}
use Rattle.command_core.specs.Turns.{Situation, AreTurns, IsLeftInside, end_of}
use Rattle.command_core.specs.Runs.{AreStepped, IsAsked, IsHibernation, RunsOver, boot_events, core_steps, goes_on, held_at_first, is_booted, shrink_events}
use Rattle.command_core.specs.declared.ending.Ended.{Ended}
use Rattle.command_core.specs.Hibernations.{HasHibernated, IsUnmarkedOrHolds, image_to_save, machine_of_dump, machine_to_save}
use Rattle.command_core.specs.Points.{Point}
use Rattle.command_core.proofs.Begun.{IsUntouched, RunsUntouched, untouched_first, untouched_then, untouched_at, save_writes, boots_first, boots_second, boots_third, up_shrunk, step_from}
use Rattle.command_core.proofs.Booting.{hibernation_begins}
use Rattle.command_core.proofs.Crashes.{header_by, never_inside, saves_inside, untouched_inside}
use Rattle.command_core.proofs.LastReplies.{has_gone, stands_at_end}
use Rattle.command_core.proofs.Hibernating.{IsAt}
use Rattle.command_core.proofs.Saved.{failed_early, refused, saves}
use Rattle.command_core.proofs.Walking.{point, turn_at, walked_inside}

-- A run that begins over the disk v, with the machine off.
record Begins (h : Hardware) (m : Memory) (v : disk.DiskImage) (blocks : ℕ) (p : Situation) : Type 0 where
  pub state : p.state ≡ off (held_at_first h v) (Some m)
  pub content : p.content ≡ disk.settled v
  pub whole : disk.IsContent blocks (disk.settled v)

-- before the first event
abbrev at_first : Situation → Point
at_first p = point reply.Idle true p

first_untouched : (h : Hardware) (m : Memory) (v : disk.DiskImage) (blocks : ℕ) (p : Situation) → Begins h m v blocks p → IsUntouched v (at_first p)
first_untouched h m v blocks p is = untouched_first blocks v (at_first p) is.content is.whole

-- The run stops in its boot.

unsynced : (h : Hardware) (m : Memory) (v : disk.DiskImage) (blocks : ℕ) (a : Running) (f : Format) (ended : Ended) (told : Option disk.Content) (p : Situation) (begun : Reply) (through : List Situation) → Begins h m v blocks p → goes_on ended.reply ≡ false → (ended.failed ≡ true) ↔ TellsNewFault ended.reply →
    AreTurns h p (event.Boot Kept ∷ event.Step actor.Core ∷ []) (begun ∷ ended.reply ∷ []) through → told ≡ Some (end_of p through).content → HasHibernated h a f v ended told
unsynced h m v blocks a f ended told p begun [] is stops failed turns says = absurd turns
unsynced h m v blocks a f ended told p begun (q ∷ []) is stops failed turns says = absurd turns.1
unsynced h m v blocks a f ended told p begun (q ∷ r ∷ []) is stops failed turns says =
    let boots = boots_first h m v blocks (at_first p) (point begun true q) is.state is.content is.whole (turn_at h (event.Boot Kept) reply.Idle begun true p q turns.0) in
    elim (boots_second h m v (point begun true q) (point ended.reply true r) boots (turn_at h (event.Step actor.Core) begun ended.reply true q r turns.1.0)) [
      | inl goes ↦ absurd (false≢true (sym stops ∙ goes.0))
      | inr fails ↦ failed_early h a f v ended told (point ended.reply true r) says fails.1.untouched fails.1.fault (failed.1 fails.1.new_fault)
    ]
unsynced h m v blocks a f ended told p begun (q ∷ r ∷ s ∷ through) is stops failed turns says = absurd turns.1.1

unbooted : (h : Hardware) (m : Memory) (v : disk.DiskImage) (blocks : ℕ) (a : Running) (f : Format) (ended : Ended) (told : Option disk.Content) (p : Situation) (begun synced : Reply) (through : List Situation) → Begins h m v blocks p → goes_on synced ≡ true → is_booted ended.reply ≡ false → (ended.failed ≡ true) ↔ TellsNewFault ended.reply →
    AreTurns h p boot_events (begun ∷ synced ∷ ended.reply ∷ []) through → told ≡ Some (end_of p through).content → HasHibernated h a f v ended told
unbooted h m v blocks a f ended told p begun synced [] is goes_on' stops failed turns says = absurd turns
unbooted h m v blocks a f ended told p begun synced (q ∷ []) is goes_on' stops failed turns says = absurd turns.1
unbooted h m v blocks a f ended told p begun synced (q ∷ r ∷ []) is goes_on' stops failed turns says = absurd turns.1.1
unbooted h m v blocks a f ended told p begun synced (q ∷ r ∷ s ∷ []) is goes_on' stops failed turns says =
    let boots = boots_first h m v blocks (at_first p) (point begun true q) is.state is.content is.whole (turn_at h (event.Boot Kept) reply.Idle begun true p q turns.0) in
    elim (boots_second h m v (point begun true q) (point synced true r) boots (turn_at h (event.Step actor.Core) begun synced true q r turns.1.0)) [
      | inr fails ↦ absurd (false≢true (sym fails.0 ∙ goes_on'))
      | inl goes ↦ elim (boots_third h m v blocks (point synced true r) (point ended.reply true s) is.whole goes.1 (turn_at h (event.Step actor.Core) synced ended.reply true r s turns.1.1.0)) [
        | inl booted ↦ absurd (false≢true (sym stops ∙ booted.0))
        | inr fails ↦ failed_early h a f v ended told (point ended.reply true s) says fails.1.untouched fails.1.fault (failed.1 fails.1.new_fault)
      ]
    ]
unbooted h m v blocks a f ended told p begun synced (q ∷ r ∷ s ∷ t ∷ through) is goes_on' stops failed turns says = absurd turns.1.1.1

-- Or the machine is up, over the disk as it was, and the rest of the events follows; a crash before leaves the disk so.
record ComesUp (h : Hardware) (a : Running) (v : disk.DiskImage) (events : List Event) (replies : List Reply) (p : Situation) (through : List Situation) : Type 0 where
  pub at : Situation
  pub last : Reply
  pub up : RunsUntouched a v (point last true at)
  pub later : List Situation
  pub turns : AreTurns h at events replies later
  pub end : end_of p through ≡ end_of at later
  pub inside : (w : disk.DiskImage) → IsLeftInside p through w → (w ≡ v) ⊎ IsLeftInside at later w

boots : (h : Hardware) (m : Memory) (v : disk.DiskImage) (blocks : ℕ) (events : List Event) (replies : List Reply) (p : Situation) (begun synced booted : Reply) (through : List Situation) → Begins h m v blocks p → goes_on synced ≡ true → is_booted booted ≡ true →
    AreTurns h p (event.Boot Kept ∷ event.Step actor.Core ∷ event.Step actor.Core ∷ events) (begun ∷ synced ∷ booted ∷ replies) through → ComesUp h (machine_of_dump h m v) v events replies p through
boots h m v blocks events replies p begun synced booted [] is goes_on' boots' turns = absurd turns
boots h m v blocks events replies p begun synced booted (q ∷ []) is goes_on' boots' turns = absurd turns.1
boots h m v blocks events replies p begun synced booted (q ∷ r ∷ []) is goes_on' boots' turns = absurd turns.1.1
boots h m v blocks events replies p begun synced booted (q ∷ r ∷ s ∷ through) is goes_on' boots' (one, (two, (three, turns))) =
    let first = boots_first h m v blocks (at_first p) (point begun true q) is.state is.content is.whole (turn_at h (event.Boot Kept) reply.Idle begun true p q one) in
    elim (boots_second h m v (point begun true q) (point synced true r) first (turn_at h (event.Step actor.Core) begun synced true q r two)) [
      | inr fails ↦ absurd (false≢true (sym fails.0 ∙ goes_on'))
      | inl goes ↦ elim (boots_third h m v blocks (point synced true r) (point booted true s) is.whole goes.1 (turn_at h (event.Step actor.Core) synced booted true r s three)) [
        | inr fails ↦ absurd (false≢true (sym fails.0 ∙ boots'))
        | inl up ↦ record {
          at = s;
          last = booted;
          up = up.1;
          later = through;
          turns = turns;
          end = refl;
          inside = λ w left. elim left [
            | inl mixed ↦ inl (untouched_inside blocks v w (at_first p) (point begun true q) is.whole (first_untouched h m v blocks p is) first.untouched mixed)
            | inr left' ↦ elim left' [
              | inl mixed ↦ inl (untouched_inside blocks v w (point begun true q) (point synced true r) is.whole first.untouched goes.1.untouched mixed)
              | inr left'' ↦ elim left'' [
                | inl mixed ↦ inl (untouched_inside blocks v w (point synced true r) (point booted true s) is.whole goes.1.untouched up.1.untouched mixed)
                | inr later ↦ inr later
              ]
            ]
          ];
        }
      ]
    ]

shrunk_by : (h : Hardware) (m : Memory) (v : disk.DiskImage) (blocks want : ℕ) (events : List Event) (replies : List Reply) (r last : Reply) (at : Situation) (later : List Situation) (p : Situation) (through : List Situation) → disk.IsContent blocks (disk.settled v) → RunsUntouched (machine_of_dump h m v) v (point last true at) →
    AreTurns h at (event.Shrink want ∷ events) (r ∷ replies) later → end_of p through ≡ end_of at later → ((w : disk.DiskImage) → IsLeftInside p through w → (w ≡ v) ⊎ IsLeftInside at later w) → ComesUp h (machine_to_save h m (Some want) v) v events replies p through
shrunk_by h m v blocks want events replies r last at [] p through whole up turns end inside = absurd turns
shrunk_by h m v blocks want events replies r last at (q ∷ later) p through whole up (turn, turns) end inside =
    let shrunk = up_shrunk h m v want (point last true at) (point r true q) up (turn_at h (event.Shrink want) last r true at q turn) in
    record {
      at = q;
      last = r;
      up = shrunk;
      later = later;
      turns = turns;
      end = end;
      inside = λ w left. elim (inside w left) [
        | inl same ↦ inl same
        | inr left' ↦ elim left' [
          | inl mixed ↦ inl (untouched_inside blocks v w (point last true at) (point r true q) whole up.untouched shrunk.untouched mixed)
          | inr later' ↦ inr later'
        ]
      ];
    }

ready : (h : Hardware) (m : Memory) (v : disk.DiskImage) (blocks : ℕ) (size : Option ℕ) (events : List Event) (replies : List Reply) (p : Situation) (begun synced booted : Reply) (shrunk : List Reply) (through : List Situation) → Begins h m v blocks p → goes_on synced ≡ true → is_booted booted ≡ true → length shrunk ≡ length (shrink_events size) →
    AreTurns h p ((boot_events ++ shrink_events size) ++ events) (((begun ∷ synced ∷ booted ∷ []) ++ shrunk) ++ replies) through → ComesUp h (machine_to_save h m size v) v events replies p through
ready h m v blocks None events replies p begun synced booted [] through is goes boots' sizes turns = boots h m v blocks events replies p begun synced booted through is goes boots' turns
ready h m v blocks None events replies p begun synced booted (r ∷ shrunk) through is goes boots' sizes turns = absurd (omega arith)
ready h m v blocks (Some want) events replies p begun synced booted [] through is goes boots' sizes turns = absurd (omega arith)
ready h m v blocks (Some want) events replies p begun synced booted (r ∷ []) through is goes boots' sizes turns =
    let up = boots h m v blocks (event.Shrink want ∷ events) (r ∷ replies) p begun synced booted through is goes boots' turns in
    shrunk_by h m v blocks want events replies r up.last up.at up.later p through is.whole up.up up.turns up.end up.inside
ready h m v blocks (Some want) events replies p begun synced booted (r ∷ s ∷ shrunk) through is goes boots' sizes turns = absurd (omega arith)

-- Then the machine hibernates.

module _ (h : Hardware) (m : Memory) (v : disk.DiskImage) (size : Option ℕ) (f : Format) where
  -- after its event nothing is written
  begun_untouched : (last begun : Reply) (p q : Situation) → RunsUntouched (machine_to_save h m size v) v (point last true p) → AreTurns h p (event.Hibernate f ∷ []) (begun ∷ []) (q ∷ []) → IsUntouched v (point begun true q)
  begun_untouched last begun p q up turns =
      untouched_then h (event.Hibernate f) v (point last true p) (point begun true q) up.untouched (turn_at h (event.Hibernate f) last begun true p q turns.0)
      (λ b in'. save_writes h m size v b (subst (λ (s : State). Contains (blocks_written h s) b) up.state in'))

  hibernates : (last begun : Reply) (rest : List Reply) (ended : Ended) (told : Option disk.Content) (p : Situation) (through : List Situation) → RunsUntouched (machine_to_save h m size v) v (point last true p) → AreStepped begun rest ended → AreTurns h p (event.Hibernate f ∷ core_steps rest) (begun ∷ rest) through → told ≡ Some (end_of p through).content → HasHibernated h (machine_to_save h m size v) f v ended told
  hibernates last begun rest ended told p [] up stepped turns says = absurd turns
  hibernates last begun rest ended told p (q ∷ through) up stepped (turn, turns) says =
      let a = machine_to_save h m size v in
      let start = point begun false q in
      let untouched = untouched_at v (point begun true q) start refl (begun_untouched last begun p q up (turn, tt)) in
      let gone = has_gone h q begun rest ended through turn.stands turns stepped in
      let shown = (end_of q through).shown in
      let now = (end_of q through).content in
      elim (hibernation_begins h (disk.as_it_reads p.content) a f begun q.state (step_from h (event.Hibernate f) (on a) (point last true p) (point begun true q) up.state (turn_at h (event.Hibernate f) last begun true p q turn))) [
        | inl no' ↦ refused h a f v shown no'.0 start ended told now says refl untouched no'.1 no'.2 gone
        | inr is ↦ saves h a f v shown start ended told now says refl untouched is.0 (subst (λ (r : Reply). IsAt (image_to_save h a f) a 0 r q.state false) (sym is.1) is.2) gone
      ]

  inside_hibernation : (blocks : ℕ) (last begun : Reply) (rest : List Reply) (ended : Ended) (w : disk.DiskImage) (p : Situation) (through : List Situation) → disk.IsContent blocks (disk.settled v) → RunsUntouched (machine_to_save h m size v) v (point last true p) → AreStepped begun rest ended → AreTurns h p (event.Hibernate f ∷ core_steps rest) (begun ∷ rest) through → IsLeftInside p through w → (w ≡ v) ⊎ IsUnmarkedOrHolds h (image_to_save h (machine_to_save h m size v) f) w
  inside_hibernation blocks last begun rest ended w p [] whole up stepped turns left = absurd turns
  inside_hibernation blocks last begun rest ended w p (q ∷ through) whole up stepped (turn, turns) (inl mixed) =
      inl (untouched_inside blocks v w (point last true p) (point begun true q) whole up.untouched (begun_untouched last begun p q up (turn, tt)) mixed)
  inside_hibernation blocks last begun rest ended w p (q ∷ through) whole up stepped (turn, turns) (inr left) =
      let a = machine_to_save h m size v in
      let i = image_to_save h a f in
      let start = point begun false q in
      let untouched = untouched_at v (point begun true q) start refl (begun_untouched last begun p q up (turn, tt)) in
      let inside = walked_inside h q begun false rest through w turns stepped.goes left in
      elim (hibernation_begins h (disk.as_it_reads p.content) a f begun q.state (step_from h (event.Hibernate f) (on a) (point last true p) (point begun true q) up.state (turn_at h (event.Hibernate f) last begun true p q turn))) [
        | inl no' ↦ never_inside h a f no'.0 start w no'.1 no'.2 inside
        | inr is ↦ inr (saves_inside h i a v w start untouched (q.shown, turn.stands) (subst (λ (r : Reply). IsAt i a 0 r q.state false) (sym is.1) is.2) inside)
      ]

-- Of the whole run.
module _ {X : Type 0} (D : Ghosts X) (h : Hardware) (m : Memory) (v : disk.DiskImage) (f : Format) (size : Option ℕ) (ended : Ended) (events : List Event) (replies : List Reply) (shown : WorldView) (before after : X) (over : RunsOver D h m v events replies shown before after) where
  begins : Begins h m v over.whole.0 over.first
  begins = record { state = over.state; content = over.content; whole = subst (disk.IsContent over.whole.0) over.content over.whole.1 }

  comes_up : (is : IsAsked f size ended events replies) → ComesUp h (machine_to_save h m size v) v (event.Hibernate f ∷ core_steps is.rest) (is.begun ∷ is.rest) over.first over.through
  comes_up is =
      let up = is.ready in
      let then = event.Hibernate f ∷ core_steps is.rest in
      let all_events : events ≡ (boot_events ++ shrink_events size) ++ then = is.events_are ∙ ap (λ (es : List Event). es ++ then) up.events_are in
      let all_replies : replies ≡ ((up.begun ∷ up.synced ∷ up.booted ∷ []) ++ up.shrunk) ++ (is.begun ∷ is.rest) = is.replies_are ∙ ap (λ (rs : List Reply). rs ++ is.begun ∷ is.rest) up.replies_are in
      ready h m v over.whole.0 size then (is.begun ∷ is.rest) over.first up.begun up.synced up.booted up.shrunk over.through begins up.goes up.boots up.sizes
      (subst (λ (rs : List Reply). AreTurns h over.first ((boot_events ++ shrink_events size) ++ then) rs over.through) all_replies (subst (λ (es : List Event). AreTurns h over.first es replies over.through) all_events over.turns))

  pub has_hibernated : IsHibernation f size ended events replies → HasHibernated h (machine_to_save h m size v) f v ended (D.content after)
  has_hibernated (inl (inl is)) =
      unsynced h m v over.whole.0 (machine_to_save h m size v) f ended (D.content after) over.first is.begun over.through begins is.stops is.failed
      (subst (λ (rs : List Reply). AreTurns h over.first (event.Boot Kept ∷ event.Step actor.Core ∷ []) rs over.through) is.replies_are (subst (λ (es : List Event). AreTurns h over.first es replies over.through) is.events_are over.turns)) over.told
  has_hibernated (inl (inr is)) =
      unbooted h m v over.whole.0 (machine_to_save h m size v) f ended (D.content after) over.first is.begun is.synced over.through begins is.goes is.stops is.failed
      (subst (λ (rs : List Reply). AreTurns h over.first boot_events rs over.through) is.replies_are (subst (λ (es : List Event). AreTurns h over.first es replies over.through) is.events_are over.turns)) over.told
  has_hibernated (inr is) =
      let up = comes_up is in
      hibernates h m v size f up.last is.begun is.rest ended (D.content after) up.at up.later up.up is.stepped up.turns (over.told ∙ ap (λ (p : Situation). Some p.content) up.end)

  early_unsynced : (w : disk.DiskImage) (p : Situation) (begun : Reply) (through : List Situation) → Begins h m v over.whole.0 p → goes_on ended.reply ≡ false → AreTurns h p (event.Boot Kept ∷ event.Step actor.Core ∷ []) (begun ∷ ended.reply ∷ []) through → IsLeftInside p through w → w ≡ v
  early_unsynced w p begun [] is stops turns left = absurd turns
  early_unsynced w p begun (q ∷ []) is stops turns left = absurd turns.1
  early_unsynced w p begun (q ∷ r ∷ []) is stops turns left =
      let blocks = over.whole.0 in
      let one = point begun true q in
      let two = point ended.reply true r in
      let first = boots_first h m v blocks (at_first p) one is.state is.content is.whole (turn_at h (event.Boot Kept) reply.Idle begun true p q turns.0) in
      elim (boots_second h m v one two first (turn_at h (event.Step actor.Core) begun ended.reply true q r turns.1.0)) [
        | inl goes ↦ absurd (false≢true (sym stops ∙ goes.0))
        | inr fails ↦ elim left [
          | inl mixed ↦ untouched_inside blocks v w (at_first p) one is.whole (first_untouched h m v blocks p is) first.untouched mixed
          | inr left' ↦ elim left' [
            | inl mixed ↦ untouched_inside blocks v w one two is.whole first.untouched fails.1.untouched mixed
            | inr none ↦ absurd none
          ]
        ]
      ]
  early_unsynced w p begun (q ∷ r ∷ s ∷ through) is stops turns left = absurd turns.1.1

  early_unbooted : (w : disk.DiskImage) (p : Situation) (begun synced : Reply) (through : List Situation) → Begins h m v over.whole.0 p → goes_on synced ≡ true → is_booted ended.reply ≡ false → AreTurns h p boot_events (begun ∷ synced ∷ ended.reply ∷ []) through → IsLeftInside p through w → w ≡ v
  early_unbooted w p begun synced [] is goes' stops turns left = absurd turns
  early_unbooted w p begun synced (q ∷ []) is goes' stops turns left = absurd turns.1
  early_unbooted w p begun synced (q ∷ r ∷ []) is goes' stops turns left = absurd turns.1.1
  early_unbooted w p begun synced (q ∷ r ∷ s ∷ []) is goes' stops turns left =
      let blocks = over.whole.0 in
      let one = point begun true q in
      let two = point synced true r in
      let three = point ended.reply true s in
      let first = boots_first h m v blocks (at_first p) one is.state is.content is.whole (turn_at h (event.Boot Kept) reply.Idle begun true p q turns.0) in
      elim (boots_second h m v one two first (turn_at h (event.Step actor.Core) begun synced true q r turns.1.0)) [
        | inr fails ↦ absurd (false≢true (sym fails.0 ∙ goes'))
        | inl goes ↦ elim (boots_third h m v blocks two three is.whole goes.1 (turn_at h (event.Step actor.Core) synced ended.reply true r s turns.1.1.0)) [
          | inl booted ↦ absurd (false≢true (sym stops ∙ booted.0))
          | inr fails ↦ elim left [
            | inl mixed ↦ untouched_inside blocks v w (at_first p) one is.whole (first_untouched h m v blocks p is) first.untouched mixed
            | inr left' ↦ elim left' [
              | inl mixed ↦ untouched_inside blocks v w one two is.whole first.untouched goes.1.untouched mixed
              | inr left'' ↦ elim left'' [
                | inl mixed ↦ untouched_inside blocks v w two three is.whole goes.1.untouched fails.1.untouched mixed
                | inr none ↦ absurd none
              ]
            ]
          ]
        ]
      ]
  early_unbooted w p begun synced (q ∷ r ∷ s ∷ t ∷ through) is goes' stops turns left = absurd turns.1.1.1

  -- a crash inside leaves the disk as it was, or one that isn't marked, or holds the image
  pub hibernation_inside : (w : disk.DiskImage) → IsHibernation f size ended events replies → IsLeftInside over.first over.through w → (w ≡ v) ⊎ IsUnmarkedOrHolds h (image_to_save h (machine_to_save h m size v) f) w
  hibernation_inside w (inl (inl is)) left =
      inl (early_unsynced w over.first is.begun over.through begins is.stops
      (subst (λ (rs : List Reply). AreTurns h over.first (event.Boot Kept ∷ event.Step actor.Core ∷ []) rs over.through) is.replies_are (subst (λ (es : List Event). AreTurns h over.first es replies over.through) is.events_are over.turns)) left)
  hibernation_inside w (inl (inr is)) left =
      inl (early_unbooted w over.first is.begun is.synced over.through begins is.goes is.stops
      (subst (λ (rs : List Reply). AreTurns h over.first boot_events rs over.through) is.replies_are (subst (λ (es : List Event). AreTurns h over.first es replies over.through) is.events_are over.turns)) left)
  hibernation_inside w (inr is) left =
      let up = comes_up is in
      elim (up.inside w left) [
        | inl same ↦ inl same
        | inr later ↦ inside_hibernation h m v size f over.whole.0 up.last is.begun is.rest ended w up.at up.later begins.whole up.up is.stepped up.turns later
      ]

  -- each image that the disk may be left with has the area's own signature as its original one
  pub original_kept : (c : disk.Content) → D.content after ≡ Some c → EachImage c (HasOriginal h)
  original_kept c told =
      let q = end_of over.first over.through in
      let header = header_by h q.shown q.content q.state (stands_at_end h over.first events replies over.through over.stands over.turns) in
      subst (λ (d : disk.Content). EachImage d (HasOriginal h)) (same_Some q.content c (sym over.told ∙ told)) header.unmarked
