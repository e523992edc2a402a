-- The row of a power cut.
use Rattle.protocol_laws.proofs.HeaderLeft.{left_same, left_cut}
use Rattle.protocol_laws.proofs.Unwritten.{block_cut, block_same}
use Rattle.std.proofs.Common.{◌≡◌, ℕ, Bool, true, false, Option, Some, None, refl, sym, ap, ◌∙◌, arith, subst}
use Rattle.definitions.specs.Disk as disk
use Rattle.plain_machine.specs.Machine.{Hardware, Memory}
use Rattle.plain_machine.specs.Shows.{ShowsKept, Activity, rests, runs, boots, hibernates, undoes, settles, wakes, loads, sleeps, activity_in}
use Rattle.plain_machine.specs.Stands.{Stands}
use Rattle.plain_machine.specs.State.{State, off, on, booting, hibernating, undoing, settling, waking, loading, asleep, held_in, kept_in}
use Rattle.plain_machine.specs.Refusals.{refusal}
use Rattle.plain_machine.specs.declared.event.Event.TheVariants as event
use Rattle.plain_machine.specs.declared.reply.Reply.TheVariants as reply
use Rattle.world_core.specs.declared.world.Core.{Core}
use Rattle.world_core.specs.declared.world.Core.TheVariants.{Off, Running, BootBegun, BootSynced, Hibernating, Asleep, Waking, Loading}
use Rattle.world_core.specs.World.{World}
use Rattle.world_core.specs.StandsFor.{StandsFor, activity_of, hardware_of, keeps_dump, shown}
use Rattle.world_core.specs.Row.{Simulates}
use Rattle.hib_core.specs.declared.hib.Hib.{Hib}
use Rattle.resume_core.specs.declared.load.Load.{Load}
use Rattle.hib_core.specs.declared.waking.waker.Waker.{Waker}
use Rattle.std.proofs.lemmas.Bool.{false≢true}
use Rattle.world_core.proofs.Cases.{activity_by, activity_for}
use Rattle.protocol_laws.proofs.PowerCuts.{cuts_off, cut_keeps_area}
use Rattle.world_core.proofs.Rows.{accepted_step, area_of_same}

abbrev is_rest : Activity → Bool
is_rest rests = true
is_rest _ = false

-- a world that isn't off keeps no dump
keeps_off : (core : Core) (hib : Hib) (load : Load) (waker : Waker) → is_rest (activity_of core hib load waker) ≡ false → keeps_dump core ≡ false
keeps_off (Off keeps) hib load waker e = absurd (false≢true (sym e))
keeps_off Running hib load waker e = refl
keeps_off (BootBegun from) hib load waker e = refl
keeps_off (BootSynced from) hib load waker e = refl
keeps_off Hibernating hib load waker e = refl
keeps_off Asleep hib load waker e = refl
keeps_off Waking hib load waker e = refl
keeps_off Loading hib load waker e = refl

keeps_none : (w : World) (c : disk.Content) (a : State) (x : Activity) → activity_in a ≡ x → is_rest x ≡ false → StandsFor w c a → keeps_dump w.core ≡ false
keeps_none w c a x is no_rest stands = keeps_off w.core w.hib w.load w.waker (ap is_rest (activity_for w c a stands ∙ is) ∙ no_rest)

-- memory that is kept stays, and what isn't kept isn't
kept_still : (old new : World) (c : disk.Content) (a : State) → new.core ≡ Off (keeps_dump old.core) → new.frames ≡ old.frames → StandsFor old c a → ShowsKept (hardware_of old) (shown new) (kept_in a)
kept_still old new c (off held kept) core frames stands = kept_off kept stands.stands.parts.memory where
  kept_off : (k : Option Memory) → ShowsKept (hardware_of old) (shown old) k → ShowsKept (hardware_of old) (shown new) k
  kept_off None shows = ap keeps_dump core ∙ shows
  kept_off (Some m) shows = (ap keeps_dump core ∙ shows.0, frames ∙ shows.1, shows.2)
kept_still old new c (on a) core frames stands = ap keeps_dump core ∙ keeps_none old c (on a) runs refl refl stands
kept_still old new c (booting from dump held k) core frames stands = ap keeps_dump core ∙ keeps_none old c (booting from dump held k) (boots from k) refl refl stands
kept_still old new c (hibernating suspends i a k) core frames stands = ap keeps_dump core ∙ keeps_none old c (hibernating suspends i a k) (hibernates suspends k) refl refl stands
kept_still old new c (undoing i call a k) core frames stands = ap keeps_dump core ∙ keeps_none old c (undoing i call a k) (undoes call k) refl refl stands
kept_still old new c (settling a k) core frames stands = ap keeps_dump core ∙ keeps_none old c (settling a k) (settles k) refl refl stands
kept_still old new c (waking i held a k) core frames stands = ap keeps_dump core ∙ keeps_none old c (waking i held a k) (wakes k) refl refl stands
kept_still old new c (loading load k) core frames stands = ap keeps_dump core ∙ keeps_none old c (loading load k) (loads k) refl refl stands
kept_still old new c (asleep i held a) core frames stands = ap keeps_dump core ∙ keeps_none old c (asleep i held a) sleeps refl refl stands

never_refused : (h : Hardware) (a : State) (pick : ℕ) → refusal h a (event.Cut pick) ≡ None
unfolding refusal
never_refused h a pick = refl

pub row_of_cut : (old new : World) (pick blocks : ℕ) (c c' : disk.Content) → disk.IsContent blocks c → disk.Restarts c c' → new.core ≡ Off (keeps_dump old.core) → new.frames ≡ old.frames → hardware_of new ≡ hardware_of old → Simulates (event.Cut pick) old new reply.WasCut c c'
row_of_cut old new pick blocks c c' whole restarts core frames hw = λ a stands.
    let h = hardware_of old in
    let kept : ShowsKept h (shown new) (kept_in a) = kept_still old new c a core frames stands in
    let is_off : Stands h (shown new) c' (off (held_in a) (kept_in a)) = cuts_off h (shown old) (shown new) c c' a stands.stands restarts (activity_by new (Off (keeps_dump old.core)) core) kept in (
      off (held_in a) (kept_in a),
      record {
        step = accepted_step h (disk.as_it_reads c) a (event.Cut pick) reply.WasCut (off (held_in a) (kept_in a)) (never_refused h a pick) (0, omega arith, refl);
        stands = record {
          stands = subst (λ (g : Hardware). Stands g (shown new) c' (off (held_in a) (kept_in a))) (sym hw) is_off;
          image = tt;
          resume = tt;
        };
        area = cut_keeps_area h (shown old) c c' blocks a whole stands.stands restarts;
        unwritten = λ b not. block_cut b c c' restarts;
        leaves = tt;
        header = left_cut h a c c' restarts;
      },
    )

-- An arm changes nothing but which calls of the disk will fail.

arm_goes : (h : Hardware) (a : State) (first count pick : ℕ) → refusal h a (event.Arm first count pick) ≡ None
unfolding refusal
arm_goes h a first count pick = refl

pub row_of_arm : (w : World) (first count pick : ℕ) (c : disk.Content) → Simulates (event.Arm first count pick) w w reply.Done c c
row_of_arm w first count pick c = λ a stands. (
  a,
  record {
    step = accepted_step (hardware_of w) (disk.as_it_reads c) a (event.Arm first count pick) reply.Done a (arm_goes (hardware_of w) a first count pick) (0, omega arith, refl);
    stands = stands;
    area = area_of_same (hardware_of w) (disk.as_it_reads c) (disk.as_it_reads c) refl;
    unwritten = λ b not_in. block_same b _;
    leaves = tt;
    header = left_same (hardware_of w) a c;
  },
)
