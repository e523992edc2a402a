-- A run's situations as points, each with what its reply says of the disk.
use Rattle.std.proofs.Common.{◌≡◌, ◌⊎◌, inl, inr, ◌↔◌, ℕ, zero, suc, Bool, true, false, ◌||◌, List, [], ◌∷◌, length, refl, sym, subst}
use Rattle.std.proofs.lemmas.Bool.{false≢true}
use Rattle.definitions.specs.Disk as disk
use Rattle.plain_machine.specs.Machine.{Hardware}
use Rattle.plain_machine.specs.declared.event.Actor.TheVariants as actor
use Rattle.plain_machine.specs.declared.event.Event.{Event}
use Rattle.plain_machine.specs.declared.event.Event.TheVariants as event
use Rattle.plain_machine.specs.declared.reply.Left.TheVariants.{Same, Gone, Unsure}
use Rattle.plain_machine.specs.declared.reply.Reply.{Reply}
use Rattle.plain_machine.specs.declared.reply.Reply.TheVariants as reply
use Rattle.protocol_laws.specs.Rows.{TellsNewFault}
use Rattle.protocol_laws.proofs.WrittenWhileHeld.{at_written}
use Rattle.command_core.specs.Turns as turns
use Rattle.command_core.specs.Turns.{Situation, Turn, AreTurns, end_of}
use Rattle.command_core.specs.Runs.{GoOn, HasNewFault, core_steps, goes_on, last_reply}
use Rattle.command_core.specs.Points.{Point, IsTurn, AreSteps, IsLeftInside}

abbrev pub point : Reply → Bool → Situation → Point
point r failed p = record { reply = r; failed = failed; state = p.state; content = p.content; frames = p.shown.frames }

-- TellsNewFault as a test
abbrev pub is_new : Reply → Bool
is_new (reply.ReadFault left) = true
is_new (reply.WriteFault Same) = true
is_new (reply.WriteFault Gone) = false
is_new (reply.WriteFault Unsure) = true
is_new (reply.SyncFault Same) = true
is_new (reply.SyncFault Gone) = false
is_new (reply.SyncFault Unsure) = true
is_new (reply.Undo call zero) = true
is_new _ = false

new_tells : (r : Reply) → is_new r ≡ true → TellsNewFault r
new_tells (reply.ReadFault left) is = tt
new_tells (reply.WriteFault Same) is = tt
new_tells (reply.WriteFault Gone) is = absurd (false≢true is)
new_tells (reply.WriteFault Unsure) is = tt
new_tells (reply.SyncFault Same) is = tt
new_tells (reply.SyncFault Gone) is = absurd (false≢true is)
new_tells (reply.SyncFault Unsure) is = tt
new_tells (reply.Undo call zero) is = tt
new_tells (reply.Undo call (suc k)) is = absurd (false≢true is)
new_tells _ is = absurd (false≢true is)

tells_new : (r : Reply) → TellsNewFault r → is_new r ≡ true
tells_new (reply.ReadFault left) is = refl
tells_new (reply.WriteFault Same) is = refl
tells_new (reply.WriteFault Gone) is = absurd is
tells_new (reply.WriteFault Unsure) is = refl
tells_new (reply.SyncFault Same) is = refl
tells_new (reply.SyncFault Gone) is = absurd is
tells_new (reply.SyncFault Unsure) is = refl
tells_new (reply.Undo call zero) is = refl
tells_new (reply.Undo call (suc k)) is = absurd is
tells_new _ is = absurd is

or_left : (a b : Bool) → a ≡ true → (a || b) ≡ true
or_left true b e = refl
or_left false b e = absurd (false≢true e)

or_right : (a b : Bool) → b ≡ true → (a || b) ≡ true
or_right true b e = refl
or_right false b e = e

or_either : (a b : Bool) → (a || b) ≡ true → (a ≡ true) ⊎ (b ≡ true)
or_either true b e = inl refl
or_either false b e = inr e

-- whether a call has failed by now, after a reply
abbrev pub failed_by : Bool → Reply → Bool
failed_by failed r = failed || is_new r

pub turn_at : (h : Hardware) (e : Event) (before r : Reply) (failed : Bool) (p q : Situation) → Turn h e r p q → IsTurn h e (point before failed p) (point r (failed_by failed r) q)
turn_at h e before r failed p q turn = record {
  step = turn.step;
  area = turn.area;
  unwritten = λ b not. turn.unwritten b (λ in'. not (at_written h e p.state b in'));
  header = turn.header;
  stands = (q.shown, turn.stands);
  blocks = turn.whole.0;
  whole = turn.whole.1;
  noticed = λ is. or_right failed (is_new r) (tells_new r is);
  noted = λ is. or_left failed (is_new r) is;
  no_other = λ is. elim (or_either failed (is_new r) is) [ inl was ↦ inl was | inr new' ↦ inr (new_tells r new') ];
  restored = turn.restored;
}

-- a step before others
steps_before : (h : Hardware) (n : ℕ) (start mid end : Point) → goes_on start.reply ≡ true → IsTurn h (event.Step actor.Core) start mid → AreSteps h n mid end → AreSteps h (suc n) start end
steps_before h zero start mid end goes turn are = (start, refl, goes, subst (IsTurn h (event.Step actor.Core) start) (sym are) turn)
steps_before h (suc n) start mid end goes turn (last, are, on', step) = (last, steps_before h n start mid last goes turn are, on', step)

-- The steps of an operation: the replies say whether a call has failed at the end.
pub record AreWalked (h : Hardware) (p : Situation) (begun : Reply) (failed : Bool) (rest : List Reply) (through : List Situation) : Type 0 where
  pub fails : Bool
  pub are : AreSteps h (length rest) (point begun failed p) (point (last_reply begun rest) fails (end_of p through))
  pub tells : (fails ≡ true) ↔ ((failed ≡ true) ⊎ HasNewFault rest)

pub walked : (h : Hardware) (p : Situation) (begun : Reply) (failed : Bool) (rest : List Reply) (through : List Situation) → AreTurns h p (core_steps rest) rest through → GoOn begun rest → AreWalked h p begun failed rest through
walked h p begun failed [] [] turns goes = record { fails = failed; are = refl; tells = (λ is. inl is, λ is. elim is [ inl was ↦ was | inr none ↦ absurd none ]) }
walked h p begun failed [] (q ∷ through) turns goes = absurd turns
walked h p begun failed (r ∷ rest) [] turns goes = absurd turns
walked h p begun failed (r ∷ rest) (q ∷ through) (turn, turns) (on', goes) =
    let now = failed_by failed r in
    let then = walked h q r now rest through turns goes in
    record {
      fails = then.fails;
      are = steps_before h (length rest) (point begun failed p) (point r now q) (point (last_reply r rest) then.fails (end_of q through)) on' (turn_at h (event.Step actor.Core) begun r failed p q turn) then.are;
      tells = (
        λ is. elim (then.tells.0 is) [
          | inl before ↦ elim (or_either failed (is_new r) before) [ inl was ↦ inl was | inr new' ↦ inr (inl (new_tells r new')) ]
          | inr later ↦ inr (inr later)
        ],
        λ is. elim is [
          | inl was ↦ then.tells.1 (inl (or_left failed (is_new r) was))
          | inr has ↦ elim has [
            | inl here ↦ then.tells.1 (inl (or_right failed (is_new r) (tells_new r here)))
            | inr later ↦ then.tells.1 (inr later)
          ]
        ],
      );
    }

-- what a crash inside such a step may leave
pub walked_inside : (h : Hardware) (p : Situation) (begun : Reply) (failed : Bool) (rest : List Reply) (through : List Situation) (w : disk.DiskImage) → AreTurns h p (core_steps rest) rest through → GoOn begun rest → turns.IsLeftInside p through w → IsLeftInside h (point begun failed p) w
walked_inside h p begun failed [] [] w turns goes left = absurd left
walked_inside h p begun failed [] (q ∷ through) w turns goes left = absurd turns
walked_inside h p begun failed (r ∷ rest) [] w turns goes left = absurd turns
walked_inside h p begun failed (r ∷ rest) (q ∷ through) w (turn, turns) (on', goes) (inl mixed) = record {
  steps = 0;
  before = point begun failed p;
  after = point r (failed_by failed r) q;
  are = refl;
  goes = on';
  turn = turn_at h (event.Step actor.Core) begun r failed p q turn;
  mixed = mixed;
}
walked_inside h p begun failed (r ∷ rest) (q ∷ through) w (turn, turns) (on', goes) (inr later) =
    let is = walked_inside h q r (failed_by failed r) rest through w turns goes later in
    record {
      steps = suc is.steps;
      before = is.before;
      after = is.after;
      are = steps_before h is.steps (point begun failed p) (point r (failed_by failed r) q) is.before on' (turn_at h (event.Step actor.Core) begun r failed p q turn) is.are;
      goes = is.goes;
      turn = is.turn;
      mixed = is.mixed;
    }
