-- One event, and events after events.
use Rattle.std.proofs.Common.{◌≡◌, inl, inr, ◌≤◌, ℕ, List, [], ◌∷◌, ◌++◌, Option, Some, refl, sym, ap, ◌∙◌, subst, arith}
use Rattle.std.specs.Prelude.{IsTrue}
use Rattle.std.specs.Option.{IfSome}
use Rattle.definitions.specs.Disk as disk
use Rattle.plain_machine.specs.Machine.{Hardware}
use Rattle.plain_machine.specs.Stands.{Stands}
use Rattle.plain_machine.specs.State.{loading, Load}
use Rattle.plain_machine.specs.declared.event.Actor.TheVariants as actor
use Rattle.plain_machine.specs.declared.event.Event.{Event}
use Rattle.plain_machine.specs.declared.event.Event.TheVariants as event
use Rattle.plain_machine.specs.declared.reply.Reply.{Reply}
use Rattle.plain_machine.specs.declared.reply.Reply.TheVariants as reply
use Rattle.protocol_laws.specs.Rows.{TellsNewFault}
use Rattle.resume_core.specs.Restored.{restored_by}
use Rattle.sector_disk.specs.declared.disk.Disk.{Ghosts}
use Rattle.world_core.specs.Row.{SimulatesWhereTold, Restores, CallsAtMostOnce, IsNoCut}
use Rattle.world_core.specs.StandsFor.{StandsFor, hardware_of, shown}
use Rattle.world_core.specs.World.{World}
use Rattle.command_core.specs.Played.{Leads, Passes, Played, situation_of}
use Rattle.command_core.specs.Turns.{AreTurns, IsLeftInside, Situation, end_of}
use Rattle.command_core.proofs.Counted.{called_one, counted_append, counted_one, steps_append}

-- Situations after situations.

pub turns_append : (h : Hardware) (p : Situation) (es ds : List Event) (rs ss : List Reply) (qs ps : List Situation) →
    AreTurns h p es rs qs → AreTurns h (end_of p qs) ds ss ps → AreTurns h p (es ++ ds) (rs ++ ss) (qs ++ ps)
turns_append h p [] ds [] ss [] ps first then = then
turns_append h p [] ds [] ss (q ∷ qs) ps first then = absurd first
turns_append h p [] ds (r ∷ rs) ss [] ps first then = absurd first
turns_append h p [] ds (r ∷ rs) ss (q ∷ qs) ps first then = absurd first
turns_append h p (e ∷ es) ds [] ss [] ps first then = absurd first
turns_append h p (e ∷ es) ds [] ss (q ∷ qs) ps first then = absurd first
turns_append h p (e ∷ es) ds (r ∷ rs) ss [] ps first then = absurd first
turns_append h p (e ∷ es) ds (r ∷ rs) ss (q ∷ qs) ps (turn, first) then = (turn, turns_append h q es ds rs ss qs ps first then)

pub end_append : (p : Situation) (qs ps : List Situation) → end_of p (qs ++ ps) ≡ end_of (end_of p qs) ps
end_append p [] ps = refl
end_append p (q ∷ qs) ps = end_append q qs ps

inside_first : (p : Situation) (qs ps : List Situation) (w : disk.DiskImage) → IsLeftInside p qs w → IsLeftInside p (qs ++ ps) w
inside_first p [] ps w is = absurd is
inside_first p (q ∷ qs) ps w (inl mixed) = inl mixed
inside_first p (q ∷ qs) ps w (inr later) = inr (inside_first q qs ps w later)

inside_then : (p : Situation) (qs ps : List Situation) (w : disk.DiskImage) → IsLeftInside (end_of p qs) ps w → IsLeftInside p (qs ++ ps) w
inside_then p [] ps w is = is
inside_then p (q ∷ qs) ps w is = inr (inside_then q qs ps w is)

-- One event.

told_both : (R : disk.Content → disk.Content → Type 0) (a b : Option disk.Content) (x y : disk.Content) → a ≡ Some x → b ≡ Some y → disk.Changes R a b → R x y
told_both R a b x y is at changes =
    subst (λ (o : Option disk.Content). disk.Changes R (Some x) o) at (subst (λ (o : Option disk.Content). disk.Changes R o b) is changes)

passes_one : (p q : Situation) (before now : ℕ) (past since : ℕ → disk.DiskImage → Type 0) →
    disk.Elapses before now past since p.content q.content → Passes p (q ∷ []) before now past since
passes_one p q before now past since elapses = record {
  later = elapses.later;
  nothing_else = λ t w le left. elim (elapses.nothing_else t w le left) [ inl was ↦ inl was | inr mixed ↦ inr (inl mixed) ];
}

restored_here : (h : Hardware) (e : Event) (old new : World) (r : Reply) (before now : Option disk.Content) (c : disk.Content) (load : Load) (k n : ℕ) →
    hardware_of old ≡ h → before ≡ Some c → Restores e old new r before now → e ≡ event.Step actor.Core → r ≡ reply.Resumed n →
    StandsFor old c (loading load k) → new.frames ≡ restored_by (hardware_of new) load
restored_here h e old new r before now c load k n hw told restores step resumed stands =
    let here : Restores (event.Step actor.Core) old new (reply.Resumed n) before now =
    subst (λ (x : Reply). Restores (event.Step actor.Core) old new x before now) resumed (subst (λ (x : Event). Restores x old new r before now) step restores) in
    (here c told load k stands).2.2.memory

content_whole : (blocks : ℕ) (told : Option disk.Content) (c : disk.Content) → told ≡ Some c → IfSome told (disk.IsContent blocks) → disk.IsContent blocks c
content_whole blocks told c e is = subst (λ (o : Option disk.Content). IfSome o (disk.IsContent blocks)) e is

pub played_one : {X : Type 0} (D : Ghosts X) (old new : World) (e : Event) (r : Reply) (x y : X) →
    IfSome (D.content y) (disk.IsContent (D.block_count y)) → IsNoCut e → hardware_of new ≡ hardware_of old →
    SimulatesWhereTold e old new r (D.content x) (D.content y) → Restores e old new r (D.content x) (D.content y) →
    (TellsNewFault r → disk.HasRisen (D.faults x) (D.faults y)) → D.faults x ≤ D.faults y → CallsAtMostOnce e r (D.calls x) (D.calls y) →
    D.tells_moments y ≡ D.tells_moments x →
    (IsNoCut e → IsTrue (D.tells_moments x) →
    disk.Changes (disk.Elapses (D.moment x) (D.moment y) (D.left_since x) (D.left_since y)) (D.content x) (D.content y)) →
    Played D old new (e ∷ []) (r ∷ []) x y
played_one D old new e r x y whole uncut hw row restores cause faults calls telling time = record {
  hardware = hw;
  calls = called_one e r (D.calls x) (D.calls y) calls;
  faults = counted_one r (D.faults x) (D.faults y) faults cause;
  telling = telling;
  leads = λ c a told stands.
      let turn = row c told in
      let goes = turn.2 a stands in
      let h = hardware_of old in
      let p = situation_of old c a in
      let q = situation_of new turn.0 goes.0 in
      record {
        through = q ∷ [];
        turns = (
          record {
            step = goes.1.step;
            stands = subst (λ (g : Hardware). Stands g (shown new) turn.0 goes.0) hw goes.1.stands.stands;
            whole = (D.block_count y, content_whole (D.block_count y) (D.content y) turn.0 turn.1 whole);
            area = goes.1.area;
            unwritten = goes.1.unwritten;
            image = goes.1.leaves;
            header = goes.1.header;
            restored = λ load k n step state resumed.
                subst (λ (g : Hardware). new.frames ≡ restored_by g load) hw
                (restored_here h e old new r (D.content x) (D.content y) c load k n refl told restores step resumed (subst (StandsFor old c) state stands));
          },
          tt,
        );
        content = turn.0;
        state = goes.0;
        ends = refl;
        told = turn.1;
        stands = goes.1.stands;
        time = λ tells. passes_one p q (D.moment x) (D.moment y) (D.left_since x) (D.left_since y)
            (told_both (disk.Elapses (D.moment x) (D.moment y) (D.left_since x) (D.left_since y)) (D.content x) (D.content y) c turn.0 told turn.1 (time uncut tells));
      };
}

-- No event.
pub played_none : {X : Type 0} (D : Ghosts X) (w : World) (x : X) → Played D w w [] [] x x
played_none D w x = record {
  hardware = refl;
  calls = omega arith;
  faults = omega arith;
  telling = refl;
  leads = λ c a told stands. record {
    through = [];
    turns = tt;
    content = c;
    state = a;
    ends = refl;
    told = told;
    stands = stands;
    time = λ tells. record { later = omega arith; nothing_else = λ t u le left. inl left };
  };
}

-- Events after events.

passes_then : (p : Situation) (qs ps : List Situation) (before mid now : ℕ) (past between since : ℕ → disk.DiskImage → Type 0) →
    Passes p qs before mid past between → Passes (end_of p qs) ps mid now between since → Passes p (qs ++ ps) before now past since
passes_then p qs ps before mid now past between since first then =
    let le1 = first.later in
    let le2 = then.later in
    record {
      later = omega arith;
      nothing_else = λ t w le left. elim (then.nothing_else t w (omega arith) left) [
        | inl was ↦ elim (first.nothing_else t w le was) [ inl before' ↦ inl before' | inr inside ↦ inr (inside_first p qs ps w inside) ]
        | inr inside ↦ inr (inside_then p qs ps w inside)
      ];
    }

leads_then : {X : Type 0} (D : Ghosts X) (h : Hardware) (p : Situation) (mid new : World) (es ds : List Event) (rs ss : List Reply) (x y z : X) →
    D.tells_moments y ≡ D.tells_moments x → (one : Leads D h p es rs mid x y) → Leads D h (situation_of mid one.content one.state) ds ss new y z →
    Leads D h p (es ++ ds) (rs ++ ss) new x z
leads_then D h p mid new es ds rs ss x y z telling one two =
    let here = sym one.ends in
    record {
      through = one.through ++ two.through;
      turns = turns_append h p es ds rs ss one.through two.through one.turns
          (subst (λ (q : Situation). AreTurns h q ds ss two.through) here two.turns);
      content = two.content;
      state = two.state;
      ends = end_append p one.through two.through ∙ ap (λ (q : Situation). end_of q two.through) one.ends ∙ two.ends;
      told = two.told;
      stands = two.stands;
      time = λ tells. passes_then p one.through two.through (D.moment x) (D.moment y) (D.moment z) (D.left_since x) (D.left_since y) (D.left_since z) (one.time tells)
          (subst (λ (q : Situation). Passes q two.through (D.moment y) (D.moment z) (D.left_since y) (D.left_since z)) here (two.time (subst IsTrue (sym telling) tells)));
    }

pub played_then : {X : Type 0} (D : Ghosts X) (old mid new : World) (es ds : List Event) (rs ss : List Reply) (x y z : X) →
    Played D old mid es rs x y → Played D mid new ds ss y z → Played D old new (es ++ ds) (rs ++ ss) x z
played_then D old mid new es ds rs ss x y z first then = record {
  hardware = then.hardware ∙ first.hardware;
  calls = let all = steps_append es ds in let one = first.calls in let two = then.calls in omega arith;
  faults = counted_append rs ss (D.faults x) (D.faults y) (D.faults z) first.faults then.faults;
  telling = then.telling ∙ first.telling;
  leads = λ c a told stands.
      let one = first.leads c a told stands in
      let two = then.leads one.content one.state one.told one.stands in
      leads_then D (hardware_of old) (situation_of old c a) mid new es ds rs ss x y z first.telling one
      (subst (λ (g : Hardware). Leads D g (situation_of mid one.content one.state) ds ss new y z) first.hardware two);
}
