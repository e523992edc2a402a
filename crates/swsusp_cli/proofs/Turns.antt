-- Events played one after another: what one more makes.
use Rattle.std.proofs.Common.{◌≡◌, ◌⊎◌, inl, inr, ◌≤◌, ◌<◌, ℕ, ◌+◌, Contains, List, [], ◌∷◌, ◌++◌, length, take, get_or, filter, cond, Bool, true, false, Option, Some, None, refl, sym, ap, ◌∙◌, arith, subst, append_assoc, length-append}
use Rattle.std.proofs.lemmas.Grind.{flat_map-append}
use Rattle.std.proofs.lemmas.List.{take_all, take_more, append-nil}
use Rattle.std.specs.Option.{IfSome}
use Rattle.definitions.specs.Disk as disk
use Rattle.definitions.specs.Streams.{TakesAll}
use Rattle.plain_machine.specs.Machine.{Hardware}
use Rattle.plain_machine.specs.Replies.{text_of, line_of}
use Rattle.plain_machine.specs.Stands.{Stands}
use Rattle.plain_machine.specs.State.{State}
use Rattle.plain_machine.specs.Step.{Step, Run}
use Rattle.plain_machine.specs.declared.event.Event.{Event}
use Rattle.plain_machine.specs.declared.event.Event.TheVariants as event
use Rattle.plain_machine.specs.declared.event.BootFrom.TheVariants.{Fresh}
use Rattle.plain_machine.specs.declared.reply.Reply.{Reply}
use Rattle.protocol_laws.specs.Rows.{IsSameArea, TellsNewFault, LeavesBlock, blocks_written}
use Rattle.protocol_laws.proofs.WrittenWhileHeld.{at_written}
use Rattle.protocol_laws.proofs.Unwritten.{block_same}
use Rattle.world_core.specs.Row.{SimulatesWhereTold, CallsAtMostOnce}
use Rattle.world_core.specs.Orders.{orders_after}
use Rattle.world_core.specs.StandsFor.{hardware_of, shown}
use Rattle.world_core.specs.World.{World}
use Rattle.swsusp_cli.specs.Playing.{Played, HasPlayed}
use Rattle.swsusp_cli.specs.Replay.{orders_of}
use Rattle.sector_disk.specs.declared.orders.Order.{Order}
use Rattle.command_core.specs.Turns.{AreCounted}
use Rattle.command_core.proofs.Counted.{called_one, counted_append, counted_one, counted_later, steps_append}
use Rattle.command_kit.specs.View.{DiskView}
use Rattle.command_core.proofs.Leaving.{leaves_then}
use Rattle.protocol_laws.proofs.ReplaySteps.{same_steps, stays_of_replay}
use Rattle.swsusp_cli.proofs.Blocks.{unwritten_here}
use Rattle.protocol_laws.proofs.Same.{same_area}

-- a run and one step more
pub run_more : (h : Hardware) (v : disk.DiskImage) (a : State) (es : List Event) (rs : List Reply) (b : State) (e : Event) (r : Reply) (b' : State) → Run h v a es rs b → Step h v b e r b' → Run h v a (es ++ e ∷ []) (rs ++ r ∷ []) b'
run_more h v a [] [] b e r b' run step = (b', subst (λ (s : State). Step h v s e r b') run step, refl)
run_more h v a [] (q ∷ rs) b e r b' run step = absurd run
run_more h v a (d ∷ es) [] b e r b' run step = absurd run
run_more h v a (d ∷ es) (q ∷ rs) b e r b' run step = (run.0, run.1, run_more h v run.0 es rs b e r b' run.2 step)

-- Replies that report a failed call are at most as many as the count rose by, unless it reached its last value.
pub counted_few : (tells : Reply → Bool) → ((r : Reply) → tells r ≡ true → TellsNewFault r) → (rs : List Reply) (low high : ℕ) → AreCounted rs low high → (low + length (filter tells rs) ≤ high) ⊎ (disk.last_count ≤ high)
counted_few tells only [] low high le = inl (omega arith)
counted_few tells only (r ∷ rs) low high (m, le, f, rest) = by_test (tells r) (λ e. f (only r e)) (counted_few tells only rs m high rest) where
  later : m ≤ high
  later = counted_later rs m high rest

  by_test : (b : Bool) → (b ≡ true → disk.HasRisen low m) → (m + length (filter tells rs) ≤ high) ⊎ (disk.last_count ≤ high) → (low + length (cond b (r ∷ filter tells rs) (filter tells rs)) ≤ high) ⊎ (disk.last_count ≤ high)
  by_test b risen (inr last) = inr last
  by_test false risen (inl few) = inl (omega arith)
  by_test true risen (inl few) = elim (risen refl) [ inl lt ↦ inl (omega arith) | inr last ↦ let l = later in inr (omega arith) ]

-- what a disk holds, where it is told, is whole
pub whole_of : (blocks : ℕ) (told : Option disk.Content) (c : disk.Content) → told ≡ Some c → IfSome told (disk.IsContent blocks) → disk.IsContent blocks c
whole_of blocks told c e h = subst (λ (o : Option disk.Content). IfSome o (disk.IsContent blocks)) e h

-- One area.

same_area_then : (h : Hardware) (u v w : disk.DiskImage) → IsSameArea h u v → IsSameArea h v w → IsSameArea h u w
same_area_then h u v w first then = record {
  blocks = then.blocks ∙ first.blocks;
  header = record { front = then.header.front ∙ first.header.front; signature = then.header.signature ∙ first.header.signature };
}

-- What the disk is asked for.

-- after what was asked before
orders_next : (e : Event) (asked : List Order) → orders_after e asked ≡ asked ++ orders_after e []
orders_next (event.Cut pick) asked = refl
orders_next (event.Boot from) asked = sym (append-nil asked)
orders_next (event.Hibernate f) asked = sym (append-nil asked)
orders_next (event.Suspend f) asked = sym (append-nil asked)
orders_next event.Wake asked = sym (append-nil asked)
orders_next event.Settle asked = sym (append-nil asked)
orders_next (event.Shrink want) asked = sym (append-nil asked)
orders_next (event.Resume l check) asked = sym (append-nil asked)
orders_next (event.Step x) asked = sym (append-nil asked)
orders_next (event.Task t o) asked = sym (append-nil asked)
orders_next (event.Arm first count pick) asked = refl

orders_append : (es : List Event) (e : Event) → orders_of (es ++ e ∷ []) ≡ orders_of es ++ orders_after e []
orders_append [] e = append-nil (orders_after e [])
orders_append (d ∷ es) e =
    ap (λ (l : List Order). orders_after d [] ++ l) (orders_append es e)
    ∙ sym (append_assoc (orders_after d []) (orders_of es) (orders_after e []))

orders_more : (es : List Event) (e : Event) (asked : List Order) → asked ++ orders_of (es ++ e ∷ []) ≡ orders_after e (asked ++ orders_of es)
orders_more es e asked =
    ap (λ (l : List Order). asked ++ l) (orders_append es e)
    ∙ sym (append_assoc asked (orders_of es) (orders_after e []))
    ∙ sym (orders_next e (asked ++ orders_of es))

-- Played events, and one more.

pub played_none : (w : World) (x : DiskView) → HasPlayed w w [] [] x x
played_none w x = record {
  size = refl;
  calls = omega arith;
  orders = sym (append-nil x.orders);
  faults = omega arith;
  run = λ c a told stands of. (
    c,
    a,
    record {
      told = told;
      area = same_area (hardware_of w) (disk.as_it_reads c);
      run = refl;
      stands = stands;
      of_replay = of;
      unwritten = λ some b none. block_same b c;
    },
  );
}

-- The step over the disk as it reads now is one over the disk as it read at first.
run_then : (old mid new : World) (es : List Event) (rs : List Reply) (e : Event) (r : Reply) (blocks : ℕ) (between now : Option disk.Content) (c : disk.Content) (a : State) →
    IfSome between (disk.IsContent blocks) → ((c' : disk.Content) × (b : State) × Played old mid es between c c' a b rs) → SimulatesWhereTold e mid new r between now → hardware_of mid ≡ hardware_of old →
    (c' : disk.Content) × (b : State) × Played old new (es ++ e ∷ []) now c c' a b (rs ++ r ∷ [])
run_then old mid new es rs e r blocks between now c s whole so_far row hw =
    let h = hardware_of old in
    let v = disk.as_it_reads c in
    let w = disk.as_it_reads so_far.0 in
    let was = so_far.2 in
    let turn = row so_far.0 was.told in
    let goes = turn.2 so_far.1 was.stands in
    let step : Step h v so_far.1 e r goes.0 =
    same_steps h v w so_far.1 e r goes.0 was.area was.of_replay (subst (λ (g : Hardware). Step g w so_far.1 e r goes.0) hw goes.1.step) in
    let area : IsSameArea h w (disk.as_it_reads turn.0) = subst (λ (g : Hardware). IsSameArea g w (disk.as_it_reads turn.0)) hw goes.1.area in
    let here : Stands h (shown mid) so_far.0 so_far.1 = subst (λ (g : Hardware). Stands g (shown mid) so_far.0 so_far.1) hw was.stands.stands in
    let leaves : (b : ℕ) → (Contains (blocks_written h so_far.1) b → ⊥) → LeavesBlock b so_far.0 turn.0 =
    subst (λ (g : Hardware). (b : ℕ) → (Contains (blocks_written g so_far.1) b → ⊥) → LeavesBlock b so_far.0 turn.0) hw
    (λ b not. goes.1.unwritten b (λ in'. not (at_written (hardware_of mid) e so_far.1 b in'))) in (
      turn.0,
      goes.0,
      record {
        told = turn.1;
        area = same_area_then h v w (disk.as_it_reads turn.0) was.area area;
        run = run_more h v s es rs so_far.1 e r goes.0 was.run step;
        stands = goes.1.stands;
        of_replay = stays_of_replay h v so_far.1 e r goes.0 was.of_replay step;
        unwritten = λ some b none.
            leaves_then blocks b c so_far.0 turn.0 (whole_of blocks between so_far.0 was.told whole) (was.unwritten some b none) (leaves b (unwritten_here h (shown mid) so_far.0 so_far.1 b here some none));
      },
    )

pub played_more : (old mid new : World) (es : List Event) (rs : List Reply) (e : Event) (r : Reply) (before between now : DiskView) →
    IfSome between.content (disk.IsContent between.blocks) → HasPlayed old mid es rs before between → SimulatesWhereTold e mid new r between.content now.content → hardware_of mid ≡ hardware_of old →
    (TellsNewFault r → disk.HasRisen between.faults now.faults) → between.faults ≤ now.faults → CallsAtMostOnce e r between.calls now.calls → now.orders ≡ orders_after e between.orders →
    HasPlayed old new (es ++ e ∷ []) (rs ++ r ∷ []) before now
played_more old mid new es rs e r before between now whole played row hw fault later called after = record {
  size = length-append rs (r ∷ []) ∙ ap (λ (n : ℕ). n + 1) played.size ∙ sym (length-append es (e ∷ []));
  calls =
      let so_far = played.calls in
      let one = called_one e r between.calls now.calls called in
      let all = steps_append es (e ∷ []) in
      omega arith;
  orders = after ∙ ap (orders_after e) played.orders ∙ sym (orders_more es e before.orders);
  faults = counted_append rs (r ∷ []) before.faults between.faults now.faults played.faults (counted_one r between.faults now.faults later fault);
  run = λ c a told stands of. run_then old mid new es rs e r between.blocks between.content now.content c a whole (played.run c a told stands of) row hw;
}

-- Texts.

pub taken_more : (t u : List ℕ) (old mid new : Option (List ℕ)) → TakesAll t old mid → TakesAll u mid new → TakesAll (t ++ u) old new
taken_more t u None None None p q = tt
taken_more t u None None (Some new) p q = q
taken_more t u None (Some mid) new p q = absurd p
taken_more t u (Some old) None new p q = absurd p
taken_more t u (Some old) (Some mid) None p q = q
taken_more t u (Some old) (Some mid) (Some new) p q =
    q ∙ ap (λ (m : List ℕ). m ++ take (length u) u) p
    ∙ ap (λ (xs : List ℕ). old ++ xs ++ take (length u) u) (take_all (length t) t (omega arith))
    ∙ ap (λ (xs : List ℕ). old ++ t ++ xs) (take_all (length u) u (omega arith))
    ∙ append_assoc old t u ∙ ap (λ (xs : List ℕ). old ++ xs) (sym (take_all (length (t ++ u)) (t ++ u) (omega arith)))

pub text_more : (rs : List Reply) (r : Reply) → text_of (rs ++ r ∷ []) ≡ text_of rs ++ line_of r
text_more rs r = flat_map-append line_of rs (r ∷ []) ∙ ap (λ (xs : List ℕ). text_of rs ++ xs) (append-nil (line_of r))

-- one event more
pub one_more : (events : List Event) (i : ℕ) → i < length events → take (i + 1) events ≡ take i events ++ get_or events i (event.Boot Fresh) ∷ []
one_more events i lt = take_more events i (event.Boot Fresh) lt
