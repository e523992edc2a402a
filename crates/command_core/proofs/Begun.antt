-- The boot of a dump's machine, and what is left on the disk so far.
use Rattle.std.proofs.Common.{◌≡◌, ◌⊎◌, inl, inr, ℕ, true, false, List, [], ◌∷◌, flat_map, Option, Some, None, refl, sym, ap, ◌∙◌, subst, arith, Contains}
use Rattle.std.specs.List.{range_with_len}
use Rattle.definitions.specs.Disk as disk
use Rattle.definitions.proofs.DiskLaws.{as_it_reads-settled}
use Rattle.plain_machine.specs.Chain.{blocks_of, is_marked_disk}
use Rattle.plain_machine.specs.Machine.{Hardware, Memory}
use Rattle.plain_machine.specs.State.{State, Held, Running, off, on, booting}
use Rattle.plain_machine.specs.Step.{Step, no_flights}
use Rattle.plain_machine.specs.declared.event.Actor.TheVariants as actor
use Rattle.plain_machine.specs.declared.event.BootFrom.TheVariants.{Kept}
use Rattle.plain_machine.specs.declared.event.Event.{Event}
use Rattle.plain_machine.specs.declared.event.Event.TheVariants as event
use Rattle.protocol_laws.specs.Rows.{LeavesBlock, TellsNewFault, blocks_written, out_block}
use Rattle.protocol_laws.proofs.Unwritten.{block_same}
use Rattle.command_core.specs.Runs.{goes_on, held_at_first, is_booted}
use Rattle.command_core.specs.Hibernations.{EndsInFault, machine_of_dump, machine_to_save}
use Rattle.command_core.specs.Points.{Point, IsTurn}
use Rattle.command_core.proofs.Booting.{boot_begins, boot_syncs, boot_ends, shrinks}
use Rattle.command_core.proofs.Leaving.{leaves_then}
use Rattle.command_core.proofs.Points.{reads_same}

-- Over the disk v, which begins with one image, nothing was written so far.
pub record IsUntouched (v : disk.DiskImage) (p : Point) : Type 0 where
  pub blocks : ℕ
  pub whole : disk.IsContent blocks p.content
  pub same : blocks_of (disk.as_it_reads p.content) ≡ blocks_of v
  pub unwritten : (b : ℕ) → LeavesBlock b (disk.settled v) p.content

pub untouched_first : (blocks : ℕ) (v : disk.DiskImage) (p : Point) → p.content ≡ disk.settled v → disk.IsContent blocks (disk.settled v) → IsUntouched v p
untouched_first blocks v p is whole = record {
  blocks = blocks;
  whole = subst (disk.IsContent blocks) (sym is) whole;
  same = ap (λ (c : disk.Content). blocks_of (disk.as_it_reads c)) is ∙ ap blocks_of (as_it_reads-settled v);
  unwritten = λ b. subst (LeavesBlock b (disk.settled v)) (sym is) (block_same b (disk.settled v));
}

pub untouched_then : (h : Hardware) (e : Event) (v : disk.DiskImage) (p q : Point) → IsUntouched v p → IsTurn h e p q → ((b : ℕ) → Contains (blocks_written h p.state) b → ⊥) → IsUntouched v q
untouched_then h e v p q is turn none = record {
  blocks = turn.blocks;
  whole = turn.whole;
  same = turn.area.blocks ∙ is.same;
  unwritten = λ b. leaves_then is.blocks b (disk.settled v) p.content q.content is.whole (is.unwritten b) (turn.unwritten b (none b));
}

pub reads_first : (blocks : ℕ) (v : disk.DiskImage) (p : Point) → disk.IsContent blocks (disk.settled v) → IsUntouched v p → disk.as_it_reads p.content ≡ v
reads_first blocks v p whole is = reads_same blocks is.blocks v p.content whole is.whole is.same is.unwritten

none_in : (b : ℕ) → Contains [] b → ⊥
none_in b (k, lt, e) = omega arith

-- a machine that is off or boots writes nothing, nor does one that runs without tasks at work

pub off_writes : (h : Hardware) (held : Held) (kept : Option Memory) (b : ℕ) → Contains (blocks_written h (off held kept)) b → ⊥
off_writes h held kept b in' = none_in b in'

pub boot_writes : (h : Hardware) (m : Memory) (held : Held) (k : ℕ) (a : State) → a ≡ booting Kept m held k → (b : ℕ) → Contains (blocks_written h a) b → ⊥
boot_writes h m held k a is b in' = none_in b (subst (λ (x : State). Contains (blocks_written h x) b) is in')

no_blocks : (h : Hardware) (ts : List ℕ) → flat_map (λ t. out_block h (no_flights t)) ts ≡ []
no_blocks h [] = refl
no_blocks h (t ∷ ts) = no_blocks h ts

pub on_writes : (h : Hardware) (m : Memory) (v : disk.DiskImage) (b : ℕ) → Contains (blocks_written h (on (machine_of_dump h m v))) b → ⊥
on_writes h m v b in' = none_in b (subst (λ (xs : List ℕ). Contains xs b) (no_blocks h (range_with_len 1 64)) in')

-- a machine that drops cached page frames writes nothing either
pub save_writes : (h : Hardware) (m : Memory) (size : Option ℕ) (v : disk.DiskImage) (b : ℕ) → Contains (blocks_written h (on (machine_to_save h m size v))) b → ⊥
save_writes h m None v b in' = on_writes h m v b in'
save_writes h m (Some want) v b in' = on_writes h m v b in'

pub untouched_at : (v : disk.DiskImage) (p q : Point) → q.content ≡ p.content → IsUntouched v p → IsUntouched v q
untouched_at v p q same is = record {
  blocks = is.blocks;
  whole = subst (disk.IsContent is.blocks) (sym same) is.whole;
  same = ap (λ (c : disk.Content). blocks_of (disk.as_it_reads c)) same ∙ is.same;
  unwritten = λ b. subst (LeavesBlock b (disk.settled v)) (sym same) (is.unwritten b);
}

-- The steps of a boot.

-- the boot has made k of its two steps
pub record BootsAt (h : Hardware) (m : Memory) (v : disk.DiskImage) (k : ℕ) (p : Point) : Type 0 where
  pub untouched : IsUntouched v p
  pub state : p.state ≡ booting Kept m (held_at_first h v) k

-- the boot's call of the disk has failed
pub record FailsAt (v : disk.DiskImage) (p : Point) : Type 0 where
  pub untouched : IsUntouched v p
  pub fault : EndsInFault p.reply
  pub new_fault : TellsNewFault p.reply

-- the machine runs as this state says, over the disk v, which is as it was
pub record RunsUntouched (a : Running) (v : disk.DiskImage) (p : Point) : Type 0 where
  pub untouched : IsUntouched v p
  pub state : p.state ≡ on a

pub step_from : (h : Hardware) (e : Event) (a : State) (p q : Point) → p.state ≡ a → IsTurn h e p q → Step h (disk.as_it_reads p.content) a e q.reply q.state
step_from h e a p q is turn = subst (λ (s : State). Step h (disk.as_it_reads p.content) s e q.reply q.state) is turn.step

pub boots_first : (h : Hardware) (m : Memory) (v : disk.DiskImage) (blocks : ℕ) (p q : Point) → p.state ≡ off (held_at_first h v) (Some m) → p.content ≡ disk.settled v → disk.IsContent blocks (disk.settled v) → IsTurn h (event.Boot Kept) p q → BootsAt h m v 0 q
boots_first h m v blocks p q state content whole turn =
    let held = held_at_first h v in
    let is = boot_begins h (disk.as_it_reads p.content) held m q.reply q.state (step_from h (event.Boot Kept) (off held (Some m)) p q state turn) in
    record {
      untouched = untouched_then h (event.Boot Kept) v p q (untouched_first blocks v p content whole) turn
          (λ b in'. off_writes h held (Some m) b (subst (λ (s : State). Contains (blocks_written h s) b) state in'));
      state = is.1;
    }

boot_leaves : (h : Hardware) (m : Memory) (v : disk.DiskImage) (k : ℕ) (p q : Point) → BootsAt h m v k p → IsTurn h (event.Step actor.Core) p q → IsUntouched v q
boot_leaves h m v k p q at turn = untouched_then h (event.Step actor.Core) v p q at.untouched turn (boot_writes h m (held_at_first h v) k p.state at.state)

pub boots_second : (h : Hardware) (m : Memory) (v : disk.DiskImage) (p q : Point) → BootsAt h m v 0 p → IsTurn h (event.Step actor.Core) p q → ((goes_on q.reply ≡ true) × BootsAt h m v 1 q) ⊎ ((goes_on q.reply ≡ false) × FailsAt v q)
boots_second h m v p q at turn =
    let held = held_at_first h v in
    let untouched = boot_leaves h m v 0 p q at turn in
    elim (boot_syncs h (disk.as_it_reads p.content) held m q.reply q.state (step_from h (event.Step actor.Core) (booting Kept m held 0) p q at.state turn)) [
      | inl goes ↦ inl (ap goes_on goes.0, record { untouched = untouched; state = goes.1 })
      | inr fault ↦ inr (ap goes_on fault, record { untouched = untouched; fault = subst EndsInFault (sym fault) tt; new_fault = subst TellsNewFault (sym fault) tt })
    ]

pub boots_third : (h : Hardware) (m : Memory) (v : disk.DiskImage) (blocks : ℕ) (p q : Point) → disk.IsContent blocks (disk.settled v) → BootsAt h m v 1 p → IsTurn h (event.Step actor.Core) p q → ((is_booted q.reply ≡ true) × RunsUntouched (machine_of_dump h m v) v q) ⊎ ((is_booted q.reply ≡ false) × FailsAt v q)
boots_third h m v blocks p q whole at turn =
    let held = held_at_first h v in
    let same = reads_first blocks v p whole at.untouched in
    let untouched = boot_leaves h m v 1 p q at turn in
    let step : Step h v (booting Kept m held 1) (event.Step actor.Core) q.reply q.state =
    subst (λ (x : disk.DiskImage). Step h x (booting Kept m held 1) (event.Step actor.Core) q.reply q.state) same (step_from h (event.Step actor.Core) (booting Kept m held 1) p q at.state turn) in
    elim (boot_ends h v m (is_marked_disk h v) q.reply q.state step) [
      | inl booted ↦ inl (ap is_booted booted.0.1, record { untouched = untouched; state = booted.1 })
      | inr fault ↦ inr (ap is_booted fault, record { untouched = untouched; fault = subst EndsInFault (sym fault) tt; new_fault = subst TellsNewFault (sym fault) tt })
    ]

-- Cached page frames are dropped of a machine that has booted, over the same disk.
pub up_shrunk : (h : Hardware) (m : Memory) (v : disk.DiskImage) (want : ℕ) (p q : Point) → RunsUntouched (machine_of_dump h m v) v p → IsTurn h (event.Shrink want) p q → RunsUntouched (machine_to_save h m (Some want) v) v q
up_shrunk h m v want p q up turn =
    let a = machine_of_dump h m v in
    record {
      untouched = untouched_then h (event.Shrink want) v p q up.untouched turn (λ b in'. on_writes h m v b (subst (λ (s : State). Contains (blocks_written h s) b) up.state in'));
      state = shrinks h (disk.as_it_reads p.content) a want q.reply q.state refl (step_from h (event.Shrink want) (on a) p q up.state turn);
    }
