-- Counts over events after events.
use Rattle.std.proofs.Common.{◌≡◌, inl, inr, ◌≤◌, ℕ, ◌+◌, List, [], ◌∷◌, ◌++◌, length, filter, refl, ap, ◌∙◌, arith, length-append}
use Rattle.std.proofs.lemmas.List.Elements.{filter-append}
use Rattle.std.proofs.Math.Nat.{min-le_left}
use Rattle.definitions.specs.Disk as disk
use Rattle.plain_machine.specs.declared.event.Event.{Event}
use Rattle.plain_machine.specs.declared.event.Event.TheVariants as event
use Rattle.plain_machine.specs.declared.reply.Reply.{Reply}
use Rattle.protocol_laws.specs.Rows.{TellsNewFault}
use Rattle.world_core.specs.Row.{IsStep, CallsAtMostOnce}
use Rattle.command_core.specs.Turns.{is_step, steps_of, AreCounted}

-- Faults.

pub risen_earlier : (low mid high : ℕ) → low ≤ mid → disk.HasRisen mid high → disk.HasRisen low high
risen_earlier low mid high a (inl lt) = inl (omega arith)
risen_earlier low mid high a (inr e) = inr e

-- from an earlier count on
pub counted_earlier : (rs : List Reply) (low mid high : ℕ) → low ≤ mid → AreCounted rs mid high → AreCounted rs low high
counted_earlier [] low mid high a le = omega arith
counted_earlier (r ∷ rs) low mid high a (m, le, f, rest) = (m, omega arith, λ fault. risen_earlier low mid m a (f fault), rest)

pub counted_later : (rs : List Reply) (low high : ℕ) → AreCounted rs low high → low ≤ high
counted_later [] low high le = le
counted_later (r ∷ rs) low high (m, le, f, rest) = let later = counted_later rs m high rest in omega arith

pub counted_one : (r : Reply) (low high : ℕ) → low ≤ high → (TellsNewFault r → disk.HasRisen low high) → AreCounted (r ∷ []) low high
counted_one r low high le risen = (high, le, risen, omega arith)

pub counted_append : (rs qs : List Reply) (low mid high : ℕ) → AreCounted rs low mid → AreCounted qs mid high → AreCounted (rs ++ qs) low high
counted_append [] qs low mid high le then = counted_earlier qs low mid high le then
counted_append (r ∷ rs) qs low mid high (m, le, f, rest) then = (m, le, f, counted_append rs qs m mid high rest then)

-- Calls.

pub steps_append : (es ds : List Event) → steps_of (es ++ ds) ≡ steps_of es + steps_of ds
steps_append es ds = ap length (filter-append is_step es ds) ∙ length-append (filter is_step es) (filter is_step ds)

one_step : (e : Event) → IsStep e → steps_of (e ∷ []) ≡ 1
one_step (event.Step x) s = refl
one_step (event.Boot from) s = absurd s
one_step (event.Hibernate f) s = absurd s
one_step (event.Suspend f) s = absurd s
one_step event.Wake s = absurd s
one_step event.Settle s = absurd s
one_step (event.Shrink want) s = absurd s
one_step (event.Resume loader check) s = absurd s
one_step (event.Task u o) s = absurd s
one_step (event.Cut pick) s = absurd s
one_step (event.Arm first count pick) s = absurd s

pub called_one : (e : Event) (r : Reply) (before now : ℕ) → CallsAtMostOnce e r before now → now ≤ before + steps_of (e ∷ [])
called_one e r before now (inl same) = omega arith
called_one e r before now (inr called) =
    let one = one_step e called.0 in
    let raised = called.2 in
    omega (arith, min-le_left (before + 1) disk.last_count)
