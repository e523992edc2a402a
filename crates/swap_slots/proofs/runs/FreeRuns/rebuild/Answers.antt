use Rattle.std.proofs.Common.{◌≡◌, ◌∙◌, sym, ap, refl}
use Rattle.definitions.specs.Zones.{numbers}
use Rattle.definitions.specs.Tables.{free_slots}
use Rattle.definitions.specs.FreeRuns.{runs_of}
use Rattle.definitions.specs.FrameSets.{inserted}
use Rattle.definitions.proofs.SlotRuns.{runs_of-nil, numbers-runs_of}
use Rattle.definitions.proofs.FreeSlots.{free_slots-none, free_slots-more_free, free_slots-more_taken}
use Rattle.swap_slots.proofs.Entries.{entry_of_word-is_free}
use Rattle.swap_slots.proofs.runs.FreeRuns.rebuild.Goals as goal
use Rattle.swap_slots.proofs.runs.FreeRuns.rebuild.Goals.{in-Free, in_default}
use Rattle.definitions.specs.Tables.{entry_at}

pub loop-slot-init : goal.loop-slot-init
loop-slot-init c = record {
  runs = ap (λ r. r.runs) c.clear.ensures ∙ sym (ap runs_of (free_slots-none c.args.table.now.first c.args.frames.now) ∙ runs_of-nil);
  room = refl;
}

pub loop-slot-preserved : goal.loop-slot-preserved
loop-slot-preserved c =
    let first = c.args.table.now.first in
    let frames = c.args.frames.now in
    let slot = c.loop-slot.slot in
    let h = c.loop-slot.invariant in
    let is_free = entry_of_word-is_free (entry_at frames first slot) in
    elim c.match-entry.branch [
      | in-Free w ↦
          let free = free_slots-more_free slot first frames (is_free.0 (sym c.entry.ensures.entry ∙ w.in-Free.is)) in
          let members : numbers c.loop-slot.self.runs ≡ free_slots slot first frames = ap numbers h.runs ∙ numbers-runs_of (free_slots slot first frames) in
          record {
            runs = ap (λ r. r.runs) (w.self-is ∙ w.insert.ensures) ∙ ap (λ xs. runs_of (inserted xs slot)) members ∙ ap runs_of (sym free);
            room = ap (λ r. r.room) (w.self-is ∙ w.insert.ensures) ∙ h.room;
          }
      | in_default w ↦
          let taken = free_slots-more_taken slot first frames (λ e. w.in_default.not-Free (c.entry.ensures.entry ∙ is_free.1 e)) in
          record {
            runs = ap (λ r. r.runs) w.self-is ∙ h.runs ∙ ap runs_of (sym taken);
            room = ap (λ r. r.room) w.self-is ∙ h.room;
          }
    ]
