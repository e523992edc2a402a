-- Memories that are the same have the same tables.
use Rattle.std.proofs.Common.{◌≡◌, ◌<◌, ℕ, eqb, ap, ◌∙◌, arith}
use Rattle.std.specs.List.{range_with_len}
use Rattle.definitions.specs.Tables.{free_slots}
use Rattle.definitions.specs.FreeRuns.{runs_of}
use Rattle.definitions.specs.Tables.{owner_of, page_flags, is_saveable}
use Rattle.definitions.proofs.ZoneNumbers.{range-bounds}
use Rattle.plain_machine.specs.Machine.{Hardware, Memory, raw_slot_entry, is_well_formed, is_slot_entry}
use Rattle.plain_machine.proofs.SameMemory.{filter_agree_within, same_entry, same_slot_entry, table_frame_valid}
use Rattle.protocol_laws.specs.KeptTables.{FitsCarried, RunsSame}

pub fits_carried : FitsCarried
fits_carried h m n hw fits same pages size = record {
  pages = pages;
  size = size;
  entries = λ p in'. ap is_well_formed (same_entry h m n p hw fits same in') ∙ fits.entries p in';
  tables = λ f of.
      let e = same_entry h m n f hw fits same (table_frame_valid h f hw of) in
      (ap (λ (x : ℕ). is_saveable (page_flags x)) e ∙ (fits.tables f of).0, ap owner_of e ∙ (fits.tables f of).1);
  slots = λ s lt. ap (is_slot_entry s) (same_slot_entry h m n s hw fits same lt) ∙ fits.slots s lt;
}

free_same : (h : Hardware) (m n : Memory) → ((k : ℕ) → k < h.slots → raw_slot_entry h n k ≡ raw_slot_entry h m k) → free_slots h.slots h.slot_table n ≡ free_slots h.slots h.slot_table m
unfolding free_slots
free_same h m n same =
    filter_agree_within (λ s. eqb (raw_slot_entry h n s) 0) (λ s. eqb (raw_slot_entry h m s) 0) (range_with_len 0 h.slots)
    (λ s in'. let bounds = range-bounds 0 h.slots s in' in let below = bounds.1 in ap (λ (x : ℕ). eqb x 0) (same s (omega arith)))

pub runs_same : RunsSame
runs_same h m n same = ap runs_of (free_same h m n same)
