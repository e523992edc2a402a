-- The entries of the frame table in fresh memory.
use Rattle.std.proofs.Common.{◌≡◌, ℕ, Bool, false, cond, ap}
use Rattle.std.specs.List.{find}
use Rattle.plain_machine.specs.Machine.{Hardware, is_table_frame}
use Rattle.plain_machine.specs.FreshMemory.{fresh_entry, region_flags}
use Rattle.machine.specs.HardFault.{is_in_region}

-- a page frame of no table has the flags of its region, or is free
pub fresh_entry-region : (h : Hardware) (p : ℕ) → is_table_frame h p ≡ false → fresh_entry h p ≡ region_flags (find (λ r. is_in_region r p) h.regions)
unfolding fresh_entry
fresh_entry-region h p e = ap (λ (b : Bool). cond b 0 (region_flags (find (λ r. is_in_region r p) h.regions))) e
