use Rattle.std.proofs.Common.{ℕ, ◌<◌, List, sym, ap, ◌∙◌, subst}
use Rattle.std.specs.List.{All, find}
use Rattle.plain_machine.specs.FreshMemory.{region_flags}
use Rattle.plain_machine.proofs.Fresh.{fresh_entry-table}
use Rattle.machine.specs.HardFault.{is_in_region}
use Rattle.machine.proofs.FreshEntries.{fresh_entry-region}
use Rattle.machine.proofs.fresh.fresh_flags.Goals as goal

pub returns-then-is_table_frame : goal.returns-then-is_table_frame
returns-then-is_table_frame c = sym (fresh_entry-table c.args.hw.now c.args.p (sym c.is_table_frame.ensures ∙ c.if-is_table_frame.true))

pub region_flags-requires : goal.region_flags-requires
region_flags-requires c =
    let Few : List (ℕ × ℕ × ℕ) → Type 0 = λ regions. All (λ r. r.2 < 128) regions in
    subst Few (sym c.regions.ensures.regions) (λ j d lt. (c.regions.ensures.hardware.regions j d lt).few_flags)

pub returns-else-is_table_frame : goal.returns-else-is_table_frame
returns-else-is_table_frame c =
    c.region_flags.ensures
    ∙ ap (λ (regions : List (ℕ × ℕ × ℕ)). region_flags (find (λ r. is_in_region r c.args.p) regions)) c.regions.ensures.regions
    ∙ sym (fresh_entry-region c.args.hw.now c.args.p (sym c.is_table_frame.ensures ∙ c.if-is_table_frame.false))
