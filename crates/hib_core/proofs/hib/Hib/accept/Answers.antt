-- Each refusal, and what is counted where there is none.
use Rattle.std.proofs.Common.{◌≡◌, ◌≢◌, true, false, not, Result, ◌≤◌, ◌<◌, ℕ, ◌+◌, ◌-◌, List, [], length, refl, subst, sym, ap, ◌∙◌, arith, IsOk}
use Rattle.std.proofs.lemmas.Bool.{false≢true}
use denote.Enum.Bare.{sameb}
use Rattle.image_format.specs.declared.signature.area.Area.{Area}
use Rattle.definitions.specs.Tables.{saveable_frames, free_frames}
use Rattle.definitions.specs.NumberPages.{meta_of}
use Rattle.definitions.specs.Tables.{HasTable}
use Rattle.page_core.specs.declared.format.Format.{Format}
use Rattle.definitions.specs.Zones.{top}
use Rattle.plain_machine.specs.Machine.{Memory, saveable, unused}
use Rattle.plain_machine.specs.declared.reply.Reply.TheVariants as reply
use Rattle.plain_machine.specs.contracts.held.Held.{the_type}
use Rattle.plain_machine.specs.declared.held.Held.{Held}
use Rattle.plain_machine.specs.declared.held.Held.TheVariants.{No, Yes, Perhaps}
use Rattle.plain_machine.specs.declared.no_swap.NoSwap.{NoSwap}
use Rattle.frame_table.specs.declared.prealloc.Short.{Short}
use Rattle.snapshot.specs.Taken.{Taken, zero_frames}
use Rattle.snapshot.specs.declared.Counts.{Counts}
use Rattle.swap_slots.specs.Table.{LiesIn, free_in}
use Rattle.swap_slots.specs.declared.table.SlotTable.{SlotTable}
use Rattle.machine.specs.Running.{slot_table_of}
use Rattle.machine.specs.declared.machine.Machine.{Machine}
use Rattle.hib_core.specs.declared.hib.Hib.{Hib}
use Rattle.hib_core.specs.Begin.{IsRefused, pages_of}
use Rattle.hib_core.proofs.BeginRefusals.{AreCounts, are_counts, refused_closed, refused_no_swap, refused_no_frames, refused_no_slots, refused_busy}
use Rattle.hib_core.proofs.BeginTables.{at_hardware, frame_table_lies, slot_table_lies, saveable_few}
use Rattle.hib_core.proofs.hib.Hib.accept.Goals as goal

isn't_no : (flag : Held) → not (sameb the_type flag No) ≡ true → flag ≢ No
isn't_no flag e is = false≢true (sym (ap (λ (f : Held). not (sameb the_type f No)) is) ∙ e)

is_no : (flag : Held) → not (sameb the_type flag No) ≡ false → flag ≡ No
is_no No e = refl
is_no Yes e = absurd (false≢true (sym e))
is_no Perhaps e = absurd (false≢true (sym e))

pub returns-then-ne-clause-refused : goal.returns-then-ne-clause-refused
returns-then-ne-clause-refused c = refused_closed c.args.machine.now c.args.frames.now c.args.format (sym c.busy.ensures ∙ c.in_default.is) (isn't_no c.args.machine.now.held (sym c.ne.ensures ∙ c.if-ne.true))

pub returns-in-Err-clause-refused : goal.returns-in-Err-clause-refused
returns-in-Err-clause-refused c =
    let unmarked : c.args.machine.now.held ≡ No = is_no c.args.machine.now.held (sym c.ne.ensures ∙ c.if-ne.false) in
    refused_no_swap c.args.machine.now c.args.frames.now c.args.format c.in-Err.why c.zones-zones.ensures.hardware (sym c.busy.ensures ∙ c.in_default.is) unmarked c.in-Err.is

pub count-requires-clause-table : goal.count-requires-clause-table
count-requires-clause-table c =
    let lies : HasTable c.args.frames.now c.args.machine.now.hw.frame_table (top c.args.machine.now.hw.zones) = frame_table_lies c.args.machine.now.hw c.args.frames.now c.zones-zones.ensures.hardware c.requires.ready.run.size in
    subst (λ (zs : List (ℕ × ℕ)). HasTable c.args.frames.now c.frame_table-table.result (top zs)) (sym c.zones-zones.ensures.zones)
    (subst (λ (k : ℕ). HasTable c.args.frames.now k (top c.args.machine.now.hw.zones)) (sym c.frame_table-table.ensures.frame) lies)

pub free_count-free-requires-clause-table : goal.free_count-free-requires-clause-table
free_count-free-requires-clause-table c = subst (LiesIn c.args.frames.now) (sym c.slot_table-slots.ensures.table) (slot_table_lies c.args.machine.now.hw c.args.frames.now c.zones-zones.ensures.hardware c.requires.ready.run.size)

pub image_pages-requires-clause-few_saved : goal.image_pages-requires-clause-few_saved
image_pages-requires-clause-few_saved c =
    let saved : c.in-Ok.counts.n ≡ length (saveable c.args.machine.now.hw c.args.frames.now) =
    at_hardware c.args.machine.now.hw (λ zs k. c.in-Ok.counts.n ≡ length (saveable_frames zs k c.args.frames.now)) c.zones-zones.result.now c.frame_table-table.result c.zones-zones.ensures.zones c.frame_table-table.ensures.frame (ap (λ (x : Counts). x.n) c.in-Ok.ensures.counts) in
    let few = saveable_few c.args.machine.now.hw c.args.frames.now c.zones-zones.ensures.hardware.zones in
    omega arith

pub image_pages-requires-clause-few_with_data : goal.image_pages-requires-clause-few_with_data
image_pages-requires-clause-few_with_data c =
    let saved : c.in-Ok.counts.n ≡ length (saveable c.args.machine.now.hw c.args.frames.now) =
    at_hardware c.args.machine.now.hw (λ zs k. c.in-Ok.counts.n ≡ length (saveable_frames zs k c.args.frames.now)) c.zones-zones.result.now c.frame_table-table.result c.zones-zones.ensures.zones c.frame_table-table.ensures.frame (ap (λ (x : Counts). x.n) c.in-Ok.ensures.counts) in
    let few = saveable_few c.args.machine.now.hw c.args.frames.now c.zones-zones.ensures.hardware.zones in
    let with_pages = ap (λ (x : Counts). x.d) c.in-Ok.ensures.counts in
    let all = ap (λ (x : Counts). x.n) c.in-Ok.ensures.counts in
    omega arith

pub overflow_add-need : goal.overflow_add-need
overflow_add-need c =
    let saved : c.in-Ok.counts.n ≡ length (saveable c.args.machine.now.hw c.args.frames.now) =
    at_hardware c.args.machine.now.hw (λ zs k. c.in-Ok.counts.n ≡ length (saveable_frames zs k c.args.frames.now)) c.zones-zones.result.now c.frame_table-table.result c.zones-zones.ensures.zones c.frame_table-table.ensures.frame (ap (λ (x : Counts). x.n) c.in-Ok.ensures.counts) in
    let few = saveable_few c.args.machine.now.hw c.args.frames.now c.zones-zones.ensures.hardware.zones in
    let with_pages = ap (λ (x : Counts). x.d) c.in-Ok.ensures.counts in
    let all = ap (λ (x : Counts). x.n) c.in-Ok.ensures.counts in
    let is : c.image_pages.result ≡ c.in-Ok.counts.d + meta_of c.in-Ok.counts.n + 1 = c.image_pages.ensures.pages in
    omega arith

pub returns-in-Err-count-clause-refused : goal.returns-in-Err-count-clause-refused
returns-in-Err-count-clause-refused c =
    let unmarked : c.args.machine.now.held ≡ No = is_no c.args.machine.now.held (sym c.ne.ensures ∙ c.if-ne.false) in
    let usable : IsOk c.args.machine.now.area = subst (λ (r : Result Area NoSwap). IsOk r) (sym c.in_default-area.is) refl in
    let few = at_hardware c.args.machine.now.hw (λ zs k. length (free_frames zs k c.args.frames.now) < length (saveable_frames zs k c.args.frames.now) + 1025) c.zones-zones.result.now c.frame_table-table.result c.zones-zones.ensures.zones c.frame_table-table.ensures.frame (c.in-Err-count.ensures.short.0 refl) in
    let told : c.in-Err-count.short ≡ record { free = length (unused c.args.machine.now.hw c.args.frames.now); need = length (saveable c.args.machine.now.hw c.args.frames.now) + 1025 } =
    at_hardware c.args.machine.now.hw (λ zs k. let is : Short = record { free = length (free_frames zs k c.args.frames.now); need = length (saveable_frames zs k c.args.frames.now) + 1025 } in c.in-Err-count.short ≡ is) c.zones-zones.result.now c.frame_table-table.result c.zones-zones.ensures.zones c.frame_table-table.ensures.frame c.in-Err-count.ensures.tells in
    subst (λ (s : Short). IsRefused c.args.machine.now c.args.frames.now c.args.format (reply.NoFrames s.free s.need)) (sym told) (refused_no_frames c.args.machine.now c.args.frames.now c.args.format c.zones-zones.ensures.hardware (sym c.busy.ensures ∙ c.in_default.is) unmarked usable few)

-- what the snapshot counts, and that there is room for it
record IsRoom (machine : Machine) (frames : Memory) (hib : Hib) (counts : Counts) (f : Format) : Type 0 where
  are : AreCounts machine.hw frames hib counts
  format : hib.snapshot.format ≡ f
  copies : length (saveable machine.hw frames) + 1025 ≤ length (unused machine.hw frames)

room : (machine : Machine) (frames : Memory) (hib : Hib) (counts : Counts) (f : Format) (held zones : List (ℕ × ℕ)) (table : ℕ) → zones ≡ machine.hw.zones → table ≡ machine.hw.frame_table →
    hib.snapshot ≡ record { zones = held; format = f; origs = saveable_frames zones table frames; copies = []; zeros = zero_frames f frames (saveable_frames zones table frames) } →
    counts ≡ record { n = length (saveable_frames zones table frames); d = length (saveable_frames zones table frames) - length (zero_frames f frames (saveable_frames zones table frames)) } →
    length (saveable_frames zones table frames) + 1025 ≤ length (free_frames zones table frames) → IsRoom machine frames hib counts f
room machine frames hib counts f held zones table z t sets told enough = record {
  are = are_counts machine.hw frames f held hib counts
      (at_hardware machine.hw (λ zs k. let is : Taken = record { zones = held; format = f; origs = saveable_frames zs k frames; copies = []; zeros = zero_frames f frames (saveable_frames zs k frames) } in hib.snapshot ≡ is) zones table z t sets)
      (at_hardware machine.hw (λ zs k. let is : Counts = record { n = length (saveable_frames zs k frames); d = length (saveable_frames zs k frames) - length (zero_frames f frames (saveable_frames zs k frames)) } in counts ≡ is) zones table z t told);
  format = ap (λ (s : Taken). s.format) sets;
  copies = at_hardware machine.hw (λ zs k. length (saveable_frames zs k frames) + 1025 ≤ length (free_frames zs k frames)) zones table z t enough;
}

pub returns-then-free-need-clause-refused : goal.returns-then-free-need-clause-refused
returns-then-free-need-clause-refused c =
    let unmarked : c.args.machine.now.held ≡ No = is_no c.args.machine.now.held (sym c.ne.ensures ∙ c.if-ne.false) in
    let usable : IsOk c.args.machine.now.area = subst (λ (r : Result Area NoSwap). IsOk r) (sym c.in_default-area.is) refl in
    let hib : Hib = record c.args.self.now { snapshot = c.count.new.self } in
    let is = room c.args.machine.now c.args.frames.now hib c.in-Ok.counts c.args.format c.args.self.now.snapshot.zones c.zones-zones.result.now c.frame_table-table.result c.zones-zones.ensures.zones c.frame_table-table.ensures.frame c.in-Ok.ensures.sets c.in-Ok.ensures.counts (c.in-Ok.ensures.enough.0 refl) in
    let free : c.free_count-free.result ≡ length (free_in c.args.frames.now (slot_table_of c.args.machine.now.hw)) = c.free_count-free.ensures ∙ ap (λ (t : SlotTable). length (free_in c.args.frames.now t)) c.slot_table-slots.ensures.table in
    let lt : c.free_count-free.result < c.image_pages.result + 1026 = c.if-free-need.true in
    let few : length (free_in c.args.frames.now (slot_table_of c.args.machine.now.hw)) < pages_of c.in-Ok.counts + 1026 = subst (λ (n : ℕ). n < pages_of c.in-Ok.counts + 1026) free (subst (λ (n : ℕ). c.free_count-free.result < n + 1026) c.image_pages.ensures.pages lt) in
    subst (λ (n : ℕ). IsRefused c.args.machine.now c.args.frames.now c.args.format (reply.NoSlots n (c.image_pages.result + 1026))) (sym free)
    (subst (λ (n : ℕ). IsRefused c.args.machine.now c.args.frames.now c.args.format (reply.NoSlots (length (free_in c.args.frames.now (slot_table_of c.args.machine.now.hw))) (n + 1026))) (sym c.image_pages.ensures.pages)
    (refused_no_slots c.args.machine.now c.args.frames.now c.args.format hib c.in-Ok.counts c.zones-zones.ensures.hardware (sym c.busy.ensures ∙ c.in_default.is) unmarked usable is.are is.format is.copies few))

pub returns-clause-counted : goal.returns-clause-counted
returns-clause-counted c =
    let unmarked : c.args.machine.now.held ≡ No = is_no c.args.machine.now.held (sym c.ne.ensures ∙ c.if-ne.false) in
    let usable : IsOk c.args.machine.now.area = subst (λ (r : Result Area NoSwap). IsOk r) (sym c.in_default-area.is) refl in
    let hib : Hib = record c.args.self.now { snapshot = c.count.new.self } in
    let is = room c.args.machine.now c.args.frames.now hib c.in-Ok.counts c.args.format c.args.self.now.snapshot.zones c.zones-zones.result.now c.frame_table-table.result c.zones-zones.ensures.zones c.frame_table-table.ensures.frame c.in-Ok.ensures.sets c.in-Ok.ensures.counts (c.in-Ok.ensures.enough.0 refl) in
    let free : c.free_count-free.result ≡ length (free_in c.args.frames.now (slot_table_of c.args.machine.now.hw)) = c.free_count-free.ensures ∙ ap (λ (t : SlotTable). length (free_in c.args.frames.now t)) c.slot_table-slots.ensures.table in
    let le : c.image_pages.result + 1026 ≤ c.free_count-free.result = c.if-free-need.false in
    record {
      idle = sym c.busy.ensures ∙ c.in_default.is;
      held = unmarked;
      area = usable;
      origs = is.are.origs;
      zeros = is.are.zeros;
      saved = is.are.saved;
      with_pages = is.are.with_pages;
      copies = is.copies;
      slots = subst (λ (n : ℕ). pages_of c.in-Ok.counts + 1026 ≤ n) free (subst (λ (n : ℕ). n + 1026 ≤ c.free_count-free.result) c.image_pages.ensures.pages le);
      reserved = c.requires.ready.run.reserved;
    }

pub returns-in-Some-clause-refused : goal.returns-in-Some-clause-refused
returns-in-Some-clause-refused c = refused_busy c.args.machine.now c.args.frames.now c.args.format c.in-Some.task (sym c.busy.ensures ∙ c.in-Some.is)
