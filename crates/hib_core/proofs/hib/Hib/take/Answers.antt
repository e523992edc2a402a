-- What the copies and the writer ask for.
use Rattle.std.proofs.Common.{◌≤◌, ◌<◌, ◌^◌, ℕ, List, length, subst, sym, ap, ◌∙◌, arith}
use Rattle.definitions.specs.Tables.{HasTable}
use Rattle.definitions.specs.Zones.{top}
use Rattle.definitions.specs.declared.info.Info.{Info}
use Rattle.image_write.specs.Writing.{BlocksBelow, writes_of}
use Rattle.snapshot.specs.Taken.{Taken}
use Rattle.swap_slots.specs.Table.{LiesIn, Matches, free_in}
use Rattle.swap_slots.specs.declared.table.SlotTable.{SlotTable}
use Rattle.machine.specs.Running.{slot_table_of}
use Rattle.hib_core.specs.Begin.{info_of}
use Rattle.hib_core.proofs.BeginTables.{frame_table_lies, slot_table_lies, counted_few, free_slots_stay, room_for_image, still_matches, image_on_disk, below_more, copies_at}
use Rattle.hib_core.proofs.hib.Hib.take.Goals as goal

pub copy-requires-clause-table : goal.copy-requires-clause-table
copy-requires-clause-table c =
    let lies : HasTable c.args.frames.now c.args.machine.now.hw.frame_table (top c.args.machine.now.hw.zones) = frame_table_lies c.args.machine.now.hw c.args.frames.now c.zones-zones.ensures.hardware c.requires.ready.run.size in
    subst (λ (zs : List (ℕ × ℕ)). HasTable c.args.frames.now c.frame_table-table.result (top zs)) (sym c.zones-zones.ensures.zones)
    (subst (λ (k : ℕ). HasTable c.args.frames.now k (top c.args.machine.now.hw.zones)) (sym c.frame_table-table.ensures.frame) lies)

pub info_of-info-requires-clause-saved : goal.info_of-info-requires-clause-saved
info_of-info-requires-clause-saved c = (counted_few c.args.machine.now c.args.frames.now c.args.self.now c.args.counts c.zones-zones.ensures.hardware c.requires.counted).0

pub steps_of-requires-clause-saved : goal.steps_of-requires-clause-saved
steps_of-requires-clause-saved c = (counted_few c.args.machine.now c.args.frames.now c.args.self.now c.args.counts c.zones-zones.ensures.hardware c.requires.counted).0

pub begin-writer-requires-clause-slots : goal.begin-writer-requires-clause-slots
begin-writer-requires-clause-slots c =
    let snapshot = copies_at c.args.machine.now.hw c.args.frames.now c.zones-zones.result.now c.frame_table-table.result c.args.self.now.snapshot c.copy.new.self c.zones-zones.ensures.zones c.frame_table-table.ensures.frame c.copy.ensures.sets in
    let same = free_slots_stay c.args.machine.now c.args.frames.now c.copy.new.frames c.args.self.now c.args.counts _ _ c.requires.counted (ap (λ (s : Taken). s.copies) snapshot) c.copy.ensures.others in
    record {
      lies = subst (LiesIn c.copy.new.frames) (sym c.slot_table-slots.ensures.table) (slot_table_lies c.args.machine.now.hw c.copy.new.frames c.zones-zones.ensures.hardware (c.copy.ensures.size ∙ c.requires.ready.run.size));
      matches = subst (λ (t : SlotTable). Matches c.copy.new.frames t c.args.runs.now) (sym c.slot_table-slots.ensures.table) (still_matches c.args.machine.now.hw c.args.frames.now c.copy.new.frames c.args.runs.now same c.requires.ready.run.matches);
    }

pub begin-writer-requires-clause-room : goal.begin-writer-requires-clause-room
begin-writer-requires-clause-room c =
    let snapshot = copies_at c.args.machine.now.hw c.args.frames.now c.zones-zones.result.now c.frame_table-table.result c.args.self.now.snapshot c.copy.new.self c.zones-zones.ensures.zones c.frame_table-table.ensures.frame c.copy.ensures.sets in
    let same = free_slots_stay c.args.machine.now c.args.frames.now c.copy.new.frames c.args.self.now c.args.counts _ _ c.requires.counted (ap (λ (s : Taken). s.copies) snapshot) c.copy.ensures.others in
    let room = room_for_image c.args.machine.now c.args.frames.now c.args.self.now c.args.counts c.zones-zones.ensures.hardware c.requires.counted in
    subst (λ (i : Info). writes_of i ≤ length (free_in c.copy.new.frames c.slot_table-slots.result)) (sym c.info_of-info.ensures)
    (subst (λ (t : SlotTable). writes_of (info_of c.args.machine.now.hw c.args.counts) ≤ length (free_in c.copy.new.frames t)) (sym c.slot_table-slots.ensures.table)
    (subst (λ (xs : List ℕ). writes_of (info_of c.args.machine.now.hw c.args.counts) ≤ length xs) (sym same) room))

pub begin-writer-requires-clause-blocks : goal.begin-writer-requires-clause-blocks
begin-writer-requires-clause-blocks c =
    let snapshot = copies_at c.args.machine.now.hw c.args.frames.now c.zones-zones.result.now c.frame_table-table.result c.args.self.now.snapshot c.copy.new.self c.zones-zones.ensures.zones c.frame_table-table.ensures.frame c.copy.ensures.sets in
    let same = free_slots_stay c.args.machine.now c.args.frames.now c.copy.new.frames c.args.self.now c.args.counts _ _ c.requires.counted (ap (λ (s : Taken). s.copies) snapshot) c.copy.ensures.others in
    let on_disk = image_on_disk c.args.machine.now c.args.frames.now c.args.self.now c.args.counts c.zones-zones.ensures.hardware c.requires.counted c.requires.ready.run.usable in
    let few : c.args.machine.now.blocks < 2 ^ 32 = omega arith in
    let below = below_more c.args.machine.now.hw.extents _ _ c.args.machine.now.blocks (2 ^ 32) few on_disk in
    subst (λ (i : Info). BlocksBelow c.extents-map.result.now (free_in c.copy.new.frames c.slot_table-slots.result) (writes_of i) (2 ^ 32)) (sym c.info_of-info.ensures)
    (subst (λ (t : SlotTable). BlocksBelow c.extents-map.result.now (free_in c.copy.new.frames t) (writes_of (info_of c.args.machine.now.hw c.args.counts)) (2 ^ 32)) (sym c.slot_table-slots.ensures.table)
    (subst (λ (xs : List ℕ). BlocksBelow c.extents-map.result.now xs (writes_of (info_of c.args.machine.now.hw c.args.counts)) (2 ^ 32)) (sym same)
    (subst (λ (es : List (ℕ × ℕ × ℕ)). BlocksBelow es (free_in c.args.frames.now (slot_table_of c.args.machine.now.hw)) (writes_of (info_of c.args.machine.now.hw c.args.counts)) (2 ^ 32)) (sym c.extents-map.ensures.extents) below)))
