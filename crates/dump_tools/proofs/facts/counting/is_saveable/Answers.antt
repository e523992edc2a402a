use Rattle.dump_tools.proofs.PageCounts.{table_told, saveable_told}
use Rattle.dump_tools.proofs.facts.counting.is_saveable.Goals as goal

pub saveable-requires : goal.saveable-requires
saveable-requires c =
    let d = c.args.dump.now in
    table_told d.hw d.frames c.zones.result.now c.frame_table.result c.zones.ensures.hardware c.requires.size c.zones.ensures.zones c.frame_table.ensures.frame

pub returns : goal.returns
returns c =
    let d = c.args.dump.now in
    saveable_told d.hw.zones c.zones.result.now d.hw.frame_table c.frame_table.result d.frames c.args.p c.saveable.result c.zones.ensures.zones c.frame_table.ensures.frame c.requires.valid c.saveable.ensures
