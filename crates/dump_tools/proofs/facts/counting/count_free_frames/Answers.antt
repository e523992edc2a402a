use Rattle.dump_tools.proofs.PageCounts.{table_told, free_told}
use Rattle.dump_tools.proofs.facts.counting.count_free_frames.Goals as goal

pub count_free-requires : goal.count_free-requires
count_free-requires c =
    let d = c.args.dump.now in
    table_told d.hw d.frames c.zones.result.now c.frame_table.result c.zones.ensures.hardware c.requires c.zones.ensures.zones c.frame_table.ensures.frame

pub returns : goal.returns
returns c =
    let d = c.args.dump.now in
    free_told d.hw.zones c.zones.result.now d.hw.frame_table c.frame_table.result d.frames c.count_free.result c.zones.ensures.zones c.frame_table.ensures.frame c.count_free.ensures
