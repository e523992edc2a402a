use Rattle.image_cli.proofs.expanded.differing.differ_second.Given as goal

abbrev pub ghosts-differ_second_expanded : goal.ghosts-differ_second_expanded
ghosts-differ_second_expanded g a = record {
  state = record {
    which = 0;
    blocks = g.E.Disk.block_count a.second.side.disk.disk;
    content = g.E.Disk.content a.second.side.disk.disk;
    faults = g.E.Disk.faults a.second.side.disk.disk;
    calls = g.E.Disk.calls a.second.side.disk.disk;
    orders = g.E.Disk.orders a.second.side.disk.disk;
  };
}
