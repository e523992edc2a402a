use Rattle.image_cli.proofs.expanded.differing.differ.Given as goal

abbrev pub ghosts-differ_first_expanded : goal.ghosts-differ_first_expanded
ghosts-differ_first_expanded g a = record {
  state = record {
    which = 0;
    blocks = g.D.Disk.block_count a.first.side.disk.disk;
    content = g.D.Disk.content a.first.side.disk.disk;
    faults = g.D.Disk.faults a.first.side.disk.disk;
    calls = g.D.Disk.calls a.first.side.disk.disk;
    orders = g.D.Disk.orders a.first.side.disk.disk;
  };
}
