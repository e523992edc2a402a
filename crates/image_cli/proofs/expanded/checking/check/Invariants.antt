use Rattle.image_cli.proofs.expanded.checking.check.Given as goal

abbrev pub ghosts-check_expanded : goal.ghosts-check_expanded
ghosts-check_expanded g a = record {
  state = record {
    which = a.below.disk.ghost_name;
    blocks = g.D.Disk.block_count a.below.disk.now;
    content = g.D.Disk.content a.below.disk.now;
    faults = g.D.Disk.faults a.below.disk.now;
    calls = g.D.Disk.calls a.below.disk.now;
    orders = g.D.Disk.orders a.below.disk.now;
  };
}
