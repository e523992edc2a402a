use Rattle.expanded_disk.proofs.units.reading.open.Given as goal

abbrev pub ghosts-open_below : goal.ghosts-open_below
ghosts-open_below g a = record {
  state = record {
    which = a.below.disk.ghost_name;
    blocks = g.D.Disk.block_count a.below.disk.now;
    content = g.D.Disk.content a.below.disk.now;
    faults = g.D.Disk.faults a.below.disk.now;
    calls = g.D.Disk.calls a.below.disk.now;
    orders = g.D.Disk.orders a.below.disk.now;
  };
}
