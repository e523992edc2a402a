use Rattle.image_machine_cli.proofs.loading.dump.Given as goal

abbrev pub ghosts-dump_expanded : goal.ghosts-dump_expanded
ghosts-dump_expanded g a = record {
  state = record {
    which = a.below.disk.ghost_name;
    blocks = g.D.Disk.block_count a.below.disk.now;
    content = g.D.Disk.content a.below.disk.now;
    faults = g.D.Disk.faults a.below.disk.now;
    calls = g.D.Disk.calls a.below.disk.now;
    orders = g.D.Disk.orders a.below.disk.now;
  };
}
