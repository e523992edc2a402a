use Rattle.image_cli.proofs.expanded.checking.check_json.Given as goal

abbrev pub ghosts-check_expanded_json : goal.ghosts-check_expanded_json
ghosts-check_expanded_json g a = record {
  state = record {
    which = a.below.disk.ghost_name;
    blocks = g.D.Disk.block_count a.below.disk.now;
    content = g.D.Disk.content a.below.disk.now;
    faults = g.D.Disk.faults a.below.disk.now;
    calls = g.D.Disk.calls a.below.disk.now;
    orders = g.D.Disk.orders a.below.disk.now;
  };
}
