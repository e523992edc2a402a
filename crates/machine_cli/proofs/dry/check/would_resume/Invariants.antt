use Rattle.machine_cli.proofs.dry.check.would_resume.Given as goal

abbrev pub ghosts-resume_over : goal.ghosts-resume_over
ghosts-resume_over g a = record {
  state = record {
    which = a.below.disk.ghost_name;
    blocks = g.D.Disk.block_count a.below.disk.now;
    content = g.D.Disk.content a.below.disk.now;
    faults = g.D.Disk.faults a.below.disk.now;
    calls = g.D.Disk.calls a.below.disk.now;
    orders = g.D.Disk.orders a.below.disk.now;
  };
}
