use Rattle.std.proofs.Common.{List, ℕ, refl, subst}
use Rattle.definitions.specs.Disk as disk
use Rattle.unmark.proofs.unmarking.Unmark.step.Goals as goal

pub returns-in-Ok-clause-unmarked : goal.returns-in-Ok-clause-unmarked
returns-in-Ok-clause-unmarked g c = record {
  at = c.in-Read.is;
  next = refl;
  header = c.in-Ok.ensures.bytes;
  page = c.is_page.ensures.page;
  content = c.read.ensures.content;
}

pub returns-in-Err-clause-unmarked : goal.returns-in-Err-clause-unmarked
returns-in-Err-clause-unmarked g c = record {
  at = c.in-Read.is;
  next = c.in-Read.is;
  header = tt;
  page = c.is_page.ensures.page;
  content = c.read.ensures.content;
}

pub returns-in-Ok-write-clause-unmarked : goal.returns-in-Ok-write-clause-unmarked
returns-in-Ok-write-clause-unmarked g c = record {
  at = c.in-Write.is;
  next = refl;
  header = refl;
  page = c.is_page.ensures.page;
  content = subst
      (λ (p : List ℕ). disk.Changes (disk.Writes c.args.block p) (g.D.Disk.content c.args.disk.now) (g.D.Disk.content c.write.new.self))
      c.unmarked.ensures c.in-Ok-write.ensures.written;
}

pub returns-in-Err-write-clause-unmarked : goal.returns-in-Err-write-clause-unmarked
returns-in-Err-write-clause-unmarked g c = record {
  at = c.in-Write.is;
  next = c.in-Write.is;
  header = refl;
  page = c.is_page.ensures.page;
  content = subst
      (λ (p : List ℕ). disk.Changes (disk.FailsToWrite c.args.block p) (g.D.Disk.content c.args.disk.now) (g.D.Disk.content c.write.new.self))
      c.unmarked.ensures c.in-Err-write.ensures.failed;
}

pub returns-in-Ok-sync-clause-unmarked : goal.returns-in-Ok-sync-clause-unmarked
returns-in-Ok-sync-clause-unmarked g c = record {
  at = c.in-Sync.is;
  next = c.in-Sync.is;
  header = refl;
  page = c.is_page.ensures.page;
  content = c.in-Ok-sync.ensures.synced;
}

pub returns-in-Err-sync-clause-unmarked : goal.returns-in-Err-sync-clause-unmarked
returns-in-Err-sync-clause-unmarked g c = record {
  at = c.in-Sync.is;
  next = c.in-Sync.is;
  header = refl;
  page = c.is_page.ensures.page;
  content = c.in-Err-sync.ensures.failed;
}
