use Rattle.std.proofs.Common.{◌∙◌, List, subst}
use Rattle.definitions.specs.Disk.{IsImage}
use Rattle.sector_disk.specs.Recorded.{held_after}
use Rattle.sector_disk.specs.declared.recorded.Recorded.{Recorded}
use Rattle.recording_disk.proofs.Recordings.{WasLeft-at}
use Rattle.recording_disk.proofs.log_disk.LogDisk.restart_at.Goals as goal

pub returns-clause-past : goal.returns-clause-past
returns-clause-past c = λ le.
    let d = c.args.self.now in
    let (v, image, e) = c.restart.ensures.restarted in
    (v, WasLeft-at d.start.items d.log.items c.args.calls v le (subst (λ (xs : List Recorded). IsImage (held_after d.start.items xs) v) c.truncate.ensures.items image), e)

pub returns-clause-armed : goal.returns-clause-armed
returns-clause-armed c = record {
  calls = λ k. (λ h. (c.replay.ensures.armed.calls k).0 ((c.restart.ensures.armed.calls k).0 h), λ h. (c.restart.ensures.armed.calls k).1 ((c.replay.ensures.armed.calls k).1 h));
  pick = c.restart.ensures.armed.pick ∙ c.replay.ensures.armed.pick;
}
