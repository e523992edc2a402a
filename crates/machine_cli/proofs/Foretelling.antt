-- A resume over an overlay foretells one over the disk below.
use Rattle.std.proofs.Common.{◌≡◌, Option, Some, None, ap, ◌∙◌}
use Rattle.definitions.specs.Disk as disk
use Rattle.plain_machine.specs.Machine.{Hardware, Memory}
use Rattle.plain_machine.specs.declared.event.IdentCheck.{IdentCheck}
use Rattle.command_core.specs.Resumptions.{HasResumed}
use Rattle.command_core.specs.declared.ending.Ended.{Ended}
use Rattle.overlay_disk.specs.DiskState.{DiskState}
use Rattle.overlay_disk.specs.Overlaid.{content_over}
use Rattle.machine_cli.specs.Foretold.{Foretells}

-- what a new overlay holds: the disk below as it reads
pub told_over : (over : Option disk.Content) (below original : DiskState) (c : disk.Content) → over ≡ content_over None below.content → below ≡ original → original.content ≡ Some c → over ≡ Some (disk.settled (disk.as_it_reads c))
told_over over below original c is same told = is ∙ ap (λ (s : DiskState). content_over None s.content) same ∙ ap (λ (o : Option disk.Content). content_over None o) told

pub foretells : (h : Hardware) (m : Memory) (check : IdentCheck) (v : disk.DiskImage) (frames : Memory) (ended : Ended) (now : Option disk.Content) → HasResumed h m check v frames ended now → Foretells h m check v frames ended
foretells h m check v frames ended now resumed = record { answer = resumed.answer; restored = resumed.restored }
