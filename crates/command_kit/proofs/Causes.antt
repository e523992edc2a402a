-- Laws of whose failure a status says.
use Rattle.std.proofs.Common.{◌≡◌, ◌≢◌}
use Rattle.command_kit.specs.Causes.{HasCause}
use Rattle.command_kit.specs.declared.status.Status.{Status}
use Rattle.command_kit.specs.declared.status.Status.TheVariants.{Words, Stream, Device}

-- a status that is neither `Device` nor `Words`
pub blames_streams : {streams disk : Type 0} (status : Status) → (status ≡ Stream → streams) → status ≢ Device → status ≢ Words → HasCause streams disk status
blames_streams status stream device words = record { stream = stream; device = λ is_device. absurd (device is_device); words = words }

-- the same failures, said over a longer time
pub cause_since : {streams longer disk longer_disk : Type 0} (status : Status) → (streams → longer) → (disk → longer_disk) → HasCause streams disk status → HasCause longer longer_disk status
cause_since status widens disk_widens cause = record {
  stream = λ is_stream. widens (cause.stream is_stream);
  device = λ is_device. disk_widens (cause.device is_device);
  words = cause.words;
}
