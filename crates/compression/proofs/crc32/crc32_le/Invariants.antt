use Rattle.std.proofs.Common.{◌≡◌, drop}
use Rattle.compression.specs.Crc.{crc32}
use Rattle.compression.proofs.crc32.crc32_le.Given as goal

-- the remainder so far, taken on over the rest, is that of all bytes
abbrev pub invariant-loop-byte : goal.invariant-loop-byte
invariant-loop-byte l = crc32 l.crc (drop l.byte-index l.bytes) ≡ crc32 l.seed l.bytes
