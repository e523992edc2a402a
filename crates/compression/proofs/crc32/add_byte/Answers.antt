-- The table is held against the definition at each of its 256 places, by computing.
use Rattle.std.proofs.Common.{refl, arith}
use Rattle.compression.specs.declared.crc32.table.TheConstants.{AFTER_BYTE}
use Rattle.compression.proofs.Bits.{after_byte-table}
use Rattle.compression.proofs.crc32.add_byte.Goals as goal

pub returns : goal.returns
returns c = after_byte-table AFTER_BYTE c.args.crc c.args.byte c.from.result (omega arith) c.from.ensures refl
