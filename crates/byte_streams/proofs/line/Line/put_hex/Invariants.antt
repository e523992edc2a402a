use Rattle.std.proofs.Common.{◌≡◌, ◌+◌, ◌*◌, ◌++◌, take, length}
use Rattle.arrayvec.specs.ArrayVec.{array_vec_len}
use Rattle.plain_machine.specs.Replies.{hex_text}
use Rattle.byte_streams.proofs.line.Line.put_hex.Given as goal

abbrev pub invariant-loop-b : goal.invariant-loop-b
invariant-loop-b l = record {
  so_far : l.self-inside.bytes.items ≡ l.fn.self ++ hex_text (take l.b-index l.bytes);
  len : array_vec_len l.self-inside.bytes ≡ length l.fn.self + 2 * l.b-index;
}
