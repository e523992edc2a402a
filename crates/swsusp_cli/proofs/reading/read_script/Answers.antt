use Rattle.std.proofs.Common.{◌≤◌, ◌+◌, vec_len, arith}
use Rattle.swsusp_cli.proofs.Scripts.{handed_out_more, piece_within}
use Rattle.swsusp_cli.proofs.reading.read_script.Goals as goal

pub returns-then-is_err-clause-few : goal.returns-then-is_err-clause-few
returns-then-is_err-clause-few g c =
    let bytes = c.loop-piece.bytes in
    let few : vec_len bytes + c.in-Ok.count ≤ 1048577 = piece_within (vec_len bytes) c.in-Ok.count c.min-room.result c.loop-piece.piece c.in-Ok.ensures.count (grind arith) c.loop-piece.invariant.few in
    handed_out_more (vec_len bytes) bytes.items c.read.new.into c.in-Ok.count (g.I.Source.remaining c.args.input.now) (g.I.Source.remaining c.loop-piece.input) (g.I.Source.remaining c.read.new.self)
    (grind arith) c.loop-piece.invariant.so_far c.in-Ok.ensures.bytes few
