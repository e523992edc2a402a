use Rattle.std.proofs.Common.{ℕ, List, ◌∙◌, subst}
use Rattle.definitions.specs.Streams.{TakesFront}
use Rattle.definitions.specs.Tables.{frame}
use Rattle.dump_file.specs.Written.{number_bytes}
use Rattle.byte_streams.proofs.Taken.{TakesFront-second}
use Rattle.dump_file.proofs.write.put_record.Goals as goal

pub returns-clause-front : goal.returns-clause-front
returns-clause-front g c =
    let taken = g.K.Sink.taken in
    let old = taken c.args.sink.now in
    let mid = taken c.put_number.new.sink in
    let new = taken c.put_all.new.sink in
    TakesFront-second (number_bytes c.args.p) (frame c.args.frames.now c.args.p) old mid new c.in_ok-put_number.ensures.whole
    (subst (λ (page : List ℕ). TakesFront page mid new) (c.as_bytes.ensures.bytes ∙ c.page.ensures.content) c.put_all.ensures.front)
