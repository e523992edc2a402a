use Rattle.std.proofs.Common.{ℕ, List, ◌≡◌, ◌++◌, ◌∙◌, subst}
use Rattle.definitions.specs.Streams.{TakesAll, TakesFront}
use Rattle.definitions.specs.Zones.{numbers}
use Rattle.dump_file.specs.ReadBack.{ReadsBack}
use Rattle.dump_file.specs.Written.{dump_bytes, head_bytes, records_bytes}
use Rattle.dump_file.proofs.RoundTrip.{reads_back}
use Rattle.byte_streams.proofs.Taken.{on_ok, taken_is, TakesAll-both, TakesFront-second}
use Rattle.dump_file.proofs.write.write_dump.Goals as goal

pub returns-clause-front : goal.returns-clause-front
unfolding dump_bytes
returns-clause-front g c =
    let taken = g.K.Sink.taken in
    let h = c.args.hw.now in
    let m = c.args.frames.now in
    let old = taken c.args.sink.now in
    let mid = taken c.put_all.new.sink in
    let new = taken c.put_records.new.sink in
    TakesFront-second (head_bytes h m) (records_bytes m (numbers h.zones)) old mid new
    (subst (λ (text : List ℕ). TakesAll text old mid) (c.as_bytes.ensures ∙ c.head_of-head.ensures) c.in_ok-put_all.ensures.whole)
    (subst (λ (zones : List (ℕ × ℕ)). TakesFront (records_bytes m (numbers zones)) mid new) c.zones.ensures.zones c.put_records.ensures.front)

pub returns-clause-reads_back : goal.returns-clause-reads_back
unfolding dump_bytes
returns-clause-reads_back g c bytes no_region fits empty is ok =
    let taken = g.K.Sink.taken in
    let h = c.args.hw.now in
    let m = c.args.frames.now in
    let old = taken c.args.sink.now in
    let mid = taken c.put_all.new.sink in
    let new = taken c.put_records.new.sink in
    let records = records_bytes m (numbers h.zones) in
    let head : TakesAll (head_bytes h m) old mid = subst (λ (text : List ℕ). TakesAll text old mid) (c.as_bytes.ensures ∙ c.head_of-head.ensures) c.in_ok-put_all.ensures.whole in
    let rest : TakesAll records mid new = subst (λ (zones : List (ℕ × ℕ)). TakesAll (records_bytes m (numbers zones)) mid new) c.zones.ensures.zones (on_ok c.put_records.result ok c.put_records.ensures.whole) in
    let text : dump_bytes h m ≡ bytes = taken_is (head_bytes h m ++ records) bytes old new (TakesAll-both (head_bytes h m) records old mid new head rest) empty is in
    subst (ReadsBack h m) text (reads_back h m c.zones.ensures.hardware no_region fits)
