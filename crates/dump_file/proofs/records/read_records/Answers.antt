use Rattle.std.proofs.Common.{◌≡◌, ◌<◌, ◌+◌, ◌*◌, List, ℕ, suc, Option, Some, None, Err, refl, inl, inr, arith, subst, sym, ap, ◌∙◌}
use Rattle.std.proofs.lemmas.Bool.{cases_lt}
use Rattle.std.proofs.lemmas.Result.{err_from_is_err_and}
use Rattle.definitions.specs.Bytes.{bytes_at}
use Rattle.definitions.specs.Tables.{with_frame}
use Rattle.definitions.specs.Zones.{top}
use Rattle.dump_file.specs.Dump.{fault_of_record, frame_before, record_fault, records_fault}
use Rattle.dump_file.specs.Fields.{contents, number, record_byte, record_frame}
use Rattle.dump_file.specs.Reading.{IsReadTo}
use Rattle.dump_file.specs.declared.dump.DumpFault.{DumpFault}
use Rattle.dump_file.proofs.Chains.{first-at, first-none}
use Rattle.dump_file.proofs.Contents.{above_all, contents-more}
use Rattle.dump_file.proofs.RecordFaults.{is_in_order}
use Rattle.dump_file.proofs.Refused.{goes_on, stops}
use Rattle.dump_file.proofs.records.read_records.Goals as goal

-- the place of record j
at_record : (bytes : List ℕ) (first j n : ℕ) (left : Option (List ℕ)) → n ≡ j → IsReadTo bytes (record_byte first j) left → IsReadTo bytes (first + 4100 * n) left
at_record bytes first j n left e h = subst (λ (k : ℕ). IsReadTo bytes (first + 4100 * k) left) (sym e) h

fault_here : (zones : List (ℕ × ℕ)) (bytes : List ℕ) (first j n : ℕ) (before : Option ℕ) (o : Option DumpFault) → n ≡ j → before ≡ frame_before bytes first j → fault_of_record zones bytes before (first + 4100 * n) ≡ o → record_fault zones bytes first j ≡ o
fault_here zones bytes first j n before o e b h =
    ap (λ (k : Option ℕ). fault_of_record zones bytes k (record_byte first j)) (sym b)
    ∙ ap (λ (k : ℕ). fault_of_record zones bytes before (first + 4100 * k)) (sym e) ∙ h

pub returns-in_err-read_record-clause-read : goal.returns-in_err-read_record-clause-read
unfolding records_fault
returns-in_err-read_record-clause-read g c bytes h =
    let p = err_from_is_err_and c.from_residual.result c.from_residual.ensures.1 in
    let zones = c.args.zones.now in
    let first = c.args.first in
    let j = c.loop-j.j in
    let here = at_record bytes first j c.from.result (g.S.Source.remaining c.loop-j.source) c.from.ensures (c.loop-j.invariant.left bytes h) in
    stops _ _ _ (c.in_err-read_record.ensures.read bytes here) (p.1 ∙ ap Err p.2)
    (λ f e.
    first-at (record_fault zones bytes first) 0 c.args.count j f (omega arith) (omega (arith, c.loop-j-test.true))
    (λ i from below. c.loop-j.invariant.none bytes h i below)
    (fault_here zones bytes first j c.from.result c.loop-j.before (Some f) c.from.ensures (c.loop-j.invariant.before bytes h) e))

pub loop-j-preserved : goal.loop-j-preserved
loop-j-preserved g c =
    let zones = c.args.zones.now in
    let first = c.args.first in
    let j = c.loop-j.j in
    let remaining = g.S.Source.remaining in
    let here : (bytes : List ℕ) → IsReadTo bytes first (remaining c.args.source.now) → IsReadTo bytes (first + 4100 * c.from.result) (remaining c.loop-j.source) =
    λ bytes h. at_record bytes first j c.from.result (remaining c.loop-j.source) c.from.ensures (c.loop-j.invariant.left bytes h) in
    let frame_is : (bytes : List ℕ) → IsReadTo bytes first (remaining c.args.source.now) → c.in_ok-read_record.field-0 ≡ record_frame bytes first j =
    λ bytes h. c.in_ok-read_record.ensures.frame.1 bytes (here bytes h) ∙ ap (λ (k : ℕ). number bytes (first + 4100 * k)) c.from.ensures in
    let none_here : (bytes : List ℕ) → IsReadTo bytes first (remaining c.args.source.now) → record_fault zones bytes first j ≡ None =
    λ bytes h. fault_here zones bytes first j c.from.result c.loop-j.before None c.from.ensures (c.loop-j.invariant.before bytes h) ((c.in_ok-read_record.ensures.read bytes (here bytes h)).right refl).0 in
    let more : j + 1 ≡ suc j = omega arith in
    record {
      size = c.read_record.ensures.size ∙ c.loop-j.invariant.size;
      before = λ bytes h. ap Some (frame_is bytes h) ∙ ap (frame_before bytes first) (sym more);
      left =
          λ bytes h.
          let place : first + 4100 * c.from.result + 4100 ≡ record_byte first (j + 1) = omega (arith, c.from.ensures) in
          subst (λ (k : ℕ). IsReadTo bytes k (remaining c.read_record.new.source)) place ((c.in_ok-read_record.ensures.read bytes (here bytes h)).right refl).1;
      none =
          λ bytes h i lt.
          elim (cases_lt i j) [
            | inl below ↦ c.loop-j.invariant.none bytes h i below
            | inr ge ↦ let same : j ≡ i = omega (arith, ge, lt) in subst (λ (k : ℕ). record_fault zones bytes first k ≡ None) same (none_here bytes h)
          ];
      frames =
          λ bytes h e.
          let p = c.in_ok-read_record.field-0 in
          let within : p < top zones = omega (arith, c.in_ok-read_record.ensures.frame.0, c.loop-j.invariant.size) in
          c.in_ok-read_record.ensures.frames bytes (here bytes h)
          ∙ ap (λ (m : List (List ℕ)). with_frame m p (bytes_at 4096 bytes (first + 4100 * c.from.result + 4))) (c.loop-j.invariant.frames bytes h e)
          ∙ ap (λ (k : ℕ). with_frame (contents bytes first j (top zones)) p (bytes_at 4096 bytes (first + 4100 * k + 4))) c.from.ensures
          ∙ contents-more bytes first j (top zones) p (frame_is bytes h) within
          (λ i lt. subst (λ (q : ℕ). record_frame bytes first i < q) (sym (frame_is bytes h))
          (above_all zones bytes first j (c.loop-j.invariant.none bytes h) (record_frame bytes first j) (is_in_order zones bytes (frame_before bytes first j) (record_byte first j) (none_here bytes h)) i lt));
      counted = omega (arith, c.loop-j.invariant.counted, c.read_record.ensures.counted);
    }

pub returns-clause-read : goal.returns-clause-read
unfolding records_fault
returns-clause-read g c bytes h =
    let all : c.loop-j.j ≡ c.args.count = omega (arith, c.loop-j-test.false, c.loop-j.auto.j-end) in
    goes_on _ _ _ _ _
    (first-none (record_fault c.args.zones.now bytes c.args.first) 0 c.args.count (λ i from below. c.loop-j.invariant.none bytes h i (omega (arith, below, c.loop-j-test.false))))
    (subst (λ (n : ℕ). IsReadTo bytes (record_byte c.args.first n) (g.S.Source.remaining c.loop-j.source)) all (c.loop-j.invariant.left bytes h))
