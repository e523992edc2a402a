-- A whole dump: its head, and what follows.
use Rattle.std.proofs.Common.{◌≡◌, ℕ, ◌+◌, ◌<◌, eqb, leb, List, length, Option, Some, None, Result, Ok, Err, replicate, sym, ap, ◌∙◌, inl, inr, arith}
use Rattle.std.proofs.lemmas.Bool.{cases_eq, eq-eqb, le-leb, ne_eqb}
use Rattle.definitions.specs.Bytes.{zero_page}
use Rattle.definitions.specs.Streams.{IsUsedUp}
use Rattle.definitions.specs.Zones.{top}
use Rattle.plain_machine.specs.Machine.{Hardware, Memory}
use Rattle.dump_file.specs.Dump.{body_fault, dump_fault, dump_of, dump_unless, head_fault, DumpValue}
use Rattle.dump_file.specs.Fields.{contents, first_record, hardware, memory, record_count}
use Rattle.dump_file.specs.Reading.{IsHeader, IsReadTo}
use Rattle.dump_file.specs.declared.dump.DumpFault.{DumpFault}
use Rattle.dump_file.proofs.Chains.{or_else-none, or_else-some}
use Rattle.dump_file.proofs.Contents.{contents-none}
use Rattle.dump_file.proofs.Handed.{read_to_end}
use Rattle.dump_file.proofs.ZoneFaults.{not_most}

-- nothing follows where no byte comes
pub over_is : (bytes : List ℕ) (k count : ℕ) (new : Option (List ℕ)) → IsReadTo bytes (k + count) new → (count < 1 → IsUsedUp new) → eqb count 0 ≡ leb (length bytes) k
over_is bytes k count new h end =
    let within = h.within in
    elim (cases_eq count 0) [
      | inl none ↦
          let all = read_to_end bytes (k + count) new h (end (omega (arith, none))) in
          eq-eqb count 0 none ∙ sym (le-leb (length bytes) k (omega (arith, all, none)))
      | inr some ↦ ne_eqb count 0 some ∙ sym (not_most (length bytes) k (omega (arith, within, some)))
    ]

pub head_wrong : (bytes : List ℕ) (f : DumpFault) → head_fault bytes ≡ Some f → dump_of bytes ≡ Err f
unfolding dump_of dump_fault
head_wrong bytes f e = ap (λ o. dump_unless o bytes) (or_else-some (head_fault bytes) (body_fault (hardware bytes) bytes (first_record bytes) (record_count bytes)) f e)

-- the body, by what the head says
body_is : (bytes : List ℕ) (hw : Hardware) (first count : ℕ) → IsHeader bytes hw first count → body_fault hw bytes first count ≡ body_fault (hardware bytes) bytes (first_record bytes) (record_count bytes)
body_is bytes hw first count h =
    ap (λ (x : Hardware). body_fault x bytes first count) h.hw_is
    ∙ ap (λ (k : ℕ). body_fault (hardware bytes) bytes k count) h.first_is
    ∙ ap (body_fault (hardware bytes) bytes (first_record bytes)) h.count_is

fault_is : (bytes : List ℕ) (hw : Hardware) (first count : ℕ) → IsHeader bytes hw first count → dump_fault bytes ≡ body_fault hw bytes first count
unfolding dump_fault
fault_is bytes hw first count h =
    or_else-none (head_fault bytes) (body_fault (hardware bytes) bytes (first_record bytes) (record_count bytes)) h.no_fault ∙ sym (body_is bytes hw first count h)

pub body_wrong : (bytes : List ℕ) (hw : Hardware) (first count : ℕ) (f : DumpFault) → IsHeader bytes hw first count → body_fault hw bytes first count ≡ Some f → dump_of bytes ≡ Err f
unfolding dump_of
body_wrong bytes hw first count f h e = ap (λ o. dump_unless o bytes) (fault_is bytes hw first count h ∙ e)

memory_is : (bytes : List ℕ) (hw : Hardware) (first count : ℕ) → IsHeader bytes hw first count → contents bytes first count (top hw.zones) ≡ memory bytes
unfolding hardware
memory_is bytes hw first count h =
    ap (λ (x : Hardware). contents bytes first count (top x.zones)) h.hw_is
    ∙ ap (λ (k : ℕ). contents bytes k count (top (hardware bytes).zones)) h.first_is
    ∙ ap (λ (n : ℕ). contents bytes (first_record bytes) n (top (hardware bytes).zones)) h.count_is

pub all_right : (bytes : List ℕ) (hw : Hardware) (first count : ℕ) (frames : Memory) → IsHeader bytes hw first count → body_fault hw bytes first count ≡ None → frames ≡ contents bytes first count (top hw.zones) → dump_of bytes ≡ Ok (record { hw = hw; memory = frames })
unfolding dump_of
all_right bytes hw first count frames h none is =
    let value : Hardware → Memory → Result DumpValue DumpFault = λ x m. Ok (record { hw = x; memory = m }) in
    ap (λ o. dump_unless o bytes) (fault_is bytes hw first count h ∙ none)
    ∙ ap (λ (x : Hardware). value x (memory bytes)) (sym h.hw_is)
    ∙ ap (value hw) (sym (is ∙ memory_is bytes hw first count h))

-- new page frames are those without a record
pub no_records : (bytes : List ℕ) (first n : ℕ) (zones : List (ℕ × ℕ)) (seen : List (ℕ × ℕ)) (frames : Memory) → frames ≡ replicate n zero_page → n ≡ top seen → seen ≡ zones → frames ≡ contents bytes first 0 (top zones)
no_records bytes first n zones seen frames is n_is seen_is =
    is ∙ ap (λ (k : ℕ). replicate k zero_page) (n_is ∙ ap top seen_is) ∙ sym (contents-none bytes first (top zones))
