-- What stands after the head, part by part.
use Rattle.std.proofs.Common.{◌≡◌, ℕ, ◌+◌, ◌≤◌, Bool, true, false, cond, leb, List, length, Option, Some, None, sym, ap, ◌∙◌, subst, arith}
use Rattle.std.proofs.lemmas.Bool.{leb-true}
use Rattle.definitions.specs.Zones.{top}
use Rattle.plain_machine.specs.Chain.{or_else}
use Rattle.plain_machine.specs.Machine.{Hardware, Memory, tables_fault}
use Rattle.dump_file.specs.Dump.{body_fault, end_fault, records_fault, table_fault}
use Rattle.dump_file.specs.Fields.{contents, record_byte}
use Rattle.dump_file.specs.Reading.{IsReadTo}
use Rattle.dump_file.specs.declared.dump.DumpFault.{DumpFault}
use Rattle.dump_file.specs.declared.dump.DumpKind.TheVariants.{Extra}
use Rattle.dump_file.proofs.Chains.{or_else-none, or_else-some, unless-false, unless-true}

pub body_records : (h : Hardware) (bytes : List ℕ) (first count : ℕ) (zones : List (ℕ × ℕ)) (f : DumpFault) → zones ≡ h.zones → records_fault zones bytes first count ≡ Some f → body_fault h bytes first count ≡ Some f
unfolding body_fault
body_records h bytes first count zones f same e =
    or_else-some (records_fault h.zones bytes first count) _ f (ap (λ (zs : List (ℕ × ℕ)). records_fault zs bytes first count) (sym same) ∙ e)

-- the records are right
body_rest : (h : Hardware) (bytes : List ℕ) (first count : ℕ) (zones : List (ℕ × ℕ)) → zones ≡ h.zones → records_fault zones bytes first count ≡ None → body_fault h bytes first count ≡ or_else (end_fault bytes (record_byte first count)) (table_fault (tables_fault h (contents bytes first count (top h.zones))))
unfolding body_fault
body_rest h bytes first count zones same none =
    or_else-none (records_fault h.zones bytes first count) _ (ap (λ (zs : List (ℕ × ℕ)). records_fault zs bytes first count) (sym same) ∙ none)

pub body_extra : (h : Hardware) (bytes : List ℕ) (first count k : ℕ) (zones : List (ℕ × ℕ)) → zones ≡ h.zones → records_fault zones bytes first count ≡ None → k ≡ record_byte first count → leb (length bytes) k ≡ false → body_fault h bytes first count ≡ Some (record { kind = Extra; at = k })
body_extra h bytes first count k zones same none k_is more =
    body_rest h bytes first count zones same none
    ∙ or_else-some (end_fault bytes (record_byte first count)) _ (record { kind = Extra; at = k })
    (ap (λ (n : ℕ). end_fault bytes n) (sym k_is) ∙ unless-false (leb (length bytes) k) Extra k more)

-- nothing follows the records
pub body_end : (h : Hardware) (bytes : List ℕ) (first count : ℕ) (zones : List (ℕ × ℕ)) (frames : Memory) → zones ≡ h.zones → records_fault zones bytes first count ≡ None → leb (length bytes) (record_byte first count) ≡ true → frames ≡ contents bytes first count (top h.zones) → body_fault h bytes first count ≡ table_fault (tables_fault h frames)
body_end h bytes first count zones frames same none over is =
    body_rest h bytes first count zones same none
    ∙ or_else-none (end_fault bytes (record_byte first count)) _ (unless-true (leb (length bytes) (record_byte first count)) Extra (record_byte first count) over)
    ∙ ap (λ (m : Memory). table_fault (tables_fault h m)) (sym is)

-- whether a byte more was there, so far it was read
pub one_more : (bytes : List ℕ) (k : ℕ) (b : Bool) (left : Option (List ℕ)) → b ≡ false → IsReadTo bytes (cond b k (k + 1)) left → IsReadTo bytes (k + 1) left
one_more bytes k b left e h = subst (λ (x : Bool). IsReadTo bytes (cond x k (k + 1)) left) e h

pub at_end : (bytes : List ℕ) (k : ℕ) (b : Bool) (left : Option (List ℕ)) → b ≡ true → b ≡ leb (length bytes) k → IsReadTo bytes (cond b k (k + 1)) left → IsReadTo bytes (length bytes) left
at_end bytes k b left e is h =
    let read : IsReadTo bytes k left = subst (λ (x : Bool). IsReadTo bytes (cond x k (k + 1)) left) e h in
    let within = read.within in
    let most : length bytes ≤ k = leb-true (length bytes) k (sym is ∙ e) in
    let same : k ≡ length bytes = omega (arith, within, most) in
    subst (λ (n : ℕ). IsReadTo bytes n left) same read
