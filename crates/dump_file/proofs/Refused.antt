-- A part of a dump is read to its end, or refused.
use Rattle.std.proofs.Common.{◌≡◌, ℕ, ◌+◌, ◌≤◌, Bool, true, false, eqb, cond, List, drop, Option, Some, None, Result, Ok, Err, refl, sym, ap, ◌∙◌, inl, inr, arith, subst}
use Rattle.std.specs.Prelude.{IsOk}
use Rattle.std.proofs.lemmas.Bool.{cases_eq, eq-eqb, ne_eqb}
use Rattle.dump_file.specs.Dump.{told_by, IsReadToFault}
use Rattle.dump_file.specs.Fields.{count_byte, extent_byte, extent_count, is_second, map_byte}
use Rattle.dump_file.specs.Reading.{IsRead, IsReadTo}
use Rattle.dump_file.specs.declared.dump.DumpFault.{DumpFault}
use Rattle.dump_file.specs.declared.dump.DumpKind.TheVariants.{Extent, Zone}
use Rattle.dump_file.specs.declared.dump.DumpStop.{DumpStop}
use Rattle.dump_file.specs.declared.dump.DumpStop.TheVariants.{Fault}
use Rattle.dump_file.proofs.Chains.{named, named_is, passed}

-- nothing was read yet
pub at_begin : (bytes : List ℕ) (left : Option (List ℕ)) → left ≡ Some bytes → IsReadTo bytes 0 left
at_begin bytes left is = record { within = omega arith; rest = is }

-- the same place under another name
pub at_place : (bytes : List ℕ) (k n : ℕ) (left : Option (List ℕ)) → k ≡ n → IsReadTo bytes k left → IsReadTo bytes n left
at_place bytes k n left same h = subst (λ (i : ℕ). IsReadTo bytes i left) same h

not_ok : {A : Type 0} (r : DumpStop) (res : Result A DumpStop) → res ≡ Err r → IsOk res → false ≡ true
not_ok {A} r res is ok = subst (λ (x : Result A DumpStop). IsOk x) is ok

-- nothing is wrong with the part
pub goes_on : {A : Type 0} (bytes : List ℕ) (wrong : Option DumpFault) (end : ℕ) (x : A) (left : Option (List ℕ)) → wrong ≡ None → IsReadTo bytes end left → IsRead bytes wrong end (Ok x) left
goes_on bytes wrong end x left none read = record {
  refused = λ f e. absurd (cc);
  right = λ ok. (none, read);
}

-- the part is at fault, which is told as soon as it was read up to byte k
pub refuses : {A : Type 0} (bytes : List ℕ) (wrong : Option DumpFault) (end k : ℕ) (g : DumpFault) (r : DumpStop) (left : Option (List ℕ)) → r ≡ Fault g → wrong ≡ Some g → told_by bytes g.kind g.at ≡ k → IsReadTo bytes k left → IsRead {A = A} bytes wrong end (Err r) left
refuses {A} bytes wrong end k g r left is first told read = record {
  refused = λ f e.
      let same : Some g ≡ Some f = named {A = A} r g f is e in
      let there : IsReadToFault bytes g left = read.rest ∙ ap (λ (n : ℕ). Some (drop n bytes)) (sym told) in
      (first ∙ same, subst (λ (x : DumpFault). IsReadToFault bytes x left) (named_is g f same) there);
  right = λ ok. absurd (let no : false ≡ true = not_ok {A = A} r (Err r) refl ok in grind (arith, no));
}

-- a part within it is refused, or its source failed
pub stops : {A B : Type 0} {bytes : List ℕ} {a : Option DumpFault} {k : ℕ} {r : DumpStop} {left : Option (List ℕ)} (wrong : Option DumpFault) (end : ℕ) (res : Result B DumpStop) → IsRead {A = A} bytes a k (Err r) left → res ≡ Err r → ((f : DumpFault) → a ≡ Some f → wrong ≡ Some f) → IsRead bytes wrong end res left
stops {A} {B} {bytes} {a} {k} {r} {left} wrong end res h is first = record {
  refused = λ f e. let why = h.refused f (passed {A = B} {B = A} r f (sym is ∙ e)) in (first f why.0, why.1);
  right = λ ok. absurd (let no : false ≡ true = not_ok r res is ok in grind (arith, no));
}

-- a stop that names no fault
pub not_told : {A : Type 0} (bytes : List ℕ) (wrong : Option DumpFault) (end : ℕ) (res : Result A DumpStop) (r : DumpStop) (left : Option (List ℕ)) → res ≡ Err r → ((f : DumpFault) → res ≡ Err (Fault f) → ⊥) → IsRead bytes wrong end res left
not_told {A} bytes wrong end res r left is never = record {
  refused = λ f e. absurd (never f e);
  right = λ ok. absurd (let no : false ≡ true = not_ok r res is ok in grind (arith, no));
}

-- the fault of a part, otherwise named
pub same_fault : {A : Type 0} {bytes : List ℕ} {a : Option DumpFault} {k : ℕ} {res : Result A DumpStop} {left : Option (List ℕ)} (b : Option DumpFault) → a ≡ b → IsRead bytes a k res left → IsRead bytes b k res left
same_fault {A} {bytes} {a} {k} {res} {left} b is h = subst (λ (o : Option DumpFault). IsRead bytes o k res left) is h

-- How many bytes show a fault.

pub told_zone : (bytes : List ℕ) (k : ℕ) → 424 ≤ k → told_by bytes Zone k ≡ k + 8
told_zone bytes k le = ap (λ (b : Bool). cond b 32 (k + 8)) (ne_eqb k 28 (λ e. absurd (omega (arith, e, le))))

pub told_extent : (bytes : List ℕ) (k : ℕ) → map_byte bytes + 8 ≤ k → told_by bytes Extent k ≡ k + 12
told_extent bytes k le =
    ap (λ (b : Bool). cond b (count_byte bytes) (cond (eqb k (map_byte bytes + 4)) (k + 4) (k + 12))) (ne_eqb k (map_byte bytes) (λ e. absurd (omega (arith, e, le))))
    ∙ ap (λ (b : Bool). cond b (k + 4) (k + 12)) (ne_eqb k (map_byte bytes + 4) (λ e. absurd (omega (arith, e, le))))

pub told_extents : (bytes : List ℕ) (k : ℕ) → k ≡ map_byte bytes + 4 → told_by bytes Extent k ≡ k + 4
told_extents bytes k is =
    ap (λ (b : Bool). cond b (count_byte bytes) (cond (eqb k (map_byte bytes + 4)) (k + 4) (k + 12))) (ne_eqb k (map_byte bytes) (λ e. absurd (omega (arith, e, is))))
    ∙ ap (λ (b : Bool). cond b (k + 4) (k + 12)) (eq-eqb k (map_byte bytes + 4) is)

pub told_offset : (bytes : List ℕ) (k : ℕ) → k ≡ map_byte bytes → told_by bytes Extent k ≡ count_byte bytes
told_offset bytes k is =
    ap (λ (b : Bool). cond b (count_byte bytes) (cond (eqb k (map_byte bytes + 4)) (k + 4) (k + 12))) (eq-eqb k (map_byte bytes) is)

-- Where the number of records stands.

pub count_second : (bytes : List ℕ) → is_second bytes ≡ true → count_byte bytes ≡ extent_byte bytes (extent_count bytes)
count_second bytes e = ap (λ (b : Bool). cond b (extent_byte bytes (extent_count bytes)) (map_byte bytes)) e

pub count_first : (bytes : List ℕ) → is_second bytes ≡ false → count_byte bytes ≡ map_byte bytes
count_first bytes e = ap (λ (b : Bool). cond b (extent_byte bytes (extent_count bytes)) (map_byte bytes)) e

-- where one byte was asked for: it was taken, or there was none
pub asked : (bytes : List ℕ) (k count : ℕ) (left : Option (List ℕ)) → count ≤ 1 → IsReadTo bytes (k + count) left → IsReadTo bytes (cond (eqb count 0) k (k + 1)) left
asked bytes k count left few read =
    elim (cases_eq count 0) [
      | inl none ↦
          let place : k + count ≡ k = omega (arith, none) in
          subst (λ (n : ℕ). IsReadTo bytes n left) (place ∙ ap (λ b. cond b k (k + 1)) (sym (eq-eqb count 0 none))) read
      | inr some ↦
          let one : count ≡ 1 = omega (arith, some, few) in
          let place : k + count ≡ k + 1 = omega (arith, one) in
          subst (λ (n : ℕ). IsReadTo bytes n left) (place ∙ ap (λ b. cond b k (k + 1)) (sym (ne_eqb count 0 some))) read
    ]
