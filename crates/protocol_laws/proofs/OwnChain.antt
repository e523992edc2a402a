-- A resume over a disk that holds an own image: the header and the chain have no cause to stop it.
use Rattle.std.proofs.Common.{◌≡◌, ℕ, ◌+◌, ◌-◌, ◌*◌, ◌/◌, ◌%◌, ◌<◌, ◌≤◌, ◌⊎◌, inl, inr, zero, suc, zero-add, Bool, true, false, cond, eqb, not, ◌&&◌, bit_and, nat_eq, List, [], ◌∷◌, length, get_or, map, Option, Some, None, Result, Ok, Err, refl, sym, ap, ◌∙◌, arith}
use Rattle.std.specs.List.{range_with_len}
use Rattle.std.specs.Cmp.Lexicographic.{pointwise, other_text}
use Rattle.std.proofs.lemmas.Bool.{cases_eq, cases_Bool, eq-eqb, ne_eqb, cond-true, cond-false, false≢true}
use Rattle.std.proofs.lemmas.List.FromFn.{length-map-range_with_len, get_or-map-range_with_len}
use Rattle.definitions.specs.Disk as disk
use Rattle.definitions.specs.SwapHeader.{flags_of, hw_sig_of, sig_of, image_signature}
use Rattle.plain_machine.specs.Machine.{Hardware}
use Rattle.plain_machine.specs.Chain.{header_of, Holds, chain, map_fault, entry_fault, place_fault, or_else, first_some}
use Rattle.plain_machine.specs.Chain.{ok_unless, entry_block}
use Rattle.plain_machine.specs.Image.{Image, pages_of, maps_read}
use Rattle.plain_machine.specs.Stands.{IsOwn}
use Rattle.plain_machine.specs.Trace.{is_set, first_map, header_cause, taken_back_cause, Place, map_at, page_at, place, place_cause}
use Rattle.plain_machine.specs.declared.reply.Reply.{Reply}
use Rattle.plain_machine.specs.declared.reply.Reply.TheVariants as reply
use Rattle.protocol_laws.proofs.Beginning.{first_none, second_none}

true_of : (b : Bool) → (b ≡ false → ⊥) → b ≡ true
true_of true never = refl
true_of false never = absurd (never refl)

not_true : (b : Bool) → b ≡ true → not b ≡ false
not_true true e = refl
not_true false e = absurd (false≢true e)

-- the mark is there, and the image isn't compressed
pub no_header_cause : (h : Hardware) (v : disk.DiskImage) (i : Image) → Holds h v i → header_cause h v ≡ None
no_header_cause h v i holds =
    let signed : pointwise nat_eq (sig_of (header_of h v)) image_signature ≡ true = true_of (pointwise nat_eq (sig_of (header_of h v)) image_signature) (λ e. other_text (sig_of (header_of h v)) image_signature (sym e) holds.marked) in
    let plain : is_set (flags_of (header_of h v)) 2 ≡ true = ap not (ne_eqb (bit_and (flags_of (header_of h v)) 2) 0 holds.uncompressed) in
    cond-false (not (pointwise nat_eq (sig_of (header_of h v)) image_signature)) (Some reply.NoImage) (cond (not (is_set (flags_of (header_of h v)) 2)) (Some (reply.Compressed (flags_of (header_of h v)))) None) (not_true (pointwise nat_eq (sig_of (header_of h v)) image_signature) signed)
    ∙ cond-false (not (is_set (flags_of (header_of h v)) 2)) (Some (reply.Compressed (flags_of (header_of h v)))) None (not_true (is_set (flags_of (header_of h v)) 2) plain)

-- The chain.

whole_chain : {A : Type 0} (o : Option Reply) (x y : A) → ok_unless o x ≡ Ok y → o ≡ None
whole_chain None x y e = refl
whole_chain (Some r) x y e = absurd (never_ok r y e) where
  is_ok_value : {A E : Type 0} → Result A E → Bool
  is_ok_value (Ok z) = true
  is_ok_value (Err z) = false

  never_ok : {A : Type 0} (r : Reply) (y : A) → Err r ≡ Ok y → ⊥
  never_ok r y e = false≢true (ap is_ok_value e)

first_some_each : (faults : List (Option Reply)) (k : ℕ) → first_some faults ≡ None → k < length faults → get_or faults k None ≡ None
first_some_each [] k none lt = absurd (omega arith)
first_some_each (x ∷ faults) zero none lt = first_none x (first_some faults) none
first_some_each (x ∷ faults) (suc k) none lt = first_some_each faults k (second_none x (first_some faults) none) (omega arith)

no_place_fault : (h : Hardware) (v : disk.DiskImage) (i : Image) (k : ℕ) → Holds h v i → k < pages_of i → place_fault h v (first_map h v) k ≡ None
unfolding chain
no_place_fault h v i k holds lt =
    let b = first_map h v in
    let faults = map (place_fault h v b) (range_with_len 0 (pages_of i)) in
    let none = whole_chain (first_some faults) (map (entry_block v b) (range_with_len 0 (pages_of i))) holds.whole.0 holds.whole.1 in
    let size = length-map-range_with_len (place_fault h v b) 0 (pages_of i) in
    sym (get_or-map-range_with_len (place_fault h v b) 0 (pages_of i) k k None lt (zero-add k)) ∙ first_some_each faults k none (omega arith)

no_entry_fault : (h : Hardware) (v : disk.DiskImage) (i : Image) (k : ℕ) → Holds h v i → k < pages_of i → entry_fault h v (first_map h v) k ≡ None
no_entry_fault h v i k holds lt =
    let fault = no_place_fault h v i k holds lt in
    let b = first_map h v in
    elim (cases_Bool (eqb (k % 511) 0)) [
      | inl first ↦ second_none (map_fault h v b (k / 511)) (entry_fault h v b k) (sym (cond-true (eqb (k % 511) 0) (or_else (map_fault h v b (k / 511)) (entry_fault h v b k)) (entry_fault h v b k) first) ∙ fault)
      | inr later ↦ sym (cond-false (eqb (k % 511) 0) (or_else (map_fault h v b (k / 511)) (entry_fault h v b k)) (entry_fault h v b k) later) ∙ fault
    ]

pub no_map_fault : (h : Hardware) (v : disk.DiskImage) (i : Image) (j : ℕ) → Holds h v i → 511 * j < pages_of i → map_fault h v (first_map h v) j ≡ None
no_map_fault h v i j holds lt =
    let k = 511 * j in
    let b = first_map h v in
    let fault = no_place_fault h v i k holds lt in
    let first : k % 511 ≡ 0 = omega arith in
    let map_is : k / 511 ≡ j = omega arith in
    ap (map_fault h v b) (sym map_is)
    ∙ first_none (map_fault h v b (k / 511)) (entry_fault h v b k) (sym (cond-true (eqb (k % 511) 0) (or_else (map_fault h v b (k / 511)) (entry_fault h v b k)) (entry_fault h v b k) (eq-eqb (k % 511) 0 first)) ∙ fault)

-- no place's block is at fault
either_cause : (h : Hardware) (v : disk.DiskImage) (b : Bool) (x y : Place) → place_cause h v x ≡ None → place_cause h v y ≡ None → place_cause h v (cond b x y) ≡ None
either_cause h v true x y e f = e
either_cause h v false x y e f = f

map_within : (t pages : ℕ) → t % 512 ≡ 0 → t < maps_read pages + pages → 1 ≤ pages → 511 * (t / 512) < pages
map_within t pages first lt some = omega arith

page_within : (t pages : ℕ) → (t % 512 ≡ 0 → ⊥) → t < maps_read pages + pages → 1 ≤ pages → t - t / 512 - 1 < pages
page_within t pages later lt some = omega arith

pub no_place_cause : (h : Hardware) (v : disk.DiskImage) (i : Image) (t : ℕ) → Holds h v i → t < maps_read (pages_of i) + pages_of i → place_cause h v (place t) ≡ None
no_place_cause h v i t holds lt = elim (cases_eq (t % 512) 0) [
  | inl first ↦
      ap (place_cause h v) (cond-true (eqb (t % 512) 0) (map_at (t / 512)) (page_at (t - t / 512 - 1)) (eq-eqb (t % 512) 0 first))
      ∙ no_map_fault h v i (t / 512) holds (map_within t (pages_of i) first lt (omega arith))
  | inr later ↦
      ap (place_cause h v) (cond-false (eqb (t % 512) 0) (map_at (t / 512)) (page_at (t - t / 512 - 1)) (ne_eqb (t % 512) 0 later))
      ∙ no_entry_fault h v i (t - t / 512 - 1) holds (page_within t (pages_of i) later lt (omega arith))
]

-- the machine's signature is the image's, or the image has none
no_signature_cause : (b c : Bool) (x y : Option Reply) → (b ≡ false) ⊎ (c ≡ true) → y ≡ None → cond (b && not c) x y ≡ None
no_signature_cause true true x y e none = none
no_signature_cause true false x y e none = elim e [ inl f ↦ absurd (false≢true (sym f)) | inr f ↦ absurd (false≢true f) ]
no_signature_cause false c x y e none = none

pub no_taken_back_cause : (h : Hardware) (v : disk.DiskImage) (i : Image) → Holds h v i → IsOwn h v i → taken_back_cause h v ≡ None
no_taken_back_cause h v i holds own =
    no_signature_cause (is_set (flags_of (header_of h v)) 8) (eqb (hw_sig_of (header_of h v)) h.hw_sig) (Some (reply.HwMismatch (hw_sig_of (header_of h v)) h.hw_sig)) (map_fault h v (first_map h v) 0)
    (elim (own.signature holds.marked) [
      | inl clear ↦ inl (ap not (eq-eqb (bit_and (flags_of (header_of h v)) 8) 0 clear))
      | inr same ↦ inr (eq-eqb (hw_sig_of (header_of h v)) h.hw_sig same)
    ])
    (no_map_fault h v i 0 holds (omega arith))
