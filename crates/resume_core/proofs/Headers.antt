-- What a header block says of an image.
use Rattle.std.proofs.Common.{◌≡◌, ◌≤◌, ◌<◌, ◌⊎◌, inl, inr, ℕ, Bool, true, false, cond, not, List, Option, Some, None, refl, sym, ap, ◌∙◌, arith, nat_lt, nat_eq, eqb, ltb, ◌&&◌}
use Rattle.std.specs.Cmp.Lexicographic.{pointwise, same_text}
use Rattle.std.proofs.lemmas.Bool.{lt-ltb}
use Rattle.std.proofs.lemmas.Bool.Decides.{eqb_tells}
use Rattle.std.proofs.lemmas.Option.{same_Some, none-some}
use Rattle.definitions.specs.Bytes.{zero_page}
use Rattle.definitions.specs.Disk as disk
use Rattle.definitions.specs.SwapHeader.{sig_of, flags_of, hw_sig_of, image_signature, old_signature, area_signature, version_of, last_page_of, bad_count_of, bad_pages_of, first_outside}
use Rattle.image_format.specs.AreaKind.{area_kind, version_1_kind, area_with, mark_of}
use Rattle.image_format.specs.declared.signature.area.Mark.{Mark}
use Rattle.image_format.specs.declared.signature.area.AreaKind.{AreaKind}
use Rattle.image_format.specs.declared.signature.area.AreaKind.TheVariants.{Image, Old, Other}
use Rattle.plain_machine.specs.Machine.{Hardware, block_of_slot}
use Rattle.plain_machine.specs.Chain.{header_of, blocks_of, map_fault}
use Rattle.plain_machine.specs.Trace.{header_cause, taken_back_cause, first_map, is_set}
use Rattle.plain_machine.specs.declared.reply.Reply.{Reply}
use Rattle.plain_machine.specs.declared.reply.Reply.TheVariants as reply
use Rattle.protocol_laws.proofs.HeaderBack.{marked_on_disk}
use Rattle.resume_core.specs.Header.{header_fault, mark_in, signature_fault}

pub is_set_by : (n : ℕ) → (n ≡ 0 → ⊥) → not (eqb n 0) ≡ true
is_set_by n ne = let clear : eqb n 0 ≡ false = elim (eqb_tells n 0) [ inl t ↦ absurd (ne t.1) | inr f ↦ f.0 ] in ap not clear

with_no_mark : (page : List ℕ) (o : Option ℕ) → mark_in (area_with page o) ≡ None
with_no_mark page None = refl
with_no_mark page (Some slot) = refl

tests_no_mark : (b c d : Bool) (x y z w : AreaKind) → mark_in x ≡ None → mark_in y ≡ None → mark_in z ≡ None → mark_in w ≡ None → mark_in (cond b (cond c x (cond d y z)) w) ≡ None
tests_no_mark true true d x y z w ex ey ez ew = ex
tests_no_mark true false true x y z w ex ey ez ew = ey
tests_no_mark true false false x y z w ex ey ez ew = ez
tests_no_mark false c d x y z w ex ey ez ew = ew

version_no_mark : (page : List ℕ) → mark_in (version_1_kind page) ≡ None
version_no_mark page =
    tests_no_mark (eqb (version_of page) 1) (nat_lt 630 (bad_count_of page)) (eqb (last_page_of page) 0) _ _ (area_with page (first_outside (last_page_of page) (bad_pages_of page (bad_count_of page)))) _ refl refl
    (with_no_mark page (first_outside (last_page_of page) (bad_pages_of page (bad_count_of page)))) refl

first_test : (b c d : Bool) (x y z w : AreaKind) (m : Mark) → mark_in x ≡ Some m → mark_in y ≡ None → mark_in z ≡ None → mark_in w ≡ None → mark_in (cond b x (cond c y (cond d z w))) ≡ cond b (Some m) None
first_test true c d x y z w m ex ey ez ew = ex
first_test false true d x y z w m ex ey ez ew = ey
first_test false false true x y z w m ex ey ez ew = ez
first_test false false false x y z w m ex ey ez ew = ew

abbrev pub signed : List ℕ → Bool
signed page = pointwise nat_eq (sig_of page) image_signature

mark_by_signature : (page : List ℕ) → mark_in (area_kind page) ≡ cond (signed page) (Some (mark_of page)) None
unfolding area_kind
mark_by_signature page =
    first_test (signed page) (pointwise nat_eq (sig_of page) old_signature) (pointwise nat_eq (sig_of page) area_signature) (Image (mark_of page)) Old (version_1_kind page) (Other (sig_of page)) (mark_of page) refl refl (version_no_mark page) refl

some_test : (b : Bool) (x m : Mark) → cond b (Some x) None ≡ Some m → (b ≡ true) × (m ≡ x)
some_test true x m e = (refl, sym (same_Some x m e))
some_test false x m e = absurd (none-some m e)

none_test : (b : Bool) (x : Mark) → cond b (Some x) None ≡ None → b ≡ false
none_test true x e = absurd (none-some x (sym e))
none_test false x e = refl

pub found_mark : (page : List ℕ) (o : Option Mark) (m : Mark) → o ≡ mark_in (area_kind page) → o ≡ Some m → (signed page ≡ true) × (m ≡ mark_of page)
found_mark page o m is some = some_test (signed page) (mark_of page) m (sym (mark_by_signature page) ∙ sym is ∙ some)

pub no_mark : (page : List ℕ) (o : Option Mark) → o ≡ mark_in (area_kind page) → o ≡ None → header_fault page ≡ Some reply.NoImage
no_mark page o is none =
    let e = none_test (signed page) (mark_of page) (sym (mark_by_signature page) ∙ sym is ∙ none) in
    ap (λ (b : Bool). cond (not b) (Some reply.NoImage) (cond (not (is_set (flags_of page) 2)) (Some (reply.Compressed (flags_of page))) None)) e

fault_of_flags : (page : List ℕ) → signed page ≡ true → header_fault page ≡ cond (not (is_set (flags_of page) 2)) (Some (reply.Compressed (flags_of page))) None
fault_of_flags page e = ap (λ (b : Bool). cond (not b) (Some reply.NoImage) (cond (not (is_set (flags_of page) 2)) (Some (reply.Compressed (flags_of page))) None)) e

pub no_fault : (page : List ℕ) (o : Option Mark) (m : Mark) → o ≡ mark_in (area_kind page) → o ≡ Some m → is_set m.flags 2 ≡ true → (header_fault page ≡ None) × (m ≡ mark_of page)
no_fault page o m is some set =
    let found = found_mark page o m is some in
    let flag : is_set (flags_of page) 2 ≡ true = ap (λ (x : Mark). is_set x.flags 2) (sym found.1) ∙ set in
    (fault_of_flags page found.0 ∙ ap (λ (b : Bool). cond (not b) (Some (reply.Compressed (flags_of page))) None) flag, found.1)

pub compressed : (page : List ℕ) (o : Option Mark) (m : Mark) → o ≡ mark_in (area_kind page) → o ≡ Some m → is_set m.flags 2 ≡ false → header_fault page ≡ Some (reply.Compressed m.flags)
compressed page o m is some clear =
    let found = found_mark page o m is some in
    let flag : is_set (flags_of page) 2 ≡ false = ap (λ (x : Mark). is_set x.flags 2) (sym found.1) ∙ clear in
    fault_of_flags page found.0 ∙ ap (λ (b : Bool). cond (not b) (Some (reply.Compressed (flags_of page))) None) flag ∙ ap (λ (x : Mark). Some (reply.Compressed x.flags)) (sym found.1)

-- a header beyond the disk's blocks has no mark
pub none_beyond : (h : Hardware) (v : disk.DiskImage) → blocks_of v ≤ block_of_slot h 0 → header_cause h v ≡ Some reply.NoImage
none_beyond h v beyond = by_test (signed (header_of h v)) refl where
  by_test : (b : Bool) → signed (header_of h v) ≡ b → header_cause h v ≡ Some reply.NoImage
  by_test true e =
      let at = marked_on_disk h v (same_text (sig_of (header_of h v)) image_signature (sym e)) in
      absurd (omega arith)
  by_test false e = ap (λ (b : Bool). cond (not b) (Some reply.NoImage) (cond (not (is_set (flags_of (header_of h v)) 2)) (Some (reply.Compressed (flags_of (header_of h v)))) None)) e

pub read_below : (h : Hardware) (v : disk.DiskImage) (blocks : ℕ) → blocks_of v ≡ blocks → block_of_slot h 0 < blocks → disk.block v (block_of_slot h 0) ≡ header_of h v
read_below h v blocks count lt =
    let test : ltb (block_of_slot h 0) (blocks_of v) ≡ true = lt-ltb (block_of_slot h 0) (blocks_of v) (omega arith) in
    sym (ap (λ (b : Bool). cond b (disk.block v (block_of_slot h 0)) zero_page) test)

-- The signature, and the first map.

cond_none : (b : Bool) (r : Reply) → cond b (Some r) None ≡ None → b ≡ false
cond_none true r e = absurd (none-some r (sym e))
cond_none false r e = refl

cond_some : (b : Bool) (r s : Reply) → cond b (Some r) None ≡ Some s → (b ≡ true) × (r ≡ s)
cond_some true r s e = (refl, same_Some r s e)
cond_some false r s e = absurd (none-some s e)

abbrev test_of : Hardware → Mark → Bool
test_of h mark = is_set mark.flags 8 && not (eqb mark.hw_sig h.hw_sig)

abbrev cause_by : Hardware → disk.DiskImage → Bool → Option Reply
cause_by h v b = cond b (Some (reply.HwMismatch (hw_sig_of (header_of h v)) h.hw_sig)) (map_fault h v (first_map h v) 0)

pub cause_of_map : (h : Hardware) (v : disk.DiskImage) (m : Mark) → m ≡ mark_of (header_of h v) → signature_fault h m ≡ None → taken_back_cause h v ≡ map_fault h v m.first 0
cause_of_map h v m is none =
    let b = cond_none (test_of h m) (reply.HwMismatch m.hw_sig h.hw_sig) none in
    ap (λ (x : Mark). cause_by h v (test_of h x)) (sym is) ∙ ap (cause_by h v) b ∙ ap (λ (x : Mark). map_fault h v x.first 0) (sym is)

pub cause_of_signature : (h : Hardware) (v : disk.DiskImage) (m : Mark) (why : Reply) → m ≡ mark_of (header_of h v) → signature_fault h m ≡ Some why → taken_back_cause h v ≡ Some why
cause_of_signature h v m why is some =
    let b = cond_some (test_of h m) (reply.HwMismatch m.hw_sig h.hw_sig) why some in
    ap (λ (x : Mark). cause_by h v (test_of h x)) (sym is) ∙ ap (cause_by h v) b.0 ∙ ap (λ (x : Mark). Some (reply.HwMismatch x.hw_sig h.hw_sig)) (sym is) ∙ ap (λ (r : Reply). Some r) b.1

which_fault : (b d : Bool) (flags : ℕ) (why : Reply) → cond b (Some reply.NoImage) (cond d (Some (reply.Compressed flags)) None) ≡ Some why → (why ≡ reply.NoImage) ⊎ ((n : ℕ) × (why ≡ reply.Compressed n))
which_fault true d flags why e = inl (sym (same_Some reply.NoImage why e))
which_fault false true flags why e = inr (flags, sym (same_Some (reply.Compressed flags) why e))
which_fault false false flags why e = absurd (none-some why e)

pub header_faults : (header : List ℕ) (why : Reply) → header_fault header ≡ Some why → (why ≡ reply.NoImage) ⊎ ((n : ℕ) × (why ≡ reply.Compressed n))
header_faults header why e = which_fault (not (signed header)) (not (is_set (flags_of header) 2)) (flags_of header) why e
