-- The rows of each request of a task.
use Rattle.std.proofs.Common.{◌≡◌, ℕ, ◌*◌, ◌^◌, ◌<◌, ◌≤◌, ◌⊎◌, inl, inr, Bool, true, false, not, List, [], length, Some, None, refl, sym, ap, ◌∙◌, arith, ap₂, ◌&&◌, ◌||◌, nat_lt, nat_le, eqb, set, subst}
use Rattle.std.proofs.lemmas.Bool.{eqb-true, le-leb}
use Rattle.std.proofs.lemmas.List.{length-replicate}
use Rattle.std.specs.List.{Contains}
use Rattle.definitions.specs.Bytes.{IsPage, zero_page}
use Rattle.definitions.specs.Zones.{numbers, top}
use Rattle.definitions.specs.Tables.{frame, with_entry, page_flags, owner_of, is_free}
use Rattle.definitions.proofs.ZoneNumbers.{below_top}
use Rattle.plain_machine.specs.Machine.{Hardware, Memory, IsHardware, IsTableFrame, is_valid, is_well_formed, frame_entry}
use Rattle.plain_machine.specs.State.{on, Running}
use Rattle.plain_machine.specs.Chain.{or_else}
use Rattle.plain_machine.specs.Machine.{IsTask}
use Rattle.plain_machine.specs.Refusals.{refused_if, op_refusal}
use Rattle.plain_machine.specs.Shows.{seen_frames}
use Rattle.plain_machine.specs.Step.{requested}
use Rattle.plain_machine.specs.declared.event.TaskOp.{TaskOp}
use Rattle.plain_machine.specs.declared.event.TaskOp.TheVariants as op
use Rattle.plain_machine.specs.declared.reply.Reply.{Reply}
use Rattle.plain_machine.specs.declared.reply.Reply.TheVariants as reply
use Rattle.plain_machine.proofs.SameMemory.{table_frame_used, frame-set_both, slot_entry-set_other, slot_entry-frame_entry_set}
use Rattle.plain_machine.proofs.Seen.{seen_set, length-seen}
use Rattle.machine.specs.Running.{AreReserved}
use Rattle.machine.specs.TaskRow.{HasFrameRow, own_refusal}
use Rattle.machine.proofs.Rows.{Mirrors, mirrors_page, mirrors_entry, mirrors-frame_entry, mirrors-frame, row_refused, row_done, own_shown, owned_is_own}

-- Claiming.

claim_test : (h : Hardware) (t p : ℕ) (frames : Memory) (a : Running) (b : Bool) → IsHardware h → Mirrors h frames a.memory → Contains (numbers h.zones) p → is_valid h p ≡ true → eqb (frame_entry h frames p) 1 ≡ b →
    op_refusal h a t (op.Claim p) ≡ refused_if (not b) reply.NotFree
claim_test h t p frames a b hw mirrors in' valid free =
    ap (λ (v : Bool). or_else (refused_if (not v) reply.NoFrame) (refused_if (not (eqb (frame_entry h a.memory p) 1)) reply.NotFree)) valid
    ∙ ap (λ (v : Bool). refused_if (not v) reply.NotFree) (ap (λ (entry : ℕ). eqb entry 1) (mirrors-frame_entry h frames a.memory p hw mirrors in') ∙ free)

pub claim_no_frame : (h : Hardware) (t p : ℕ) (frames : Memory) → length frames ≡ top h.zones → is_valid h p ≡ false → HasFrameRow h t (op.Claim p) frames frames reply.NoFrame
claim_no_frame h t p frames size invalid =
    row_refused h t (op.Claim p) frames reply.NoFrame size
    (λ a mirrors. ap (λ (b : Bool). or_else (refused_if (not b) reply.NoFrame) (refused_if (not (eqb (frame_entry h a.memory p) 1)) reply.NotFree)) invalid)

pub claim_not_free : (h : Hardware) (t p : ℕ) (frames : Memory) → IsHardware h → length frames ≡ top h.zones → Contains (numbers h.zones) p → is_valid h p ≡ true → eqb (frame_entry h frames p) 1 ≡ false → HasFrameRow h t (op.Claim p) frames frames reply.NotFree
claim_not_free h t p frames hw size in' valid taken =
    row_refused h t (op.Claim p) frames reply.NotFree size (λ a mirrors. claim_test h t p frames a false hw mirrors in' valid taken)

pub well_formed_by : (entry flags owner : ℕ) → page_flags entry ≡ flags → owner_of entry ≡ owner → owner ≤ 64 → (flags ≡ 0) ⊎ (flags ≡ 64) → is_well_formed entry ≡ true
well_formed_by entry flags owner f o few which =
    let tests : ℕ → ℕ → Bool = λ g w. nat_lt g 128 && nat_le w 64 && (not (is_free g) || (eqb entry 1)) && ((eqb g 0) || (eqb g 64) || (eqb w 0)) in
    let small : nat_le owner 64 ≡ true = le-leb owner 64 few in
    ap₂ tests f o
    ∙ elim which [
      | inl e ↦ ap (λ (g : ℕ). tests g owner) e ∙ ap (λ (b : Bool). true && b && true && true) small
      | inr e ↦ ap (λ (g : ℕ). tests g owner) e ∙ ap (λ (b : Bool). true && b && true && true) small
    ]

page_of_zeros : IsPage zero_page
unfolding zero_page
page_of_zeros = length-replicate {A = ℕ} 4096 0

pub claim_done : (h : Hardware) (t p : ℕ) (frames : Memory) → IsHardware h → IsTask t → length frames ≡ top h.zones → AreReserved h frames → Contains (numbers h.zones) p → is_valid h p ≡ true → eqb (frame_entry h frames p) 1 ≡ true →
    HasFrameRow h t (op.Claim p) frames (with_entry (set frames p zero_page) h.frame_table p (65536 * t)) reply.Done
claim_done h t p frames hw task size reserved in' valid free =
    let free_apart : IsTableFrame h p → ⊥ = λ of. (reserved p of).1 (eqb-true (frame_entry h frames p) 1 free) in
    let next : Memory → Memory = λ m. with_entry (set m p zero_page) h.frame_table p (65536 * t) in
    let some = task.some in
    let few = task.few in
    let well : is_well_formed (65536 * t) ≡ true = well_formed_by (65536 * t) 0 t (omega arith) (omega arith) few (inl refl) in
    let is_one : (m : Memory) → Mirrors h frames m → frame_entry h m p ≡ 1 = λ m mirrors. mirrors-frame_entry h frames m p hw mirrors in' ∙ eqb-true (frame_entry h frames p) 1 free in
    row_done h t (op.Claim p) frames (next frames) reply.Done next size
    (λ a mirrors. (claim_test h t p frames a true hw mirrors in' valid free, (0, omega arith, refl)))
    (λ m mirrors.
    let apart : IsTableFrame h p → ⊥ = λ of. table_frame_used h m p mirrors.fits of (is_one m mirrors) in
    let zeroed = mirrors_page h frames m p zero_page hw mirrors in' apart page_of_zeros in
    let lt = below_top h.zones p hw.zones.apart in' in
    let size_m = mirrors.fits.size in
    let size_n = length-seen h frames in
    let equal : frame (seen_frames h (set frames p zero_page)) p ≡ frame (set m p zero_page) p =
    ap (λ (n : Memory). frame n p) (seen_set h frames p zero_page (λ of. apart (inr of)))
    ∙ frame-set_both m (seen_frames h frames) p p zero_page (omega arith) (omega arith) (inl refl) in
    mirrors_entry h (set frames p zero_page) (set m p zero_page) p (65536 * t) hw zeroed in' apart well (omega arith) (λ other. inr equal))
    (λ s within. slot_entry-frame_entry_set h (set frames p zero_page) p s (65536 * t) hw in' within ∙ slot_entry-set_other h frames p s zero_page (λ of. free_apart (inr of)) within)

-- What needs a page frame of the task's own.

-- refused if the page frame isn't the task's own
pub own_refused : (h : Hardware) (t p : ℕ) (o : TaskOp) (frames : Memory) (r : Reply) → IsHardware h → length frames ≡ top h.zones → ((a : Running) → op_refusal h a t o ≡ own_refusal h a.memory t p) → own_refusal h frames t p ≡ Some r → HasFrameRow h t o frames frames r
own_refused h t p o frames r hw size asks refused =
    row_refused h t o frames r size (λ a mirrors. asks a ∙ own_shown h frames a.memory t p hw mirrors ∙ refused)

-- the page frame's entry is set
pub own_entry_set : (h : Hardware) (t p v : ℕ) (o : TaskOp) (frames : Memory) → IsHardware h → IsTask t → length frames ≡ top h.zones → Contains (numbers h.zones) p → owner_of (frame_entry h frames p) ≡ t → is_well_formed v ≡ true → v < 2 ^ 32 →
    own_refusal h frames t p ≡ None → ((a : Running) → op_refusal h a t o ≡ own_refusal h a.memory t p) →
    ((a : Running) → Contains (requested h a t o) (reply.Done, on (record a { memory = with_entry a.memory h.frame_table p v }))) →
    HasFrameRow h t o frames (with_entry frames h.frame_table p v) reply.Done
own_entry_set h t p v o frames hw task size in' owner well small accepted asks done =
    row_done h t o frames (with_entry frames h.frame_table p v) reply.Done (λ m. with_entry m h.frame_table p v) size
    (λ a mirrors. (asks a ∙ own_shown h frames a.memory t p hw mirrors ∙ accepted, done a))
    (λ m mirrors.
    let own = owned_is_own h m t p mirrors.fits (ap owner_of (mirrors-frame_entry h frames m p hw mirrors in') ∙ owner) task.some in
    mirrors_entry h frames m p v hw mirrors in' own.0 well small (λ other. inl own.1))
    (λ s within. slot_entry-frame_entry_set h frames p s v hw in' within)

-- no page frame of a task's own is a table's
pub owned_apart : (h : Hardware) (m : Memory) (t p : ℕ) → AreReserved h m → owner_of (frame_entry h m p) ≡ t → 1 ≤ t → IsTableFrame h p → ⊥
owned_apart h m t p reserved owner some of = let none = (reserved p of).0 in omega arith

-- the page frame's page is set, to one made of what it was
pub own_page_set : (h : Hardware) (t p : ℕ) (o : TaskOp) (frames : Memory) (change : List ℕ → List ℕ) → IsHardware h → IsTask t → length frames ≡ top h.zones → AreReserved h frames → Contains (numbers h.zones) p → owner_of (frame_entry h frames p) ≡ t → ((page : List ℕ) → IsPage page → IsPage (change page)) →
    own_refusal h frames t p ≡ None → ((a : Running) → op_refusal h a t o ≡ own_refusal h a.memory t p) →
    ((a : Running) → Contains (requested h a t o) (reply.Done, on (record a { memory = set a.memory p (change (frame a.memory p)) }))) →
    HasFrameRow h t o frames (set frames p (change (frame frames p))) reply.Done
own_page_set h t p o frames change hw task size reserved in' owner keeps accepted asks done =
    row_done h t o frames (set frames p (change (frame frames p))) reply.Done (λ m. set m p (change (frame m p))) size
    (λ a mirrors. (asks a ∙ own_shown h frames a.memory t p hw mirrors ∙ accepted, done a))
    (λ m mirrors.
    let own = owned_is_own h m t p mirrors.fits (ap owner_of (mirrors-frame_entry h frames m p hw mirrors in') ∙ owner) task.some in
    let apart = own.0 in
    let equal = mirrors-frame h frames m p hw mirrors in' apart own.1 in
    let x = change (frame frames p) in
    let low = below_top h.zones p hw.zones.apart in' in
    let size_m = mirrors.fits.size in
    let page : IsPage x = keeps (frame frames p) (subst IsPage equal (mirrors.fits.pages p [] (omega arith))) in
    let same_change : set m p (change (frame m p)) ≡ set m p x = ap (λ (y : List ℕ). set m p (change y)) equal in
    subst (Mirrors h (set frames p x)) (sym same_change) (mirrors_page h frames m p x hw mirrors in' apart page))
    (λ s within. slot_entry-set_other h frames p s (change (frame frames p)) (λ of. owned_apart h frames t p reserved owner task.some (inr of)) within)

-- the page frame's page is told
pub own_page_told : (h : Hardware) (t p : ℕ) (o : TaskOp) (frames : Memory) (tell : List ℕ → Reply) → IsHardware h → IsTask t → length frames ≡ top h.zones → Contains (numbers h.zones) p → owner_of (frame_entry h frames p) ≡ t →
    own_refusal h frames t p ≡ None → ((a : Running) → op_refusal h a t o ≡ own_refusal h a.memory t p) →
    ((a : Running) → Contains (requested h a t o) (tell (frame a.memory p), on a)) → HasFrameRow h t o frames frames (tell (frame frames p))
own_page_told h t p o frames tell hw task size in' owner accepted asks done =
    row_done h t o frames frames (tell (frame frames p)) (λ m. m) size
    (λ a mirrors.
    let own = owned_is_own h a.memory t p mirrors.fits (ap owner_of (mirrors-frame_entry h frames a.memory p hw mirrors in') ∙ owner) task.some in
    let equal = mirrors-frame h frames a.memory p hw mirrors in' own.0 own.1 in
    (asks a ∙ own_shown h frames a.memory t p hw mirrors ∙ accepted, subst (λ (page : List ℕ). Contains (requested h a t o) (tell page, on a)) equal (done a)))
    (λ m mirrors. mirrors) (λ s within. refl)
