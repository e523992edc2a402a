-- What stops a resume after block(0) is none of the replies Loading, Resumed and Compressed, and none of those of a hibernation's steps.
use Rattle.std.proofs.Common.{◌≡◌, ℕ, ◌+◌, ◌-◌, ◌*◌, ◌%◌, ◌&&◌, ◌||◌, is_none, Bool, true, false, not, cond, eqb, ltb, leb, zero, suc, List, [], ◌∷◌, length, map, min, Option, Some, None, unwrap_or, refl, sym, ap, ◌∙◌, nat_eq}
use Rattle.std.specs.List.{range_with_len}
use Rattle.std.specs.Cmp.Lexicographic.{pointwise}
use Rattle.std.proofs.lemmas.Bool.{false≢true}
use Rattle.definitions.specs.Disk as disk
use Rattle.definitions.specs.InfoPage.{mismatch}
use Rattle.definitions.specs.NumberPages.{meta_of, end_value}
use Rattle.definitions.specs.SwapHeader.{flags_of, hw_sig_of, sig_of, image_signature}
use Rattle.definitions.specs.declared.info.Field.{Field}
use Rattle.plain_machine.specs.Machine.{Hardware, Memory, is_valid, valid_count, tables_fault}
use Rattle.plain_machine.specs.Chain.{header_of, or_else, first_some, is_at_fault, map_block, entry_block, block_fault}
use Rattle.plain_machine.specs.Chain.{map_fault}
use Rattle.plain_machine.specs.Loader.{left_free, need}
use Rattle.plain_machine.specs.Trace.{Place, map_at, page_at, place, place_count, is_set, first_map, info_in, format_in, meta_in, d_in, number_in, number_word, are_bad_counts, identity_cause, memory_cause, counts_cause, info_cause, number_cause, end_cause, listed_cause, numbers_cause, room_cause, place_cause, read_cause, want_cause, next_cause, cause_at, header_cause, taken_back_cause, tables_cause}
use Rattle.plain_machine.specs.UsableArea.{dump_area_fault}
use Rattle.plain_machine.specs.declared.event.Loader.{Loader}
use Rattle.plain_machine.specs.declared.event.IdentCheck.{IdentCheck}
use Rattle.plain_machine.specs.declared.event.IdentCheck.TheVariants.{Compare, Skip}
use Rattle.plain_machine.specs.declared.reply.Reply.{Reply}
use Rattle.plain_machine.specs.declared.reply.Reply.TheVariants as reply

abbrev pub is_no_stop : Reply → Bool
is_no_stop (reply.Loading k) = true
is_no_stop (reply.Resumed n) = true
is_no_stop (reply.Compressed flags) = true
is_no_stop (reply.More k of) = true
is_no_stop (reply.Undo call k) = true
is_no_stop r = false

abbrev is_loading : Reply → Bool
is_loading (reply.Loading k) = true
is_loading r = false

-- there is no cause, or the cause is none of these replies
abbrev pub Stops : Option Reply → Type 0
Stops cause = goes_on cause ≡ false where
  goes_on : Option Reply → Bool
  goes_on None = false
  goes_on (Some r) = is_no_stop r

pub stops_else : (o p : Option Reply) → Stops o → Stops p → Stops (or_else o p)
stops_else None p first second = second
stops_else (Some r) p first second = first

stops_cond : (b : Bool) (o p : Option Reply) → Stops o → Stops p → Stops (cond b o p)
stops_cond true o p first second = first
stops_cond false o p first second = second

stops_first : (f : ℕ → Option Reply) (xs : List ℕ) → ((x : ℕ) → Stops (f x)) → Stops (first_some (map f xs))
stops_first f [] each = refl
stops_first f (x ∷ xs) each = stops_else (f x) (first_some (map f xs)) (each x) (stops_first f xs each)

-- The chain.

stops_block : (h : Hardware) (v : disk.DiskImage) (x : ℕ) → Stops (block_fault h v x)
stops_block h v x = stops_cond (is_at_fault h v x) (Some (reply.BadBlock x)) None refl refl

stops_map : (h : Hardware) (v : disk.DiskImage) (b j : ℕ) → Stops (map_fault h v b j)
stops_map h v b zero = stops_cond (eqb b 0) (Some reply.NoChain) (block_fault h v b) refl (stops_block h v b)
stops_map h v b (suc j) =
    stops_cond (eqb (map_block v b (suc j)) 0) (Some (reply.ChainEnds (suc j))) (block_fault h v (map_block v b (suc j))) refl (stops_block h v (map_block v b (suc j)))

stops_place : (h : Hardware) (v : disk.DiskImage) (here : Place) → Stops (place_cause h v here)
stops_place h v (map_at j) = stops_map h v (first_map h v) j
stops_place h v (page_at k) = stops_block h v (entry_block v (first_map h v) k)

stops_next : (h : Hardware) (v : disk.DiskImage) (t : ℕ) → Stops (next_cause h v t)
stops_next h v t = stops_cond (ltb (t + 1) (place_count (info_in h v).pages)) (place_cause h v (place (t + 1))) None (stops_place h v (place (t + 1))) refl

-- The first page.

abbrev mismatch_cause : Option Field → Option Reply
mismatch_cause o = elim o as (λ x. Option Reply) [ None ↦ None | Some field ↦ Some (reply.Mismatch field) ]

stops_mismatch : (o : Option Field) → Stops (mismatch_cause o)
stops_mismatch None = refl
stops_mismatch (Some field) = refl

stops_identity : (h : Hardware) (v : disk.DiskImage) (check : IdentCheck) → Stops (identity_cause h v check)
stops_identity h v Compare = stops_mismatch (mismatch (info_in h v).ident h.ident)
stops_identity h v Skip = refl

stops_memory : (h : Hardware) (v : disk.DiskImage) → Stops (memory_cause h v)
stops_memory h v = stops_cond (eqb (info_in h v).physpages (valid_count h)) None (Some (reply.MemorySize (info_in h v).physpages (valid_count h))) refl refl

stops_counts : (h : Hardware) (v : disk.DiskImage) → Stops (counts_cause h v)
stops_counts h v =
    stops_cond (are_bad_counts (format_in h v) (valid_count h) (info_in h v).image_pages (info_in h v).pages)
    (Some (reply.BadCounts (info_in h v).image_pages (info_in h v).pages)) None refl refl

stops_info : (h : Hardware) (v : disk.DiskImage) (check : IdentCheck) → Stops (info_cause h v check)
stops_info h v check =
    stops_else (identity_cause h v check) (or_else (memory_cause h v) (counts_cause h v)) (stops_identity h v check)
    (stops_else (memory_cause h v) (counts_cause h v) (stops_memory h v) (stops_counts h v))

-- The number pages.

stops_number : (h : Hardware) (v : disk.DiskImage) (j : ℕ) → Stops (number_cause h v j)
stops_number h v j =
    let out_of_order : Option Reply = cond (ltb 0 j && leb (number_in h v j) (number_in h v (j - 1))) (Some (reply.PfnOrder (number_in h v (j - 1)) (number_in h v j))) None in
    stops_cond (not (is_valid h (number_in h v j))) (Some (reply.BadPfn (number_in h v j))) out_of_order refl
    (stops_cond (ltb 0 j && leb (number_in h v j) (number_in h v (j - 1))) (Some (reply.PfnOrder (number_in h v (j - 1)) (number_in h v j))) None refl refl)

stops_end : (h : Hardware) (v : disk.DiskImage) (n : ℕ) → Stops (end_cause h v n)
stops_end h v n = stops_cond (eqb (n % 512) 0 || eqb (number_word h v n) end_value) None (Some (reply.PfnEnd (number_word h v n))) refl refl

stops_listed : (h : Hardware) (v : disk.DiskImage) → Stops (listed_cause h v)
stops_listed h v =
    stops_cond (eqb (info_in h v).pages (d_in h v + meta_in h v + 1)) None (Some (reply.BadCounts (info_in h v).image_pages (info_in h v).pages)) refl refl

stops_numbers : (h : Hardware) (v : disk.DiskImage) (q : ℕ) → Stops (numbers_cause h v q)
stops_numbers h v q =
    let n = (info_in h v).image_pages in
    let listed = range_with_len (512 * q) (min 512 (n - 512 * q)) in
    let first = first_some (map (number_cause h v) listed) in
    let behind = or_else (end_cause h v n) (listed_cause h v) in
    let each = stops_first (number_cause h v) listed (stops_number h v) in
    stops_cond (eqb (q + 1) (meta_of n)) (or_else first behind) first
    (stops_else first behind each (stops_else (end_cause h v n) (listed_cause h v) (stops_end h v n) (stops_listed h v))) each

stops_read : (h : Hardware) (v : disk.DiskImage) (check : IdentCheck) (here : Place) → Stops (read_cause h v check here)
stops_read h v check (map_at j) = refl
stops_read h v check (page_at zero) = stops_info h v check
stops_read h v check (page_at (suc q)) = stops_cond (ltb q (meta_in h v)) (numbers_cause h v q) None (stops_numbers h v q) refl

-- The loader's room.

stops_room : (h : Hardware) (dump : Memory) (v : disk.DiskImage) (loader : Loader) → Stops (room_cause h dump v loader)
stops_room h dump v loader =
    let have = length (left_free h dump loader) in
    stops_cond (ltb have (need (d_in h v))) (Some (reply.TooFewLoaderFrames have (need (d_in h v)))) None refl refl

stops_want : (h : Hardware) (dump : Memory) (v : disk.DiskImage) (loader : Loader) (here : Place) → Stops (want_cause h dump v loader here)
stops_want h dump v loader (map_at j) = refl
stops_want h dump v loader (page_at k) = stops_cond (eqb k (meta_in h v)) (room_cause h dump v loader) None (stops_room h dump v loader) refl

pub stops_cause : (h : Hardware) (dump : Memory) (v : disk.DiskImage) (loader : Loader) (check : IdentCheck) (t : ℕ) → Stops (cause_at h dump v loader check t)
stops_cause h dump v loader check t =
    let want = want_cause h dump v loader (place t) in
    stops_else (read_cause h v check (place t)) (or_else want (next_cause h v t)) (stops_read h v check (place t)) (stops_else want (next_cause h v t) (stops_want h dump v loader (place t)) (stops_next h v t))

-- The restored tables.

abbrev table_reply : Option ℕ → Option Reply
table_reply o = elim o as (λ x. Option Reply) [ None ↦ None | Some f ↦ Some (reply.BadTables f) ]

stops_fault : (o : Option ℕ) → Stops (table_reply o)
stops_fault None = refl
stops_fault (Some f) = refl

pub stops_tables : (h : Hardware) (v : disk.DiskImage) (m : Memory) → Stops (tables_cause h v m)
stops_tables h v m = stops_fault (or_else (tables_fault h m) (cond (is_none (dump_area_fault h v m)) None (Some h.slot_table)))

-- Block(0).

-- the header's causes aren't Loading
header_passed_by : (b c : Bool) (flags : ℕ) → unwrap_or (cond b (Some reply.NoImage) (cond c (Some (reply.Compressed flags)) None)) (reply.Loading 2) ≡ reply.Loading 2 → cond b (Some reply.NoImage) (cond c (Some (reply.Compressed flags)) None) ≡ None
header_passed_by true c flags e = absurd (false≢true (ap is_loading e))
header_passed_by false true flags e = absurd (false≢true (ap is_loading e))
header_passed_by false false flags e = refl

pub header_passed : (h : Hardware) (v : disk.DiskImage) → unwrap_or (header_cause h v) (reply.Loading 2) ≡ reply.Loading 2 → header_cause h v ≡ None
header_passed h v =
    header_passed_by (not (pointwise nat_eq (sig_of (header_of h v)) image_signature)) (not (is_set (flags_of (header_of h v)) 2)) (flags_of (header_of h v))

pub stops_taken_back : (h : Hardware) (v : disk.DiskImage) → Stops (taken_back_cause h v)
stops_taken_back h v =
    let header = header_of h v in
    stops_cond (is_set (flags_of header) 8 && not (eqb (hw_sig_of header) h.hw_sig)) (Some (reply.HwMismatch (hw_sig_of header) h.hw_sig)) (map_fault h v (first_map h v) 0) refl
    (stops_map h v (first_map h v) 0)

-- A step whose reply is one of those that never stop a resume had no cause.
pub none_passed : (cause : Option Reply) (past r : Reply) → Stops cause → is_no_stop r ≡ true → unwrap_or cause past ≡ r → cause ≡ None
none_passed None past r stops passes answer = refl
none_passed (Some x) past r stops passes answer = absurd (false≢true (sym stops ∙ ap is_no_stop answer ∙ passes))

pub none_stopped : (cause : Option Reply) (past : Reply) (n : ℕ) → Stops cause → unwrap_or cause past ≡ reply.Loading n → cause ≡ None
none_stopped cause past n stops answer = none_passed cause past (reply.Loading n) stops refl answer
