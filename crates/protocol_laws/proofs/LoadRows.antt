-- Whole rows of a resume.
use Rattle.protocol_laws.proofs.Leaving.{leaves_loading}
use Rattle.protocol_laws.proofs.Unwritten.{block_same, block_synced, unwritten_header}
use Rattle.std.proofs.Common.{◌≡◌, ◌<◌, ◌≤◌, ◌-◌, ◌/◌, ℕ, ◌+◌, inl, inr, true, List, [], ◌∷◌, take, Option, Some, None, unwrap_or, refl, sym, ap, ap₂, ◌∙◌, subst, arith, Contains}
use Rattle.std.proofs.lemmas.Option.{same_Some, none-some}
use Rattle.definitions.specs.Disk as disk
use Rattle.definitions.specs.NumberPages.{meta_of}
use Rattle.definitions.specs.SwapHeader.{taken_back, sig_of, image_signature}
use Rattle.std.specs.Cmp.Lexicographic.{other_text}
use Rattle.std.specs.List.{zip}
use Rattle.std.proofs.lemmas.Bool.{cond-true, true_from_ne_false}
use Rattle.definitions.proofs.DiskLaws.{IsImage-as_it_reads, IsImage-after_sync}
use Rattle.plain_machine.specs.Machine.{Hardware, Memory, IsHardware, IsSameMemory, Fits, block_of_slot}
use Rattle.plain_machine.specs.Chain.{header_of, Marked, is_marked_disk, Holds}
use Rattle.plain_machine.specs.Image.{Image, n_of, with_data, SlotPages}
use Rattle.plain_machine.specs.Loader.{restored}
use Rattle.plain_machine.specs.Shows.{WorldView, runs, ShowsRunning, seen_frames}
use Rattle.plain_machine.specs.Stands.{Stands, IsHeld, IsOwn, NamesOnly, data_read_in}
use Rattle.plain_machine.specs.State.{State, Running, off, on, loading, Held, nothing, sure, maybe, own, other, perhaps, Load, Found, not_yet, found_own, found_other, held_while_loading}
use Rattle.plain_machine.specs.Step.{Outcome, Step, own_step, other_step as other_step_of, resumed, no_flights, no_slots, load_fault, other_state}
use Rattle.plain_machine.specs.Trace.{info_in, meta_in, data_frames, data_pages, place_count, cause_at, header_cause, taken_back_cause, restored_in, slots_in, tables_cause}
use Rattle.plain_machine.specs.declared.event.Actor.TheVariants as actor
use Rattle.plain_machine.specs.declared.event.Event.TheVariants as event
use Rattle.plain_machine.specs.declared.event.Loader.{Loader}
use Rattle.plain_machine.specs.declared.event.Loader.TheVariants as loader
use Rattle.plain_machine.specs.declared.event.Ranges.{Ranges}
use Rattle.plain_machine.specs.declared.reply.Left.TheVariants.{Same, Gone, Unsure}
use Rattle.plain_machine.specs.declared.reply.Reply.{Reply}
use Rattle.plain_machine.specs.declared.reply.Reply.TheVariants as reply
use Rattle.image_laws.specs.ImageBlocks.{Tries}
use Rattle.protocol_laws.specs.Loads.{ShowsLoad}
use Rattle.protocol_laws.specs.LoadRows.{IsFoundOn, IsFoundIn, with_finding, Goes, ShowsRest, HaveGoneOn, running_with, IsStop, IsBeforeRead, BackSyncFaultRow, BackSyncRow, BackSyncStopRow, CauseStops, FindCompressedRow, FindFaultRow, FindNoneRow, LoadSyncFaultRow, LoadSyncRow, ReadFaultRow, ReadResumedOffRow, ReadResumedRow, ReadRow, ReadStopRow, ShowsNoneRead, TablesStop, TakeBackFaultRow, TakeBackRow}
use Rattle.protocol_laws.specs.Resuming.{IsHeldOwn, with_found}
use Rattle.protocol_laws.specs.ResumingOther.{IsHeldOther, with_found_other}
use Rattle.protocol_laws.specs.OwnTrace.{own_reply}
use Rattle.protocol_laws.specs.Rows.{IsSameArea, KeepsHeaderOrTakesBack}
use Rattle.protocol_laws.specs.TraceAt.{reply_past, reply_at}
use Rattle.protocol_laws.proofs.AreaKept.{kept_by_sync, kept_by_taking_back}
use Rattle.protocol_laws.proofs.Finding.{load_syncs, finds_none, finds_own}
use Rattle.protocol_laws.proofs.HeaderBack.{is_before}
use Rattle.protocol_laws.proofs.HeaderLeft.{header_same, header_synced, header_written}
use Rattle.protocol_laws.proofs.LoadReplies.{differ, no_header, traced_at, own_within, own_answers, no_mark, a_mark, stop_late, cause_stops, stop_kind, tables_fit}
use Rattle.protocol_laws.proofs.LoadSteps.{IsThere, there_own, there_other, by_core, fault_step, late_fault, own_goes, own_outcome, other_goes, stopped_off, find_goes, finds_traced}
use Rattle.protocol_laws.proofs.Other.{finds_other, stops_at_other, takes_other_back, take_other_back_fails}
use Rattle.protocol_laws.proofs.OtherResumed.{resumes_other}
use Rattle.protocol_laws.proofs.OwnCauses.{IsOwnDisk, own_sayable}
use Rattle.protocol_laws.proofs.OwnChain.{no_header_cause, no_taken_back_cause}
use Rattle.protocol_laws.proofs.Resumed.{load_stops, load_fails, resumes}
use Rattle.protocol_laws.proofs.Same.{same_area, header_kept, by_sync}
use Rattle.protocol_laws.proofs.Stopping.{stops_cause, stops_tables, stops_taken_back}
use Rattle.protocol_laws.proofs.TakingBack.{takes_back, take_back_fails, unmarked_synced, page_read}
use Rattle.protocol_laws.proofs.TraceAt.{past_more}
use Rattle.protocol_laws.proofs.Tracing.{restored_is, few_reply}

abbrev running_of : Memory → SlotPages → Running
running_of m slots = record { memory = m; slots = slots; flights = no_flights; unusable = None; held = nothing }

-- The first sync, and the read of block(0).

pub load_sync_row : LoadSyncRow
load_sync_row h shown shown' c c' blocks load whole stands syncs shows = record {
  step = by_core h (disk.as_it_reads c) load 0 (reply.Loading 1) (loading load 1) refl (1, omega arith, refl);
  stands = load_syncs h shown shown' c c' blocks load whole stands syncs shows;
  area = kept_by_sync h c c' syncs;
  unwritten = λ b not. block_synced blocks b c c' whole syncs;
  header = header_synced h blocks c c' whole syncs;
  leaves = tt;
}

-- a call that fails before block(0) is written
early_fault : (h : Hardware) (shown shown' : WorldView) (c : disk.Content) (load : Load) (k : ℕ) (r : Reply) → IsThere h load load.found k → held_while_loading load k ≡ load.held → load_fault load k ≡ (r, off load.held None) → Stands h shown c (loading load k) → ShowsRest shown' →
    Goes h shown' r c c (loading load k) (off load.held None)
early_fault h shown shown' c load k r there held fault stands rest = record {
  step = fault_step h (disk.as_it_reads c) load k r (off load.held None) there fault;
  stands = load_fails h shown shown' c load k held stands rest.0 rest.1;
  area = same_area h (disk.as_it_reads c);
  unwritten = λ b not. block_same b _;
  header = header_same h c;
  leaves = leaves_loading h r load k c;
}

pub load_sync_fault_row : LoadSyncFaultRow
load_sync_fault_row h shown shown' c load = early_fault h shown shown' c load 0 (reply.SyncFault Same) refl refl refl

pub find_fault_row : FindFaultRow
find_fault_row h shown shown' c load = early_fault h shown shown' c load 1 (reply.ReadFault Same) refl refl refl

not_no_image : (flags : ℕ) → Some (reply.Compressed flags) ≡ Some reply.NoImage → ⊥
not_no_image flags e = differ (reply.Compressed flags) reply.NoImage (same_Some (reply.Compressed flags) reply.NoImage e) (λ x. absurd (omega arith))

header_reply : (h : Hardware) (v : disk.DiskImage) (r : Reply) → header_cause h v ≡ Some r → unwrap_or (header_cause h v) (reply.Loading 2) ≡ r
header_reply h v r says = ap (λ (o : Option Reply). unwrap_or o (reply.Loading 2)) says

none_step : (h : Hardware) (c : disk.Content) (v : disk.DiskImage) (load : Load) (held : Held) → load.held ≡ held → IsHeld h c held → disk.IsImage c v → header_cause h v ≡ Some reply.NoImage → Step h v (loading load 1) (event.Step actor.Core) reply.NoImage (off nothing None)
none_step h c v load nothing is there here says = find_goes h v load nothing reply.NoImage (off nothing None) is (0, omega arith, refl)
none_step h c v load (sure (own i)) is there here says = absurd (no_mark h v says (there v here).0.marked)
none_step h c v load (sure other) is there here says = absurd (no_mark h v says (there v here))
none_step h c v load (maybe (own i)) is there here says = find_goes h v load (maybe (own i)) reply.NoImage (off nothing None) is (1, omega arith, refl)
none_step h c v load (maybe other) is there here says =
    find_goes h v load (maybe other) reply.NoImage (off nothing None) is (finds_traced h v load reply.NoImage (off nothing None) (header_reply h v reply.NoImage says) refl)

pub find_none_row : FindNoneRow
find_none_row h shown shown' c blocks load whole stands says rest =
    let v = disk.as_it_reads c in
    record {
      step = none_step h c v load load.held refl stands.parts.held (IsImage-as_it_reads blocks c whole) says;
      stands = finds_none h shown shown' c blocks load whole stands (no_mark h v says) rest.0 rest.1;
      area = same_area h v;
      unwritten = λ b not. block_same b _;
      header = header_same h c;
      leaves = tt;
    }

-- The image is another's where it is compressed.

compressed_other : (h : Hardware) (c : disk.Content) (v : disk.DiskImage) (held : Held) (flags : ℕ) → IsHeld h c held → disk.IsImage c v → header_cause h v ≡ Some (reply.Compressed flags) → IsHeldOther held
compressed_other h c v nothing flags there here says = absurd (there v here (a_mark h v (Some (reply.Compressed flags)) says (not_no_image flags)))
compressed_other h c v (sure (own i)) flags there here says = absurd (none-some (reply.Compressed flags) (sym (no_header_cause h v i (there v here).0) ∙ says))
compressed_other h c v (sure other) flags there here says = inl refl
compressed_other h c v (maybe (own i)) flags there here says = elim (there v here).0 [
  | inl never ↦ absurd (never (a_mark h v (Some (reply.Compressed flags)) says (not_no_image flags)))
  | inr holds ↦ absurd (none-some (reply.Compressed flags) (sym (no_header_cause h v i holds) ∙ says))
]
compressed_other h c v (maybe other) flags there here says = inr refl

-- the signature's test
is_signed : (h : Hardware) (v : disk.DiskImage) → Marked h v → is_marked_disk h v ≡ true
is_signed h v marked = true_from_ne_false (is_marked_disk h v) (λ e. other_text (sig_of (header_of h v)) image_signature (sym e) marked)

other_step : (h : Hardware) (v : disk.DiskImage) (load : Load) (r : Reply) (b : State) → IsHeldOther load.held → Marked h v → unwrap_or (header_cause h v) (reply.Loading 2) ≡ r → other_state h (with_found_other load v) v 1 r ≡ b → Step h v (loading load 1) (event.Step actor.Core) r b
other_step h v load r b (inl is) marked says state =
    find_goes h v load (sure other) r b is
    (subst (λ (xs : List Outcome). Contains xs (r, b)) (sym (cond-true (is_marked_disk h v) (other_step_of h (with_found_other load v) v 1) [] (is_signed h v marked))) (finds_traced h v load r b says state))
other_step h v load r b (inr is) marked says state = find_goes h v load (maybe other) r b is (finds_traced h v load r b says state)

pub find_compressed_row : FindCompressedRow
find_compressed_row h shown shown' c blocks flags load whole stands says rest =
    let v = disk.as_it_reads c in
    let held = compressed_other h c v load.held flags stands.parts.held (IsImage-as_it_reads blocks c whole) says in
    record {
      step = other_step h v load (reply.Compressed flags) (off (sure other) None) held (a_mark h v (Some (reply.Compressed flags)) says (not_no_image flags)) (header_reply h v (reply.Compressed flags) says) refl;
      stands = stops_at_other h shown shown' c blocks load whole stands held (a_mark h v (Some (reply.Compressed flags)) says (not_no_image flags)) rest.0 rest.1;
      area = same_area h v;
      unwritten = λ b not. block_same b _;
      header = header_same h c;
      leaves = tt;
    }

-- Else the image is found.

-- what a resume finds, and the row for that
abbrev Finds : Hardware → WorldView → disk.Content → Load → Type 0
Finds h shown' c load =
    (found : Found) × IsFoundIn h (with_finding load found) (disk.as_it_reads c) ×
    (ShowsLoad h shown' (with_finding load found) 2 → Goes h shown' (reply.Loading 2) c c (loading load 1) (loading (with_finding load found) 2))

finds_it_own : (h : Hardware) (shown shown' : WorldView) (c : disk.Content) (blocks : ℕ) (load : Load) (i : Image) → IsHardware h → disk.IsContent blocks c → Stands h shown c (loading load 1) → Marked h (disk.as_it_reads c) →
    shown'.header ≡ header_of h (disk.as_it_reads c) → IsHeldOwn load.held i → Holds h (disk.as_it_reads c) i → IsOwn h (disk.as_it_reads c) i → Step h (disk.as_it_reads c) (loading load 1) (event.Step actor.Core) (reply.Loading 2) (loading (with_found load i) 2) →
    Finds h shown' c load
finds_it_own h shown shown' c blocks load i hw whole stands marked header held holds is step = (
  found_own i,
  (holds, is),
  λ shows. record { step = step; stands = finds_own h shown shown' c blocks load i whole stands held marked header shows; unwritten = λ b not. block_same b _; area = same_area h (disk.as_it_reads c); leaves = tt; header = header_same h c },
)

finds_it_other : (h : Hardware) (shown shown' : WorldView) (c : disk.Content) (blocks : ℕ) (load : Load) → disk.IsContent blocks c → Stands h shown c (loading load 1) → Marked h (disk.as_it_reads c) →
    shown'.header ≡ header_of h (disk.as_it_reads c) → header_cause h (disk.as_it_reads c) ≡ None → IsHeldOther load.held → Finds h shown' c load
finds_it_other h shown shown' c blocks load whole stands marked header says held =
    let v = disk.as_it_reads c in (
      found_other v,
      refl,
      λ shows. record {
        step = other_step h v load (reply.Loading 2) (loading (with_found_other load v) 2) held marked (ap (λ (o : Option Reply). unwrap_or o (reply.Loading 2)) says) refl;
        stands = finds_other h shown shown' c blocks load whole stands held marked header shows;
        area = same_area h v;
        unwritten = λ b not. block_same b _;
        header = header_same h c;
        leaves = tt;
      },
    )

finds_held : (h : Hardware) (shown shown' : WorldView) (c : disk.Content) (blocks : ℕ) (load : Load) (held : Held) → load.held ≡ held → IsHeld h c held → IsHardware h → disk.IsContent blocks c → Stands h shown c (loading load 1) →
    Marked h (disk.as_it_reads c) → header_cause h (disk.as_it_reads c) ≡ None → shown'.header ≡ header_of h (disk.as_it_reads c) → Finds h shown' c load
finds_held h shown shown' c blocks load nothing is there hw whole stands marked says header = absurd (there (disk.as_it_reads c) (IsImage-as_it_reads blocks c whole) marked)
finds_held h shown shown' c blocks load (sure (own i)) is there hw whole stands marked says header =
    let v = disk.as_it_reads c in
    let it = there v (IsImage-as_it_reads blocks c whole) in
    finds_it_own h shown shown' c blocks load i hw whole stands marked header (inl is) it.0 it.1
    (find_goes h v load (sure (own i)) (reply.Loading 2) (loading (with_found load i) 2) is (0, omega arith, refl))
finds_held h shown shown' c blocks load (sure other) is there hw whole stands marked says header = finds_it_other h shown shown' c blocks load whole stands marked header says (inl is)
finds_held h shown shown' c blocks load (maybe (own i)) is there hw whole stands marked says header =
    let v = disk.as_it_reads c in
    let it = there v (IsImage-as_it_reads blocks c whole) in
    finds_it_own h shown shown' c blocks load i hw whole stands marked header (inr is) (elim it.0 [ inl never ↦ absurd (never marked) | inr holds ↦ holds ]) it.1
    (find_goes h v load (maybe (own i)) (reply.Loading 2) (loading (with_found load i) 2) is (0, omega arith, refl))
finds_held h shown shown' c blocks load (maybe other) is there hw whole stands marked says header = finds_it_other h shown shown' c blocks load whole stands marked header says (inr is)

pub find_row : (h : Hardware) (shown shown' : WorldView) (c : disk.Content) (blocks : ℕ) (load : Load) → IsHardware h → disk.IsContent blocks c → Stands h shown c (loading load 1) →
    header_cause h (disk.as_it_reads c) ≡ None → shown'.header ≡ header_of h (disk.as_it_reads c) → Finds h shown' c load
find_row h shown shown' c blocks load hw whole stands says header =
    finds_held h shown shown' c blocks load load.held refl stands.parts.held hw whole stands (a_mark h (disk.as_it_reads c) None says (λ e. none-some reply.NoImage e)) says header

-- A step that goes on.

own_disk : (h : Hardware) (v : disk.DiskImage) (i : Image) → IsHardware h → Holds h v i × IsOwn h v i → IsOwnDisk h v i
own_disk h v i hw is = record { hardware = hw; holds = is.0; own = is.1; sayable = own_sayable h v i hw is.1 }

own_loading : (h : Hardware) (v : disk.DiskImage) (load : Load) (i : Image) (k : ℕ) → own_reply h load i k ≡ reply.Loading (k + 1) → own_step h load i k ≡ (reply.Loading (k + 1), loading load (k + 1))
own_loading h v load i k answers = elim (own_outcome h load i k) [
  | inl few ↦ differ (few_reply h load i) (reply.Loading (k + 1)) (sym (ap (λ (o : Outcome). o.0) few) ∙ answers) (λ e. absurd (omega arith))
  | inr more ↦ elim more [
    | inl end ↦ differ (reply.Resumed (n_of i)) (reply.Loading (k + 1)) (sym (ap (λ (o : Outcome). o.0) end) ∙ answers) (λ e. absurd (omega arith))
    | inr on' ↦ on'
  ]
]

loading_step : (h : Hardware) (w v : disk.DiskImage) (load : Load) (found : Found) (k : ℕ) → IsHardware h → IsFoundOn h v found → HaveGoneOn h load v k → 2 ≤ k → k < 4 + place_count (info_in h v).pages →
    reply_at h load.dump v load.loader load.check k ≡ reply.Loading (k + 1) → Step h w (loading (with_finding load found) k) (event.Step actor.Core) (reply.Loading (k + 1)) (loading (with_finding load found) (k + 1))
loading_step h w v load not_yet k hw is gone late within says = absurd is
loading_step h w v load (found_own i) k hw is gone late within says =
    own_goes h w load i k (reply.Loading (k + 1)) (loading (with_found load i) (k + 1)) (own_within h v i k (own_disk h v i hw is) within) late
    (own_loading h v (with_found load i) i k (own_answers h v i (with_found load i) k (reply.Loading (k + 1)) (own_disk h v i hw is) gone (omega arith) within says))
loading_step h w v load (found_other u) k hw is gone late within says =
    subst (λ (x : disk.DiskImage). Step h w (loading (with_found_other load x) k) (event.Step actor.Core) (reply.Loading (k + 1)) (loading (with_found_other load x) (k + 1))) is
    (other_goes h w v load k (reply.Loading (k + 1)) (loading (with_found_other load v) (k + 1)) late (traced_at h load v k (reply.Loading (k + 1)) within gone says) refl)

-- The write of block(0) taken back.

marked_before : (h : Hardware) (shown : WorldView) (c : disk.Content) (blocks : ℕ) (load : Load) (v : disk.DiskImage) (found : Found) → disk.IsContent blocks c → Stands h shown c (loading (with_finding load found) 2) → IsFoundOn h v found → Marked h (disk.as_it_reads c)
marked_before h shown c blocks load v not_yet whole stands is = absurd is
marked_before h shown c blocks load v (found_own i) whole stands is = (stands.parts.held (disk.as_it_reads c) (IsImage-as_it_reads blocks c whole)).0.marked
marked_before h shown c blocks load v (found_other u) whole stands is = stands.parts.held (disk.as_it_reads c) (IsImage-as_it_reads blocks c whole)

back_area : (h : Hardware) (shown : WorldView) (c c' : disk.Content) (blocks : ℕ) (load : Load) (v : disk.DiskImage) → disk.IsContent blocks c → Stands h shown c (loading load 2) → IsFoundIn h load v → Tries (block_of_slot h 0) (taken_back shown.header) c c' →
    IsSameArea h (disk.as_it_reads c) (disk.as_it_reads c')
back_area h shown c c' blocks load v whole stands is tries =
    kept_by_taking_back h blocks c c' whole stands.parts.header (marked_before h shown c blocks load v load.found whole stands is)
    (subst (λ (page : List ℕ). Tries (block_of_slot h 0) (taken_back page) c c') stands.parts.before.header tries)

header_tried : (h : Hardware) (shown : WorldView) (c c' : disk.Content) (blocks : ℕ) (load : Load) (v : disk.DiskImage) → disk.IsContent blocks c → Stands h shown c (loading load 2) → IsFoundIn h load v → Tries (block_of_slot h 0) (taken_back shown.header) c c' → KeepsHeaderOrTakesBack h c c'
header_tried h shown c c' blocks load v whole stands is tries =
    header_written h shown c c' blocks (is_before h shown c blocks whole stands.parts.before.one stands.parts.before.header (marked_before h shown c blocks load v load.found whole stands is) stands.parts.header) tries

back_stands : (h : Hardware) (shown shown' : WorldView) (c c' : disk.Content) (blocks : ℕ) (load : Load) (v : disk.DiskImage) (found : Found) → IsHardware h → disk.IsContent blocks c → disk.IsContent blocks c' → Stands h shown c (loading (with_finding load found) 2) →
    IsFoundOn h v found → disk.Writes (block_of_slot h 0) (taken_back shown.header) c c' → ShowsLoad h shown' (with_finding load found) 3 → Stands h shown' c' (loading (with_finding load found) 3)
back_stands h shown shown' c c' blocks load v not_yet hw whole after stands is writes shows = absurd is
back_stands h shown shown' c c' blocks load v (found_own i) hw whole after stands is writes shows = takes_back h shown shown' c c' blocks load i hw whole after stands writes shows
back_stands h shown shown' c c' blocks load v (found_other u) hw whole after stands is writes shows = takes_other_back h shown shown' c c' blocks load u hw whole after stands writes shows

pub take_back_row : TakeBackRow
take_back_row h shown shown' c c' blocks load v hw whole after stands is gone writes shows = record {
  step = loading_step h (disk.as_it_reads c) v load load.found 2 hw is gone (omega arith) (omega arith) (past_more h load.dump v load.loader 2 (omega arith));
  stands = back_stands h shown shown' c c' blocks load v load.found hw whole after stands is writes shows;
  area = back_area h shown c c' blocks load v whole stands is (inl writes);
  unwritten = λ b not. unwritten_header h [] b c c' writes.others not;
  header = header_tried h shown c c' blocks load v whole stands is (inl writes);
  leaves = tt;
}

back_fails : (h : Hardware) (shown shown' : WorldView) (c c' : disk.Content) (blocks : ℕ) (load : Load) (v : disk.DiskImage) (found : Found) → IsHardware h → disk.IsContent blocks c → disk.IsContent blocks c' → Stands h shown c (loading (with_finding load found) 2) →
    IsFoundOn h v found → disk.FailsToWrite (block_of_slot h 0) (taken_back shown.header) c c' → ShowsRest shown' → Stands h shown' c' (off (perhaps (held_while_loading (with_finding load found) 2)) None)
back_fails h shown shown' c c' blocks load v not_yet hw whole after stands is fails rest = absurd is
back_fails h shown shown' c c' blocks load v (found_own i) hw whole after stands is fails rest = take_back_fails h shown shown' c c' blocks load i hw whole after stands fails rest.0 rest.1
back_fails h shown shown' c c' blocks load v (found_other u) hw whole after stands is fails rest = take_other_back_fails h shown shown' c c' blocks load u hw whole after stands fails rest.0 rest.1

pub take_back_fault_row : TakeBackFaultRow
take_back_fault_row h shown shown' c c' blocks load v hw whole after stands is fails rest = record {
  step = fault_step h (disk.as_it_reads c) load 2 (reply.WriteFault Unsure) (off (perhaps (held_while_loading load 2)) None) refl refl;
  stands = back_fails h shown shown' c c' blocks load v load.found hw whole after stands is fails rest;
  area = back_area h shown c c' blocks load v whole stands is (inr fails);
  unwritten = λ b not. unwritten_header h [] b c c' fails.others not;
  header = header_tried h shown c c' blocks load v whole stands is (inr fails);
  leaves = tt;
}

-- The sync after that write.

pub back_sync_row : BackSyncRow
back_sync_row h shown shown' c c' blocks load v hw whole stands is gone syncs none shows = record {
  step = loading_step h (disk.as_it_reads c) v load load.found 3 hw is gone (omega arith) (omega arith)
      (ap (λ (o : Option Reply). unwrap_or o (reply_past h load.dump v load.loader 3)) none ∙ past_more h load.dump v load.loader 3 (omega arith));
  stands = unmarked_synced h shown shown' c c' blocks load whole stands syncs shows;
  area = kept_by_sync h c c' syncs;
  unwritten = λ b not. block_synced blocks b c c' whole syncs;
  header = header_synced h blocks c c' whole syncs;
  leaves = tt;
}

-- an own image is of this hardware, and has a chain
back_stop_step : (h : Hardware) (w v : disk.DiskImage) (load : Load) (found : Found) (r : Reply) → IsFoundOn h v found → HaveGoneOn h load v 3 → taken_back_cause h v ≡ Some r → Step h w (loading (with_finding load found) 3) (event.Step actor.Core) r (off nothing None)
back_stop_step h w v load not_yet r is gone says = absurd is
back_stop_step h w v load (found_own i) r is gone says = absurd (none-some r (sym (no_taken_back_cause h v i is.0 is.1) ∙ says))
back_stop_step h w v load (found_other u) r is gone says =
    subst (λ (x : disk.DiskImage). Step h w (loading (with_found_other load x) 3) (event.Step actor.Core) r (off nothing None)) is
    (other_goes h w v load 3 r (off nothing None) (omega arith) (traced_at h load v 3 r (omega arith) gone (ap (λ (o : Option Reply). unwrap_or o (reply_past h load.dump v load.loader 3)) says))
    (stopped_off h (with_found_other load v) v 3 r (cause_stops (taken_back_cause h v) r (stops_taken_back h v) says)))

pub back_sync_stop_row : BackSyncStopRow
back_sync_stop_row h shown shown' c c' blocks load v r hw whole stands is gone syncs says rest =
    let unmarked : Marked h (disk.as_it_reads c) → ⊥ = stands.parts.before in
    record {
      step = back_stop_step h (disk.as_it_reads c) v load load.found r is gone says;
      stands = record {
        activity = rest.0;
        parts = record { memory = rest.1; held = λ w in' m. unmarked (subst (Marked h) (IsImage-after_sync c c' w syncs in') m); header = header_kept h c c' (by_sync h blocks c c' whole syncs) stands.parts.header };
      };
      area = kept_by_sync h c c' syncs;
      unwritten = λ b not. block_synced blocks b c c' whole syncs;
      header = header_synced h blocks c c' whole syncs;
      leaves = leaves_loading h r load 3 c';
    }

pub back_sync_fault_row : BackSyncFaultRow
back_sync_fault_row h shown shown' c load stands rest = record {
  step = fault_step h (disk.as_it_reads c) load 3 (reply.SyncFault Unsure) (off (perhaps (held_while_loading load 2)) None) refl refl;
  stands = record { activity = rest.0; parts = record { memory = rest.1; held = stands.parts.held; header = stands.parts.header } };
  area = same_area h (disk.as_it_reads c);
  unwritten = λ b not. block_same b _;
  header = header_same h c;
  leaves = tt;
}

-- The reads of maps and pages.

pub read_row : ReadRow
read_row h shown shown' c load v k reads says shows =
    let late = reads.late in
    record {
      step = loading_step h (disk.as_it_reads c) v load load.found k reads.hardware reads.found reads.gone_on (omega arith) reads.within says;
      stands = page_read h shown shown' c load k late reads.stands shows;
      area = same_area h (disk.as_it_reads c);
      unwritten = λ b not. block_same b _;
      header = header_same h c;
      leaves = tt;
    }

own_stops : (h : Hardware) (load : Load) (i : Image) (k : ℕ) (r : Reply) → own_reply h load i k ≡ r → IsStop r → own_step h load i k ≡ (r, off nothing None)
own_stops h load i k r answers stop = elim (own_outcome h load i k) [
  | inl few ↦ few ∙ ap (λ (x : Reply). (x, off nothing None)) (sym (ap (λ (o : Outcome). o.0) few) ∙ answers)
  | inr more ↦ elim more [
    | inl end ↦ absurd (subst IsStop (sym answers ∙ ap (λ (o : Outcome). o.0) end) stop)
    | inr on' ↦ absurd (subst IsStop (sym answers ∙ ap (λ (o : Outcome). o.0) on') stop)
  ]
]

stop_step : (h : Hardware) (w v : disk.DiskImage) (load : Load) (found : Found) (k : ℕ) (r : Reply) → IsHardware h → IsFoundOn h v found → HaveGoneOn h load v k → 4 ≤ k → k < 4 + place_count (info_in h v).pages →
    reply_at h load.dump v load.loader load.check k ≡ r → IsStop r → Step h w (loading (with_finding load found) k) (event.Step actor.Core) r (off nothing None)
stop_step h w v load not_yet k r hw is gone late within says stop = absurd is
stop_step h w v load (found_own i) k r hw is gone late within says stop =
    own_goes h w load i k r (off nothing None) (own_within h v i k (own_disk h v i hw is) within) (omega arith)
    (own_stops h (with_found load i) i k r (own_answers h v i (with_found load i) k r (own_disk h v i hw is) gone (omega arith) within says) stop)
stop_step h w v load (found_other u) k r hw is gone late within says stop =
    subst (λ (x : disk.DiskImage). Step h w (loading (with_found_other load x) k) (event.Step actor.Core) r (off nothing None)) is
    (other_goes h w v load k r (off nothing None) (omega arith) (traced_at h load v k r within gone says)
    (stopped_off h (with_found_other load v) v k r (stop_late h load.dump v load.loader load.check k r late says stop)))

pub read_stop_row : ReadStopRow
read_stop_row h shown shown' c load v k r reads says stop rest = record {
  step = stop_step h (disk.as_it_reads c) v load load.found k r reads.hardware reads.found reads.gone_on reads.late reads.within says stop;
  stands = load_stops h shown shown' c load k reads.late reads.stands rest.0 rest.1;
  area = same_area h (disk.as_it_reads c);
  unwritten = λ b not. block_same b _;
  header = header_same h c;
  leaves = leaves_loading h r load k c;
}

-- if the resume still has a place to read, there is a step
reading_there : (h : Hardware) (load : Load) (v : disk.DiskImage) (found : Found) (k : ℕ) → IsHardware h → IsFoundOn h v found → HaveGoneOn h load v k → k < 4 + place_count (info_in h v).pages → IsThere h load found k
reading_there h load v not_yet k hw is gone within = absurd is
reading_there h load v (found_own i) k hw is gone within = there_own h load i k (own_within h v i k (own_disk h v i hw is) within)
reading_there h load v (found_other u) k hw is gone within =
    subst (λ (x : disk.DiskImage). IsThere h load (found_other x) k) is
    (there_other h load v k (reply_at h load.dump v load.loader load.check k) (traced_at h load v k (reply_at h load.dump v load.loader load.check k) within gone refl))

pub read_fault_row : ReadFaultRow
read_fault_row h shown shown' c load v k reads rest = record {
  step = fault_step h (disk.as_it_reads c) load k (reply.ReadFault Gone) (off nothing None) (reading_there h load v load.found k reads.hardware reads.found reads.gone_on reads.within) (late_fault load k reads.late);
  stands = load_stops h shown shown' c load k reads.late reads.stands rest.0 rest.1;
  area = same_area h (disk.as_it_reads c);
  unwritten = λ b not. block_same b _;
  header = header_same h c;
  leaves = tt;
}

-- The end.

-- memory alone is looked at
shows_memory : (h : Hardware) (shown : WorldView) (m n : Memory) (slots slots' : SlotPages) → m ≡ n → ShowsRunning h shown (running_of m slots) → ShowsRunning h shown (running_of n slots')
shows_memory h shown m n slots slots' e shows = record {
  held = shows.held;
  unusable = shows.unusable;
  flights = shows.flights;
  same = subst (λ (x : Memory). IsSameMemory h x (seen_frames h shown.frames)) e shows.same;
  fits = subst (Fits h) e shows.fits;
}

-- the row of a resume that ends well
abbrev EndsWell : Hardware → WorldView → disk.Content → Load → disk.DiskImage → Found → ℕ → ℕ → Type 0
EndsWell h shown' c load v found k n = (slots : SlotPages) × Goes h shown' (reply.Resumed n) c c (loading (with_finding load found) k) (on (running_with h load v slots))

own_end : (h : Hardware) (load : Load) (i : Image) (k n : ℕ) → own_reply h load i k ≡ reply.Resumed n → own_step h load i k ≡ (reply.Resumed n, resumed (restored h load.dump load.loader i) i.slots load.loader)
own_end h load i k n answers = elim (own_outcome h load i k) [
  | inl few ↦ differ (few_reply h load i) (reply.Resumed n) (sym (ap (λ (o : Outcome). o.0) few) ∙ answers) (λ e. absurd (omega arith))
  | inr more ↦ elim more [
    | inl end ↦ end ∙ ap (λ (x : Reply). (x, resumed (restored h load.dump load.loader i) i.slots load.loader)) (sym (ap (λ (o : Outcome). o.0) end) ∙ answers)
    | inr on' ↦ differ (reply.Loading (k + 1)) (reply.Resumed n) (sym (ap (λ (o : Outcome). o.0) on') ∙ answers) (λ e. absurd (omega arith))
  ]
]

own_ends : (h : Hardware) (shown shown' : WorldView) (c : disk.Content) (blocks : ℕ) (load : Load) (ranges : Ranges) (v : disk.DiskImage) (i : Image) (k n : ℕ) → disk.IsContent blocks c → IsBeforeRead h shown c (with_found load i) v k → load.loader ≡ loader.Ranges ranges →
    reply_at h load.dump v load.loader load.check k ≡ reply.Resumed n → shown'.activity ≡ runs → ShowsRunning h shown' (running_with h load v no_slots) → NamesOnly h shown' [] → EndsWell h shown' c load v (found_own i) k n
own_ends h shown shown' c blocks load ranges v i k n whole reads scripted says activity shows names =
    let late = reads.late in
    let disk_is = own_disk h v i reads.hardware reads.found in
    let m = restored_in h load.dump v load.loader in
    let same = restored_is h v i load.dump load.loader disk_is in
    let state : resumed (restored h load.dump load.loader i) i.slots load.loader ≡ on (running_with h load v i.slots) =
    ap₂ (λ (x : Memory) (l : Loader). resumed x i.slots l) (sym same) scripted in
    let end = own_end h (with_found load i) i k n (own_answers h v i (with_found load i) k (reply.Resumed n) disk_is reads.gone_on (omega arith) reads.within says) in (
      i.slots,
      record {
        step = own_goes h (disk.as_it_reads c) load i k (reply.Resumed n) (on (running_with h load v i.slots)) (own_within h v i k disk_is reads.within) (omega arith) (end ∙ ap (λ (b : State). (reply.Resumed n, b)) state);
        stands = subst (λ (x : Memory). Stands h shown' c (on (running_of x i.slots))) (sym same)
            (resumes h shown shown' c blocks load i k reads.hardware whole late reads.stands activity (shows_memory h shown' m (restored h load.dump load.loader i) no_slots i.slots same shows) names);
        area = same_area h (disk.as_it_reads c);
        unwritten = λ b not. block_same b _;
        header = header_same h c;
        leaves = tt;
      },
    )

other_ends : (h : Hardware) (shown shown' : WorldView) (c : disk.Content) (blocks : ℕ) (load : Load) (ranges : Ranges) (v : disk.DiskImage) (k n : ℕ) → disk.IsContent blocks c → IsBeforeRead h shown c (with_found_other load v) v k → load.loader ≡ loader.Ranges ranges →
    reply_at h load.dump v load.loader load.check k ≡ reply.Resumed n → shown'.activity ≡ runs → ShowsRunning h shown' (running_with h load v no_slots) → NamesOnly h shown' [] → EndsWell h shown' c load v (found_other v) k n
other_ends h shown shown' c blocks load ranges v k n whole reads scripted says activity shows names =
    let late = reads.late in
    let m = restored_in h load.dump v load.loader in
    let slots = slots_in h v m in
    let marked = a_mark h v None (no_header h load v k (omega arith) reads.gone_on) (λ e. none-some reply.NoImage e) in
    let fit : tables_cause h v m ≡ None =
    subst (λ (l : Loader). tables_cause h v (restored_in h load.dump v l) ≡ None) (sym scripted)
    (tables_fit h load.dump v ranges load.check k n late (subst (λ (l : Loader). reply_at h load.dump v l load.check k ≡ reply.Resumed n) scripted says)) in (
      slots,
      record {
        step = other_goes h (disk.as_it_reads c) v load k (reply.Resumed n) (on (running_with h load v slots)) (omega arith) (traced_at h load v k (reply.Resumed n) reads.within reads.gone_on says) (ap (resumed m slots) scripted);
        stands = resumes_other h shown shown' c blocks load v k reads.hardware whole late reads.stands marked fit activity (shows_memory h shown' m m no_slots slots refl shows) names;
        area = same_area h (disk.as_it_reads c);
        unwritten = λ b not. block_same b _;
        header = header_same h c;
        leaves = tt;
      },
    )

ends_well : (h : Hardware) (shown shown' : WorldView) (c : disk.Content) (blocks : ℕ) (load : Load) (ranges : Ranges) (v : disk.DiskImage) (found : Found) (k n : ℕ) → disk.IsContent blocks c → IsBeforeRead h shown c (with_finding load found) v k → load.loader ≡ loader.Ranges ranges →
    reply_at h load.dump v load.loader load.check k ≡ reply.Resumed n → shown'.activity ≡ runs → ShowsRunning h shown' (running_with h load v no_slots) → NamesOnly h shown' [] → EndsWell h shown' c load v found k n
ends_well h shown shown' c blocks load ranges v not_yet k n whole reads scripted says activity shows names = absurd reads.found
ends_well h shown shown' c blocks load ranges v (found_own i) k n whole reads scripted says activity shows names = own_ends h shown shown' c blocks load ranges v i k n whole reads scripted says activity shows names
ends_well h shown shown' c blocks load ranges v (found_other u) k n whole reads scripted says activity shows names =
    subst (λ (x : disk.DiskImage). IsBeforeRead h shown c (with_found_other load x) v k → EndsWell h shown' c load v (found_other x) k n) reads.found
    (λ here. other_ends h shown shown' c blocks load ranges v k n whole here scripted says activity shows names) reads

pub read_resumed_row : ReadResumedRow
read_resumed_row h shown shown' c blocks load ranges v k n = ends_well h shown shown' c blocks load ranges v load.found k n

off_step : (h : Hardware) (w v : disk.DiskImage) (load : Load) (found : Found) (k n : ℕ) → IsHardware h → IsFoundOn h v found → HaveGoneOn h load v k → 2 ≤ k → k < 4 + place_count (info_in h v).pages → load.loader ≡ loader.Table →
    reply_at h load.dump v load.loader load.check k ≡ reply.Resumed n → Step h w (loading (with_finding load found) k) (event.Step actor.Core) (reply.Resumed n) (off nothing None)
off_step h w v load not_yet k n hw is gone late within from says = absurd is
off_step h w v load (found_own i) k n hw is gone late within from says =
    let end = own_end h (with_found load i) i k n (own_answers h v i (with_found load i) k (reply.Resumed n) (own_disk h v i hw is) gone (omega arith) within says) in
    own_goes h w load i k (reply.Resumed n) (off nothing None) (own_within h v i k (own_disk h v i hw is) within) late (end ∙ ap (λ (l : Loader). (reply.Resumed n, resumed (restored h load.dump load.loader i) i.slots l)) from)
off_step h w v load (found_other u) k n hw is gone late within from says =
    let m = restored_in h load.dump v load.loader in
    subst (λ (x : disk.DiskImage). Step h w (loading (with_found_other load x) k) (event.Step actor.Core) (reply.Resumed n) (off nothing None)) is
    (other_goes h w v load k (reply.Resumed n) (off nothing None) late (traced_at h load v k (reply.Resumed n) within gone says) (ap (resumed m (slots_in h v m)) from))

pub read_resumed_off_row : ReadResumedOffRow
read_resumed_off_row h shown shown' c load v k n reads from says rest =
    let late = reads.late in
    record {
      step = off_step h (disk.as_it_reads c) v load load.found k n reads.hardware reads.found reads.gone_on (omega arith) reads.within from says;
      stands = load_stops h shown shown' c load k late reads.stands rest.0 rest.1;
      area = same_area h (disk.as_it_reads c);
      unwritten = λ b not. block_same b _;
      header = header_same h c;
      leaves = tt;
    }

-- What the rows ask for.

none_read : (k meta : ℕ) → k ≤ 6 → k - 4 - (k - 4 + 511) / 512 - (meta + 1) ≡ 0
none_read k meta few = omega arith

pub zip-nil : (xs : List ℕ) (none : List (List ℕ)) → none ≡ [] → zip xs none ≡ []
zip-nil [] none e = refl
zip-nil (x ∷ xs) [] e = refl
zip-nil (x ∷ xs) (y ∷ ys) e = cc

pub shows_none_read : ShowsNoneRead
shows_none_read h shown load k few activity told kept none = record {
  activity = activity;
  shows = record {
    told = told;
    kept = kept;
    read = λ i e. none ∙ sym (ap (λ (n : ℕ). take n (with_data i)) (none_read k (meta_of (n_of i)) few));
    read_other = λ v e. none ∙ sym (zip-nil (data_frames h v) (data_pages h v (data_read_in h v k)) (ap (data_pages h v) (none_read k (meta_in h v) few)));
  };
}

pub cause_ends : CauseStops
cause_ends h load v t r e =
    stop_kind r (cause_stops (cause_at h load.dump v load.loader load.check t) r (stops_cause h load.dump v load.loader load.check t) e)

pub tables_end : TablesStop
tables_end h load v r e = stop_kind r (cause_stops (tables_cause h v (restored_in h load.dump v load.loader)) r (stops_tables h v (restored_in h load.dump v load.loader)) e)
