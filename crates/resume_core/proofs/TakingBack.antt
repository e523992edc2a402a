-- The rows of the header block taken back, and of the sync after it.
use Rattle.std.proofs.Common.{◌≡◌, ℕ, ◌+◌, inl, List, [], Option, Some, None, unwrap_or, refl, sym, ap, ◌∙◌, subst, arith}
use Rattle.definitions.specs.Disk as disk
use Rattle.definitions.specs.SwapHeader.{IsMarked, taken_back, unmarked_block}
use Rattle.definitions.proofs.DiskLaws.{as_it_reads-settled}
use Rattle.image_read.specs.Answers.{Reads}
use Rattle.image_read.specs.Reading.{Reading}
use Rattle.image_read.specs.Stream as stream
use Rattle.image_laws.specs.ImageBlocks.{Tries}
use Rattle.plain_machine.specs.Machine.{Hardware, Memory, IsHardware, block_of_slot}
use Rattle.plain_machine.specs.Chain.{header_of, blocks_of}
use Rattle.image_format.specs.AreaKind.{mark_of, area_kind}
use Rattle.plain_machine.specs.UsableArea.{area_block}
use Rattle.protocol_laws.specs.TraceAt.{reply_past}
use Rattle.protocol_laws.proofs.TraceAt.{past_more}
use Rattle.protocol_laws.specs.Rows.{IsSameArea}
use Rattle.protocol_laws.proofs.Areas.{same_of_kinds}
use Rattle.plain_machine.specs.State.{off, loading, nothing, perhaps, held_while_loading, Load as Resume}
use Rattle.plain_machine.specs.Trace.{info_in, taken_back_cause}
use Rattle.plain_machine.specs.declared.event.Event.TheVariants as event
use Rattle.plain_machine.specs.declared.event.Actor.TheVariants as actor
use Rattle.plain_machine.specs.declared.event.IdentCheck.{IdentCheck}
use Rattle.plain_machine.specs.declared.reply.Reply.{Reply}
use Rattle.plain_machine.specs.declared.reply.Reply.TheVariants as reply
use Rattle.plain_machine.specs.declared.reply.Left.TheVariants.{Unsure}
use Rattle.protocol_laws.proofs.Same.{reads_kept}
use Rattle.image_read.proofs.Places.{two_places}
use Rattle.machine.specs.declared.machine.Machine.{Machine}
use Rattle.unmark.specs.Unmarking.{calls_before}
use Rattle.unmark.specs.declared.unmarking.Unmark.{Unmark}
use Rattle.unmark.specs.declared.unmarking.UnmarkCall.{UnmarkCall}
use Rattle.unmark.specs.declared.unmarking.UnmarkCall.TheVariants as call
use Rattle.resume_core.specs.Loading.{shown_by, activity_at, header_at}
use Rattle.resume_core.specs.Row.{Simulates, HasFound, swap_area}
use Rattle.image_format.specs.declared.signature.area.Mark.{Mark}
use Rattle.resume_core.specs.declared.load.Load.{Load}
use Rattle.resume_core.specs.declared.load.Stage.TheVariants as stage
use Rattle.std.proofs.lemmas.Option.{none-some}
use Rattle.plain_machine.specs.Shows.{loads}
use Rattle.protocol_laws.proofs.Marking.{area_of-marked}
use Rattle.protocol_laws.proofs.LoadReplies.{a_mark, cause_stops, stop_kind, gone_next}
use Rattle.protocol_laws.proofs.Stopping.{stops_taken_back}
use Rattle.resume_core.proofs.Facts.{stopped_early, row_at_load, leads, shows_none, load_told}
use Rattle.protocol_laws.proofs.LoadRows.{take_back_row, take_back_fault_row, back_sync_row, back_sync_stop_row, back_sync_fault_row}
use Rattle.resume_core.proofs.Finding.{stopped, knows_at}

-- the header of the disk v has this mark, and v as many blocks as the machine knows of
pub record HasFoundMark (machine : Machine) (of : Mark) (v : disk.DiskImage) : Type 0 where
  pub mark : of ≡ mark_of (header_of machine.hw v)
  pub blocks : machine.blocks ≡ blocks_of v

-- disks with the same area have one area, if any
pub same_swap_area : (h : Hardware) (v w : disk.DiskImage) → IsSameArea h v w → swap_area (area_kind (area_block h w)) ≡ swap_area (area_kind (area_block h v))
same_swap_area h v w same = same_of_kinds swap_area (area_block h w) (area_block h v) same.header (λ m n. refl)

-- the image is found still, at another content
pub found_still : (machine : Machine) (header : List ℕ) (c c' : disk.Content) (l : Resume) (v : disk.DiskImage) → Reads machine.hw v (Some c') →
    swap_area (area_kind (area_block machine.hw (disk.as_it_reads c'))) ≡ swap_area (area_kind (area_block machine.hw (disk.as_it_reads c))) → HasFound machine header c l v → HasFound machine header c' l v
found_still machine header c c' l v reads area found = record {
  found = found.found;
  uncaused = found.uncaused;
  is_header = found.is_header;
  reads = reads;
  blocks = found.blocks;
  area = area ∙ found.area;
}

reads_after : (h : Hardware) (v : disk.DiskImage) (page : List ℕ) (c c' : disk.Content) → Reads h v (Some c) → Tries (block_of_slot h 0) page c c' → Reads h v (Some c')
reads_after h v page c c' reads tries = λ b lt apart. reads_kept (block_of_slot h 0) b page c c' tries apart ∙ reads b lt apart

reads_synced : (h : Hardware) (v : disk.DiskImage) (c c' : disk.Content) → Reads h v (Some c) → disk.Syncs c c' → Reads h v (Some c')
reads_synced h v c c' reads syncs =
    let same : disk.as_it_reads c' ≡ disk.as_it_reads c = ap disk.as_it_reads syncs ∙ as_it_reads-settled (disk.as_it_reads c) in
    λ b lt apart. ap (λ (w : disk.DiskImage). disk.block w b) same ∙ reads b lt apart

-- what a resume is at, by the call that is next
loads_by : (load : Load) (old : Unmark) (mark : Mark) (next : UnmarkCall) → load.stage ≡ stage.Back old mark → old.next ≡ next → activity_at load.stage ≡ loads (calls_before next + 1)
loads_by load old mark next at is = ap activity_at at ∙ ap (λ (n : UnmarkCall). loads (calls_before n + 1)) is

-- the block that was found is marked, so it is written taken back
found_block : (machine : Machine) (header : List ℕ) (c : disk.Content) (l : Resume) (v : disk.DiskImage) → HasFound machine header c l v → unmarked_block header ≡ taken_back header
found_block machine header c l v is =
    area_of-marked header (subst IsMarked (sym is.is_header) (a_mark machine.hw v None is.uncaused (λ e. none-some reply.NoImage e)))

pub back_row : (machine : Machine) (frames : Memory) (load : Load) (old new : Unmark) (mark : Mark) (c c' : disk.Content) → IsHardware machine.hw → load.stage ≡ stage.Back old mark → old.next ≡ call.Write → new.next ≡ call.Sync → new.header ≡ old.header → disk.IsContent machine.blocks c → disk.IsContent machine.blocks c' →
    disk.Writes (block_of_slot machine.hw 0) (unmarked_block old.header) c c' → Simulates machine frames load machine frames (record load { stage = stage.Back new mark }) (event.Step actor.Core) (reply.Loading 3) c c'
back_row machine frames load old new mark c c' hardware at from to kept whole whole' wrote =
    let next = record load { stage = stage.Back new mark } in
    row_at_load machine frames load machine frames next (event.Step actor.Core) (reply.Loading 3) c c' 2 (loads_by load old mark call.Write at from)
    (λ l s.
    let knows = knows_at machine frames load c l 2 (stage.Back old mark) at s in
    let writes = subst (λ (p : List ℕ). disk.Writes (block_of_slot machine.hw 0) p c c') (found_block machine old.header c l knows.0 knows.1) wrote in
    let shown_writes = subst (λ (p : List ℕ). disk.Writes (block_of_slot machine.hw 0) (taken_back p) c c') (sym (ap header_at at)) writes in
    let goes = take_back_row machine.hw (shown_by machine frames load) (shown_by machine frames next) c c' machine.blocks l knows.0 hardware whole whole' s.stands knows.1.found knows.2 shown_writes
    (shows_none machine frames load next c l l 2 3 s refl refl (ap (λ (n : UnmarkCall). loads (calls_before n + 1)) to) (load_told machine frames load c l 2 s) (omega arith) knows.5) in (
      loading l 3,
      leads machine frames next (reply.Loading 3) c c' (loading l 2) (loading l 3) tt goes
          (record {
            free = s.resume.free;
            knows = (
              knows.0,
              subst (λ (p : List ℕ). HasFound machine p c' l knows.0) (sym kept)
                  (found_still machine old.header c c' l knows.0 (reads_after machine.hw knows.0 (taken_back old.header) c c' knows.1.reads (inl writes)) (same_swap_area machine.hw (disk.as_it_reads c) (disk.as_it_reads c') goes.area) knows.1),
              gone_next machine.hw l knows.0 2 knows.2 (past_more machine.hw l.dump knows.0 l.loader 2 (omega arith)),
              knows.3,
              knows.4,
              knows.5,
              knows.6,
            );
          }),
    ))

pub back_failed_row : (machine : Machine) (frames : Memory) (load : Load) (old : Unmark) (mark : Mark) (c c' : disk.Content) → IsHardware machine.hw → load.stage ≡ stage.Back old mark → old.next ≡ call.Write → disk.IsContent machine.blocks c → disk.IsContent machine.blocks c' →
    disk.FailsToWrite (block_of_slot machine.hw 0) (unmarked_block old.header) c c' → Simulates machine frames load machine frames (stopped load) (event.Step actor.Core) (reply.WriteFault Unsure) c c'
back_failed_row machine frames load old mark c c' hardware at from whole whole' tried =
    row_at_load machine frames load machine frames (stopped load) (event.Step actor.Core) (reply.WriteFault Unsure) c c' 2 (loads_by load old mark call.Write at from)
    (λ l s.
    let knows = knows_at machine frames load c l 2 (stage.Back old mark) at s in
    let tries = subst (λ (p : List ℕ). disk.FailsToWrite (block_of_slot machine.hw 0) p c c') (found_block machine old.header c l knows.0 knows.1) tried in
    let shown_tries = subst (λ (p : List ℕ). disk.FailsToWrite (block_of_slot machine.hw 0) (taken_back p) c c') (sym (ap header_at at)) tries in (
      off (perhaps (held_while_loading l 2)) None,
      leads machine frames (stopped load) (reply.WriteFault Unsure) c c' (loading l 2) (off (perhaps (held_while_loading l 2)) None) tt
          (take_back_fault_row machine.hw (shown_by machine frames load) (shown_by machine frames (stopped load)) c c' machine.blocks l knows.0 hardware whole whole' s.stands knows.1.found shown_tries (refl, refl)) tt,
    ))

-- The sync.

abbrev pub opened : Load → List ℕ → Reading → Load
opened load header r = record load { stage = stage.List (record { header = header; reader = r; done = 4 }) }

pub opened_row : (machine : Machine) (frames : Memory) (load : Load) (old : Unmark) (mark : Mark) (header : List ℕ) (r : Reading) (c c' : disk.Content) → IsHardware machine.hw → load.stage ≡ stage.Back old mark → old.next ≡ call.Sync → header ≡ old.header → disk.IsContent machine.blocks c → disk.Syncs c c' →
    ((v : disk.DiskImage) → HasFoundMark machine mark v → (taken_back_cause machine.hw v ≡ None) × ((check : IdentCheck) → stream.HasReadPlaces machine.hw v check r 0 [] [])) →
    Simulates machine frames load machine frames (opened load header r) (event.Step actor.Core) (reply.Loading 4) c c'
opened_row machine frames load old mark header r c c' hardware at from kept whole syncs opens =
    let new = opened load header r in
    row_at_load machine frames load machine frames new (event.Step actor.Core) (reply.Loading 4) c c' 3 (loads_by load old mark call.Sync at from)
    (λ l s.
    let knows = knows_at machine frames load c l 3 (stage.Back old mark) at s in
    let v = knows.0 in
    let opened_at = opens v (record { mark = knows.6; blocks = sym knows.1.blocks }) in
    let goes = back_sync_row machine.hw (shown_by machine frames load) (shown_by machine frames new) c c' machine.blocks l v hardware whole s.stands knows.1.found knows.2 syncs opened_at.0
    (shows_none machine frames load new c l l 3 4 s refl refl refl (load_told machine frames load c l 3 s) (omega arith) knows.5) in (
      loading l 4,
      leads machine frames new (reply.Loading 4) c c' (loading l 3) (loading l 4) tt goes
          (record {
            free = s.resume.free;
            knows = (
              v,
              subst (λ (p : List ℕ). HasFound machine p c' l v) (sym kept)
                  (found_still machine old.header c c' l v (reads_synced machine.hw v c c' knows.1.reads syncs) (same_swap_area machine.hw (disk.as_it_reads c) (disk.as_it_reads c') goes.area) knows.1),
              gone_next machine.hw l v 3 knows.2 (ap (λ (o : Option Reply). unwrap_or o (reply_past machine.hw l.dump v l.loader 3)) opened_at.0 ∙ past_more machine.hw l.dump v l.loader 3 (let two = two_places (info_in machine.hw v).pages in omega arith)),
              (let two = two_places (info_in machine.hw v).pages in omega arith),
              subst (λ (zs : List ℕ). stream.HasReadPlaces machine.hw v load.check r 0 load.origs.members zs) (sym knows.4) (subst (λ (os : List ℕ). stream.HasReadPlaces machine.hw v load.check r 0 os []) (sym knows.3) (opened_at.1 load.check)),
              refl,
              knows.5,
            );
          }),
    ))

pub back_stopped_row : (machine : Machine) (frames : Memory) (load : Load) (old : Unmark) (mark : Mark) (c c' : disk.Content) (why : Reply) → IsHardware machine.hw → load.stage ≡ stage.Back old mark → old.next ≡ call.Sync → disk.IsContent machine.blocks c → disk.Syncs c c' →
    ((v : disk.DiskImage) → HasFoundMark machine mark v → taken_back_cause machine.hw v ≡ Some why) → Simulates machine frames load machine frames (stopped load) (event.Step actor.Core) why c c'
back_stopped_row machine frames load old mark c c' why hardware at from whole syncs cause =
    row_at_load machine frames load machine frames (stopped load) (event.Step actor.Core) why c c' 3 (loads_by load old mark call.Sync at from)
    (λ l s.
    let knows = knows_at machine frames load c l 3 (stage.Back old mark) at s in
    let v = knows.0 in
    let is = cause v (record { mark = knows.6; blocks = sym knows.1.blocks }) in
    let early = stop_kind why (cause_stops (taken_back_cause machine.hw v) why (stops_taken_back machine.hw v) is) in (
      off nothing None,
      leads machine frames (stopped load) why c c' (loading l 3) (off nothing None) (stopped_early machine frames c' why (loading l 3) (off nothing None) early)
          (back_sync_stop_row machine.hw (shown_by machine frames load) (shown_by machine frames (stopped load)) c c' machine.blocks l v why hardware whole s.stands knows.1.found knows.2 syncs is (refl, refl)) tt,
    ))

pub back_sync_failed_row : (machine : Machine) (frames : Memory) (load : Load) (old : Unmark) (mark : Mark) (c : disk.Content) → load.stage ≡ stage.Back old mark → old.next ≡ call.Sync → Simulates machine frames load machine frames (stopped load) (event.Step actor.Core) (reply.SyncFault Unsure) c c
back_sync_failed_row machine frames load old mark c at from =
    row_at_load machine frames load machine frames (stopped load) (event.Step actor.Core) (reply.SyncFault Unsure) c c 3 (loads_by load old mark call.Sync at from)
    (λ l s. (
      off (perhaps (held_while_loading l 2)) None,
      leads machine frames (stopped load) (reply.SyncFault Unsure) c c (loading l 3) (off (perhaps (held_while_loading l 2)) None) tt
          (back_sync_fault_row machine.hw (shown_by machine frames load) (shown_by machine frames (stopped load)) c l s.stands (refl, refl)) tt,
    ))
