-- The rows of the end: the pages are brought home, and the tables tested.
use Rattle.std.proofs.Common.{◌≡◌, ℕ, ◌+◌, ◌-◌, true, false, List, length, replicate, All, Contains, Option, Some, None, Ok, refl, sym, ap, ap₂, ◌∙◌, subst, arith}
use Rattle.std.proofs.lemmas.Option.{none-some}
use Rattle.std.proofs.lemmas.List.FromFn.{length-map-range_with_len}
use Rattle.definitions.specs.Bytes.{IsPage}
use Rattle.definitions.specs.Disk as disk
use Rattle.definitions.specs.SwapHeader.{taken_back}
use Rattle.definitions.specs.Tables.{frame}
use Rattle.definitions.specs.Zones.{top}
use Rattle.image_format.specs.AreaKind.{area_kind}
use Rattle.image_format.specs.declared.signature.area.Area.{Area}
use Rattle.image_format.specs.declared.signature.area.AreaKind.{AreaKind}
use Rattle.image_format.specs.declared.signature.area.AreaKind.TheVariants.{Swap}
use Rattle.image_read.specs.Stream.{frames_in, pages_read}
use Rattle.placement.specs.Waiting.{restored_page, waiting_pages}
use Rattle.placement.proofs.WithData.{restored_by_zeros}
use Rattle.plain_machine.specs.Machine.{Hardware, Memory, IsHardware, tables_fault}
use Rattle.plain_machine.specs.Chain.{header_of, blocks_of, Marked}
use Rattle.plain_machine.specs.State.{off, on, loading, nothing, Load as Resume, Found, not_yet, found_own, found_other}
use Rattle.plain_machine.specs.Trace.{info_in, place_count, number_in, header_cause, tables_cause, restored_in, last_reply, data_frames, data_page, data_pages}
use Rattle.plain_machine.specs.UsableArea.{area_block, area_fault, fit_fault, kind_or_fit_fault, has_bad_slots_of}
use Rattle.plain_machine.specs.declared.event.Loader.{Loader}
use Rattle.plain_machine.specs.declared.event.Loader.TheVariants as loader
use Rattle.plain_machine.specs.declared.event.Ranges.{Ranges}
use Rattle.plain_machine.specs.declared.held.Held.TheVariants.{No}
use Rattle.plain_machine.specs.declared.no_swap.NoSwap.{NoSwap}
use Rattle.plain_machine.specs.declared.reply.Reply.TheVariants as reply
use Rattle.protocol_laws.specs.LoadRows.{IsFoundOn, running_with}
use Rattle.protocol_laws.proofs.LoadReplies.{a_mark}
use Rattle.protocol_laws.proofs.OwnCauses.{own_sayable}
use Rattle.protocol_laws.proofs.Tracing.{restored_is}
use Rattle.protocol_laws.proofs.Marking.{area_block-marked}
use Rattle.restore_laws.specs.Restored.{AreAllRead}
use Rattle.restore_laws.proofs.BroughtBack.{are_restored, names_none, runs_as_restored}
use Rattle.restore_laws.proofs.DataPlaces.{all_read, listed_sets, marks_listed}
use Rattle.restore_laws.proofs.LastTables.{last_resumed, last_refused, table_at_fault, tables_fit, area_misfits, area_fits, bad_set_differs, area_unusable}
use Rattle.restore_laws.proofs.SoundTables.{sound_tables_fit}
use Rattle.machine.specs.declared.flight.Flight.TheVariants.{Nothing}
use Rattle.machine.specs.declared.machine.Machine.{Machine}
use Rattle.machine.proofs.Readiness.{flights-none}
use Rattle.resume_core.specs.Loading.{shown_by}
use Rattle.resume_core.specs.Restored.{restored_found}
use Rattle.resume_core.specs.Row.{HasRead, HavePlaces, EndsOn, swap_area}
use Rattle.resume_core.specs.declared.load.Load.{Load}
use Rattle.resume_core.specs.declared.load.OpenChain.{OpenChain}
use Rattle.resume_core.specs.declared.load.Stage.TheVariants as stage
use Rattle.resume_core.proofs.Answering.{ends_reply}
use Rattle.resume_core.proofs.Answering as ar
use Rattle.resume_core.proofs.Facts.{leads}
use Rattle.protocol_laws.proofs.LoadRows.{read_stop_row, read_resumed_row, read_resumed_off_row}
use Rattle.resume_core.proofs.Finding.{activity_is}

-- The tables.

-- the area block is the header taken back
marked_area : (h : Hardware) (v : disk.DiskImage) (header : List ℕ) → header ≡ header_of h v → Marked h v → area_block h v ≡ taken_back header
marked_area h v header is marked = area_block-marked h v marked ∙ ap taken_back (sym is)

pub record IsTested (h : Hardware) (v : disk.DiskImage) (header : List ℕ) (blocks : ℕ) : Type 0 where
  pub header_is : header ≡ header_of h v
  pub blocks_are : blocks ≡ blocks_of v
  pub marked : Marked h v

area_is : (h : Hardware) (v : disk.DiskImage) (header : List ℕ) (blocks : ℕ) (kind : AreaKind) → IsTested h v header blocks → kind ≡ area_kind (taken_back header) → (kind ≡ area_kind (area_block h v)) × (area_fault h v ≡ kind_or_fit_fault h blocks kind)
unfolding area_fault
area_is h v header blocks kind is kind_is =
    let same : kind ≡ area_kind (area_block h v) = kind_is ∙ ap area_kind (sym (marked_area h v header is.header_is is.marked)) in
    (same, ap₂ (kind_or_fit_fault h) (sym is.blocks_are) (sym same))

pub tables_good : (h : Hardware) (v : disk.DiskImage) (header : List ℕ) (blocks : ℕ) (m : Memory) (kind : AreaKind) (area : Area) → IsTested h v header blocks → kind ≡ area_kind (taken_back header) → tables_fault h m ≡ None → kind ≡ Swap area → kind_or_fit_fault h blocks kind ≡ None → has_bad_slots_of h m area ≡ true → tables_cause h v m ≡ None
tables_good h v header blocks m kind area is kind_is none swap fit bad =
    let a = area_is h v header blocks kind is kind_is in
    tables_fit h v m none ((area_fits h v m area (a.1 ∙ fit) (sym a.0 ∙ swap)).1 bad)

pub bad_slots : (h : Hardware) (v : disk.DiskImage) (header : List ℕ) (blocks : ℕ) (m : Memory) (kind : AreaKind) (area : Area) → IsTested h v header blocks → kind ≡ area_kind (taken_back header) → tables_fault h m ≡ None → kind ≡ Swap area → kind_or_fit_fault h blocks kind ≡ None → has_bad_slots_of h m area ≡ false →
    tables_cause h v m ≡ Some (reply.BadTables h.slot_table)
bad_slots h v header blocks m kind area is kind_is none swap fit bad =
    let a = area_is h v header blocks kind is kind_is in
    area_misfits h v m _ none (bad_set_differs h v m area (a.1 ∙ fit) (sym a.0 ∙ swap) bad)

pub no_area : (h : Hardware) (v : disk.DiskImage) (header : List ℕ) (blocks : ℕ) (m : Memory) (kind : AreaKind) (why : NoSwap) → IsTested h v header blocks → kind ≡ area_kind (taken_back header) → tables_fault h m ≡ None → kind_or_fit_fault h blocks kind ≡ Some why → tables_cause h v m ≡ Some (reply.BadTables h.slot_table)
no_area h v header blocks m kind why is kind_is none unfit =
    let a = area_is h v header blocks kind is kind_is in
    area_misfits h v m why none (area_unusable h v m why (a.1 ∙ unfit))

-- an area that the header block says, and that fits
pub fits_of : (h : Hardware) (blocks : ℕ) (kind : AreaKind) (area : Area) → kind ≡ Swap area → kind_or_fit_fault h blocks kind ≡ None → fit_fault h blocks area ≡ None
fits_of h blocks kind area is fits = sym (ap (kind_or_fit_fault h blocks) is) ∙ fits

-- The end.

was_marked : (h : Hardware) (v : disk.DiskImage) → header_cause h v ≡ None → Marked h v
was_marked h v uncaused = a_mark h v None uncaused (λ e. none-some reply.NoImage e)

length_listed : (h : Hardware) (v : disk.DiskImage) → length (frames_in h v (info_in h v).image_pages) ≡ (info_in h v).image_pages
unfolding frames_in
length_listed h v = length-map-range_with_len (number_in h v) 0 (info_in h v).image_pages

-- the pages are brought home
pub record IsHome (machine : Machine) (frames frames' : Memory) (load : Load) : Type 0 where
  pub restored : load.waiting.loaded ≡ length load.waiting.originals → (p : ℕ) → frame frames' p ≡ restored_page frames load.waiting load.zeros.members p
  pub size : length frames' ≡ top machine.hw.zones

all_are_read : (machine : Machine) (frames : Memory) (load : Load) (chain : OpenChain) (c : disk.Content) (l : Resume) (v : disk.DiskImage) (k : ℕ) → HasRead machine frames load chain c l v k → HavePlaces machine.hw v frames load.waiting (k - 4 + 1) → k - 4 + 1 ≡ place_count (info_in machine.hw v).pages →
    AreAllRead machine.hw l.dump v l.loader load.waiting load.origs.members frames
all_are_read machine frames load chain c l v k read places over =
    let h = machine.hw in
    let t = k - 4 + 1 in
    let r = chain.reader in
    let reading = read.read in
    let listed = listed_sets h v load.check r t (info_in h v).image_pages load.origs.members load.zeros.members reading (reading.listed ∙ places.listed) in
    let all = all_read h v load.check r t load.origs.members load.zeros.members reading (ar.all_read h v (pages_read t) places.listed).0 over in
    record {
      free = read.loader.free;
      originals = places.originals;
      pages = places.pages ∙ ap (data_pages h v) (places.loaded ∙ all);
      listed = listed.frames;
      rising = reading.rising;
      kept = read.kept;
    }

home : (machine : Machine) (frames frames' : Memory) (load : Load) (chain : OpenChain) (c : disk.Content) (l : Resume) (v : disk.DiskImage) (k : ℕ) → IsHome machine frames frames' load → HasRead machine frames load chain c l v k → HavePlaces machine.hw v frames load.waiting (k - 4 + 1) → k - 4 + 1 ≡ place_count (info_in machine.hw v).pages →
    frames' ≡ restored_in machine.hw l.dump v l.loader
home machine frames frames' load chain c l v k is read places over =
    let h = machine.hw in
    let t = k - 4 + 1 in
    let all = all_are_read machine frames load chain c l v k read places over in
    let reading = read.read in
    let listed = listed_sets h v load.check chain.reader t (info_in h v).image_pages load.origs.members load.zeros.members reading (reading.listed ∙ places.listed) in
    let counted : load.waiting.loaded ≡ length load.waiting.originals =
    places.loaded ∙ (all_read h v load.check chain.reader t load.origs.members load.zeros.members reading (ar.all_read h v (pages_read t) places.listed).0 over) ∙ sym (ap length places.originals) in
    let size : length (waiting_pages frames load.waiting) ≡ length load.waiting.originals =
    ap length all.pages ∙ length-map-range_with_len (data_page h v) 0 (length (data_frames h v)) ∙ sym (ap length places.originals) in
    let marked : (p : ℕ) → Contains load.zeros.members p → Contains load.origs.members p = λ p in'.
    subst (λ (ps : List ℕ). Contains ps p) (sym listed.frames) (marks_listed h v (info_in h v).image_pages p (subst (λ (ps : List ℕ). Contains ps p) listed.marks in')) in
    are_restored h l.dump v l.loader load.waiting load.origs.members frames frames' all is.size
    (λ p lt. is.restored counted p ∙ restored_by_zeros frames load.waiting load.origs.members load.zeros.members p size (places.originals ∙ sym listed.paged) (marked p))

-- what the tables' test says, of each disk whose header it was
abbrev pub IsFaulty : Machine → Memory → OpenChain → ℕ → Type 0
IsFaulty machine frames' chain f = (v : disk.DiskImage) → chain.header ≡ header_of machine.hw v → machine.blocks ≡ blocks_of v → Marked machine.hw v → tables_cause machine.hw v frames' ≡ Some (reply.BadTables f)

abbrev pub IsGood : Machine → Memory → OpenChain → Type 0
IsGood machine frames' chain = (v : disk.DiskImage) → chain.header ≡ header_of machine.hw v → machine.blocks ≡ blocks_of v → Marked machine.hw v → tables_cause machine.hw v frames' ≡ None

-- of the image that was found, which the disk v has
restored_is_by : (h : Hardware) (l : Resume) (v : disk.DiskImage) → IsHardware h → (f : Found) → IsFoundOn h v f → restored_in h l.dump v l.loader ≡ restored_found h l f
restored_is_by h l v hw not_yet is = absurd is
restored_is_by h l v hw (found_own i) is = restored_is h v i l.dump l.loader (record { hardware = hw; holds = is.0; own = is.1; sayable = own_sayable h v i hw is.1 })
restored_is_by h l v hw (found_other w) is = ap (λ (x : disk.DiskImage). restored_in h l.dump x l.loader) is

pub bad_tables_row : (machine : Machine) (frames frames' : Memory) (load load' : Load) (chain : OpenChain) (ranges : Ranges) (f : ℕ) → load.loader ≡ loader.Ranges ranges → IsHome machine frames frames' load → IsFaulty machine frames' chain f → load'.stage ≡ stage.Rest → EndsOn machine frames load chain machine frames' load' (reply.BadTables f)
bad_tables_row machine frames frames' load load' chain ranges f by is faulty rest c l v k read places room over =
    let h = machine.hw in
    let scripted : l.loader ≡ loader.Ranges ranges = sym read.loader.loader ∙ by in
    let memory = home machine frames frames' load chain c l v k is read places over in
    let cause = faulty v read.found.is_header (sym read.found.blocks) (was_marked h v read.found.uncaused) in
    let at_last : last_reply h l.dump v l.loader ≡ reply.BadTables f = subst (λ (x : Loader). last_reply h l.dump v x ≡ reply.BadTables f) (sym scripted)
    (last_refused h l.dump v ranges (reply.BadTables f) (subst (λ (x : Loader). tables_cause h v (restored_in h l.dump v x) ≡ Some (reply.BadTables f)) scripted (subst (λ (m : Memory). tables_cause h v m ≡ Some (reply.BadTables f)) memory cause))) in (
      off nothing None,
      leads machine frames' load' (reply.BadTables f) c c (loading l k) (off nothing None) tt
          (read_stop_row h read.shown (shown_by machine frames' load') c l v k (reply.BadTables f) read.reading (ends_reply h l.dump v l.loader l.check k read.reading.late read.sound room (omega arith) ∙ at_last) tt (activity_is load' stage.Rest rest, refl)) tt,
    )

no_fault : (h : Hardware) (v : disk.DiskImage) (m : Memory) → tables_cause h v m ≡ None → tables_fault h m ≡ None
no_fault h v m good = by (tables_fault h m) refl where
  by : (o : Option ℕ) → tables_fault h m ≡ o → o ≡ None
  by None e = refl
  by (Some f) e = absurd (none-some (reply.BadTables f) (sym good ∙ table_at_fault h v m f e))

-- the machine that runs
abbrev pub running : Machine → Area → Machine
running machine area = record machine { area = Ok area; held = No; flights = replicate 64 Nothing }

pub resumed_row : (machine : Machine) (frames frames' : Memory) (load load' : Load) (chain : OpenChain) (ranges : Ranges) (area : Area) (n : ℕ) → load.loader ≡ loader.Ranges ranges → All IsPage frames' → IsHome machine frames frames' load → IsGood machine frames' chain → area_kind (taken_back chain.header) ≡ Swap area → n ≡ length load.origs.members → load'.stage ≡ stage.Runs →
    EndsOn machine frames load chain (running machine area) frames' load' (reply.Resumed n)
resumed_row machine frames frames' load load' chain ranges area n by pages is good kind count runs_now c l v k read places room over =
    let h = machine.hw in
    let scripted : l.loader ≡ loader.Ranges ranges = sym read.loader.loader ∙ by in
    let memory = home machine frames frames' load chain c l v k is read places over in
    let cause = good v read.found.is_header (sym read.found.blocks) (was_marked h v read.found.uncaused) in
    let fits = sound_tables_fit h frames' read.reading.hardware pages is.size (no_fault h v frames' cause) in
    let all = all_are_read machine frames load chain c l v k read places over in
    let saved : n ≡ (info_in h v).image_pages = count ∙ ap length all.listed ∙ length_listed h v in
    let at_last : last_reply h l.dump v l.loader ≡ reply.Resumed (info_in h v).image_pages = subst (λ (x : Loader). last_reply h l.dump v x ≡ reply.Resumed (info_in h v).image_pages) (sym scripted)
    (last_resumed h l.dump v ranges (subst (λ (x : Loader). tables_cause h v (restored_in h l.dump v x) ≡ None) scripted (subst (λ (m : Memory). tables_cause h v m ≡ None) memory cause))) in
    let shown' = shown_by (running machine area) frames' load' in
    let goes = read_resumed_row h read.shown shown' c machine.blocks l ranges v k n read.whole read.reading scripted
    (ends_reply h l.dump v l.loader l.check k read.reading.late read.sound room (omega arith) ∙ at_last ∙ ap reply.Resumed (sym saved)) (activity_is load' stage.Runs runs_now)
    (runs_as_restored h l v No None shown'.flights frames' refl refl (λ t. flights-none 64 t) memory fits) (names_none h shown' fits) in (
      on (running_with h l v goes.0),
      leads (running machine area) frames' load' (reply.Resumed n) c c (loading l k) (on (running_with h l v goes.0))
          (record { memory = memory ∙ restored_is_by h l v read.reading.hardware l.found read.reading.found; area = (area, refl, read.found.area ∙ ap swap_area kind) }) goes.1 tt,
    )

-- after a dump's loader the machine is off
pub resumed_off_row : (machine : Machine) (frames frames' : Memory) (load load' : Load) (chain : OpenChain) (n : ℕ) → load.loader ≡ loader.Table → IsHome machine frames frames' load → n ≡ length load.origs.members → load'.stage ≡ stage.Rest →
    EndsOn machine frames load chain machine frames' load' (reply.Resumed n)
resumed_off_row machine frames frames' load load' chain n by is count rest c l v k read places room over =
    let h = machine.hw in
    let kept : l.loader ≡ loader.Table = sym read.loader.loader ∙ by in
    let memory = home machine frames frames' load chain c l v k is read places over in
    let all = all_are_read machine frames load chain c l v k read places over in
    let saved : n ≡ (info_in h v).image_pages = count ∙ ap length all.listed ∙ length_listed h v in
    let at_last : last_reply h l.dump v l.loader ≡ reply.Resumed (info_in h v).image_pages = subst (λ (x : Loader). last_reply h l.dump v x ≡ reply.Resumed (info_in h v).image_pages) (sym kept) refl in (
      off nothing None,
      leads machine frames' load' (reply.Resumed n) c c (loading l k) (off nothing None)
          (record { memory = memory ∙ restored_is_by h l v read.reading.hardware l.found read.reading.found; area = tt })
          (read_resumed_off_row h read.shown (shown_by machine frames' load') c l v k n read.reading kept
          (ends_reply h l.dump v l.loader l.check k read.reading.late read.sound room (omega arith) ∙ at_last ∙ ap reply.Resumed (sym saved)) (activity_is load' stage.Rest rest, refl)) tt,
    )
