-- The rows after the last number page: the room for the pages to come, and the pages as they come.
use Rattle.std.proofs.Common.{◌≡◌, ◌<◌, ◌≤◌, ◌⊎◌, inl, inr, ℕ, ◌+◌, ◌-◌, ◌%◌, ◌^◌, List, [], ◌∷◌, ◌++◌, length, map, take, Contains, Option, Some, None, IsSome, IsTrue, is_none, unwrap_or, get_or, slice_get, suc, zero, cond, ltb, eqb, Bool, true, false, refl, sym, ap, ap₂, ◌∙◌, subst, arith}
use Rattle.std.specs.List.{zip}
use Rattle.std.proofs.lemmas.Bool.{cases_lt, cond-true, lt-ltb, eq-eqb, false≢true}
use Rattle.std.proofs.lemmas.Bool.Decides.{eqb_tells}
use Rattle.std.proofs.lemmas.List.FromFn.{map-range_with_len_more}
use Rattle.std.proofs.lemmas.Option.{none-some, slice_get-get_or}
use Rattle.std.specs.List.Sorted.{IsStrictlyIncreasing}
use Rattle.definitions.specs.Disk as disk
use Rattle.definitions.specs.Tables.{frame}
use Rattle.placement.specs.Placed.{sources}
use Rattle.image_read.specs.Causes.{reply_of}
use Rattle.image_read.specs.Reading.{Reading}
use Rattle.image_read.specs.Taking as taking
use Rattle.image_read.specs.Stream.{pages_read, told, frames_in, marked_in, numbers_read, frame_at, place_block}
use Rattle.image_read.specs.Answers.{Reads, told_after}
use Rattle.image_read.specs.declared.cause.Cause.{Cause}
use Rattle.image_read.specs.declared.cause.Cause.TheVariants as cause
use Rattle.image_read.specs.declared.reader.ReadStep.{ReadStep}
use Rattle.image_read.specs.declared.reader.ReadStep.TheVariants as read_step
use Rattle.plain_machine.specs.Machine.{IsHardware}
use Rattle.plain_machine.specs.declared.event.Event.TheVariants as event
use Rattle.plain_machine.specs.declared.event.Actor.TheVariants as actor
use Rattle.plain_machine.specs.declared.event.IdentCheck.{IdentCheck}
use Rattle.protocol_laws.specs.Rows as rows
use Rattle.swap_slots.specs.Runs.{SlotRuns}
use Rattle.resume_core.specs.Placing.{ReadsPages, HasReadInPlace}
use Rattle.resume_core.specs.Ready.{CanStep, CanMake, CanRead, reads_at}
use Rattle.resume_core.specs.Row.{StandsAfter, Simulates}
use Rattle.resume_core.specs.declared.load.Stage.{Stage}
use Rattle.image_read.proofs.Places.{pages_left, at_map, at_page, read_at_map, read_at_page, two_places}
use Rattle.image_read.proofs.Read.{told_all, saved_is}
use Rattle.image_read.proofs.Rising.{data_frames_are, data_length}
use Rattle.placement.specs.Waiting.{Awaiting, waiting_pages, with_data}
use Rattle.plain_machine.specs.Machine.{Hardware, Memory}
use Rattle.plain_machine.specs.Chain.{or_else}
use Rattle.plain_machine.specs.Loader.{left_free}
use Rattle.plain_machine.specs.Image as image
use Rattle.plain_machine.specs.Stands.{data_read}
use Rattle.plain_machine.specs.State.{off, loading, nothing, Load as Resume}
use Rattle.plain_machine.specs.Trace.{info_in, meta_in, stream_page, d_in, place, Place, place_count, read_cause, want_cause, room_cause, next_cause, cause_at, data_frames, data_page, data_pages, cause_with}
use Rattle.plain_machine.specs.declared.event.Loader.{Loader}
use Rattle.plain_machine.specs.declared.reply.Reply.{Reply}
use Rattle.plain_machine.specs.declared.reply.Reply.TheVariants as reply
use Rattle.protocol_laws.specs.LoadRows.{IsStop, IsFoundOn}
use Rattle.protocol_laws.specs.TraceAt.{reply_past}
use Rattle.protocol_laws.specs.Loads.{ShowsLoad}
use Rattle.machine.specs.declared.machine.Machine.{Machine}
use Rattle.resume_core.specs.Loading.{shown_by}
use Rattle.resume_core.specs.Refusals.{room_refusal, refusal_behind}
use Rattle.resume_core.specs.Row.{HasReader, HasRead, HavePlaces, ListsOn, ReadsOn, LeadsOn}
use Rattle.resume_core.specs.declared.load.Load.{Load}
use Rattle.resume_core.specs.declared.load.OpenChain.{OpenChain}
use Rattle.resume_core.specs.declared.load.Stage.TheVariants as stage
use Rattle.resume_core.proofs.Facts.{stopped_early, leads, same_loader, loader_of, told_by, row_at_load}
use Rattle.resume_core.proofs.Finding.{activity_is, knows_at}
use Rattle.resume_core.proofs.Answering.{late_reply, no_want_before, goes_reply, room_reply, stops_reply, no_want_after, no_read_cause, all_read, more_to_read}
use Rattle.resume_core.proofs.Listing.{AnswersFor, HasNoCause, may_go_on, read_on, not_over, found_in}
use Rattle.resume_core.proofs.OwnImage.{pages_are, other_pages, count_is}
use Rattle.protocol_laws.proofs.LoadRows.{read_row, read_stop_row, cause_ends}
use Rattle.protocol_laws.proofs.LoadReplies.{gone_next}
use Rattle.protocol_laws.proofs.OwnCauses.{own_sayable}

-- The reply of a refusal.

pub refusal_few : (o : Option ℕ) (have d : ℕ) (cause : Cause) (why : Reply) → IsSome o → room_refusal have d ≡ Some why → why ≡ refusal_behind o have d cause
refusal_few None have d cause why some e = absurd (false≢true some)
refusal_few (Some n) have d cause why some e = sym (ap (λ (x : Option Reply). unwrap_or x (reply_of cause)) e)

pub refusal_cause : (o : Option ℕ) (have d : ℕ) (cause : Cause) → room_refusal have d ≡ None → reply_of cause ≡ refusal_behind o have d cause
refusal_cause None have d cause e = refl
refusal_cause (Some n) have d cause e = sym (ap (λ (x : Option Reply). unwrap_or x (reply_of cause)) e)

-- After the last number page.

some_all : (b : Bool) (n : ℕ) → IsSome (cond b (Some n) None) → cond b (Some n) None ≡ Some n
some_all true n e = refl
some_all false n e = absurd (false≢true e)

told_some : (h : Hardware) (v : disk.DiskImage) (j : ℕ) → IsSome (told h v j) → told h v j ≡ Some (info_in h v).image_pages
told_some h v zero e = absurd (false≢true e)
told_some h v (suc j) e = some_all (eqb (numbers_read h v (suc j)) (info_in h v).image_pages) (info_in h v).image_pages e

told_listed : (h : Hardware) (v : disk.DiskImage) (reader : Reading) (load : Load) (t : ℕ) → HasReader h v reader load t → IsSome reader.listed → told h v (pages_read t) ≡ Some (info_in h v).image_pages
told_listed h v reader load t read listed = told_some h v (pages_read t) (subst IsSome read.listed listed)

-- the room is tested there
want_listed : (h : Hardware) (dump : Memory) (v : disk.DiskImage) (loader : Loader) (t : ℕ) → told h v (pages_read t) ≡ None → told h v (pages_read (t + 1)) ≡ Some (info_in h v).image_pages → want_cause h dump v loader (place t) ≡ room_cause h dump v loader
want_listed h dump v loader t before after = elim (eqb_tells (t % 512) 0) [
  | inl is ↦ absurd (none-some (info_in h v).image_pages (sym before ∙ ap (told h v) (sym (read_at_map t is.1)) ∙ after))
  | inr is ↦ (
      let next = read_at_page t is.1 in
      let all = (all_read h v (pages_read (t + 1)) after).1 in
      let n = (info_in h v).image_pages in
      let at : pages_read t ≡ meta_in h v = elim (cases_lt 0 (pages_read t)) [
        | inl some ↦ (let more = more_to_read h v (pages_read t) (omega arith) before in omega arith)
        | inr none ↦ omega arith
      ] in
      ap (want_cause h dump v loader) (at_page t is.1) ∙ cond-true (eqb (pages_read t) (meta_in h v)) (room_cause h dump v loader) None (eq-eqb (pages_read t) (meta_in h v) at))
]

same_data : (origs zeros : List ℕ) → with_data origs zeros ≡ taking.with_data origs zeros
unfolding with_data taking.with_data
same_data origs zeros = refl

listed_data : (h : Hardware) (v : disk.DiskImage) (origs zeros : List ℕ) → origs ≡ frames_in h v (info_in h v).image_pages → zeros ≡ marked_in h v (info_in h v).image_pages → IsStrictlyIncreasing origs → with_data origs zeros ≡ data_frames h v
listed_data h v origs zeros frames marks rising = same_data origs zeros ∙ ap₂ taking.with_data frames marks ∙ data_frames_are h v (subst IsStrictlyIncreasing frames rising)

-- the page frames with data are those that the numbers name
data_of : (h : Hardware) (v : disk.DiskImage) (j : ℕ) (origs zeros : List ℕ) → origs ≡ frames_in h v (numbers_read h v j) → zeros ≡ marked_in h v (numbers_read h v j) → IsStrictlyIncreasing origs → told h v j ≡ Some (info_in h v).image_pages → with_data origs zeros ≡ data_frames h v
data_of h v j origs zeros frames_are marks_are rising told_now =
    let n = (info_in h v).image_pages in
    let all = all_read h v j told_now in
    let saved = saved_is h v j all.0 in
    let enough = all.1 in
    let count : numbers_read h v j ≡ n = omega arith in
    let frames : origs ≡ frames_in h v n = frames_are ∙ ap (frames_in h v) count in
    let marks : zeros ≡ marked_in h v n = marks_are ∙ ap (marked_in h v) count in
    listed_data h v origs zeros frames marks rising

data_are : (h : Hardware) (v : disk.DiskImage) (reader : Reading) (load : Load) (t : ℕ) → HasReader h v reader load t → told h v (pages_read t) ≡ Some (info_in h v).image_pages → with_data load.origs.members load.zeros.members ≡ data_frames h v
data_are h v reader load t read told_now = data_of h v (pages_read t) load.origs.members load.zeros.members read.frames read.marks read.rising told_now

room_is : (h : Hardware) (dump : Memory) (v : disk.DiskImage) (loader : Loader) (have d : ℕ) → have ≡ length (left_free h dump loader) → d ≡ d_in h v → room_cause h dump v loader ≡ room_refusal have d
room_is h dump v loader have d same count = ap₂ room_refusal (sym same) (sym count)

-- the room at the step that reads the last number page, as it was tested
room_tested : (machine : Machine) (frames : Memory) (load : Load) (chain : OpenChain) (c : disk.Content) (l : Resume) (v : disk.DiskImage) (k : ℕ) → HasRead machine frames load chain c l v k → IsSome chain.reader.listed → told machine.hw v (pages_read (k - 4)) ≡ None →
    want_cause machine.hw l.dump v l.loader (place (k - 4)) ≡ room_refusal (length load.waiting.free) (length (with_data load.origs.members load.zeros.members))
room_tested machine frames load chain c l v k read listed before =
    let h = machine.hw in
    let after = told_listed h v chain.reader load (k - 4 + 1) read.read listed in
    want_listed h l.dump v l.loader (k - 4) before after
    ∙ room_is h l.dump v l.loader (length load.waiting.free) (length (with_data load.origs.members load.zeros.members)) (ap length read.loader.free) (ap length (data_are h v chain.reader load (k - 4 + 1) read.read after) ∙ sym (count_is h v))

content_of_room : (a w n : Option Reply) (r : Reply) → a ≡ None → w ≡ Some r → or_else a (or_else w n) ≡ Some r
content_of_room a w n r none some = ap (λ (x : Option Reply). or_else x (or_else w n)) none ∙ ap (λ (x : Option Reply). or_else x n) some

-- too little room
pub few_row : (machine : Machine) (frames : Memory) (load load' : Load) (chain : OpenChain) (why : Reply) → IsSome chain.reader.listed → room_refusal (length load.waiting.free) (length (with_data load.origs.members load.zeros.members)) ≡ Some why → load'.stage ≡ stage.Rest →
    ListsOn machine frames load chain machine frames load' why
few_row machine frames load load' chain why listed refused rest c l v k read before waits =
    let h = machine.hw in
    let want = room_tested machine frames load chain c l v k read listed before ∙ refused in
    let none = no_read_cause h v l.check (k - 4) read.sound in
    let stop : IsStop why = cause_ends h l v (k - 4) why (content_of_room (read_cause h v l.check (place (k - 4))) (want_cause h l.dump v l.loader (place (k - 4))) (next_cause h v (k - 4)) why none want) in (
      off nothing None,
      leads machine frames load' why c c (loading l k) (off nothing None) (stopped_early machine frames c why (loading l k) (off nothing None) stop)
          (read_stop_row h read.shown (shown_by machine frames load') c l v k why read.reading (room_reply h l.dump v l.loader l.check k why read.reading.late none want) stop (activity_is load' stage.Rest rest, refl)) tt,
    )

-- enough room: the places of the pages to come are planned
pub planned_row : (machine : Machine) (frames : Memory) (load mid : Load) (chain : OpenChain) (machine' : Machine) (frames' : Memory) (load' : Load) (r : Reply) → IsSome chain.reader.listed → mid ≡ record load { stage = mid.stage; waiting = mid.waiting } →
    mid.waiting.originals ≡ with_data load.origs.members load.zeros.members → mid.waiting.free ≡ load.waiting.free → mid.waiting.loaded ≡ 0 → room_refusal (length load.waiting.free) (length (with_data load.origs.members load.zeros.members)) ≡ None →
    ReadsOn machine frames mid chain machine' frames' load' r → ListsOn machine frames load chain machine' frames' load' r
planned_row machine frames load mid chain machine' frames' load' r listed is originals free loaded room goes c l v k read before waits =
    let h = machine.hw in
    let told_now = told_listed h v chain.reader load (k - 4 + 1) read.read listed in
    let n = (info_in h v).image_pages in
    let fewer : pages_read (k - 4 + 1) ≤ meta_in h v + 1 = elim (cases_lt 0 (pages_read (k - 4))) [
      | inl some ↦ (let more = more_to_read h v (pages_read (k - 4)) (omega arith) before in omega arith)
      | inr none ↦ omega arith
    ] in
    let check : mid.check ≡ load.check = ap (λ (x : Load). x.check) is in
    goes c l v k
    (record {
      shown = read.shown;
      whole = read.whole;
      reading = read.reading;
      loader = same_loader h load mid l free (ap (λ (x : Load). x.loader) is) check read.loader;
      found = read.found;
      sound = read.sound;
      read = subst (λ (x : Load). HasReader h v chain.reader x (k - 4 + 1)) (sym is) read.read;
      kept = read.kept;
      done = read.done;
    })
    (record {
      listed = told_now;
      originals = originals ∙ data_are h v chain.reader load (k - 4 + 1) read.read told_now;
      loaded = loaded ∙ (let fewer = fewer in omega arith);
      pages = ap (λ (n : ℕ). map (frame frames) (take n (sources mid.waiting.placement.moves))) loaded ∙ sym (ap (data_pages h v) loaded);
    })
    (room_tested machine frames load chain c l v k read listed before ∙ room)

-- Pages are still to come.

few_pages : (h : Hardware) (v : disk.DiskImage) (reader : Reading) (load : Load) (t : ℕ) → HasReader h v reader load t → reader.saved ≤ 65536 → told h v (pages_read t) ≡ Some (info_in h v).image_pages → (info_in h v).pages < 70000
few_pages h v reader load t read few told_now =
    let n = (info_in h v).image_pages in
    let whole = read.whole n (read.listed ∙ told_now) in
    let count = data_length h v in
    let same = read.saved in
    let is = saved_is h v (pages_read t) (all_read h v (pages_read t) told_now).0 in
    omega arith

pub going_row : (machine : Machine) (frames : Memory) (load : Load) (chain : OpenChain) (m : ℕ) → chain.reader.saved ≤ 65536 →
    ((h : Hardware) (v : disk.DiskImage) (t : ℕ) → HasReader h v chain.reader load t → (2 ≤ t) × (t ≡ place_count (info_in h v).pages) → IsTrue false) → (chain.done + 1 < 2 ^ 32 → m ≡ chain.done + 1) →
    ReadsOn machine frames load chain machine frames (record load { stage = stage.Read (record chain { done = m }) }) (reply.Loading m)
going_row machine frames load chain m few not_over counted c l v k read places room =
    let h = machine.hw in
    let late = read.reading.late in
    let within = read.reading.within in
    let two = two_places (info_in h v).pages in
    let more : k - 4 + 1 < place_count (info_in h v).pages = elim (cases_lt (k - 4 + 1) (place_count (info_in h v).pages)) [
      | inl lt ↦ lt
      | inr le ↦ absurd (false≢true (not_over h v (k - 4 + 1) read.read (omega arith, omega arith)))
    ] in
    let goes = goes_reply h l.dump v l.loader l.check k late read.sound room more in
    let small = few_pages h v chain.reader load (k - 4 + 1) read.read few places.listed in
    let done = read.done in
    let m_is : m ≡ k + 1 = counted (omega arith) ∙ ap (λ (n : ℕ). n + 1) done in
    let few_loaded : load.waiting.loaded ≤ length (data_frames h v) =
    (let whole = read.read.whole (info_in h v).image_pages (read.read.listed ∙ places.listed) in let is = places.loaded in omega arith) in
    let new = record load { stage = stage.Read (record chain { done = k + 1 }) } in
    let at : k - 4 + 1 ≡ k + 1 - 4 = omega arith in
    let shows : ShowsLoad h (shown_by machine frames new) l (k + 1) = record {
      activity = refl;
      shows = record {
        told = told_by load l read.loader;
        kept = read.kept;
        read = λ i own.
            let holds = subst (IsFoundOn h v) own read.found.found in
            let is : 4 + (k - 4 + 1) ≡ k + 1 = omega arith in
            ap₂ zip places.originals places.pages
            ∙ pages_are h v i (k - 4 + 1) load.waiting.loaded holds.0 (own_sayable h v i read.reading.hardware holds.1) places.loaded few_loaded ∙ ap (λ (n : ℕ). take (data_read i n) (image.with_data i)) is;
        read_other = λ w other.
            ap₂ zip places.originals places.pages ∙ ap (λ (m : ℕ). zip (data_frames h v) (data_pages h v m)) places.loaded
            ∙ other_pages h v w l (k - 4 + 1) (k + 1) (omega arith) read.found.found other;
      };
    } in
    subst (λ (n : ℕ). LeadsOn machine frames (record load { stage = stage.Read (record chain { done = n }) }) (reply.Loading n) c l k) (sym m_is) (
      loading l (k + 1),
      leads machine frames new (reply.Loading (k + 1)) c c (loading l k) (loading l (k + 1)) tt
          (read_row h read.shown (shown_by machine frames new) c l v k read.reading goes shows)
          (record {
            free = read.loader.free;
            knows = (
              v,
              read.found,
              gone_next h l v k read.reading.gone_on goes,
              omega arith,
              subst (λ (t : ℕ). HasReader h v chain.reader load t) at read.read,
              subst (λ (t : ℕ). HavePlaces h v frames load.waiting t) at places,
            );
          }),
    )

-- a row that leads to what is there in the end
pub reads_row_of : (machine : Machine) (frames : Memory) (load : Load) (chain : OpenChain) (machine' : Machine) (frames' : Memory) (load' end : Load) (r told : Reply) → end ≡ load' → told ≡ r → ReadsOn machine frames load chain machine' frames' load' r → ReadsOn machine frames load chain machine' frames' end told
reads_row_of machine frames load chain machine' frames' load' end r told same reply row =
    subst (λ (x : Load). ReadsOn machine frames load chain machine' frames' x told) (sym same) (subst (λ (q : Reply). ReadsOn machine frames load chain machine' frames' load' q) (sym reply) row)

-- The reads of the pages.

pub read_can : (machine : Machine) (frames : Memory) (runs : SlotRuns) (load : Load) (chain : OpenChain) → load.stage ≡ stage.Read chain → CanStep machine frames runs load →
    CanRead machine.blocks chain.reader load.origs.members load.zeros.members × (4 ≤ chain.done) × (load.waiting.placement.ready ≡ true)
read_can machine frames runs load chain at can = subst (λ (s : Stage). CanMake s machine frames runs load) at can.next

-- a stage that reads has a chain whose pages have their places
pub reads_pages : (machine : Machine) (frames : Memory) (runs : SlotRuns) (load : Load) → CanStep machine frames runs load → reads_at load.stage → ReadsPages load.stage machine load
reads_pages machine frames runs load can at = by load.stage can.next at where
  by : (s : Stage) → CanMake s machine frames runs load → reads_at s → ReadsPages s machine load
  by (stage.Read chain) next at = (next.0, next.2)
  by stage.Rest next at = absurd at
  by stage.Runs next at = absurd at
  by stage.Sync next at = absurd at
  by stage.Find next at = absurd at
  by (stage.Back unmark mark) next at = absurd at
  by (stage.List chain) next at = absurd at

-- after a block without a cause the next step can be made, however many pages are counted
pub can_go_on : (machine : Machine) (frames frames' : Memory) (runs : SlotRuns) (load load' : Load) (waiting : Awaiting) (content : Option disk.Content) (result : ReadStep) → CanStep machine frames runs load → HasReadInPlace machine frames load content result frames' load' → length frames' ≡ length frames →
    load'.origs.zones ≡ load.origs.zones → load'.zeros.zones ≡ load.zeros.zones → waiting ≡ record load.waiting { loaded = waiting.loaded } → HasNoCause result → CanStep machine frames' runs (record load' { waiting = waiting })
can_go_on machine frames frames' runs load load' waiting content result can read size origs zeros same none =
    let over = can.over in
    let chain' = record read.chain { reader = read.reader } in
    let was = read_can machine frames runs load read.chain read.was can in
    let next : CanMake (stage.Read chain') machine frames' runs (record load' { waiting = waiting }) = (
      record { ready = may_go_on result read.chain.reader read.reader load'.origs.members load'.zeros.members none read.goes_on; within = read.within },
      was.1,
      ap (λ (w : Awaiting). w.placement.ready) same ∙ was.2,
    ) in
    record {
      over = record {
        hardware = over.hardware;
        few = over.few;
        size = size ∙ over.size;
        table = (let lies = over.table in omega arith);
        room = over.room;
        origs = origs ∙ over.origs;
        zeros = zeros ∙ over.zeros;
        waiting = ap (λ (w : Awaiting). w.zones) same ∙ over.waiting;
      };
      next = subst (λ (s : Stage). CanMake s machine frames' runs (record load' { waiting = waiting })) (sym read.stays) next;
    }

-- the resume as it reads on
pub now_reads : (load load' : Load) (chain : OpenChain) → load' ≡ record load { stage = load'.stage; origs = load'.origs; zeros = load'.zeros; page = load'.page } → load'.stage ≡ stage.Read chain → load' ≡ record load { stage = stage.Read chain; origs = load'.origs; zeros = load'.zeros; page = load'.page }
now_reads load load' chain is at = is ∙ ap (λ (s : Stage). record load { stage = s; origs = load'.origs; zeros = load'.zeros; page = load'.page }) at

cause_stop : (x : Cause) → IsStop (reply_of x)
cause_stop cause.NoChain = tt
cause_stop (cause.BadBlock b) = tt
cause_stop (cause.ChainEnds m) = tt
cause_stop (cause.Mismatch f) = tt
cause_stop (cause.MemorySize i o) = tt
cause_stop (cause.BadCounts i p) = tt
cause_stop (cause.BadPfn p) = tt
cause_stop (cause.PfnOrder a b) = tt
cause_stop (cause.PfnEnd f) = tt

-- the image can't be read further
pub refused_row : (machine : Machine) (frames frames' : Memory) (load mid load' : Load) (chain chain' : OpenChain) (result : ReadStep) (why : Cause) (c : disk.Content) → IsHardware machine.hw → load.stage ≡ stage.Read chain → 4 ≤ chain.done → result ≡ read_step.Refused why →
    ((v : disk.DiskImage) (t : ℕ) → HasReader machine.hw v chain.reader load t → Reads machine.hw v (Some c) → AnswersFor machine.hw v t result chain chain' load mid) → load'.stage ≡ stage.Rest → Simulates machine frames load machine frames' load' (event.Step actor.Core) (reply_of why) c c
refused_row machine frames frames' load mid load' chain chain' result why c hardware at late is answers rest =
    row_at_load machine frames load machine frames' load' (event.Step actor.Core) (reply_of why) c c chain.done (activity_is load (stage.Read chain) at)
    (λ l s.
    let h = machine.hw in
    let k = chain.done in
    let knows = knows_at machine frames load c l k (stage.Read chain) at s in
    let v = knows.0 in
    let a = subst (λ (x : ReadStep). AnswersFor h v (k - 4) x chain chain' load mid) is (answers v (k - 4) knows.4 knows.1.reads) in
    let cause : cause_with h v l.check None (k - 4) ≡ Some (reply_of why) = subst (λ (x : IdentCheck). cause_with h v x None (k - 4) ≡ Some (reply_of why)) (loader_of machine frames load c l k s).check a.0 in
    let want = no_want_after h l.dump v l.loader (k - 4) knows.5.listed in (
      off nothing None,
      leads machine frames' load' (reply_of why) c c (loading l k) (off nothing None) (stopped_early machine frames' c (reply_of why) (loading l k) (off nothing None) (cause_stop why))
          (read_stop_row h (shown_by machine frames load) (shown_by machine frames' load') c l v k (reply_of why)
          (record { hardware = hardware; late = late; within = knows.3; stands = s.stands; found = knows.1.found; gone_on = knows.2 })
          (stops_reply h l.dump v l.loader l.check k (reply_of why) late cause want) (cause_stop why) (activity_is load' stage.Rest rest, refl)) tt,
    ))

-- what the step leaves of the places, for the places before
abbrev pub KeepsPlaces : Hardware → Memory → Awaiting → Memory → Awaiting → OpenChain → OpenChain → Load → Load → ReadStep → Type 0
KeepsPlaces h frames waiting frames' waiting' chain chain' load mid result =
    (v : disk.DiskImage) (t : ℕ) → HasReader h v chain.reader load t → AnswersFor h v t result chain chain' load mid → t < place_count (info_in h v).pages → HavePlaces h v frames waiting t → HavePlaces h v frames' waiting' (t + 1)

-- the row of a read, with the places as they are afterwards
pub read_on_row : (machine : Machine) (frames frames' : Memory) (load mid after : Load) (chain chain' : OpenChain) (machine' : Machine) (frames'' : Memory) (load' : Load) (result : ReadStep) (r : Reply) (c : disk.Content) → IsHardware machine.hw → load.stage ≡ stage.Read chain → 4 ≤ chain.done → machine'.hw ≡ machine.hw →
    disk.IsContent machine.blocks c → mid ≡ record load { stage = mid.stage; origs = mid.origs; zeros = mid.zeros; page = mid.page } → chain' ≡ record chain { reader = chain'.reader } → after ≡ record mid { waiting = after.waiting; page = after.page } → after.waiting.free ≡ mid.waiting.free → HasNoCause result →
    ((p : ℕ) → (Contains load.waiting.free p → ⊥) → frame frames' p ≡ frame frames p) →
    ((v : disk.DiskImage) (t : ℕ) → HasReader machine.hw v chain.reader load t → Reads machine.hw v (Some c) → AnswersFor machine.hw v t result chain chain' load mid) → KeepsPlaces machine.hw frames load.waiting frames' after.waiting chain chain' load mid result →
    ReadsOn machine frames' after chain' machine' frames'' load' r → Simulates machine frames load machine' frames'' load' (event.Step actor.Core) r c c
read_on_row machine frames frames' load mid after chain chain' machine' frames'' load' result r c hardware at late same whole is is_chain is' free none others answers keeps goes =
    row_at_load machine frames load machine' frames'' load' (event.Step actor.Core) r c c chain.done (activity_is load (stage.Read chain) at)
    (λ l s.
    let h = machine.hw in
    let knows = knows_at machine frames load c l chain.done (stage.Read chain) at s in
    let v = knows.0 in
    let t = chain.done - 4 in
    let was = knows.4 in
    let within : t < place_count (info_in h v).pages = (let lt = knows.3 in omega arith) in
    let check : mid.check ≡ load.check = ap (λ (x : Load). x.check) is in
    let check' : after.check ≡ load.check = ap (λ (x : Load). x.check) is' ∙ check in
    let waiting : mid.waiting ≡ load.waiting = ap (λ (x : Load). x.waiting) is in
    let free' : after.waiting.free ≡ load.waiting.free = free ∙ ap (λ (w : Awaiting). w.free) waiting in
    let answered = answers v t was knows.1.reads in
    let read = read_on h v t result chain chain' load mid check was within none answered in
    let led = goes c l v chain.done
    (record {
      shown = shown_by machine frames load;
      whole = whole;
      reading = record { hardware = hardware; late = late; within = knows.3; stands = s.stands; found = knows.1.found; gone_on = knows.2 };
      loader = same_loader h load after l free' (ap (λ (x : Load). x.loader) is' ∙ ap (λ (x : Load). x.loader) is) check' (loader_of machine frames load c l chain.done s);
      found = found_in machine chain chain' c l v is_chain knows.1;
      sound = subst (λ (x : IdentCheck). cause_with h v x None t ≡ None) (loader_of machine frames load c l chain.done s).check read.0;
      read = subst (λ (x : Load). HasReader h v chain'.reader x (t + 1)) (sym is') read.1;
      kept = λ p lt not. others p (λ has. not (subst (λ (ps : List ℕ). Contains ps p) s.resume.free has)) ∙ s.stands.parts.resume.shows.kept p lt not;
      done = ap (λ (x : OpenChain). x.done) is_chain;
    })
    (keeps v t was answered within knows.5)
    (no_want_after h l.dump v l.loader t knows.5.listed) in (
      led.0,
      subst (λ (x : Hardware). rows.StepsTo x (StandsAfter machine' frames'' load' r (loading l chain.done)) (event.Step actor.Core) r c c (loading l chain.done) led.0) same led.1,
    ))

-- the place of a page after the last number page: it is one with data, of those that the numbers name
pub record IsDataPlace (h : Hardware) (v : disk.DiskImage) (t : ℕ) : Type 0 where
  pub behind : meta_in h v < pages_read t
  pub within : pages_read t - 1 - meta_in h v < length (data_frames h v)

data_place : (h : Hardware) (v : disk.DiskImage) (reader : Reading) (load : Load) (t : ℕ) → HasReader h v reader load t → told h v (pages_read t) ≡ Some (info_in h v).image_pages → t < place_count (info_in h v).pages → (t % 512 ≡ 0 → ⊥) → IsDataPlace h v t
data_place h v reader load t read told_now within page =
    let n = (info_in h v).image_pages in
    let all = all_read h v (pages_read t) told_now in
    let least = all.1 in
    let some = all.0 in
    let whole = read.whole n (read.listed ∙ told_now) in
    let left = pages_left t (info_in h v).pages page within in
    record { behind = omega arith; within = omega arith }

-- a map leaves the places, and a page gets its own
map_leaves : (h : Hardware) (v : disk.DiskImage) (frames frames' : Memory) (waiting : Awaiting) (t : ℕ) → t % 512 ≡ 0 → waiting_pages frames' waiting ≡ waiting_pages frames waiting → HavePlaces h v frames waiting t → HavePlaces h v frames' waiting (t + 1)
map_leaves h v frames frames' waiting t map stay places =
    let same = read_at_map t map in
    record {
      listed = ap (told h v) same ∙ places.listed;
      originals = places.originals;
      loaded = places.loaded ∙ ap (λ (j : ℕ). j - 1 - meta_in h v) (sym same);
      pages = stay ∙ places.pages;
    }

some_frame : (h : Hardware) (v : disk.DiskImage) (t : ℕ) → IsDataPlace h v t → (t % 512 ≡ 0 → ⊥) → frame_at h v (place t) ≡ None → ⊥
some_frame h v t at page none =
    let is : frame_at h v (place t) ≡ Some (get_or (data_frames h v) (pages_read t - 1 - meta_in h v) 0) =
    ap (frame_at h v) (at_page t page)
    ∙ cond-true (ltb (meta_in h v) (pages_read t)) (slice_get (data_frames h v) (pages_read t - 1 - meta_in h v)) None (lt-ltb (meta_in h v) (pages_read t) at.behind)
    ∙ slice_get-get_or (data_frames h v) (pages_read t - 1 - meta_in h v) 0 at.within in
    none-some (get_or (data_frames h v) (pages_read t - 1 - meta_in h v) 0) (sym none ∙ is)

pub map_keeps : (h : Hardware) (frames frames' : Memory) (waiting : Awaiting) (chain chain' : OpenChain) (load mid : Load) (result : ReadStep) → ((k : ℕ) × (result ≡ read_step.More k)) ⊎ (result ≡ read_step.Done) → waiting_pages frames' waiting ≡ waiting_pages frames waiting →
    KeepsPlaces h frames waiting frames' waiting chain chain' load mid result
map_keeps h frames frames' waiting chain chain' load mid result is stay v t read answered within places = elim is [
  | inl more ↦ elim (eqb_tells (t % 512) 0) [
    | inl map ↦ map_leaves h v frames frames' waiting t map.1 stay places
    | inr page ↦ (
        let a = subst (λ (s : ReadStep). AnswersFor h v t s chain chain' load mid) more.1 answered in
        absurd (some_frame h v t (data_place h v chain.reader load t read places.listed within page.1) page.1 a.2))
  ]
  | inr done ↦ (
      let a = subst (λ (s : ReadStep). AnswersFor h v t s chain chain' load mid) done answered in
      absurd (not_over h v chain.reader load t read within a.0))
]

page_placed : (h : Hardware) (v : disk.DiskImage) (frames frames' : Memory) (waiting waiting' : Awaiting) (t : ℕ) (page : List ℕ) → HavePlaces h v frames waiting t → (t % 512 ≡ 0 → ⊥) → IsDataPlace h v t → page ≡ disk.block v (place_block h v (place t)) → waiting'.originals ≡ waiting.originals →
    (waiting.loaded < length waiting.originals → waiting_pages frames' waiting' ≡ waiting_pages frames waiting ++ page ∷ []) → (waiting.loaded < length waiting.originals → waiting'.loaded ≡ waiting.loaded + 1) → HavePlaces h v frames' waiting' (t + 1)
page_placed h v frames frames' waiting waiting' t page places here at is originals placed counted =
    let j = pages_read t in
    let n = (info_in h v).image_pages in
    let next = read_at_page t here in
    let behind = at.behind in
    let index = places.loaded in
    let count = ap length places.originals in
    let inside = at.within in
    let below : waiting.loaded < length waiting.originals = omega arith in
    let all = all_read h v j places.listed in
    let enough = all.1 in
    let numbers : numbers_read h v (pages_read (t + 1)) ≡ n = (let saved = saved_is h v (pages_read (t + 1)) (omega arith) in omega arith) in
    let loaded = counted below in
    let this : j ≡ 1 + meta_in h v + waiting.loaded = omega arith in
    let stream_at : page ≡ data_page h v waiting.loaded = is ∙ ap (λ (x : Place). disk.block v (place_block h v x)) (at_page t here) ∙ ap (stream_page h v) this in
    record {
      listed = told_all h v (pages_read (t + 1)) (omega arith) numbers;
      originals = originals ∙ places.originals;
      loaded = loaded ∙ (let e : waiting.loaded + 1 ≡ pages_read (t + 1) - 1 - meta_in h v = omega arith in e);
      pages =
          placed below
          ∙ ap₂ (λ (xs : List (List ℕ)) (x : List ℕ). xs ++ x ∷ []) places.pages stream_at
          ∙ sym (map-range_with_len_more (data_page h v) 0 waiting.loaded waiting.loaded (omega arith))
          ∙ sym (ap (data_pages h v) loaded);
    }

pub page_keeps : (h : Hardware) (frames frames' : Memory) (waiting waiting' : Awaiting) (chain chain' : OpenChain) (load mid : Load) (result : ReadStep) (pfn : ℕ) → result ≡ read_step.Page pfn → waiting'.originals ≡ waiting.originals →
    (waiting.loaded < length waiting.originals → waiting_pages frames' waiting' ≡ waiting_pages frames waiting ++ mid.page ∷ []) → (waiting.loaded < length waiting.originals → waiting'.loaded ≡ waiting.loaded + 1) → KeepsPlaces h frames waiting frames' waiting' chain chain' load mid result
page_keeps h frames frames' waiting waiting' chain chain' load mid result pfn is originals placed counted v t read answered within places =
    let a = subst (λ (s : ReadStep). AnswersFor h v t s chain chain' load mid) is answered in
    elim (eqb_tells (t % 512) 0) [
      | inl map ↦ absurd (none-some pfn (ap (frame_at h v) (sym (at_map t map.1)) ∙ a.2))
      | inr page ↦ page_placed h v frames frames' waiting waiting' t mid.page places page.1 (data_place h v chain.reader load t read places.listed within page.1) a.3 originals placed counted
    ]

pub no_page : (result : ReadStep) → ((k : ℕ) × (result ≡ read_step.More k)) ⊎ (result ≡ read_step.Done) → HasNoCause result
no_page result is = elim is [ inl more ↦ inl more | inr done ↦ inr (inr done) ]

-- A refusal before all is listed, or after the last number page.

first_cause : (a w n : Option Reply) (x r : Reply) → a ≡ Some x → or_else a n ≡ Some r → or_else a (or_else w n) ≡ Some r
first_cause a w n x r e some = ap (λ (y : Option Reply). or_else y (or_else w n)) e ∙ sym (ap (λ (y : Option Reply). or_else y n) e) ∙ some

with_room : (a w n : Option Reply) (r : Reply) → w ≡ None → or_else a n ≡ Some r → or_else a (or_else w n) ≡ Some r
with_room a w n r none some = ap (λ (y : Option Reply). or_else a (or_else y n)) none ∙ some

behind_room : (h : Hardware) (dump : Memory) (v : disk.DiskImage) (loader : Loader) (check : IdentCheck) (t have d n : ℕ) (why : Cause) → cause_with h v check None t ≡ Some (reply_of why) → read_cause h v check (place t) ≡ None → want_cause h dump v loader (place t) ≡ room_refusal have d →
    cause_at h dump v loader check t ≡ Some (refusal_behind (Some n) have d why)
behind_room h dump v loader check t have d n why some none want = by (room_refusal have d) refl where
  by : (o : Option Reply) → room_refusal have d ≡ o → cause_at h dump v loader check t ≡ Some (refusal_behind (Some n) have d why)
  by None e =
      with_room (read_cause h v check (place t)) (want_cause h dump v loader (place t)) (next_cause h v t) (reply_of why) (want ∙ e) some
      ∙ ap (λ (r : Reply). Some r) (refusal_cause (Some n) have d why e)
  by (Some few) e =
      content_of_room (read_cause h v check (place t)) (want_cause h dump v loader (place t)) (next_cause h v t) few none (want ∙ e)
      ∙ ap (λ (r : Reply). Some r) (refusal_few (Some n) have d why few refl e)

-- what the reply is, by what the reader has listed then
pub refusal_is : (h : Hardware) (dump : Memory) (v : disk.DiskImage) (loader : Loader) (check : IdentCheck) (t have d : ℕ) (listed : Option ℕ) (why : Cause) → cause_with h v check None t ≡ Some (reply_of why) → listed ≡ told_after h v check t → told h v (pages_read t) ≡ None →
    have ≡ length (left_free h dump loader) → ((n : ℕ) → listed ≡ Some n → d ≡ d_in h v) → cause_at h dump v loader check t ≡ Some (refusal_behind listed have d why)
refusal_is h dump v loader check t have d listed why some is before free count = by_read (read_cause h v check (place t)) refl where
  by_told : (o : Option ℕ) → told h v (pages_read (t + 1)) ≡ o → listed ≡ told h v (pages_read (t + 1)) → read_cause h v check (place t) ≡ None → cause_at h dump v loader check t ≡ Some (refusal_behind listed have d why)
  by_told None e same none =
      with_room (read_cause h v check (place t)) (want_cause h dump v loader (place t)) (next_cause h v t) (reply_of why) (no_want_before h dump v loader t e) some
      ∙ ap (λ (o : Option ℕ). Some (refusal_behind o have d why)) (sym (same ∙ e))
  by_told (Some n) e same none =
      let all = told_some h v (pages_read (t + 1)) (subst IsSome (sym e) refl) in
      behind_room h dump v loader check t have d n why some none (want_listed h dump v loader t before all ∙ room_is h dump v loader have d free (count n (same ∙ e)))
      ∙ ap (λ (o : Option ℕ). Some (refusal_behind o have d why)) (sym (same ∙ e))

  by_read : (o : Option Reply) → read_cause h v check (place t) ≡ o → cause_at h dump v loader check t ≡ Some (refusal_behind listed have d why)
  by_read None e = by_told (told h v (pages_read (t + 1))) refl (is ∙ ap (λ (o : Option Reply). cond (is_none o) (told h v (pages_read (t + 1))) (told h v (pages_read t))) e) e
  by_read (Some x) e =
      first_cause (read_cause h v check (place t)) (want_cause h dump v loader (place t)) (next_cause h v t) x (reply_of why) e some
      ∙ ap (λ (o : Option ℕ). Some (refusal_behind o have d why)) (sym (is ∙ ap (λ (o : Option Reply). cond (is_none o) (told h v (pages_read (t + 1))) (told h v (pages_read t))) e ∙ before))

pub refused_list_row : (machine : Machine) (frames : Memory) (load mid load' : Load) (chain chain' : OpenChain) (result : ReadStep) (why : Cause) (r : Reply) (c : disk.Content) → IsHardware machine.hw → load.stage ≡ stage.List chain → 4 ≤ chain.done →
    mid ≡ record load { stage = mid.stage; origs = mid.origs; zeros = mid.zeros; page = mid.page } → result ≡ read_step.Refused why →
    ((v : disk.DiskImage) (t : ℕ) → HasReader machine.hw v chain.reader load t → Reads machine.hw v (Some c) → AnswersFor machine.hw v t result chain chain' load mid) →
    r ≡ refusal_behind chain'.reader.listed (length mid.waiting.free) (length (with_data mid.origs.members mid.zeros.members)) why → load'.stage ≡ stage.Rest → Simulates machine frames load machine frames load' (event.Step actor.Core) r c c
refused_list_row machine frames load mid load' chain chain' result why r c hardware at late is refused answers reply rest =
    row_at_load machine frames load machine frames load' (event.Step actor.Core) r c c chain.done (activity_is load (stage.List chain) at)
    (λ l s.
    let h = machine.hw in
    let k = chain.done in
    let knows = knows_at machine frames load c l k (stage.List chain) at s in
    let v = knows.0 in
    let a = subst (λ (x : ReadStep). AnswersFor h v (k - 4) x chain chain' load mid) refused (answers v (k - 4) knows.4 knows.1.reads) in
    let checks = (loader_of machine frames load c l k s).check in
    let free : length mid.waiting.free ≡ length (left_free h l.dump l.loader) = ap (λ (x : Load). length x.waiting.free) is ∙ ap length s.resume.free in
    let causes : cause_at h l.dump v l.loader load.check (k - 4) ≡ Some r =
    refusal_is h l.dump v l.loader load.check (k - 4) (length mid.waiting.free) (length (with_data mid.origs.members mid.zeros.members)) chain'.reader.listed why a.0 a.1 knows.5 free
    (λ n listed. let sets = a.2 n listed in ap length (listed_data h v mid.origs.members mid.zeros.members sets.frames sets.marks sets.rising) ∙ sym (count_is h v))
    ∙ ap (λ (x : Reply). Some x) (sym reply) in
    let cause : cause_at h l.dump v l.loader l.check (k - 4) ≡ Some r = subst (λ (x : IdentCheck). cause_at h l.dump v l.loader x (k - 4) ≡ Some r) checks causes in (
      off nothing None,
      leads machine frames load' r c c (loading l k) (off nothing None) (stopped_early machine frames c r (loading l k) (off nothing None) (cause_ends h l v (k - 4) r cause))
          (read_stop_row h (shown_by machine frames load) (shown_by machine frames load') c l v k r
          (record { hardware = hardware; late = late; within = knows.3; stands = s.stands; found = knows.1.found; gone_on = knows.2 })
          (late_reply h l.dump v l.loader l.check k late ∙ ap (λ (o : Option Reply). unwrap_or o (reply_past h l.dump v l.loader k)) cause)
          (cause_ends h l v (k - 4) r cause) (activity_is load' stage.Rest rest, refl)) tt,
    ))
