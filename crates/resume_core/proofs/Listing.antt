-- The rows of the reads up to the last number page.
use Rattle.std.proofs.Common.{◌≡◌, ◌<◌, ◌≤◌, ◌⊎◌, inl, inr, ℕ, ◌+◌, ◌-◌, ◌*◌, ◌^◌, List, [], take, Some, None, refl, sym, ap, ◌∙◌, subst, arith}
use Rattle.std.specs.List.{zip}
use Rattle.definitions.specs.Disk as disk
use Rattle.image_read.specs.Answers.{Reads, Answers, GoesOn}
use Rattle.image_read.specs.Reading.{Reading, HasReadAll, IsReady, places_left}
use Rattle.image_read.specs.Stream as stream
use Rattle.image_read.specs.Stream.{pages_read, told, known_pages}
use Rattle.image_read.specs.declared.reader.ReadStep.{ReadStep}
use Rattle.image_read.specs.declared.reader.ReadStep.TheVariants as read_step
use Rattle.placement.specs.Waiting.{waiting_pages}
use Rattle.plain_machine.specs.Machine.{Hardware, Memory}
use Rattle.plain_machine.specs.Image.{Image, with_data}
use Rattle.plain_machine.specs.Shows.{loads}
use Rattle.plain_machine.specs.Stands.{data_read}
use Rattle.plain_machine.specs.State.{off, loading, nothing, found_own, Load as Resume}
use Rattle.plain_machine.specs.Trace.{info_in, place_count, data_frames, data_pages, cause_with}
use Rattle.plain_machine.specs.declared.event.Event.TheVariants as event
use Rattle.plain_machine.specs.declared.event.Actor.TheVariants as actor
use Rattle.plain_machine.specs.declared.reply.Reply.{Reply}
use Rattle.plain_machine.specs.declared.reply.Reply.TheVariants as reply
use Rattle.plain_machine.specs.declared.reply.Left.TheVariants.{Gone}
use Rattle.protocol_laws.specs.LoadRows.{IsFoundOn, IsBeforeRead}
use Rattle.protocol_laws.proofs.OwnCauses.{own_sayable}
use Rattle.protocol_laws.specs.Loads.{ShowsLoad}
use Rattle.protocol_laws.specs.Rows as rows
use Rattle.machine.specs.declared.machine.Machine.{Machine}
use Rattle.swap_slots.specs.Runs.{SlotRuns}
use Rattle.resume_core.specs.Loading.{shown_by, activity_of}
use Rattle.resume_core.specs.Ready.{CanStep, CanMake, CanRead}
use Rattle.resume_core.specs.Row.{ResumeStandsFor, StandsAfter, HasFound, HasReader, Simulates, ListsOn, LeadsOn}
use Rattle.resume_core.specs.declared.load.Load.{Load}
use Rattle.resume_core.specs.declared.load.OpenChain.{OpenChain}
use Rattle.resume_core.specs.declared.load.Stage.{Stage}
use Rattle.resume_core.specs.declared.load.Stage.TheVariants as stage
use Rattle.std.proofs.lemmas.Bool.{cases_lt}
use Rattle.image_read.proofs.Places.{two_places, some_read, none_read}
use Rattle.image_read.proofs.Read.{known, saved_is}
use Rattle.placement.specs.Waiting.{Awaiting}
use Rattle.plain_machine.specs.Machine.{IsHardware}
use Rattle.plain_machine.specs.declared.event.IdentCheck.{IdentCheck}
use Rattle.resume_core.proofs.Facts.{row_at_load, leads, same_loader, loader_of, told_by}
use Rattle.resume_core.proofs.Finding.{knows_at, activity_is}
use Rattle.resume_core.proofs.Answering.{goes_reply, no_want_before, more_to_read}
use Rattle.protocol_laws.proofs.LoadRows.{read_row, read_fault_row}
use Rattle.protocol_laws.proofs.LoadReplies.{gone_next}
use Rattle.protocol_laws.proofs.LoadRows.{zip-nil}
use Rattle.restore_laws.specs.DataPages.{data_before}
use Rattle.restore_laws.proofs.DataPlaces.{none_before}
use Rattle.resume_core.proofs.OwnImage.{none_read_yet, other_pages}

-- a resume that reads blocks of the chain, by the state that it stands for
abbrev pub IsAtRead : Machine → Memory → Load → OpenChain → disk.Content → Type 0
IsAtRead machine frames load chain c = (l : Resume) → ResumeStandsFor machine frames load c (loading l chain.done) → (v : disk.DiskImage) × IsBeforeRead machine.hw (shown_by machine frames load) c l v chain.done

pub at_list : (machine : Machine) (frames : Memory) (load : Load) (chain : OpenChain) (c : disk.Content) → IsHardware machine.hw → load.stage ≡ stage.List chain → 4 ≤ chain.done → IsAtRead machine frames load chain c
at_list machine frames load chain c hw at late l s =
    let knows = knows_at machine frames load c l chain.done (stage.List chain) at s in
    (knows.0, record { hardware = hw; late = late; within = knows.3; stands = s.stands; found = knows.1.found; gone_on = knows.2 })

pub at_read : (machine : Machine) (frames : Memory) (load : Load) (chain : OpenChain) (c : disk.Content) → IsHardware machine.hw → load.stage ≡ stage.Read chain → 4 ≤ chain.done → IsAtRead machine frames load chain c
at_read machine frames load chain c hw at late l s =
    let knows = knows_at machine frames load c l chain.done (stage.Read chain) at s in
    (knows.0, record { hardware = hw; late = late; within = knows.3; stands = s.stands; found = knows.1.found; gone_on = knows.2 })

-- the disk fails at a read
pub read_failed_row : (machine : Machine) (frames frames' : Memory) (load load' : Load) (chain : OpenChain) (c : disk.Content) → activity_of load ≡ loads chain.done → IsAtRead machine frames load chain c → load'.stage ≡ stage.Rest →
    Simulates machine frames load machine frames' load' (event.Step actor.Core) (reply.ReadFault Gone) c c
read_failed_row machine frames frames' load load' chain c is reads rest =
    row_at_load machine frames load machine frames' load' (event.Step actor.Core) (reply.ReadFault Gone) c c chain.done is
    (λ l s. (
      off nothing None,
      leads machine frames' load' (reply.ReadFault Gone) c c (loading l chain.done) (off nothing None) tt
          (let at = reads l s in read_fault_row machine.hw (shown_by machine frames load) (shown_by machine frames' load') c l at.0 chain.done at.1 (activity_is load' stage.Rest rest, refl)) tt,
    ))

-- up to here few blocks are read
few_listed : (t n : ℕ) → n ≤ 65536 → (1 ≤ pages_read t → 512 * (pages_read t - 1) < n) → t < 200
few_listed t n few more = elim (cases_lt t 2) [
  | inl lt ↦ omega arith
  | inr le ↦ (let m = more (some_read t le) in omega arith)
]

-- more blocks are wanted, as more numbers are
more_listed : (h : Hardware) (v : disk.DiskImage) (reader : Reading) (load : Load) (t : ℕ) (read : HasReader h v reader load t) → told h v (pages_read t) ≡ None → t < place_count (info_in h v).pages
more_listed h v reader load t read none =
    let pages = (info_in h v).pages in
    let n = (info_in h v).image_pages in
    elim (cases_lt t 2) [
      | inl lt ↦ (let two = two_places pages in omega arith)
      | inr le ↦ (
          let some = some_read t le in
          let more = more_to_read h v (pages_read t) some none in
          let least = (read.counts some).least in
          omega arith)
    ]

few_made : (h : Hardware) (v : disk.DiskImage) (reader : Reading) (load : Load) (t : ℕ) → HasReader h v reader load t → reader.saved ≤ 65536 → told h v (pages_read t) ≡ None → t < 200
few_made h v reader load t read few none =
    let same = read.saved in
    elim (cases_lt t 2) [
      | inl lt ↦ omega arith
      | inr le ↦ (
          let is = saved_is h v (pages_read t) (some_read t le) in
          few_listed t (info_in h v).image_pages (omega arith) (λ some. more_to_read h v (pages_read t) some none))
    ]

-- the page frames that wait are none, as those of an own image
none_shown : (h : Hardware) (v : disk.DiskImage) (l : Resume) (i : Image) (t k : ℕ) → IsHardware h → 4 + t ≡ k → IsFoundOn h v l.found → l.found ≡ found_own i → told h v (pages_read t) ≡ None → [] ≡ take (data_read i k) (with_data i)
none_shown h v l i t k hw is found own none =
    let holds = subst (IsFoundOn h v) own found in
    let zero : data_read i k ≡ 0 = subst (λ (n : ℕ). data_read i n ≡ 0) is (none_read_yet h v i t holds.0 holds.1 (own_sayable h v i hw holds.1) none) in
    sym (ap (λ (n : ℕ). take n (with_data i)) zero)

-- numbers are still to come
pub more_row : (machine : Machine) (frames : Memory) (load : Load) (chain : OpenChain) (m : ℕ) → chain.reader.saved ≤ 65536 → chain.reader.listed ≡ None → (chain.done + 1 < 2 ^ 32 → m ≡ chain.done + 1) →
    ListsOn machine frames load chain machine frames (record load { stage = stage.List (record chain { done = m }) }) (reply.Loading m)
more_row machine frames load chain m few unlisted counted c l v k read none waits =
    let h = machine.hw in
    let late = read.reading.late in
    let reader = chain.reader in
    let none' : told h v (pages_read (k - 4 + 1)) ≡ None = sym read.read.listed ∙ unlisted in
    let more = more_listed h v reader load (k - 4 + 1) read.read none' in
    let goes = goes_reply h l.dump v l.loader l.check k late read.sound (no_want_before h l.dump v l.loader (k - 4) none') more in
    let small = few_made h v reader load (k - 4 + 1) read.read few none' in
    let done = read.done in
    let m_is : m ≡ k + 1 = counted (omega arith) ∙ ap (λ (n : ℕ). n + 1) done in
    let new = record load { stage = stage.List (record chain { done = k + 1 }) } in
    let at : k - 4 + 1 ≡ k + 1 - 4 = omega arith in
    let shows : ShowsLoad h (shown_by machine frames new) l (k + 1) = record {
      activity = refl;
      shows = record {
        told = told_by load l read.loader;
        kept = read.kept;
        read = λ i own. ap (λ (xs : List ℕ). zip xs (waiting_pages frames load.waiting)) waits ∙ none_shown h v l i (k - 4 + 1) (k + 1) read.reading.hardware (omega arith) read.found.found own none';
        read_other = λ w other.
            ap (λ (xs : List ℕ). zip xs (waiting_pages frames load.waiting)) waits
            ∙ sym (zip-nil (data_frames h v) (data_pages h v (data_before h v (k - 4 + 1))) (ap (data_pages h v) (none_before h v (k - 4 + 1) none')))
            ∙ other_pages h v w l (k - 4 + 1) (k + 1) (omega arith) read.found.found other;
      };
    } in
    subst (λ (n : ℕ). LeadsOn machine frames (record load { stage = stage.List (record chain { done = n }) }) (reply.Loading n) c l k) (sym m_is) (
      loading l (k + 1),
      leads machine frames new (reply.Loading (k + 1)) c c (loading l k) (loading l (k + 1)) tt
          (read_row h read.shown (shown_by machine frames new) c l v k read.reading goes shows)
          (record {
            free = read.loader.free;
            knows = (
              v,
              read.found,
              gone_next h l v k read.reading.gone_on goes,
              omega arith,
              subst (λ (t : ℕ). HasReader h v reader load t) at read.read,
              subst (λ (t : ℕ). told h v (pages_read t) ≡ None) at none',
              waits,
            );
          }),
    )

-- A block that was read, as what follows takes it.

pub not_over : (h : Hardware) (v : disk.DiskImage) (reader : Reading) (load : Load) (t : ℕ) → HasReader h v reader load t → t < place_count (info_in h v).pages → HasReadAll reader → ⊥
not_over h v reader load t read within over =
    let steps = read.steps in
    let pages = read.pages in
    elim (cases_lt t 2) [
      | inl lt ↦ (
          let zero = none_read t lt in
          let is : known_pages h v (pages_read t) ≡ 1 = ap (known_pages h v) zero in
          omega arith)
      | inr le ↦ (let is = known h v (pages_read t) (some_read t le) in omega arith)
    ]

abbrev pub HasNoCause : ReadStep → Type 0
HasNoCause result = ((k : ℕ) × (result ≡ read_step.More k)) ⊎ (((pfn : ℕ) × (result ≡ read_step.Page pfn)) ⊎ (result ≡ read_step.Done))

-- the reader can go on then
pub may_go_on : (result : ReadStep) (old r : Reading) (origs zeros : List ℕ) → HasNoCause result → GoesOn result old r origs zeros → IsReady r origs zeros
may_go_on result old r origs zeros none goes = elim none [
  | inl more ↦ (subst (λ (s : ReadStep). GoesOn s old r origs zeros) more.1 goes).0
  | inr other ↦ elim other [
    | inl page ↦ (subst (λ (s : ReadStep). GoesOn s old r origs zeros) page.1 goes).0
    | inr done ↦ subst (λ (s : ReadStep). GoesOn s old r origs zeros) done goes
  ]
]

-- a block was read
abbrev pub HasReadBlock : ReadStep → Type 0
HasReadBlock result = ((k : ℕ) × (result ≡ read_step.More k)) ⊎ ((pfn : ℕ) × (result ≡ read_step.Page pfn))

pub no_cause : (result : ReadStep) → HasReadBlock result → HasNoCause result
no_cause result (inl more) = inl more
no_cause result (inr page) = inr (inl page)

pub place_less : (result : ReadStep) (old r : Reading) (origs zeros : List ℕ) → HasReadBlock result → GoesOn result old r origs zeros → places_left r + 1 ≡ places_left old
place_less result old r origs zeros read goes = elim read [
  | inl more ↦ (subst (λ (s : ReadStep). GoesOn s old r origs zeros) more.1 goes).1
  | inr page ↦ (subst (λ (s : ReadStep). GoesOn s old r origs zeros) page.1 goes).1
]

-- Where all blocks were read before the last number the disk isn't as the resume has found it.
pub over_list_row : (machine : Machine) (frames : Memory) (load : Load) (chain : OpenChain) (machine' : Machine) (frames' : Memory) (load' : Load) (r : Reply) (c : disk.Content) → load.stage ≡ stage.List chain → HasReadAll chain.reader →
    Simulates machine frames load machine' frames' load' (event.Step actor.Core) r c c
over_list_row machine frames load chain machine' frames' load' r c at over =
    row_at_load machine frames load machine' frames' load' (event.Step actor.Core) r c c chain.done (activity_is load (stage.List chain) at)
    (λ l s.
    let knows = knows_at machine frames load c l chain.done (stage.List chain) at s in
    let within : chain.done - 4 < place_count (info_in machine.hw knows.0).pages = (let lt = knows.3 in omega arith) in
    absurd (not_over machine.hw knows.0 chain.reader load (chain.done - 4) knows.4 within over))

-- what the reader returned for place t of the disk v, from one reading to the other
abbrev pub AnswersFor : Hardware → disk.DiskImage → ℕ → ReadStep → OpenChain → OpenChain → Load → Load → Type 0
AnswersFor h v t result chain chain' load mid = Answers h v load.check t result chain.reader chain'.reader mid.origs.members mid.zeros.members mid.page

-- what was read, and that nothing is wrong with it
pub read_on : (h : Hardware) (v : disk.DiskImage) (t : ℕ) (result : ReadStep) (chain chain' : OpenChain) (old new : Load) → new.check ≡ old.check → HasReader h v chain.reader old t → t < place_count (info_in h v).pages → HasNoCause result → AnswersFor h v t result chain chain' old new →
    (cause_with h v old.check None t ≡ None) × HasReader h v chain'.reader new (t + 1)
read_on h v t result chain chain' old new check was within none answers = elim none [
  | inl more ↦ (let a = subst (λ (s : ReadStep). AnswersFor h v t s chain chain' old new) more.1 answers in
      (a.0, subst (λ (x : IdentCheck). stream.HasReadPlaces h v x chain'.reader (t + 1) new.origs.members new.zeros.members) (sym check) a.1))
  | inr other ↦ elim other [
    | inl page ↦ (let a = subst (λ (s : ReadStep). AnswersFor h v t s chain chain' old new) page.1 answers in
        (a.0, subst (λ (x : IdentCheck). stream.HasReadPlaces h v x chain'.reader (t + 1) new.origs.members new.zeros.members) (sym check) a.1))
    | inr done ↦ (let a = subst (λ (s : ReadStep). AnswersFor h v t s chain chain' old new) done answers in
        absurd (not_over h v chain.reader old t was within a.0))
  ]
]

-- another reading of the same chain
pub found_in : (machine : Machine) (chain chain' : OpenChain) (c : disk.Content) (l : Resume) (v : disk.DiskImage) → chain' ≡ record chain { reader = chain'.reader } → HasFound machine chain.header c l v → HasFound machine chain'.header c l v
found_in machine chain chain' c l v is found = subst (λ (p : List ℕ). HasFound machine p c l v) (sym (ap (λ (x : OpenChain). x.header) is)) found

-- the row of a read at which more is listed
pub listed_on : (machine : Machine) (frames : Memory) (load mid : Load) (chain chain' : OpenChain) (machine' : Machine) (frames' : Memory) (load' : Load) (result : ReadStep) (r : Reply) (c : disk.Content) → IsHardware machine.hw → load.stage ≡ stage.List chain → 4 ≤ chain.done → machine'.hw ≡ machine.hw →
    disk.IsContent machine.blocks c → mid ≡ record load { stage = mid.stage; origs = mid.origs; zeros = mid.zeros; page = mid.page } → chain' ≡ record chain { reader = chain'.reader } → HasNoCause result →
    ((v : disk.DiskImage) (t : ℕ) → HasReader machine.hw v chain.reader load t → Reads machine.hw v (Some c) → AnswersFor machine.hw v t result chain chain' load mid) →
    ListsOn machine frames mid chain' machine' frames' load' r → Simulates machine frames load machine' frames' load' (event.Step actor.Core) r c c
listed_on machine frames load mid chain chain' machine' frames' load' result r c hardware at late same whole is is' none answers goes =
    row_at_load machine frames load machine' frames' load' (event.Step actor.Core) r c c chain.done (activity_is load (stage.List chain) at)
    (λ l s.
    let h = machine.hw in
    let knows = knows_at machine frames load c l chain.done (stage.List chain) at s in
    let v = knows.0 in
    let t = chain.done - 4 in
    let was = knows.4 in
    let within : t < place_count (info_in h v).pages = (let lt = knows.3 in omega arith) in
    let check : mid.check ≡ load.check = ap (λ (x : Load). x.check) is in
    let waiting : mid.waiting ≡ load.waiting = ap (λ (x : Load). x.waiting) is in
    let read = read_on h v t result chain chain' load mid check was within none (answers v t was knows.1.reads) in
    let led = goes c l v chain.done
    (record {
      shown = shown_by machine frames load;
      whole = whole;
      reading = record { hardware = hardware; late = late; within = knows.3; stands = s.stands; found = knows.1.found; gone_on = knows.2 };
      loader = same_loader h load mid l (ap (λ (w : Awaiting). w.free) waiting) (ap (λ (x : Load). x.loader) is) check (loader_of machine frames load c l chain.done s);
      found = found_in machine chain chain' c l v is' knows.1;
      sound = subst (λ (x : IdentCheck). cause_with h v x None t ≡ None) (loader_of machine frames load c l chain.done s).check read.0;
      read = read.1;
      kept = s.stands.parts.resume.shows.kept;
      done = ap (λ (x : OpenChain). x.done) is';
    })
    knows.5 (ap (λ (w : Awaiting). w.originals) waiting ∙ knows.6) in (
      led.0,
      subst (λ (x : Hardware). rows.StepsTo x (StandsAfter machine' frames' load' r (loading l chain.done)) (event.Step actor.Core) r c c (loading l chain.done) led.0) same led.1,
    ))

pub list_can : (machine : Machine) (frames : Memory) (runs : SlotRuns) (load : Load) (chain : OpenChain) → load.stage ≡ stage.List chain → CanStep machine frames runs load → CanRead machine.blocks chain.reader load.origs.members load.zeros.members × (4 ≤ chain.done)
list_can machine frames runs load chain at can = subst (λ (s : Stage). CanMake s machine frames runs load) at can.next

-- a stage has one chain
abbrev chain_of : OpenChain → Stage → OpenChain
chain_of other (stage.List chain) = chain
chain_of other (stage.Read chain) = chain
chain_of other _ = other

pub same_listed : (chain chain' : OpenChain) → stage.List chain ≡ stage.List chain' → chain ≡ chain'
same_listed chain chain' e = ap (chain_of chain) e

pub same_read : (chain chain' : OpenChain) → stage.Read chain ≡ stage.Read chain' → chain ≡ chain'
same_read chain chain' e = ap (chain_of chain) e

-- a row that leads to what is there in the end
pub lists_row_of : (machine : Machine) (frames : Memory) (load : Load) (chain : OpenChain) (machine' : Machine) (frames' : Memory) (load' end : Load) (r told : Reply) → end ≡ load' → told ≡ r → ListsOn machine frames load chain machine' frames' load' r → ListsOn machine frames load chain machine' frames' end told
lists_row_of machine frames load chain machine' frames' load' end r told same reply row =
    subst (λ (x : Load). ListsOn machine frames load chain machine' frames' x told) (sym same) (subst (λ (q : Reply). ListsOn machine frames load chain machine' frames' load' q) (sym reply) row)
