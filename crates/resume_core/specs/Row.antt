-- The rows of the plain machine that a resume implements.
use Rattle.std.specs.Prelude.{◌≡◌, ◌<◌, ℕ, ◌+◌, ◌-◌, [], Contains, List, Option, Some, None, true, Ok, ⊤}
use Rattle.definitions.specs.Disk as disk
use Rattle.definitions.specs.Tables.{frame}
use Rattle.definitions.specs.Zones.{top}
use Rattle.definitions.specs.SwapHeader.{taken_back}
use Rattle.image_format.specs.AreaKind.{mark_of, area_kind}
use Rattle.image_format.specs.declared.signature.area.Area.{Area}
use Rattle.image_format.specs.declared.signature.area.Mark.{Mark}
use Rattle.image_format.specs.declared.signature.area.AreaKind.{AreaKind}
use Rattle.image_format.specs.declared.signature.area.AreaKind.TheVariants.{Image, Old, Other, BadArea, Swap}
use Rattle.placement.specs.Waiting.{Awaiting, waiting_pages}
use Rattle.plain_machine.specs.Machine.{Hardware, Memory}
use Rattle.plain_machine.specs.Chain.{header_of, blocks_of}
use Rattle.plain_machine.specs.Loader.{left_free, loader_frame}
use Rattle.plain_machine.specs.UsableArea.{area_block}
use Rattle.plain_machine.specs.Shows.{WorldView}
use Rattle.plain_machine.specs.State.{State, off, on, booting, hibernating, undoing, settling, waking, loading, asleep}
use Rattle.plain_machine.specs.State.{Held, Load as Resume}
use Rattle.plain_machine.specs.Stands.{Stands}
use Rattle.plain_machine.specs.Trace.{info_in, place_count, header_cause, want_cause, place, data_frames, data_pages}
use Rattle.plain_machine.specs.Trace.{cause_with}
use Rattle.plain_machine.specs.declared.event.Event.{Event}
use Rattle.plain_machine.specs.declared.event.Event.TheVariants as event
use Rattle.plain_machine.specs.declared.event.Actor.TheVariants as actor
use Rattle.plain_machine.specs.declared.event.Loader.{Loader}
use Rattle.plain_machine.specs.declared.event.Loader.TheVariants as loader
use Rattle.plain_machine.specs.declared.event.IdentCheck.{IdentCheck}
use Rattle.plain_machine.specs.declared.reply.Reply.{Reply}
use Rattle.plain_machine.specs.declared.reply.Reply.TheVariants as reply
use Rattle.image_read.specs.Answers.{Reads}
use Rattle.image_read.specs.Reading.{Reading}
use Rattle.image_read.specs.Stream as stream
use Rattle.image_read.specs.Stream.{pages_read, told}
use Rattle.protocol_laws.specs.LoadRows as load_rows
use Rattle.protocol_laws.specs.LoadRows.{IsFoundIn, HaveGoneOn}
use Rattle.protocol_laws.specs.Rows as rows
use Rattle.restore_laws.specs.DataPages.{data_before}
use Rattle.machine.specs.declared.machine.Machine.{Machine}
use Rattle.resume_core.specs.Loading.{shown_by}
use Rattle.resume_core.specs.Restored.{restored_by}
use Rattle.resume_core.specs.declared.load.Load.{Load}
use Rattle.resume_core.specs.declared.load.OpenChain.{OpenChain}
use Rattle.resume_core.specs.declared.load.Stage.{Stage}
use Rattle.resume_core.specs.declared.load.Stage.TheVariants as stage

-- The loader is the resume's, and the page frames free to it are those that pages can wait in.
pub record HasLoader (h : Hardware) (load : Load) (l : Resume) : Type 0 where
  pub loader : load.loader ≡ l.loader
  pub free : load.waiting.free ≡ left_free h l.dump l.loader
  pub check : load.check ≡ l.check

-- with a dump's loader, memory is the one that was kept
abbrev pub HasLoaderMemory : Loader → Memory → WorldView → Type 0
HasLoaderMemory (loader.Ranges ranges) frames shown = ⊤
HasLoaderMemory loader.Table frames shown = (shown.keeps_dump ≡ true) × (shown.frames ≡ frames)

-- the area that a header block describes, if it is an unmarked one
abbrev pub swap_area : AreaKind → Option Area
swap_area (Image mark) = None
swap_area Old = None
swap_area (Other sig) = None
swap_area (BadArea why) = None
swap_area (Swap area) = Some area

-- The image was found on the disk v. The disk with this content reads like v except for block(0), which, taken back,
-- describes the same area.
pub record HasFound (machine : Machine) (header : List ℕ) (c : disk.Content) (l : Resume)
    (v : disk.DiskImage) : Type 0 where
  pub found : IsFoundIn machine.hw l v
  pub uncaused : header_cause machine.hw v ≡ None
  pub is_header : header ≡ header_of machine.hw v
  pub reads : Reads machine.hw v (Some c)
  pub blocks : blocks_of v ≡ machine.blocks
  pub area : swap_area (area_kind (area_block machine.hw (disk.as_it_reads c))) ≡ swap_area
      (area_kind (taken_back header))

-- The reader has read the first t places of the disk v.
abbrev pub HasReader : Hardware → disk.DiskImage → Reading → Load → ℕ → Type 0
HasReader h v reader load t = stream.HasReadPlaces h v load.check reader t load.origs.members load.zeros.members

-- The data pages among those places wait for the page frames that they were saved from.
pub record HavePlaces (h : Hardware) (v : disk.DiskImage) (frames : Memory) (waiting : Awaiting) (t : ℕ) : Type 0 where
  pub listed : told h v (pages_read t) ≡ Some (info_in h v).image_pages
  pub originals : waiting.originals ≡ data_frames h v
  pub loaded : waiting.loaded ≡ data_before h v t
  pub pages : waiting_pages frames waiting ≡ data_pages h v waiting.loaded

-- no page waits
abbrev pub NoneWaits : Load → Type 0
NoneWaits load = load.waiting.originals ≡ []

-- the image was found by this header block and its mark, and nothing else of it is read yet
abbrev pub KnowsHeader : Machine → Load → List ℕ → Mark → disk.Content → Resume → ℕ → Type 0
KnowsHeader machine load header mark c l k =
    (v : disk.DiskImage) × HasFound machine header c l v × HaveGoneOn machine.hw l v k × (load.origs.members ≡ [])
    × (load.zeros.members ≡ []) × NoneWaits load
    × (mark ≡ mark_of (header_of machine.hw v))

-- what is known at each stage: what was found, and how far it is read
abbrev pub KnowsAt : Stage → Machine → Memory → Load → disk.Content → Resume → ℕ → Type 0
KnowsAt (stage.Back unmark mark) machine frames load c l k = KnowsHeader machine load unmark.header mark c l k
KnowsAt (stage.List chain) machine frames load c l k =
    (v : disk.DiskImage) × HasFound machine chain.header c l v × HaveGoneOn machine.hw l v k
    × (k < 4 + place_count (info_in machine.hw v).pages)
    × HasReader machine.hw v chain.reader load (k - 4) × (told machine.hw v (pages_read (k - 4)) ≡ None)
    × NoneWaits load
KnowsAt (stage.Read chain) machine frames load c l k =
    (v : disk.DiskImage) × HasFound machine chain.header c l v × HaveGoneOn machine.hw l v k
    × (k < 4 + place_count (info_in machine.hw v).pages)
    × HasReader machine.hw v chain.reader load (k - 4) × HavePlaces machine.hw v frames load.waiting (k - 4)
KnowsAt _ machine frames load c l k = (load.origs.members ≡ []) × (load.zeros.members ≡ []) × NoneWaits load

-- The resume is the one of the state. (Its loader and check are part of what is shown.)
pub record IsOf (machine : Machine) (frames : Memory) (load : Load) (c : disk.Content) (l : Resume)
    (k : ℕ) : Type 0 where
  pub free : load.waiting.free ≡ left_free machine.hw l.dump l.loader
  pub knows : KnowsAt load.stage machine frames load c l k

abbrev pub IsOfState : Machine → Memory → Load → disk.Content → State → Type 0
IsOfState machine frames load c (loading l k) = IsOf machine frames load c l k
IsOfState machine frames load c (off held kept) = ⊤
IsOfState machine frames load c (on a) = ⊤
IsOfState machine frames load c (booting from dump held k) = ⊤
IsOfState machine frames load c (hibernating suspends i a k) = ⊤
IsOfState machine frames load c (undoing i call a k) = ⊤
IsOfState machine frames load c (settling a k) = ⊤
IsOfState machine frames load c (waking i held a k) = ⊤
IsOfState machine frames load c (asleep i held a) = ⊤

-- What the machine shows during a resume stands, with its disk, for state a, and the resume is that of a.
pub record ResumeStandsFor (machine : Machine) (frames : Memory) (load : Load) (c : disk.Content)
    (a : State) : Type 0 where
  pub stands : Stands machine.hw (shown_by machine frames load) c a
  pub resume : IsOfState machine frames load c a

-- a running machine has the area that the header block describes
abbrev pub RunsOverArea : Machine → disk.Content → State → Type 0
RunsOverArea machine c (on a) =
    (area : Area) × (machine.area ≡ Ok area)
    × (swap_area (area_kind (area_block machine.hw (disk.as_it_reads c))) ≡ Some area)
RunsOverArea machine c (off held kept) = ⊤
RunsOverArea machine c (booting from dump held k) = ⊤
RunsOverArea machine c (hibernating suspends i a k) = ⊤
RunsOverArea machine c (undoing i call a k) = ⊤
RunsOverArea machine c (settling a k) = ⊤
RunsOverArea machine c (waking i held a k) = ⊤
RunsOverArea machine c (loading load k) = ⊤
RunsOverArea machine c (asleep i held a) = ⊤

-- A resume that has ended leaves exactly Restored, free page frames included, after either loader; and after a scripted
-- one the area that the header block describes.
pub record LeavesRestored (machine : Machine) (frames : Memory) (c : disk.Content) (l : Resume)
    (b : State) : Type 0 where
  pub memory : frames ≡ restored_by machine.hw l
  pub area : RunsOverArea machine c b

abbrev pub HasEnded : Machine → Memory → disk.Content → Reply → State → State → Type 0
HasEnded machine frames c (reply.Resumed n) (loading l k) b = LeavesRestored machine frames c l b
HasEnded machine frames c _ a b = ⊤

-- After this reply to a resume's step from state a, what the machine shows stands, with its disk, for state b. If the
-- resume has ended, memory is the restored one.
pub record StandsAfter (machine : Machine) (frames : Memory) (load : Load) (r : Reply) (a : State) (c : disk.Content)
    (b : State) : Type 0 where
  pub stands : Stands machine.hw (shown_by machine frames load) c b
  pub resume : IsOfState machine frames load c b
  pub ended : HasEnded machine frames c r a b

-- state a goes on to state b
abbrev pub GoesOn : Machine → Memory → Load → Event → Reply → disk.Content → disk.Content → State → State → Type 0
GoesOn machine frames load e r c c' a b = rows.StepsTo machine.hw (StandsAfter machine frames load r a) e r c c' a b

-- the row of an event for these contents of the disk, and for a disk that tells its content
abbrev pub Simulates : Machine → Memory → Load → Machine → Memory → Load → Event → Reply → disk.Content →
    disk.Content → Type 0
Simulates machine frames load machine' frames' load' e r c c' =
    (a : State) → ResumeStandsFor machine frames load c a → (b : State)
    × rows.StepsTo machine.hw (StandsAfter machine' frames' load' r a) e r c c' a b

abbrev pub SimulatesWhereTold : Machine → Memory → Load → Machine → Memory → Load → Event → Reply →
    Option disk.Content → Option disk.Content → Type 0
SimulatesWhereTold machine frames load machine' frames' load' e r before now =
    (c : disk.Content) → before ≡ Some c → (c' : disk.Content) × (now ≡ Some c')
    × Simulates machine frames load machine' frames' load' e r c c'

-- the row of a begin, from each state of a machine that is off and has the loader's memory
abbrev pub BeginsRow : Machine → Memory → Memory → Load → Loader → IdentCheck → Reply → Type 0
BeginsRow machine frames frames' load' loader check r =
    (shown : WorldView) (c : disk.Content) (held : Held) (kept : Option Memory) → HasLoaderMemory loader frames shown →
    Stands machine.hw shown c (off held kept) →
    (b : State) × GoesOn machine frames' load' (event.Resume loader check) r c c (off held kept) b

-- Step k + 1 has read a block, and neither that block nor the one after it is at fault. What the machine showed before
-- stood for the state.
pub record HasRead (machine : Machine) (frames : Memory) (load : Load) (chain : OpenChain) (c : disk.Content)
    (l : Resume) (v : disk.DiskImage) (k : ℕ) : Type 0 where
  pub shown : WorldView
  pub whole : disk.IsContent machine.blocks c
  pub reading : load_rows.IsBeforeRead machine.hw shown c l v k
  pub loader : HasLoader machine.hw load l
  pub found : HasFound machine chain.header c l v
  pub sound : cause_with machine.hw v l.check None (k - 4) ≡ None
  pub read : HasReader machine.hw v chain.reader load (k - 4 + 1)
  pub kept : (p : ℕ) → p < top machine.hw.zones → (Contains (left_free machine.hw l.dump l.loader) p → ⊥) →
      frame frames p ≡ loader_frame l.dump l.loader p
  pub done : chain.done ≡ k

-- where the reply leads from the state after k steps
abbrev pub LeadsOn : Machine → Memory → Load → Reply → disk.Content → Resume → ℕ → Type 0
LeadsOn machine' frames' load' r c l k =
    (b : State) × GoesOn machine' frames' load' (event.Step actor.Core) r c c (loading l k) b

-- before this step not all page frames of the image were listed; the reader says whether they are now
abbrev pub ListsOn : Machine → Memory → Load → OpenChain → Machine → Memory → Load → Reply → Type 0
ListsOn machine frames load chain machine' frames' load' r =
    (c : disk.Content) (l : Resume) (v : disk.DiskImage) (k : ℕ) → HasRead machine frames load chain c l v k →
    told machine.hw v (pages_read (k - 4)) ≡ None → NoneWaits load →
    LeadsOn machine' frames' load' r c l k

-- all page frames are listed, and the pages read wait; the loader's room suffices, if it is tested at this step
abbrev pub ReadsOn : Machine → Memory → Load → OpenChain → Machine → Memory → Load → Reply → Type 0
ReadsOn machine frames load chain machine' frames' load' r =
    (c : disk.Content) (l : Resume) (v : disk.DiskImage) (k : ℕ) → HasRead machine frames load chain c l v k →
    HavePlaces machine.hw v frames load.waiting (k - 4 + 1) →
    want_cause machine.hw l.dump v l.loader (place (k - 4)) ≡ None → LeadsOn machine' frames' load' r c l k

-- the same at the last step
abbrev pub EndsOn : Machine → Memory → Load → OpenChain → Machine → Memory → Load → Reply → Type 0
EndsOn machine frames load chain machine' frames' load' r =
    (c : disk.Content) (l : Resume) (v : disk.DiskImage) (k : ℕ) → HasRead machine frames load chain c l v k →
    HavePlaces machine.hw v frames load.waiting (k - 4 + 1) →
    want_cause machine.hw l.dump v l.loader (place (k - 4)) ≡ None →
    k - 4 + 1 ≡ place_count (info_in machine.hw v).pages → LeadsOn machine' frames' load' r c l k
