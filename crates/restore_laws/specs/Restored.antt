-- The memory at the end of a resume.
use Rattle.std.specs.Prelude.{◌≡◌, ◌<◌, ℕ, List, [], length, Option, None, Contains}
use Rattle.std.specs.List.Sorted.{IsStrictlyIncreasing}
use Rattle.definitions.specs.Disk as disk
use Rattle.definitions.specs.Tables.{frame}
use Rattle.definitions.specs.Zones.{top}
use Rattle.placement.specs.Waiting.{Awaiting, waiting_pages, restored_page}
use Rattle.plain_machine.specs.Machine.{Hardware, Memory, Fits}
use Rattle.plain_machine.specs.Loader.{left_free, loader_frame}
use Rattle.plain_machine.specs.Shows.{WorldView, RunsAs}
use Rattle.plain_machine.specs.Stands.{NamesOnly}
use Rattle.plain_machine.specs.State.{Load, Flight}
use Rattle.plain_machine.specs.Step.{no_slots}
use Rattle.plain_machine.specs.Trace.{restored_in, data_frames, data_pages}
use Rattle.plain_machine.specs.declared.event.Loader.{Loader}
use Rattle.plain_machine.specs.declared.held.Held.{Held}
use Rattle.plain_machine.specs.declared.held.Held.TheVariants.{No}
use Rattle.plain_machine.specs.declared.no_swap.NoSwap.{NoSwap}
use Rattle.protocol_laws.specs.LoadRows.{running_with}
use Rattle.restore_laws.specs.DataPages.{listed_frames}

-- All data pages of the disk v wait in these page frames, and the page frames that weren't free to the loader are as it
-- left them.
pub record AreAllRead (h : Hardware) (dump : Memory) (v : disk.DiskImage) (loader : Loader) (w : Awaiting)
    (origs : List ℕ) (frames : Memory) : Type 0 where
  pub free : w.free ≡ left_free h dump loader
  pub originals : w.originals ≡ data_frames h v
  pub pages : waiting_pages frames w ≡ data_pages h v (length (data_frames h v))
  pub listed : origs ≡ listed_frames h v
  pub rising : IsStrictlyIncreasing origs
  pub kept : (p : ℕ) → p < top h.zones → (Contains (left_free h dump loader) p → ⊥) →
      frame frames p ≡ loader_frame dump loader p

-- once the pages are brought home, memory is the restored one
abbrev pub RestoredIn : Type 0
RestoredIn =
    (h : Hardware) (dump : Memory) (v : disk.DiskImage) (loader : Loader) (w : Awaiting) (origs : List ℕ)
    (frames frames' : Memory) →
    AreAllRead h dump v loader w origs frames → length frames' ≡ top h.zones →
    ((p : ℕ) → p < top h.zones → frame frames' p ≡ restored_page frames w origs p) →
    frames' ≡ restored_in h dump v loader

-- A machine that holds no image, has no unfinished operation and can use its area runs with a restored memory that
-- fits. Its slot table names no slot of an image.
abbrev pub RunsAsRestored : Type 0
RunsAsRestored =
    (h : Hardware) (load : Load) (v : disk.DiskImage) (flag : Held) (why : Option NoSwap) (operations : ℕ →
    Option Flight) (frames : Memory) →
    flag ≡ No → why ≡ None → ((t : ℕ) → operations t ≡ None) → frames ≡ restored_in h load.dump v load.loader →
    Fits h frames →
    RunsAs h flag why operations frames (running_with h load v no_slots)

abbrev pub NamesNone : Type 0
NamesNone = (h : Hardware) (shown : WorldView) → Fits h shown.frames → NamesOnly h shown []
