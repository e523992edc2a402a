-- The step at which a reader has read the last number and the loader's room is tested.
use Rattle.std.specs.Prelude.{◌≡◌, ◌↔◌, ℕ, ◌+◌, List, Some, None}
use Rattle.definitions.specs.Disk as disk
use Rattle.plain_machine.specs.Machine.{Hardware}
use Rattle.plain_machine.specs.Trace.{info_in, meta_in, place, page_at, read_cause}
use Rattle.plain_machine.specs.declared.event.IdentCheck.{IdentCheck}
use Rattle.image_read.specs.Reading.{Reading}
use Rattle.image_read.specs.Stream.{HasReadPlaces, pages_read, told}

-- all numbers are read after place t, but not before it
abbrev pub IsListedAt : Hardware → disk.DiskImage → ℕ → Type 0
IsListedAt h v t = (told h v (pages_read t) ≡ None) × (told h v (pages_read (t + 1)) ≡ Some (info_in h v).image_pages)

-- place t is that of the last number page exactly if the numbers are listed at it
abbrev pub ListsAt : Type 0
ListsAt =
    (h : Hardware) (v : disk.DiskImage) (check : IdentCheck) (r : Reading) (t : ℕ) (origs zeros : List ℕ) →
    HasReadPlaces h v check r t origs zeros →
    read_cause h v check (place t) ≡ None → (place t ≡ page_at (meta_in h v)) ↔ IsListedAt h v t
