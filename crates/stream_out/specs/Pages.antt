-- The pages of a stream, by a machine's hardware and the set of its saveable page frames.
-- In Linux: snapshot_read_next and init_header, kernel/power/snapshot.c.
use Rattle.std.specs.Prelude.{◌≡◌, ℕ, ◌+◌, List, [], length, slice_index_or}
use Rattle.definitions.specs.NumberPages.{meta_of, marked_numbers}
use Rattle.definitions.specs.declared.info.Info.{Info}
use Rattle.frame_sets.specs.FrameSet.{FrameSet}
use Rattle.plain_machine.specs.Image.{stream_pages}
use Rattle.plain_machine.specs.Machine.{Hardware, Memory, saveable, valid_count}

-- the set of a memory's saveable page frames
pub record IsSaveableSet (h : Hardware) (m : Memory) (set : FrameSet) : Type 0 where
  pub zones : set.zones ≡ h.zones
  pub members : set.members ≡ saveable h m

-- what the info page says if n page frames are saved, each with a data page
abbrev pub info_over : Hardware → ℕ → Info
info_over h n = record { ident = h.ident; physpages = valid_count h; image_pages = n; pages = n + (meta_of n + 1) }

-- the stream that has these page frames' numbers and these data pages
abbrev pub stream_over : Hardware → List ℕ → List (List ℕ) → List (List ℕ)
stream_over h frames saved = stream_pages (info_over h (length frames)) (marked_numbers frames []) saved

-- a page is the stream's page k, whatever its data pages are
abbrev pub IsHead : Hardware → List ℕ → ℕ → List ℕ → Type 0
IsHead h frames k page = (saved : List (List ℕ)) → page ≡ slice_index_or (stream_over h frames saved) k []
