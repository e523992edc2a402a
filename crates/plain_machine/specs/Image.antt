-- An image: what a hibernation saves, at one moment.
-- In Linux: swsusp_save, init_header and snapshot_read_next, kernel/power/snapshot.c.
use Rattle.std.specs.Prelude.{ℕ, ◌+◌, ◌/◌, List, ◌∷◌, ◌++◌, Bool, true, not, nat_eq, length, map, filter, Option, ◌-◌}
use Rattle.std.specs.Prelude.{◌*◌, ◌%◌, ◌==◌, ◌||◌, [], min, if◌then◌else◌, slice_index, slice_index_or}
use Rattle.std.specs.Cmp.Lexicographic.{pointwise}
use Rattle.page_core.specs.declared.format.Format.{Format}
use Rattle.page_core.specs.declared.format.Format.TheVariants.{Plain, SkipZeros}
use Rattle.definitions.specs.Bytes.{zero_page}
use Rattle.definitions.specs.Tables.{frame}
use Rattle.definitions.specs.InfoPage.{info_page}
use Rattle.definitions.specs.NumberPages.{meta_of, marked_numbers, number_pages}
use Rattle.definitions.specs.declared.info.Ident.{Ident}
use Rattle.definitions.specs.declared.info.Info.{Info}
use Rattle.plain_machine.specs.Machine.{Hardware, Memory, saveable, valid_count}
use Rattle.std.specs.List.{range_with_len}
use Rattle.definitions.specs.Slots.{block_of}
use Rattle.definitions.specs.SwapMap.{map_page}
use Rattle.definitions.specs.declared.counts.TheConstants.{BLOCKS_PER_MAP, MAP_PAGE_ENTRIES}

-- the pages in the tasks' slots, by slot
abbrev pub SlotPages : Type 0
SlotPages = ℕ → Option (List ℕ)

-- The saved pages with their page frame numbers, ascending; the tasks' slots; what the image is tied to; its format.
pub record Image : Type 0 where
  pub frames : List (ℕ × List ℕ)
  pub slots : SlotPages
  pub ident : Ident
  pub physpages : ℕ
  pub format : Format

-- Image(M, U, f): every saveable page frame with its page (swsusp_save)
abbrev pub image_of_memory : Hardware → Memory → SlotPages → Format → Image
image_of_memory h m u f = record {
  frames = map (λ p. (p, frame m p)) (saveable h m);
  slots = u;
  ident = h.ident;
  physpages = valid_count h;
  format = f;
}

-- whether a page is all zero
abbrev pub is_zeros : List ℕ → Bool
is_zeros page = pointwise nat_eq page zero_page

-- whether a saved page has a data page in the stream
abbrev pub has_data : Format → ℕ × List ℕ → Bool
has_data Plain saved = true
has_data SkipZeros saved = not (is_zeros saved.1)

-- the saved page frame numbers, and those without a data page
abbrev pub numbers_of : Image → List ℕ
numbers_of i = map (λ saved. saved.0) i.frames

abbrev pub with_data : Image → List (ℕ × List ℕ)
with_data i = filter (has_data i.format) i.frames

abbrev pub without_data : Image → List ℕ
without_data i = map (λ saved. saved.0) (filter (λ saved. not (has_data i.format saved)) i.frames)

-- Counts: n saved pages, d of them with data, the pages of the stream, the maps that a hibernation writes and a resume
-- reads for them, and the steps of each.
abbrev pub n_of : Image → ℕ
n_of i = length i.frames

abbrev pub d_of : Image → ℕ
d_of i = length (with_data i)

abbrev pub pages_of : Image → ℕ
pages_of i = d_of i + meta_of (n_of i) + 1

abbrev pub maps_of : ℕ → ℕ
maps_of pages = pages / MAP_PAGE_ENTRIES + 1

abbrev pub maps_read : ℕ → ℕ
maps_read pages = (pages + 510) / MAP_PAGE_ENTRIES

abbrev pub hibernate_steps : Image → ℕ
hibernate_steps i = pages_of i + maps_of (pages_of i) + 4

abbrev pub resume_steps : Image → ℕ
resume_steps i = 4 + maps_read (pages_of i) + pages_of i

-- [stream]: the info page, the number pages, and the pages with data in ascending frame order (snapshot_read_next)
unfoldable pub stream_pages : Info → List ℕ → List (List ℕ) → List (List ℕ)
stream_pages info numbers saved = info_page info ∷ number_pages numbers ++ saved

abbrev pub info_of_image : Image → Info
info_of_image i = record { ident = i.ident; physpages = i.physpages; image_pages = n_of i; pages = pages_of i }

abbrev pub stream_of : Image → List (List ℕ)
stream_of i =
    stream_pages (info_of_image i) (marked_numbers (numbers_of i) (without_data i))
    (map (λ saved. saved.1) (with_data i))

-- Laid(i, free): where the writer puts a stream, in the order of its writes, and what it writes there. The slot of the
-- first map is taken first, then one for each page. With the 511th page of a map the slot of the next map is taken at
-- once, and the full map is written (get_swap_writer, swap_write_page and flush_swap_writer, kernel/power/swap.c).

-- how many slots are taken before page k of the stream, and before map j, each from 0 (alloc_swapdev_block)
abbrev pub page_place : ℕ → ℕ
page_place k = k + k / MAP_PAGE_ENTRIES + 1

abbrev pub map_place : ℕ → ℕ
map_place j = BLOCKS_PER_MAP * j

-- the block of the free slot that is taken after `place` others
abbrev pub laid_block : List (ℕ × ℕ × ℕ) → List ℕ → ℕ → ℕ
laid_block extents free place = block_of extents (slice_index free place)

-- the blocks of n pages of the stream from page k on
abbrev pub laid_entries : List (ℕ × ℕ × ℕ) → List ℕ → ℕ → ℕ → List ℕ
laid_entries extents free k n = map (λ i. laid_block extents free (page_place i)) (range_with_len k n)

-- Map j of a stream of `pages` pages: the blocks of its pages, and the block of the next map, or 0 in the last one
-- (struct swap_map_page).
unfoldable pub laid_map : List (ℕ × ℕ × ℕ) → List ℕ → ℕ → ℕ → List ℕ
laid_map extents free pages j =
    map_page (laid_entries extents free (MAP_PAGE_ENTRIES * j) (min MAP_PAGE_ENTRIES (pages - MAP_PAGE_ENTRIES * j)))
    (if j + 1 == maps_of pages then 0 else laid_block extents free (map_place (j + 1)))

-- whether write k, from 0, writes a map: each write after 511 pages does, and the last one (save_image,
-- swap_writer_finish)
abbrev pub is_map_write : ℕ → ℕ → Bool
is_map_write pages k = (k % BLOCKS_PER_MAP == MAP_PAGE_ENTRIES) || (k + 1 == pages + maps_of pages)

-- the number, from 0, of the page of the stream that write k writes if it doesn't write a map
abbrev pub page_of_write : ℕ → ℕ
page_of_write k = k - k / BLOCKS_PER_MAP

-- Write k of a stream of `pages` pages: the block, and what is written there, which is a map or else `page`.
abbrev pub laid_write : List (ℕ × ℕ × ℕ) → List ℕ → ℕ → List ℕ → ℕ → ℕ × List ℕ
laid_write extents free pages page k =
    if is_map_write pages k
    then (laid_block extents free (map_place (k / BLOCKS_PER_MAP)), laid_map extents free pages (k / BLOCKS_PER_MAP))
    else (laid_block extents free (page_place (page_of_write k)), page)

-- all writes, in order
unfoldable pub laid : List (ℕ × ℕ × ℕ) → List ℕ → List (List ℕ) → List (ℕ × List ℕ)
laid extents free stream =
    map (λ k. laid_write extents free (length stream) (slice_index_or stream (page_of_write k) []) k)
    (range_with_len 0 (length stream + maps_of (length stream)))
