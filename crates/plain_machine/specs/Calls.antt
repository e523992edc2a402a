-- The calls of the disk that an operation makes, one for each step, by the number of steps made before it.
-- In Linux: swsusp_write and mark_swapfiles, swsusp_check, swsusp_read and swsusp_unmark, kernel/power/swap.c.
use Rattle.std.specs.Prelude.{ℕ, ◌+◌, ◌-◌, zero, suc, Bool, true, false, nat_lt, Option, Some, None, if◌then◌else◌}
use Rattle.plain_machine.specs.Image.{Image, pages_of, maps_of}

-- A boot syncs the disk, and reads block(0).
pub data BootCall : Type 0 where
  syncs_disk : BootCall
  reads_area : BootCall

abbrev pub boot_call : ℕ → Option BootCall
boot_call zero = Some syncs_disk
boot_call (suc zero) = Some reads_area
boot_call (suc (suc k)) = None

-- A hibernation writes its pages and maps, syncs, reads block(0), writes it with the mark, and syncs again.
pub data HibernationCall : Type 0 where
  writes_page : HibernationCall
  syncs_pages : HibernationCall
  reads_header : HibernationCall
  writes_mark : HibernationCall
  syncs_mark : HibernationCall

abbrev pub call_behind_pages : ℕ → Option HibernationCall
call_behind_pages zero = Some syncs_pages
call_behind_pages (suc zero) = Some reads_header
call_behind_pages (suc (suc zero)) = Some writes_mark
call_behind_pages (suc (suc (suc zero))) = Some syncs_mark
call_behind_pages (suc (suc (suc (suc k)))) = None

abbrev pub hibernation_call : Image → ℕ → Option HibernationCall
hibernation_call i k =
    let written = pages_of i + maps_of (pages_of i) in
    if nat_lt k written then Some writes_page else call_behind_pages (k - written)

-- whether the pages are synced before this call
abbrev pub are_synced_before : Option HibernationCall → Bool
are_synced_before (Some writes_page) = false
are_synced_before (Some syncs_pages) = false
are_synced_before call = true

-- To take a mark back, block(0) is read, written with the mark taken back, and synced. An undo already has the block
-- and begins with the write.
pub data BackCall : Type 0 where
  reads_mark : BackCall
  takes_back : BackCall
  syncs_back : BackCall

abbrev pub back_call : ℕ → Option BackCall
back_call zero = Some reads_mark
back_call (suc zero) = Some takes_back
back_call (suc (suc zero)) = Some syncs_back
back_call (suc (suc (suc k))) = None

abbrev pub undo_call : ℕ → Option BackCall
undo_call k = back_call (suc k)

-- A resume syncs, takes the mark back, and reads the image.
pub data LoadCall : Type 0 where
  syncs_first : LoadCall
  of_mark : BackCall → LoadCall
  reads_image : LoadCall

abbrev pub load_call : ℕ → LoadCall
load_call zero = syncs_first
load_call (suc k) = or_image (back_call k) where
  or_image : Option BackCall → LoadCall
  or_image None = reads_image
  or_image (Some call) = of_mark call
