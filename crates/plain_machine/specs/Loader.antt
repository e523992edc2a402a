-- Resuming over the loader's memory: which page frames the loader leaves free, and what memory is afterwards.
-- In Linux: prepare_image and get_buffer, kernel/power/snapshot.c; swsusp_arch_resume.
use Rattle.std.specs.Prelude.{ℕ, ◌+◌, ◌/◌, ◌==◌, ◌&&◌, List, [], ◌∷◌, Bool, not, nat_lt, nat_le, map, filter, replicate}
use Rattle.std.specs.Prelude.{take, Option, Some, None, if◌then◌else◌}
use Rattle.std.specs.List.{list_any, range_with_len}
use Rattle.definitions.specs.Bytes.{zero_page}
use Rattle.definitions.specs.Zones.{numbers, top}
use Rattle.definitions.specs.Tables.{frame}
use Rattle.plain_machine.specs.Machine.{Hardware, Memory, unused}
use Rattle.plain_machine.specs.Image.{Image}
use Rattle.plain_machine.specs.declared.event.Loader.{Loader}
use Rattle.plain_machine.specs.declared.event.Loader.TheVariants as loader
use Rattle.plain_machine.specs.declared.event.Ranges.{Ranges}

-- whether a list of numbers has p
abbrev pub has : List ℕ → ℕ → Bool
has ps p = list_any (λ q. q == p) ps

-- whether page frame p is in one of the ranges, both ends included
abbrev pub is_in_ranges : Ranges → ℕ → Bool
is_in_ranges ranges p = list_any (λ r. nat_le r.0 p && nat_le p r.1) (take ranges.count ranges.list)

-- whether page frame p is in a region whose flags aren't 0
abbrev pub is_in_regions : Hardware → ℕ → Bool
is_in_regions h p = list_any (λ r. nat_le r.0 p && nat_lt p (r.0 + r.1) && not (r.2 == 0)) h.regions

-- L: the page frames free to the loader. A scripted loader holds its ranges and the regions with flags; a dump's loader
-- holds what isn't free in the dump.
abbrev pub left_free : Hardware → Memory → Loader → List ℕ
left_free h dump (loader.Ranges ranges) =
    filter (λ p. not (is_in_ranges ranges p) && not (is_in_regions h p)) (numbers h.zones)
left_free h dump loader.Table = unused h dump

-- the page frames needed to resume d pages with data: one for each, a list frame for every 85, and a bounce frame
abbrev pub need : ℕ → ℕ
need d = d + (d + 84) / 85 + 1

-- a scripted loader has filled its memory with the byte 165
unfoldable pub loader_page : List ℕ
loader_page = replicate 4096 165

abbrev pub loader_frame : Memory → Loader → ℕ → List ℕ
loader_frame dump (loader.Ranges ranges) p = loader_page
loader_frame dump loader.Table p = frame dump p

-- the page that an image saved for a page frame, if it saved one
abbrev pub saved_page : List (ℕ × List ℕ) → ℕ → Option (List ℕ)
saved_page [] p = None
saved_page (saved ∷ frames) p = if saved.0 == p then Some saved.1 else saved_page frames p

abbrev pub page_or : Option (List ℕ) → List ℕ → List ℕ
page_or None page = page
page_or (Some saved) page = saved

-- Restored memory: each page frame of the image has its saved page, each other one that was free to the loader has
-- zeros, and the rest keep the loader's bytes (swsusp_arch_resume, and clear_free_pages after it).
abbrev pub restored_page : Hardware → Memory → Loader → Image → ℕ → List ℕ
restored_page h dump loader i p =
    page_or (saved_page i.frames p) (if has (left_free h dump loader) p then zero_page else loader_frame dump loader p)

unfoldable pub restored : Hardware → Memory → Loader → Image → Memory
restored h dump loader i = map (restored_page h dump loader i) (range_with_len 0 (top h.zones))
