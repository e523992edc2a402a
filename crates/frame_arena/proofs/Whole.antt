-- The content of a place for a page, seen as a whole page.
use Rattle.std.proofs.Common.{◌≡◌, ℕ, zero, suc, List, length, drop, sym}
use Rattle.std.proofs.lemmas.List.{take_at, length-replicate}
use Rattle.std.specs.List.{length_refill}
use Rattle.definitions.specs.Bytes.{IsPage, zero_page, filled_page}
use Rattle.frame_arena.specs.Places.{shared_page}
use Rattle.frame_arena.specs.Whole.{whole}

pub whole_of_page : (page : List ℕ) → IsPage page → whole page ≡ page
unfolding whole
whole_of_page page is = take_at page (drop (length page) zero_page) 4096 is

pub page_of_zeros : IsPage zero_page
unfolding zero_page
page_of_zeros = length-replicate {A = ℕ} 4096 0

page_of_filled : (byte : ℕ) → IsPage (filled_page byte)
unfolding filled_page
page_of_filled byte = length-replicate {A = ℕ} 4096 byte

pub page_of_shared : (place : ℕ) → IsPage (shared_page place)
unfolding shared_page
page_of_shared zero = page_of_zeros
page_of_shared (suc place) = page_of_filled 165

pub page_of_whole : (bytes : List ℕ) → IsPage (whole bytes)
unfolding whole
page_of_whole bytes = sym (length_refill 4096 zero_page bytes (sym page_of_zeros))
