-- Where the block that was read stands.
use Rattle.std.proofs.Common.{◌≡◌, ◌≤◌, ◌++◌, ◌∷◌, [], ℕ, List, length, drop, refl, ap, ◌∙◌, subst, sym, arith}
use Rattle.std.proofs.lemmas.List.{get_or-set_other, take_at}
use Rattle.std.specs.List.{Contains}
use Rattle.definitions.specs.Bytes.{IsPage, zero_page}
use Rattle.definitions.specs.Tables.{with_frame}
use Rattle.definitions.specs.Zones.{top}
use Rattle.frame_arena.specs.Whole.{whole}
use Rattle.placement.specs.Waiting.{Awaiting, WaitsNext, waiting_pages}
use Rattle.plain_machine.specs.Machine.{Memory}
use Rattle.resume_core.specs.Placing.{PutsPage}

-- a page is whole
whole_page : (page : List ℕ) → IsPage page → whole page ≡ page
unfolding whole
whole_page page is = take_at page (drop (length page) zero_page) 4096 is

-- the block was read into the page frame where the next page waits
pub puts_next : (w : Awaiting) (frames : Memory) (p : ℕ) (page : List ℕ) → WaitsNext w p → top w.zones ≤ length frames → IsPage page → PutsPage w frames (with_frame frames p (whole page)) page
puts_next w frames p page waits fits is = record {
  before = waits.before frames (whole page);
  next = λ left. waits.after frames (whole page) fits ∙ ap (λ (last : List ℕ). waiting_pages frames w ++ last ∷ []) (whole_page page is);
  others = λ q occupied. get_or-set_other frames p q (whole page) [] (λ same. occupied (subst (Contains w.free) (sym same) waits.free));
}

-- the block was read elsewhere, since all pages wait
pub puts_apart : (w : Awaiting) (frames : Memory) (page : List ℕ) → w.loaded ≡ length w.originals → PutsPage w frames frames page
puts_apart w frames page all = record { before = refl; next = λ left. absurd (omega arith); others = λ q occupied. refl }
