-- The final value of page frames once a `&mut` to one of them has ended.
use Rattle.std.specs.Prelude.{ℕ, List}
use Rattle.std.specs.Borrow.{Fml, MutBor, Lends}
use Rattle.definitions.specs.Tables.{with_frame}
use Rattle.page_core.specs.contracts.page.Page.{the_row as page}
use Rattle.frame_arena.specs.Whole.{whole}
use Rattle.frame_arena.specs.contracts.frames.Frames.{the_row}

-- the final s is the present one with the final page of r, which has 4096 bytes, in page frame p
abbrev pub LendsPage : MutBor (List (List ℕ)) → ℕ → MutBor (List ℕ) → Fml
LendsPage s p r = Lends the_row page s r (λ last. with_frame s.now p (whole last))
