-- How far a stream of pages has been handed out.
use Rattle.std.specs.Prelude.{◌≡◌, ◌≤◌, ◌<◌, ℕ, ◌+◌, List, ◌++◌, length, take, drop}
use Rattle.std.specs.List.{concat}
use Rattle.stream_out.specs.declared.cursor.Cursor.{Cursor}

-- the bytes of these pages that are left after a cursor
unfoldable pub left_behind : List (List ℕ) → Cursor → List ℕ
left_behind pages cursor = drop cursor.at (concat (drop cursor.page pages))

-- `count` bytes of a page are handed out into a piece. The cursor then stands after them; after the page's last byte it
-- stands before the first byte of the next page.
pub record IsPart (page : List ℕ) (old new : Cursor) (before after : List ℕ) (count : ℕ) : Type 0 where
  pub whole : length page ≡ 4096
  pub fit : count ≤ length before
  pub some : 0 < length before → 0 < count
  pub of_page : old.at + count ≤ 4096
  pub bytes : after ≡ take count (drop old.at page) ++ drop count before
  pub same_page : old.at + count < 4096 → (new.page ≡ old.page) × (new.at ≡ old.at + count)
  pub next_page : old.at + count ≡ 4096 → (new.page ≡ old.page + 1) × (new.at ≡ 0)
