-- The content of a place for a page, as a page.
use Rattle.std.specs.Prelude.{ℕ, List}
use Rattle.std.specs.List.{refill}
use Rattle.definitions.specs.Bytes.{zero_page}

-- the bytes, cut or filled up with zeros to 4096; a page stays as it is
unfoldable pub whole : List ℕ → List ℕ
whole bytes = refill 4096 zero_page bytes
