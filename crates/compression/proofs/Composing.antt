-- The checksum of two pieces, the second from what the first made, is that of both as one piece.
use Rattle.std.proofs.Common.{ℕ, List, sym}
use Rattle.std.proofs.lemmas.List.Sums.{fold-append}
use Rattle.compression.specs.Crc.{IsComposed, after_byte}

pub composes : (seed : ℕ) (front back : List ℕ) → IsComposed seed front back
composes seed front back = sym (fold-append after_byte seed front back)
