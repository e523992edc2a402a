-- A header block that was read before other calls of the disk.
use Rattle.std.proofs.Common.{◌≡◌, ℕ, ◌≤◌, List, Option, inl, inr, subst, arith}
use Rattle.definitions.specs.Disk.{Content, HasRisen}
use Rattle.image_check.specs.Told.{Told}
use Rattle.image_pages.specs.Opens.{IsBadHeader}

risen_earlier : (before then now : ℕ) → before ≤ then → HasRisen then now → HasRisen before now
risen_earlier before then now le (inl lt) = inl (omega arith)
risen_earlier before then now le (inr last) = inr last

pub bad_earlier : (content : Option Content) (blocks header before then now : ℕ) (told end : Told) → before ≤ then → IsBadHeader content blocks header then now told end → IsBadHeader content blocks header before now told end
bad_earlier content blocks header before then now told end le (inl (tells, risen)) = inl (tells, risen_earlier before then now le risen)
bad_earlier content blocks header before then now told end le (inr wrong) = inr wrong
