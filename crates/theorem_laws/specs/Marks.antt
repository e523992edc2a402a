-- An image exists if and only if the disk is marked: only the signature of block(0) says so. In Linux: swsusp_check,
-- kernel/power/swap.c.
use Rattle.std.specs.Prelude.{◌↔◌, ⊤}
use Rattle.definitions.specs.Disk as disk
use Rattle.plain_machine.specs.Chain.{Holds, Marked}
use Rattle.plain_machine.specs.Machine.{Hardware}
use Rattle.plain_machine.specs.Stands.{EachImage}
use Rattle.plain_machine.specs.State.{Held, nothing, sure, maybe, own, other}

-- Which of the images that a cut may leave are marked, by what the state says of an image: none, all, or exactly those
-- that hold the machine's image. If the image may be another machine's, either is possible.
abbrev pub IsThereWhereMarked : Hardware → disk.Content → Held → Type 0
IsThereWhereMarked h c nothing = EachImage c (λ v. Marked h v → ⊥)
IsThereWhereMarked h c (sure (own i)) = EachImage c (λ v. Marked h v × Holds h v i)
IsThereWhereMarked h c (maybe (own i)) = EachImage c (λ v. Marked h v ↔ Holds h v i)
IsThereWhereMarked h c (sure other) = EachImage c (Marked h)
IsThereWhereMarked h c (maybe other) = ⊤
