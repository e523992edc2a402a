-- What a header block says of an image, and what a reader of its chain begins with.
use Rattle.std.specs.Prelude.{◌≡◌, [], ℕ, ◌==◌, ◌&&◌, not, nat_eq, List, Option, Some, None, Result, MatchResult}
use Rattle.std.specs.Prelude.{if◌then◌else◌}
use Rattle.std.specs.Cmp.Lexicographic.{pointwise}
use Rattle.definitions.specs.Disk as disk
use Rattle.definitions.specs.SwapHeader.{sig_of, flags_of, image_signature}
use Rattle.image_format.specs.AreaKind.{mark_of}
use Rattle.image_format.specs.declared.signature.area.Mark.{Mark}
use Rattle.image_format.specs.declared.signature.area.AreaKind.{AreaKind}
use Rattle.image_format.specs.declared.signature.area.AreaKind.TheVariants.{Image, Old, Other, BadArea, Swap}
use Rattle.plain_machine.specs.Machine.{Hardware}
use Rattle.plain_machine.specs.Chain.{header_of, blocks_of}
use Rattle.plain_machine.specs.Trace.{taken_back_cause, is_set}
use Rattle.plain_machine.specs.declared.event.IdentCheck.{IdentCheck}
use Rattle.plain_machine.specs.declared.reply.Reply.{Reply}
use Rattle.plain_machine.specs.declared.reply.Reply.TheVariants as reply
use Rattle.image_read.specs.Reading.{Reading}
use Rattle.image_read.specs.Stream.{HasReadPlaces}

-- why the image of a header block isn't read: the block isn't marked, or the image is compressed
abbrev pub header_fault : List ℕ → Option Reply
header_fault header =
    if not (pointwise nat_eq (sig_of header) image_signature) then Some reply.NoImage
    else (if not (is_set (flags_of header) 2) then Some (reply.Compressed (flags_of header)) else None)

-- the mark of a header block, if it carries one
abbrev pub mark_in : AreaKind → Option Mark
mark_in (Image mark) = Some mark
mark_in Old = None
mark_in (Other sig) = None
mark_in (BadArea why) = None
mark_in (Swap area) = None

-- why an image with this mark isn't read further: it was made under a hardware signature other than the machine's
abbrev pub signature_fault : Hardware → Mark → Option Reply
signature_fault h mark =
    if is_set mark.flags 8 && not (mark.hw_sig == h.hw_sig) then Some (reply.HwMismatch mark.hw_sig h.hw_sig) else None

-- A reader of the chain that a mark names, or the reason why there is none, for each disk of `blocks` blocks whose
-- header block has that mark.
abbrev pub Opens : Hardware → ℕ → Mark → Result Reading Reply → Type 0
Opens h blocks mark result =
    (v : disk.DiskImage) → mark ≡ mark_of (header_of h v) → blocks ≡ blocks_of v →
    MatchResult result (λ r. (taken_back_cause h v ≡ None)
    × ((check : IdentCheck) → HasReadPlaces h v check r 0 [] [])) (λ why. taken_back_cause h v ≡ Some why)
