-- What is printed when no machine is made: for words that don't parse, and for `inspect`.
use Rattle.std.specs.Prelude.{◌≡◌, ◌⊎◌, ℕ, List, Option, IfSome, nat_lt, if◌then◌else◌, [], ◌++◌, codes, decimal, ◌==◌}
use Rattle.std.specs.Prelude.{bit_and}
use Rattle.definitions.specs.Disk.{Content, HasRisen, raised, as_it_reads, block}
use Rattle.image_format.specs.AreaKind.{area_kind}
use Rattle.command_kit.specs.Told.{RunResult, unparsed, unread, line}
use Rattle.command_kit.specs.View.{View}
use Rattle.command_kit.specs.declared.status.Status.{Status}
use Rattle.swsusp_cli.specs.Outcome.{IsOutOfMemory, Tells}
use Rattle.definitions.specs.Bytes.{zero_page}
use Rattle.image_format.specs.declared.signature.area.Mark.{Mark}
use Rattle.image_format.specs.declared.signature.area.AreaKind.{AreaKind}
use Rattle.image_format.specs.declared.signature.area.AreaKind.TheVariants.{Image, Old, Other, BadArea, Swap}
use Rattle.plain_machine.specs.UsableArea.{no_swap_at}
use Rattle.plain_machine.specs.Replies.{no_swap_text}
use Rattle.plain_machine.specs.declared.no_swap.NoSwap.{NoSwap}
use Rattle.plain_machine.specs.declared.no_swap.NoSwap.TheVariants as no_swap
use Rattle.command_kit.specs.declared.status.Status.TheVariants.{Done, Refused}

-- What `inspect` says of a header block.

-- a block as the disk reads; one that isn't below the disk's blocks counts as zeros
abbrev pub header_page : ℕ → ℕ → Content → List ℕ
header_page offset blocks content = if nat_lt offset blocks then block (as_it_reads content) offset else zero_page

abbrev pub area_text : ℕ → ℕ → List ℕ
area_text last bad = codes "area last " ++ decimal last ++ codes " bad " ++ decimal bad

-- the hardware signature, if the image carries one (SF_HW_SIG)
abbrev pub hw_text : Mark → List ℕ
hw_text mark = if bit_and mark.flags 8 == 0 then codes "-" else decimal mark.hw_sig

abbrev pub image_text : Mark → List ℕ
image_text mark =
    area_text mark.last mark.count ++ codes " image " ++ decimal mark.first ++ codes " flags " ++ decimal mark.flags
    ++ codes " hw " ++ hw_text mark

abbrev pub refused : NoSwap → RunResult
refused why = record { status = Refused; out = []; note = line (no_swap_text why) }

-- an area without an image, or an image, is a line on out; anything else is refused
abbrev pub inspected : AreaKind → RunResult
inspected (Swap area) =
    record { status = Done; out = line (area_text area.last area.count ++ codes " image none"); note = [] }
inspected (Image mark) = record { status = Done; out = line (image_text mark); note = [] }
inspected Old = refused no_swap.Old
inspected (Other sig) = refused (no_swap.Signature sig)
inspected (BadArea why) = refused (no_swap_at why)

-- the count of calls after the read of a block, which isn't made if the disk has no such block
abbrev pub calls_for : ℕ → ℕ → ℕ → ℕ
calls_for offset blocks calls = if nat_lt offset blocks then raised calls else calls

-- what is said of block `offset` of a disk of `blocks` blocks, or that it couldn't be read
abbrev pub IsInspected : ℕ → ℕ → Option Content → ℕ → ℕ → RunResult → Type 0
IsInspected offset blocks content before after told =
    ((page : List ℕ) × IfSome content (λ held. page ≡ header_page offset blocks held)
    × (told ≡ inspected (area_kind page)))
    ⊎ ((told ≡ unread) × HasRisen before after)

-- the words don't parse, and that is reported; the disk isn't called
pub record IsRefusal (x x' : View) (status : Status) : Type 0 where
  pub text : List ℕ
  pub told : Tells (unparsed text) status x x'
  pub untouched : x'.disk ≡ x.disk

-- block `offset` is read, if the disk has it, and described; nothing is written
pub record IsInspection (offset : ℕ) (x x' : View) (status : Status) : Type 0 where
  pub answer : RunResult
  pub says : IsInspected offset x.disk.blocks x.disk.content x.disk.faults x'.disk.faults answer
  pub told : Tells answer status x x'
  pub content : x'.disk.content ≡ x.disk.content
  pub calls : x'.disk.calls ≡ calls_for offset x.disk.blocks x.disk.calls
  pub orders : x'.disk.orders ≡ x.disk.orders

-- How wrong words or an inspection may end, by the view of the outside before and after. Memory may be refused before
-- the disk is called.
abbrev pub Refuses : (x x' : View) → Status → Type 0
Refuses x x' status = IsRefusal x x' status ⊎ IsOutOfMemory x x' status

abbrev pub Inspects : ℕ → (x x' : View) → Status → Type 0
Inspects offset x x' status = IsInspection offset x x' status ⊎ IsOutOfMemory x x' status
