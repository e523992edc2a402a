-- [replies]: the line of each reply.
use Rattle.std.specs.Prelude.{ℕ, List, [], ◌∷◌, ◌++◌, codes, decimal, flat_map, Bool, true, false, ◌/◌, ◌%◌, ◌+◌}
use Rattle.std.specs.Prelude.{nat_lt, if◌then◌else◌}
use Rattle.definitions.specs.declared.info.Field.{Field}
use Rattle.definitions.specs.declared.info.Field.TheVariants as field
use Rattle.plain_machine.specs.declared.reply.Reply.{Reply}
use Rattle.plain_machine.specs.declared.reply.Reply.TheVariants as reply
use Rattle.plain_machine.specs.declared.reply.Left.{Left}
use Rattle.plain_machine.specs.declared.reply.Left.TheVariants.{Same, Gone, Unsure}
use Rattle.plain_machine.specs.declared.reply.UndoCall.{UndoCall}
use Rattle.plain_machine.specs.declared.reply.UndoCall.TheVariants as undo
use Rattle.plain_machine.specs.declared.no_swap.NoSwap.{NoSwap}
use Rattle.plain_machine.specs.declared.no_swap.NoSwap.TheVariants.{Image, Old, Signature, Version, BadCount, LastZero}
use Rattle.plain_machine.specs.declared.no_swap.NoSwap.TheVariants.{BadEntry, Short, Misfit, BadSet}

-- What is printed, without the end of the line.

-- a hexadecimal digit
abbrev pub hex_digit : ℕ → ℕ
hex_digit n = if nat_lt n 10 then 48 + n else 87 + n

-- two digits for each byte
abbrev pub hex_text : List ℕ → List ℕ
hex_text bytes = flat_map (λ b. hex_digit (b / 16) ∷ hex_digit (b % 16) ∷ []) bytes

-- why an area can't be used
abbrev pub why_text : NoSwap → List ℕ
why_text Image = codes "image"
why_text Old = codes "old"
why_text (Signature sig) = codes "signature " ++ hex_text sig
why_text (Version v) = codes "version " ++ decimal v
why_text (BadCount n) = codes "bad count " ++ decimal n
why_text LastZero = codes "last zero"
why_text (BadEntry slot) = codes "bad entry " ++ decimal slot
why_text (Short last blocks) = codes "short " ++ decimal last ++ codes " blocks " ++ decimal blocks
why_text (Misfit last slots) = codes "misfit " ++ decimal last ++ codes " slots " ++ decimal slots
why_text BadSet = codes "bad set"

abbrev pub no_swap_text : NoSwap → List ℕ
no_swap_text why = codes "no swap: " ++ why_text why

abbrev pub left_text : Left → List ℕ
left_text Same = codes "same"
left_text Gone = codes "gone"
left_text Unsure = codes "unsure"

abbrev pub call_text : UndoCall → List ℕ
call_text undo.Write = codes "write"
call_text undo.Sync = codes "sync"

abbrev pub field_text : Field → List ℕ
field_text field.VersionCode = codes "version code"
field_text field.Sysname = codes "sysname"
field_text field.Release = codes "release"
field_text field.Version = codes "version"
field_text field.Machine = codes "machine"

-- a name and a number; a name, a number, a name and a number
abbrev pub one : List ℕ → ℕ → List ℕ
one name n = name ++ decimal n

abbrev pub two : List ℕ → ℕ → List ℕ → ℕ → List ℕ
two name m between n = name ++ decimal m ++ between ++ decimal n

abbrev pub booted_text : Bool → List ℕ
booted_text true = codes "booted image yes"
booted_text false = codes "booted image no"

-- the text of a reply, without the end of its line
unfoldable pub reply_text : Reply → List ℕ
reply_text reply.Done = codes "ok"
reply_text (reply.More k n) = two (codes "more ") k (codes " of ") n
reply_text (reply.Booted image) = booted_text image
reply_text (reply.Word value) = one (codes "word ") value
reply_text (reply.Slot s) = one (codes "slot ") s
reply_text (reply.Written s) = one (codes "written ") s
reply_text (reply.Reading s) = one (codes "reading ") s
reply_text (reply.Fetched s) = one (codes "read ") s
reply_text (reply.Hibernated n) = one (codes "hibernated ") n
reply_text (reply.Undo call k) = codes "undo " ++ call_text call ++ codes " " ++ decimal k
reply_text reply.Settled = codes "settled"
reply_text (reply.Loading k) = one (codes "loading ") k
reply_text (reply.Resumed n) = one (codes "resumed ") n
reply_text reply.WasCut = codes "cut"
reply_text reply.Idle = codes "idle"
reply_text reply.NotOff = codes "not off"
reply_text reply.NotOn = codes "not on"
reply_text reply.NoDump = codes "no dump"
reply_text reply.Frozen = codes "frozen"
reply_text reply.InFlight = codes "in flight"
reply_text reply.NoFrame = codes "no frame"
reply_text reply.NotFree = codes "not free"
reply_text reply.NotOwner = codes "not owner"
reply_text reply.Closed = codes "closed"
reply_text reply.NoSlot = codes "no slot"
reply_text reply.NoSlotHere = codes "no slot here"
reply_text reply.NothingHeld = codes "nothing held"
reply_text (reply.Busy t) = one (codes "busy ") t
reply_text (reply.NoSwap why) = no_swap_text why
reply_text (reply.NoFrames free need) = two (codes "no frames ") free (codes " need ") need
reply_text (reply.NoSlots free need) = two (codes "no slots ") free (codes " need ") need
reply_text reply.NoImage = codes "no image"
reply_text (reply.Compressed flags) = one (codes "compressed ") flags
reply_text (reply.HwMismatch image own) = two (codes "hardware ") image (codes " own ") own
reply_text reply.NoChain = codes "no chain"
reply_text (reply.BadBlock b) = one (codes "bad block ") b
reply_text (reply.ChainEnds m) = one (codes "chain ends ") m
reply_text (reply.Mismatch f) = codes "mismatch " ++ field_text f
reply_text (reply.MemorySize image own) = two (codes "memory size ") image (codes " own ") own
reply_text (reply.BadCounts n pages) = two (codes "bad counts ") n (codes " ") pages
reply_text (reply.BadPfn p) = one (codes "bad pfn ") p
reply_text (reply.PfnOrder a b) = two (codes "pfn order ") a (codes " ") b
reply_text (reply.PfnEnd found) = one (codes "pfn end ") found
reply_text (reply.TooFewLoaderFrames have need) = two (codes "too few loader frames ") have (codes " need ") need
reply_text (reply.BadTables f) = one (codes "bad tables ") f
reply_text (reply.ReadFault left) = codes "read fault " ++ left_text left
reply_text (reply.WriteFault left) = codes "write fault " ++ left_text left
reply_text (reply.SyncFault left) = codes "sync fault " ++ left_text left
reply_text reply.Sleeping = codes "sleeping"
reply_text (reply.Asleep n) = one (codes "asleep ") n
reply_text reply.NotAsleep = codes "not asleep"
reply_text reply.Woken = codes "woken"
reply_text (reply.Shrunk dropped left) = two (codes "shrunk ") dropped (codes " left ") left

-- Line(reply), and Text(replies)
abbrev pub line_of : Reply → List ℕ
line_of r = reply_text r ++ 10 ∷ []

abbrev pub text_of : List Reply → List ℕ
text_of replies = flat_map line_of replies
