-- The lines of the facts: a key, and the numbers or the text of its value.
use Rattle.std.specs.Prelude.{ℕ, Bool, true, false, List, [], ◌∷◌, ◌++◌, None, codes, decimal, flat_map}
use Rattle.definitions.specs.Bytes.{bytes_at}
use Rattle.definitions.specs.InfoPage.{text_of_name}
use Rattle.byte_streams.specs.Texts.{name_text, numbers_text, value_text, word_text}
use Rattle.plain_machine.specs.UsableArea.{no_swap_at}
use Rattle.plain_machine.specs.Replies.{hex_text, why_text}
use Rattle.image_show.specs.declared.facts.fact.Fact.{Fact}
use Rattle.image_show.specs.declared.facts.fact.Fact.TheVariants as fact
use Rattle.image_show.specs.declared.facts.fact.Flag.{Flag}
use Rattle.image_show.specs.declared.facts.fact.Flag.TheVariants as flag
use Rattle.image_show.specs.declared.facts.fact.Header.{Header}
use Rattle.image_show.specs.declared.facts.fact.Header.TheVariants.{Generic, X86, Arm64, Unknown}
use Rattle.image_show.specs.Forms.{Style}

abbrev pub image_text : Bool → List ℕ
image_text true = codes "image yes"
image_text false = codes "image no"

abbrev pub flag_key : Flag → List ℕ
flag_key flag.PlatformMode = codes "platform_mode"
flag_key flag.NoCompress = codes "nocompress"
flag_key flag.Crc32 = codes "crc32"
flag_key flag.HwSig = codes "hw_sig"
flag_key flag.ZerosSkipped = codes "zeros_skipped"

abbrev pub header_key : Header → List ℕ
header_key Generic = codes "generic"
header_key X86 = codes "x86-64"
header_key Arm64 = codes "arm64"
header_key Unknown = codes "unknown"

-- the 16 bytes of a UUID in order, as hexadecimal digits
abbrev pub uuid_text : List ℕ → List ℕ
uuid_text bytes =
    codes "uuid " ++ hex_text (bytes_at 4 bytes 0) ++ codes "-" ++ hex_text (bytes_at 2 bytes 4) ++ codes "-"
    ++ hex_text (bytes_at 2 bytes 6)
    ++ codes "-" ++ hex_text (bytes_at 2 bytes 8) ++ codes "-" ++ hex_text (bytes_at 6 bytes 10)

abbrev pub kernel_text : (a b c : ℕ) → List ℕ
kernel_text a b c = codes "kernel " ++ decimal a ++ codes "." ++ decimal b ++ codes "." ++ decimal c

-- the text of a fact, without the end of its line
abbrev pub fact_text : Fact → List ℕ
fact_text (fact.Blocks n) = numbers_text (codes "blocks") (n ∷ [])
fact_text fact.HeaderMissing = codes "header missing"
fact_text fact.HeaderUnread = codes "header unread"
fact_text (fact.Image marked) = image_text marked
fact_text fact.AreaSwap = codes "area swap"
fact_text fact.AreaOld = codes "area old"
fact_text fact.AreaImage = codes "area image"
fact_text (fact.AreaOther sig) = codes "area other " ++ hex_text sig
fact_text (fact.AreaBad why) = codes "area bad " ++ why_text (no_swap_at why)
fact_text (fact.LastPage n) = numbers_text (codes "last_page") (n ∷ [])
fact_text (fact.BadPages n) = numbers_text (codes "bad_pages") (n ∷ [])
fact_text (fact.BadPage n) = numbers_text (codes "bad_page") (n ∷ [])
fact_text (fact.Uuid bytes) = uuid_text bytes
fact_text (fact.Label bytes) = codes "label" ++ value_text (text_of_name bytes)
fact_text (fact.FirstMap n) = numbers_text (codes "first_map") (n ∷ [])
fact_text (fact.Flags n) = numbers_text (codes "flags") (n ∷ [])
fact_text (fact.Flag f) = codes "flag " ++ flag_key f
fact_text (fact.HwSig n) = numbers_text (codes "hw_sig") (n ∷ [])
fact_text (fact.Crc32 n) = numbers_text (codes "crc32") (n ∷ [])
fact_text (fact.Header h) = codes "header " ++ header_key h
fact_text (fact.Name key bytes) = name_text key bytes
fact_text (fact.VersionCode n) = numbers_text (codes "version_code") (n ∷ [])
fact_text (fact.Kernel a b c) = kernel_text a b c
fact_text (fact.JumpAddress n) = word_text (codes "jump_address") n
fact_text (fact.JumpAddressPhysical n) = word_text (codes "jump_address_physical") n
fact_text (fact.Cr3 n) = word_text (codes "cr3") n
fact_text (fact.MemoryMapChecksum n) = word_text (codes "memory_map_checksum") n
fact_text (fact.KernelVersion bytes) = codes "kernel_version" ++ value_text (text_of_name bytes)
fact_text (fact.MemoryPages n) = numbers_text (codes "memory_pages") (n ∷ [])
fact_text (fact.ImagePages n) = numbers_text (codes "image_pages") (n ∷ [])
fact_text (fact.StreamPages n) = numbers_text (codes "stream_pages") (n ∷ [])
fact_text (fact.BlockRun start count) = numbers_text (codes "block_run") (start ∷ count ∷ [])
fact_text (fact.Maps n) = numbers_text (codes "maps") (n ∷ [])
fact_text (fact.Units n) = numbers_text (codes "units") (n ∷ [])
fact_text (fact.CompressedBytes n) = numbers_text (codes "compressed_bytes") (n ∷ [])
fact_text (fact.ExpandedBytes n) = numbers_text (codes "expanded_bytes") (n ∷ [])
fact_text (fact.FrameRun start count) = numbers_text (codes "frame_run") (start ∷ count ∷ [])

abbrev pub line_text : Fact → List ℕ
line_text f = fact_text f ++ codes "\n"

-- these facts, one per line
abbrev pub text_of : List Fact → List ℕ
text_of facts = flat_map line_text facts

-- the form of such lines: what was printed before makes no difference
abbrev pub lines : Style
lines = record { piece = λ last f. line_text f; kept = λ last f. None }
