-- A command as it is requested.
use Rattle.std.specs.Prelude.{Bool, true, false}
use Rattle.command_words.specs.ImageWords.{Asked, SwapArea, check, show, stream, page, core, differ, discard}
use Rattle.command_words.specs.declared.swsusp_image.command.Area.{Area}
use Rattle.command_words.specs.declared.swsusp_image.command.Command.{Command}
use Rattle.command_words.specs.declared.swsusp_image.command.Form.{Form}
use Rattle.command_words.specs.declared.swsusp_image.command.Form.TheVariants.{Lines, Json}
use Rattle.command_words.specs.declared.swsusp_image.command.Command.TheVariants.{Check, Show, Stream, Page, Core, Differ, Discard}

abbrev pub area_by : Area → SwapArea
area_by area = record { swap = area.swap.now; offset = area.offset }

abbrev pub is_json : Form → Bool
is_json Lines = false
is_json Json = true

-- an area, with the form of what is printed of it
abbrev pub formed_by : Area × Form → Bool × SwapArea
formed_by formed = (is_json formed.1, area_by formed.0)

abbrev pub asked_by : Command → Asked
asked_by (Check area form) = check (is_json form) (area_by area)
asked_by (Show area form) = show (is_json form) (area_by area)
asked_by (Stream area) = stream (area_by area)
asked_by (Page area frame) = page (area_by area) frame
asked_by (Core area) = core (area_by area)
asked_by (Differ area other first_only) = differ first_only (area_by area) other.now
asked_by (Discard area) = discard (area_by area)
