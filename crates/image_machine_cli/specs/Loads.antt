-- What `loader` and `machine` print.
use Rattle.std.specs.Prelude.{◌≡◌, ℕ, ⊤, [], List, codes, length, Option}
use Rattle.definitions.specs.Disk.{Content}
use Rattle.definitions.specs.Zones.{top}
use Rattle.command_kit.specs.Told.{RunResult, line, memory_told}
use Rattle.command_kit.specs.Told.{IsTold}
use Rattle.command_kit.specs.View.{SinkView}
use Rattle.command_kit.specs.declared.status.Status.{Status}
use Rattle.command_kit.specs.declared.status.Status.TheVariants as status
use Rattle.image_check.specs.Told.{Told}
use Rattle.image_cli.specs.Notes.{IsNoted}
use Rattle.image_machine.specs.declared.heading.Layout.{Layout}
use Rattle.expanded_disk.specs.declared.units.index.Index.{Index}
use Rattle.image_cli.specs.Runs.{RunsAny, RunsExpanded}
use Rattle.image_cli.specs.ExpandedStreams.{NotesFindings, NotesMemory}
use Rattle.image_machine.specs.declared.dump.made.Made.{Made}
use Rattle.image_machine.specs.declared.dump.made.Made.TheVariants.{NoImage, Refused, NoArea, Limit, Dump}
use Rattle.swsusp_cli.specs.Loads.{written_told}
use Rattle.image_machine_cli.specs.LimitLines.{limit_line}
use Rattle.image_machine_cli.specs.Makes.{MakesWanted}
use Rattle.image_machine_cli.specs.declared.wanted.Wanted.{Wanted}
use Rattle.image_machine_cli.specs.declared.wanted.Wanted.TheVariants.{Loader, Saved}

-- nothing is printed, and this is noted
abbrev pub refused : List ℕ → RunResult
refused note = record { status = status.Refused; out = []; note = note }

-- The dump, or why there is none, if that isn't reported as findings.
abbrev pub made_told : Made → RunResult
made_told NoImage = refused (line (codes "no image"))
made_told Refused = refused []
made_told NoArea = refused (line (codes "no version 1 area"))
made_told (Limit limit) = refused (limit_line limit)
made_told (Dump dump) = written_told dump.hw dump.frames

-- a dump has as many page frames as its zones
abbrev pub HasFrames : Made → Type 0
HasFrames NoImage = ⊤
HasFrames Refused = ⊤
HasFrames NoArea = ⊤
HasFrames (Limit limit) = ⊤
HasFrames (Dump dump) = length dump.frames ≡ top dump.hw.zones

-- Either what was made of the image is printed, or that memory was refused. Findings may be noted first.
pub data TellsMade (makes : Told → Made → Type 0) (told : Told) (status : Status)
    (out out' note' : SinkView) : Type 0 where
  made : (what : Made) (then : Told) (note : SinkView) → makes then what → IsNoted then note →
      IsTold (made_told what) status out out' note note' → TellsMade makes told status out out' note'
  no_memory : (note : SinkView) → IsNoted told note → IsTold memory_told status out out' note note' →
      TellsMade makes told status out out' note'

-- The dump of the requested machine, from the heading of an area and the page frames that are read by a header block.
abbrev pub GivesFrom : Wanted → (area content : Option Content) → (blocks header before now : ℕ) → Told → Layout →
    Status → (out out' note' : SinkView) → Type 0
GivesFrom wanted area content blocks header before now told layout status out out' note' =
    TellsMade (λ then what. MakesWanted wanted area content blocks header before now told then layout what)
    told status out out' note'

-- The heading is that of the area, whether the image is compressed or not. The page frames of a compressed one are
-- those of the plain image that it expands to; if something is wrong with it, exactly that is noted.
abbrev pub GivesDump : Wanted → Option Content → (blocks before now : ℕ) → Told → Layout → Status →
    (out out' note' : SinkView) → Type 0
GivesDump wanted content blocks before now told layout status out out' note' =
    RunsAny (λ c n h b f. GivesFrom wanted content c n h b f told layout status out out' note')
    (λ found. NotesFindings found told status out out' note') (NotesMemory told status out out' note')
    content blocks layout.offset before now

-- the same for a compressed image only
abbrev pub GivesExpanded : Wanted → Option Content → Index → (before now : ℕ) → Told → Layout → Status →
    (out out' note' : SinkView) → Type 0
GivesExpanded wanted content index before now told layout status out out' note' =
    RunsExpanded (λ c n h b f. GivesFrom wanted content c n h b f told layout status out out' note')
    (NotesMemory told status out out' note') content layout.offset index before now

-- The dump of a loader.
abbrev pub Loads : Option Content → (blocks before now : ℕ) → Told → Layout → Status →
    (out out' note' : SinkView) → Type 0
Loads content blocks before now told layout status out out' note' =
    GivesDump Loader content blocks before now told layout status out out' note'

-- The dump of the machine that was saved.
abbrev pub GivesMachine : Option Content → (blocks before now : ℕ) → Told → Layout → Option (ℕ × ℕ) → Status →
    (out out' note' : SinkView) → Type 0
GivesMachine content blocks before now told layout tables status out out' note' =
    GivesDump (Saved tables) content blocks before now told layout status out out' note'
