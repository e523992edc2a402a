-- What `page` writes and notes.
use Rattle.std.specs.Prelude.{ℕ, ◌++◌, List, [], Option, codes, decimal}
use Rattle.definitions.specs.Disk.{Content}
use Rattle.command_kit.specs.Told.{RunResult, line, memory_told}
use Rattle.command_kit.specs.Told.{IsTold}
use Rattle.command_kit.specs.View.{SinkView}
use Rattle.command_kit.specs.declared.status.Status.{Status}
use Rattle.command_kit.specs.declared.status.Status.TheVariants.{Done}
use Rattle.image_check.specs.Told.{Told}
use Rattle.image_pages.specs.Found.{Finds}
use Rattle.image_pages.specs.declared.saved.finding.Found.{Found}
use Rattle.image_pages.specs.declared.saved.finding.Found.TheVariants as found
use Rattle.image_cli.specs.Notes.{IsNoted}
use Rattle.image_cli.specs.Streams.{refused_told}

-- the page, or the reason why there is none, after the findings that were noted
abbrev pub found_told : ℕ → List ℕ → Found → RunResult
found_told frame page found.NoImage = refused_told (line (codes "no image"))
found_told frame page found.Refused = refused_told []
found_told frame page found.NoPage = refused_told (line (codes "no page " ++ decimal frame))
found_told frame page found.Page = record { status = Done; out = page; note = [] }

-- either what was found of the page frame is printed, or that memory was refused
pub data WritesPage (frame : ℕ) (content : Option Content) (blocks header before now : ℕ) (told : Told)
    (status : Status) (out out' note' : SinkView) : Type 0 where
  ended : (what : Found) (page : List ℕ) (then : Told) (noted : SinkView) →
      Finds content blocks header before now told then frame page what → IsNoted then noted →
      IsTold (found_told frame page what) status out out' noted note' →
      WritesPage frame content blocks header before now told status out out' note'
  no_memory : (noted : SinkView) → IsNoted told noted → IsTold memory_told status out out' noted note' →
      WritesPage frame content blocks header before now told status out out' note'
