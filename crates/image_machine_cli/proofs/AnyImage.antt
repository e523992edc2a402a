-- From what is told of a plain image to what is told of one that may be compressed.
use Rattle.std.proofs.Common.{◌≡◌, ℕ, ◌≤◌, Option, None, Some, Ok, IfSome, sym, subst, inr, arith}
use Rattle.definitions.specs.Disk.{Content, as_it_reads}
use Rattle.image_walk.specs.Names.{IsReadFrom}
use Rattle.command_kit.specs.Told.{IsTold}
use Rattle.command_kit.specs.View.{SinkView}
use Rattle.command_kit.specs.declared.status.Status.{Status}
use Rattle.image_check.specs.Told.{Told}
use Rattle.image_cli.specs.Notes.{IsNoted}
use Rattle.image_pages.specs.Chain.{IsChainPage}
use Rattle.image_pages.specs.Opens.{IsNoImage}
use Rattle.image_machine.specs.declared.heading.Layout.{Layout}
use Rattle.expanded_disk.specs.Index.{IsIndexed}
use Rattle.expanded_disk.specs.Opens.{IsNotCompressed}
use Rattle.expanded_disk.specs.declared.units.index.Index.{Index}
use Rattle.expanded_disk.specs.Laid.{blocks_for, expanded}
use Rattle.image_cli.specs.Runs.{plain, unpacked}
use Rattle.image_cli.proofs.Running.{Alike}
use Rattle.image_machine.specs.Headings.{HasNoArea, HasNoMark}
use Rattle.image_machine.specs.Heads.{Heads}
use Rattle.image_machine.specs.declared.dump.headed.Headed.{Headed}
use Rattle.image_machine.specs.declared.dump.made.Made.TheVariants.{NoImage, NoArea}
use Rattle.image_machine_cli.specs.Loads.{GivesDump, GivesFrom, made, made_told}
use Rattle.image_machine_cli.specs.Makes.{MakesWanted}
use Rattle.image_machine_cli.specs.declared.wanted.Wanted.{Wanted}
use Rattle.image_machine_cli.specs.declared.wanted.Wanted.TheVariants.{Loader, Saved}

-- the pages of an index are those of the area

header_read : (content : Option Content) (blocks header : ℕ) (index : Index) → IfSome content (λ held. IsIndexed blocks (as_it_reads held) header index) → IsReadFrom content header (Ok index.header)
header_read None blocks header index indexed = tt
header_read (Some held) blocks header index indexed = indexed.header_is

info_read : (content : Option Content) (blocks header : ℕ) (index : Index) → IfSome content (λ held. IsIndexed blocks (as_it_reads held) header index) → IsChainPage content header 0 index.info
info_read None blocks header index indexed = tt
info_read (Some held) blocks header index indexed = indexed.info_is

-- the heading that the pages of an index give is the area's
pub heads_area : (content : Option Content) (blocks header : ℕ) (index : Index) (headed found : Headed) → headed ≡ found → IfSome content (λ held. IsIndexed blocks (as_it_reads held) header index) →
    ((c : Option Content) (h : ℕ) → IsReadFrom c h (Ok index.header) → IsChainPage c h 0 index.info → Heads c h headed) → Heads content header found
heads_area content blocks header index headed found is indexed heads =
    subst (Heads content header) is (heads content header (header_read content blocks header index indexed) (info_read content blocks header index indexed))

-- what is given is the same for an equal area and equal notes before

pub gives_since : (wanted : Wanted) (area mid : Option Content) (told then : Told) (layout : Layout) (status : Status) (out out' note' : SinkView) → mid ≡ area → then ≡ told →
    Alike (λ c n h b f. GivesFrom wanted mid c n h b f then layout status out out' note') (λ c n h b f. GivesFrom wanted area c n h b f told layout status out out' note')
gives_since wanted area mid told then layout status out out' note' same_area same c n h b f gives =
    subst (λ (t : Told). GivesFrom wanted area c n h b f t layout status out out' note') same
    (subst (λ (x : Option Content). GivesFrom wanted x c n h b f then layout status out out' note') same_area gives)

-- a header block without a mark, which isn't that of a compressed image

no_image_wanted : (wanted : Wanted) (area content : Option Content) (blocks header before now : ℕ) (old new : Told) (layout : Layout) → IsNoImage content blocks header old new → MakesWanted wanted area content blocks header before now old new layout NoImage
no_image_wanted Loader area content blocks header before now old new layout none = none
no_image_wanted (Saved tables) area content blocks header before now old new layout none = none

pub no_image_any : (wanted : Wanted) (content : Option Content) (blocks before now : ℕ) (old new : Told) (layout : Layout) (status : Status) (out out' note note' : SinkView) → before ≤ now → new ≡ old → IsNoted new note →
    HasNoMark content layout.offset → IsTold (made_told NoImage) status out out' note note' → GivesDump wanted content blocks before now old layout status out out' note'
no_image_any wanted content blocks before now old new layout status out out' note note' le untold noted (page, (read, none)) told =
    plain now le (inr (page, (read, subst IsNotCompressed (sym none) tt)))
    (made NoImage new note (no_image_wanted wanted content content blocks layout.offset now now old new layout (untold, inr (page, (read, none)))) noted told)

-- a header block that isn't that of a version 1 area

no_area_wanted : (wanted : Wanted) (area content : Option Content) (blocks header before now : ℕ) (old new : Told) (layout : Layout) → HasNoArea area layout.offset → new ≡ old → MakesWanted wanted area content blocks header before now old new layout NoArea
no_area_wanted Loader area content blocks header before now old new layout none untold = (none, untold)
no_area_wanted (Saved tables) area content blocks header before now old new layout none untold = (none, untold)

pub no_area_any : (wanted : Wanted) (content : Option Content) (blocks before now : ℕ) (old new : Told) (layout : Layout) (status : Status) (out out' note note' : SinkView) (index : Index) → IfSome content (λ held. IsIndexed blocks (as_it_reads held) layout.offset index) → new ≡ old → IsNoted new note →
    HasNoArea content layout.offset → IsTold (made_told NoArea) status out out' note note' → GivesDump wanted content blocks before now old layout status out out' note'
no_area_any wanted content blocks before now old new layout status out out' note note' index indexed untold noted none told =
    unpacked index 0 indexed (λ risen tells. absurd (omega (arith, risen)))
    (made NoArea new note (no_area_wanted wanted content (expanded layout.offset content) (blocks_for index.pages) 0 0 0 old new layout none untold) noted told)
