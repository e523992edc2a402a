-- What a hibernation's disk calls write.
use Rattle.std.specs.Prelude.{◌≡◌, ◌<◌, ◌^◌, ℕ, List, map}
use Rattle.definitions.specs.Disk.{Content, IsContent}
use Rattle.definitions.specs.InfoPage.{IsInfo}
use Rattle.definitions.specs.SwapHeader.{marked}
use Rattle.definitions.specs.Tables.{frame}
use Rattle.plain_machine.specs.Machine.{Hardware, IsHardware}
use Rattle.plain_machine.specs.Image.{Image, info_of_image}
use Rattle.plain_machine.specs.Mark.{mark_flags}
use Rattle.plain_machine.specs.Shows.{WorldView, ShowsRunning}
use Rattle.plain_machine.specs.Stands.{NamesOnly, laid_blocks, first_map_block}
use Rattle.plain_machine.specs.State.{Running}

-- the header block with the mark of this image, whose first map lies in the least free slot
abbrev pub marked_header : Hardware → Running → Image → List ℕ → List ℕ
marked_header h a i header = marked header (first_map_block h a) (mark_flags i.format) h.hw_sig

-- The machine, and a disk of `blocks` blocks. The image's numbers fit their fields.
pub record IsOverDisk (h : Hardware) (i : Image) (blocks : ℕ) (c : Content) : Type 0 where
  pub hardware : IsHardware h
  pub info : IsInfo (info_of_image i)
  pub content : IsContent blocks c
  pub few : blocks < 2 ^ 32

-- A world whose hibernation began in this running state shows the state, its copies, and no slot of another image.
pub record ShowsCopies (h : Hardware) (shown : WorldView) (a : Running) (i : Image) : Type 0 where
  pub shows : ShowsRunning h shown a
  pub names : NamesOnly h shown (laid_blocks h a i)
  pub copies : map (frame shown.frames) shown.copies ≡ map (λ saved. saved.1) i.frames
