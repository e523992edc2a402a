-- What a step of a reader leaves as it was.
use Rattle.std.specs.Prelude.{◌≡◌, ℕ, List}
use Rattle.frame_sets.specs.FrameSet.{FrameSet}
use Rattle.image_read.specs.Reading.{Reading}

-- The reader stays over a disk with the same number of blocks, and the sets stay over their zones.
pub record StaysOver (r r' : Reading) (origs origs' zeros zeros' : FrameSet) : Type 0 where
  pub same_blocks : r'.blocks ≡ r.blocks
  pub same_zones : origs'.zones ≡ origs.zones
  pub zones_of_zeros : zeros'.zones ≡ zeros.zones

-- nothing changed: not the reader, the sets, the page nor the disk
pub record IsUntouched {X : Type 0} (r r' : Reading) (origs origs' zeros zeros' : FrameSet) (page page' : List ℕ)
    (disk disk' : X) : Type 0 where
  pub same_reader : r' ≡ r
  pub same_origs : origs' ≡ origs
  pub same_zeros : zeros' ≡ zeros
  pub same_page : page' ≡ page
  pub unread : disk' ≡ disk
