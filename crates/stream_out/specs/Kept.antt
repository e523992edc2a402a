-- What a contract sees of a stream, the bytes that are left; and what is kept of the stream.
use Rattle.std.specs.Prelude.{◌≡◌, ◌≤◌, ◌<◌, ℕ, ◌+◌, ◌-◌, List, length}
use Rattle.definitions.specs.NumberPages.{meta_of}
use Rattle.definitions.specs.Zones.{top}
use Rattle.frame_sets.specs.Places.{count_below}
use Rattle.plain_machine.specs.Image.{stream_of}
use Rattle.stream_out.specs.Bytes.{plain_image}
use Rattle.stream_out.specs.Cursor.{left_behind}
use Rattle.stream_out.specs.Pages.{IsSaveableSet, IsHead}
use Rattle.stream_out.specs.declared.stream.StreamOut.TheInside.{Inside}

abbrev pub left_of : Inside → List ℕ
left_of s = left_behind (stream_of (plain_image s.hw.now s.frames.now)) s.cursor

pub record IsKept (s : Inside) : Type 0 where
  pub frames : length s.frames.now ≡ top s.hw.now.zones
  pub saveable : IsSaveableSet s.hw.now s.frames.now s.saveable.now
  pub page : s.cursor.page ≤ meta_of (length s.saveable.now.members) + 1 + length s.saveable.now.members
  pub at : s.cursor.at < 4096
  -- the page frames of the data pages before the cursor's page lie below `from`, and the others don't
  pub from : count_below s.saveable.now.members s.cursor.from ≡ s.cursor.page -
      (meta_of (length s.saveable.now.members) + 1)
  -- a head page that is handed out in part is kept
  pub head : 0 < s.cursor.at → s.cursor.page ≤ meta_of (length s.saveable.now.members) →
      IsHead s.hw.now s.saveable.now.members s.cursor.page s.head
