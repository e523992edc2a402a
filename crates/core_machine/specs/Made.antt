-- The machine of a core file.
use Rattle.std.specs.Prelude.{◌≡◌, ℕ, ◌-◌, ⊤, Bool, not, max, List, [], ◌∷◌, filter, replicate, unwrap_or, Option, Some}
use Rattle.std.specs.Prelude.{None}
use Rattle.definitions.specs.declared.info.Ident.{Ident}
use Rattle.plain_machine.specs.Image.{is_zeros}
use Rattle.core_machine.specs.Notes.{ident_in}
use Rattle.core_machine.specs.Heads.{segments_in}
use Rattle.core_machine.specs.Notes.{head_fault}
use Rattle.core_machine.specs.Pages.{core_fault, pages_of}
use Rattle.core_machine.specs.Segments.{frame_end}
use Rattle.core_machine.specs.declared.segments.segment.Segment.{Segment}
use Rattle.image_machine.specs.Limits.{PassesAtOnce}
use Rattle.image_machine.specs.Machines.{IsMachineFor, PassesWith}
use Rattle.image_machine.specs.declared.heading.Heading.{Heading}
use Rattle.image_machine.specs.declared.heading.Layout.{Layout}
use Rattle.image_machine.specs.declared.limit.Limit.{Limit}
use Rattle.machine.specs.declared.dump.Dump.{Dump}
use Rattle.image_format.specs.declared.signature.area.Area.{Area}
use Rattle.core_machine.specs.declared.stop.Stop.{Stop}
use Rattle.core_machine.specs.declared.stop.Stop.TheVariants as stop

-- the page frames whose page isn't all zero
abbrev pub holds_bytes : ℕ × List ℕ → Bool
holds_bytes saved = not (is_zeros saved.1)

unfoldable pub saved_of : List ℕ → List Segment → List (ℕ × List ℕ)
saved_of bytes segments = filter holds_bytes (pages_of bytes segments)

abbrev pub saved_in : List ℕ → List (ℕ × List ℕ)
saved_in bytes = saved_of bytes (segments_in bytes)

-- the page frame after the last one of segments, or `frame` if there are no segments
abbrev pub end_after : ℕ → List Segment → ℕ
end_after frame [] = frame
end_after frame (s ∷ segments) = end_after (frame_end s) segments

abbrev pub frames_in : List Segment → ℕ
frames_in segments = end_after 0 segments

-- The given number of slots, or else as many as page frames, but at least two.
abbrev pub slots_for : Option ℕ → ℕ → ℕ
slots_for slots frames = max 2 (unwrap_or slots frames)

-- an area with the given number of slots and no bad pages
abbrev pub area_of : ℕ → Area
area_of slots = record { last = slots - 1; count = 0; bad = replicate 630 0 }

abbrev pub heading_of : Ident → ℕ → Option ℕ → Heading
heading_of ident frames slots =
    record { ident = ident; physpages = frames; area = area_of (slots_for slots frames); hw_sig = 0 }

abbrev pub heading_in : List ℕ → Option ℕ → Heading
heading_in bytes slots = heading_of (ident_in bytes) (frames_in (segments_in bytes)) slots

-- one zone from page frame 0 on, and one extent from block 0 on
pub record IsPlain (layout : Layout) : Type 0 where
  pub zones : layout.zones.now ≡ []
  pub extents : layout.extents.now ≡ []
  pub offset : layout.offset ≡ 0

-- The dump is that of a machine in which exactly the page frames with bytes other than zero are in use, apart from its
-- tables, each with its page.
pub record IsOfCore (bytes : List ℕ) (slots : Option ℕ) (dump : Dump) : Type 0 where
  pub no_fault : core_fault bytes ≡ None
  pub layout : Layout
  pub plain : IsPlain layout
  pub machine : IsMachineFor (heading_in bytes slots) layout None (saved_in bytes) dump.hw dump.frames

-- No machine has this memory, because a limit is violated: whatever its pages are, or by the pages of the whole file.
pub data HasLimit (bytes : List ℕ) (slots : Option ℕ) (limit : Limit) : Type 0 where
  at_once : (layout : Layout) → IsPlain layout → head_fault bytes ≡ None →
      PassesAtOnce (heading_in bytes slots) layout limit → HasLimit bytes slots limit
  at_last : (layout : Layout) → IsPlain layout → core_fault bytes ≡ None →
      PassesWith (heading_in bytes slots) layout None (saved_in bytes) limit → HasLimit bytes slots limit

-- A fault is the first one of the file. A failed source or refused memory says nothing about the file.
abbrev pub LacksMachine : List ℕ → Option ℕ → Stop → Type 0
LacksMachine bytes slots (stop.Core fault) = core_fault bytes ≡ Some fault
LacksMachine bytes slots (stop.Limit limit) = HasLimit bytes slots limit
LacksMachine bytes slots stop.Source = ⊤
LacksMachine bytes slots stop.Memory = ⊤
