-- What a command does with an image that may be compressed, by what it does with one that isn't.
use Rattle.std.specs.Prelude.{ℕ, ◌≤◌, List, Option, IfSome}
use Rattle.definitions.specs.Disk.{Content, as_it_reads}
use Rattle.image_check.specs.declared.finding.Finding.{Finding}
use Rattle.expanded_disk.specs.Index.{IsIndexed}
use Rattle.expanded_disk.specs.Opens.{IsPlain, IsWrong}
use Rattle.expanded_disk.specs.declared.units.index.Index.{Index}
use Rattle.expanded_disk.specs.Keeps.{FailsWith}
use Rattle.expanded_disk.specs.Laid.{blocks_for, expanded}

-- An image that isn't compressed is used as it is. Of a compressed one, the first fault of its header, its info page or
-- its units is reported; if there is none, the plain image that it expands to is used, whose header is block 0 of a
-- disk of its own. Memory may be refused before that.
pub data RunsAny (Runs : Option Content → (blocks header before now : ℕ) → Type 0) (Refuses : List Finding → Type 0)
    (LacksMemory : Type 0) (content : Option Content) (blocks header before now : ℕ) : Type 0 where
  plain : (then : ℕ) → before ≤ then → IsPlain content blocks header → Runs content blocks header then now →
      RunsAny Runs Refuses LacksMemory content blocks header before now
  refused : (found : List Finding) → IsWrong content blocks header before now found → Refuses found →
      RunsAny Runs Refuses LacksMemory content blocks header before now
  unpacked : (index : Index) (faults : ℕ) → IfSome content (λ held. IsIndexed blocks (as_it_reads held) header index) →
      FailsWith content before now faults → Runs (expanded header content) (blocks_for index.pages) 0 0 faults →
      RunsAny Runs Refuses LacksMemory content blocks header before now
  no_memory : LacksMemory → RunsAny Runs Refuses LacksMemory content blocks header before now

-- only what is done with the plain image
pub data RunsExpanded (Runs : Option Content → (blocks header before now : ℕ) → Type 0) (LacksMemory : Type 0)
    (content : Option Content) (header : ℕ) (index : Index) (before now : ℕ) : Type 0 where
  ran : (faults : ℕ) → FailsWith content before now faults →
      Runs (expanded header content) (blocks_for index.pages) 0 0 faults →
      RunsExpanded Runs LacksMemory content header index before now
  lacks : LacksMemory → RunsExpanded Runs LacksMemory content header index before now
