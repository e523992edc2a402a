-- What is shown of an area whose image may be compressed.
use Rattle.std.specs.Prelude.{◌≡◌, ℕ, ◌≤◌, ◌⊎◌, List, flat_map, Option, IfSome}
use Rattle.definitions.specs.Disk.{Content, as_it_reads}
use Rattle.image_check.specs.declared.finding.Finding.{Finding}
use Rattle.image_show.specs.HeaderFacts.{header_facts}
use Rattle.image_show.specs.declared.facts.fact.Fact.{Fact}
use Rattle.image_show.specs.Shown.{Shows, ShowsFront}
use Rattle.image_show.specs.declared.shown.Shown.{Shown}
use Rattle.expanded_disk.specs.Index.{IsIndexed}
use Rattle.expanded_disk.specs.Opens.{IsPlain, IsWrong}
use Rattle.expanded_disk.specs.declared.units.index.Index.{Index}
use Rattle.expanded_disk.specs.Keeps.{FailsWith}
use Rattle.expanded_disk.specs.Laid.{blocks_for, expanded}
use Rattle.expanded_show.specs.Blocks.{AreAreaFacts}
use Rattle.expanded_show.specs.Standing.{standing}

-- the image isn't compressed, or something is wrong with it
abbrev pub IsNotWhole : Option Content → (blocks header before now : ℕ) → Type 0
IsNotWhole content blocks header before now =
    IsPlain content blocks header ⊎ ((found : List Finding) × IsWrong content blocks header before now found)

-- The facts of the plain image that a whole compressed one expands to, with the header block of the area and these
-- facts of its blocks in place of those of the disk that expands it.
pub record ShowsExpanded (ShowsPlain : Option Content → (blocks header before now : ℕ) → List Fact → Type 0)
    (content : Option Content) (blocks header : ℕ) (index : Index) (area : List Fact) (before now : ℕ)
    (facts : List Fact) : Type 0 where
  pub faults : ℕ
  pub fails : FailsWith content before now faults
  pub plain : List Fact
  pub shows : ShowsPlain (expanded header content) (blocks_for index.pages) 0 0 faults plain
  pub says : facts ≡ flat_map (standing (header_facts blocks index.header) area) plain

-- An image that isn't compressed is shown as it is, and one that has a fault by its header block; of a whole compressed
-- one, what it expands to is shown.
pub data ShowsAny (ShowsPlain : Option Content → (blocks header before now : ℕ) → List Fact → Type 0)
    (content : Option Content) (blocks header before now : ℕ) (facts : List Fact) : Type 0 where
  as_it_lies : (then : ℕ) → before ≤ then → IsNotWhole content blocks header before then →
      ShowsPlain content blocks header then now facts → ShowsAny ShowsPlain content blocks header before now facts
  whole : (index : Index) (area : List Fact) (then mid : ℕ) → before ≤ then →
      IfSome content (λ held. IsIndexed blocks (as_it_reads held) header index) →
      AreAreaFacts content then mid index area → then ≤ mid →
      ShowsExpanded ShowsPlain content blocks header index area mid now facts →
      ShowsAny ShowsPlain content blocks header before now facts

-- all that is shown
abbrev pub ShowsAll : Option Content → (blocks header before now : ℕ) → List Fact → Shown → Type 0
ShowsAll content blocks header before now facts shown =
    ShowsAny (λ c n h b f fs. Shows c n h b f fs shown) content blocks header before now facts

-- no more than that is shown
abbrev pub ShowsNoMore : Option Content → (blocks header before now : ℕ) → List Fact → Type 0
ShowsNoMore content blocks header before now facts = ShowsAny ShowsFront content blocks header before now facts
