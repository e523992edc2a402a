-- From what is shown of a plain image to what is shown of one that may be compressed.
use Rattle.std.proofs.Common.{◌≡◌, ℕ, ◌≤◌, List, Option, IfSome, flat_map, sym, subst, ◌∙◌}
use Rattle.definitions.specs.Disk.{Content, as_it_reads}
use Rattle.image_show.specs.HeaderFacts.{header_facts}
use Rattle.image_show.specs.declared.facts.fact.Fact.{Fact}
use Rattle.expanded_disk.specs.Index.{IsIndexed}
use Rattle.expanded_disk.specs.declared.units.index.Index.{Index}
use Rattle.expanded_disk.specs.Keeps.{FailsWith, HasIndex}
use Rattle.expanded_disk.specs.Laid.{blocks_for, expanded}
use Rattle.expanded_disk.proofs.Loads.{for_some}
use Rattle.expanded_show.specs.Blocks.{AreAreaFacts}
use Rattle.expanded_show.specs.Standing.{standing}
use Rattle.expanded_show.specs.Shown.{IsNotWhole, ShowsAny, ShowsExpanded, as_it_lies, whole}

abbrev pub Showing : Type 1
Showing = Option Content → (blocks header before now : ℕ) → List Fact → Type 0

pub shows_lying : (Plain : Showing) (content mid : Option Content) (blocks size header before then now : ℕ) (facts : List Fact) → mid ≡ content → size ≡ blocks → before ≤ then → IsNotWhole content blocks header before then →
    Plain mid size header then now facts → ShowsAny Plain content blocks header before now facts
shows_lying Plain content mid blocks size header before then now facts same size_is le is shows =
    let one : Plain content size header then now facts = subst (λ (x : Option Content). Plain x size header then now facts) same shows in
    as_it_lies then le is (subst (λ (n : ℕ). Plain content n header then now facts) size_is one)

pub shows_whole : (Plain : Showing) (content then_held mid_held : Option Content) (blocks then_size mid_size header before then mid now : ℕ) (index : Index) (area facts : List Fact) →
    then_held ≡ content → mid_held ≡ then_held → then_size ≡ blocks → mid_size ≡ then_size → before ≤ then → then ≤ mid →
    IfSome content (λ held. IsIndexed blocks (as_it_reads held) header index) → AreAreaFacts then_held then mid index area →
    ShowsExpanded Plain mid_held mid_size header index area mid now facts → ShowsAny Plain content blocks header before now facts
shows_whole Plain content then_held mid_held blocks then_size mid_size header before then mid now index area facts same held_same size_is mid_is le more indexed lies shows =
    let one : ShowsExpanded Plain content mid_size header index area mid now facts =
    subst (λ (x : Option Content). ShowsExpanded Plain x mid_size header index area mid now facts) (held_same ∙ same) shows in
    whole index area then mid le indexed (subst (λ (x : Option Content). AreAreaFacts x then mid index area) same lies) more
    (subst (λ (n : ℕ). ShowsExpanded Plain content n header index area mid now facts) (mid_is ∙ size_is) one)

-- what was opened is the index

pub index_at : (content mid : Option Content) (blocks size header : ℕ) (index : Index) → mid ≡ content → size ≡ blocks → IfSome content (λ held. IsIndexed blocks (as_it_reads held) header index) → HasIndex mid size header index
index_at content mid blocks size header index same size_is indexed =
    let found : HasIndex content blocks header index = for_some (λ held. IsIndexed blocks (as_it_reads held) header index) content indexed in
    subst (λ (x : Option Content). HasIndex x size header index) (sym same)
    (subst (λ (n : ℕ). HasIndex content n header index) (sym size_is) found)

-- what is shown over the disk that expands the image

pub shows_expanded : (Plain : Showing) (content c : Option Content) (blocks header n b f before now : ℕ) (index : Index) (area facts plain : List Fact) → c ≡ expanded header content → n ≡ blocks_for index.pages → b ≡ 0 → FailsWith content before now f →
    Plain c n 0 b f plain → facts ≡ flat_map (standing (header_facts blocks index.header) area) plain → ShowsExpanded Plain content blocks header index area before now facts
shows_expanded Plain content c blocks header n b f before now index area facts plain is size none fails shows says =
    let one : Plain (expanded header content) n 0 b f plain = subst (λ (x : Option Content). Plain x n 0 b f plain) is shows in
    let two : Plain (expanded header content) (blocks_for index.pages) 0 b f plain = subst (λ (m : ℕ). Plain (expanded header content) m 0 b f plain) size one in
    record {
      faults = f;
      fails = fails;
      plain = plain;
      shows = subst (λ (m : ℕ). Plain (expanded header content) (blocks_for index.pages) 0 m f plain) none two;
      says = says;
    }
