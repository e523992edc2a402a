-- The facts of a machine and its memory, in the order in which they are shown.
use Rattle.std.specs.Prelude.{ℕ, ◌+◌, ◌==◌, List, [], ◌∷◌, ◌++◌, length, map, flat_map, if◌then◌else◌, slice_index_or}
use Rattle.std.specs.List.{range_with_len}
use Rattle.page_core.specs.declared.format.Format.{Format}
use Rattle.page_core.specs.declared.format.Format.TheVariants.{Plain, SkipZeros}
use Rattle.definitions.specs.NumberPages.{meta_of}
use Rattle.definitions.specs.declared.info.Ident.{Ident}
use Rattle.plain_machine.specs.Image.{Image, image_of_memory, n_of, d_of, pages_of}
use Rattle.plain_machine.specs.Machine.{Hardware, Memory, bad_slot, saveable, unused, unused_slots}
use Rattle.plain_machine.specs.Step.{no_slots}
use Rattle.dump_tools.specs.Counts.{frames_of, slots_of}
use Rattle.dump_tools.specs.declared.facts.counting.Kind.TheVariants.{OwnedBy}
use Rattle.dump_tools.specs.declared.facts.fact.Fact.{Fact}
use Rattle.dump_tools.specs.declared.facts.fact.Fact.TheVariants as fact
use Rattle.byte_streams.specs.declared.facts.name.Name.{Name}
use Rattle.byte_streams.specs.declared.facts.name.Name.TheVariants as name
use Rattle.definitions.specs.declared.counts.TheConstants.{SPARE_FRAMES, SPARE_SLOTS}

abbrev pub zone_fact : ℕ × ℕ → Fact
zone_fact zone = fact.Zone zone.0 zone.1

abbrev pub region_fact : ℕ × ℕ × ℕ → Fact
region_fact r = fact.Region r.0 r.1 r.2

abbrev pub extent_fact : ℕ × ℕ × ℕ → Fact
extent_fact e = fact.Extent e.0 e.1 e.2

-- slots, tables, zones, regions and extents
abbrev pub layout_facts : Hardware → List Fact
layout_facts h =
    (fact.Slots h.slots ∷ fact.FrameTable h.frame_table ∷ fact.SlotTable h.slot_table ∷ [])
    ++ map zone_fact h.zones ++ map region_fact h.regions ++ map extent_fact h.extents

-- the identity that images are tied to
abbrev pub name_fact : Ident → ℕ → Name → Fact
name_fact ident j key = fact.Name key (slice_index_or ident.names j [])

abbrev pub identity_facts : Hardware → List Fact
identity_facts h =
    fact.Signature h.hw_sig ∷ fact.VersionCode h.ident.version_code
    ∷ name_fact h.ident 0 name.Sysname ∷ name_fact h.ident 1 name.Nodename ∷ name_fact h.ident 2 name.Release
    ∷ name_fact h.ident 3 name.Version ∷ name_fact h.ident 4 name.Machine ∷ name_fact h.ident 5 name.Domainname ∷ []

-- a fact about a number, unless the number is 0
abbrev pub if_some : ℕ → Fact → List Fact
if_some n f = if n == 0 then [] else f ∷ []

abbrev pub owned_by : (ℕ → ℕ → Fact) → (ℕ → ℕ) → List ℕ → List Fact
owned_by says count tasks = flat_map (λ t. if_some (count t) (says t (count t))) tasks

-- the tasks that there may be
unfoldable pub tasks : List ℕ
tasks = range_with_len 1 64

abbrev pub owned_frames : Hardware → Memory → List Fact
owned_frames h m = owned_by fact.OwnedFrames (λ t. length (frames_of h m (OwnedBy t))) tasks

abbrev pub owned_slots : Hardware → Memory → List Fact
owned_slots h m = owned_by fact.OwnedSlots (λ t. length (slots_of h m t)) tasks

-- Page frames: how many are saveable or free, how many must be free for a hibernation (enough_free_mem), and those of
-- the tasks.
abbrev pub frame_facts : Hardware → Memory → List Fact
frame_facts h m =
    (fact.SaveableFrames (length (saveable h m)) ∷ fact.FreeFrames (length (unused h m))
    ∷ fact.NeededFrames (length (saveable h m) + SPARE_FRAMES) ∷ [])
    ++ owned_frames h m

-- slots: how many are free or bad, and those of the tasks
abbrev pub slot_facts : Hardware → Memory → List Fact
slot_facts h m =
    (fact.FreeSlots (length (unused_slots h m)) ∷ fact.BadSlots (length (slots_of h m bad_slot)) ∷ [])
    ++ owned_slots h m

-- What an image of n page frames takes, d of which have data: the pages of its stream, and how many slots must be free
-- for a hibernation (enough_swap).
abbrev pub image_facts : Format → ℕ → ℕ → List Fact
image_facts f n d = fact.Image f n d (d + meta_of n + 1) ∷ fact.NeededSlots f (d + meta_of n + 1 + SPARE_SLOTS) ∷ []

-- the image of a memory
abbrev pub facts_of_image : Format → Image → List Fact
facts_of_image f i = fact.Image f (n_of i) (d_of i) (pages_of i) ∷ fact.NeededSlots f (pages_of i + SPARE_SLOTS) ∷ []

unfoldable pub images_facts : Hardware → Memory → List Fact
images_facts h m =
    facts_of_image Plain (image_of_memory h m no_slots Plain)
    ++ facts_of_image SkipZeros (image_of_memory h m no_slots SkipZeros)

-- all facts
unfoldable pub facts_of : Hardware → Memory → List Fact
facts_of h m = layout_facts h ++ identity_facts h ++ frame_facts h m ++ slot_facts h m ++ images_facts h m
