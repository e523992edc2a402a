-- The lines of the facts of a machine.
use Rattle.std.specs.Prelude.{ℕ, List, [], ◌∷◌, ◌++◌, codes, flat_map}
use Rattle.page_core.specs.declared.format.Format.{Format}
use Rattle.page_core.specs.declared.format.Format.TheVariants.{Plain, SkipZeros}
use Rattle.plain_machine.specs.Machine.{Hardware, Memory}
use Rattle.dump_tools.specs.Facts.{facts_of}
use Rattle.dump_tools.specs.declared.facts.fact.Fact.{Fact}
use Rattle.dump_tools.specs.declared.facts.fact.Fact.TheVariants as fact
use Rattle.byte_streams.specs.Texts.{name_text, numbers_text}

abbrev pub image_key : Format → List ℕ
image_key Plain = codes "image_plain"
image_key SkipZeros = codes "image_zeros"

abbrev pub needed_key : Format → List ℕ
needed_key Plain = codes "slots_needed_plain"
needed_key SkipZeros = codes "slots_needed_zeros"

-- a fact, without the end of its line
abbrev pub fact_text : Fact → List ℕ
fact_text (fact.Slots n) = numbers_text (codes "slots") (n ∷ [])
fact_text (fact.FrameTable p) = numbers_text (codes "frame_table") (p ∷ [])
fact_text (fact.SlotTable p) = numbers_text (codes "slot_table") (p ∷ [])
fact_text (fact.Zone start count) = numbers_text (codes "zone") (start ∷ count ∷ [])
fact_text (fact.Region start count flags) = numbers_text (codes "region") (start ∷ count ∷ flags ∷ [])
fact_text (fact.Extent start len block) = numbers_text (codes "extent") (start ∷ len ∷ block ∷ [])
fact_text (fact.Signature n) = numbers_text (codes "hw_sig") (n ∷ [])
fact_text (fact.VersionCode n) = numbers_text (codes "version_code") (n ∷ [])
fact_text (fact.Name key bytes) = name_text key bytes
fact_text (fact.SaveableFrames n) = numbers_text (codes "frames_saveable") (n ∷ [])
fact_text (fact.FreeFrames n) = numbers_text (codes "frames_free") (n ∷ [])
fact_text (fact.NeededFrames n) = numbers_text (codes "frames_needed") (n ∷ [])
fact_text (fact.OwnedFrames task n) = numbers_text (codes "frames_owned") (task ∷ n ∷ [])
fact_text (fact.FreeSlots n) = numbers_text (codes "slots_free") (n ∷ [])
fact_text (fact.BadSlots n) = numbers_text (codes "slots_bad") (n ∷ [])
fact_text (fact.OwnedSlots task n) = numbers_text (codes "slots_owned") (task ∷ n ∷ [])
fact_text (fact.Image format n d pages) = numbers_text (image_key format) (n ∷ d ∷ pages ∷ [])
fact_text (fact.NeededSlots format n) = numbers_text (needed_key format) (n ∷ [])

abbrev pub line_text : Fact → List ℕ
line_text f = fact_text f ++ codes "\n"

-- all facts of a machine and its memory, one per line
unfoldable pub facts_text : Hardware → Memory → List ℕ
facts_text h m = flat_map line_text (facts_of h m)
