-- The block that a step reads, and what the step returns.
use Rattle.std.proofs.Common.{◌≡◌, ◌≢◌, ℕ, ◌<◌, ◌+◌, List, Option, Some, None, Result, Ok, Err, IfSome, OnOk, Bool, true, false, inl, inr, sym, ap, ◌∙◌, subst, arith}
use Rattle.definitions.specs.Disk as disk
use Rattle.plain_machine.specs.Machine.{Hardware, block_of_slot}
use Rattle.plain_machine.specs.Chain.{blocks_of, header_of}
use Rattle.definitions.specs.SwapHeader.{last_page_of}
use Rattle.plain_machine.specs.Trace.{place, place_count}
use Rattle.plain_machine.specs.declared.event.IdentCheck.{IdentCheck}
use Rattle.std.proofs.lemmas.Bool.{cases_lt, both_ways}
use Rattle.std.specs.Result.{is_err}
use Rattle.image_read.specs.Reading.{Reading, IsReady, IsShort, HasReadAll, places_left}
use Rattle.image_read.specs.Stream.{HasReadPlaces, place_block, pages_read, known_pages}
use Rattle.image_read.specs.Answers.{Reads, Gives, Answers, GoesOn}
use Rattle.image_read.specs.declared.reader.ReadStep.TheVariants.{More, Page}
use Rattle.image_read.proofs.Blocks.{block_sound}

same_block : (h : Hardware) (v : disk.DiskImage) (content : Option disk.Content) (b : ℕ) (into : List ℕ) → Reads h v content → b < blocks_of v → (b ≢ block_of_slot h 0) → IfSome content (λ held. into ≡ disk.block (disk.as_it_reads held) b) → into ≡ disk.block v b
same_block h v None b into reads below apart read = absurd reads
same_block h v (Some held) b into reads below apart read = read ∙ reads b below apart

pub read_as : (h : Hardware) (v : disk.DiskImage) (check : IdentCheck) (r : Reading) (t : ℕ) (origs zeros : List ℕ) (content : Option disk.Content) (into : List ℕ) → HasReadPlaces h v check r t origs zeros → IsReady r origs zeros → r.steps < place_count r.pages → Reads h v content → IfSome content (λ held. into ≡ disk.block (disk.as_it_reads held) r.block) → into ≡ disk.block v (place_block h v (place t))
read_as h v check r t origs zeros content into reading ready more reads read =
    let steps_is = reading.steps in
    let pages_is = ap place_count reading.pages in
    let lt : t < place_count (known_pages h v (pages_read t)) = omega arith in
    let blocks_is = reading.area.same_blocks in
    let below = ready.block in
    let sound = block_sound h.extents (blocks_of v) (last_page_of (header_of h v)) r.block (reading.apart lt) in
    same_block h v content r.block into reads (omega arith) sound.apart read ∙ ap (disk.block v) (reading.block lt)

-- by what was taken
pub answers_page : (h : Hardware) (v : disk.DiskImage) (check : IdentCheck) (t pfn : ℕ) (old new : Reading) (origs zeros page : List ℕ) → page ≡ disk.block v (place_block h v (place t)) → Gives h v check t (Ok (Some pfn)) new origs zeros → Answers h v check t (Page pfn) old new origs zeros page
answers_page h v check t pfn old new origs zeros page page_is gives = (gives.0, gives.1, sym gives.2, page_is)

pub answers_more : (h : Hardware) (v : disk.DiskImage) (check : IdentCheck) (t k : ℕ) (old new : Reading) (origs zeros page : List ℕ) → k ≡ new.steps → Gives h v check t (Ok None) new origs zeros → Answers h v check t (More k) old new origs zeros page
answers_more h v check t k old new origs zeros page k_is gives = (gives.0, gives.1, sym gives.2, k_is ∙ gives.1.steps)

-- a block that was read

pub on_ok : {A E : Type 0} (r : Result A E) (P : Type 0) → is_err r ≡ false → OnOk r P → P
on_ok (Ok x) P h p = p
on_ok (Err e) P h p = cc

pub not_over : (r : Reading) (origs zeros : List ℕ) (over : Bool) → IsReady r origs zeros → over ≡ false → (HasReadAll r → over ≡ true) → r.steps < place_count r.pages
not_over r origs zeros over ready is told =
    let within = ready.within in
    elim (cases_lt r.steps (place_count r.pages)) [
      | inl lt ↦ lt
      | inr ge ↦ absurd (both_ways over is (told (omega arith)))
    ]

-- the reader's own block
pub at_block : (content : Option disk.Content) (into : List ℕ) (b c : ℕ) → b ≡ c → IfSome content (λ held. into ≡ disk.block (disk.as_it_reads held) b) → IfSome content (λ held. into ≡ disk.block (disk.as_it_reads held) c)
at_block content into b c same read = subst (λ (x : ℕ). IfSome content (λ held. into ≡ disk.block (disk.as_it_reads held) x)) same read

-- The reader goes on, with a place less to read.
place_less : (old new : Reading) → old.steps < place_count old.pages → IsShort old.pages → new.steps ≡ old.steps + 1 → places_left new + 1 ≡ places_left old
place_less old new more short counted = let few = short.few in omega arith

pub goes_on_page : (pfn : ℕ) (old new : Reading) (origs zeros : List ℕ) → old.steps < place_count old.pages → IsShort old.pages → IsReady new origs zeros → new.steps ≡ old.steps + 1 → GoesOn (Page pfn) old new origs zeros
goes_on_page pfn old new origs zeros more short ready counted = (ready, place_less old new more short counted)

pub goes_on_more : (k : ℕ) (old new : Reading) (origs zeros : List ℕ) → old.steps < place_count old.pages → IsShort old.pages → IsReady new origs zeros → new.steps ≡ old.steps + 1 → GoesOn (More k) old new origs zeros
goes_on_more k old new origs zeros more short ready counted = (ready, place_less old new more short counted)
