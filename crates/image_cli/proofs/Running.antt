-- From what a command does with the plain image to what it does with one that may be compressed.
use Rattle.std.proofs.Common.{◌≡◌, ℕ, ◌≤◌, false, Bool, List, [], Option, IfSome, sym, ap, ap₂, subst, ◌∙◌, inl, inr, arith}
use Rattle.definitions.specs.Disk.{Content, as_it_reads}
use Rattle.definitions.specs.Streams.{TakesAll}
use Rattle.command_kit.specs.Told.{RunResult, memory_told}
use Rattle.command_kit.specs.Told.{IsTold}
use Rattle.command_kit.specs.View.{SinkView}
use Rattle.command_kit.specs.declared.status.Status.{Status}
use Rattle.image_check.specs.Told.{Told, Tells}
use Rattle.image_check.specs.declared.finding.Finding.{Finding}
use Rattle.image_cli.specs.Checks.{Checks, found_told}
use Rattle.image_cli.specs.Printed.{IsSoFar}
use Rattle.image_cli.proofs.Summing.{later, told_after}
use Rattle.byte_streams.proofs.Taken.{TakesAll-none}
use Rattle.expanded_disk.specs.Index.{IsIndexed}
use Rattle.expanded_disk.specs.Opens.{IsPlain, IsWrong, OpensUnits}
use Rattle.expanded_disk.specs.declared.units.index.Index.{Index}
use Rattle.expanded_disk.specs.declared.units.reading.Opened.{Opened}
use Rattle.expanded_disk.specs.declared.units.reading.Opened.TheVariants as opened
use Rattle.expanded_disk.specs.Keeps.{FailsWith, HasIndex}
use Rattle.expanded_disk.specs.Laid.{blocks_for, expanded}
use Rattle.expanded_disk.proofs.Loads.{for_some}
use Rattle.image_cli.specs.Runs.{RunsAny, RunsExpanded, plain, unpacked, ran, lacks}
use Rattle.image_cli.specs.Runs as ways
use Rattle.image_cli.specs.ExpandedStreams.{NotesMemory, Writes}

abbrev pub Command : Type 1
Command = Option Content → (blocks header before now : ℕ) → Type 0

-- what is done over one view is done over another
abbrev pub Alike : Command → Command → Type 0
Alike Mid Runs = (c : Option Content) (n h b f : ℕ) → Mid c n h b f → Runs c n h b f

-- the plain image

pub over_expanded : (Runs : Command) (Lacks : Type 0) (content c : Option Content) (header n b f before now : ℕ) (index : Index) → c ≡ expanded header content → n ≡ blocks_for index.pages → b ≡ 0 →
    FailsWith content before now f → Runs c n 0 b f → RunsExpanded Runs Lacks content header index before now
over_expanded Runs Lacks content c header n b f before now index is size none fails runs =
    let one : Runs (expanded header content) n 0 b f = subst (λ (x : Option Content). Runs x n 0 b f) is runs in
    let two : Runs (expanded header content) (blocks_for index.pages) 0 b f = subst (λ (m : ℕ). Runs (expanded header content) m 0 b f) size one in
    ran f fails (subst (λ (m : ℕ). Runs (expanded header content) (blocks_for index.pages) 0 m f) none two)

-- an image that isn't compressed

pub plainly : (Mid Runs : Command) (Refuses : List Finding → Type 0) (Lacks : Type 0) (content mid : Option Content) (blocks size header before then now : ℕ) → mid ≡ content → size ≡ blocks → before ≤ then → Alike Mid Runs →
    IsPlain content blocks header → Mid mid size header then now → RunsAny Runs Refuses Lacks content blocks header before now
plainly Mid Runs Refuses Lacks content mid blocks size header before then now same size_is le alike is runs =
    let one : Mid content size header then now = subst (λ (x : Option Content). Mid x size header then now) same runs in
    plain then le is (alike content blocks header then now (subst (λ (m : ℕ). Mid content m header then now) size_is one))

-- an image that is compressed

fails_later : (content : Option Content) (before then now faults : ℕ) → before ≤ then → FailsWith content then now faults → FailsWith content before now faults
fails_later content before then now faults le fails some tells = later before then now le (fails some tells)

pub unpacks : (Mid Runs : Command) (Refuses : List Finding → Type 0) (Lacked Lacks : Type 0) (content mid : Option Content) (blocks header before then now : ℕ) (index : Index) → mid ≡ content → before ≤ then → Alike Mid Runs → (Lacked → Lacks) →
    IfSome content (λ held. IsIndexed blocks (as_it_reads held) header index) → RunsExpanded Mid Lacked mid header index then now → RunsAny Runs Refuses Lacks content blocks header before now
unpacks Mid Runs Refuses Lacked Lacks content mid blocks header before then now index same le alike lack indexed (ran faults fails runs) =
    unpacked index faults indexed
    (fails_later content before then now faults le (subst (λ (x : Option Content). FailsWith x then now faults) same fails))
    (alike (expanded header content) (blocks_for index.pages) 0 0 faults
    (subst (λ (x : Option Content). Mid (expanded header x) (blocks_for index.pages) 0 0 faults) same runs))
unpacks Mid Runs Refuses Lacked Lacks content mid blocks header before then now index same le alike lack indexed (lacks untold) = ways.no_memory (lack untold)

-- what was found is the index

pub index_at : (content mid : Option Content) (blocks size header : ℕ) (index : Index) → mid ≡ content → size ≡ blocks → IfSome content (λ held. IsIndexed blocks (as_it_reads held) header index) → HasIndex mid size header index
index_at content mid blocks size header index same size_is indexed =
    let found : HasIndex content blocks header index = for_some (λ held. IsIndexed blocks (as_it_reads held) header index) content indexed in
    subst (λ (x : Option Content). HasIndex x size header index) (sym same)
    (subst (λ (n : ℕ). HasIndex content n header index) (sym size_is) found)

-- a sink from which nothing was taken in between

pub told_since : (told : RunResult) (status : Status) (old mid new note note' : SinkView) → mid.taken ≡ old.taken → mid.faults ≡ old.faults → IsTold told status mid new note note' → IsTold told status old new note note'
told_since told status old mid new note note' taken faults h =
    told_after [] told status old mid new note note' (subst (λ (x : Option (List ℕ)). TakesAll [] old.taken x) (sym taken) (TakesAll-none old.taken)) (omega (arith, faults)) h

pub checks_since : (status : Status) (old mid new note note' : SinkView) → mid.taken ≡ old.taken → mid.faults ≡ old.faults →
    Alike (λ c n h b f. Checks c n h b f status mid new note note') (λ c n h b f. Checks c n h b f status old new note note')
checks_since status old mid new note note' taken faults c n h b f (inl memory) = inl (told_since memory_told status old mid new note note' taken faults memory)
checks_since status old mid new note note' taken faults c n h b f (inr (found, (finds, told))) =
    inr (found, (finds, told_since (found_told found) status old mid new note note' taken faults told))

pub does_since : (Does : Writes) (told then : Told) (status : Status) (out out' note' : SinkView) → then ≡ told →
    Alike (λ c n h b f. Does c n h b f then status out out' note') (λ c n h b f. Does c n h b f told status out out' note')
does_since Does told then status out out' note' same c n h b f runs = subst (λ (t : Told). Does c n h b f t status out out' note') same runs

pub memory_since : (told then : Told) (status : Status) (out out' note' : SinkView) → then ≡ told → NotesMemory then status out out' note' → NotesMemory told status out out' note'
memory_since told then status out out' note' same notes = subst (λ (t : Told). NotesMemory t status out out' note') same notes

pub same_faults : (told then : Told) → then ≡ told → told.faults ≤ then.faults
same_faults told then same = omega (arith, ap (λ (t : Told). t.faults) same)

-- what was opened

pub opened_plain : (content : Option Content) (blocks header before now : ℕ) (old new : Told) (o : Opened) → o ≡ opened.Plain → OpensUnits content blocks header before now old new o → (new ≡ old) × IsPlain content blocks header
opened_plain content blocks header before now old new o is says = subst (OpensUnits content blocks header before now old new) is says

pub opened_refused : (content : Option Content) (blocks header before now : ℕ) (old new : Told) (o : Opened) → o ≡ opened.Refused → OpensUnits content blocks header before now old new o → (found : List Finding) × (Tells found old new × IsWrong content blocks header before now found)
opened_refused content blocks header before now old new o is says = subst (OpensUnits content blocks header before now old new) is says

pub opened_whole : (content : Option Content) (blocks header before now : ℕ) (old new : Told) (o : Opened) (index : Index) → o ≡ opened.Whole index → OpensUnits content blocks header before now old new o →
    (new ≡ old) × IfSome content (λ held. IsIndexed blocks (as_it_reads held) header index)
opened_whole content blocks header before now old new o index is says = subst (OpensUnits content blocks header before now old new) is says

-- a printer that had been told of nothing
pub so_far : (found : List Finding) (start : SinkView) (old new : Told) → old.text ≡ start.taken → old.faults ≡ start.faults → old.count ≡ 0 → old.failed ≡ false → Tells found old new → IsSoFar found start new
so_far found start old new text faults count failed h =
    let same : old ≡ record { text = start.taken; count = 0; failed = false; faults = start.faults } =
    ap₂ (λ (t : Option (List ℕ)) (f : ℕ). record { text = t; count = old.count; failed = old.failed; faults = f }) text faults
    ∙ ap₂ (λ (n : ℕ) (b : Bool). record { text = start.taken; count = n; failed = b; faults = start.faults }) count failed in
    subst (λ (t : Told). Tells found t new) same h
