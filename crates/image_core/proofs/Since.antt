-- What holds over a disk that reads as before.
use Rattle.std.proofs.Common.{◌≡◌, ℕ, ◌≤◌, ◌<◌, List, [], ◌∷◌, ◌++◌, length, Option, Some, None, IfSome, inl, inr, refl, sym, ap, subst, ◌∙◌, arith}
use Rattle.definitions.specs.Disk.{Content, HasRisen, as_it_reads}
use Rattle.image_check.specs.Info.{counts_in}
use Rattle.image_check.specs.Told.{Told}
use Rattle.image_pages.specs.Chain.{IsChainPage, chain_page}
use Rattle.image_pages.specs.Stands.{Stands}
use Rattle.image_pages.specs.declared.pages.Pages.{Pages}
use Rattle.image_pages.proofs.Earlier.{refused_earlier}
use Rattle.image_pages.proofs.Reading.{page_of_first, read_given}
use Rattle.image_pages.proofs.Starting.{bad_earlier}
use Rattle.image_pages.specs.Opens.{IsBad}
use Rattle.image_core.specs.Cores.{IsStopped}
use Rattle.image_core.specs.declared.stop.Stop.{Stop}
use Rattle.image_core.specs.declared.stop.Stop.TheVariants.{NoImage, Refused, TooMany, Changed, Sink, Memory}

-- a fact on the content of a disk and on how many blocks it has
pub over : (P : Option Content → ℕ → Type 0) (c d : Option Content) (m n : ℕ) → c ≡ d → m ≡ n → P c m → P d n
over P c d m n e f h = subst (λ (x : Option Content). P x n) e (subst (P c) f h)

pub risen_earlier : (before then now : ℕ) → before ≤ then → HasRisen then now → HasRisen before now
risen_earlier before then now le (inl lt) = inl (omega arith)
risen_earlier before then now le (inr last) = inr last

bad_since : (content : Option Content) (blocks header before then now : ℕ) (told end : Told) → before ≤ then → IsBad content blocks header then now told end → IsBad content blocks header before now told end
bad_since content blocks header before then now told end le (inl bad) = inl (bad_earlier content blocks header before then now told end le bad)
bad_since content blocks header before then now told end le (inr (given, refused)) =
    inr (given, refused_earlier content blocks header before then now told end given le refused)

stopped_earlier : (content : Option Content) (blocks header before then now : ℕ) (told end : Told) (first last : ℕ) (s : Stop) → before ≤ then → IsStopped content blocks header then now told end first last s → IsStopped content blocks header before now told end first last s
stopped_earlier content blocks header before then now told end first last NoImage le h = h
stopped_earlier content blocks header before then now told end first last Refused le h = bad_since content blocks header before then now told end le h
stopped_earlier content blocks header before then now told end first last TooMany le h = h
stopped_earlier content blocks header before then now told end first last Changed le h = h
stopped_earlier content blocks header before then now told end first last Sink le h = h
stopped_earlier content blocks header before then now told end first last Memory le h = h

-- a stop after other calls of the disk, at which nothing was told
pub stopped_since : (c d : Option Content) (m n header before then now : ℕ) (told old end : Told) (first last : ℕ) (s : Stop) → c ≡ d → m ≡ n → old ≡ told → before ≤ then → IsStopped c m header then now old end first last s → IsStopped d n header before now told end first last s
stopped_since c d m n header before then now told old end first last s e f t le h =
    stopped_earlier d n header before then now told end first last s le
    (subst (λ (x : Told). IsStopped d n header then now x end first last s) t (over (λ (x : Option Content) (k : ℕ). IsStopped x k header then now old end first last s) c d m n e f h))

-- the first page that was read is the info page of the chain
pub info_in_chain : (content : Option Content) (blocks header : ℕ) (p : Pages) (info : List ℕ) (rest : List (List ℕ)) → Stands content blocks header p (info ∷ rest) → IsChainPage content header 0 info
info_in_chain None blocks header p info rest s = tt
info_in_chain (Some held) blocks header p info rest s =
    page_of_first held header (info ∷ rest) 0 (read_given (Some held) blocks header p (info ∷ rest) s).first (omega arith)

-- a stop after other calls of the sink
pub sink_earlier : (content : Option Content) (blocks header before now : ℕ) (told end : Told) (first mid last : ℕ) (s : Stop) → first ≤ mid → IsStopped content blocks header before now told end mid last s → IsStopped content blocks header before now told end first last s
sink_earlier content blocks header before now told end first mid last NoImage le h = h
sink_earlier content blocks header before now told end first mid last Refused le h = h
sink_earlier content blocks header before now told end first mid last TooMany le h = h
sink_earlier content blocks header before now told end first mid last Changed le h = h
sink_earlier content blocks header before now told end first mid last Sink le h = (risen_earlier first mid last le h.0, h.1)
sink_earlier content blocks header before now told end first mid last Memory le h = h

no_faults : HasRisen 0 0 → ⊥
no_faults (inl lt) = omega arith
no_faults (inr last) = omega arith

-- a stop before the sink was called
pub stopped_without : (content : Option Content) (blocks header before now : ℕ) (told end : Told) (first last : ℕ) (s : Stop) → IsStopped content blocks header before now told end 0 0 s → IsStopped content blocks header before now told end first last s
stopped_without content blocks header before now told end first last NoImage h = h
stopped_without content blocks header before now told end first last Refused h = h
stopped_without content blocks header before now told end first last TooMany h = h
stopped_without content blocks header before now told end first last Changed h = h
stopped_without content blocks header before now told end first last Sink h = absurd (no_faults h.0)
stopped_without content blocks header before now told end first last Memory h = h
