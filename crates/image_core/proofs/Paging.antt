-- Page frames that are given one after another, whose pages are written.
use Rattle.std.proofs.Common.{◌≡◌, ℕ, ◌+◌, ◌≤◌, ◌<◌, List, [], ◌∷◌, ◌++◌, length, map, take, drop, Option, Some, None, IfSome, refl, sym, ap, subst, ◌∙◌, arith, length-append, append-nil}
use Rattle.std.specs.List.{concat, range_with_len}
use Rattle.std.proofs.lemmas.List.{length-map, map-append, take-append-drop}
use Rattle.std.proofs.lemmas.List.Folds.{concat-append}
use Rattle.std.proofs.lemmas.List.FromFn.{length-map-range_with_len, take-map-range_with_len}
use Rattle.definitions.specs.Disk.{Content, as_it_reads}
use Rattle.definitions.specs.Streams.{TakesAll, TakesFront}
use Rattle.byte_streams.proofs.Taken.{TakesAll-both, TakesAll-none, TakesFront-all, TakesFront-first, TakesFront-second}
use Rattle.image_check.specs.Info.{counts_in}
use Rattle.image_pages.specs.Chain.{chain_page}
use Rattle.image_pages.specs.Formats.{chain_format}
use Rattle.image_pages.specs.Ends.{IsEnded}
use Rattle.image_pages.proofs.Earlier.{ended_earlier}
use Rattle.image_pages.specs.Saved.{count_in}
use Rattle.image_pages.specs.Given.{HasGiven, frame_of}
use Rattle.image_pages.specs.SavedFrames.{AreAllSaved, AreFirstSaved, SavedFrame, first_saved, saved_at, saved_frames}
use Rattle.image_pages.specs.Says.{AreAllGiven, IsNextFrame}
use Rattle.image_pages.specs.declared.frames.frames.Frames.{Frames}
use Rattle.image_core.specs.Cores.{pages_of}
use Rattle.image_core.specs.Counted.{HasTallied}
use Rattle.image_core.specs.Parts.{HasPages}
use Rattle.image_core.specs.declared.counting.Tally.{Tally}
use Rattle.image_core.proofs.Since.{info_in_chain, over}
use Rattle.image_core.proofs.Tallied.{count_by_tally}

first_frames_none : (content : Option Content) (header : ℕ) → AreFirstSaved content header []
first_frames_none None header = tt
first_frames_none (Some held) header = refl

-- there are no more page frames than the info page counts
few_frames : (held : Content) (blocks header : ℕ) (f : Frames) (given : List SavedFrame) → HasGiven (Some held) blocks header f given → length given ≤ count_in (chain_page (as_it_reads held) header)
few_frames held blocks header f given h =
    let n = h.numbered in
    let count : count_in (chain_page (as_it_reads held) header) ≡ (counts_in f.numbers.info).image_pages =
    ap (λ (page : List ℕ). (counts_in page).image_pages) (sym (info_in_chain (Some held) blocks header f.numbers.pages f.numbers.info n.listed n.stands)) in
    omega (arith, n.size, n.few, n.count, count, length-map given (λ (g : SavedFrame). g.number))

frames_of_chain : (held : Content) (blocks header : ℕ) (f : Frames) (given : List SavedFrame) → HasGiven (Some held) blocks header f given → AreFirstSaved (Some held) header given → (more : List SavedFrame) × (saved_frames (chain_format (as_it_reads held) header) (chain_page (as_it_reads held) header) ≡ given ++ more)
frames_of_chain held blocks header f given h first =
    let at = chain_page (as_it_reads held) header in
    let format = chain_format (as_it_reads held) header in
    let front : take (length given) (saved_frames format at) ≡ given =
    take-map-range_with_len (saved_at format at) 0 (count_in at) (length given) (few_frames held blocks header f given h) ∙ sym first in
    (drop (length given) (saved_frames format at), sym (take-append-drop (length given) (saved_frames format at)) ∙ ap (λ (xs : List SavedFrame). xs ++ drop (length given) (saved_frames format at)) front)

pages_both : (xs ys : List SavedFrame) → concat (pages_of (xs ++ ys)) ≡ concat (pages_of xs) ++ concat (pages_of ys)
pages_both xs ys = ap concat (map-append (λ (f : SavedFrame). f.page) xs ys) ∙ concat-append (pages_of xs) (pages_of ys)

pages_one : (xs : List SavedFrame) (number : ℕ) (page : List ℕ) → concat (pages_of (xs ++ frame_of number page ∷ [])) ≡ concat (pages_of xs) ++ page
pages_one xs number page = pages_both xs (frame_of number page ∷ []) ∙ ap (λ (bytes : List ℕ). concat (pages_of xs) ++ bytes) (append-nil page)

pub record Writes (content : Option Content) (blocks header : ℕ) (f : Frames) (i : ℕ) (old new : Option (List ℕ)) : Type 0 where
  pub given : List SavedFrame
  pub stands : HasGiven content blocks header f given
  pub first : AreFirstSaved content header given
  pub size : length given ≡ i
  pub taken : TakesAll (concat (pages_of given)) old new

pub writes_none : (content : Option Content) (blocks header : ℕ) (f : Frames) (old : Option (List ℕ)) → HasGiven content blocks header f [] → Writes content blocks header f 0 old old
writes_none content blocks header f old h = record { given = []; stands = h; first = first_frames_none content header; size = refl; taken = TakesAll-none old }

pub writes_more : (c d : Option Content) (m k header : ℕ) (p q : Frames) (i number : ℕ) (page : List ℕ) (old mid new : Option (List ℕ)) → c ≡ d → m ≡ k → (s : Writes c m header p i old mid) → IsNextFrame c m header s.given q (frame_of number page) → TakesAll page mid new → Writes d k header q (i + 1) old new
writes_more c d m k header p q i number page old mid new e f s next taken =
    let size = s.size in
    record {
      given = s.given ++ frame_of number page ∷ [];
      stands = over (λ (x : Option Content) (j : ℕ). HasGiven x j header q (s.given ++ frame_of number page ∷ [])) c d m k e f next.stands;
      first = subst (λ (x : Option Content). AreFirstSaved x header (s.given ++ frame_of number page ∷ [])) e next.first;
      size = omega (arith, length-append s.given (frame_of number page ∷ []), size);
      taken = subst (λ (x : List ℕ). TakesAll x old new) (sym (pages_one s.given number page)) (TakesAll-both (concat (pages_of s.given)) page old mid new s.taken taken);
    }

-- a front of the pages of the image
abbrev pub IsPageFront : Option Content → ℕ → (old new : Option (List ℕ)) → Type 0
IsPageFront content header old new =
    IfSome content (λ held. TakesFront (concat (pages_of (saved_frames (chain_format (as_it_reads held) header) (chain_page (as_it_reads held) header)))) old new)

given_front : (content : Option Content) (blocks header : ℕ) (f : Frames) (given : List SavedFrame) (old new : Option (List ℕ)) → HasGiven content blocks header f given → AreFirstSaved content header given → TakesFront (concat (pages_of given)) old new → IsPageFront content header old new
given_front None blocks header f given old new h first front = tt
given_front (Some held) blocks header f given old new h first front =
    let (more, e) = frames_of_chain held blocks header f given h first in
    subst (λ (x : List ℕ). TakesFront x old new) (sym (ap (λ (xs : List SavedFrame). concat (pages_of xs)) e ∙ pages_both given more))
    (TakesFront-first (concat (pages_of given)) (concat (pages_of more)) old new front)

pub writes_front : (content : Option Content) (blocks header : ℕ) (f : Frames) (i : ℕ) (old new : Option (List ℕ)) → Writes content blocks header f i old new → IsPageFront content header old new
writes_front content blocks header f i old new s =
    given_front content blocks header f s.given old new s.stands s.first (TakesFront-all (concat (pages_of s.given)) old new s.taken)

-- the next page was taken in part
pub writes_cut : (content : Option Content) (blocks header : ℕ) (p q : Frames) (i number : ℕ) (page : List ℕ) (old mid new : Option (List ℕ)) → (s : Writes content blocks header p i old mid) → IsNextFrame content blocks header s.given q (frame_of number page) → TakesFront page mid new → IsPageFront content header old new
writes_cut content blocks header p q i number page old mid new s next front =
    given_front content blocks header q (s.given ++ frame_of number page ∷ []) old new next.stands next.first
    (subst (λ (x : List ℕ). TakesFront x old new) (sym (pages_one s.given number page)) (TakesFront-second (concat (pages_of s.given)) page old mid new s.taken front))

-- fewer page frames, or more, only on a disk that doesn't tell what it holds
pub fewer_frames : (content : Option Content) (header : ℕ) (tally : Tally) (given : List SavedFrame) → HasTallied content header tally → AreAllSaved content header given → length given < tally.frames → content ≡ None
fewer_frames None header tally given t all lt = refl
fewer_frames (Some held) header tally given t all lt =
    let at = chain_page (as_it_reads held) header in
    let format = chain_format (as_it_reads held) header in
    absurd (omega (arith, ap length all, length-map-range_with_len (saved_at format at) 0 (count_in at), count_by_tally held header tally t))

pub more_frames : (content : Option Content) (blocks header : ℕ) (tally : Tally) (f : Frames) (given : List SavedFrame) → HasTallied content header tally → HasGiven content blocks header f given → tally.frames < length given → content ≡ None
more_frames None blocks header tally f given t h lt = refl
more_frames (Some held) blocks header tally f given t h lt =
    absurd (omega (arith, few_frames held blocks header f given h, count_by_tally held header tally t))

pub has_pages : (c d : Option Content) (m k header before then now : ℕ) (tally : Tally) (f : Frames) (info : List ℕ) (old new : Option (List ℕ)) → c ≡ d → m ≡ k → before ≤ then → (s : Writes c m header f tally.frames old new) → AreAllGiven c m header then now info s.given → HasPages d k header before now tally old new
has_pages c d m k header before then now tally f info old new e g le s all =
    over (λ (x : Option Content) (j : ℕ). HasPages x j header before now tally old new) c d m k e g (record {
      frames = s.given;
      taken = s.taken;
      size = s.size;
      all = all.all;
      pages = all.pages;
      ended = ended_earlier c m header before then now all.pages le all.ended;
      whole = all.whole;
    })

-- pages that were written after other calls of the disk
pub pages_earlier : (c d : Option Content) (m k header before then now : ℕ) (tally : Tally) (old new : Option (List ℕ)) → c ≡ d → m ≡ k → before ≤ then → HasPages c m header then now tally old new → HasPages d k header before now tally old new
pages_earlier c d m k header before then now tally old new e g le p =
    over (λ (x : Option Content) (j : ℕ). HasPages x j header before now tally old new) c d m k e g (record {
      frames = p.frames;
      taken = p.taken;
      size = p.size;
      all = p.all;
      pages = p.pages;
      ended = ended_earlier c m header before then now p.pages le p.ended;
      whole = p.whole;
    })
