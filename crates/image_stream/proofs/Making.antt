-- The pages that are made of an image that skips pages of zeros are those of its stream in the plain format.
use Rattle.std.proofs.Common.{◌≡◌, ℕ, ◌+◌, ◌*◌, ◌-◌, ◌<◌, ◌≤◌, ◌⊎◌, zero, suc, List, [], ◌∷◌, ◌++◌, length, map, take, drop, Option, Some, None, IfSome, refl, sym, ap, subst, ◌∙◌, inl, inr, arith, append-nil, append_assoc, length-append}
use Rattle.std.specs.List.{range_with_len}
use Rattle.std.proofs.lemmas.List.{take-append-drop}
use Rattle.std.proofs.lemmas.List.FromFn.{length-map-range_with_len, map-range_with_len_more, take-map-range_with_len}
use Rattle.std.proofs.Math.ListN.{get_or-append}
use Rattle.std.proofs.Math.Seq.{get_or-append_seam}
use Rattle.page_core.specs.declared.format.Format.{Format}
use Rattle.page_core.specs.declared.format.Format.TheVariants.{Plain, SkipZeros}
use Rattle.definitions.specs.Disk.{Content, as_it_reads}
use Rattle.definitions.specs.NumberPages.{meta_of}
use Rattle.image_check.specs.Info.{counts_in}
use Rattle.image_pages.specs.Chain.{chain_page, AreFirst, IsWholeStream}
use Rattle.image_pages.specs.Stands.{Stands}
use Rattle.image_pages.specs.declared.pages.Pages.{Pages}
use Rattle.image_pages.proofs.Reading.{page_of_first, read_given}
use Rattle.image_pages.specs.Formats.{SavesThere, chain_format}
use Rattle.image_pages.specs.Found.{page_at}
use Rattle.image_pages.specs.Saved.{count_in, page_in}
use Rattle.image_pages.proofs.Data.{behind_info}
use Rattle.image_pages.proofs.Saving.{format_there, saves_of}
use Rattle.image_pages.specs.SavedFrames.{AreFirstSaved, SavedFrame, first_saved, saved_at}
use Rattle.image_pages.proofs.Ascending.{few_pages}
use Rattle.image_stream.specs.Converted.{AreAllPieces, ArePieces, pages_of, pieces_of}
use Rattle.image_stream.specs.Plain.{plain_info, plain_lists, plain_numbers, plain_stream}
use Rattle.image_stream.specs.Streamed.{IsBegun, IsStream, chain_stream}

-- lists over numbers
map_same : {X : Type 0} (f g : ℕ → X) (a n : ℕ) → ((j : ℕ) → a ≤ j → j < a + n → f j ≡ g j) → map f (range_with_len a n) ≡ map g (range_with_len a n)
map_same f g a zero same = refl
map_same f g a (suc n) same =
    ap (λ x. x ∷ map f (range_with_len (a + 1) n)) (same a (omega arith) (omega arith))
    ∙ ap (λ xs. g a ∷ xs) (map_same f g (a + 1) n (λ j le lt. same j (omega arith) (omega arith)))

map_front : {X : Type 0} (f : ℕ → X) (k n : ℕ) → k ≤ n → (rest : List X) × (map f (range_with_len 0 n) ≡ map f (range_with_len 0 k) ++ rest)
map_front f k n le =
    let all = map f (range_with_len 0 n) in
    (drop k all, sym (take-append-drop k all) ∙ ap (λ xs. xs ++ drop k all) (take-map-range_with_len f 0 n k le))

pages_saved : (format : Format) (at : ℕ → List ℕ) (places : List ℕ) → pages_of (map (saved_at format at) places) ≡ map (page_in format at) places
pages_saved format at [] = refl
pages_saved format at (i ∷ places) = ap (λ (xs : List (List ℕ)). page_in format at i ∷ xs) (pages_saved format at places)

-- number pages that are those of a stream
lists_same : (n k : ℕ) (at other : ℕ → List ℕ) → ((j : ℕ) → j < k → at (1 + j) ≡ other (1 + j)) → plain_lists n at k ≡ plain_lists n other k
lists_same n k at other same =
    map_same (λ j. plain_numbers (n - 512 * j) (at (1 + j))) (λ j. plain_numbers (n - 512 * j) (other (1 + j))) 0 k
    (λ j le lt. ap (plain_numbers (n - 512 * j)) (same j (omega arith)))

lists_of_chain : (held : Content) (header n : ℕ) (info : List ℕ) (listed : List (List ℕ)) → AreFirst (Some held) header (info ∷ listed) → plain_lists n (page_at (info ∷ listed)) (length listed) ≡ plain_lists n (chain_page (as_it_reads held) header) (length listed)
lists_of_chain held header n info listed first =
    lists_same n (length listed) (page_at (info ∷ listed)) (chain_page (as_it_reads held) header)
    (λ j lt. page_of_first held header (info ∷ listed) (1 + j) first (omega arith))

frames_of_chain : (held : Content) (header : ℕ) (frames : List SavedFrame) → chain_format (as_it_reads held) header ≡ SkipZeros → AreFirstSaved (Some held) header frames → pages_of frames ≡ map (page_in SkipZeros (chain_page (as_it_reads held) header)) (range_with_len 0 (length frames))
frames_of_chain held header frames is first =
    ap pages_of first
    ∙ pages_saved (chain_format (as_it_reads held) header) (chain_page (as_it_reads held) header) (range_with_len 0 (length frames))
    ∙ ap (λ (f : Format). map (page_in f (chain_page (as_it_reads held) header)) (range_with_len 0 (length frames))) is

-- all of a stream, or its front
all_made : (p : List ℕ) (l m : List (List ℕ)) (rest : List (List ℕ)) → p ∷ (l ++ (m ++ rest)) ≡ (p ∷ (l ++ m)) ++ rest
all_made p l m rest = ap (λ (xs : List (List ℕ)). p ∷ xs) (sym (append_assoc l m rest))

begun_lists : (p : List ℕ) (l more f : List (List ℕ)) → p ∷ ((l ++ more) ++ f) ≡ (p ∷ (l ++ [])) ++ (more ++ f)
begun_lists p l more f =
    ap (λ (xs : List (List ℕ)). p ∷ xs) (append_assoc l more f)
    ∙ ap (λ (xs : List (List ℕ)). p ∷ (xs ++ (more ++ f))) (sym (append-nil l))

pieces_begun : (held : Content) (header : ℕ) (info : List ℕ) (listed : List (List ℕ)) (frames : List SavedFrame) → chain_format (as_it_reads held) header ≡ SkipZeros → AreFirst (Some held) header (info ∷ listed) → length listed ≤ meta_of (counts_in info).image_pages → AreFirstSaved (Some held) header frames → length frames ≤ (counts_in info).image_pages → (frames ≡ []) ⊎ (length listed ≡ meta_of (counts_in info).image_pages) → (rest : List (List ℕ)) × (chain_stream (as_it_reads held) header ≡ pieces_of info listed frames ++ rest)
pieces_begun held header info listed frames is first few saved inside order =
    let v = as_it_reads held in
    let at = chain_page v header in
    let n = (counts_in info).image_pages in
    let start : info ≡ at 0 = page_of_first held header (info ∷ listed) 0 first (omega arith) in
    let count : n ≡ count_in at = ap (λ (p : List ℕ). (counts_in p).image_pages) start in
    let by_format : chain_stream v header ≡ plain_stream SkipZeros at = ap (λ (f : Format). plain_stream f at) is in
    let stream : chain_stream v header ≡ plain_info info ∷ (plain_lists n at (meta_of n) ++ map (page_in SkipZeros at) (range_with_len 0 n)) =
    by_format
    ∙ ap (λ (p : List ℕ). plain_info p ∷ (plain_lists (count_in at) at (meta_of (count_in at)) ++ map (page_in SkipZeros at) (range_with_len 0 (count_in at)))) (sym start)
    ∙ ap (λ (c : ℕ). plain_info info ∷ (plain_lists c at (meta_of c) ++ map (page_in SkipZeros at) (range_with_len 0 c))) (sym count) in
    let lists = lists_of_chain held header n info listed first in
    let pages = frames_of_chain held header frames is saved in
    elim order [
      | inl none ↦
          let (more, front) = map_front (λ j. plain_numbers (n - 512 * j) (at (1 + j))) (length listed) (meta_of n) few in
          let f = map (page_in SkipZeros at) (range_with_len 0 n) in (
            more ++ f,
            stream
                ∙ ap (λ (l : List (List ℕ)). plain_info info ∷ (l ++ f)) front
                ∙ begun_lists (plain_info info) (plain_lists n at (length listed)) more f
                ∙ ap (λ (l : List (List ℕ)). (plain_info info ∷ (l ++ [])) ++ (more ++ f)) (sym lists)
                ∙ ap (λ (g : List SavedFrame). (plain_info info ∷ (plain_lists n (page_at (info ∷ listed)) (length listed) ++ pages_of g)) ++ (more ++ f)) (sym none),
          )
      | inr full ↦
          let (more, front) = map_front (page_in SkipZeros at) (length frames) n inside in
          let l = plain_lists n at (meta_of n) in
          let here : l ≡ plain_lists n (page_at (info ∷ listed)) (length listed) = ap (plain_lists n at) (sym full) ∙ sym lists in (
            more,
            stream
                ∙ ap (λ (f : List (List ℕ)). plain_info info ∷ (l ++ f)) front
                ∙ all_made (plain_info info) l (map (page_in SkipZeros at) (range_with_len 0 (length frames))) more
                ∙ ap (λ (x : List (List ℕ)). (plain_info info ∷ (x ++ map (page_in SkipZeros at) (range_with_len 0 (length frames)))) ++ more) here
                ∙ ap (λ (x : List (List ℕ)). (plain_info info ∷ (plain_lists n (page_at (info ∷ listed)) (length listed) ++ x)) ++ more) (sym pages),
          )
    ]

pub begun_of : (content : Option Content) (blocks header : ℕ) (pieces : List (List ℕ)) → ArePieces content blocks header pieces → IsBegun content header pieces
begun_of None blocks header pieces p = tt
begun_of (Some held) blocks header pieces p =
    subst (λ (x : List (List ℕ)). (rest : List (List ℕ)) × (chain_stream (as_it_reads held) header ≡ x ++ rest)) (sym p.made)
    (pieces_begun held header p.info p.listed p.frames (sym (format_there held blocks header SkipZeros p.saves)) p.read.first p.few p.first p.inside
    (elim p.order [ inl none ↦ inl none | inr (full, given) ↦ inr full ]))

-- nothing is left after as many pages as there are
none_left : (xs rest : List (List ℕ)) → length (xs ++ rest) ≡ length xs → xs ++ rest ≡ xs
none_left xs [] e = append-nil xs
none_left xs (y ∷ ys) e = absurd (omega (arith, e, length-append xs (y ∷ ys)))

pub stream_of : (content : Option Content) (blocks header before now : ℕ) (pieces : List (List ℕ)) → AreAllPieces content blocks header before now pieces → IsStream content header pieces
stream_of None blocks header before now pieces p = tt
stream_of (Some held) blocks header before now pieces p =
    let v = as_it_reads held in
    let at = chain_page v header in
    let n = (counts_in p.info).image_pages in
    let start : p.info ≡ at 0 = page_of_first held header (p.info ∷ p.listed) 0 p.read.first (omega arith) in
    let count : n ≡ count_in at = ap (λ (q : List ℕ). (counts_in q).image_pages) start in
    let is = sym (format_there held blocks header SkipZeros p.saves) in
    let size : length p.frames ≡ n = ap length p.all.all ∙ length-map-range_with_len (saved_at (chain_format v header) at) 0 (count_in at) ∙ sym count in
    let first : AreFirstSaved (Some held) header p.frames = p.all.all ∙ ap (first_saved (chain_format v header) at) (sym count ∙ sym size) in
    let pages = frames_of_chain held header p.frames is first in
    let lists = lists_of_chain held header n p.info p.listed p.read.first in
    p.made
    ∙ ap (λ (x : List (List ℕ)). plain_info p.info ∷ (x ++ pages_of p.frames)) (lists ∙ ap (plain_lists n at) p.full)
    ∙ ap (λ (x : List (List ℕ)). plain_info p.info ∷ (plain_lists n at (meta_of n) ++ x)) (pages ∙ ap (λ (k : ℕ). map (page_in SkipZeros at) (range_with_len 0 k)) size)
    ∙ ap (λ (c : ℕ). plain_info p.info ∷ (plain_lists c at (meta_of c) ++ map (page_in SkipZeros at) (range_with_len 0 c))) count
    ∙ ap (λ (x : List ℕ). plain_info x ∷ (plain_lists (count_in at) at (meta_of (count_in at)) ++ map (page_in SkipZeros at) (range_with_len 0 (count_in at)))) start
    ∙ ap (λ (f : Format). plain_stream f at) (sym is)

pub begun_none : (content : Option Content) (header : ℕ) → IsBegun content header []
begun_none None header = tt
begun_none (Some held) header = (chain_stream (as_it_reads held) header, refl)

-- the pages of a plain image are its stream as they are
pub plain_begun : (content : Option Content) (blocks header : ℕ) (p : Pages) (pages : List (List ℕ)) → Stands content blocks header p pages → p.format ≡ Plain → IsBegun content header pages
plain_begun None blocks header p pages s plain = tt
plain_begun (Some held) blocks header p [] s plain = (chain_stream (as_it_reads held) header, refl)
plain_begun (Some held) blocks header p (info ∷ rest) s plain =
    let v = as_it_reads held in
    let at = chain_page v header in
    let is : chain_format v header ≡ Plain = sym (format_there held blocks header p.format (saves_of (Some held) blocks header p (info ∷ rest) s)) ∙ plain in
    let first = (read_given (Some held) blocks header p (info ∷ rest) s).first in
    let start : info ≡ at 0 = page_of_first held header (info ∷ rest) 0 first (omega arith) in
    let count : (counts_in info).pages ≡ (counts_in (at 0)).pages = ap (λ (q : List ℕ). (counts_in q).pages) start in
    let few = few_pages (Some held) blocks header p info rest s in
    let (more, front) = map_front at (length (info ∷ rest)) (counts_in (at 0)).pages (omega (arith, few, count)) in
    (more, ap (λ (f : Format). plain_stream f at) is ∙ front ∙ ap (λ (x : List (List ℕ)). x ++ more) (sym first))

pub plain_whole : (content : Option Content) (blocks header : ℕ) (p : Pages) (given : List (List ℕ)) → Stands content blocks header p given → p.format ≡ Plain → IsWholeStream content header given → IsStream content header given
plain_whole None blocks header p given s plain whole = tt
plain_whole (Some held) blocks header p given s plain whole =
    let v = as_it_reads held in
    let is : chain_format v header ≡ Plain = sym (format_there held blocks header p.format (saves_of (Some held) blocks header p given s)) ∙ plain in
    whole.chain ∙ ap (λ (f : Format). plain_stream f (chain_page v header)) (sym is)

-- one number page more
pub lists_more : (n k : ℕ) (info page : List ℕ) (listed : List (List ℕ)) → length listed ≡ k → plain_lists n (page_at (info ∷ (listed ++ page ∷ []))) (k + 1) ≡ plain_lists n (page_at (info ∷ listed)) k ++ plain_numbers (n - 512 * k) page ∷ []
lists_more n k info page listed size =
    let at = page_at (info ∷ (listed ++ page ∷ [])) in
    let last : at (1 + k) ≡ page =
    behind_info info (listed ++ page ∷ []) k ∙ ap (page_at (listed ++ page ∷ [])) (sym size) ∙ get_or-append_seam listed page [] [] in
    map-range_with_len_more (λ j. plain_numbers (n - 512 * j) (at (1 + j))) 0 k k (zero_plus k)
    ∙ ap (λ (x : List (List ℕ)). x ++ plain_numbers (n - 512 * k) (at (1 + k)) ∷ [])
    (lists_same n k at (page_at (info ∷ listed)) (λ j lt.
    behind_info info (listed ++ page ∷ []) j
    ∙ get_or-append listed (page ∷ []) [] j (omega (arith, size, lt))
    ∙ sym (behind_info info listed j)))
    ∙ ap (λ (x : List ℕ). plain_lists n (page_at (info ∷ listed)) k ++ plain_numbers (n - 512 * k) x ∷ []) last where
      zero_plus : (j : ℕ) → 0 + j ≡ j
      zero_plus j = omega arith
