-- Numbers that are given one after another.
use Rattle.std.proofs.Common.{◌≡◌, ℕ, ◌+◌, ◌/◌, ◌%◌, ◌<◌, ◌≤◌, List, [], ◌∷◌, ◌++◌, length, Option, Some, None, refl, sym, ap, subst, ◌∙◌, inl, inr, arith, length-append}
use Rattle.std.proofs.lemmas.Bool.{cases_lt}
use Rattle.std.proofs.lemmas.List.Elements.{All-from_get_or}
use Rattle.std.proofs.lemmas.List.FromFn.{fill_by_all}
use Rattle.std.proofs.Math.ListN.{get_or-append}
use Rattle.std.proofs.Math.Seq.{get_or-append_seam}
use Rattle.std.specs.Prelude.{slice_index_or}
use Rattle.page_core.specs.declared.format.Format.{Format}
use Rattle.definitions.specs.Bytes.{word}
use Rattle.definitions.specs.Disk.{Content, as_it_reads, last_count}
use Rattle.definitions.specs.NumberPages.{word_at}
use Rattle.image_check.specs.Info.{counts_in}
use Rattle.image_check.specs.Numbers.{frame_of}
use Rattle.image_check.specs.declared.finding.Counts.{Counts}
use Rattle.image_pages.specs.Chain.{chain_page, AreFirst, IsChainPage}
use Rattle.image_pages.specs.declared.pages.Pages.{Pages}
use Rattle.image_pages.proofs.Reading.{read_given, page_of_first}
use Rattle.image_pages.specs.Ahead.{HasInfo}
use Rattle.image_pages.specs.Found.{page_at}
use Rattle.image_pages.specs.Formats.{chain_format}
use Rattle.image_pages.specs.Saved.{has_page, number_in, word_in}
use Rattle.image_pages.proofs.Data.{word_behind}
use Rattle.image_pages.proofs.Saving.{format_there, saves_of}
use Rattle.image_pages.specs.Numbered.{HasNumbered}
use Rattle.image_pages.specs.SavedNumbers.{AreAllNumbers, AreFirstNumbers, first_numbers}
use Rattle.image_pages.specs.SaysNumber.{AreAllNumbered, IsNextNumber}
use Rattle.image_pages.specs.SaysWord.{IsNextWord}
use Rattle.image_pages.specs.Turns.{IsAtNumber, IsNumberRead}
use Rattle.image_pages.specs.declared.frames.numbers.Numbers.{Numbers}
use Rattle.image_pages.proofs.Ascending.{ascends_by, word_ascends, word_small}

-- an image whose info page was read
pub begun_numbered : (content : Option Content) (blocks header : ℕ) (p : Pages) (info newest : List ℕ) (counts : Counts) → HasInfo content blocks header p counts info → counts.image_pages ≤ last_count → HasNumbered content blocks header (record { info = info; count = counts.image_pages; given = 0; pages = p; listed = newest }) []
begun_numbered content blocks header p info newest counts has fits =
    let said = has.said in
    record {
      listed = [];
      stands = has.stands;
      count = ap (λ (c : Counts). c.image_pages) said;
      room = omega (arith, ap (λ (c : Counts). c.pages) said, has.room);
      small = fits;
      few = omega arith;
      listed_size = refl;
      newest = λ lt. absurd (omega arith);
      size = refl;
      numbers = λ i lt. absurd (omega arith);
    }

-- the info page is the first of the chain
pub info_numbered : (content : Option Content) (blocks header : ℕ) (n : Numbers) (given : List ℕ) → HasNumbered content blocks header n given → IsChainPage content header 0 n.info
info_numbered None blocks header n given h = tt
info_numbered (Some held) blocks header n given h =
    page_of_first held header (n.info ∷ h.listed) 0 (read_given (Some held) blocks header n.pages (n.info ∷ h.listed) h.stands).first (omega arith)

-- a word that was read is that of the chain
pub word_in_chain : (held : Content) (header i : ℕ) (info : List ℕ) (listed : List (List ℕ)) → AreFirst (Some held) header (info ∷ listed) → i / 512 < length listed → word_at listed i ≡ word_in (chain_page (as_it_reads held) header) i
word_in_chain held header i info listed numbers inside =
    sym (word_behind info listed i) ∙ ap (λ (p : List ℕ). word p (i % 512)) (page_of_first held header (info ∷ listed) (1 + i / 512) numbers (omega arith))

-- the format is that of the image
pub numbered_format : (held : Content) (blocks header : ℕ) (n : Numbers) (given : List ℕ) → HasNumbered (Some held) blocks header n given → n.pages.format ≡ chain_format (as_it_reads held) header
numbered_format held blocks header n given h =
    format_there held blocks header n.pages.format (saves_of (Some held) blocks header n.pages (n.info ∷ h.listed) h.stands)

pub first_numbered : (content : Option Content) (blocks header : ℕ) (n : Numbers) (given : List ℕ) → HasNumbered content blocks header n given → AreFirstNumbers content header given
first_numbered None blocks header n given h = tt
first_numbered (Some held) blocks header n given h =
    let size = h.size in
    let format = numbered_format held blocks header n given h in
    fill_by_all (number_in (chain_format (as_it_reads held) header) (chain_page (as_it_reads held) header)) given (length given) 0 refl (λ i lt.
    h.numbers i (omega arith)
    ∙ ap (λ (f : Format). frame_of f (word_at h.listed i)) format
    ∙ ap (frame_of (chain_format (as_it_reads held) header)) (word_in_chain held header i n.info h.listed (read_given (Some held) blocks header n.pages (n.info ∷ h.listed) h.stands).first (omega (arith, h.listed_size))))

all_numbers : (content : Option Content) (blocks header : ℕ) (n : Numbers) (given : List ℕ) → HasNumbered content blocks header n given → n.given ≡ n.count → AreAllNumbers content header given
all_numbers None blocks header n given h all = tt
all_numbers (Some held) blocks header n given h all =
    first_numbered (Some held) blocks header n given h
    ∙ ap (first_numbers (chain_format (as_it_reads held) header) (chain_page (as_it_reads held) header)) (h.size ∙ all ∙ sym h.count ∙ ap (λ (p : List ℕ). (counts_in p).image_pages) (info_numbered (Some held) blocks header n given h))

pub all_numbered : (content : Option Content) (blocks header : ℕ) (n : Numbers) (given : List ℕ) → HasNumbered content blocks header n given → n.given ≡ n.count → AreAllNumbered content blocks header given n
all_numbered content blocks header n given h all = record {
  stands = h;
  count = h.size ∙ all ∙ sym h.count;
  all = all_numbers content blocks header n given h all;
}

-- the numbers before are where the number page of the next is wanted
pub at_number : (content : Option Content) (blocks header : ℕ) (n : Numbers) (given : List ℕ) (h : HasNumbered content blocks header n given) → n.given < n.count → IsAtNumber content blocks header n.pages n.info h.listed n.given n.listed
at_number content blocks header n given h more = record {
  stands = h.stands;
  size = h.listed_size;
  newest = h.newest;
  count = omega (arith, h.count);
  room = omega (arith, h.count, h.room);
}

-- the number that was read is the next one
abbrev pub numbers_after : Numbers → Pages → List ℕ → Numbers
numbers_after n pages newest = record { info = n.info; count = n.count; given = n.given + 1; pages = pages; listed = newest }

numbered_more : (content : Option Content) (blocks header : ℕ) (n : Numbers) (given : List ℕ) (pages : Pages) (newest : List ℕ) (h : HasNumbered content blocks header n given) (t : IsNumberRead content blocks header pages n.info h.listed n.given newest) → n.given < n.count → pages.format ≡ n.pages.format → HasNumbered content blocks header (numbers_after n pages newest) (given ++ frame_of pages.format (word newest (n.given % 512)) ∷ [])
numbered_more content blocks header n given pages newest h t more format =
    let k = n.given in
    let size = h.size in
    let lists = h.listed_size in
    let number = frame_of pages.format (word newest (k % 512)) in
    record {
      listed = t.all;
      stands = t.stands;
      count = h.count;
      room = h.room;
      small = h.small;
      few = omega arith;
      listed_size = t.size;
      newest = λ lt. t.newest ∙ ap (page_at t.all) (let e : n.given / 512 ≡ (n.given + 1) / 512 = omega arith in e);
      size = omega (arith, length-append given (number ∷ []));
      numbers = λ i lt. elim (cases_lt i k) [
        | inl old ↦
            get_or-append given (number ∷ []) 0 i (omega arith)
            ∙ h.numbers i old
            ∙ ap (λ (p : List ℕ). frame_of n.pages.format (word p (i % 512))) (sym (t.same (i / 512) (omega arith)))
            ∙ ap (λ (f : Format). frame_of f (word_at t.all i)) (sym format)
        | inr last ↦
            let here : length given ≡ i = omega arith in
            let at : k ≡ i = omega arith in
            ap (λ (j : ℕ). slice_index_or (given ++ number ∷ []) j 0) (sym here)
            ∙ get_or-append_seam given number [] 0
            ∙ ap (λ (p : List ℕ). frame_of pages.format (word p (k % 512))) t.newest
            ∙ ap (λ (j : ℕ). frame_of pages.format (word_at t.all j)) at
      ];
    }

pub next_number : (content : Option Content) (blocks header : ℕ) (n : Numbers) (given : List ℕ) (pages : Pages) (newest : List ℕ) (h : HasNumbered content blocks header n given) (t : IsNumberRead content blocks header pages n.info h.listed n.given newest) → n.given < n.count → pages.format ≡ n.pages.format → IsNextWord content blocks header given n h (numbers_after n pages newest) (frame_of pages.format (word newest (n.given % 512))) (has_page pages.format (word newest (n.given % 512)))
unfolding numbered_more
next_number content blocks header n given pages newest h t more same_format =
    let k = n.given in
    let format = pages.format in
    let c = (counts_in n.info).image_pages in
    let count = h.count in
    let size = h.size in
    let lists = h.listed_size in
    let now = t.size in
    let word_is : word newest (k % 512) ≡ word_at t.all k = ap (λ (p : List ℕ). word p (k % 512)) t.newest in
    let number = ap (frame_of format) word_is in
    let ascends = ascends_by content blocks header pages n.info t.all t.stands in
    let stands = numbered_more content blocks header n given pages newest h t more same_format in
    record {
      next = record {
        stands = stands;
        above = All-from_get_or (λ (g : ℕ). g < frame_of format (word newest (k % 512))) given 0 (λ i lt.
            let old : slice_index_or given i 0 ≡ frame_of format (word_at t.all i) =
            h.numbers i (omega arith)
            ∙ ap (λ (p : List ℕ). frame_of n.pages.format (word p (i % 512))) (sym (t.same (i / 512) (omega arith)))
            ∙ ap (λ (f : Format). frame_of f (word_at t.all i)) (sym same_format) in
            subst (λ (w : ℕ). w < frame_of format (word newest (k % 512))) (sym old)
            (subst (λ (w : ℕ). frame_of format (word_at t.all i) < w) (sym number) (word_ascends format c n.info t.all ascends i k (omega arith) (omega arith) (omega arith))));
        small = subst (λ (w : ℕ). w < 4503599627370496) (sym number) (word_small format c n.info t.all ascends k (omega arith) (omega arith));
        first = first_numbered content blocks header (numbers_after n pages newest) (given ++ frame_of format (word newest (k % 512)) ∷ []) stands;
      };
      format = same_format;
      kept = λ i lt. ap (λ (p : List ℕ). word p (i % 512)) (t.same (i / 512) (omega arith));
      has = ap (has_page format) word_is;
    }
