-- Page frames that are given one after another.
use Rattle.std.proofs.Common.{◌≡◌, ℕ, ◌+◌, ◌-◌, ◌/◌, ◌<◌, ◌≤◌, Bool, true, false, zero, suc, All, List, [], ◌∷◌, ◌++◌, length, drop, cond, Option, Some, None, refl, sym, ap, subst, ◌∙◌, inl, inr, arith, append-nil, append_assoc, length-append}
use Rattle.std.specs.Prelude.{slice_index_or}
use Rattle.std.proofs.lemmas.Bool.{cases_lt}
use Rattle.std.proofs.lemmas.List.{get_or-append-add}
use Rattle.std.proofs.lemmas.List.Elements.{All-from_get_or}
use Rattle.std.proofs.lemmas.List.FromFn.{fill_by_all}
use Rattle.std.proofs.Math.ListN.{get_or-append}
use Rattle.std.proofs.Math.Seq.{get_or-append_seam}
use Rattle.page_core.specs.declared.format.Format.{Format}
use Rattle.definitions.specs.Bytes.{zero_page}
use Rattle.definitions.specs.Disk.{Content, as_it_reads}
use Rattle.definitions.specs.NumberPages.{meta_of, word_at}
use Rattle.image_check.specs.Info.{counts_in}
use Rattle.image_check.specs.Numbers.{frame_of as frame_of_word}
use Rattle.image_check.specs.Told.{Told}
use Rattle.image_pages.specs.AreRead.{AreRead}
use Rattle.image_pages.specs.Chain.{chain_page, AreFirst, IsChainPage}
use Rattle.image_pages.specs.Stands.{Stands}
use Rattle.image_pages.specs.declared.pages.Pages.{Pages}
use Rattle.image_pages.proofs.Reading.{read_given, page_of_first}
use Rattle.image_pages.specs.Ahead.{HasMore, HasRead, listed_data}
use Rattle.image_pages.specs.Formats.{chain_format}
use Rattle.image_pages.specs.Found.{page_at}
use Rattle.image_pages.specs.Saved.{count_in, data_before, has_data, has_page, number_in, page_in, place_in, word_in}
use Rattle.image_pages.proofs.Begun.{unless, when}
use Rattle.image_pages.proofs.Data.{behind_info, counted_inside, counted_more, counted_same, listed_before, once, word_behind}
use Rattle.image_pages.proofs.Following.{data_follows}
use Rattle.image_pages.proofs.Saving.{saves_of}
use Rattle.image_pages.specs.Given.{HasGiven, HasPassed, data_page, frame_at, frame_of, numbers_of}
use Rattle.image_pages.specs.Numbered.{HasNumbered, HasTooMany}
use Rattle.image_pages.specs.SavedFrames.{SavedFrame, AreAllSaved, AreFirstSaved, first_saved, saved_at}
use Rattle.image_pages.specs.Says.{IsNextFrame, Says}
use Rattle.image_pages.specs.SaysNumber.{AreAllNumbered}
use Rattle.image_pages.specs.SaysWord.{IsNextWord}
use Rattle.image_pages.specs.Turns.{Ends, IsFull}
use Rattle.image_pages.specs.declared.frames.frames.Frames.{Frames}
use Rattle.image_pages.specs.declared.frames.frames.Next.{Next}
use Rattle.image_pages.specs.declared.frames.frames.Next.TheVariants.{Frame, End, Refused}
use Rattle.image_pages.specs.declared.frames.numbers.Numbers.{Numbers}
use Rattle.image_pages.proofs.Ascending.{few_pages}
use Rattle.image_pages.proofs.Numbering.{info_numbered, numbered_format, word_in_chain}

none_saved : (a b : List (List ℕ)) → a ≡ b → a ≡ b ++ []
none_saved a b e = e ∙ sym (append-nil b)

-- an image whose number pages were passed over
pub passed_over : (content : Option Content) (blocks header : ℕ) (n : Numbers) (q : Pages) (page : List ℕ) (count : ℕ) → HasNumbered content blocks header n [] → count ≡ meta_of n.count → HasRead content blocks header (n.info ∷ []) q page count → HasPassed content blocks header n q
passed_over content blocks header n q page count h all r = record { numbered = h; passed = r.more; stands = r.stands; size = r.size ∙ all }

pub begun_given : (content : Option Content) (blocks header : ℕ) (n : Numbers) (q : Pages) (left : ℕ) → HasPassed content blocks header n q → left ≡ (counts_in n.info).pages - meta_of n.count - 1 → HasGiven content blocks header (record { numbers = n; pages = q; left = left }) []
begun_given content blocks header n q left p rest =
    let h = p.numbered in
    let none : n.given ≡ 0 = sym h.size in
    record {
      numbered = h;
      passed = p.passed;
      saved = [];
      pages = subst (λ (x : List (List ℕ)). Stands content blocks header q (n.info ∷ x)) (none_saved p.passed p.passed refl) p.stands;
      passed_size = p.size;
      saved_size = sym (ap (listed_data n.pages.format h.listed) none);
      left = omega (arith, rest, h.room);
      frames = λ i lt. absurd (omega (arith, none));
    }

-- a data page after the number pages
page_behind : (info : List ℕ) (passed saved : List (List ℕ)) (m i : ℕ) → length passed ≡ m → page_at (info ∷ (passed ++ saved)) (1 + m + i) ≡ page_at saved i
page_behind info passed saved m i size =
    ap (page_at (info ∷ (passed ++ saved))) (grouped m i)
    ∙ behind_info info (passed ++ saved) (m + i)
    ∙ ap (λ (k : ℕ). page_at (passed ++ saved) (k + i)) (sym size)
    ∙ get_or-append-add passed saved i [] where
      grouped : (a b : ℕ) → 1 + a + b ≡ 1 + (a + b)
      grouped a b = omega arith

same_frame : (f : SavedFrame) (a : ℕ) (x : List ℕ) → f.number ≡ a → f.page ≡ x → f ≡ frame_of a x
same_frame f a x e g = ap (λ (n : ℕ). frame_of n f.page) e ∙ ap (λ (p : List ℕ). frame_of a p) g

-- the number of a page frame that was given
pub number_at : (given : List SavedFrame) (i : ℕ) → slice_index_or (numbers_of given) i 0 ≡ (frame_at given i).number
number_at [] i = refl
number_at (g ∷ given) zero = refl
number_at (g ∷ given) (suc i) = number_at given i

pub count_numbers : (given : List SavedFrame) → length (numbers_of given) ≡ length given
count_numbers [] = refl
count_numbers (g ∷ given) = ap suc (count_numbers given)

pub numbers_more : (given : List SavedFrame) (n : ℕ) (page : List ℕ) → numbers_of (given ++ frame_of n page ∷ []) ≡ numbers_of given ++ n ∷ []
numbers_more [] n page = refl
numbers_more (g ∷ given) n page = ap (λ (x : List ℕ). g.number ∷ x) (numbers_more given n page)

all_above : (given : List SavedFrame) (n : ℕ) → All (λ (k : ℕ). k < n) (numbers_of given) → All (λ (g : SavedFrame). g.number < n) given
all_above given n h = All-from_get_or (λ (g : SavedFrame). g.number < n) given (frame_of 0 []) (λ i lt.
    subst (λ (w : ℕ). w < n) (number_at given i) (h i 0 (omega (arith, lt, count_numbers given))))

-- how many page frames were given
pub given_size : (content : Option Content) (blocks header : ℕ) (f : Frames) (given : List SavedFrame) → HasGiven content blocks header f given → length given ≡ f.numbers.given
given_size content blocks header f given h = sym (count_numbers given) ∙ h.numbered.size

-- a choice of two by tests that say the same
pick : {A : Type 0} (t u : Bool) (x y z : A) → t ≡ u → (t ≡ true → x ≡ y) → cond t x z ≡ cond u y z
pick true u x y z e f = f refl ∙ ap (λ (b : Bool). cond b y z) e
pick false u x y z e f = ap (λ (b : Bool). cond b y z) e

-- the data pages of the first words
data_same : (format : Format) (listed other : List (List ℕ)) (n : ℕ) → ((j : ℕ) → j < n → word_at other j ≡ word_at listed j) → listed_data format other n ≡ listed_data format listed n
data_same format listed other n same =
    counted_same (λ j. has_page format (word_at other j)) (λ j. has_page format (word_at listed j)) n (λ j lt. ap (has_page format) (same j lt))

data_inside : (format : Format) (listed : List (List ℕ)) (i n : ℕ) → i < n → has_page format (word_at listed i) ≡ true → listed_data format listed i + 1 ≤ listed_data format listed n
data_inside format listed i n lt has = counted_inside (λ j. has_page format (word_at listed j)) i n lt has

-- The pages of words in number pages are those of a stream that has the same words, and the data pages in their places.
pages_agree : (format : Format) (n given : ℕ) (listed saved : List (List ℕ)) (at : ℕ → List ℕ) → ((j : ℕ) → j < given → word_at listed j ≡ word_in at j) → n ≡ count_in at → ((k : ℕ) → k < length saved → page_at saved k ≡ at (1 + meta_of n + k)) → length saved ≡ listed_data format listed given → (i : ℕ) → i < given → data_page format listed saved i ≡ page_in format at i
pages_agree format n given listed saved at words count pages size i lt =
    let before : listed_data format listed i ≡ data_before format at i =
    counted_same (λ j. has_page format (word_at listed j)) (has_data format at) i (λ j less. ap (has_page format) (words j (omega arith))) in
    pick (has_page format (word_at listed i)) (has_data format at i) (page_at saved (listed_data format listed i)) (at (place_in format at i)) zero_page
    (ap (has_page format) (words i lt))
    (λ has.
    pages (listed_data format listed i) (omega (arith, size, data_inside format listed i given lt has))
    ∙ ap at (place (meta_of n) (meta_of (count_in at)) (listed_data format listed i) (data_before format at i) (ap meta_of count) before)) where
      place : (a b c d : ℕ) → a ≡ b → c ≡ d → 1 + a + c ≡ 1 + b + d
      place a b c d e f = omega arith

-- more data pages, and the same words in other number pages
pages_kept : (format : Format) (given : ℕ) (listed other saved more : List (List ℕ)) → ((j : ℕ) → j < given → word_at other j ≡ word_at listed j) → length saved ≡ listed_data format listed given → (i : ℕ) → i < given → data_page format listed saved i ≡ data_page format other (saved ++ more) i
pages_kept format given listed other saved more same size i lt =
    let before = data_same format listed other i (λ j less. same j (omega arith)) in
    pick (has_page format (word_at listed i)) (has_page format (word_at other i)) (page_at saved (listed_data format listed i)) (page_at (saved ++ more) (listed_data format other i)) zero_page
    (ap (has_page format) (sym (same i lt)))
    (λ has.
    sym (get_or-append saved more [] (listed_data format listed i) (omega (arith, size, data_inside format listed i given lt has)))
    ∙ ap (page_at (saved ++ more)) (sym before))

-- the data pages of the chain, where they were read
data_in_chain : (held : Content) (header n k : ℕ) (info : List ℕ) (passed saved : List (List ℕ)) → AreFirst (Some held) header (info ∷ (passed ++ saved)) → length passed ≡ meta_of n → k < length saved → page_at saved k ≡ chain_page (as_it_reads held) header (1 + meta_of n + k)
data_in_chain held header n k info passed saved pages size lt =
    let far : 1 + meta_of n + k < length (info ∷ (passed ++ saved)) = omega (arith, length-append passed saved) in
    sym (page_behind info passed saved (meta_of n) k size)
    ∙ page_of_first held header (info ∷ (passed ++ saved)) (1 + meta_of n + k) pages far

pub first_given : (content : Option Content) (blocks header : ℕ) (f : Frames) (given : List SavedFrame) → HasGiven content blocks header f given → AreFirstSaved content header given
first_given None blocks header f given h = tt
first_given (Some held) blocks header f given h =
    let n = h.numbered in
    let size = given_size (Some held) blocks header f given h in
    let at = chain_page (as_it_reads held) header in
    let format = chain_format (as_it_reads held) header in
    let same = numbered_format held blocks header f.numbers (numbers_of given) n in
    let words : (j : ℕ) → j < f.numbers.given → word_at n.listed j ≡ word_in at j = λ j lt.
    word_in_chain held header j f.numbers.info n.listed (read_given (Some held) blocks header f.numbers.pages (f.numbers.info ∷ n.listed) n.stands).first (omega (arith, n.listed_size)) in
    let count : f.numbers.count ≡ count_in at = sym n.count ∙ ap (λ (p : List ℕ). (counts_in p).image_pages) (info_numbered (Some held) blocks header f.numbers (numbers_of given) n) in
    let read = (read_given (Some held) blocks header f.pages (f.numbers.info ∷ (h.passed ++ h.saved)) h.pages).first in
    fill_by_all (saved_at format at) given (length given) (frame_of 0 []) refl (λ i lt.
    let inside : i < f.numbers.given = omega arith in
    same_frame (frame_at given i) (number_in format at i) (page_in format at i)
    (sym (number_at given i)
    ∙ n.numbers i inside
    ∙ ap (λ (x : Format). frame_of_word x (word_at n.listed i)) same
    ∙ ap (frame_of_word format) (words i inside))
    (h.frames i inside
    ∙ pages_agree f.numbers.pages.format f.numbers.count f.numbers.given n.listed h.saved at words count
    (λ k less. data_in_chain held header f.numbers.count k f.numbers.info h.passed h.saved read h.passed_size less)
    h.saved_size i inside
    ∙ ap (λ (x : Format). page_in x at i) same))

all_given : (content : Option Content) (blocks header : ℕ) (f : Frames) (given : List SavedFrame) → HasGiven content blocks header f given → length given ≡ (counts_in f.numbers.info).image_pages → AreAllSaved content header given
all_given None blocks header f given h all = tt
all_given (Some held) blocks header f given h all =
    first_given (Some held) blocks header f given h
    ∙ ap (first_saved (chain_format (as_it_reads held) header) (chain_page (as_it_reads held) header))
    (all ∙ ap (λ (p : List ℕ). (counts_in p).image_pages) (info_numbered (Some held) blocks header f.numbers (numbers_of given) h.numbered))

-- all numbers were given, and with them all page frames
pub all_frames : (content : Option Content) (blocks header : ℕ) (f : Frames) (q : Numbers) (given : List SavedFrame) → AreAllNumbered content blocks header (numbers_of given) q → q.info ≡ f.numbers.info → length given ≡ (counts_in f.numbers.info).image_pages
all_frames content blocks header f q given all same =
    sym (count_numbers given) ∙ all.count ∙ ap (λ (p : List ℕ). (counts_in p).image_pages) same

pub more_pages : (content : Option Content) (blocks header : ℕ) (f : Frames) (given : List SavedFrame) (h : HasGiven content blocks header f given) → 0 < f.left → HasMore (f.numbers.info ∷ (h.passed ++ h.saved))
more_pages content blocks header f given h more = omega (arith, length-append h.passed h.saved, h.passed_size, h.left, more)

-- no page frame is left, so no data page is
pub all_read : (content : Option Content) (blocks header : ℕ) (f : Frames) (given : List SavedFrame) (h : HasGiven content blocks header f given) → length given ≡ (counts_in f.numbers.info).image_pages → length h.saved + (meta_of f.numbers.count + 1) ≡ (counts_in f.numbers.info).pages
all_read content blocks header f given h all =
    let n = h.numbered in
    let size = given_size content blocks header f given h in
    let count : (counts_in f.numbers.info).image_pages ≡ f.numbers.given = sym all ∙ size in
    let same : listed_data f.numbers.pages.format n.listed (counts_in f.numbers.info).image_pages ≡ length h.saved = ap (listed_data f.numbers.pages.format n.listed) count ∙ sym h.saved_size in
    let follows = data_follows content blocks header f.numbers.pages f.numbers.info n.listed n.stands (omega (arith, n.count, n.small)) (omega (arith, n.listed_size, count)) in
    omega (arith, follows, same, n.count)

pub is_full : (content : Option Content) (blocks header : ℕ) (f : Frames) (given : List SavedFrame) (h : HasGiven content blocks header f given) → length given ≡ (counts_in f.numbers.info).image_pages → IsFull content blocks header f.pages f.numbers.info (h.passed ++ h.saved)
is_full content blocks header f given h all = record {
  stands = h.pages;
  size = omega (arith, length-append h.passed h.saved, h.passed_size, all_read content blocks header f given h all);
}

-- all pages are read, so there is no further one
pub no_page : (content : Option Content) (blocks header : ℕ) (p q : Pages) (info : List ℕ) (rest : List (List ℕ)) (page : List ℕ) → IsFull content blocks header p info rest → Stands content blocks header q ((info ∷ rest) ++ page ∷ []) → ⊥
no_page content blocks header p q info rest page full s =
    let size = full.size in
    omega (arith, few_pages content blocks header q info (rest ++ page ∷ []) s, length-append rest (page ∷ []))

-- after number pages and data pages that were read
drop_front : (xs ys : List (List ℕ)) (n : ℕ) → length xs ≡ n → drop n (xs ++ ys) ≡ ys
drop_front [] ys zero e = refl
drop_front [] ys (suc n) e = cc
drop_front (x ∷ xs) ys zero e = cc
drop_front (x ∷ xs) ys (suc n) e = drop_front xs ys n (omega arith)

stream_of : (info : List ℕ) (listed passed saved : List (List ℕ)) → length listed ≡ length passed → (info ∷ listed) ++ drop (length (info ∷ listed)) (info ∷ (passed ++ saved)) ≡ info ∷ (listed ++ saved)
stream_of info listed passed saved same =
    ap (λ (x : List (List ℕ)). info ∷ (listed ++ x)) (drop_front passed saved (length listed) (sym same))

-- the page frames that were given, by the number pages and the data pages that were read
given_by : (content : Option Content) (blocks header : ℕ) (f : Frames) (given : List SavedFrame) (h : HasGiven content blocks header f given) → length h.numbered.listed ≡ meta_of f.numbers.count → (i : ℕ) → i < length given → frame_at given i ≡ saved_at f.numbers.pages.format (page_at (f.numbers.info ∷ (h.numbered.listed ++ h.saved))) i
given_by content blocks header f given h full i lt =
    let n = h.numbered in
    let format = f.numbers.pages.format in
    let size = given_size content blocks header f given h in
    let inside : i < f.numbers.given = omega arith in
    let at = page_at (f.numbers.info ∷ (n.listed ++ h.saved)) in
    let words : (j : ℕ) → j < f.numbers.given → word_at n.listed j ≡ word_in at j = λ j less.
    sym (word_behind f.numbers.info (n.listed ++ h.saved) j ∙ listed_before n.listed h.saved j (omega (arith, n.listed_size))) in
    same_frame (frame_at given i) (number_in format at i) (page_in format at i)
    (sym (number_at given i) ∙ n.numbers i inside ∙ ap (frame_of_word format) (words i inside))
    (h.frames i inside
    ∙ pages_agree format f.numbers.count f.numbers.given n.listed h.saved at words (sym n.count)
    (λ k less. sym (page_behind f.numbers.info n.listed h.saved (meta_of f.numbers.count) k full))
    h.saved_size i inside)

-- the end of the pages is that of the page frames
pub end_says : (content : Option Content) (blocks header before now : ℕ) (told then : Told) (f q : Frames) (given : List SavedFrame) (page : List ℕ) (n : Next) (h : HasGiven content blocks header f given) → length given ≡ (counts_in f.numbers.info).image_pages → q.numbers.info ≡ f.numbers.info → Ends content blocks header before now told then (f.numbers.info ∷ (h.passed ++ h.saved)) n → Says content blocks header before now told then given q page n
end_says content blocks header before now told then f q given page (Frame number) h all same ends = absurd ends
end_says content blocks header before now told then f q given page End h all same (untold, ended, whole) =
    let info = f.numbers.info in
    let listed = h.numbered.listed in
    let size = given_size content blocks header f given h in
    let count = h.numbered.count in
    let full : length listed ≡ meta_of f.numbers.count = omega (arith, h.numbered.listed_size) in
    let stream = stream_of info listed h.passed h.saved (full ∙ sym h.passed_size) in (
      untold,
      record {
        pages = info ∷ (h.passed ++ h.saved);
        ended = ended;
        whole = whole;
        first_page = sym same;
        count = all;
        format = f.numbers.pages.format;
        saves = saves_of content blocks header f.numbers.pages (info ∷ listed) h.numbered.stands;
        listed = listed;
        read = subst (λ (x : List ℕ). AreRead content blocks header (x ∷ listed)) (sym same) (read_given content blocks header f.numbers.pages (info ∷ listed) h.numbered.stands);
        saved = λ i lt.
            given_by content blocks header f given h full i lt
            ∙ ap (λ (x : List (List ℕ)). saved_at f.numbers.pages.format (page_at x) i) (sym stream)
            ∙ ap (λ (x : List ℕ). saved_at f.numbers.pages.format (page_at ((x ∷ listed) ++ drop (length (x ∷ listed)) (info ∷ (h.passed ++ h.saved)))) i) (sym same);
        all = all_given content blocks header f given h all;
      },
    )
end_says content blocks header before now told then f q given page Refused h all same refused =
    (f.numbers.info ∷ (h.passed ++ h.saved), refused)

-- how many numbers were given after the next one, and how many of them have a data page
one_given : (content : Option Content) (blocks header : ℕ) (f : Frames) (given : List SavedFrame) (q : Numbers) (number : ℕ) → HasGiven content blocks header f given → HasNumbered content blocks header q (numbers_of given ++ number ∷ []) → q.given ≡ f.numbers.given + 1
one_given content blocks header f given q number h n =
    omega (arith, n.size, length-append (numbers_of given) (number ∷ []), h.numbered.size)

pub data_next : (content : Option Content) (blocks header : ℕ) (f : Frames) (given : List SavedFrame) (q : Numbers) (number : ℕ) (has : Bool) (h : HasGiven content blocks header f given) (w : IsNextWord content blocks header (numbers_of given) f.numbers h.numbered q number has) → listed_data q.pages.format w.next.stands.listed q.given ≡ length h.saved + once has
data_next content blocks header f given q number has h w =
    let format = q.pages.format in
    let listed = w.next.stands.listed in
    let k = f.numbers.given in
    let one : q.given ≡ suc k = omega (arith, one_given content blocks header f given q number h w.next.stands) in
    let more = counted_more (λ j. has_page format (word_at listed j)) k in
    let old : listed_data format listed k ≡ length h.saved =
    data_same format h.numbered.listed listed k w.kept
    ∙ ap (λ (x : Format). listed_data x h.numbered.listed k) w.format
    ∙ sym h.saved_size in
    ap (listed_data format listed) one ∙ more ∙ ap (λ (d : ℕ). d + once (has_page format (word_at listed k))) old
    ∙ ap (λ (t : Bool). length h.saved + once t) (sym w.has)

-- a data page is wanted where none is left
pub too_many : (content : Option Content) (blocks header : ℕ) (f : Frames) (given : List SavedFrame) (q : Numbers) (number : ℕ) (has : Bool) (h : HasGiven content blocks header f given) (w : IsNextWord content blocks header (numbers_of given) f.numbers h.numbered q number has) → q.info ≡ f.numbers.info → has ≡ true → f.left ≡ 0 → HasTooMany content blocks header q (numbers_of given ++ number ∷ []) w.next.stands
too_many content blocks header f given q number has h w same wanted none =
    let one : once has ≡ 1 = ap once wanted in
    let counts : q.count ≡ f.numbers.count = sym w.next.stands.count ∙ ap (λ (p : List ℕ). (counts_in p).image_pages) same ∙ h.numbered.count in
    let pages : (counts_in q.info).pages ≡ (counts_in f.numbers.info).pages = ap (λ (p : List ℕ). (counts_in p).pages) same in
    omega (arith, data_next content blocks header f given q number has h w, one, counts, pages, h.left, none)

-- The page of the number that was given is the next one.
given_more : (content : Option Content) (blocks header : ℕ) (f : Frames) (given : List SavedFrame) (q : Numbers) (pages : Pages) (left number : ℕ) (page : List ℕ) (has : Bool) (more : List (List ℕ)) (h : HasGiven content blocks header f given) (w : IsNextWord content blocks header (numbers_of given) f.numbers h.numbered q number has) → q.info ≡ f.numbers.info → Stands content blocks header pages (f.numbers.info ∷ (h.passed ++ (h.saved ++ more))) → length more ≡ once has → f.left ≡ left + length more → page ≡ data_page q.pages.format w.next.stands.listed (h.saved ++ more) f.numbers.given → HasGiven content blocks header (record { numbers = q; pages = pages; left = left }) (given ++ frame_of number page ∷ [])
given_more content blocks header f given q pages left number page has more h w same s added fewer last =
    let n = w.next.stands in
    let k = f.numbers.given in
    let format = q.pages.format in
    let size = given_size content blocks header f given h in
    let one = one_given content blocks header f given q number h n in
    let listed = n.listed in
    let counts : q.count ≡ f.numbers.count = sym n.count ∙ ap (λ (p : List ℕ). (counts_in p).image_pages) same ∙ h.numbered.count in
    let all = length-append h.saved more in
    let total : (counts_in q.info).pages ≡ (counts_in f.numbers.info).pages = ap (λ (p : List ℕ). (counts_in p).pages) same in
    let old_size : length h.saved ≡ listed_data format h.numbered.listed k = h.saved_size ∙ ap (λ (x : Format). listed_data x h.numbered.listed k) (sym w.format) in
    let now = given ++ frame_of number page ∷ [] in
    subst (λ (x : List ℕ). (m : HasNumbered content blocks header q x) → length (h.saved ++ more) ≡ listed_data format m.listed q.given → ((i : ℕ) → i < q.given → (frame_at now i).page ≡ data_page format m.listed (h.saved ++ more) i) → HasGiven content blocks header (record { numbers = q; pages = pages; left = left }) now) (numbers_more given number page)
    (λ m has_size frames. record {
      numbered = m;
      passed = h.passed;
      saved = h.saved ++ more;
      pages = subst (λ (i : List ℕ). Stands content blocks header pages (i ∷ (h.passed ++ (h.saved ++ more)))) (sym same) s;
      passed_size = h.passed_size ∙ ap meta_of (sym counts);
      saved_size = has_size;
      left = omega (arith, total, h.left, fewer, all, counts);
      frames = frames;
    })
    n
    (omega (arith, all, added, data_next content blocks header f given q number has h w))
    (λ i lt. elim (cases_lt i k) [
      | inl old ↦
          ap (λ (x : SavedFrame). x.page) (get_or-append given (frame_of number page ∷ []) (frame_of 0 []) i (omega (arith, size, old)))
          ∙ h.frames i old
          ∙ ap (λ (x : Format). data_page x h.numbered.listed h.saved i) (sym w.format)
          ∙ pages_kept format k h.numbered.listed listed h.saved more w.kept old_size i old
      | inr late ↦
          let at : k ≡ i = omega (arith, one, lt, late) in
          let here : length given ≡ i = omega (arith, size, at) in
          ap (λ (j : ℕ). (frame_at now j).page) (sym here)
          ∙ ap (λ (x : SavedFrame). x.page) (get_or-append_seam given (frame_of number page) [] (frame_of 0 []))
          ∙ last
          ∙ ap (data_page format listed (h.saved ++ more)) at
    ])

pub next_frame : (content : Option Content) (blocks header : ℕ) (f : Frames) (given : List SavedFrame) (q : Numbers) (pages : Pages) (left number : ℕ) (page : List ℕ) (has : Bool) (more : List (List ℕ)) (h : HasGiven content blocks header f given) (w : IsNextWord content blocks header (numbers_of given) f.numbers h.numbered q number has) → q.info ≡ f.numbers.info → Stands content blocks header pages (f.numbers.info ∷ (h.passed ++ (h.saved ++ more))) → length more ≡ once has → f.left ≡ left + length more → page ≡ data_page q.pages.format w.next.stands.listed (h.saved ++ more) f.numbers.given → IsNextFrame content blocks header given (record { numbers = q; pages = pages; left = left }) (frame_of number page)
next_frame content blocks header f given q pages left number page has more h w same s added fewer last =
    let stands = given_more content blocks header f given q pages left number page has more h w same s added fewer last in
    record {
      stands = stands;
      above = all_above given number w.next.above;
      small = w.next.small;
      first = first_given content blocks header (record { numbers = q; pages = pages; left = left }) (given ++ frame_of number page ∷ []) stands;
    }

-- a page of zeros, for which no data page is read
pub next_zeros : (content : Option Content) (blocks header : ℕ) (f : Frames) (given : List SavedFrame) (q : Numbers) (number : ℕ) (page : List ℕ) (has : Bool) (h : HasGiven content blocks header f given) (w : IsNextWord content blocks header (numbers_of given) f.numbers h.numbered q number has) → q.info ≡ f.numbers.info → has ≡ false → page ≡ zero_page → IsNextFrame content blocks header given (record { numbers = q; pages = f.pages; left = f.left }) (frame_of number page)
next_zeros content blocks header f given q number page has h w same marked zeros =
    let k = f.numbers.given in
    let format = q.pages.format in
    let none = append-nil h.saved in
    let no_data : has_page format (word_at w.next.stands.listed k) ≡ false = sym w.has ∙ marked in
    next_frame content blocks header f given q f.pages f.left number page has [] h w same
    (subst (λ (x : List (List ℕ)). Stands content blocks header f.pages (f.numbers.info ∷ (h.passed ++ x))) (sym none) h.pages)
    (sym (ap once marked)) (omega arith)
    (zeros ∙ sym (unless (has_page format (word_at w.next.stands.listed k)) (page_at (h.saved ++ []) (listed_data format w.next.stands.listed k)) zero_page no_data))

-- the data page that was read
pub next_data : (content : Option Content) (blocks header : ℕ) (f : Frames) (given : List SavedFrame) (q : Numbers) (pages : Pages) (left number : ℕ) (page : List ℕ) (has : Bool) (h : HasGiven content blocks header f given) (w : IsNextWord content blocks header (numbers_of given) f.numbers h.numbered q number has) → q.info ≡ f.numbers.info → has ≡ true → f.left ≡ left + 1 → Stands content blocks header pages ((f.numbers.info ∷ (h.passed ++ h.saved)) ++ page ∷ []) → IsNextFrame content blocks header given (record { numbers = q; pages = pages; left = left }) (frame_of number page)
next_data content blocks header f given q pages left number page has h w same wanted fewer s =
    let k = f.numbers.given in
    let format = q.pages.format in
    let listed = w.next.stands.listed in
    let some : has_page format (word_at listed k) ≡ true = sym w.has ∙ wanted in
    let old : listed_data format listed k ≡ length h.saved =
    data_same format h.numbered.listed listed k w.kept
    ∙ ap (λ (x : Format). listed_data x h.numbered.listed k) w.format
    ∙ sym h.saved_size in
    next_frame content blocks header f given q pages left number page has (page ∷ []) h w same
    (subst (λ (x : List (List ℕ)). Stands content blocks header pages (f.numbers.info ∷ x)) (append_assoc h.passed h.saved (page ∷ [])) s)
    (sym (ap once wanted)) fewer
    (sym (get_or-append_seam h.saved page [] [])
    ∙ ap (page_at (h.saved ++ page ∷ [])) (sym old)
    ∙ sym (when (has_page format (word_at listed k)) (page_at (h.saved ++ page ∷ []) (listed_data format listed k)) zero_page some))

-- the info page is the first of the chain
pub info_in_chain : (content : Option Content) (blocks header : ℕ) (f : Frames) (given : List SavedFrame) → HasGiven content blocks header f given → IsChainPage content header 0 f.numbers.info
info_in_chain content blocks header f given h = info_numbered content blocks header f.numbers (numbers_of given) h.numbered
