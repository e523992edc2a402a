-- A page frame's page, by the pages that were read and by the chain.
use Rattle.std.proofs.Common.{◌≡◌, ◌≢◌, ℕ, ◌+◌, ◌-◌, ◌*◌, ◌/◌, ◌%◌, ◌<◌, ◌≤◌, Bool, true, false, List, [], ◌∷◌, ◌++◌, length, cond, Option, Some, None, IfSome, inl, inr, sym, ap, subst, ◌∙◌, arith, refl, length-append, suc}
use Rattle.std.proofs.lemmas.List.{get_or-append-add}
use Rattle.page_core.specs.declared.format.Format.{Format}
use Rattle.definitions.specs.Bytes.{word, zero_page}
use Rattle.definitions.specs.Disk.{Content, as_it_reads}
use Rattle.definitions.specs.NumberPages.{meta_of}
use Rattle.image_check.specs.Checked.{mark_in}
use Rattle.image_check.specs.Info.{counts_in}
use Rattle.image_check.specs.Numbers.{frame_of}
use Rattle.image_check.specs.declared.finding.Counts.{Counts}
use Rattle.image_format.specs.AreaKind.{area_kind}
use Rattle.image_pages.specs.AreRead.{AreRead}
use Rattle.image_pages.specs.Chain.{chain_page, AreFirst}
use Rattle.image_pages.specs.Stands.{Stands}
use Rattle.image_pages.specs.declared.pages.Pages.{Pages}
use Rattle.image_pages.proofs.Reading.{read_given, page_of_first}
use Rattle.image_pages.specs.Ahead.{HasRead, IsAhead, IsMarked, listed, listed_data}
use Rattle.image_pages.specs.Formats.{SavesThere, chain_format, format_marked}
use Rattle.image_pages.specs.Found.{IsNoneThere, IsPageThere, page_at}
use Rattle.image_pages.specs.Saved.{IsSaved, IsUnsaved, count_in, data_before, has_data, has_page, number_in, page_in, place_in, told_at, word_in}
use Rattle.image_pages.proofs.Begun.{unless, when}
use Rattle.image_pages.proofs.Data.{behind_info, counted_inside, counted_same, data_behind, data_kept, listed_before, word_behind}
use Rattle.image_pages.proofs.Following.{data_follows}
use Rattle.image_pages.proofs.Searching.{counts_room, fine_counts}

-- the format of pages that stand is that of the image
pub saves_of : (content : Option Content) (blocks header : ℕ) (p : Pages) (given : List (List ℕ)) → Stands content blocks header p given → SavesThere p.format content blocks header
saves_of content blocks header p given s = (s.start, s.begins, sym s.format)

pub format_there : (held : Content) (blocks header : ℕ) (format : Format) → SavesThere format (Some held) blocks header → format ≡ chain_format (as_it_reads held) header
format_there held blocks header format (start, b, is) =
    sym is ∙ b.format ∙ ap format_marked (sym b.marked) ∙ ap (λ (p : List ℕ). format_marked (mark_in (area_kind p))) b.read

told_far : (t : Bool) (p k n : ℕ) → cond t p k < n → k ≤ p → k < n
told_far true p k n lt le = omega arith
told_far false p k n lt le = lt

pick_same : (t u : Bool) (at other : ℕ → List ℕ) (p q k n : ℕ) → t ≡ u → p ≡ q → ((j : ℕ) → j < n → at j ≡ other j) → cond t p k < n → cond t (at p) zero_page ≡ cond u (other q) zero_page
pick_same true u at other p q k n e f same far = same p far ∙ ap other f ∙ ap (λ (x : Bool). cond x (other q) zero_page) e
pick_same false u at other p q k n e f same far = ap (λ (x : Bool). cond x (other q) zero_page) e

-- streams whose first pages are the same have the same page of a page frame, if these pages determine it
pub words_same : (at other : ℕ → List ℕ) (n i : ℕ) → ((k : ℕ) → k < n → at k ≡ other k) → 1 + i / 512 < n → word_in at i ≡ word_in other i
words_same at other n i same lt = ap (λ (p : List ℕ). word p (i % 512)) (same (1 + i / 512) lt)

pub numbers_same : (format : Format) (at other : ℕ → List ℕ) (n i : ℕ) → ((k : ℕ) → k < n → at k ≡ other k) → 1 + i / 512 < n → number_in format at i ≡ number_in format other i
numbers_same format at other n i same lt = ap (frame_of format) (words_same at other n i same lt)

pub data_same : (format : Format) (at other : ℕ → List ℕ) (n i : ℕ) → ((k : ℕ) → k < n → at k ≡ other k) → 1 + i / 512 < n → data_before format at i ≡ data_before format other i
data_same format at other n i same lt =
    counted_same (has_data format at) (has_data format other) i (λ j less. ap (has_page format) (words_same at other n j same (omega arith)))

pub counts_same : (at other : ℕ → List ℕ) (n : ℕ) → ((k : ℕ) → k < n → at k ≡ other k) → 0 < n → count_in at ≡ count_in other
counts_same at other n same lt = ap (λ (p : List ℕ). (counts_in p).image_pages) (same 0 lt)

pub told_after : (format : Format) (at : ℕ → List ℕ) (n i : ℕ) → i < count_in at → told_at format at i < n → 1 + i / 512 < n
told_after format at n i inside far = told_far (has_data format at i) (place_in format at i) (1 + i / 512) n far (omega arith)

pub pages_same : (format : Format) (at other : ℕ → List ℕ) (n i : ℕ) → ((k : ℕ) → k < n → at k ≡ other k) → i < count_in at → told_at format at i < n → page_in format at i ≡ page_in format other i
pages_same format at other n i same inside far =
    let near = told_after format at n i inside far in
    let place : place_in format at i ≡ place_in format other i = omega (arith, counts_same at other n same (omega arith), data_same format at other n i same near) in
    pick_same (has_data format at i) (has_data format other i) at other (place_in format at i) (place_in format other i) (1 + i / 512) n
    (ap (has_page format) (words_same at other n i same near)) place same far

saved_by : (format : Format) (at other : ℕ → List ℕ) (n frame : ℕ) (page : List ℕ) → ((k : ℕ) → k < n → at k ≡ other k) → (s : IsSaved format at frame page) → told_at format at s.index < n → IsSaved format other frame page
saved_by format at other n frame page same s far =
    let near = told_after format at n s.index s.inside far in
    record {
      index = s.index;
      inside = omega (arith, s.inside, counts_same at other n same (omega arith));
      number = sym (numbers_same format at other n s.index same near) ∙ s.number;
      saved = s.saved ∙ pages_same format at other n s.index same s.inside far;
    }

unsaved_by : (format : Format) (at other : ℕ → List ℕ) (n frame : ℕ) → ((k : ℕ) → k < n → at k ≡ other k) → IsUnsaved format at frame → 1 + meta_of (count_in at) ≤ n → IsUnsaved format other frame
unsaved_by format at other n frame same u far = λ i inside is.
    let count = counts_same at other n same (omega arith) in
    let within : i < count_in at = omega (arith, count, inside) in
    u i within (numbers_same format at other n i same (omega (arith, within, far)) ∙ is)

saved_in_chain : (content : Option Content) (blocks header : ℕ) (format : Format) (pages : List (List ℕ)) (frame : ℕ) (page : List ℕ) → SavesThere format content blocks header → AreFirst content header pages → (s : IsSaved format (page_at pages) frame page) → told_at format (page_at pages) s.index < length pages → IfSome content (λ held. IsSaved (chain_format (as_it_reads held) header) (chain_page (as_it_reads held) header) frame page)
saved_in_chain None blocks header format pages frame page saves first s far = tt
saved_in_chain (Some held) blocks header format pages frame page saves first s far =
    subst (λ (f : Format). IsSaved f (chain_page (as_it_reads held) header) frame page) (format_there held blocks header format saves)
    (saved_by format (page_at pages) (chain_page (as_it_reads held) header) (length pages) frame page (λ k lt. page_of_first held header pages k first lt) s far)

unsaved_in_chain : (content : Option Content) (blocks header : ℕ) (format : Format) (pages : List (List ℕ)) (frame : ℕ) → SavesThere format content blocks header → AreFirst content header pages → IsUnsaved format (page_at pages) frame → 1 + meta_of (count_in (page_at pages)) ≤ length pages → IfSome content (λ held. IsUnsaved (chain_format (as_it_reads held) header) (chain_page (as_it_reads held) header) frame)
unsaved_in_chain None blocks header format pages frame saves first u far = tt
unsaved_in_chain (Some held) blocks header format pages frame saves first u far =
    subst (λ (f : Format). IsUnsaved f (chain_page (as_it_reads held) header) frame) (format_there held blocks header format saves)
    (unsaved_by format (page_at pages) (chain_page (as_it_reads held) header) (length pages) frame (λ k lt. page_of_first held header pages k first lt) u far)

-- the pages that were read determine the page
there : (content : Option Content) (blocks header : ℕ) (q : Pages) (pages : List (List ℕ)) (frame : ℕ) (page : List ℕ) → Stands content blocks header q pages → (s : IsSaved q.format (page_at pages) frame page) → length pages ≡ told_at q.format (page_at pages) s.index + 1 → IsPageThere content blocks header frame page
there content blocks header q pages frame page stands s far =
    let read = read_given content blocks header q pages stands in
    let saves = saves_of content blocks header q pages stands in
    record {
      format = q.format;
      saves = saves;
      pages = pages;
      read = read;
      saved = s;
      far = far;
      chain = saved_in_chain content blocks header q.format pages frame page saves read.first s (omega arith);
    }

pub none_there : (content : Option Content) (blocks header : ℕ) (q : Pages) (info : List ℕ) (rest : List (List ℕ)) (n frame : ℕ) → Stands content blocks header q (info ∷ rest) → (counts_in info).image_pages ≡ n → length rest ≡ meta_of n → ((i : ℕ) → i < n → frame_of q.format (listed rest i) ≢ frame) → IsNoneThere content blocks header frame
none_there content blocks header q info rest n frame s count size none =
    let read = read_given content blocks header q (info ∷ rest) s in
    let saves = saves_of content blocks header q (info ∷ rest) s in
    let unsaved : IsUnsaved q.format (page_at (info ∷ rest)) frame = λ i inside is.
    none i (omega (arith, inside, count)) (ap (frame_of q.format) (sym (word_behind info rest i)) ∙ is) in
    let far : length (info ∷ rest) ≡ 1 + meta_of (count_in (page_at (info ∷ rest))) = omega (arith, size, count) in
    record {
      format = q.format;
      saves = saves;
      pages = info ∷ rest;
      read = read;
      unsaved = unsaved;
      far = far;
      chain = unsaved_in_chain content blocks header q.format (info ∷ rest) frame saves read.first unsaved (omega (arith, far));
    }

-- a marked number was read last
pub zeros_there : (content : Option Content) (blocks header : ℕ) (q : Pages) (info : List ℕ) (rest : List (List ℕ)) (n frame : ℕ) → Stands content blocks header q (info ∷ rest) → (counts_in info).image_pages ≡ n → IsMarked q.format rest n frame → IsPageThere content blocks header frame zero_page
zeros_there content blocks header q info rest n frame s count m =
    let i = m.at.index in
    let at = page_at (info ∷ rest) in
    let none : has_data q.format at i ≡ false = ap (has_page q.format) (word_behind info rest i) ∙ m.marked in
    let told : told_at q.format at i ≡ 1 + i / 512 = unless (has_data q.format at i) (place_in q.format at i) (1 + i / 512) none in
    there content blocks header q (info ∷ rest) frame zero_page s
    (record {
      index = i;
      inside = omega (arith, m.at.inside, count);
      number = ap (frame_of q.format) (word_behind info rest i) ∙ m.at.number;
      saved = sym (unless (has_data q.format at i) (at (place_in q.format at i)) zero_page none);
    })
    (omega (arith, m.at.newest, told))

-- after the number pages the image has the data pages up to the wanted one
pub enough_data : (content : Option Content) (blocks header : ℕ) (q : Pages) (info : List ℕ) (had more : List (List ℕ)) (frame lists wanted : ℕ) → Stands content blocks header q ((info ∷ had) ++ more) → length more ≡ lists → IsAhead q.format had (counts_in info).image_pages frame lists wanted → length (info ∷ (had ++ more)) + wanted ≤ (counts_in info).pages
enough_data content blocks header q info had more frame lists wanted s size a =
    let n = (counts_in info).image_pages in
    let i = a.at.index in
    let all = length-append had more in
    let follows = data_follows content blocks header q info (had ++ more) s a.small (omega (arith, all, size, a.further)) in
    let has : has_page q.format (listed (had ++ more) i) ≡ true = ap (has_page q.format) (listed_before had more i (omega (arith, a.at.newest))) ∙ a.has in
    let inside = counted_inside (λ j. has_page q.format (listed (had ++ more) j)) i n a.at.inside has in
    let kept = data_kept q.format had more i (omega (arith, a.at.newest)) in
    omega (arith, follows, inside, kept, a.count, all, size, a.further)

one_less : (k n : ℕ) → n ≡ k + 1 → k ≡ n - 1
one_less k n e = omega arith

-- the data page of the wanted page frame was read last
pub page_there : (content : Option Content) (blocks header : ℕ) (q : Pages) (info page : List ℕ) (had more : List (List ℕ)) (frame lists wanted : ℕ) → length more ≡ lists → (a : IsAhead q.format had (counts_in info).image_pages frame lists wanted) → HasRead content blocks header (info ∷ (had ++ more)) q page wanted → IsPageThere content blocks header frame page
page_there content blocks header q info page had more frame lists wanted size a r =
    let n = (counts_in info).image_pages in
    let i = a.at.index in
    let rest = (had ++ more) ++ r.more in
    let at = page_at (info ∷ rest) in
    let near : i / 512 < length had = omega (arith, a.at.newest) in
    let both = length-append had more in
    let all = length-append (had ++ more) r.more in
    let same : word_in at i ≡ listed had i =
    word_behind info rest i ∙ listed_before (had ++ more) r.more i (omega (arith, near, both)) ∙ listed_before had more i near in
    let has : has_data q.format at i ≡ true = ap (has_page q.format) same ∙ a.has in
    let before : data_before q.format at i ≡ wanted - 1 =
    data_behind q.format info rest i
    ∙ data_kept q.format (had ++ more) r.more i (omega (arith, near, both))
    ∙ data_kept q.format had more i (omega (arith, near))
    ∙ one_less (listed_data q.format had i) wanted a.count in
    let place : place_in q.format at i ≡ 1 + (length (had ++ more) + (wanted - 1)) = omega (arith, before, both, size, a.further) in
    let last : page ≡ at (place_in q.format at i) =
    r.last (omega (arith, a.count))
    ∙ sym (get_or-append-add (had ++ more) r.more (wanted - 1) [])
    ∙ sym (behind_info info rest (length (had ++ more) + (wanted - 1)))
    ∙ ap at (sym place) in
    let told : told_at q.format at i ≡ place_in q.format at i = when (has_data q.format at i) (place_in q.format at i) (1 + i / 512) has in
    there content blocks header q (info ∷ rest) frame page r.stands
    (record {
      index = i;
      inside = a.at.inside;
      number = ap (frame_of q.format) same ∙ a.at.number;
      saved = last ∙ sym (when (has_data q.format at i) (at (place_in q.format at i)) zero_page has);
    })
    (omega (arith, told, place, all, r.size, a.count))

-- the image has the number pages after those that were read
pub enough_lists : (content : Option Content) (blocks header : ℕ) (p : Pages) (info : List ℕ) (had : List (List ℕ)) (frame lists wanted : ℕ) → Stands content blocks header p (info ∷ had) → IsAhead p.format had (counts_in info).image_pages frame lists wanted → length (info ∷ had) + lists ≤ (counts_in info).pages
enough_lists content blocks header p info had frame lists wanted s a =
    omega (arith, counts_room p.format (counts_in info) (fine_counts content blocks header p info had s), a.further)
