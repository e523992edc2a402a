-- The end of the number pages of an own image, and how many of its pages have data.
use Rattle.std.proofs.Common.{◌≡◌, ◌≢◌, ℕ, ◌+◌, ◌-◌, ◌*◌, ◌/◌, ◌%◌, ◌<◌, ◌≤◌, inl, inr, zero, suc, Bool, true, false, cond, eqb, ltb, leb, not, ◌||◌, min, List, [], ◌∷◌, length, get_or, map, filter, Option, Some, None, refl, sym, ap, ap₂, ◌∙◌, subst, arith, Contains}
use Rattle.std.specs.List.{range_with_len, list_any}
use Rattle.std.proofs.lemmas.Bool.{cases_eq, cases_Bool, eq-eqb, cond-true, false≢true, leb-false}
use Rattle.std.proofs.lemmas.List.{get_or_append_left}
use Rattle.std.proofs.lemmas.List.FromFn.{length-map-range_with_len, get_or-map-range_with_len}
use Rattle.page_core.specs.declared.format.Format.{Format}
use Rattle.page_core.specs.declared.format.Format.TheVariants.{Plain, SkipZeros}
use Rattle.definitions.specs.Bytes.{word}
use Rattle.definitions.specs.Disk as disk
use Rattle.definitions.specs.NumberPages.{meta_of, number_page, number_pages, end_value, zero_bit, word_at}
use Rattle.definitions.specs.declared.info.Info.{Info}
use Rattle.plain_machine.specs.Machine.{Hardware}
use Rattle.plain_machine.specs.Chain.{or_else, first_some}
use Rattle.plain_machine.specs.Image.{Image, info_of_image, n_of, d_of, pages_of, with_data, without_data, has_data}
use Rattle.plain_machine.specs.Trace.{info_in, meta_in, d_in, number_word, is_marked_by, number_cause, end_cause, listed_cause, numbers_cause, read_cause, Place, map_at, page_at}
use Rattle.plain_machine.specs.declared.event.IdentCheck.{IdentCheck}
use Rattle.plain_machine.specs.declared.reply.Reply.{Reply}
use Rattle.plain_machine.specs.declared.reply.Reply.TheVariants as reply
use Rattle.image_laws.specs.Decoding.{IsSayable}
use Rattle.image_laws.proofs.Decoding.{stream_page_is, stream_behind, told, told_fit, length-told, words_are, format_is, meta_is, is_skipped, not_marked, zeros_of}
use Rattle.image_laws.proofs.NumberWords.{have_words}
use Rattle.protocol_laws.proofs.OwnCauses.{IsOwnDisk, info_is, no_number_cause, no_info_cause, both_none}

abbrev marked_number : List ℕ → ℕ → ℕ
marked_number zeros p = cond (list_any (λ q. eqb q p) zeros) (p + zero_bit) p

abbrev page_of : ℕ × List ℕ → List ℕ
page_of saved = saved.1

-- the word after the last number, where the last page isn't full
end_word : (h : Hardware) (v : disk.DiskImage) (i : Image) → IsOwnDisk h v i → n_of i % 512 ≢ 0 → number_word h v (n_of i) ≡ end_value
end_word h v i is more =
    let n = n_of i in
    let size = length-told i is.sayable in
    let within : n / 512 < length (number_pages (told i)) = omega (arith, length-map-range_with_len (number_page (told i)) 0 (meta_of (length (told i))), ap meta_of size) in
    let inside : 1 + n / 512 < pages_of i = omega arith in
    let words = have_words (told i) (λ k lt. told_fit i k is.sayable lt) in
    let meta = ap meta_of size in
    ap (λ (page : List ℕ). word page (n % 512))
    (stream_page_is h v i (1 + n / 512) is.holds inside
    ∙ stream_behind (info_of_image i) (told i) (map page_of (with_data i)) (n / 512)
    ∙ get_or_append_left (number_pages (told i)) (map page_of (with_data i)) [] (n / 512) within)
    ∙ ap (word_at (number_pages (told i))) (sym size) ∙ words.ends (omega arith)

or_left : (a b : Bool) → a ≡ true → (a || b) ≡ true
or_left true b e = refl
or_left false b e = absurd (false≢true e)

or_right : (a b : Bool) → b ≡ true → (a || b) ≡ true
or_right true b e = refl
or_right false b e = e

no_end_cause : (h : Hardware) (v : disk.DiskImage) (i : Image) → IsOwnDisk h v i → end_cause h v (n_of i) ≡ None
no_end_cause h v i is =
    let n = n_of i in
    let ends : ((eqb (n % 512) 0) || (eqb (number_word h v n) end_value)) ≡ true = elim (cases_eq (n % 512) 0) [
      | inl full ↦ or_left (eqb (n % 512) 0) (eqb (number_word h v n) end_value) (eq-eqb (n % 512) 0 full)
      | inr more ↦ or_right (eqb (n % 512) 0) (eqb (number_word h v n) end_value) (eq-eqb (number_word h v n) end_value (end_word h v i is more))
    ] in
    cond-true ((eqb (n % 512) 0) || (eqb (number_word h v n) end_value)) None (Some (reply.PfnEnd (number_word h v n))) ends

-- How many numbers are unmarked.

count_same : (f : Format) (mark : ℕ → ℕ) (xs : List (ℕ × List ℕ)) → ((s : ℕ × List ℕ) → Contains xs s → not (is_marked_by f (mark s.0)) ≡ has_data f s) →
    length (filter (λ w. not (is_marked_by f w)) (map mark (map (λ saved. saved.0) xs))) ≡ length (filter (has_data f) xs)
count_same f mark [] each = refl
count_same f mark (x ∷ xs) each =
    let test : ℕ → Bool = λ w. not (is_marked_by f w) in
    let rest = count_same f mark xs (λ s in'. each s (behind x xs s in')) in
    one_more (test (mark x.0)) (has_data f x) (mark x.0) x (filter test (map mark (map (λ saved. saved.0) xs))) (filter (has_data f) xs) (each x (0, omega arith, refl)) rest where
      behind : (x : ℕ × List ℕ) (xs : List (ℕ × List ℕ)) (s : ℕ × List ℕ) → Contains xs s → Contains (x ∷ xs) s
      behind x xs s (k, lt, e) = (suc k, omega arith, e)

      one_more : (b c : Bool) (w : ℕ) (y : ℕ × List ℕ) (us : List ℕ) (ys : List (ℕ × List ℕ)) → b ≡ c → length us ≡ length ys → length (cond b (w ∷ us) us) ≡ length (cond c (y ∷ ys) ys)
      one_more true true w y us ys e rest = ap suc rest
      one_more false false w y us ys e rest = rest
      one_more true false w y us ys e rest = absurd (false≢true (sym e))
      one_more false true w y us ys e rest = absurd (false≢true e)

marked_word : (f : Format) (b : Bool) (p : ℕ) → p < zero_bit → (b ≡ true → f ≡ SkipZeros) → is_marked_by f (cond b (p + zero_bit) p) ≡ b
marked_word Plain true p lt skips = absurd (false≢true (ap is_skipping (skips refl))) where
  is_skipping : Format → Bool
  is_skipping Plain = false
  is_skipping SkipZeros = true
marked_word Plain false p lt skips = refl
marked_word SkipZeros true p lt skips = at_least (p + zero_bit) (omega arith) where
  at_least : (w : ℕ) → zero_bit ≤ w → leb zero_bit w ≡ true
  at_least w le = elim (cases_Bool (leb zero_bit w)) [ inl is ↦ is | inr isn't ↦ (let below = leb-false zero_bit w isn't in absurd (omega arith)) ]
marked_word SkipZeros false p lt skips = not_marked SkipZeros p lt

not_not : (b : Bool) → not (not b) ≡ b
not_not true = refl
not_not false = refl

not_false : (b : Bool) → not b ≡ true → b ≡ false
not_false true e = absurd (false≢true e)
not_false false e = refl

word_data : (i : Image) (s : ℕ × List ℕ) → IsSayable i → Contains i.frames s → not (is_marked_by i.format (marked_number (without_data i) s.0)) ≡ has_data i.format s
word_data i s say in' =
    let skipped = is_skipped i s (has_data i.format s) say in' refl in
    let fits : s.0 < zero_bit = number_of_saved i s say in' in
    ap (λ (b : Bool). not (is_marked_by i.format (cond b (s.0 + zero_bit) s.0))) skipped
    ∙ ap not (marked_word i.format (not (has_data i.format s)) s.0 fits (λ e. (zeros_of i.format s (not_false (has_data i.format s) e)).0))
    ∙ not_not (has_data i.format s) where
      number_of_saved : (i : Image) (s : ℕ × List ℕ) → IsSayable i → Contains i.frames s → s.0 < zero_bit
      number_of_saved i s say (k, lt, e) = subst (λ (x : ℕ × List ℕ). x.0 < zero_bit) e (say.numbers k s lt)

pub d_is : (h : Hardware) (v : disk.DiskImage) (i : Image) → IsOwnDisk h v i → d_in h v ≡ d_of i
d_is h v i is =
    ap₂ (λ (f : Format) (ws : List ℕ). length (filter (λ w. not (is_marked_by f w)) ws)) (format_is h v i is.holds) (words_are h v i is.holds is.sayable)
    ∙ count_same i.format (marked_number (without_data i)) i.frames (λ s in'. word_data i s is.sayable in')

no_listed_cause : (h : Hardware) (v : disk.DiskImage) (i : Image) → IsOwnDisk h v i → listed_cause h v ≡ None
no_listed_cause h v i is =
    let pages : (info_in h v).pages ≡ pages_of i = ap (λ (x : Info). x.pages) (info_is h v i is) in
    let d = d_is h v i is in
    let meta = meta_is h v i is.holds is.sayable in
    cond-true (eqb (info_in h v).pages (d_in h v + meta_in h v + 1)) None (Some (reply.BadCounts (info_in h v).image_pages (info_in h v).pages)) (eq-eqb (info_in h v).pages (d_in h v + meta_in h v + 1) (omega arith))

-- A number page.

none_of_all : (faults : List (Option Reply)) → ((k : ℕ) → k < length faults → get_or faults k None ≡ None) → first_some faults ≡ None
none_of_all [] none = refl
none_of_all (x ∷ faults) none = both_none x (first_some faults) (none 0 (omega arith)) (none_of_all faults (λ k lt. none (suc k) (omega arith)))

either_none : (b : Bool) (x y : Option Reply) → x ≡ None → y ≡ None → cond b x y ≡ None
either_none true x y e f = e
either_none false x y e f = f

no_numbers_cause : (h : Hardware) (v : disk.DiskImage) (i : Image) (q : ℕ) → IsOwnDisk h v i → numbers_cause h v q ≡ None
no_numbers_cause h v i q is =
    let n = (info_in h v).image_pages in
    let count : n ≡ n_of i = ap (λ (x : Info). x.image_pages) (info_is h v i is) in
    let faults = map (number_cause h v) (range_with_len (512 * q) (min 512 (n - 512 * q))) in
    let size = length-map-range_with_len (number_cause h v) (512 * q) (min 512 (n - 512 * q)) in
    let own = none_of_all faults (λ k lt.
    let here : k < min 512 (n - 512 * q) = omega arith in
    get_or-map-range_with_len (number_cause h v) (512 * q) (min 512 (n - 512 * q)) k (512 * q + k) None here refl ∙ no_number_cause h v i (512 * q + k) is (omega arith)) in
    let ends : end_cause h v n ≡ None = ap (end_cause h v) count ∙ no_end_cause h v i is in
    either_none (eqb (q + 1) (meta_of n)) (or_else (first_some faults) (or_else (end_cause h v n) (listed_cause h v))) (first_some faults)
    (both_none (first_some faults) (or_else (end_cause h v n) (listed_cause h v)) own (both_none (end_cause h v n) (listed_cause h v) ends (no_listed_cause h v i is))) own

-- whatever is read
pub no_read_cause : (h : Hardware) (v : disk.DiskImage) (i : Image) (check : IdentCheck) (here : Place) → IsOwnDisk h v i → read_cause h v check here ≡ None
no_read_cause h v i check (map_at j) is = refl
no_read_cause h v i check (page_at zero) is = no_info_cause h v i check is
no_read_cause h v i check (page_at (suc q)) is = either_none (ltb q (meta_in h v)) (numbers_cause h v q) None (no_numbers_cause h v i q is) refl
