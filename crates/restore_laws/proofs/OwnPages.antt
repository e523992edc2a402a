-- The data pages of an image that the machine made.
use Rattle.std.proofs.Common.{◌≡◌, ℕ, ◌+◌, ◌<◌, ◌≤◌, zero, suc, Bool, true, false, not, cond, eqb, List, [], ◌∷◌, length, get_or, map, filter, take, Contains, refl, ap, ap₂, ◌∙◌, arith}
use Rattle.std.specs.List.{range_with_len, zip, list_any}
use Rattle.std.proofs.lemmas.Bool.{cond-true, cond-false, le-leb}
use Rattle.std.proofs.lemmas.List.{length-map, get_or-map, get_or_default}
use Rattle.page_core.specs.declared.format.Format.{Format}
use Rattle.definitions.specs.Disk as disk
use Rattle.definitions.specs.NumberPages.{zero_bit}
use Rattle.definitions.specs.declared.info.Info.{Info}
use Rattle.plain_machine.specs.Machine.{Hardware}
use Rattle.plain_machine.specs.Chain.{Holds}
use Rattle.plain_machine.specs.Image.{Image, n_of, numbers_of, has_data, with_data, without_data}
use Rattle.plain_machine.specs.Trace.{format_in, number_in, number_word, is_marked_by, data_frames, data_page, data_pages}
use Rattle.image_laws.specs.Decoding.{IsSayable}
use Rattle.image_laws.proofs.Decoding.{word_is, format_is, meta_is, says_info, says_numbers, says_pages, is_skipped, not_marked, zeros_of}
use Rattle.restore_laws.specs.DataPages.{OwnRead, OwnFrames, OwnPages}

abbrev Saved : Type 0
Saved = ℕ × List ℕ

abbrev none_saved : Saved
none_saved = (0, [])

abbrev number_of : Saved → ℕ
number_of saved = saved.0

abbrev marked_number : List ℕ → ℕ → ℕ
marked_number zeros p = cond (list_any (λ q. eqb q p) zeros) (p + zero_bit) p

-- how many are read
pub own_read : OwnRead
own_read h v i t holds say = let meta = meta_is h v i holds say in omega arith

-- A number is marked where its page has no data page.

marked_as : (f : Format) (zeros : List ℕ) (s : Saved) (b : Bool) → has_data f s ≡ b → s.0 < zero_bit → list_any (λ q. eqb q s.0) zeros ≡ not b → not (is_marked_by f (marked_number zeros s.0)) ≡ b
marked_as f zeros s true has lt skipped =
    ap (λ (w : ℕ). not (is_marked_by f w)) (cond-false (list_any (λ q. eqb q s.0) zeros) (s.0 + zero_bit) s.0 skipped) ∙ ap not (not_marked f s.0 lt)
marked_as f zeros s false has lt skipped =
    ap (λ (w : ℕ). not (is_marked_by f w)) (cond-true (list_any (λ q. eqb q s.0) zeros) (s.0 + zero_bit) s.0 skipped)
    ∙ ap (λ (g : Format). not (is_marked_by g (s.0 + zero_bit))) (zeros_of f s has).0 ∙ ap not (le-leb zero_bit (s.0 + zero_bit) (omega arith))

module _ (h : Hardware) (v : disk.DiskImage) (i : Image) (holds : Holds h v i) (say : IsSayable i) where
  abbrev saved_at : ℕ → Saved
  saved_at j = get_or i.frames j none_saved

  number_at : (j : ℕ) → j < n_of i → number_in h v j ≡ (saved_at j).0
  number_at j lt = says_numbers h v i holds say j lt ∙ get_or-map number_of i.frames j none_saved 0 lt

  data_at : (j : ℕ) → j < n_of i → not (is_marked_by (format_in h v) (number_word h v j)) ≡ has_data i.format (saved_at j)
  data_at j lt =
      let zeros = without_data i in
      let s = saved_at j in
      let inside : j < length (numbers_of i) = omega (arith, length-map i.frames number_of) in
      let there : Contains i.frames s = (j, lt, get_or_default i.frames j s none_saved lt) in
      let word : number_word h v j ≡ marked_number zeros s.0 =
      word_is h v i j holds say lt ∙ get_or-map (marked_number zeros) (numbers_of i) j 0 0 inside ∙ ap (marked_number zeros) (get_or-map number_of i.frames j none_saved 0 lt) in
      ap₂ (λ (f : Format) (w : ℕ). not (is_marked_by f w)) (format_is h v i holds) word
      ∙ marked_as i.format zeros s (has_data i.format s) refl (say.numbers j none_saved lt) (is_skipped i s (has_data i.format s) say there refl)

-- Places that are kept, as the saved pages there are.

one_more : (a b : Bool) (j : ℕ) (js : List ℕ) (s : Saved) (ss : List Saved) (f : ℕ → ℕ) → a ≡ b → f j ≡ s.0 → map f js ≡ map number_of ss → map f (cond a (j ∷ js) js) ≡ map number_of (cond b (s ∷ ss) ss)
one_more true true j js s ss f e here rest = ap₂ (λ (x : ℕ) (xs : List ℕ). x ∷ xs) here rest
one_more false false j js s ss f e here rest = rest
one_more true false j js s ss f e here rest = cc
one_more false true j js s ss f e here rest = cc

kept_numbers : (f : ℕ → ℕ) (test : ℕ → Bool) (keep : Saved → Bool) (a : ℕ) (xs : List Saved) → ((k : ℕ) → k < length xs → (f (a + k) ≡ (get_or xs k none_saved).0) × (test (a + k) ≡ keep (get_or xs k none_saved))) →
    map f (filter test (range_with_len a (length xs))) ≡ map number_of (filter keep xs)
kept_numbers f test keep a [] each = refl
kept_numbers f test keep a (x ∷ xs) each =
    let rest = kept_numbers f test keep (a + 1) xs (λ k lt.
    let next : a + 1 + k ≡ a + suc k = omega arith in
    let at = each (suc k) (omega arith) in
    (ap f next ∙ at.0, ap test next ∙ at.1)) in
    let first = each 0 (omega arith) in
    let none : a ≡ a + 0 = omega arith in
    one_more (test a) (keep x) a (filter test (range_with_len (a + 1) (length xs))) x (filter keep xs) f (ap test none ∙ first.1) (ap f none ∙ first.0) rest

pub own_frames : OwnFrames
unfolding data_frames
own_frames h v i holds say =
    let unmarked : ℕ → Bool = λ j. not (is_marked_by (format_in h v) (number_word h v j)) in
    ap (λ (info : Info). map (number_in h v) (filter unmarked (range_with_len 0 info.image_pages))) (says_info h v i holds say)
    ∙ kept_numbers (number_in h v) unmarked (has_data i.format) 0 i.frames (λ k lt.
    let at : 0 + k ≡ k = omega arith in
    (ap (number_in h v) at ∙ number_at h v i holds say k lt, ap unmarked at ∙ data_at h v i holds say k lt))

-- The page frames beside their pages.

zip_pages : (xs : List Saved) (f : ℕ → List ℕ) (a m : ℕ) → m ≤ length xs → ((k : ℕ) → k < m → f (a + k) ≡ (get_or xs k none_saved).1) → zip (take m (map number_of xs)) (map f (range_with_len a m)) ≡ take m xs
zip_pages xs f a zero le each = refl
zip_pages [] f a (suc m) le each = absurd (omega arith)
zip_pages (x ∷ xs) f a (suc m) le each =
    let none : a ≡ a + 0 = omega arith in
    let rest = zip_pages xs f (a + 1) m (omega arith) (λ k lt. let next : a + 1 + k ≡ a + suc k = omega arith in ap f next ∙ each (suc k) (omega arith)) in
    ap₂ (λ (page : List ℕ) (ys : List Saved). (x.0, page) ∷ ys) (ap f none ∙ each 0 (omega arith)) rest

pub own_pages : OwnPages
own_pages h v i m holds say le =
    ap (λ (ps : List ℕ). zip (take m ps) (data_pages h v m)) (own_frames h v i holds say)
    ∙ zip_pages (with_data i) (data_page h v) 0 m le (λ k lt. let at : 0 + k ≡ k = omega arith in ap (data_page h v) at ∙ says_pages h v i holds say k (omega arith))
