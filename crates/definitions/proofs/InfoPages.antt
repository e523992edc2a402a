-- Laws of the info page: what it says is what was put into it.
use Rattle.std.proofs.Common.{◌≡◌, ℕ, ◌+◌, ◌*◌, ◌^◌, ◌<◌, ◌≤◌, ◌⊎◌, zero, suc, All, List, [], ◌∷◌, ◌++◌, length, get_or, map, take, drop, refl, sym, ap, ◌∙◌, inl, inr, append_assoc, length-append, zero-add, mul-zero, mul-suc, ⊎_elim, arith}
use Rattle.std.specs.List.{concat, range_with_len}
use Rattle.std.proofs.lemmas.List.{ext_get_or, get_or-map, length-map, take_at, drop_at, drop-drop}
use Rattle.std.proofs.lemmas.List.FromFn.{length-range_with_len, get_or-range_with_len}
use Rattle.byteorder.specs.Endian.{little_bytes}
use Rattle.byteorder.specs.Numbers.{length-bytes_low_first}
use Rattle.definitions.specs.Bytes.{zero_page, bytes_at, with_bytes, number_at, with_number}
use Rattle.definitions.specs.InfoPage.{info_page, info_of, names_of, IsInfo}
use Rattle.definitions.specs.declared.info.Info.{Info}
use Rattle.definitions.proofs.PageBytes.{length-zero_page, length-with_bytes, length-with_number, bytes_at-with_bytes_apart, number_at-with_number, number_at-with_number_apart}

-- Lists of one length, one after another.

length-concat : (n : ℕ) (xss : List (List ℕ)) → All (λ xs. length xs ≡ n) xss → length (concat xss) ≡ n * length xss
length-concat n [] h = rw mul-zero refl
length-concat n (xs ∷ xss) h =
    let first : length xs ≡ n = h 0 [] (omega arith) in
    let rest : length (concat xss) ≡ n * length xss = length-concat n xss (λ k d lt. h (suc k) d (omega arith)) in
    omega (arith, length-append xs (concat xss), mul-suc n (length xss))

part_of_concat : (n : ℕ) (xss : List (List ℕ)) (tail : List ℕ) (j : ℕ) → All (λ xs. length xs ≡ n) xss → j < length xss → take n (drop (n * j) (concat xss ++ tail)) ≡ get_or xss j []
part_of_concat n [] tail j h lt = absurd (omega arith)
part_of_concat n (xs ∷ xss) tail zero h lt = rw (mul-zero, append_assoc) (take_at xs (concat xss ++ tail) n (h 0 [] lt))
part_of_concat n (xs ∷ xss) tail (suc j) h lt =
    let next : n * suc j ≡ n + n * j = omega (arith, mul-suc n j) in
    rw (next, append_assoc)
    (ap (take n) (sym (drop-drop (n * j) n (xs ++ (concat xss ++ tail))) ∙ ap (drop (n * j)) (drop_at xs (concat xss ++ tail) n (h 0 [] (omega arith))))
    ∙ part_of_concat n xss tail j (λ k d below. h (suc k) d (omega arith)) (omega arith))

-- A list is what it has at each index.
listed : (xss : List (List ℕ)) (n : ℕ) (f : ℕ → List ℕ) → length xss ≡ n → ((j : ℕ) → j < n → f j ≡ get_or xss j []) → map f (range_with_len 0 n) ≡ xss
listed xss n f size each =
    ext_get_or [] (map f (range_with_len 0 n)) xss (length-map (range_with_len 0 n) f ∙ length-range_with_len 0 n ∙ sym size)
    (λ j lt.
    let below : j < n = omega (arith, length-map (range_with_len 0 n) f, length-range_with_len 0 n) in
    get_or-map f (range_with_len 0 n) j 0 [] (omega (arith, length-range_with_len 0 n))
    ∙ ap f (get_or-range_with_len 0 n j 0 below ∙ zero-add j)
    ∙ each j below)

-- what lies apart from a number stays
bytes_at-with_number_apart : (n m : ℕ) (page : List ℕ) (k v j : ℕ) → k + n ≤ length page → (j + m ≤ k) ⊎ (k + n ≤ j) → bytes_at m (with_number n page k v) j ≡ bytes_at m page j
unfolding with_number
bytes_at-with_number_apart n m page k v j le apart =
    let size : length (little_bytes n v) ≡ n = length-bytes_low_first 0 n v in
    bytes_at-with_bytes_apart m page k (little_bytes n v) j (omega arith) (⊎_elim (λ below. inl below) (λ above. inr (omega arith)) apart)

-- The fields of an info page, over any page that begins with the names.
module _ (base : List ℕ) (whole : length base ≡ 4096) (version physpages image_pages pages size : ℕ) where
  unfoldable page_1 : List ℕ
  page_1 = with_number 4 base 392 version

  unfoldable page_2 : List ℕ
  page_2 = with_number 8 page_1 400 physpages

  unfoldable page_3 : List ℕ
  page_3 = with_number 8 page_2 416 image_pages

  unfoldable page_4 : List ℕ
  page_4 = with_number 8 page_3 424 pages

  unfoldable page_5 : List ℕ
  page_5 = with_number 8 page_4 432 size

  length_1 : length page_1 ≡ 4096
  unfolding page_1
  length_1 = length-with_number 4 base 392 version (omega arith) ∙ whole

  length_2 : length page_2 ≡ 4096
  unfolding page_2
  length_2 = length-with_number 8 page_1 400 physpages (omega (arith, length_1)) ∙ length_1

  length_3 : length page_3 ≡ 4096
  unfolding page_3
  length_3 = length-with_number 8 page_2 416 image_pages (omega (arith, length_2)) ∙ length_2

  length_4 : length page_4 ≡ 4096
  unfolding page_4
  length_4 = length-with_number 8 page_3 424 pages (omega (arith, length_3)) ∙ length_3

  -- what lies outside of the fields, and what a field says
  apart_2 : (m j : ℕ) → (j + m ≤ 400) ⊎ (408 ≤ j) → number_at m page_2 j ≡ number_at m page_1 j
  unfolding page_2
  apart_2 m j apart = number_at-with_number_apart m 8 page_1 400 physpages j (omega (arith, length_1)) apart

  apart_3 : (m j : ℕ) → (j + m ≤ 416) ⊎ (424 ≤ j) → number_at m page_3 j ≡ number_at m page_2 j
  unfolding page_3
  apart_3 m j apart = number_at-with_number_apart m 8 page_2 416 image_pages j (omega (arith, length_2)) apart

  apart_4 : (m j : ℕ) → (j + m ≤ 424) ⊎ (432 ≤ j) → number_at m page_4 j ≡ number_at m page_3 j
  unfolding page_4
  apart_4 m j apart = number_at-with_number_apart m 8 page_3 424 pages j (omega (arith, length_3)) apart

  apart_5 : (m j : ℕ) → (j + m ≤ 432) ⊎ (440 ≤ j) → number_at m page_5 j ≡ number_at m page_4 j
  unfolding page_5
  apart_5 m j apart = number_at-with_number_apart m 8 page_4 432 size j (omega (arith, length_4)) apart

  version_is : version < 256 ^ 4 → number_at 4 page_5 392 ≡ version
  unfolding page_1
  version_is fits =
      apart_5 4 392 (inl (omega arith)) ∙ apart_4 4 392 (inl (omega arith)) ∙ apart_3 4 392 (inl (omega arith)) ∙ apart_2 4 392 (inl (omega arith))
      ∙ number_at-with_number 4 base 392 version (omega arith) fits

  physpages_is : physpages < 256 ^ 8 → number_at 8 page_5 400 ≡ physpages
  unfolding page_2
  physpages_is fits =
      apart_5 8 400 (inl (omega arith)) ∙ apart_4 8 400 (inl (omega arith)) ∙ apart_3 8 400 (inl (omega arith))
      ∙ number_at-with_number 8 page_1 400 physpages (omega (arith, length_1)) fits

  image_pages_is : image_pages < 256 ^ 8 → number_at 8 page_5 416 ≡ image_pages
  unfolding page_3
  image_pages_is fits =
      apart_5 8 416 (inl (omega arith)) ∙ apart_4 8 416 (inl (omega arith)) ∙ number_at-with_number 8 page_2 416 image_pages (omega (arith, length_2)) fits

  pages_is : pages < 256 ^ 8 → number_at 8 page_5 424 ≡ pages
  unfolding page_4
  pages_is fits = apart_5 8 424 (inl (omega arith)) ∙ number_at-with_number 8 page_3 424 pages (omega (arith, length_3)) fits

  front_is : (m j : ℕ) → j + m ≤ 392 → bytes_at m page_5 j ≡ bytes_at m base j
  unfolding page_1 page_2 page_3 page_4 page_5
  front_is m j le =
      bytes_at-with_number_apart 8 m page_4 432 size j (omega (arith, length_4)) (inl (omega arith))
      ∙ bytes_at-with_number_apart 8 m page_3 424 pages j (omega (arith, length_3)) (inl (omega arith))
      ∙ bytes_at-with_number_apart 8 m page_2 416 image_pages j (omega (arith, length_2)) (inl (omega arith))
      ∙ bytes_at-with_number_apart 8 m page_1 400 physpages j (omega (arith, length_1)) (inl (omega arith))
      ∙ bytes_at-with_number_apart 4 m base 392 version j (omega arith) (inl (omega arith))

-- The names at the front of a page of zeros.
names_page : List (List ℕ) → List ℕ
names_page names = with_bytes zero_page 0 (concat names)

length-names_page : (names : List (List ℕ)) → length names ≡ 6 → All (λ name. length name ≡ 65) names → length (names_page names) ≡ 4096
unfolding names_page
length-names_page names six each =
    length-with_bytes zero_page 0 (concat names) (omega (arith, length-zero_page, length-concat 65 names each)) ∙ length-zero_page

name_is : (names : List (List ℕ)) (j : ℕ) → j < length names → All (λ name. length name ≡ 65) names → bytes_at 65 (names_page names) (65 * j) ≡ get_or names j []
unfolding names_page with_bytes
name_is names j lt each = part_of_concat 65 names (drop (0 + length (concat names)) zero_page) j each lt

info_with : ℕ → List (List ℕ) → ℕ → ℕ → ℕ → Info
info_with version names physpages image_pages pages = record { ident = record { version_code = version; names = names }; physpages = physpages; image_pages = image_pages; pages = pages }

same_info : (v v' : ℕ) (names names' : List (List ℕ)) (n n' s s' p p' : ℕ) → v ≡ v' → names ≡ names' → n ≡ n' → s ≡ s' → p ≡ p' → info_with v names n s p ≡ info_with v' names' n' s' p'
same_info v v' names names' n n' s s' p p' ev en eu es ep =
    ap (λ x. info_with x names n s p) ev ∙ ap (λ x. info_with v' x n s p) en ∙ ap (λ x. info_with v' names' x s p) eu ∙ ap (λ x. info_with v' names' n' x p) es ∙ ap (λ x. info_with v' names' n' s' x) ep

-- what an info page says is what was put into it
pub info_of-info_page : (info : Info) → IsInfo info → info_of (info_page info) ≡ info
unfolding info_of info_page names_of names_page page_1 page_2 page_3 page_4 page_5 info_with
info_of-info_page info is =
    let names = info.ident.names in
    let base = names_page names in
    let whole = length-names_page names is.names is.each_name in
    let version = info.ident.version_code in
    let size = info.pages * 4096 in
    let named : map (λ j. bytes_at 65 (info_page info) (65 * j)) (range_with_len 0 6) ≡ names =
    listed names 6 (λ j. bytes_at 65 (info_page info) (65 * j)) is.names (λ j lt. front_is base whole version info.physpages info.image_pages info.pages size 65 (65 * j) (omega arith) ∙ name_is names j (omega (arith, is.names)) is.each_name) in
    same_info _ version _ names _ info.physpages _ info.image_pages _ info.pages
    (version_is base whole version info.physpages info.image_pages info.pages size is.version_code)
    named
    (physpages_is base whole version info.physpages info.image_pages info.pages size is.physpages)
    (image_pages_is base whole version info.physpages info.image_pages info.pages size is.image_pages)
    (pages_is base whole version info.physpages info.image_pages info.pages size is.pages)
