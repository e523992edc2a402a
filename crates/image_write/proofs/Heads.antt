-- The pages of the stream by their number: the info page, the number pages, and those with data.
use Rattle.std.proofs.Common.{◌≡◌, ℕ, ◌+◌, ◌*◌, ◌<◌, take, drop, suc, List, [], ◌∷◌, ◌++◌, length, get_or, refl, sym, ap, ◌∙◌, subst, arith, length-append, zero-add, mul-suc, mul-zero}
use Rattle.std.proofs.lemmas.List.{get_or_append_left, get_or-append-add, length-take}
use Rattle.std.proofs.lemmas.List.Elements.{All-append, All-cons}
use Rattle.std.proofs.lemmas.List.FromFn.{length-map-range_with_len, get_or-map-range_with_len}
use Rattle.std.specs.List.{All, concat}
use Rattle.definitions.specs.InfoPage.{info_page, IsInfo}
use Rattle.definitions.specs.Bytes.{IsPage, zero_page, with_bytes, with_number}
use Rattle.definitions.proofs.PageBytes.{length-zero_page, length-with_bytes, length-with_number}
use Rattle.definitions.proofs.PageWords.{length-page_of_words}
use Rattle.definitions.specs.NumberPages.{meta_of, number_page, number_pages, end_value}
use Rattle.definitions.specs.declared.info.Info.{Info}
use Rattle.plain_machine.specs.Image.{stream_pages}

pub first_page : (info : Info) (numbers : List ℕ) (saved : List (List ℕ)) → get_or (stream_pages info numbers saved) 0 [] ≡ info_page info
unfolding stream_pages
first_page info numbers saved = refl

behind_first : (info : Info) (numbers : List ℕ) (saved : List (List ℕ)) (j : ℕ) → get_or (stream_pages info numbers saved) (suc j) [] ≡ get_or (number_pages numbers ++ saved) j []
unfolding stream_pages
behind_first info numbers saved j = refl

pub length-number_pages : (numbers : List ℕ) → length (number_pages numbers) ≡ meta_of (length numbers)
length-number_pages numbers = length-map-range_with_len (number_page numbers) 0 (meta_of (length numbers))

pub number_page_at : (info : Info) (numbers : List ℕ) (saved : List (List ℕ)) (j : ℕ) → j < meta_of (length numbers) → get_or (stream_pages info numbers saved) (suc j) [] ≡ number_page numbers j
number_page_at info numbers saved j lt =
    let size = length-number_pages numbers in
    behind_first info numbers saved j
    ∙ get_or_append_left (number_pages numbers) saved [] j (omega arith)
    ∙ get_or-map-range_with_len (number_page numbers) 0 (meta_of (length numbers)) j j [] lt (omega arith)

pub saved_page_at : (info : Info) (numbers : List ℕ) (saved : List (List ℕ)) (j : ℕ) → get_or (stream_pages info numbers saved) (meta_of (length numbers) + 1 + j) [] ≡ get_or saved j []
saved_page_at info numbers saved j =
    let size = length-number_pages numbers in
    let next : meta_of (length numbers) + 1 + j ≡ suc (length (number_pages numbers) + j) = omega arith in
    ap (λ (k : ℕ). get_or (stream_pages info numbers saved) k []) next
    ∙ behind_first info numbers saved (length (number_pages numbers) + j)
    ∙ get_or-append-add (number_pages numbers) saved j []

pub length-stream_pages : (info : Info) (numbers : List ℕ) (saved : List (List ℕ)) → length (stream_pages info numbers saved) ≡ length saved + meta_of (length numbers) + 1
unfolding stream_pages
length-stream_pages info numbers saved = let size = length-number_pages numbers in omega (arith, length-append (number_pages numbers) saved)

-- Each page of the stream has 4096 bytes.

pub length-concat : (n : ℕ) (xss : List (List ℕ)) → All (λ xs. length xs ≡ n) xss → length (concat xss) ≡ n * length xss
length-concat n [] h = rw mul-zero refl
length-concat n (xs ∷ xss) h =
    let first : length xs ≡ n = h 0 [] (omega arith) in
    let rest : length (concat xss) ≡ n * length xss = length-concat n xss (λ k d lt. h (suc k) d (omega arith)) in
    omega (arith, length-append xs (concat xss), mul-suc n (length xss))

pub IsPage-info_page : (info : Info) → IsInfo info → IsPage (info_page info)
unfolding info_page
IsPage-info_page info is =
    let names = concat info.ident.names in
    let six : length names ≡ 65 * length info.ident.names = length-concat 65 info.ident.names is.each_name in
    let count = is.names in
    let whole = length-zero_page in
    let one = with_bytes zero_page 0 names in
    let n1 : length one ≡ 4096 = length-with_bytes zero_page 0 names (omega arith) ∙ whole in
    let two = with_number 4 one 392 info.ident.version_code in
    let n2 : length two ≡ 4096 = length-with_number 4 one 392 info.ident.version_code (omega arith) ∙ n1 in
    let three = with_number 8 two 400 info.physpages in
    let n3 : length three ≡ 4096 = length-with_number 8 two 400 info.physpages (omega arith) ∙ n2 in
    let four = with_number 8 three 416 info.image_pages in
    let n4 : length four ≡ 4096 = length-with_number 8 three 416 info.image_pages (omega arith) ∙ n3 in
    let five = with_number 8 four 424 info.pages in
    let n5 : length five ≡ 4096 = length-with_number 8 four 424 info.pages (omega arith) ∙ n4 in
    length-with_number 8 five 432 (info.pages * 4096) (omega arith) ∙ n5

IsPage-number_page : (numbers : List ℕ) (k : ℕ) → IsPage (number_page numbers k)
unfolding number_page
IsPage-number_page numbers k =
    let words = take 512 (drop (512 * k) (numbers ++ end_value ∷ [])) in
    length-page_of_words words (let size = length-take 512 (drop (512 * k) (numbers ++ end_value ∷ [])) in omega arith)

pub IsPage-stream_pages : (info : Info) (numbers : List ℕ) (saved : List (List ℕ)) → IsInfo info → All IsPage saved → All IsPage (stream_pages info numbers saved)
unfolding stream_pages
IsPage-stream_pages info numbers saved is whole =
    let numbered : All IsPage (number_pages numbers) = λ k d lt.
    let within : k < meta_of (length numbers) = omega (arith, length-number_pages numbers) in
    subst IsPage (sym (get_or-map-range_with_len (number_page numbers) 0 (meta_of (length numbers)) k k d within (zero-add k))) (IsPage-number_page numbers k) in
    All-append IsPage (info_page info ∷ number_pages numbers) saved (All-cons IsPage (info_page info) (number_pages numbers) (IsPage-info_page info is) numbered) whole
