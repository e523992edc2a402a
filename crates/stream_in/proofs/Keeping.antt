-- What is kept of a stream, as bytes come after it.
use Rattle.std.proofs.Common.{◌≡◌, ◌≢◌, ℕ, ◌+◌, ◌-◌, ◌*◌, ◌/◌, ◌%◌, ◌<◌, ◌≤◌, cond, ltb, List, [], ◌∷◌, ◌++◌, length, None, sym, ap, ap₂, subst, ◌∙◌, arith, add-one, length-append}
use Rattle.std.proofs.lemmas.Bool.{cond-true, cond-false, lt-ltb, le-ltb}
use Rattle.stream_in.specs.declared.checking.taking.Taking.{Taking}
use Rattle.definitions.specs.Bytes.{number_at}
use Rattle.stream_in.specs.Grammar.{image_pages, all_pages, place, number, words, counts_fault, least_number, kind_of_word, fault_at, extra_fault, first_fault}
use Rattle.stream_in.specs.Taken.{AreBounded, HasRead, HasTaken, Completes}
use Rattle.stream_in.proofs.Steps.{image_pages-append, all_pages-append, least_number-append, first_fault-early, first_fault-info, first_fault-rest, first_fault-word, length-byte, extra_fault-none}

pub early_end : (bs : List ℕ) (t : Taking) → HasRead bs t → length bs < 4096 → t.numbers_end ≡ 4096
early_end bs t read h = read.numbers_end ∙ cond-true (ltb (length bs) 4096) 4096 (place (image_pages bs + 1)) (lt-ltb (length bs) 4096 h)

pub late_end : (bs : List ℕ) (t : Taking) → HasRead bs t → 4096 ≤ length bs → t.numbers_end ≡ place (image_pages bs + 1)
late_end bs t read h = read.numbers_end ∙ cond-false (ltb (length bs) 4096) 4096 (place (image_pages bs + 1)) (le-ltb (length bs) 4096 h)

-- what is kept speaks of neither the count of the bytes nor of the word that has begun
pub moved : (bs : List ℕ) (t : Taking) (taken : ℕ) (word : List ℕ) → HasRead bs t → HasRead bs (record t { taken = taken; word = word })
moved bs t taken word read = record {
  sound = read.sound;
  image_count = read.image_count;
  page_count = read.page_count;
  numbers_end = read.numbers_end;
  end = read.end;
  least = read.least;
}

-- One byte more, of the info page, which isn't whole with it.
pub read_early : (bs : List ℕ) (b : ℕ) (t : Taking) (n pages : ℕ) → length bs + 1 < 4096 → HasRead bs t →
    (424 ≤ length bs + 1 → n ≡ image_pages (bs ++ b ∷ [])) → (432 ≤ length bs + 1 → pages ≡ all_pages (bs ++ b ∷ [])) →
    HasRead (bs ++ b ∷ []) (record t { image_pages = n; pages = pages })
read_early bs b t n pages h read n_is pages_is =
    let bs' = bs ++ b ∷ [] in
    let size = length-byte bs b in
    let none : words bs ≡ 0 = omega arith in
    let none' : words bs' ≡ 0 = omega arith in
    record {
      sound = first_fault-early bs' (omega arith);
      image_count = λ le. n_is (omega arith);
      page_count = λ le. pages_is (omega arith);
      numbers_end = early_end bs t read (omega arith) ∙ sym (cond-true (ltb (length bs') 4096) 4096 (place (image_pages bs' + 1)) (lt-ltb (length bs') 4096 (omega arith)));
      end = λ le. absurd (omega arith);
      least = λ le. read.least (omega arith) ∙ ap (least_number bs) none ∙ ap (least_number bs') (sym none');
    }

-- the counts, where the byte isn't the last one of theirs
pub kept_count : (bs : List ℕ) (b : ℕ) (t : Taking) → HasRead bs t → length bs + 1 ≢ 424 → 424 ≤ length bs + 1 → t.image_pages ≡ image_pages (bs ++ b ∷ [])
kept_count bs b t read ne le = read.image_count (omega arith) ∙ sym (image_pages-append bs (b ∷ []) (omega arith))

pub kept_pages : (bs : List ℕ) (b : ℕ) (t : Taking) → HasRead bs t → length bs + 1 ≢ 432 → 432 ≤ length bs + 1 → t.pages ≡ all_pages (bs ++ b ∷ [])
kept_pages bs b t read ne le = read.page_count (omega arith) ∙ sym (all_pages-append bs (b ∷ []) (omega arith))

-- The byte with which the info page is whole.
pub read_info : (bs : List ℕ) (b : ℕ) (t : Taking) → length bs + 1 ≡ 4096 → HasRead bs t → counts_fault t.image_pages t.pages ≡ None →
    HasRead (bs ++ b ∷ []) (record t { numbers_end = place (t.image_pages + 1); end = 4096 * t.pages })
read_info bs b t h read sound =
    let bs' = bs ++ b ∷ [] in
    let size = length-byte bs b in
    let n = kept_count bs b t read (omega arith) (omega arith) in
    let pages = kept_pages bs b t read (omega arith) (omega arith) in
    let none : words bs ≡ 0 = omega arith in
    let none' : words bs' ≡ 0 = omega arith in
    record {
      sound = first_fault-info bs b h ∙ ap (λ m. counts_fault m (all_pages bs)) (sym (read.image_count (omega arith)))
          ∙ ap (counts_fault t.image_pages) (sym (read.page_count (omega arith))) ∙ sound;
      image_count = λ le. n;
      page_count = λ le. pages;
      numbers_end = ap (λ m. place (m + 1)) n ∙ sym (cond-false (ltb (length bs') 4096) 4096 (place (image_pages bs' + 1)) (le-ltb (length bs') 4096 (omega arith)));
      end = λ le. ap (λ m. 4096 * m) pages;
      least = λ le. read.least (omega arith) ∙ ap (least_number bs) none ∙ ap (least_number bs') (sym none');
    }

-- the counts are those of a stream with more bytes
pub counts_info : (bs : List ℕ) (b : ℕ) (t : Taking) → length bs + 1 ≡ 4096 → HasRead bs t → first_fault (bs ++ b ∷ []) ≡ counts_fault t.image_pages t.pages
counts_info bs b t h read =
    first_fault-info bs b h ∙ ap (λ m. counts_fault m (all_pages bs)) (sym (read.image_count (omega arith)))
    ∙ ap (counts_fault t.image_pages) (sym (read.page_count (omega arith)))

-- Bytes after the info page.
pub read_late : (bs more : List ℕ) (t : Taking) (least : ℕ) → 4096 ≤ length bs → HasRead bs t → first_fault (bs ++ more) ≡ None →
    (words (bs ++ more) ≤ image_pages bs → least ≡ least_number (bs ++ more) (words (bs ++ more))) →
    HasRead (bs ++ more) (record t { least = least })
read_late bs more t least h read sound least_is =
    let bs' = bs ++ more in
    let size = length-append bs more in
    let n = image_pages-append bs more (omega arith) in
    let pages = all_pages-append bs more (omega arith) in
    record {
      sound = sound;
      image_count = λ le. read.image_count (omega arith) ∙ sym n;
      page_count = λ le. read.page_count (omega arith) ∙ sym pages;
      numbers_end = late_end bs t read h ∙ ap (λ m. place (m + 1)) (sym n)
          ∙ sym (cond-false (ltb (length bs') 4096) 4096 (place (image_pages bs' + 1)) (le-ltb (length bs') 4096 (omega arith)));
      end = λ le. read.end h ∙ ap (λ m. 4096 * m) (sym pages);
      least = λ le. least_is (omega arith);
    }

-- a byte that ends no word
pub read_within : (bs : List ℕ) (b : ℕ) (t : Taking) → 4096 ≤ length bs → HasRead bs t → first_fault (bs ++ b ∷ []) ≡ None → (length bs + 1) % 8 ≢ 0 → HasRead (bs ++ b ∷ []) t
read_within bs b t h read sound part =
    let same : words (bs ++ b ∷ []) ≡ words bs = omega (arith, length-byte bs b) in
    read_late bs (b ∷ []) t t.least h read sound
    (λ le. read.least (omega arith) ∙ sym (least_number-append bs (b ∷ []) (words bs) (omega arith)) ∙ ap (least_number (bs ++ b ∷ [])) (sym same))

-- a byte that ends a word
pub read_word : (bs : List ℕ) (b v : ℕ) (t : Taking) → 4096 ≤ length bs → HasRead bs t → first_fault (bs ++ b ∷ []) ≡ None → (length bs + 1) % 8 ≡ 0 → v ≡ number (bs ++ b ∷ []) (words bs) →
    HasRead (bs ++ b ∷ []) (record t { least = cond (ltb (words bs) t.image_pages) (v + 1) t.least })
read_word bs b v t h read sound whole v_is =
    let bs' = bs ++ b ∷ [] in
    let one : words bs' ≡ words bs + 1 = omega (arith, length-byte bs b) in
    let n = read.image_count (omega arith) in
    read_late bs (b ∷ []) t (cond (ltb (words bs) t.image_pages) (v + 1) t.least) h read sound
    (λ le. cond-true (ltb (words bs) t.image_pages) (v + 1) t.least (lt-ltb (words bs) t.image_pages (omega arith))
    ∙ ap (λ m. m + 1) v_is ∙ sym (ap (least_number bs') (one ∙ add-one (words bs))))

-- bytes after the words that are tested
pub rest_fault : (bs more : List ℕ) (t : Taking) → AreBounded t → HasTaken bs t → t.numbers_end ≤ t.taken → first_fault (bs ++ more) ≡ extra_fault (bs ++ more)
rest_fault bs more t bounded has behind =
    let h : 4096 ≤ length bs = omega (arith, has.taken, bounded.numbers) in
    first_fault-rest bs more h has.read.sound (omega (arith, late_end bs t has.read h, has.taken))

pub read_rest : (bs more : List ℕ) (t : Taking) → AreBounded t → HasTaken bs t → t.numbers_end ≤ t.taken → length more ≤ t.end - t.taken → HasRead (bs ++ more) t
read_rest bs more t bounded has behind few =
    let h : 4096 ≤ length bs = omega (arith, has.taken, bounded.numbers) in
    let end = has.read.end h in
    let pages = all_pages-append bs more (omega arith) in
    let sound : first_fault (bs ++ more) ≡ None =
    rest_fault bs more t bounded has behind ∙ extra_fault-none (bs ++ more) (omega (arith, length-append bs more, has.taken, bounded.taken)) in
    read_late bs more t t.least h has.read sound (λ le. absurd (omega (arith, length-append bs more, late_end bs t has.read h, has.taken)))

-- what is wrong with a word after the info page that is whole now
pub word_told : (bs : List ℕ) (b v : ℕ) (t : Taking) → 4096 ≤ length bs → Completes bs b v t →
    first_fault (bs ++ b ∷ []) ≡ fault_at (t.taken - 8) (kind_of_word t.image_pages ((t.taken - 8 - 4096) / 8) t.least v)
word_told bs b v t h done =
    let bs' = bs ++ b ∷ [] in
    let last = late_end bs t done.read h in
    let at : place (words bs) ≡ t.taken - 8 = omega (arith, done.taken, done.whole) in
    let j : words bs ≡ (t.taken - 8 - 4096) / 8 = omega (arith, done.taken, done.whole) in
    let n : image_pages bs' ≡ t.image_pages = image_pages-append bs (b ∷ []) (omega arith) ∙ sym (done.read.image_count (omega arith)) in
    let least : least_number bs' (words bs) ≡ t.least =
    least_number-append bs (b ∷ []) (words bs) (omega arith) ∙ sym (done.read.least (omega (arith, done.within, last))) in
    let value : number bs' (words bs) ≡ v = ap (number_at 8 bs') at ∙ sym done.value in
    first_fault-word bs b h done.read.sound (omega (arith, done.within, last)) (omega (arith, done.taken, done.whole))
    ∙ ap₂ fault_at at (ap (λ m. kind_of_word m (words bs) (least_number bs' (words bs)) (number bs' (words bs))) n
    ∙ ap₂ (kind_of_word t.image_pages (words bs)) least value
    ∙ ap (λ k. kind_of_word t.image_pages k t.least v) j)

pub read_done : (bs : List ℕ) (b v : ℕ) (t : Taking) → 4096 ≤ length bs → Completes bs b v t → first_fault (bs ++ b ∷ []) ≡ None →
    HasRead (bs ++ b ∷ []) (record t { least = cond (ltb ((t.taken - 8 - 4096) / 8) t.image_pages) (v + 1) t.least })
read_done bs b v t h done none =
    let at : t.taken - 8 ≡ place (words bs) = omega (arith, done.taken, done.whole) in
    let j : words bs ≡ (t.taken - 8 - 4096) / 8 = omega (arith, done.taken, done.whole) in
    let P : ℕ → Type 0 = λ k. HasRead (bs ++ b ∷ []) (record t { least = cond (ltb k t.image_pages) (v + 1) t.least }) in
    subst P j (read_word bs b v t h done.read none (omega (arith, done.taken, done.whole)) (done.value ∙ ap (number_at 8 (bs ++ b ∷ [])) at))
