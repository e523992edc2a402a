-- Laws of a mark: it lies in bytes 4056 to 4095, and taken back it leaves the block but for bytes 4056 to 4085.
use Rattle.std.proofs.Common.{◌≡◌, ℕ, ◌+◌, ◌-◌, ◌<◌, ◌≤◌, ◌⊎◌, ◌==◌, Bool, true, false, List, length, drop, get_or, cond, refl, sym, ap, ◌∙◌, inl, inr, arith, bit_or}
use Rattle.std.proofs.lemmas.List.{length-take-le, length-drop, get_or-take, get_or-drop, get_or_past}
use Rattle.std.proofs.lemmas.Bool.{cases_lt}
use Rattle.definitions.specs.Bytes.{IsPage, AgreeBut, bytes_at, with_bytes, with_number}
use Rattle.definitions.specs.SwapHeader.{image_signature, sig_of, orig_sig_of, marked, taken_back, marked_flags}
use Rattle.definitions.proofs.PageBytes.{length-with_bytes, length-with_number, bytes_at-with_bytes, bytes_at-with_bytes_apart, bytes_at-with_number_apart, get_or-with_bytes_below, get_or-with_bytes_within, get_or-with_number_apart}

pub length-bytes_at : (n : ℕ) (page : List ℕ) (k : ℕ) → k + n ≤ length page → length (bytes_at n page k) ≡ n
length-bytes_at n page k h = length-take-le n (drop k page) (omega (arith, length-drop k page))

-- the block with the signatures moved
abbrev signed : List ℕ → List ℕ
signed page = with_bytes (with_bytes page 4076 (sig_of page)) 4086 image_signature

-- the block with its numbers set too
abbrev flagged : List ℕ → ℕ → ℕ → List ℕ
flagged page first flags = with_number 4 (with_number 8 (signed page) 4064 first) 4072 flags

length-signed : (page : List ℕ) → IsPage page → length (signed page) ≡ 4096
length-signed page whole =
    let sig = length-bytes_at 10 page 4086 (omega arith) in
    let inner : length (with_bytes page 4076 (sig_of page)) ≡ 4096 = length-with_bytes page 4076 (sig_of page) (omega arith) ∙ whole in
    length-with_bytes (with_bytes page 4076 (sig_of page)) 4086 image_signature (omega arith) ∙ inner

length-flagged : (page : List ℕ) (first flags : ℕ) → IsPage page → length (flagged page first flags) ≡ 4096
length-flagged page first flags whole =
    let s = length-signed page whole in
    let t : length (with_number 8 (signed page) 4064 first) ≡ 4096 = length-with_number 8 (signed page) 4064 first (omega arith) ∙ s in
    length-with_number 4 (with_number 8 (signed page) 4064 first) 4072 flags (omega arith) ∙ t

-- a byte before the mark's fields stays
get_or-signed : (page : List ℕ) (i : ℕ) → IsPage page → i < 4076 → get_or (signed page) i 0 ≡ get_or page i 0
get_or-signed page i whole lt =
    let sig = length-bytes_at 10 page 4086 (omega arith) in
    let inner : length (with_bytes page 4076 (sig_of page)) ≡ 4096 = length-with_bytes page 4076 (sig_of page) (omega arith) ∙ whole in
    get_or-with_bytes_below (with_bytes page 4076 (sig_of page)) 4086 image_signature i 0 (omega arith) (omega arith)
    ∙ get_or-with_bytes_below page 4076 (sig_of page) i 0 (omega arith) lt

get_or-flagged : (page : List ℕ) (first flags i : ℕ) → IsPage page → i < 4064 → get_or (flagged page first flags) i 0 ≡ get_or page i 0
get_or-flagged page first flags i whole lt =
    let s = length-signed page whole in
    let t : length (with_number 8 (signed page) 4064 first) ≡ 4096 = length-with_number 8 (signed page) 4064 first (omega arith) ∙ s in
    get_or-with_number_apart 4 (with_number 8 (signed page) 4064 first) 4072 flags i (omega arith) (inl (omega arith))
    ∙ get_or-with_number_apart 8 (signed page) 4064 first i (omega arith) (inl lt) ∙ get_or-signed page i whole (omega arith)

-- the original signature is the one from before the mark
orig_sig-signed : (page : List ℕ) → IsPage page → orig_sig_of (signed page) ≡ sig_of page
orig_sig-signed page whole =
    let sig = length-bytes_at 10 page 4086 (omega arith) in
    let inner : length (with_bytes page 4076 (sig_of page)) ≡ 4096 = length-with_bytes page 4076 (sig_of page) (omega arith) ∙ whole in
    bytes_at-with_bytes_apart 10 (with_bytes page 4076 (sig_of page)) 4086 image_signature 4076 (omega arith) (inl (omega arith))
    ∙ ap (λ (n : ℕ). bytes_at n (with_bytes page 4076 (sig_of page)) 4076) (sym sig)
    ∙ bytes_at-with_bytes page 4076 (sig_of page) (omega arith)

orig_sig-flagged : (page : List ℕ) (first flags : ℕ) → IsPage page → orig_sig_of (flagged page first flags) ≡ sig_of page
orig_sig-flagged page first flags whole =
    let s = length-signed page whole in
    let t : length (with_number 8 (signed page) 4064 first) ≡ 4096 = length-with_number 8 (signed page) 4064 first (omega arith) ∙ s in
    bytes_at-with_number_apart 10 4 (with_number 8 (signed page) 4064 first) 4072 flags 4076 (omega arith) (inr (omega arith))
    ∙ bytes_at-with_number_apart 10 8 (signed page) 4064 first 4076 (omega arith) (inr (omega arith)) ∙ orig_sig-signed page whole

-- What a mark is, whether the machine has a signature or not: a page of the same length, with the same bytes before the
-- mark's fields, whose original signature is the page's.
record IsMarkOf (page mark : List ℕ) : Type 0 where
  whole : length mark ≡ 4096
  before : (i : ℕ) → i < 4056 → get_or mark i 0 ≡ get_or page i 0
  original : orig_sig_of mark ≡ sig_of page

mark_of_flagged : (page : List ℕ) (first flags hw : ℕ) → IsPage page → (b : Bool) → IsMarkOf page (cond b (flagged page first flags) (with_number 4 (flagged page first flags) 4056 hw))
mark_of_flagged page first flags hw whole true = record {
  whole = length-flagged page first flags whole;
  before = λ i lt. get_or-flagged page first flags i whole (omega arith);
  original = orig_sig-flagged page first flags whole;
}
mark_of_flagged page first flags hw whole false =
    let f = length-flagged page first flags whole in
    record {
      whole = length-with_number 4 (flagged page first flags) 4056 hw (omega arith) ∙ f;
      before = λ i lt. get_or-with_number_apart 4 (flagged page first flags) 4056 hw i (omega arith) (inl lt) ∙ get_or-flagged page first flags i whole (omega arith);
      original = bytes_at-with_number_apart 10 4 (flagged page first flags) 4056 hw 4076 (omega arith) (inr (omega arith)) ∙ orig_sig-flagged page first flags whole;
    }

IsMarkOf-marked : (page : List ℕ) (first flags hw : ℕ) → IsPage page → IsMarkOf page (marked page first flags hw)
unfolding marked
IsMarkOf-marked page first flags hw whole = mark_of_flagged page first (marked_flags flags hw) hw whole (hw == 0)

-- the byte of a signature that is put back
get_or-put_back_within : (page mark sig : List ℕ) (j : ℕ) → length page ≡ 4096 → length mark ≡ 4096 → sig ≡ bytes_at 10 page 4086 → length sig ≡ 10 → j < 10 → get_or (with_bytes mark 4086 sig) (4086 + j) 0 ≡ get_or page (4086 + j) 0
get_or-put_back_within page mark sig j whole whole' e size lt =
    get_or-with_bytes_within mark 4086 sig j 0 (omega arith) (omega arith) ∙ ap (λ (xs : List ℕ). get_or xs j 0) e
    ∙ get_or-take 10 (drop 4086 page) j 0 lt ∙ get_or-drop 4086 page j 0

get_or-put_back : (page mark sig : List ℕ) (i : ℕ) → length page ≡ 4096 → length mark ≡ 4096 → sig ≡ bytes_at 10 page 4086 → length sig ≡ 10 → 4086 ≤ i → (i < 4096) ⊎ (4096 ≤ i) → get_or (with_bytes mark 4086 sig) i 0 ≡ get_or page i 0
get_or-put_back page mark sig i whole whole' e size le (inl lt) =
    let at : 4086 + (i - 4086) ≡ i = omega arith in
    ap (λ (k : ℕ). get_or (with_bytes mark 4086 sig) k 0) (sym at)
    ∙ get_or-put_back_within page mark sig (i - 4086) whole whole' e size (omega arith)
    ∙ ap (λ (k : ℕ). get_or page k 0) at
get_or-put_back page mark sig i whole whole' e size le (inr past) =
    get_or_past (with_bytes mark 4086 sig) i 0 (omega (arith, length-with_bytes mark 4086 sig (omega arith)))
    ∙ sym (get_or_past page i 0 (omega arith))

-- a marked block taken back is the block before the mark but for bytes 4056 to 4085
pub taken_back-marked : (page : List ℕ) (first flags hw : ℕ) → IsPage page → AgreeBut 4056 4086 (taken_back (marked page first flags hw)) page
unfolding taken_back
taken_back-marked page first flags hw whole =
    let m = IsMarkOf-marked page first flags hw whole in
    let mark = marked page first flags hw in
    let sig : length (orig_sig_of mark) ≡ 10 = length-bytes_at 10 mark 4076 (omega (arith, m.whole)) in
    record {
      size = length-with_bytes mark 4086 (orig_sig_of mark) (omega (arith, m.whole)) ∙ m.whole ∙ sym whole;
      before = λ i lt. get_or-with_bytes_below mark 4086 (orig_sig_of mark) i 0 (omega (arith, m.whole)) (omega arith) ∙ m.before i lt;
      after = λ i le. get_or-put_back page mark (orig_sig_of mark) i whole m.whole m.original sig le (cases_lt i 4096);
    }

-- the other sectors of the block are as before the mark
pub get_or-marked_before : (page : List ℕ) (first flags hw i : ℕ) → IsPage page → i < 4056 → get_or (marked page first flags hw) i 0 ≡ get_or page i 0
get_or-marked_before page first flags hw i whole lt = (IsMarkOf-marked page first flags hw whole).before i lt

pub length-marked : (page : List ℕ) (first flags hw : ℕ) → IsPage page → IsPage (marked page first flags hw)
length-marked page first flags hw whole = (IsMarkOf-marked page first flags hw whole).whole
