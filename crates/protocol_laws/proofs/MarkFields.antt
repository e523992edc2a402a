-- What a marked header block says.
use Rattle.std.proofs.Common.{◌≡◌, ℕ, ◌<◌, ◌^◌, inl, inr, Bool, true, false, cond, eqb, List, length, sym, ◌∙◌, arith}
use Rattle.std.proofs.lemmas.Bool.{false≢true}
use Rattle.definitions.specs.Bytes.{IsPage, with_bytes, with_number}
use Rattle.definitions.specs.SwapHeader.{image_signature, IsMarked, sig_of, image_of, flags_of, hw_sig_of, last_page_of, marked, marked_flags}
use Rattle.definitions.proofs.Marks.{length-bytes_at, length-marked, get_or-marked_before}
use Rattle.definitions.proofs.PageBytes.{length-with_bytes, length-with_number, bytes_at-same, bytes_at-with_bytes, bytes_at-with_number_apart, number_at-same, number_at-with_number, number_at-with_number_apart}

abbrev signed : List ℕ → List ℕ
signed page = with_bytes (with_bytes page 4076 (sig_of page)) 4086 image_signature

abbrev flagged : List ℕ → ℕ → ℕ → List ℕ
flagged page first flags = with_number 4 (with_number 8 (signed page) 4064 first) 4072 flags

length-inner : (page : List ℕ) → IsPage page → length (with_bytes page 4076 (sig_of page)) ≡ 4096
length-inner page whole = let sig = length-bytes_at 10 page 4086 (omega arith) in length-with_bytes page 4076 (sig_of page) (omega arith) ∙ whole

length-signed : (page : List ℕ) → IsPage page → length (signed page) ≡ 4096
length-signed page whole = let inner = length-inner page whole in length-with_bytes (with_bytes page 4076 (sig_of page)) 4086 image_signature (omega arith) ∙ inner

length-placed : (page : List ℕ) (first : ℕ) → IsPage page → length (with_number 8 (signed page) 4064 first) ≡ 4096
length-placed page first whole = let s = length-signed page whole in length-with_number 8 (signed page) 4064 first (omega arith) ∙ s

length-flagged : (page : List ℕ) (first flags : ℕ) → IsPage page → length (flagged page first flags) ≡ 4096
length-flagged page first flags whole = let t = length-placed page first whole in length-with_number 4 (with_number 8 (signed page) 4064 first) 4072 flags (omega arith) ∙ t

-- the signature
sig_of-flagged : (page : List ℕ) (first flags : ℕ) → IsPage page → sig_of (flagged page first flags) ≡ image_signature
sig_of-flagged page first flags whole =
    let inner = length-inner page whole in
    let s = length-signed page whole in
    let t = length-placed page first whole in
    bytes_at-with_number_apart 10 4 (with_number 8 (signed page) 4064 first) 4072 flags 4086 (omega arith) (inr (omega arith))
    ∙ bytes_at-with_number_apart 10 8 (signed page) 4064 first 4086 (omega arith) (inr (omega arith))
    ∙ bytes_at-with_bytes (with_bytes page 4076 (sig_of page)) 4086 image_signature (omega arith)

sig_of-either : (page : List ℕ) (first flags hw : ℕ) (b : Bool) → IsPage page → sig_of (cond b (flagged page first flags) (with_number 4 (flagged page first flags) 4056 hw)) ≡ image_signature
sig_of-either page first flags hw true whole = sig_of-flagged page first flags whole
sig_of-either page first flags hw false whole =
    let size = length-flagged page first flags whole in
    bytes_at-with_number_apart 10 4 (flagged page first flags) 4056 hw 4086 (omega arith) (inr (omega arith)) ∙ sig_of-flagged page first flags whole

pub marked-is_marked : (page : List ℕ) (first flags hw : ℕ) → IsPage page → IsMarked (marked page first flags hw)
unfolding marked
marked-is_marked page first flags hw whole = sig_of-either page first (marked_flags flags hw) hw (eqb hw 0) whole

-- a block's first map's block and flags
record HasFields (page : List ℕ) (first flags : ℕ) : Type 0 where
  image : image_of page ≡ first
  flags_are : flags_of page ≡ flags

fields-flagged : (page : List ℕ) (first flags : ℕ) → IsPage page → first < 2 ^ 64 → flags < 2 ^ 32 → HasFields (flagged page first flags) first flags
fields-flagged page first flags whole first_fits flags_fits =
    let s = length-signed page whole in
    let t = length-placed page first whole in
    record {
      image = number_at-with_number_apart 8 4 (with_number 8 (signed page) 4064 first) 4072 flags 4064 (omega arith) (inl (omega arith))
          ∙ number_at-with_number 8 (signed page) 4064 first (omega arith) (omega arith);
      flags_are = number_at-with_number 4 (with_number 8 (signed page) 4064 first) 4072 flags (omega arith) (omega arith);
    }

fields-either : (page : List ℕ) (first flags hw : ℕ) (b : Bool) → IsPage page → first < 2 ^ 64 → flags < 2 ^ 32 → HasFields (cond b (flagged page first flags) (with_number 4 (flagged page first flags) 4056 hw)) first flags
fields-either page first flags hw true whole first_fits flags_fits = fields-flagged page first flags whole first_fits flags_fits
fields-either page first flags hw false whole first_fits flags_fits =
    let f = fields-flagged page first flags whole first_fits flags_fits in
    let size = length-flagged page first flags whole in
    record {
      image = number_at-with_number_apart 8 4 (flagged page first flags) 4056 hw 4064 (omega arith) (inr (omega arith)) ∙ f.image;
      flags_are = number_at-with_number_apart 4 4 (flagged page first flags) 4056 hw 4072 (omega arith) (inr (omega arith)) ∙ f.flags_are;
    }

fields-marked : (page : List ℕ) (first flags hw : ℕ) → IsPage page → first < 2 ^ 64 → marked_flags flags hw < 2 ^ 32 → HasFields (marked page first flags hw) first (marked_flags flags hw)
unfolding marked
fields-marked page first flags hw whole first_fits flags_fits = fields-either page first (marked_flags flags hw) hw (eqb hw 0) whole first_fits flags_fits

pub image_of-marked : (page : List ℕ) (first flags hw : ℕ) → IsPage page → first < 2 ^ 64 → marked_flags flags hw < 2 ^ 32 → image_of (marked page first flags hw) ≡ first
image_of-marked page first flags hw whole first_fits flags_fits = (fields-marked page first flags hw whole first_fits flags_fits).image

pub flags_of-marked : (page : List ℕ) (first flags hw : ℕ) → IsPage page → first < 2 ^ 64 → marked_flags flags hw < 2 ^ 32 → flags_of (marked page first flags hw) ≡ marked_flags flags hw
flags_of-marked page first flags hw whole first_fits flags_fits = (fields-marked page first flags hw whole first_fits flags_fits).flags_are

hw_sig-either : (page : List ℕ) (first flags hw : ℕ) (b : Bool) → b ≡ false → IsPage page → hw < 2 ^ 32 → hw_sig_of (cond b (flagged page first flags) (with_number 4 (flagged page first flags) 4056 hw)) ≡ hw
hw_sig-either page first flags hw true e whole fits = absurd (false≢true (sym e))
hw_sig-either page first flags hw false e whole fits = let size = length-flagged page first flags whole in number_at-with_number 4 (flagged page first flags) 4056 hw (omega arith) (omega arith)

pub hw_sig_of-marked : (page : List ℕ) (first flags hw : ℕ) → IsPage page → eqb hw 0 ≡ false → hw < 2 ^ 32 → hw_sig_of (marked page first flags hw) ≡ hw
unfolding marked
hw_sig_of-marked page first flags hw whole some fits = hw_sig-either page first (marked_flags flags hw) hw (eqb hw 0) some whole fits

pub last_page_of-marked : (page : List ℕ) (first flags hw : ℕ) → IsPage page → last_page_of (marked page first flags hw) ≡ last_page_of page
last_page_of-marked page first flags hw whole =
    number_at-same 4 (marked page first flags hw) page 1028
    (bytes_at-same 4 (marked page first flags hw) page 1028 (length-marked page first flags hw whole ∙ sym whole) (λ i le lt. get_or-marked_before page first flags hw i whole (omega arith)))
