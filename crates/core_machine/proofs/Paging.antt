-- The page of a page frame, by the bytes that the file has for it.
use Rattle.std.proofs.Common.{◌≡◌, ℕ, ◌+◌, ◌-◌, ◌*◌, ◌<◌, ◌≤◌, ◌⊎◌, Bool, true, false, cond, leb, ltb, List, length, get_or, take, drop, Option, None, min, max, refl, sym, ap, ◌∙◌, inl, inr, arith}
use Rattle.std.specs.Prelude.{◌&&◌}
use Rattle.std.proofs.lemmas.Bool.{cases_lt, cond-false, cond-true, le-leb, le-ltb, lt-leb, lt-ltb}
use Rattle.std.proofs.lemmas.List.{get_or-drop, get_or-take, length-drop, length-take-le}
use Rattle.std.proofs.lemmas.List.FromFn.{fill_by_all}
use Rattle.definitions.specs.Bytes.{bytes_at, with_bytes, zero_page}
use Rattle.definitions.proofs.PageBytes.{get_or-with_bytes_above, get_or-with_bytes_below, get_or-with_bytes_within, get_or-zero_page, length-with_bytes, length-zero_page}
use Rattle.core_machine.specs.Faults.{wanted}
use Rattle.core_machine.specs.Pages.{byte_at, from_address, has_bytes, page_end, page_fault, page_of, reached, to_address}
use Rattle.core_machine.specs.declared.segments.segment.Segment.{Segment}

-- the byte at an address that the file has it for, and at one that it hasn't

byte_there : (bytes : List ℕ) (s : Segment) (a : ℕ) → s.address ≤ a → a < s.address + s.file_size → byte_at bytes s a ≡ get_or bytes (s.offset + (a - s.address)) 0
byte_there bytes s a low high =
    let x = get_or bytes (s.offset + (a - s.address)) 0 in
    ap (λ (b : Bool). cond (b && ltb a (s.address + s.file_size)) x 0) (le-leb s.address a low)
    ∙ ap (λ (b : Bool). cond b x 0) (lt-ltb a (s.address + s.file_size) high)

both_false : (b c : Bool) (x : ℕ) → c ≡ false → cond (b && c) x 0 ≡ 0
both_false true c x e = ap (λ (d : Bool). cond d x 0) e
both_false false c x e = refl

byte_below : (bytes : List ℕ) (s : Segment) (a : ℕ) → a < s.address → byte_at bytes s a ≡ 0
byte_below bytes s a low =
    ap (λ (b : Bool). cond (b && ltb a (s.address + s.file_size)) (get_or bytes (s.offset + (a - s.address)) 0) 0) (lt-leb s.address a low)

byte_above : (bytes : List ℕ) (s : Segment) (a : ℕ) → s.address + s.file_size ≤ a → byte_at bytes s a ≡ 0
byte_above bytes s a high =
    both_false (leb s.address a) (ltb a (s.address + s.file_size)) (get_or bytes (s.offset + (a - s.address)) 0) (le-ltb a (s.address + s.file_size) high)

byte_missing : (bytes : List ℕ) (s : Segment) (a : ℕ) → (a < s.address) ⊎ (s.address + s.file_size ≤ a) → byte_at bytes s a ≡ 0
byte_missing bytes s a (inl low) = byte_below bytes s a low
byte_missing bytes s a (inr high) = byte_above bytes s a high

-- no byte of the page is in the file
pub no_bytes : (bytes : List ℕ) (s : Segment) (p : ℕ) → to_address s p ≤ from_address s p → zero_page ≡ page_of bytes s p
unfolding page_of
no_bytes bytes s p none =
    fill_by_all (λ k. byte_at bytes s (4096 * p + k)) zero_page 4096 0 length-zero_page
    (λ k lt. get_or-zero_page k lt ∙ sym (elim (cases_lt (4096 * p + k) s.address) [
      | inl low ↦ byte_below bytes s (4096 * p + k) low
      | inr ge ↦ byte_above bytes s (4096 * p + k) (omega (arith, none, lt, ge))
    ]))

-- these bytes of the page are in the file
pub some_bytes : (bytes : List ℕ) (s : Segment) (p start offset from to : ℕ) → start ≡ 4096 * p → from ≡ from_address s p → to ≡ to_address s p → from < to →
    offset ≡ s.offset + (from - s.address) → offset + (to - from) ≤ length bytes →
    with_bytes zero_page (from - start) (bytes_at (to - from) bytes offset) ≡ page_of bytes s p
unfolding page_of
some_bytes bytes s p start offset from to start_is from_is to_is some offset_is whole =
    let part = bytes_at (to - from) bytes offset in
    let size : length part ≡ to - from = length-take-le (to - from) (drop offset bytes) (omega (arith, length-drop offset bytes, whole)) in
    let zeros : length zero_page ≡ 4096 = length-zero_page in
    let within : from - start + length part ≤ length zero_page = omega (arith, size, zeros, start_is, from_is, to_is, some) in
    fill_by_all (λ k. byte_at bytes s (4096 * p + k)) (with_bytes zero_page (from - start) part) 4096 0 (length-with_bytes zero_page (from - start) part within ∙ zeros)
    (λ k lt. elim (cases_lt k (from - start)) [
      | inl below ↦
          get_or-with_bytes_below zero_page (from - start) part k 0 within below ∙ get_or-zero_page k lt
          ∙ sym (byte_below bytes s (4096 * p + k) (omega (arith, below, start_is, from_is)))
      | inr ge ↦ elim (cases_lt k (to - start)) [
        | inl inside ↦
            let i = k - (from - start) in
            let less : i < to - from = omega (arith, ge, inside, some, start_is, from_is) in
            let at : from - start + i ≡ k = omega (arith, ge) in
            let place : offset + i ≡ s.offset + (4096 * p + k - s.address) = omega (arith, offset_is, ge, start_is, from_is) in
            ap (λ (n : ℕ). get_or (with_bytes zero_page (from - start) part) n 0) (sym at)
            ∙ get_or-with_bytes_within zero_page (from - start) part i 0 within (omega (arith, less, size))
            ∙ get_or-take (to - from) (drop offset bytes) i 0 less
            ∙ get_or-drop offset bytes i 0
            ∙ ap (λ (n : ℕ). get_or bytes n 0) place
            ∙ sym (byte_there bytes s (4096 * p + k) (omega (arith, ge, start_is, from_is)) (omega (arith, inside, start_is, to_is)))
        | inr above ↦
            get_or-with_bytes_above zero_page (from - start) part k 0 within (omega (arith, above, size, some, start_is, from_is))
            ∙ get_or-zero_page k lt
            ∙ sym (byte_above bytes s (4096 * p + k) (omega (arith, above, lt, some, start_is, from_is, to_is)))
      ]
    ])

-- what is wanted for a page

pub fault_none : (bytes : List ℕ) (s : Segment) (p : ℕ) → to_address s p ≤ from_address s p → page_fault bytes s p ≡ None
fault_none bytes s p none = cond-false (has_bytes s p) (wanted bytes (page_end s p)) None (le-ltb (from_address s p) (to_address s p) none)

pub fault_some : (bytes : List ℕ) (s : Segment) (p : ℕ) → from_address s p < to_address s p → page_fault bytes s p ≡ wanted bytes (page_end s p)
fault_some bytes s p some = cond-true (has_bytes s p) (wanted bytes (page_end s p)) None (lt-ltb (from_address s p) (to_address s p) some)

pub reached_none : (place : ℕ) (s : Segment) (p : ℕ) → to_address s p ≤ from_address s p → reached place s p ≡ place
reached_none place s p none = cond-false (has_bytes s p) (page_end s p) place (le-ltb (from_address s p) (to_address s p) none)

pub reached_some : (place : ℕ) (s : Segment) (p : ℕ) → from_address s p < to_address s p → reached place s p ≡ page_end s p
reached_some place s p some = cond-true (has_bytes s p) (page_end s p) place (lt-ltb (from_address s p) (to_address s p) some)
