-- Laws of the order of the writes, and of the places of the slots that they take.
use Rattle.std.proofs.Common.{◌≡◌, ℕ, ◌+◌, ◌*◌, ◌/◌, ◌%◌, ◌<◌, ◌≤◌, ◌⊎◌, Bool, true, false, ◌||◌, eqb, refl, sym, ◌∙◌, inl, inr, arith}
use Rattle.std.proofs.lemmas.Bool.{or_cases, eq-eqb, eqb-true, false≢true}
use Rattle.plain_machine.specs.Image.{maps_of}
use Rattle.plain_machine.specs.Image.{is_map_write, page_of_write}
use Rattle.image_write.specs.Writing.{taken_after}

pub or_left : (a b : Bool) → a ≡ true → (a || b) ≡ true
or_left true b e = refl
or_left false b e = absurd (false≢true e)

pub or_right : (a b : Bool) → b ≡ true → (a || b) ≡ true
or_right true b e = refl
or_right false b e = e

pub or_none : (a b : Bool) → a ≡ false → b ≡ false → (a || b) ≡ false
or_none true b e f = absurd (false≢true (sym e))
or_none false b e f = f

-- a write of a page of the stream: one more follows, and the map has room
pub record IsPageWrite (pages k : ℕ) : Type 0 where
  pub below : k % 512 < 511
  pub more : k + 1 < pages + maps_of pages

pub page_write : (pages k : ℕ) → k < pages + maps_of pages → is_map_write pages k ≡ false → IsPageWrite pages k
page_write pages k lt isn't =
    let first : k % 512 ≡ 511 → ⊥ = λ e. false≢true (sym isn't ∙ or_left (eqb (k % 512) 511) (eqb (k + 1) (pages + maps_of pages)) (eq-eqb (k % 512) 511 e)) in
    let last : k + 1 ≡ pages + maps_of pages → ⊥ = λ e. false≢true (sym isn't ∙ or_right (eqb (k % 512) 511) (eqb (k + 1) (pages + maps_of pages)) (eq-eqb (k + 1) (pages + maps_of pages) e)) in
    record { below = omega arith; more = omega arith }

-- a write of a map: it is full, or it is the last one
pub map_write : (pages k : ℕ) → is_map_write pages k ≡ true → (k % 512 ≡ 511) ⊎ (k + 1 ≡ pages + maps_of pages)
map_write pages k is = elim (or_cases (eqb (k % 512) 511) (eqb (k + 1) (pages + maps_of pages)) is) [
  | inl e ↦ inl (eqb-true (k % 512) 511 e)
  | inr e ↦ inr (eqb-true (k + 1) (pages + maps_of pages) e)
]

-- the slots that are taken before a page is written, and after
pub taken_before_page : (k : ℕ) → k % 512 < 511 → taken_after k ≡ k + 1
taken_before_page k lt = omega arith

pub taken_after_page : (k : ℕ) → k % 512 < 510 → taken_after (k + 1) ≡ k + 2
taken_after_page k lt = omega arith

pub taken_with_map : (k : ℕ) → k % 512 ≡ 510 → taken_after (k + 1) ≡ k + 3
taken_with_map k e = omega arith

pub page_is_one : (pages k : ℕ) → IsPageWrite pages k → page_of_write k < pages
page_is_one pages k h = let below = h.below in let more = h.more in omega arith

pub next_page : (k : ℕ) → k % 512 < 511 → page_of_write (k + 1) ≡ page_of_write k + 1
next_page k lt = omega arith

pub same_page : (k : ℕ) → k % 512 ≡ 511 → page_of_write (k + 1) ≡ page_of_write k
same_page k e = omega arith

-- the next map's slot is one of the image's
pub map_within : (pages k : ℕ) → k % 512 ≡ 510 → k + 1 < pages + maps_of pages → k + 2 < pages + maps_of pages
map_within pages k e lt = omega arith

-- entries of a full map and of the last one
pub full_entries : (pages k : ℕ) → k % 512 ≡ 511 → k < pages + maps_of pages → 511 + 511 * (k / 512) ≤ pages
full_entries pages k e lt = omega arith

pub last_entries : (pages k : ℕ) → k + 1 ≡ pages + maps_of pages → (k / 512 ≡ pages / 511) × (k % 512 ≡ pages % 511)
last_entries pages k e = (omega arith, omega arith)
