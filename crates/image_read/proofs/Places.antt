-- The places of a chain.
use Rattle.std.proofs.Common.{◌≡◌, ℕ, ◌+◌, ◌-◌, ◌/◌, ◌%◌, ◌<◌, ◌≤◌, max, eqb, ap, ◌∙◌, arith}
use Rattle.std.proofs.lemmas.Bool.{cond-true, cond-false, eq-eqb, ne_eqb}
use Rattle.plain_machine.specs.Trace.{map_at, page_at, place, place_count}
use Rattle.image_read.specs.Stream.{pages_read}

-- a map's place
pub at_map : (t : ℕ) → t % 512 ≡ 0 → place t ≡ map_at (t / 512)
at_map t h = cond-true (eqb (t % 512) 0) (map_at (t / 512)) (page_at (t - t / 512 - 1)) (eq-eqb (t % 512) 0 h)

pub read_at_map : (t : ℕ) → t % 512 ≡ 0 → pages_read (t + 1) ≡ pages_read t
read_at_map t h = omega arith

-- the place of a page
pub at_page : (t : ℕ) → (t % 512 ≡ 0 → ⊥) → place t ≡ page_at (pages_read t)
at_page t h =
    let is : t - t / 512 - 1 ≡ pages_read t = omega arith in
    cond-false (eqb (t % 512) 0) (map_at (t / 512)) (page_at (t - t / 512 - 1)) (ne_eqb (t % 512) 0 h) ∙ ap page_at is

pub read_at_page : (t : ℕ) → (t % 512 ≡ 0 → ⊥) → pages_read (t + 1) ≡ pages_read t + 1
read_at_page t h = omega arith

-- in which map a page stands, and as which entry
pub map_of_page : (t : ℕ) → (t % 512 ≡ 0 → ⊥) → pages_read t / 511 ≡ t / 512
map_of_page t h = omega arith

pub entry_of_page : (t : ℕ) → (t % 512 ≡ 0 → ⊥) → pages_read t % 511 ≡ t % 512 - 1
entry_of_page t h = omega arith

-- the next map
pub next_map : (t : ℕ) → (t + 1) % 512 ≡ 0 → (t + 1) / 512 ≡ t / 512 + 1
next_map t h = omega arith

pub same_map : (t : ℕ) → ((t + 1) % 512 ≡ 0 → ⊥) → (t + 1) / 512 ≡ t / 512
same_map t h = omega arith

-- the pages read are some from the third place on
pub none_read : (t : ℕ) → t < 2 → pages_read t ≡ 0
none_read t h = omega arith

pub some_read : (t : ℕ) → 2 ≤ t → 1 ≤ pages_read t
some_read t h = omega arith

pub info_place : (t : ℕ) → (t % 512 ≡ 0 → ⊥) → pages_read t ≡ 0 → t ≡ 1
info_place t h e = omega arith

-- fewer places than there are: fewer pages
pub pages_left : (t pages : ℕ) → (t % 512 ≡ 0 → ⊥) → t < place_count pages → pages_read t < max pages 1
pages_left t pages h lt = omega arith

pub two_places : (pages : ℕ) → 2 ≤ place_count pages
two_places pages = omega arith
