-- Counts that aren't refused.
use Rattle.std.proofs.Common.{◌≡◌, ℕ, ◌+◌, ◌<◌, ◌≤◌, ◌==◌, ◌||◌, Bool, true, false, not, ltb, Option, Some, None, refl, inl, inr, arith}
use Rattle.std.proofs.lemmas.Bool.{cases_lt, eqb-true, eq-eqb, lt-ltb}
use Rattle.definitions.specs.NumberPages.{meta_of}
use Rattle.definitions.specs.declared.info.Info.{Info}
use Rattle.definitions.specs.declared.info.Ident.{Ident}
use Rattle.page_core.specs.declared.format.Format.{Format}
use Rattle.page_core.specs.declared.format.Format.TheVariants.{Plain, SkipZeros}
use Rattle.image_format.specs.Counts.{are_bad_counts}
use Rattle.plain_machine.specs.Chain.{or_else}
use Rattle.image_read.specs.Reading.{FitsIn}
use Rattle.image_read.specs.Faults.{info_fault, identity_fault, size_fault, counts_fault}
use Rattle.image_read.specs.declared.cause.Cause.{Cause}
use Rattle.image_read.specs.declared.cause.Cause.TheVariants.{BadCounts}
use Rattle.image_read.proofs.Over.{cond-none}

neither : (a b : Bool) → (a || b) ≡ false → (a ≡ false) × (b ≡ false)
neither true b h = cc
neither false b h = (refl, h)

is_so : (b : Bool) → not b ≡ false → b ≡ true
is_so true h = refl
is_so false h = cc

not_zero : (n : ℕ) → (n == 0) ≡ false → 0 < n
not_zero n h = elim (cases_lt 0 n) [
  | inl lt ↦ lt
  | inr ge ↦ absurd (let zero_is : n ≡ 0 = omega arith in let is = eq-eqb n 0 zero_is in cc)
]

not_below : (a b : ℕ) → ltb a b ≡ false → b ≤ a
not_below a b h = elim (cases_lt a b) [ inl lt ↦ absurd (let is = lt-ltb a b lt in cc) | inr ge ↦ ge ]

-- how many pages there are then
pub record HasPages (format : Format) (n pages : ℕ) : Type 0 where
  pub some : 0 < n
  pub least : meta_of n + 1 ≤ pages
  pub most : pages ≤ n + meta_of n + 1

pub good_counts : (format : Format) (valid n pages : ℕ) → are_bad_counts format valid n pages ≡ false → HasPages format n pages × (n ≤ valid)
good_counts Plain valid n pages h =
    let last = neither ((n == 0) || ltb valid n) (not (pages == n + meta_of n + 1)) h in
    let first = neither (n == 0) (ltb valid n) last.0 in
    let whole = eqb-true pages (n + meta_of n + 1) (is_so (pages == n + meta_of n + 1) last.1) in
    (record { some = not_zero n first.0; least = omega arith; most = omega arith }, not_below valid n first.1)
good_counts SkipZeros valid n pages h =
    let last = neither (((n == 0) || ltb valid n) || ltb pages (meta_of n + 1)) (ltb (n + meta_of n + 1) pages) h in
    let mid = neither ((n == 0) || ltb valid n) (ltb pages (meta_of n + 1)) last.0 in
    let first = neither (n == 0) (ltb valid n) mid.0 in
    (record { some = not_zero n first.0; least = not_below pages (meta_of n + 1) mid.1; most = not_below (n + meta_of n + 1) pages last.1 }, not_below valid n first.1)

pub fits_in : (format : Format) (valid : ℕ) (info : Info) → valid ≤ 65536 → are_bad_counts format valid info.image_pages info.pages ≡ false → FitsIn 65536 info
fits_in format valid info le h =
    let good = good_counts format valid info.image_pages info.pages h in
    let few = good.1 in
    let most = good.0.most in
    let least = good.0.least in
    record { some = good.0.some; few = omega arith; pages = record { some = omega arith; few = omega arith } }

-- an info page that isn't refused

or_none : (a b : Option Cause) → or_else a b ≡ None → (a ≡ None) × (b ≡ None)
or_none None b h = (refl, h)
or_none (Some x) b h = cc

pub info_sound : (own : Option Ident) (valid : ℕ) (format : Format) (info : Info) → info_fault own valid format info ≡ None → are_bad_counts format valid info.image_pages info.pages ≡ false
unfolding info_fault
info_sound own valid format info h =
    let rest = or_none (identity_fault own info) (or_else (size_fault valid info) (counts_fault valid format info)) h in
    let last = or_none (size_fault valid info) (counts_fault valid format info) rest.1 in
    cond-none (are_bad_counts format valid info.image_pages info.pages) (BadCounts info.image_pages info.pages) last.1
