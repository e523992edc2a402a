-- The flags of an image, by their bits and by quotients.
use Rattle.std.proofs.Common.{◌≡◌, ℕ, ◌/◌, ◌%◌, Bool, false, true, cond, eqb, sym, ap, ◌∙◌, arith, inl, inr}
use Rattle.std.proofs.lemmas.Bool.{eqb-false, eqb-true, eq-eqb, ne_eqb, cases_eq}
use Rattle.page_core.specs.declared.format.Format.TheVariants.{Plain, SkipZeros}
use Rattle.plain_machine.specs.Trace.{is_set}
use Rattle.image_check.specs.Checked.{format_of}
use Rattle.image_check.specs.Header.{is_compressed}
use Rattle.image_walk.proofs.Bits as bits

pub uncompressed : (flags : ℕ) → is_compressed flags ≡ false → is_set flags 2 ≡ true
uncompressed flags e =
    let odd : flags / 2 % 2 ≡ 1 = elim (cases_eq (flags / 2 % 2) 1) [ inl is ↦ is | inr isn't ↦ absurd (eqb-false (flags / 2 % 2) 0 e (omega arith)) ] in
    bits.is_set flags 1 (omega arith) ∙ eq-eqb (flags / 2 % 2) 1 odd

pub format_same : (flags : ℕ) → cond (is_set flags 256) SkipZeros Plain ≡ format_of flags
format_same flags = ap (λ (b : Bool). cond b SkipZeros Plain) (bits.is_set flags 8 (omega arith))

-- where a mark's signature counts
pub signature_counts : (flags : ℕ) → is_set flags 8 ≡ true → eqb (flags / 8 % 2) 0 ≡ false
signature_counts flags set =
    let odd = eqb-true (flags / 8 % 2) 1 (sym (bits.is_set flags 3 (omega arith)) ∙ set) in
    ne_eqb (flags / 8 % 2) 0 (λ e. omega arith)
