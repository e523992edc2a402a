use Rattle.std.proofs.Common.{◌≡◌, ℕ, ◌+◌, ◌-◌, ◌*◌, List, true, false, take, drop, eqb, None, Some, ap, sym, ◌∙◌, arith}
use Rattle.std.proofs.lemmas.Bool.{cond-true, cond-false}
use Rattle.std.specs.List.{list_any}
use Rattle.definitions.specs.Bytes.{bytes_at}
use Rattle.image_check.specs.declared.finding.Finding.TheVariants as finding
use Rattle.image_check.proofs.info.name_fault.Goals as goal

-- the bytes of a name, as the code cuts them out
same_bytes : (page raw : List ℕ) (k : ℕ) → raw ≡ page → list_any (λ b. eqb b 0) (take (k + 65 - k) (drop k raw)) ≡ list_any (λ b. eqb b 0) (bytes_at 65 page k)
same_bytes page raw k e =
    let len : k + 65 - k ≡ 65 = omega arith in
    ap (λ n. list_any (λ b. eqb b 0) (take n (drop k raw))) len ∙ ap (λ (x : List ℕ). list_any (λ b. eqb b 0) (take 65 (drop k x))) e

pub returns-then-has_zero : goal.returns-then-has_zero
returns-then-has_zero c =
    let k = 65 * c.args.name in
    let e : list_any (λ b. eqb b 0) (bytes_at 65 c.args.page.now k) ≡ true = sym (same_bytes c.args.page.now c.as_bytes.result.now k c.as_bytes.ensures.bytes) ∙ sym c.has_zero.ensures ∙ c.if-has_zero.true in
    sym (cond-true (list_any (λ b. eqb b 0) (bytes_at 65 c.args.page.now k)) None (Some (finding.NoEnd c.args.name)) e)

pub returns-else-has_zero : goal.returns-else-has_zero
returns-else-has_zero c =
    let k = 65 * c.args.name in
    let e : list_any (λ b. eqb b 0) (bytes_at 65 c.args.page.now k) ≡ false = sym (same_bytes c.args.page.now c.as_bytes.result.now k c.as_bytes.ensures.bytes) ∙ sym c.has_zero.ensures ∙ c.if-has_zero.false in
    sym (cond-false (list_any (λ b. eqb b 0) (bytes_at 65 c.args.page.now k)) None (Some (finding.NoEnd c.args.name)) e)
