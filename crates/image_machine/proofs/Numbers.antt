-- The words of number pages in which nothing is wrong.
use Rattle.std.proofs.Common.{◌≡◌, ℕ, ◌+◌, ◌-◌, ◌*◌, ◌/◌, ◌%◌, ◌<◌, ◌≤◌, ◌&&◌, ◌||◌, inl, inr, zero, suc, Bool, true, false, cond, not, eqb, leb, ltb, List, [], Option, Some, None, sym, ap₂, subst, ◌∙◌, refl, arith}
use Rattle.std.proofs.lemmas.Bool.{cases_lt, cases_eq, cond-true, cond-false, lt-ltb, le-ltb, eq-eqb, ne_eqb, eqb-true, leb-true}
use Rattle.page_core.specs.declared.format.Format.{Format}
use Rattle.page_core.specs.declared.format.Format.TheVariants.{Plain, SkipZeros}
use Rattle.definitions.specs.Bytes.{word}
use Rattle.definitions.specs.Disk.{DiskImage}
use Rattle.definitions.specs.NumberPages.{meta_of, end_value}
use Rattle.plain_machine.specs.Trace.{number_by}
use Rattle.image_walk.specs.declared.limits.Limits.{Limits}
use Rattle.image_check.specs.Info.{counts_in, counts_fault}
use Rattle.image_check.specs.Numbers.{end_fault, frame_of, number_fault, number_findings, order_fault, word_before, word_fault}
use Rattle.image_check.specs.Told.{each_below, list_of}
use Rattle.image_check.specs.declared.finding.Counts.{Counts}
use Rattle.image_check.specs.declared.finding.Finding.{Finding}
use Rattle.image_check.specs.declared.finding.Finding.TheVariants as finding
use Rattle.image_pages.proofs.Findings.{left_none, right_none, no_finding, info_counts}
use Rattle.image_machine.proofs.Chains.{chain_at}
use Rattle.image_machine.proofs.Whole.{IsReadWhole}

-- how many page frames the image has
abbrev pub saved_at : DiskImage → ℕ → ℕ
saved_at v first = (counts_in (chain_at v first 0)).image_pages

-- word j of the number pages
abbrev pub word_at : DiskImage → (first j : ℕ) → ℕ
word_at v first j = word (chain_at v first (1 + j / 512)) (j % 512)

-- The counts.

pub record AreFine (format : Format) (c : Counts) : Type 0 where
  pub some : 0 < c.image_pages
  pub least : meta_of c.image_pages + 1 ≤ c.pages
  pub most : c.pages ≤ c.image_pages + meta_of c.image_pages + 1
  pub plain : format ≡ Plain → c.pages ≡ c.image_pages + meta_of c.image_pages + 1

some_pages : (n : ℕ) → false ≡ eqb n 0 → 0 < n
some_pages zero e = cc
some_pages (suc n) e = omega arith

never_plain : SkipZeros ≡ Plain → ⊥
never_plain e = cc

pub fine_counts : (format : Format) (c : Counts) → counts_fault format c ≡ None → AreFine format c
fine_counts Plain c e = go (eqb c.image_pages 0) (eqb c.pages (c.image_pages + (meta_of c.image_pages + 1))) refl refl e where
  go : (z t : Bool) → z ≡ eqb c.image_pages 0 → t ≡ eqb c.pages (c.image_pages + (meta_of c.image_pages + 1)) → cond (z || not t) (Some (finding.Counts c.image_pages c.pages)) None ≡ None → AreFine Plain c
  go true t none is e = cc
  go false false none is e = cc
  go false true none is e =
      let same = eqb-true c.pages (c.image_pages + (meta_of c.image_pages + 1)) (sym is) in
      record { some = some_pages c.image_pages none; least = omega arith; most = omega arith; plain = λ p. omega arith }
fine_counts SkipZeros c e = go (eqb c.image_pages 0) (leb (meta_of c.image_pages + 1) c.pages) (leb c.pages (c.image_pages + (meta_of c.image_pages + 1))) refl refl refl e where
  go : (z s t : Bool) → z ≡ eqb c.image_pages 0 → s ≡ leb (meta_of c.image_pages + 1) c.pages → t ≡ leb c.pages (c.image_pages + (meta_of c.image_pages + 1)) → cond (z || not (s && t)) (Some (finding.Counts c.image_pages c.pages)) None ≡ None → AreFine SkipZeros c
  go true s t none least most e = cc
  go false false t none least most e = cc
  go false true false none least most e = cc
  go false true true none least most e =
      let low = leb-true (meta_of c.image_pages + 1) c.pages (sym least) in
      let high = leb-true c.pages (c.image_pages + (meta_of c.image_pages + 1)) (sym most) in
      record { some = some_pages c.image_pages none; least = omega arith; most = omega arith; plain = λ p. absurd (never_plain p) }

pub counts_fine : (l : Limits) (format : Format) (v : DiskImage) (first pages : ℕ) → IsReadWhole l format v first pages → AreFine format (counts_in (chain_at v first 0))
counts_fine l format v first pages w =
    fine_counts format (counts_in (chain_at v first 0)) (info_counts format (chain_at v first 0) ((w.clean 0 w.some).info refl))

-- The words.

each_none : (f : ℕ → Option Finding) (n : ℕ) → each_below f n ≡ [] → (i : ℕ) → i < n → f i ≡ None
unfolding each_below
each_none f zero clean i lt = absurd (omega arith)
each_none f (suc n) clean i lt = elim (cases_lt i n) [
  | inl before ↦ each_none f n (left_none (each_below f n) (list_of (f n)) clean) i before
  | inr last ↦
      let at : n ≡ i = omega arith in
      subst (λ (k : ℕ). f k ≡ None) at (no_finding (f n) (right_none (each_below f n) (list_of (f n)) clean))
]

-- word j, after the word before
pub record IsWordClean (format : Format) (v : DiskImage) (first j : ℕ) : Type 0 where
  pub previous : Option ℕ
  pub before : 0 < j → previous ≡ Some (word_at v first (j - 1))
  pub clean : word_fault format (saved_at v first) (1 + j / 512) (j % 512) (word_at v first j) previous ≡ None

page_before : (j : ℕ) → 0 < j → j % 512 ≡ 0 → (1 + j / 512 - 1 ≡ 1 + (j - 1) / 512) × (511 ≡ (j - 1) % 512)
page_before j some begun = (omega arith, omega arith)

same_page : (j : ℕ) → (j % 512 ≡ 0 → ⊥) → (1 + j / 512 ≡ 1 + (j - 1) / 512) × (j % 512 - 1 ≡ (j - 1) % 512)
same_page j more = (omega arith, omega arith)

pub word_clean : (l : Limits) (format : Format) (v : DiskImage) (first pages : ℕ) → IsReadWhole l format v first pages → (j : ℕ) → 1 + j / 512 ≤ meta_of (saved_at v first) → IsWordClean format v first j
word_clean l format v first pages w j le =
    let fine = counts_fine l format v first pages w in
    let least = fine.least in
    let said = w.said in
    let k = 1 + j / 512 in
    let i = j % 512 in
    let c = w.clean k (omega arith) in
    let page = chain_at v first k in
    record {
      previous = word_before c.previous page i;
      before = λ some. elim (cases_eq i 0) [
        | inl begun ↦
            let at = page_before j some begun in
            cond-true (eqb i 0) c.previous (Some (word page (i - 1))) (eq-eqb i 0 begun)
            ∙ c.before (omega arith)
            ∙ ap₂ (λ (p q : ℕ). Some (word (chain_at v first p) q)) at.0 at.1
        | inr more ↦
            let at = same_page j more in
            cond-false (eqb i 0) c.previous (Some (word page (i - 1))) (ne_eqb i 0 more)
            ∙ ap₂ (λ (p q : ℕ). Some (word (chain_at v first p) q)) at.0 at.1
      ];
      clean = each_none (λ x. word_fault format (saved_at v first) k x (word page x) (word_before c.previous page x)) 512 (opened format (saved_at v first) k c.previous page (c.numbers (omega arith) le)) i (omega arith);
    } where
      opened : (format : Format) (n k : ℕ) (previous : Option ℕ) (page : List ℕ) → number_findings format n k previous page ≡ [] → each_below (λ x. word_fault format n k x (word page x) (word_before previous page x)) 512 ≡ []
      opened format n k previous page clean = clean

second : {A : Type 0} (t : Bool) (x : A) (o : Option A) → cond t (Some x) o ≡ None → (t ≡ false) × (o ≡ None)
second true x o e = cc
second false x o e = (refl, e)

pub frame_same : (format : Format) (w : ℕ) → frame_of format w ≡ number_by format w
frame_same Plain w = refl
frame_same SkipZeros w = refl

index_is : (j : ℕ) → 512 * (1 + j / 512 - 1) + j % 512 ≡ j
index_is j = omega arith

-- a number is above the one before
number_above : (format : Format) (n j w before : ℕ) → j < n → word_fault format n (1 + j / 512) (j % 512) w (Some before) ≡ None → leb (number_by format w) (number_by format before) ≡ false
number_above format n j w before lt clean =
    let page = 1 + j / 512 in
    let i = j % 512 in
    let number = number_fault format page i w (Some before) in
    let at = index_is j in
    let fault : number ≡ None =
    sym (cond-true (ltb (512 * (page - 1) + i) n) number (cond (eqb (512 * (page - 1) + i) n) (end_fault page i w) None) (lt-ltb (512 * (page - 1) + i) n (omega arith))) ∙ clean in
    let order = (second (leb 4503599627370496 (frame_of format w)) (finding.Number page i (frame_of format w)) (order_fault format page i w (Some before)) fault).1 in
    ap₂ leb (sym (frame_same format w)) (sym (frame_same format before))
    ∙ (second (leb (frame_of format w) (frame_of format before)) (finding.Order page i (frame_of format w) (frame_of format before)) None order).0

pub numbers_ascend : (l : Limits) (format : Format) (v : DiskImage) (first pages : ℕ) → IsReadWhole l format v first pages → (j : ℕ) → 0 < j → j < saved_at v first → leb (number_by format (word_at v first j)) (number_by format (word_at v first (j - 1))) ≡ false
numbers_ascend l format v first pages w j some lt =
    let c = word_clean l format v first pages w j (omega arith) in
    number_above format (saved_at v first) j (word_at v first j) (word_at v first (j - 1)) lt
    (subst (λ (o : Option ℕ). word_fault format (saved_at v first) (1 + j / 512) (j % 512) (word_at v first j) o ≡ None) (c.before some) c.clean)

end_none : (t : Bool) (x : Finding) → cond t None (Some x) ≡ None → t ≡ true
end_none true x e = refl
end_none false x e = cc

-- the end value follows the last number
pub numbers_end : (l : Limits) (format : Format) (v : DiskImage) (first pages : ℕ) → IsReadWhole l format v first pages → (saved_at v first % 512 ≡ 0 → ⊥) → eqb (word_at v first (saved_at v first)) end_value ≡ true
numbers_end l format v first pages w more =
    let n = saved_at v first in
    let page = 1 + n / 512 in
    let i = n % 512 in
    let x = word_at v first n in
    let c = word_clean l format v first pages w n (omega arith) in
    let at = index_is n in
    let last : Option Finding = cond (eqb (512 * (page - 1) + i) n) (end_fault page i x) None in
    end_none (eqb x end_value) (finding.End page i x)
    (sym (cond-true (eqb (512 * (page - 1) + i) n) (end_fault page i x) None (eq-eqb (512 * (page - 1) + i) n at))
    ∙ sym (cond-false (ltb (512 * (page - 1) + i) n) (number_fault format page i x c.previous) last (le-ltb (512 * (page - 1) + i) n (omega arith)))
    ∙ c.clean)
