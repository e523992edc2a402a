-- The numbers of an image, page by page.
use Rattle.std.proofs.Common.{◌≡◌, ◌≢◌, ℕ, zero, suc, ◌+◌, ◌*◌, ◌/◌, ◌%◌, ◌-◌, ◌<◌, ◌≤◌, List, Bool, true, false, cond, eqb, min, refl, sym, ap, ◌∙◌, subst, None, Some, Option, Ok, arith}
use Rattle.std.proofs.lemmas.Bool.{cond-true, cond-false, eq-eqb, ne_eqb}
use Rattle.page_core.specs.declared.format.Format.{Format}
use Rattle.definitions.specs.Bytes.{word}
use Rattle.definitions.specs.Disk.{DiskImage}
use Rattle.plain_machine.specs.Chain.{or_else}
use Rattle.plain_machine.specs.Trace.{number_by, is_marked_by}
use Rattle.boot_resume.specs.Listed.{Lists, first_cause}
use Rattle.boot_resume.specs.OnDisk.{content_cause, data_before, end_cause, format_by, has_no_data, listed_cause, mark_in, meta_in, number_before, number_cause, number_fault, number_in, numbers_cause, saved_in, stream_page, word_in}
use Rattle.boot_resume.specs.declared.cause.Cause.{Cause}
use Rattle.boot_resume.specs.declared.machine.Machine.{Machine}
use Rattle.boot_resume.specs.declared.numbers.Tally.{Tally}

or_else-none : {A : Type 0} (a b : Option A) → a ≡ None → or_else a b ≡ b
or_else-none a b is = ap (λ x. or_else x b) is

or_else-some : {A : Type 0} (a b : Option A) (x : A) → a ≡ Some x → or_else a b ≡ Some x
or_else-some a b x is = ap (λ y. or_else y b) is

-- the first cause among one number more, and among all numbers
pub first_cause-more : (m : Machine) (v : DiskImage) (j i : ℕ) → first_cause m v j i ≡ None → number_cause m v (j + i) ≡ None → first_cause m v j (suc i) ≡ None
first_cause-more m v j zero before here =
    let same : j + 0 ≡ j = omega arith in
    ap (λ x. or_else x None) (subst (λ x. number_cause m v x ≡ None) same here)
first_cause-more m v j (suc i) before here =
    let same : j + suc i ≡ j + 1 + i = omega arith in
    let at : number_cause m v (j + 1 + i) ≡ None = subst (λ x. number_cause m v x ≡ None) same here in
    or_none (number_cause m v j) (first_cause m v (j + 1) i) (first_cause m v (j + 1) (suc i)) before
    (λ rest. first_cause-more m v (j + 1) i rest at)
  where
    or_none : (a b c : Option Cause) → or_else a b ≡ None → (b ≡ None → c ≡ None) → or_else a c ≡ None
    or_none None b c is then_none = then_none is
    or_none (Some x) b c is then_none = cc

pub first_cause-at : (m : Machine) (v : DiskImage) (j i count : ℕ) (why : Cause) → first_cause m v j i ≡ None → number_cause m v (j + i) ≡ Some why → i < count → first_cause m v j count ≡ Some why
first_cause-at m v j i zero why before here lt = absurd (omega arith)
first_cause-at m v j zero (suc count) why before here lt =
    let same : j + 0 ≡ j = omega arith in
    or_else-some (number_cause m v j) (first_cause m v (j + 1) count) why (subst (λ x. number_cause m v x ≡ Some why) same here)
first_cause-at m v j (suc i) (suc count) why before here lt =
    let same : j + suc i ≡ j + 1 + i = omega arith in
    let at : number_cause m v (j + 1 + i) ≡ Some why = subst (λ x. number_cause m v x ≡ Some why) same here in
    let less : i < count = omega arith in
    or_at (number_cause m v j) (first_cause m v (j + 1) i) (first_cause m v (j + 1) count) before
    (λ rest. first_cause-at m v (j + 1) i count why rest at less)
  where
    or_at : (a b c : Option Cause) → or_else a b ≡ None → (b ≡ None → c ≡ Some why) → or_else a c ≡ Some why
    or_at None b c is then_some = then_some is
    or_at (Some x) b c is then_some = cc

-- number i of page q
pub word_at_page : (m : Machine) (v : DiskImage) (page : List ℕ) (q i : ℕ) → page ≡ stream_page m v (1 + q) → i < 512 → word page i ≡ word_in m v (512 * q + i)
word_at_page m v page q i is lt =
    let line : (512 * q + i) / 512 ≡ q = omega arith in
    let column : (512 * q + i) % 512 ≡ i = omega arith in
    ap (λ p. word p i) is
    ∙ ap (λ x. word (stream_page m v (1 + x)) i) (sym line)
    ∙ ap (λ x. word (stream_page m v (1 + (512 * q + i) / 512)) x) (sym column)

pub number_at_page : (m : Machine) (v : DiskImage) (format : Format) (page : List ℕ) (q i : ℕ) → format ≡ format_by (mark_in m v).flags → page ≡ stream_page m v (1 + q) → i < 512 → number_by format (word page i) ≡ number_in m v (512 * q + i)
number_at_page m v format page q i same is lt =
    ap (λ x. number_by x (word page i)) same ∙ ap (number_by (format_by (mark_in m v).flags)) (word_at_page m v page q i is lt)

pub mark_at_page : (m : Machine) (v : DiskImage) (format : Format) (page : List ℕ) (q i : ℕ) → format ≡ format_by (mark_in m v).flags → page ≡ stream_page m v (1 + q) → i < 512 → is_marked_by format (word page i) ≡ has_no_data m v (512 * q + i)
mark_at_page m v format page q i same is lt =
    ap (λ x. is_marked_by x (word page i)) same ∙ ap (is_marked_by (format_by (mark_in m v).flags)) (word_at_page m v page q i is lt)

number_before-suc : (m : Machine) (v : DiskImage) (j k : ℕ) → k ≡ suc j → number_before m v k ≡ Some (number_in m v j)
number_before-suc m v j k is = ap (number_before m v) is

module _ (m : Machine) (v : DiskImage) (format : Format) (page : List ℕ) (q : ℕ) (same : format ≡ format_by (mark_in m v).flags) (is : page ≡ stream_page m v (1 + q)) where
  fault_at : (i : ℕ) (last : Option ℕ) → last ≡ number_before m v (512 * q + i) → i < 512 → number_cause m v (512 * q + i) ≡ number_fault m last (number_by format (word page i))
  fault_at i last at lt =
      ap (λ x. number_fault m x (number_in m v (512 * q + i))) (sym at)
      ∙ ap (λ x. number_fault m last x) (sym (number_at_page m v format page q i same is lt))

  -- a number more is listed
  pub lists_more : (i w : ℕ) (tally next : Tally) → i < 512 → w ≡ word page i → Lists m v q i (Ok tally) → number_fault m tally.last (number_by format w) ≡ None → next.last ≡ Some (number_by format w) → next.with_data ≡ cond (is_marked_by format w) tally.with_data (suc tally.with_data) → Lists m v q (i + 1) (Ok next)
  lists_more i w tally next lt at listed sound last data_is =
      let on : i + 1 ≡ suc i = omega arith in
      let behind : 512 * q + (i + 1) ≡ suc (512 * q + i) = omega arith in
      let here : number_cause m v (512 * q + i) ≡ None = fault_at i tally.last listed.1.0 lt ∙ ap (λ x. number_fault m tally.last (number_by format x)) (sym at) ∙ sound in (
        subst (λ x. first_cause m v (512 * q) x ≡ None) (sym on) (first_cause-more m v (512 * q) i listed.0 here),
        (
          last ∙ ap (λ x. Some (number_by format x)) at ∙ ap Some (number_at_page m v format page q i same is lt) ∙ sym (number_before-suc m v (512 * q + i) (512 * q + (i + 1)) behind),
          data_is
              ∙ ap (λ x. cond (is_marked_by format x) tally.with_data (suc tally.with_data)) at
              ∙ ap (λ b. cond b tally.with_data (suc tally.with_data)) (mark_at_page m v format page q i same is lt)
              ∙ ap (λ d. cond (has_no_data m v (512 * q + i)) d (suc d)) listed.1.1
              ∙ ap (data_before m v) (sym behind),
        ),
      )

  -- a number is refused
  pub lists_refused : (i w count : ℕ) (tally : Tally) (why : Cause) → i < 512 → w ≡ word page i → i < count → Lists m v q i (Ok tally) → number_fault m tally.last (number_by format w) ≡ Some why → first_cause m v (512 * q) count ≡ Some why
  lists_refused i w count tally why lt at below listed fault =
      first_cause-at m v (512 * q) i count why listed.0 (fault_at i tally.last listed.1.0 lt ∙ ap (λ x. number_fault m tally.last (number_by format x)) (sym at) ∙ fault) below

pub tallied_le : (b : Bool) (d n : ℕ) → n ≡ cond b d (suc d) → n ≤ d + 1
tallied_le true d n is = omega arith
tallied_le false d n is = omega arith

-- none is listed yet
pub lists_none : (m : Machine) (v : DiskImage) (q : ℕ) (tally : Tally) → tally.last ≡ number_before m v (512 * q) → tally.with_data ≡ data_before m v (512 * q) → Lists m v q 0 (Ok tally)
lists_none m v q tally last data_is =
    let same : 512 * q ≡ 512 * q + 0 = omega arith in
    (refl, (last ∙ ap (number_before m v) same, data_is ∙ ap (data_before m v) same))

-- Number page q.

pub numbers_refused : (m : Machine) (v : DiskImage) (q : ℕ) (why : Cause) → first_cause m v (512 * q) (min 512 (saved_in m v - 512 * q)) ≡ Some why → numbers_cause m v q ≡ Some why
numbers_refused m v q why is = or_else-some (first_cause m v (512 * q) (min 512 (saved_in m v - 512 * q))) _ why is

pub numbers_last : (m : Machine) (v : DiskImage) (q : ℕ) → first_cause m v (512 * q) (min 512 (saved_in m v - 512 * q)) ≡ None → q + 1 ≡ meta_in m v → numbers_cause m v q ≡ or_else (end_cause m v) (listed_cause m v)
numbers_last m v q sound is =
    or_else-none (first_cause m v (512 * q) (min 512 (saved_in m v - 512 * q))) _ sound
    ∙ cond-true (eqb (q + 1) (meta_in m v)) (or_else (end_cause m v) (listed_cause m v)) None (eq-eqb (q + 1) (meta_in m v) is)

pub numbers_more : (m : Machine) (v : DiskImage) (q : ℕ) → first_cause m v (512 * q) (min 512 (saved_in m v - 512 * q)) ≡ None → (q + 1 ≢ meta_in m v) → numbers_cause m v q ≡ None
numbers_more m v q sound not =
    or_else-none (first_cause m v (512 * q) (min 512 (saved_in m v - 512 * q))) _ sound
    ∙ cond-false (eqb (q + 1) (meta_in m v)) (or_else (end_cause m v) (listed_cause m v)) None (ne_eqb (q + 1) (meta_in m v) not)

pub end_refused : (m : Machine) (v : DiskImage) (why : Cause) → end_cause m v ≡ Some why → or_else (end_cause m v) (listed_cause m v) ≡ Some why
end_refused m v why is = or_else-some (end_cause m v) (listed_cause m v) why is

pub end_passed : (m : Machine) (v : DiskImage) → end_cause m v ≡ None → or_else (end_cause m v) (listed_cause m v) ≡ listed_cause m v
end_passed m v is = or_else-none (end_cause m v) (listed_cause m v) is

pub content-numbers : (m : Machine) (v : DiskImage) (k : ℕ) → 0 < k → content_cause m v k ≡ numbers_cause m v (k - 1)
content-numbers m v zero above = absurd (omega arith)
content-numbers m v (suc q) above =
    let same : q ≡ suc q - 1 = omega arith in
    ap (numbers_cause m v) same
