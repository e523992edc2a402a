use Rattle.std.proofs.Common.{◌≡◌, ◌∙◌, ◌+◌, ◌<◌, ℕ, List, [], length, set, sym, ap, subst, inl, inr, arith}
use Rattle.std.proofs.lemmas.Bool.{cases_lt}
use Rattle.std.proofs.lemmas.List.{get_or-set_same, get_or-set_other, length-set}
use Rattle.std.specs.List.{Contains}
use Rattle.definitions.specs.Bytes.{filled_page}
use Rattle.definitions.specs.Tables.{frame}
use Rattle.resume_core.proofs.begin.fill_apart.Invariants.{IsFilledTo}
use Rattle.resume_core.proofs.begin.fill_apart.Goals as goal
use Rattle.resume_core.proofs.begin.fill_apart.Goals.{then-not-has, else-not-has}

filled_on : (members : List ℕ) (old now : List (List ℕ)) (p : ℕ) → p < length old → IsFilledTo members old now p → IsFilledTo members old (set now p (filled_page 165)) (p + 1)
filled_on members old now p lt h =
    let size = h.size in
    record {
      filled = λ q below apart. elim (cases_lt q p) [
        | inl before ↦ get_or-set_other now p q (filled_page 165) [] (λ e. omega arith) ∙ h.filled q before apart
        | inr behind ↦
            let at : q ≡ p = omega arith in
            ap (λ (i : ℕ). frame (set now p (filled_page 165)) i) at ∙ get_or-set_same now p (filled_page 165) [] (omega arith)
      ];
      size = length-set now p (filled_page 165) ∙ size;
    }

passed_by : (members : List ℕ) (old now : List (List ℕ)) (p : ℕ) → Contains members p → IsFilledTo members old now p → IsFilledTo members old now (p + 1)
passed_by members old now p member h = record {
  filled = λ q below apart. elim (cases_lt q p) [
    | inl before ↦ h.filled q before apart
    | inr behind ↦
        let at : q ≡ p = omega arith in
        absurd (apart (subst (λ (i : ℕ). Contains members i) (sym at) member))
  ];
  size = h.size;
}

pub loop-p-preserved : goal.loop-p-preserved
loop-p-preserved c =
    let members = c.args.set.now.members in
    let old = c.args.frames.now in
    let p = c.loop-p.p in
    let below = c.loop-p-test.true in
    let here = c.loop-p.invariant in
    let done = λ (now : List (List ℕ)). IsFilledTo members old now (p + 1) in
    elim c.if-not-has.branch [
      | then-not-has w ↦ subst done (sym (w.frames-is ∙ w.fill.ensures)) (filled_on members old c.loop-p.frames p (omega (arith, c.len-p-end.ensures.len, c.loop-p.auto.p-end)) here)
      | else-not-has w ↦ subst done (sym w.frames-is) (passed_by members old c.loop-p.frames p (c.has.ensures.0 w.if-not-has.false) here)
    ]
