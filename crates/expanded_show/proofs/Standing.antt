-- Facts that are printed in a style in which others stand for them.
use Rattle.std.proofs.Common.{◌≡◌, ℕ, List, [], ◌∷◌, ◌++◌, Option, flat_map, refl, sym, ap, subst, ◌∙◌, append-nil, append_assoc}
use Rattle.definitions.specs.Streams.{TakesAll, TakesFront}
use Rattle.image_show.specs.declared.facts.fact.Fact.{Fact}
use Rattle.image_show.specs.Forms.{Puts, PutsFront, Style, Written, kept_after, pieces}
use Rattle.expanded_show.specs.Standing.{over_style, standing, standing_by, topic_of}
use Rattle.expanded_show.specs.declared.topic.Topic.{Topic}

pieces_both : (style : Style) (last : Option Fact) (xs ys : List Fact) → pieces style last (xs ++ ys) ≡ pieces style last xs ++ pieces style (kept_after style last xs) ys
pieces_both style last [] ys = refl
pieces_both style last (x ∷ xs) ys =
    ap (λ (text : List ℕ). style.piece last x ++ text) (pieces_both style (style.kept last x) xs ys)
    ∙ sym (append_assoc (style.piece last x) (pieces style (style.kept last x) xs) (pieces style (kept_after style (style.kept last x) xs) ys))

kept_both : (style : Style) (last : Option Fact) (xs ys : List Fact) → kept_after style last (xs ++ ys) ≡ kept_after style (kept_after style last xs) ys
kept_both style last [] ys = refl
kept_both style last (x ∷ xs) ys = kept_both style (style.kept last x) xs ys

pieces_over : (each : Fact → List Fact) (style : Style) (last : Option Fact) (fs : List Fact) → pieces (over_style each style) last fs ≡ pieces style last (flat_map each fs)
pieces_over each style last [] = refl
pieces_over each style last (f ∷ fs) =
    ap (λ (text : List ℕ). pieces style last (each f) ++ text) (pieces_over each style (kept_after style last (each f)) fs)
    ∙ sym (pieces_both style last (each f) (flat_map each fs))

kept_over : (each : Fact → List Fact) (style : Style) (last : Option Fact) (fs : List Fact) → kept_after (over_style each style) last fs ≡ kept_after style last (flat_map each fs)
kept_over each style last [] = refl
kept_over each style last (f ∷ fs) =
    kept_over each style (kept_after style last (each f)) fs ∙ sym (kept_both style last (each f) (flat_map each fs))

-- what stands for all of the facts is printed

pub puts_all : (each : Fact → List Fact) (style : Style) (fs : List Fact) (old new : Written) → Puts (over_style each style) fs old new → Puts style (flat_map each fs) old new
puts_all each style fs old new p = record {
  text = subst (λ (text : List ℕ). TakesAll text old.taken new.taken) (pieces_over each style old.last fs) p.text;
  last = p.last ∙ kept_over each style old.last fs;
}

pub puts_front : (each : Fact → List Fact) (style : Style) (fs : List Fact) (old new : Written) → PutsFront (over_style each style) fs old new → PutsFront style (flat_map each fs) old new
puts_front each style fs old new p = subst (λ (text : List ℕ). TakesFront text old.taken new.taken) (pieces_over each style old.last fs) p

-- what stands for one fact

pub stands : (header blocks xs : List Fact) (f : Fact) (t : Topic) → topic_of f ≡ t → xs ≡ standing_by header blocks f t → xs ≡ standing header blocks f
stands header blocks xs f t is all = all ∙ ap (standing_by header blocks f) (sym is)

pub puts_one : (each : Fact → List Fact) (style : Style) (f : Fact) (xs : List Fact) (old new : Written) → xs ≡ each f → Puts style xs old new → Puts (over_style each style) (f ∷ []) old new
puts_one each style f xs old new is p =
    let all : Puts style (each f) old new = subst (λ (fs : List Fact). Puts style fs old new) is p in
    record {
      text = subst (λ (text : List ℕ). TakesAll text old.taken new.taken) (sym (append-nil (pieces style old.last (each f)))) all.text;
      last = all.last;
    }

pub front_one : (each : Fact → List Fact) (style : Style) (f : Fact) (xs : List Fact) (old new : Written) → xs ≡ each f → PutsFront style xs old new → PutsFront (over_style each style) (f ∷ []) old new
front_one each style f xs old new is p =
    let all : PutsFront style (each f) old new = subst (λ (fs : List Fact). PutsFront style fs old new) is p in
    subst (λ (text : List ℕ). TakesFront text old.taken new.taken) (sym (append-nil (pieces style old.last (each f)))) all
