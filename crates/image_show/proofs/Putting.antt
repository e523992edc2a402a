-- Facts that are printed one after another, and what a call's outcome leads to.
use Rattle.std.proofs.Common.{◌≡◌, ℕ, ◌+◌, ◌<◌, List, [], ◌∷◌, ◌++◌, length, take, drop, get_or, Option, Result, Ok, Err, OnOk, OnErr, refl, sym, ap, subst, ◌∙◌, append_assoc}
use Rattle.std.proofs.lemmas.List.{take-append-drop, take_more}
use Rattle.definitions.specs.Streams.{TakesAll, TakesFront}
use Rattle.byte_streams.proofs.Taken.{TakesAll-none, TakesAll-both, TakesFront-first, TakesFront-second}
use Rattle.image_show.specs.declared.facts.fact.Fact.{Fact}
use Rattle.image_show.specs.Forms.{kept_after, pieces, Puts, PutsFront, Style, Written}

pieces_both : (style : Style) (last : Option Fact) (xs ys : List Fact) → pieces style last (xs ++ ys) ≡ pieces style last xs ++ pieces style (kept_after style last xs) ys
pieces_both style last [] ys = refl
pieces_both style last (x ∷ xs) ys =
    ap (λ (text : List ℕ). style.piece last x ++ text) (pieces_both style (style.kept last x) xs ys)
    ∙ sym (append_assoc (style.piece last x) (pieces style (style.kept last x) xs) (pieces style (kept_after style (style.kept last x) xs) ys))

kept_both : (style : Style) (last : Option Fact) (xs ys : List Fact) → kept_after style last (xs ++ ys) ≡ kept_after style (kept_after style last xs) ys
kept_both style last [] ys = refl
kept_both style last (x ∷ xs) ys = kept_both style (style.kept last x) xs ys

pub puts_none : (style : Style) (old : Written) → Puts style [] old old
puts_none style old = record { text = TakesAll-none old.taken; last = refl }

pub whole_then : (style : Style) (xs ys : List Fact) (old mid new : Written) → Puts style xs old mid → Puts style ys mid new → Puts style (xs ++ ys) old new
whole_then style xs ys old mid new p q =
    let after : Option Fact = kept_after style old.last xs in
    let then : TakesAll (pieces style after ys) mid.taken new.taken =
    subst (λ (last : Option Fact). TakesAll (pieces style last ys) mid.taken new.taken) p.last q.text in
    record {
      text = subst (λ (text : List ℕ). TakesAll text old.taken new.taken) (sym (pieces_both style old.last xs ys))
          (TakesAll-both (pieces style old.last xs) (pieces style after ys) old.taken mid.taken new.taken p.text then);
      last = q.last ∙ ap (λ (last : Option Fact). kept_after style last ys) p.last ∙ sym (kept_both style old.last xs ys);
    }

pub front_first : (style : Style) (xs ys : List Fact) (old new : Written) → PutsFront style xs old new → PutsFront style (xs ++ ys) old new
front_first style xs ys old new p =
    subst (λ (text : List ℕ). TakesFront text old.taken new.taken) (sym (pieces_both style old.last xs ys))
    (TakesFront-first (pieces style old.last xs) (pieces style (kept_after style old.last xs) ys) old.taken new.taken p)

pub front_then : (style : Style) (xs ys : List Fact) (old mid new : Written) → Puts style xs old mid → PutsFront style ys mid new → PutsFront style (xs ++ ys) old new
front_then style xs ys old mid new p q =
    let after : Option Fact = kept_after style old.last xs in
    let then : TakesFront (pieces style after ys) mid.taken new.taken =
    subst (λ (last : Option Fact). TakesFront (pieces style last ys) mid.taken new.taken) p.last q in
    subst (λ (text : List ℕ). TakesFront text old.taken new.taken) (sym (pieces_both style old.last xs ys))
    (TakesFront-second (pieces style old.last xs) (pieces style after ys) old.taken mid.taken new.taken p.text then)

-- one fact more of a list is printed
pub one_more : (style : Style) (xs : List Fact) (i : ℕ) (d : Fact) (old mid new : Written) → i < length xs → Puts style (take i xs) old mid → Puts style (get_or xs i d ∷ []) mid new → Puts style (take (i + 1) xs) old new
one_more style xs i d old mid new lt all here =
    subst (λ (fs : List Fact). Puts style fs old new) (sym (take_more xs i d lt)) (whole_then style (take i xs) (get_or xs i d ∷ []) old mid new all here)

-- or a prefix of that fact is
pub front_more : (style : Style) (xs : List Fact) (i : ℕ) (d : Fact) (old mid new : Written) → i < length xs → Puts style (take i xs) old mid → PutsFront style (get_or xs i d ∷ []) mid new → PutsFront style xs old new
front_more style xs i d old mid new lt all here =
    let so_far : PutsFront style (take (i + 1) xs) old new =
    subst (λ (fs : List Fact). PutsFront style fs old new) (sym (take_more xs i d lt)) (front_then style (take i xs) (get_or xs i d ∷ []) old mid new all here) in
    subst (λ (fs : List Fact). PutsFront style fs old new) (take-append-drop (i + 1) xs) (front_first style (take (i + 1) xs) (drop (i + 1) xs) old new so_far)

pub on_ok_then : {T E P Q : Type 0} (r : Result T E) → (P → Q) → OnOk r P → OnOk r Q
on_ok_then (Ok x) f p = f p
on_ok_then (Err e) f p = tt

pub on_err_then : {T E P Q : Type 0} (r : Result T E) → (P → Q) → OnErr r P → OnErr r Q
on_err_then (Ok x) f p = tt
on_err_then (Err e) f p = f p

pub on_any_err : {T E P : Type 0} (r : Result T E) → P → OnErr r P
on_any_err (Ok x) p = tt
on_any_err (Err e) p = p
