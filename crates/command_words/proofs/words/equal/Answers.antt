use Rattle.std.proofs.Common.{◌≡◌, ◌≢◌, ◌∙◌, ◌≤◌, ℕ, Bool, true, false, not, true≢false, rules, arith, ap, refl, sym, suc, subst, string_bytes, List, [], ◌∷◌, ◌++◌, length, map, take}
use Rattle.std.specs.Str.{bytes_eq}
use Rattle.std.proofs.lemmas.List.{length_push, take_all}
use Rattle.std.proofs.lemmas.Slice.Zip.{zip_turn, zip_end}
use Rattle.std.proofs.lemmas.Slice.Eq.{bytes_eq-Decides}
use Rattle.std.specs.Borrow.{Bor}
use Rattle.command_words.proofs.Walks.{differ, one_more}
use Rattle.command_words.proofs.words.equal.Goals as goal

not_same : (a b c : List ℕ) → a ≡ b → true ≡ not (bytes_eq a c) → b ≢ c
not_same a b c is e same = true≢false (e ∙ ap not ((bytes_eq-Decides a c).1 (is ∙ same)))

same_text : (a b c : List ℕ) → a ≡ b → false ≡ not (bytes_eq a c) → b ≡ c
same_text a b c is e = go (bytes_eq a c) refl e
  where
    go : (t : Bool) → bytes_eq a c ≡ t → false ≡ not t → b ≡ c
    go true t h = sym is ∙ (bytes_eq-Decides a c).0 t
    go false t h = absurd (true≢false (sym h))

pub returns-then-ne : goal.returns-then-ne
returns-then-ne c =
    let t = zip_turn c.args.words.now c.args.texts.now c.loop-word.yielded c.into_iter-word-iterator.result c.loop-word.word-iterator c.next.new.self c.next.result
    (search rules) (search rules) c.loop-word.yielded_by (c.in-Some.word, c.in-Some.text) c.in-Some.is c.next.ensures.steps in
    let ne = not_same c.as_str.result.now (string_bytes c.in-Some.word.now) c.in-Some.text.now.now c.as_str.ensures.value c.if-ne.ensures in
    (λ none. absurd (true≢false (sym none)), λ e. absurd (differ string_bytes (λ (text : Bor (List ℕ)). text.now) c.args.words.now c.args.texts.now (length c.loop-word.yielded) c.in-Some.word.now c.in-Some.text.now t.0 t.1 t.2 t.3 ne e))

pub loop-word-preserved : goal.loop-word-preserved
loop-word-preserved c =
    let t = zip_turn c.args.words.now c.args.texts.now c.loop-word.yielded c.into_iter-word-iterator.result c.loop-word.word-iterator c.next.new.self c.next.result
    (search rules) (search rules) c.loop-word.yielded_by (c.in-Some.word, c.in-Some.text) c.in-Some.is c.next.ensures.steps in
    let same = same_text c.as_str.result.now (string_bytes c.in-Some.word.now) c.in-Some.text.now.now c.as_str.ensures.value c.if-ne.ensures in
    let longer = length_push c.loop-word.yielded (c.in-Some.word, c.in-Some.text) in
    let count : suc (length c.loop-word.yielded) ≡ length (c.loop-word.yielded ++ (c.in-Some.word, c.in-Some.text) ∷ []) = omega arith in
    subst (λ (k : ℕ). map string_bytes (take k c.args.words.now) ≡ map (λ (text : Bor (List ℕ)). text.now) (take k c.args.texts.now)) count
    (one_more string_bytes (λ (text : Bor (List ℕ)). text.now) c.args.words.now c.args.texts.now (length c.loop-word.yielded) c.in-Some.word.now c.in-Some.text.now t.0 t.1 t.2 t.3 same c.loop-word.invariant)

pub returns : goal.returns
returns c =
    let t = zip_end c.args.words.now c.args.texts.now c.loop-word.yielded c.into_iter-word-iterator.result c.loop-word.word-iterator c.next.new.self c.next.result
    (search rules) (search rules) c.loop-word.yielded_by c.in-None.is c.next.ensures.steps in
    let all_words : length c.args.words.now ≤ length c.loop-word.yielded = omega (arith, t, c.if-words-texts.false) in
    let all_texts : length c.args.texts.now ≤ length c.loop-word.yielded = omega (arith, t, c.if-words-texts.false) in
    let same = sym (ap (map string_bytes) (take_all (length c.loop-word.yielded) c.args.words.now all_words)) ∙ c.loop-word.invariant
    ∙ ap (map (λ (text : Bor (List ℕ)). text.now)) (take_all (length c.loop-word.yielded) c.args.texts.now all_texts) in
    (λ _. same, λ _. refl)
