-- What one more reply adds to a tally.
use Rattle.std.proofs.Common.{◌≡◌, ◌≤◌, ◌++◌, ℕ, ◌+◌, ◌%◌, ◌∷◌, List, [], length, refl, sym, ap, ◌∙◌, arith, suc, length-append, append-nil, subst, Bool, true, false, cond, Option, Some, None}
use Rattle.std.specs.List.{cons_option, count_by, filter_map, sum}
use Rattle.std.proofs.lemmas.List.Elements.{filter_map-append}
use Rattle.std.proofs.lemmas.List.Sums.{count_by-le-length, sum_by-append}
use Rattle.std.proofs.Math.Nat.{mod-add-mod}
use mir.Val.{bool_byte}
use Rattle.plain_machine.specs.declared.reply.Reply.{Reply}
use Rattle.script.specs.Drill.{is_hibernated, is_resumed, tally_of, word_in}
use Rattle.script.specs.declared.tally.Tally.{Tally}

abbrev pub tally : ℕ → ℕ → ℕ → ℕ → ℕ → Tally
tally e h r w s = record { events = e; hibernated = h; resumed = r; words = w; sum = s }

tally_is : {e e' h h' r r' w w' s s' : ℕ} → e ≡ e' → h ≡ h' → r ≡ r' → w ≡ w' → s ≡ s' → tally e h r w s ≡ tally e' h' r' w' s'
tally_is {e} {e'} {h} {h'} {r} {r'} {w} {w'} {s} {s'} a b c d f =
    ap (λ x. tally x h r w s) a ∙ ap (λ x. tally e' x r w s) b ∙ ap (λ x. tally e' h' x w s) c ∙ ap (λ x. tally e' h' r' x s) d ∙ ap (λ x. tally e' h' r' w' x) f

count_one : (p : Reply → Bool) (x : Reply) → count_by p (x ∷ []) ≡ cond (p x) 1 0
count_one p x = omega arith

-- a reply of these kinds that shows no word
pub no_word_more : (rs : List Reply) (x : Reply) (t : Tally) → t ≡ tally_of rs → word_in x ≡ None →
    tally (t.events + 1) (t.hibernated + cond (is_hibernated x) 1 0) (t.resumed + cond (is_resumed x) 1 0) t.words t.sum ≡ tally_of (rs ++ x ∷ [])
unfolding tally_of
no_word_more rs x t is none =
    subst (λ (u : Tally). tally (u.events + 1) (u.hibernated + cond (is_hibernated x) 1 0) (u.resumed + cond (is_resumed x) 1 0) u.words u.sum ≡ tally_of (rs ++ x ∷ [])) (sym is)
    (tally_is (sym (length-append rs (x ∷ []))) (counted is_hibernated) (counted is_resumed) (ap length (sym same)) (ap (λ vs. sum vs % 18446744073709551616) (sym same))) where
      counted : (p : Reply → Bool) → count_by p rs + cond (p x) 1 0 ≡ count_by p (rs ++ x ∷ [])
      counted p = ap (λ n. count_by p rs + n) (sym (count_one p x)) ∙ sym (sum_by-append _ rs (x ∷ []))

      same : filter_map word_in (rs ++ x ∷ []) ≡ filter_map word_in rs
      same = filter_map-append word_in rs (x ∷ []) ∙ ap (λ (o : Option ℕ). filter_map word_in rs ++ filter_map (λ y. y) (o ∷ [])) none ∙ append-nil (filter_map word_in rs)

-- a reply that shows a word
pub word_more : (rs : List Reply) (x : Reply) (v : ℕ) (t : Tally) → t ≡ tally_of rs → word_in x ≡ Some v →
    tally (t.events + 1) (t.hibernated + cond (is_hibernated x) 1 0) (t.resumed + cond (is_resumed x) 1 0) (t.words + 1) ((t.sum + v) % 18446744073709551616) ≡ tally_of (rs ++ x ∷ [])
unfolding tally_of
word_more rs x v t is some =
    subst (λ (u : Tally). tally (u.events + 1) (u.hibernated + cond (is_hibernated x) 1 0) (u.resumed + cond (is_resumed x) 1 0) (u.words + 1) ((u.sum + v) % 18446744073709551616) ≡ tally_of (rs ++ x ∷ [])) (sym is)
    (tally_is (sym (length-append rs (x ∷ []))) (counted is_hibernated) (counted is_resumed) (sym (ap length more ∙ length-append (filter_map word_in rs) (v ∷ [])))
    (mod-add-mod (sum (filter_map word_in rs)) 18446744073709551616 v ∙ ap (λ n. n % 18446744073709551616) (sym (ap sum more ∙ sum_by-append (λ y. y) (filter_map word_in rs) (v ∷ []) ∙ last)))) where
      counted : (p : Reply → Bool) → count_by p rs + cond (p x) 1 0 ≡ count_by p (rs ++ x ∷ [])
      counted p = ap (λ n. count_by p rs + n) (sym (count_one p x)) ∙ sym (sum_by-append _ rs (x ∷ []))

      more : filter_map word_in (rs ++ x ∷ []) ≡ filter_map word_in rs ++ v ∷ []
      more = filter_map-append word_in rs (x ∷ []) ∙ ap (λ (o : Option ℕ). filter_map word_in rs ++ filter_map (λ y. y) (o ∷ [])) some

      last : sum (filter_map word_in rs) + sum (v ∷ []) ≡ sum (filter_map word_in rs) + v
      last = omega arith

few_words : (rs : List Reply) → length (filter_map word_in rs) ≤ length rs
few_words [] = omega arith
few_words (x ∷ rs) = let rest = few_words rs in by_word (word_in x) rest where
  by_word : (o : Option ℕ) → length (filter_map word_in rs) ≤ length rs → length (cons_option o (filter_map word_in rs)) ≤ suc (length rs)
  by_word None rest = omega arith
  by_word (Some v) rest = omega arith

-- a bit is 1 or 0
pub as_bit : (n : ℕ) (b : Bool) → n ≡ bool_byte b → n ≡ cond b 1 0
as_bit n true is = is
as_bit n false is = is

pub at_most_one : (n : ℕ) (b : Bool) → n ≡ bool_byte b → n ≤ 1
at_most_one n true is = omega arith
at_most_one n false is = omega arith

-- there are as many replies as it says, and no more of a kind
pub record IsWithin (n : ℕ) (t : Tally) : Type 0 where
  pub events : t.events ≡ n
  pub hibernated : t.hibernated ≤ n
  pub resumed : t.resumed ≤ n
  pub words : t.words ≤ n

pub within : (rs : List Reply) (t : Tally) → t ≡ tally_of rs → IsWithin (length rs) t
unfolding tally_of
within rs t is = subst (IsWithin (length rs)) (sym is) (record { events = refl; hibernated = count_by-le-length is_hibernated rs; resumed = count_by-le-length is_resumed rs; words = few_words rs })
