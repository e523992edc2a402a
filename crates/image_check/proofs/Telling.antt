-- Findings that are told one after another.
use Rattle.std.proofs.Common.{◌≡◌, ◌⊎◌, ℕ, ◌+◌, ◌≤◌, Bool, true, false, List, [], ◌++◌, Option, append-nil, length-append, add-one, sym, ap, subst, ◌∙◌, refl, inl, inr, arith}
use Rattle.std.proofs.lemmas.Grind.{flat_map-append}
use Rattle.std.proofs.lemmas.Bool.{cases_lt}
use Rattle.definitions.specs.Disk.{HasRisen}
use Rattle.definitions.specs.Streams.{TakesAll, TakesFront}
use Rattle.byte_streams.proofs.Taken.{TakesAll-none, TakesAll-both, TakesFront-all, TakesFront-first, TakesFront-second}
use Rattle.image_check.specs.Lines.{line_of, lines_of}
use Rattle.image_check.specs.Told.{Told, Tells, list_of, each_below}
use Rattle.image_check.specs.declared.finding.Finding.{Finding}

pub tells_none : (a : Told) → Tells [] a a
tells_none a = record {
  count = λ le. omega arith;
  front = TakesFront-all [] a.text a.text (TakesAll-none a.text);
  whole = λ f. (f, TakesAll-none a.text);
  stops = λ t. refl;
  cause = λ t. inl t;
  faults = omega arith;
}

-- a failure before or after is one of both
stays : (before then now : ℕ) → before ≤ then → then ≤ now → HasRisen before then → HasRisen before now
stays before then now le more (inl lt) = inl (omega arith)
stays before then now le more (inr last) = elim (cases_lt then now) [ inl lt ↦ inl (omega arith) | inr ge ↦ inr (omega arith) ]

later : (before then now : ℕ) → before ≤ then → HasRisen then now → HasRisen before now
later before then now le (inl lt) = inl (omega arith)
later before then now le (inr last) = inr last

either : (failed : Bool) (before then now : ℕ) → before ≤ then → then ≤ now → (failed ≡ true) ⊎ HasRisen before then → (failed ≡ true) ⊎ HasRisen before now
either failed before then now le more (inl t) = inl t
either failed before then now le more (inr risen) = inr (stays before then now le more risen)

lines-append : (xs ys : List Finding) → lines_of xs ++ lines_of ys ≡ lines_of (xs ++ ys)
lines-append xs ys = sym (flat_map-append line_of xs ys)

-- what is printed of two lists, where a front of the second one is
both_front : (xs ys : List Finding) (a b c : Told) → Tells xs a b → Tells ys b c → TakesFront (lines_of xs ++ lines_of ys) a.text c.text
both_front xs ys a b c p q = elim (state b.failed) [
  | inl t ↦ subst (λ (x : Option (List ℕ)). TakesFront (lines_of xs ++ lines_of ys) a.text x) (sym (q.stops t))
      (TakesFront-first (lines_of xs) (lines_of ys) a.text b.text p.front)
  | inr f ↦ TakesFront-second (lines_of xs) (lines_of ys) a.text b.text c.text (p.whole f).1 q.front
] where
  state : (b : Bool) → (b ≡ true) ⊎ (b ≡ false)
  state true = inl refl
  state false = inr refl

pub tells_then : (xs ys : List Finding) (a b c : Told) → Tells xs a b → Tells ys b c → Tells (xs ++ ys) a c
tells_then xs ys a b c p q = record {
  count = λ le.
      let first = p.count le in
      let then = q.count (omega arith) in
      omega (arith, length-append xs ys);
  front = subst (λ (x : List ℕ). TakesFront x a.text c.text) (lines-append xs ys) (both_front xs ys a b c p q);
  whole = λ f.
      let second = q.whole f in
      let first = p.whole second.0 in (
        first.0,
        subst (λ (x : List ℕ). TakesAll x a.text c.text) (lines-append xs ys)
            (TakesAll-both (lines_of xs) (lines_of ys) a.text b.text c.text first.1 second.1),
      );
  stops = λ t. q.stops (failed_then a b p t) ∙ p.stops t;
  cause = λ t. elim (q.cause t) [
    | inl u ↦ either a.failed a.faults b.faults c.faults p.faults q.faults (p.cause u)
    | inr risen ↦ inr (later a.faults b.faults c.faults p.faults risen)
  ];
  faults = omega (arith, p.faults, q.faults);
} where
  pick : (x y : Bool) → x ≡ true → (y ≡ false → x ≡ false) → y ≡ true
  pick x true t h = refl
  pick x false t h = let g : x ≡ false = h refl in cc

  failed_then : (a b : Told) → Tells xs a b → a.failed ≡ true → b.failed ≡ true
  failed_then a b p t = pick a.failed b.failed t (λ f. (p.whole f).0)

-- findings after which nothing is told
pub tells_only : (xs : List Finding) (a b : Told) → Tells xs a b → Tells (xs ++ []) a b
tells_only xs a b p = subst (λ (x : List Finding). Tells x a b) (sym (append-nil xs)) p

pub each_none : (finding : ℕ → Option Finding) → each_below finding 0 ≡ []
unfolding each_below
each_none finding = refl

pub each_more : (finding : ℕ → Option Finding) (n : ℕ) → each_below finding (n + 1) ≡ each_below finding n ++ list_of (finding n)
unfolding each_below
each_more finding n = ap (each_below finding) (add-one n)

pub tells_more : (finding : ℕ → Option Finding) (n : ℕ) (a b c : Told) → Tells (each_below finding n) a b → Tells (list_of (finding n)) b c → Tells (each_below finding (n + 1)) a c
tells_more finding n a b c p q =
    subst (λ (x : List Finding). Tells x a c) (sym (each_more finding n)) (tells_then (each_below finding n) (list_of (finding n)) a b c p q)

pub tells_start : (finding : ℕ → Option Finding) (a : Told) → Tells (each_below finding 0) a a
tells_start finding a = subst (λ (x : List Finding). Tells x a a) (sym (each_none finding)) (tells_none a)
