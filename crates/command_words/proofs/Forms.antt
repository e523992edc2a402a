-- Which words spell a command: a list asks for it if and only if it is one of these.
use Rattle.std.proofs.Common.{◌≡◌, ◌∙◌, ◌<◌, ◌≤◌, ◌^◌, ◌&&◌, ◌⊎◌, inl, inr, ℕ, Bool, true, false, refl, sym, ap, ap₂, subst, arith, Option, Some, None, List, [], ◌∷◌, codes, cond, decimal, option_map, nat_lt, nat_eq}
use Rattle.std.specs.Cmp.Lexicographic.{pointwise}
use Rattle.std.proofs.lemmas.Bool.{ltb-true, lt-ltb}
use Rattle.std.proofs.lemmas.Slice.Eq.{bytes_eq-Decides}
use Rattle.clap.proofs.WalkLemmas.{both}
use Rattle.page_core.specs.declared.format.Format.TheVariants.{Plain, SkipZeros}
use Rattle.plain_machine.specs.declared.event.IdentCheck.TheVariants.{Compare, Skip}
use Rattle.command_words.specs.Words.{Asked, inspect, hibernate, resume, replay, drill, export, import, command_by, command_of, drill_by, drill_of, export_of, hibernate_of, import_of, inspect_of, is_path, over_file, plain_number, replay_of, resume_of, sized, with_option}
use Rattle.command_words.specs.Spelled.{IsSpelled, IsValid, Spells}
use Rattle.command_words.proofs.Numbers.{number_parts, plain_decimal, printed, some_if}

abbrev Words : Type 0
Words = List (List ℕ)

-- ---- what asks for a command spells it

same : (a b : List ℕ) → pointwise nat_eq a b ≡ true → a ≡ b
same a b e = (bytes_eq-Decides a b).0 e

as_asked : (x asked : Asked) (words : Words) → x ≡ asked → Spells x words → Spells asked words
as_asked x asked words e h = subst (λ (a : Asked). Spells a words) e h

option_of : (word option : List ℕ) (o : Option Asked) (asked : Asked) → with_option word option o ≡ Some asked → (word ≡ option) × (o ≡ Some asked)
option_of word option o asked e = go (pointwise nat_eq word option) refl e
  where
    go : (b : Bool) → pointwise nat_eq word option ≡ b → cond b o None ≡ Some asked → (word ≡ option) × (o ≡ Some asked)
    go true t h = (same word option t, h)
    go false t h = cc

number_of : (limit : ℕ) (word : List ℕ) (f : ℕ → Asked) (asked : Asked) → limit ≤ 2 ^ 64 → option_map f (plain_number limit word) ≡ Some asked
    → (n : ℕ) × (word ≡ decimal n) × (n < limit) × (f n ≡ asked)
number_of limit word f asked fits e = go (plain_number limit word) refl e
  where
    go : (o : Option ℕ) → plain_number limit word ≡ o → option_map f o ≡ Some asked → (n : ℕ) × (word ≡ decimal n) × (n < limit) × (f n ≡ asked)
    go None is h = cc
    go (Some n) is h = (n, printed limit word n fits is, (number_parts limit word n is).small, cc)

sized_of : (word swap : List ℕ) (f : ℕ → Asked) (asked : Asked) → sized word swap f ≡ Some asked
    → (n : ℕ) × (word ≡ decimal n) × (n < 2 ^ 64) × (is_path swap ≡ true) × (f n ≡ asked)
sized_of word swap f asked e = go (is_path swap) refl e
  where
    go : (b : Bool) → is_path swap ≡ b → cond b (option_map f (plain_number (2 ^ 64) word)) None ≡ Some asked
        → (n : ℕ) × (word ≡ decimal n) × (n < 2 ^ 64) × (is_path swap ≡ true) × (f n ≡ asked)
    go true t h = let p = number_of (2 ^ 64) word f asked (omega arith) h in (p.0, p.1, p.2, t, p.3)
    go false t h = cc

spells_inspect : (words : Words) (asked : Asked) → inspect_of words ≡ Some asked → Spells asked (codes "inspect" ∷ words)
spells_inspect [] asked e = cc
spells_inspect (swap ∷ []) asked e =
    let p = some_if (is_path swap) (inspect 0 swap) asked e in
    as_asked (inspect 0 swap) asked _ p.1 ((omega arith, p.0), inl (refl, refl))
spells_inspect (option ∷ number ∷ []) asked e = cc
spells_inspect (option ∷ number ∷ swap ∷ []) asked e = go (pointwise nat_eq option (codes "--offset") && is_path swap) refl e
  where
    go : (b : Bool) → (pointwise nat_eq option (codes "--offset") && is_path swap) ≡ b
        → cond b (option_map (λ offset. inspect offset swap) (plain_number (2 ^ 32) number)) None ≡ Some asked
        → Spells asked (codes "inspect" ∷ option ∷ number ∷ swap ∷ [])
    go true t h =
        let tests = both _ _ t in
        let p = number_of (2 ^ 32) number (λ offset. inspect offset swap) asked (omega arith) h in
        as_asked (inspect p.0 swap) asked _ p.3
        ((p.2, tests.1), inr (ap₂ (λ (a b : List ℕ). codes "inspect" ∷ a ∷ b ∷ swap ∷ []) (same option _ tests.0) p.1))
    go false t h = cc
spells_inspect (option ∷ number ∷ swap ∷ more ∷ words) asked e = cc

spells_hibernate : (words : Words) (asked : Asked) → hibernate_of words ≡ Some asked → Spells asked (codes "hibernate" ∷ words)
spells_hibernate [] asked e = cc
spells_hibernate (swap ∷ []) asked e =
    let p = some_if (is_path swap) (hibernate Plain None swap) asked e in
    as_asked (hibernate Plain None swap) asked _ p.1 (p.0, refl)
spells_hibernate (option ∷ swap ∷ []) asked e =
    let p = option_of option (codes "--skip-zeros") (over_file swap (hibernate SkipZeros None swap)) asked e in
    let q = some_if (is_path swap) (hibernate SkipZeros None swap) asked p.1 in
    as_asked (hibernate SkipZeros None swap) asked _ q.1 (q.0, ap (λ (a : List ℕ). codes "hibernate" ∷ a ∷ swap ∷ []) p.0)
spells_hibernate (option ∷ number ∷ swap ∷ []) asked e =
    let f = λ (want : ℕ). hibernate Plain (Some want) swap in
    let p = option_of option (codes "--image-size") (sized number swap f) asked e in
    let q = sized_of number swap f asked p.1 in
    as_asked (hibernate Plain (Some q.0) swap) asked _ q.4 ((q.2, q.3), ap₂ (λ (a b : List ℕ). codes "hibernate" ∷ a ∷ b ∷ swap ∷ []) p.0 q.1)
spells_hibernate (a ∷ b ∷ c ∷ swap ∷ []) asked e = go (pointwise nat_eq a (codes "--skip-zeros")) refl e
  where
    go : (t : Bool) → pointwise nat_eq a (codes "--skip-zeros") ≡ t
        → cond t (with_option b (codes "--image-size") (sized c swap (λ want. hibernate SkipZeros (Some want) swap)))
        (with_option c (codes "--skip-zeros") (with_option a (codes "--image-size") (sized b swap (λ want. hibernate SkipZeros (Some want) swap))))
        ≡ Some asked
        → Spells asked (codes "hibernate" ∷ a ∷ b ∷ c ∷ swap ∷ [])
    go true t h =
        let f = λ (want : ℕ). hibernate SkipZeros (Some want) swap in
        let p = option_of b (codes "--image-size") (sized c swap f) asked h in
        let q = sized_of c swap f asked p.1 in
        as_asked (hibernate SkipZeros (Some q.0) swap) asked _ q.4
        ((q.2, q.3), inl (cc (same a (codes "--skip-zeros") t, p.0, q.1)))
    go false t h =
        let f = λ (want : ℕ). hibernate SkipZeros (Some want) swap in
        let p = option_of c (codes "--skip-zeros") (with_option a (codes "--image-size") (sized b swap f)) asked h in
        let q = option_of a (codes "--image-size") (sized b swap f) asked p.1 in
        let r = sized_of b swap f asked q.1 in
        as_asked (hibernate SkipZeros (Some r.0) swap) asked _ r.4 ((r.2, r.3), inr (cc (p.0, q.0, r.1)))
spells_hibernate (a ∷ b ∷ c ∷ d ∷ more ∷ words) asked e = cc

spells_resume : (words : Words) (asked : Asked) → resume_of words ≡ Some asked → Spells asked (codes "resume" ∷ words)
spells_resume [] asked e = cc
spells_resume (swap ∷ []) asked e =
    let p = some_if (is_path swap) (resume Compare swap) asked e in
    as_asked (resume Compare swap) asked _ p.1 (p.0, refl)
spells_resume (option ∷ swap ∷ []) asked e =
    let p = option_of option (codes "--any-kernel") (over_file swap (resume Skip swap)) asked e in
    let q = some_if (is_path swap) (resume Skip swap) asked p.1 in
    as_asked (resume Skip swap) asked _ q.1 (q.0, ap (λ (a : List ℕ). codes "resume" ∷ a ∷ swap ∷ []) p.0)
spells_resume (option ∷ swap ∷ more ∷ words) asked e = cc

spells_replay : (words : Words) (asked : Asked) → replay_of words ≡ Some asked → Spells asked (codes "replay" ∷ words)
spells_replay [] asked e = as_asked replay asked _ (cc) (tt, refl)
spells_replay (word ∷ words) asked e = cc

spells_drill : (words : Words) (asked : Asked) → drill_of words ≡ Some asked → Spells asked (codes "drill" ∷ words)
spells_drill [] asked e = cc
spells_drill (number ∷ []) asked e = go (plain_number 2001 number) refl e
  where
    go : (o : Option ℕ) → plain_number 2001 number ≡ o → drill_by o ≡ Some asked → Spells asked (codes "drill" ∷ number ∷ [])
    go None is h = cc
    go (Some n) is h =
        let p = some_if (nat_lt 0 n) (drill n) asked h in
        let parts = number_parts 2001 number n is in
        let above : 0 < n = ltb-true _ _ p.0 in
        as_asked (drill n) asked _ p.1 ((omega arith, omega (arith, parts.small)), ap (λ (a : List ℕ). codes "drill" ∷ a ∷ []) (printed 2001 number n (omega arith) is))
spells_drill (number ∷ more ∷ words) asked e = cc

spells_export : (words : Words) (asked : Asked) → export_of words ≡ Some asked → Spells asked (codes "export" ∷ words)
spells_export [] asked e = as_asked export asked _ (cc) (tt, refl)
spells_export (word ∷ words) asked e = cc

spells_import : (words : Words) (asked : Asked) → import_of words ≡ Some asked → Spells asked (codes "import" ∷ words)
spells_import [] asked e = cc
spells_import (swap ∷ []) asked e =
    let p = some_if (is_path swap) (import swap) asked e in
    as_asked (import swap) asked _ p.1 (p.0, refl)
spells_import (swap ∷ more ∷ words) asked e = cc

named : (command known : List ℕ) (words : Words) (asked : Asked) → pointwise nat_eq command known ≡ true → Spells asked (known ∷ words)
    → Spells asked (command ∷ words)
named command known words asked t h = subst (λ (c : List ℕ). Spells asked (c ∷ words)) (sym (same command known t)) h

-- each test of a chain: if it holds this is the result, else that
pub either : {A : Type 0} (b : Bool) (x y : Option A) (asked : A) → cond b x y ≡ Some asked → ((b ≡ true) × (x ≡ Some asked)) ⊎ (y ≡ Some asked)
either true x y asked e = inl (refl, e)
either false x y asked e = inr e

spells_command : (command : List ℕ) (words : Words) (asked : Asked) → command_by command words ≡ Some asked → Spells asked (command ∷ words)
spells_command command words asked e =
    elim (either (pointwise nat_eq command (codes "inspect")) (inspect_of words) _ asked e) [
      | inl h ↦ named command _ words asked h.0 (spells_inspect words asked h.1)
      | inr e1 ↦ elim (either (pointwise nat_eq command (codes "hibernate")) (hibernate_of words) _ asked e1) [
        | inl h ↦ named command _ words asked h.0 (spells_hibernate words asked h.1)
        | inr e2 ↦ elim (either (pointwise nat_eq command (codes "resume")) (resume_of words) _ asked e2) [
          | inl h ↦ named command _ words asked h.0 (spells_resume words asked h.1)
          | inr e3 ↦ elim (either (pointwise nat_eq command (codes "replay")) (replay_of words) _ asked e3) [
            | inl h ↦ named command _ words asked h.0 (spells_replay words asked h.1)
            | inr e4 ↦ elim (either (pointwise nat_eq command (codes "drill")) (drill_of words) _ asked e4) [
              | inl h ↦ named command _ words asked h.0 (spells_drill words asked h.1)
              | inr e5 ↦ elim (either (pointwise nat_eq command (codes "export")) (export_of words) _ asked e5) [
                | inl h ↦ named command _ words asked h.0 (spells_export words asked h.1)
                | inr e6 ↦ elim (either (pointwise nat_eq command (codes "import")) (import_of words) _ asked e6) [
                  | inl h ↦ named command _ words asked h.0 (spells_import words asked h.1)
                  | inr e7 ↦ cc
                ]
              ]
            ]
          ]
        ]
      ]
    ]

-- what asks for a command has the program's name, and spells it
pub spells : (words : Words) (asked : Asked) → command_of words ≡ Some asked → (name : List ℕ) × (rest : Words) × (words ≡ name ∷ rest) × Spells asked rest
spells [] asked e = cc
spells (name ∷ []) asked e = cc
spells (name ∷ command ∷ words) asked e = (name, command ∷ words, refl, spells_command command words asked e)

-- ---- and what spells it asks for it

plain_size : (n : ℕ) → n < 2 ^ 64 → plain_number (2 ^ 64) (decimal n) ≡ Some n
plain_size n small = plain_decimal (2 ^ 64) n (omega arith) small

zero_asked : (name swap : List ℕ) (n : ℕ) → n ≡ 0 → is_path swap ≡ true → command_of (name ∷ codes "inspect" ∷ swap ∷ []) ≡ Some (inspect n swap)
zero_asked name swap n is path = rw path (ap (λ offset. Some (inspect offset swap)) (sym is))

of_same : (words known : Words) (asked : Asked) (name : List ℕ) → words ≡ known → command_of (name ∷ known) ≡ Some asked → command_of (name ∷ words) ≡ Some asked
of_same words known asked name e h = ap (λ (w : Words). command_of (name ∷ w)) e ∙ h

pub asks : (name : List ℕ) (words : Words) (asked : Asked) → IsValid asked → IsSpelled asked words → command_of (name ∷ words) ≡ Some asked
asks name words (inspect n swap) valid spelled = elim spelled [
  | inl h ↦ of_same words _ _ name h.1 (zero_asked name swap n h.0 valid.1)
  | inr h ↦ of_same words _ _ name h (let plain = plain_decimal (2 ^ 32) n (omega arith) valid.0 in rw (valid.1, plain) refl)
]
asks name words (hibernate Plain None swap) valid spelled = of_same words _ _ name spelled (rw valid refl)
asks name words (hibernate SkipZeros None swap) valid spelled = of_same words _ _ name spelled (rw valid refl)
asks name words (hibernate Plain (Some n) swap) valid spelled = of_same words _ _ name spelled (rw (valid.1, plain_size n valid.0) refl)
asks name words (hibernate SkipZeros (Some n) swap) valid spelled = elim spelled [
  | inl h ↦ of_same words _ _ name h (rw (valid.1, plain_size n valid.0) refl)
  | inr h ↦ of_same words _ _ name h (rw (valid.1, plain_size n valid.0) refl)
]
asks name words (resume Compare swap) valid spelled = of_same words _ _ name spelled (rw valid refl)
asks name words (resume Skip swap) valid spelled = of_same words _ _ name spelled (rw valid refl)
asks name words replay valid spelled = of_same words _ _ name spelled refl
asks name words (drill n) valid spelled =
    let plain = plain_decimal 2001 n (omega arith) (omega (arith, valid.1)) in
    let above : nat_lt 0 n ≡ true = lt-ltb 0 n (omega (arith, valid.0)) in
    of_same words _ _ name spelled (rw (plain, above) refl)
asks name words export valid spelled = of_same words _ _ name spelled refl
asks name words (import swap) valid spelled = of_same words _ _ name spelled (rw valid refl)
