-- A list asks for a command if and only if it spells the command.
use Rattle.std.proofs.Common.{◌≡◌, ◌∙◌, ◌<◌, ◌&&◌, inl, inr, ℕ, Bool, true, false, refl, sym, ap, subst, arith, Option, Some, None, List, [], ◌∷◌, codes, cond, nat_eq, nat_lt}
use Rattle.std.proofs.lemmas.Bool.{ltb-true, lt-ltb}
use Rattle.std.specs.Cmp.Lexicographic.{pointwise}
use Rattle.std.proofs.lemmas.Slice.Eq.{bytes_eq-Decides}
use Rattle.clap.proofs.WalkLemmas.{both}
use Rattle.plain_machine.specs.declared.event.IdentCheck.TheVariants.{Compare, Skip}
use Rattle.command_words.specs.Words.{is_path, plain_number}
use Rattle.command_words.proofs.Forms.{either}
use Rattle.command_words.proofs.Numbers.{number_parts, plain_decimal, printed, some_if}
use Rattle.command_words.specs.MachineSpelled.{IsSpelled, IsValid, Spells}
use Rattle.command_words.specs.MachineWords.{Asked, make, draw, loader, core, from_core, show, differ, check, alone, check_of, command_by, command_of, differ_of, from_core_of, slotted}

abbrev Words : Type 0
Words = List (List ℕ)

as_asked : (x asked : Asked) (words : Words) → x ≡ asked → Spells x words → Spells asked words
as_asked x asked words e h = subst (λ (a : Asked). Spells a words) e h

spells_alone : (x asked : Asked) (name : List ℕ) (words : Words) → alone x words ≡ Some asked → Spells x (name ∷ []) → Spells asked (name ∷ words)
spells_alone x asked name [] e h = as_asked x asked _ (cc) h
spells_alone x asked name (word ∷ words) e h = cc

-- the number of a machine's slots
slots_of : (number : List ℕ) (asked : Asked) → slotted (plain_number 131073 number) ≡ Some asked → Spells asked (codes "from-core" ∷ codes "--slots" ∷ number ∷ [])
slots_of number asked e = go (plain_number 131073 number) refl e
  where
    go : (o : Option ℕ) → plain_number 131073 number ≡ o → slotted o ≡ Some asked → Spells asked (codes "from-core" ∷ codes "--slots" ∷ number ∷ [])
    go None is h = cc
    go (Some n) is h =
        let p = some_if (nat_lt 1 n) (from_core (Some n)) asked h in
        let parts = number_parts 131073 number n is in
        let above : 1 < n = ltb-true _ _ p.0 in
        as_asked (from_core (Some n)) asked _ p.1 ((omega arith, omega (arith, parts.small)), ap (λ (a : List ℕ). codes "from-core" ∷ codes "--slots" ∷ a ∷ []) (printed 131073 number n (omega arith) is))

spells_from_core : (words : Words) (asked : Asked) → from_core_of words ≡ Some asked → Spells asked (codes "from-core" ∷ words)
spells_from_core [] asked e = as_asked (from_core None) asked _ (cc) (tt, refl)
spells_from_core (option ∷ []) asked e = cc
spells_from_core (option ∷ number ∷ []) asked e = go (pointwise nat_eq option (codes "--slots")) refl e
  where
    go : (b : Bool) → pointwise nat_eq option (codes "--slots") ≡ b → cond b (slotted (plain_number 131073 number)) None ≡ Some asked → Spells asked (codes "from-core" ∷ option ∷ number ∷ [])
    go true is h =
        let same : option ≡ codes "--slots" = (bytes_eq-Decides option (codes "--slots")).0 is in
        subst (λ (a : List ℕ). Spells asked (codes "from-core" ∷ a ∷ number ∷ [])) (sym same) (slots_of number asked h)
    go false is h = cc
spells_from_core (option ∷ number ∷ more ∷ words) asked e = cc

spells_differ : (words : Words) (asked : Asked) → differ_of words ≡ Some asked → Spells asked (codes "differ" ∷ words)
spells_differ [] asked e = cc
spells_differ (first ∷ []) asked e = cc
spells_differ (first ∷ second ∷ []) asked e =
    let p = some_if (is_path first && is_path second) (differ first second) asked e in
    as_asked (differ first second) asked _ p.1 (both _ _ p.0, refl)
spells_differ (first ∷ second ∷ more ∷ words) asked e = cc

spells_check : (words : Words) (asked : Asked) → check_of words ≡ Some asked → Spells asked (codes "check" ∷ words)
spells_check [] asked e = cc
spells_check (swap ∷ []) asked e =
    let p = some_if (is_path swap) (check Compare swap) asked e in
    as_asked (check Compare swap) asked _ p.1 (p.0, refl)
spells_check (option ∷ swap ∷ []) asked e =
    let p = some_if (pointwise nat_eq option (codes "--any-kernel") && is_path swap) (check Skip swap) asked e in
    let tests = both (pointwise nat_eq option (codes "--any-kernel")) (is_path swap) p.0 in
    let is : option ≡ codes "--any-kernel" = (bytes_eq-Decides option (codes "--any-kernel")).0 tests.0 in
    as_asked (check Skip swap) asked _ p.1 (tests.1, ap (λ (a : List ℕ). codes "check" ∷ a ∷ swap ∷ []) is)
spells_check (option ∷ swap ∷ more ∷ words) asked e = cc

named : (command known : List ℕ) (words : Words) (asked : Asked) → pointwise nat_eq command known ≡ true → Spells asked (known ∷ words)
    → Spells asked (command ∷ words)
named command known words asked t h = subst (λ (c : List ℕ). Spells asked (c ∷ words)) (sym ((bytes_eq-Decides command known).0 t)) h

spells_command : (command : List ℕ) (words : Words) (asked : Asked) → command_by command words ≡ Some asked → Spells asked (command ∷ words)
spells_command command words asked e =
    elim (either (pointwise nat_eq command (codes "make")) (alone make words) _ asked e) [
      | inl h ↦ named command _ words asked h.0 (spells_alone make asked (codes "make") words h.1 (tt, refl))
      | inr e1 ↦ elim (either (pointwise nat_eq command (codes "draw")) (alone draw words) _ asked e1) [
        | inl h ↦ named command _ words asked h.0 (spells_alone draw asked (codes "draw") words h.1 (tt, refl))
        | inr e2 ↦ elim (either (pointwise nat_eq command (codes "loader")) (alone loader words) _ asked e2) [
          | inl h ↦ named command _ words asked h.0 (spells_alone loader asked (codes "loader") words h.1 (tt, refl))
          | inr e3 ↦ elim (either (pointwise nat_eq command (codes "core")) (alone core words) _ asked e3) [
            | inl h ↦ named command _ words asked h.0 (spells_alone core asked (codes "core") words h.1 (tt, refl))
            | inr e4 ↦ elim (either (pointwise nat_eq command (codes "from-core")) (from_core_of words) _ asked e4) [
              | inl h ↦ named command _ words asked h.0 (spells_from_core words asked h.1)
              | inr e5 ↦ elim (either (pointwise nat_eq command (codes "show")) (alone show words) _ asked e5) [
                | inl h ↦ named command _ words asked h.0 (spells_alone show asked (codes "show") words h.1 (tt, refl))
                | inr e6 ↦ elim (either (pointwise nat_eq command (codes "differ")) (differ_of words) _ asked e6) [
                  | inl h ↦ named command _ words asked h.0 (spells_differ words asked h.1)
                  | inr e7 ↦ elim (either (pointwise nat_eq command (codes "check")) (check_of words) _ asked e7) [
                    | inl h ↦ named command _ words asked h.0 (spells_check words asked h.1)
                    | inr e8 ↦ cc
                  ]
                ]
              ]
            ]
          ]
        ]
      ]
    ]

-- what asks for a command has the program's name, and spells it
pub spells : (words : Words) (asked : Asked) → command_of words ≡ Some asked → (name : List ℕ) × (rest : Words) × (words ≡ name ∷ rest) × Spells asked rest
spells [] asked e = cc
spells (name ∷ []) asked e = cc
spells (name ∷ command ∷ words) asked e = (name, command ∷ words, refl, spells_command command words asked e)

of_same : (words known : Words) (asked : Asked) (name : List ℕ) → words ≡ known → command_of (name ∷ known) ≡ Some asked → command_of (name ∷ words) ≡ Some asked
of_same words known asked name e h = ap (λ (w : Words). command_of (name ∷ w)) e ∙ h

-- and what spells it asks for it
pub asks : (name : List ℕ) (words : Words) (asked : Asked) → IsValid asked → IsSpelled asked words → command_of (name ∷ words) ≡ Some asked
asks name words make valid spelled = of_same words _ _ name spelled refl
asks name words draw valid spelled = of_same words _ _ name spelled refl
asks name words loader valid spelled = of_same words _ _ name spelled refl
asks name words core valid spelled = of_same words _ _ name spelled refl
asks name words (from_core None) valid spelled = of_same words _ _ name spelled refl
asks name words (from_core (Some n)) valid spelled =
    let plain = plain_decimal 131073 n (omega arith) (omega (arith, valid.1)) in
    let above : nat_lt 1 n ≡ true = lt-ltb 1 n (omega (arith, valid.0)) in
    of_same words _ _ name spelled (rw (plain, above) refl)
asks name words show valid spelled = of_same words _ _ name spelled refl
asks name words (differ first second) valid spelled = of_same words _ _ name spelled (rw (valid.0, valid.1) refl)
asks name words (check Compare swap) valid spelled = of_same words _ _ name spelled (rw valid refl)
asks name words (check Skip swap) valid spelled = of_same words _ _ name spelled (rw valid refl)
