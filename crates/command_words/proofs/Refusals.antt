-- What a parse returns, over plain variables and for any program.
use Rattle.std.proofs.Common.{◌≡◌, ◌≤◌, ◌↔◌, true, refl, sym, ap, subst, arith, Option, Some, None, List, [], ◌∷◌, ◌-◌, length, map, drop, take}
use Rattle.std.proofs.lemmas.List.{take_all}
use Rattle.std.specs.Prelude.{Bool, IsTrue}
use Rattle.clap.specs.Words.{App, Text, takes}
use Rattle.command_words.specs.Answer.{IsRefusedBy, SaysWords}
use Rattle.command_words.specs.declared.answer.Unparsed.{Unparsed}
use Rattle.command_words.specs.declared.answer.Unparsed.TheVariants as answer

pub nothing : {A : Type 0} (o : Option A) → ((x : A) → o ≡ Some x → ⊥) → o ≡ None
nothing None h = refl
nothing (Some x) h = absurd (h x refl)

-- no answer to a list that asks for nothing is wrong
pub none_refused : {A : Type 0} (command_of : List Text → Option A) (words : List Text) (why : Unparsed) → command_of words ≡ None → IsRefusedBy command_of words why
none_refused command_of words (answer.Words text) none = none
none_refused command_of words (answer.Help text) none = none
none_refused command_of words answer.NoMemory none = tt

-- what clap says of words that it doesn't take
module _ (app : App) (words : List Text) where
  pub said_refused : {A : Type 0} (command_of : List Text → Option A) (why : Unparsed) → (takes app words ≡ true → why ≡ answer.NoMemory)
      → ((x : A) → command_of words ≡ Some x → takes app words ≡ true) → IsRefusedBy command_of words why
  said_refused command_of (answer.Words text) h taken = nothing (command_of words) (λ x e. let no_memory = h (taken x e) in cc)
  said_refused command_of (answer.Help text) h taken = nothing (command_of words) (λ x e. let no_memory = h (taken x e) in cc)
  said_refused command_of answer.NoMemory h taken = tt

  pub said_words : (line : Text) (why : Unparsed) → (takes app words ≡ true → why ≡ answer.NoMemory) → SaysWords app line words why
  said_words line (answer.Words text) h = λ t. let no_memory = h t in cc
  said_words line (answer.Help text) h = λ t. let no_memory = h t in cc
  said_words line answer.NoMemory h = λ t. tt

-- a list asks for a command if the words after its first one spell the command
module _ {A : Type 0} (command_of : List Text → Option A) (Spells : A → List Text → Type 0)
    (asks : (name : Text) (rest : List Text) (asked : A) → Spells asked rest → command_of (name ∷ rest) ≡ Some asked)
    (spells : (words : List Text) (asked : A) → command_of words ≡ Some asked → (name : Text) × (rest : List Text) × (words ≡ name ∷ rest) × Spells asked rest) where
  spells_rest : (name : Text) (rest : List Text) (asked : A) → command_of (name ∷ rest) ≡ Some asked → Spells asked rest
  spells_rest name rest asked e =
      let p = spells (name ∷ rest) asked e in
      let same : p.1 ≡ rest = ap (drop 1) (sym p.2) in
      subst (λ (w : List Text). Spells asked w) same p.3

  pub by_rest : {W : Type 0} (f : W → Text) (words : List W) (asked : A) (r : Bool) → 1 ≤ length words → (IsTrue r ↔ Spells asked (map f (take (length words - 1) (drop 1 words))))
      → IsTrue r ↔ (command_of (map f words) ≡ Some asked)
  by_rest {W} f [] asked r lt h = absurd (omega arith)
  by_rest {W} f (w ∷ words) asked r lt h =
      let all : take (length (w ∷ words) - 1) words ≡ words = take_all (length (w ∷ words) - 1) words (omega arith) in (
        λ t. let p = subst (λ (rest : List W). Spells asked (map f rest)) all (h.0 t) in asks (f w) (map f words) asked p,
        λ e. h.1 (subst (λ (rest : List W). Spells asked (map f rest)) (sym all) (spells_rest (f w) (map f words) asked e)),
      )
