-- Clap responds with help or the version to a list that asks for it.
use Rattle.std.proofs.Common.{◌≡◌, ◌≢◌, ◌⊎◌, ◌||◌, inl, inr, Bool, true, false, refl, sym, subst, List, [], ◌∷◌, nat_eq}
use Rattle.std.specs.List.{AllByRecursion}
use Rattle.std.specs.Cmp.Lexicographic.{pointwise}
use Rattle.std.proofs.lemmas.Slice.Eq.{bytes_eq-Decides}
use Rattle.clap.specs.Faults.{fault_of, is_simple_and_free}
use Rattle.clap.specs.Kinds.{HasKind, IsAmong, Kinds}
use Rattle.clap.specs.Values.{kind_of}
use Rattle.clap.specs.Words.{Text}
use Rattle.clap.specs.declared.error.Error.{Error}
use Rattle.clap.specs.declared.error.kind.ErrorKind.{ErrorKind}
use Rattle.clap.specs.declared.error.kind.ErrorKind.TheVariants as kind
use Rattle.clap.proofs.OnLiterals.{clap_on_literals}
use Rattle.clap.proofs.WalkLemmas.{both}
use Rattle.command_words.specs.ImageApp.{image_app}
use Rattle.command_words.specs.ImageHelp.{asks_help, commands, help_flags, is_among, version_flags}
use Rattle.command_words.specs.ImageRefused.{GivesHelp}
use Rattle.command_words.specs.Answer.{IsLine, Tells}
use Rattle.command_words.specs.declared.answer.Unparsed.{Unparsed}
use Rattle.command_words.specs.declared.answer.Unparsed.TheVariants as answer

pub simple_and_free : is_simple_and_free image_app ≡ true
unfolding clap_on_literals
simple_and_free = refl

-- what holds of each of the texts holds of a word that is among them
of_each : (P : Text → Type 0) (texts : List Text) (word : Text) → is_among texts word ≡ true → AllByRecursion P texts → P word
of_each P [] word among each = cc
of_each P (x ∷ xs) word among each = go (pointwise nat_eq word x) refl among (λ t. of_each P xs word t each.1)
  where
    go : (b : Bool) → pointwise nat_eq word x ≡ b → (b || is_among xs word) ≡ true → (is_among xs word ≡ true → P word) → P word
    go true e t rest = subst P (sym ((bytes_eq-Decides word x).0 e)) each.0
    go false e t rest = rest t

module _ (name : Text) where
  help_of_program : AllByRecursion (λ flag. fault_of image_app (name ∷ flag ∷ []) ≡ kind.DisplayHelp ∷ []) help_flags
  unfolding clap_on_literals
  help_of_program = (refl, (refl, tt))

  version_of_program : AllByRecursion (λ flag. fault_of image_app (name ∷ flag ∷ []) ≡ kind.DisplayVersion ∷ []) version_flags
  unfolding clap_on_literals
  version_of_program = (refl, (refl, tt))

  help_of_commands : AllByRecursion (λ command. AllByRecursion (λ flag. fault_of image_app (name ∷ command ∷ flag ∷ []) ≡ kind.DisplayHelp ∷ []) help_flags) commands
  unfolding clap_on_literals
  help_of_commands = ((refl, (refl, tt)), ((refl, (refl, tt)), ((refl, (refl, tt)), ((refl, (refl, tt)), ((refl, (refl, tt)), ((refl, (refl, tt)), ((refl, (refl, tt)), ((refl, (refl, tt)), ((refl, (refl, tt)), tt)))))))))

-- clap's fault is help or the version
abbrev IsRequest : Kinds → Type 0
IsRequest kinds = (kinds ≡ kind.DisplayHelp ∷ []) ⊎ (kinds ≡ kind.DisplayVersion ∷ [])

one_of_two : (a b : Bool) → (a || b) ≡ true → (a ≡ true) ⊎ (b ≡ true)
one_of_two true b e = inl refl
one_of_two false b e = inr e

requests : (words : List Text) → asks_help words ≡ true → IsRequest (fault_of image_app words)
requests [] e = cc
requests (name ∷ []) e = cc
requests (name ∷ flag ∷ []) e = elim (one_of_two (is_among help_flags flag) (is_among version_flags flag) e) [
  | inl h ↦ inl (of_each (λ flag. fault_of image_app (name ∷ flag ∷ []) ≡ kind.DisplayHelp ∷ []) help_flags flag h (help_of_program name))
  | inr h ↦ inr (of_each (λ flag. fault_of image_app (name ∷ flag ∷ []) ≡ kind.DisplayVersion ∷ []) version_flags flag h (version_of_program name))
]
requests (name ∷ command ∷ flag ∷ []) e =
    let tests = both (is_among commands command) (is_among help_flags flag) e in
    let flags = of_each (λ command. AllByRecursion (λ flag. fault_of image_app (name ∷ command ∷ flag ∷ []) ≡ kind.DisplayHelp ∷ []) help_flags)
    commands command tests.0 (help_of_commands name) in
    inl (of_each (λ flag. fault_of image_app (name ∷ command ∷ flag ∷ []) ≡ kind.DisplayHelp ∷ []) help_flags flag tests.1 flags)
requests (name ∷ command ∷ flag ∷ more ∷ words) e = cc

-- clap's error has one of these kinds
request_kind : (kinds : Kinds) (k : ErrorKind) → IsRequest kinds → IsAmong k kinds → (k ≢ kind.DisplayHelp) × (k ≢ kind.DisplayVersion) → ⊥
request_kind kinds k (inl is) among other = elim (subst (IsAmong k) is among) [
  | inl h ↦ other.0 h
  | inr h ↦ h
]
request_kind kinds k (inr is) among other = elim (subst (IsAmong k) is among) [
  | inl h ↦ other.1 h
  | inr h ↦ h
]

may_ask : (kinds : Kinds) (k : ErrorKind) → IsAmong k kinds → (k ≡ kind.DisplayHelp) ⊎ (k ≡ kind.DisplayVersion)
    → IsAmong kind.DisplayHelp kinds ⊎ IsAmong kind.DisplayVersion kinds
may_ask kinds k among (inl is) = inl (subst (λ (x : ErrorKind). IsAmong x kinds) is among)
may_ask kinds k among (inr is) = inr (subst (λ (x : ErrorKind). IsAmong x kinds) is among)

pub said_help : (words : List Text) (e : Error) (why : Unparsed) → HasKind (fault_of image_app words) e → (kind_of e ≡ kind.OutOfMemory → why ≡ answer.NoMemory)
    → Tells (kind_of e) why → GivesHelp words why
said_help words e answer.NoMemory has no_memory tells = tt
said_help words e (answer.Help text) (inl out) no_memory tells = let none = no_memory out in cc
said_help words e (answer.Help text) (inr among) no_memory tells = may_ask (fault_of image_app words) (kind_of e) among tells
said_help words e (answer.Words text) (inl out) no_memory tells = let none = no_memory out in cc
said_help words e (answer.Words text) (inr among) no_memory tells = go (asks_help words) refl
  where
    go : (b : Bool) → asks_help words ≡ b → asks_help words ≡ false
    go false is = is
    go true is = absurd (request_kind (fault_of image_app words) (kind_of e) (requests words is) among tells)

-- clap takes no list that asks for help
pub taken_asks_no_help : (words : List Text) → fault_of image_app words ≡ [] → asks_help words ≡ false
taken_asks_no_help words none = go (asks_help words) refl
  where
    go : (b : Bool) → asks_help words ≡ b → asks_help words ≡ false
    go false is = is
    go true is = elim (requests words is) [
      | inl h ↦ cc
      | inr h ↦ cc
    ]

-- the line for a list that clap takes is no help
pub line_gives_help : (words : List Text) (line : Text) (why : Unparsed) → IsLine line why → asks_help words ≡ false → GivesHelp words why
line_gives_help words line (answer.Words text) is none = none
line_gives_help words line (answer.Help text) is none = absurd is
line_gives_help words line answer.NoMemory is none = tt
