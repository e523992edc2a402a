-- Clap takes each list of words that asks for a command, and its matches ask for it.
use Rattle.std.proofs.Common.{Bool, ◌≡◌, ◌∙◌, ◌<◌, ◌^◌, ◌&&◌, inl, inr, ℕ, true, false, pos, refl, sym, ap, ap₂, subst, arith, Some, List, [], ◌∷◌, codes, decimal, option_map}
use Rattle.clap.specs.Words.{Row, Shape, Text, is_simple, subcommand_of, takes}
use Rattle.clap.specs.Simple.{built}
use Rattle.clap.specs.Takes.{level_passes}
use Rattle.clap.specs.Walk.{nothing_held, rows_after}
use Rattle.clap.proofs.OnLiterals.{clap_on_literals}
use Rattle.clap.specs.declared.builder.value_parser.ValueParser.TheVariants as parser
use Rattle.command_words.specs.Words.{is_path}
use Rattle.command_words.proofs.Numbers.{as_signed, as_unsigned, plain_decimal}
use Rattle.command_words.proofs.Values.{IsNumber, path_value}
use Rattle.command_words.specs.ImageApp.{image_app}
use Rattle.command_words.specs.ImageMatched.{area_in, asked_in, differ_in, formed_in, matched_by}
use Rattle.command_words.specs.ImageSpelled.{IsArea, IsSpelled, IsSpelledOver, IsValid, IsSpelledWith}
use Rattle.command_words.specs.ImageWords.{Asked, SwapArea, check, show, stream, page, core, differ, discard, command_of}
use Rattle.command_words.proofs.ImageAreas.{area_rules, asks_area, asks_area_at, asks_page, asks_page_at, page_rules, passes_area, passes_area_at, passes_page, passes_page_at, shape_of_rules, differ_rules, asks_differ_plain, asks_differ_first, asks_differ_at, asks_differ_first_at, asks_differ_at_first, asks_json, asks_json_after, asks_json_before, asks_lines, asks_lines_at, formed_rules, passes_json, passes_json_after, passes_json_before, passes_lines, passes_lines_at, passes_differ_plain, passes_differ_first, passes_differ_at, passes_differ_first_at, passes_differ_at_first}
use Rattle.command_words.proofs.ImageEnters.{Meets, entered_built, takes_built}
use Rattle.command_words.proofs.ImageForms.{spells}

-- clap takes the words, and its matches ask for this
pub record Asks (words : List Text) (asked : Asked) : Type 0 where
  pub taken : takes image_app words ≡ true
  pub matched : asked_in (subcommand_of image_app words) ≡ Some asked

-- the program's subcommand of this name
abbrev Has : Text → Shape → Type 0
Has name sub = Meets (built image_app) name sub

has_check : Has (codes "check") (shape_of_rules formed_rules (codes "check"))
unfolding clap_on_literals
has_check = record { stops = refl; turn = refl; ends = refl; found = refl }

has_show : Has (codes "show") (shape_of_rules formed_rules (codes "show"))
unfolding clap_on_literals
has_show = record { stops = refl; turn = refl; ends = refl; found = refl }

has_stream : Has (codes "stream") (shape_of_rules area_rules (codes "stream"))
unfolding clap_on_literals
has_stream = record { stops = refl; turn = refl; ends = refl; found = refl }

has_page : Has (codes "page") (shape_of_rules page_rules (codes "page"))
unfolding clap_on_literals
has_page = record { stops = refl; turn = refl; ends = refl; found = refl }

has_core : Has (codes "core") (shape_of_rules area_rules (codes "core"))
unfolding clap_on_literals
has_core = record { stops = refl; turn = refl; ends = refl; found = refl }

has_differ : Has (codes "differ") (shape_of_rules differ_rules (codes "differ"))
unfolding clap_on_literals
has_differ = record { stops = refl; turn = refl; ends = refl; found = refl }

has_discard : Has (codes "discard") (shape_of_rules area_rules (codes "discard"))
unfolding clap_on_literals
has_discard = record { stops = refl; turn = refl; ends = refl; found = refl }

pub simple : is_simple image_app ≡ true
unfolding clap_on_literals
simple = refl

-- the words after the command's name are left to the command
by_name : (program name : Text) (sub : Shape) (words : List Text) (asked : Asked) → Has name sub → level_passes sub [] nothing_held words false ≡ true
    → matched_by sub.name (rows_after sub.rules [] words) ≡ Some asked → Asks (program ∷ name ∷ words) asked
by_name program name sub words asked has passes asks = record {
  taken = ap₂ (λ a b. a && b) simple (takes_built (built image_app) name sub has words passes);
  matched = ap asked_in (entered_built (built image_app) name sub has words) ∙ asks;
}

offset_value : (n : ℕ) → n < 2 ^ 32 → IsNumber 32 (parser.Signed (pos 0) (pos 4294967295)) (decimal n) n
offset_value n small =
    as_signed (2 ^ 32) 0 4294967295 (decimal n) n (omega arith) (omega (arith, small)) (omega arith) (plain_decimal (2 ^ 32) n (omega arith) small)

frame_value : (n : ℕ) → n < 2 ^ 64 → IsNumber 64 (parser.Unsigned 0 18446744073709551615) (decimal n) n
frame_value n small = as_unsigned (2 ^ 64) (decimal n) n (omega arith) (plain_decimal (2 ^ 64) n (omega arith) small)

abbrev area_at : Text → ℕ → SwapArea
area_at swap offset = record { swap = swap; offset = offset }

of_same : (words known : List Text) (asked : Asked) (program : Text) → words ≡ known → Asks (program ∷ known) asked → Asks (program ∷ words) asked
of_same words known asked program e h = subst (λ (w : List Text). Asks (program ∷ w) asked) (sym e) h

of_zero : (words : List Text) (of : SwapArea → Asked) (area : SwapArea) → area.offset ≡ 0 → Asks words (of (area_at area.swap 0)) → Asks words (of area)
of_zero words of area is h = subst (λ (n : ℕ). Asks words (of (area_at area.swap n))) (sym is) h

taken_over : (program name : Text) (of : SwapArea → Asked) (area : SwapArea) (words : List Text) → Has name (shape_of_rules area_rules name)
    → ((rows : List Row) → matched_by name rows ≡ option_map of (area_in rows)) → IsArea area → IsSpelledOver area name [] words
    → Asks (program ∷ words) (of area)
taken_over program name of area words has reads valid spelled =
    let path = path_value area.swap valid.1 in
    let offset = offset_value area.offset valid.0 in
    elim spelled [
      | inl h ↦ of_same words _ _ program h.1 (of_zero (program ∷ name ∷ area.swap ∷ []) of area h.0
          (by_name program name (shape_of_rules area_rules name) (area.swap ∷ []) (of (area_at area.swap 0)) has (passes_area area.swap path name)
          (reads (rows_after area_rules [] (area.swap ∷ [])) ∙ ap (option_map of) (asks_area area.swap path))))
      | inr h ↦ of_same words _ _ program h
          (by_name program name (shape_of_rules area_rules name) (codes "--offset" ∷ decimal area.offset ∷ area.swap ∷ []) (of area) has
          (passes_area_at area.swap path (decimal area.offset) area.offset offset name)
          (reads (rows_after area_rules [] (codes "--offset" ∷ decimal area.offset ∷ area.swap ∷ [])) ∙ ap (option_map of) (asks_area_at area.swap path (decimal area.offset) area.offset offset)))
    ]

-- a command that prints in one of two forms
module _ (program name : Text) (of : Bool × SwapArea → Asked) (area : SwapArea) (words : List Text) (has : Has name (shape_of_rules formed_rules name))
    (reads : (rows : List Row) → matched_by name rows ≡ option_map of (formed_in rows)) (valid : IsArea area) where
  abbrev shape : Shape
  shape = shape_of_rules formed_rules name

  known : (own : List Text) (formed : Bool × SwapArea) → level_passes shape [] nothing_held own false ≡ true
      → formed_in (rows_after formed_rules [] own) ≡ Some formed → Asks (program ∷ name ∷ own) (of formed)
  known own formed passes is = by_name program name shape own (of formed) has passes (reads (rows_after formed_rules [] own) ∙ ap (option_map of) is)

  taken_in : (json : Bool) → IsSpelledWith json area name (codes "--json") [] words → Asks (program ∷ words) (of (json, area))
  taken_in false spelled =
      let path = path_value area.swap valid.1 in
      let offset = offset_value area.offset valid.0 in
      elim spelled [
        | inl h ↦ of_same words _ _ program h.1 (of_zero (program ∷ name ∷ area.swap ∷ []) (λ a. of (false, a)) area h.0
            (known (area.swap ∷ []) (false, area_at area.swap 0) (passes_lines area.swap path name) (asks_lines area.swap path)))
        | inr h ↦ of_same words _ _ program h (known (codes "--offset" ∷ decimal area.offset ∷ area.swap ∷ []) (false, area)
            (passes_lines_at area.swap path (decimal area.offset) area.offset offset name) (asks_lines_at area.swap path (decimal area.offset) area.offset offset))
      ]
  taken_in true spelled =
      let path = path_value area.swap valid.1 in
      let offset = offset_value area.offset valid.0 in
      elim spelled [
        | inl h ↦ of_same words _ _ program h.1 (of_zero (program ∷ name ∷ codes "--json" ∷ area.swap ∷ []) (λ a. of (true, a)) area h.0
            (known (codes "--json" ∷ area.swap ∷ []) (true, area_at area.swap 0) (passes_json area.swap path name) (asks_json area.swap path)))
        | inr more ↦ elim more [
          | inl h ↦ of_same words _ _ program h (known (codes "--json" ∷ codes "--offset" ∷ decimal area.offset ∷ area.swap ∷ []) (true, area)
              (passes_json_before area.swap path (decimal area.offset) area.offset offset name) (asks_json_before area.swap path (decimal area.offset) area.offset offset))
          | inr h ↦ of_same words _ _ program h (known (codes "--offset" ∷ decimal area.offset ∷ codes "--json" ∷ area.swap ∷ []) (true, area)
              (passes_json_after area.swap path (decimal area.offset) area.offset offset name) (asks_json_after area.swap path (decimal area.offset) area.offset offset))
        ]
      ]

taken_page : (program : Text) (area : SwapArea) (frame : ℕ) (words : List Text) → IsArea area → frame < 2 ^ 64
    → IsSpelledOver area (codes "page") (decimal frame ∷ []) words → Asks (program ∷ words) (page area frame)
taken_page program area frame words valid small spelled =
    let path = path_value area.swap valid.1 in
    let offset = offset_value area.offset valid.0 in
    let number = frame_value frame small in
    elim spelled [
      | inl h ↦ of_same words _ _ program h.1 (of_zero (program ∷ codes "page" ∷ area.swap ∷ decimal frame ∷ []) (λ a. page a frame) area h.0
          (by_name program (codes "page") (shape_of_rules page_rules (codes "page")) (area.swap ∷ decimal frame ∷ []) (page (area_at area.swap 0) frame) has_page
          (passes_page area.swap path (decimal frame) frame number (codes "page"))
          (asks_page area.swap path (decimal frame) frame number)))
      | inr h ↦ of_same words _ _ program h
          (by_name program (codes "page") (shape_of_rules page_rules (codes "page")) (codes "--offset" ∷ decimal area.offset ∷ area.swap ∷ decimal frame ∷ [])
          (page area frame) has_page
          (passes_page_at area.swap path (decimal frame) frame number (decimal area.offset) area.offset offset (codes "page"))
          (asks_page_at area.swap path (decimal frame) frame number (decimal area.offset) area.offset offset))
    ]

-- two areas
module _ (program : Text) (area : SwapArea) (other : Text) (words : List Text) (valid : IsArea area) (path : is_path other ≡ true) where
  compared : (first_only : Bool) (area : SwapArea) (own : List Text) → level_passes (shape_of_rules differ_rules (codes "differ")) [] nothing_held own false ≡ true
      → differ_in (rows_after differ_rules [] own) ≡ Some (differ first_only area other) → Asks (program ∷ codes "differ" ∷ own) (differ first_only area other)
  compared first_only area own passes is = by_name program (codes "differ") (shape_of_rules differ_rules (codes "differ")) own (differ first_only area other) has_differ passes is

  taken_differ : (first_only : Bool) → IsSpelledWith first_only area (codes "differ") (codes "--first") (other ∷ []) words → Asks (program ∷ words) (differ first_only area other)
  taken_differ false spelled =
      let s = path_value area.swap valid.1 in
      let o = path_value other path in
      let offset = offset_value area.offset valid.0 in
      elim spelled [
        | inl h ↦ of_same words _ _ program h.1 (of_zero (program ∷ codes "differ" ∷ area.swap ∷ other ∷ []) (λ a. differ false a other) area h.0
            (compared false (area_at area.swap 0) (area.swap ∷ other ∷ []) (passes_differ_plain area.swap s other o (codes "differ")) (asks_differ_plain area.swap s other o)))
        | inr h ↦ of_same words _ _ program h (compared false area (codes "--offset" ∷ decimal area.offset ∷ area.swap ∷ other ∷ [])
            (passes_differ_at area.swap s other o (decimal area.offset) area.offset offset (codes "differ")) (asks_differ_at area.swap s other o (decimal area.offset) area.offset offset))
      ]
  taken_differ true spelled =
      let s = path_value area.swap valid.1 in
      let o = path_value other path in
      let offset = offset_value area.offset valid.0 in
      elim spelled [
        | inl h ↦ of_same words _ _ program h.1 (of_zero (program ∷ codes "differ" ∷ codes "--first" ∷ area.swap ∷ other ∷ []) (λ a. differ true a other) area h.0
            (compared true (area_at area.swap 0) (codes "--first" ∷ area.swap ∷ other ∷ []) (passes_differ_first area.swap s other o (codes "differ")) (asks_differ_first area.swap s other o)))
        | inr more ↦ elim more [
          | inl h ↦ of_same words _ _ program h (compared true area (codes "--first" ∷ codes "--offset" ∷ decimal area.offset ∷ area.swap ∷ other ∷ [])
              (passes_differ_first_at area.swap s other o (decimal area.offset) area.offset offset (codes "differ")) (asks_differ_first_at area.swap s other o (decimal area.offset) area.offset offset))
          | inr h ↦ of_same words _ _ program h (compared true area (codes "--offset" ∷ decimal area.offset ∷ codes "--first" ∷ area.swap ∷ other ∷ [])
              (passes_differ_at_first area.swap s other o (decimal area.offset) area.offset offset (codes "differ")) (asks_differ_at_first area.swap s other o (decimal area.offset) area.offset offset))
        ]
      ]

taken : (program : Text) (words : List Text) (asked : Asked) → IsValid asked → IsSpelled asked words → Asks (program ∷ words) asked
taken program words (check json area) valid spelled = taken_in program (codes "check") (λ p. check p.0 p.1) area words has_check (λ rows. refl) valid json spelled
taken program words (show json area) valid spelled = taken_in program (codes "show") (λ p. show p.0 p.1) area words has_show (λ rows. refl) valid json spelled
taken program words (stream area) valid spelled = taken_over program (codes "stream") (λ a. stream a) area words has_stream (λ rows. refl) valid spelled
taken program words (page area frame) valid spelled = taken_page program area frame words valid.0 valid.1 spelled
taken program words (core area) valid spelled = taken_over program (codes "core") (λ a. core a) area words has_core (λ rows. refl) valid spelled
taken program words (differ first_only area other) valid spelled = taken_differ program area other words valid.0 valid.1 first_only spelled
taken program words (discard area) valid spelled = taken_over program (codes "discard") (λ a. discard a) area words has_discard (λ rows. refl) valid spelled

pub taken_as_asked : (words : List Text) (asked : Asked) → command_of words ≡ Some asked → Asks words asked
taken_as_asked words asked e =
    let p = spells words asked e in
    subst (λ (w : List Text). Asks w asked) (sym p.2) (taken p.0 p.1 asked p.3.0 p.3.1)
