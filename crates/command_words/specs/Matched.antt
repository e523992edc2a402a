-- What a command's matches ask for.
use Rattle.std.specs.Prelude.{◌≡◌, ℕ, ◌^◌, ◌&&◌, List, Bool, true, false, Option, Some, None, option_map}
use Rattle.std.specs.Prelude.{option_and_then, nat_lt, codes, if◌then◌else◌}
use Rattle.std.specs.Str.{bytes_eq}
use Rattle.std.specs.Str.Parse.{digits_value, without_leading_plus}
use Rattle.clap.specs.Words.{Row, Text, first_of, one_of}
use Rattle.clap.specs.ValueTests.{is_numeral}
use Rattle.page_core.specs.declared.format.Format.{Format}
use Rattle.page_core.specs.declared.format.Format.TheVariants.{Plain, SkipZeros}
use Rattle.plain_machine.specs.declared.event.IdentCheck.{IdentCheck}
use Rattle.plain_machine.specs.declared.event.IdentCheck.TheVariants.{Compare, Skip}
use Rattle.command_words.specs.Words.{Asked, inspect, hibernate, resume, replay, drill, export, import}

-- the number of `bits` bits that `FromStr` makes of a text
unfoldable pub parsed : ℕ → Text → Option ℕ
parsed bits text =
    if is_numeral (without_leading_plus text) && nat_lt (digits_value 10 (without_leading_plus text)) (2 ^ bits)
    then Some (digits_value 10 (without_leading_plus text)) else None

-- `get_one` of an integer
abbrev pub number_at : ℕ → Text → List Row → Option ℕ
number_at bits id rows = option_and_then (parsed bits) (one_of id rows)

-- `get_flag` of a text, which is `true` or `false`
abbrev pub flag_of : Option Text → Option Bool
flag_of None = Some false
flag_of (Some text) =
    if bytes_eq text (codes "true") then Some true else if bytes_eq text (codes "false") then Some false else None

abbrev pub flag_at : Text → List Row → Option Bool
flag_at id rows = flag_of (one_of id rows)

abbrev pub swap_in : List Row → Option Text
swap_in rows = first_of (codes "swap") rows

abbrev pub inspect_in : List Row → Option Asked
inspect_in rows =
    option_and_then (λ swap. option_map (λ offset. inspect offset swap) (number_at 32 (codes "offset") rows))
    (swap_in rows)

abbrev pub format_by : Bool → Format
format_by false = Plain
format_by true = SkipZeros

abbrev pub hibernate_in : List Row → Option Asked
hibernate_in rows =
    option_and_then (λ swap. option_map
    (λ skips. hibernate (format_by skips) (number_at 64 (codes "image-size") rows) swap)
    (flag_at (codes "skip-zeros") rows))
    (swap_in rows)

abbrev pub check_by : Bool → IdentCheck
check_by false = Compare
check_by true = Skip

abbrev pub resume_in : List Row → Option Asked
resume_in rows =
    option_and_then (λ swap. option_map (λ any. resume (check_by any) swap) (flag_at (codes "any-kernel") rows))
    (swap_in rows)

abbrev pub drill_in : List Row → Option Asked
drill_in rows = option_map (λ number. drill number) (number_at 32 (codes "number") rows)

abbrev pub import_in : List Row → Option Asked
import_in rows = option_map (λ swap. import swap) (swap_in rows)

-- what the matches of the subcommand with this name ask for
abbrev pub matched_by : Text → List Row → Option Asked
matched_by name rows =
    if bytes_eq name (codes "inspect") then inspect_in rows
    else if bytes_eq name (codes "hibernate") then hibernate_in rows
    else if bytes_eq name (codes "resume") then resume_in rows
    else if bytes_eq name (codes "replay") then Some replay
    else if bytes_eq name (codes "drill") then drill_in rows
    else if bytes_eq name (codes "export") then Some export
    else if bytes_eq name (codes "import") then import_in rows
    else None

-- what the matches of the whole command line ask for
abbrev pub asked_in : Option (Text × List Row) → Option Asked
asked_in None = None
asked_in (Some (name, rows)) = matched_by name rows

-- the answer is what is asked for, if anything is
abbrev pub Answers : {A B : Type 0} → (B → A) → Option A → Option B → Type 0
Answers {A} asked_by asked answer = (x : A) → asked ≡ Some x → option_map asked_by answer ≡ Some x
