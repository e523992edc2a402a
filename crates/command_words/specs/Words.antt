-- The command line of `swsusp`: which lists of words are plain, and what they ask for.
use Rattle.std.specs.Prelude.{ℕ, ◌^◌, ◌==◌, ◌&&◌, List, [], ◌∷◌, Bool, false, nat_eq, nat_lt, not, codes, Option, Some}
use Rattle.std.specs.Prelude.{None, length, option_map, if◌then◌else◌}
use Rattle.std.specs.Cmp.Lexicographic.{pointwise}
use Rattle.page_core.specs.declared.format.Format.{Format}
use Rattle.page_core.specs.declared.format.Format.TheVariants.{Plain, SkipZeros}
use Rattle.plain_machine.specs.declared.event.IdentCheck.{IdentCheck}
use Rattle.plain_machine.specs.declared.event.IdentCheck.TheVariants.{Compare, Skip}
use Rattle.std.specs.Char.{is_ascii_digit}
use Rattle.std.specs.List.{list_all}
use Rattle.std.specs.Str.Parse.{digits_value}

-- what a plain list of words asks for, with its values
pub data Asked : Type 0 where
  inspect : (offset : ℕ) (swap : List ℕ) → Asked
  hibernate : (format : Format) (size : Option ℕ) (swap : List ℕ) → Asked
  resume : (check : IdentCheck) (swap : List ℕ) → Asked
  replay : Asked
  drill : (number : ℕ) → Asked
  export : Asked
  import : (swap : List ℕ) → Asked

-- whether a word names a file: it isn't empty and doesn't begin with a dash
abbrev pub is_path : List ℕ → Bool
is_path [] = false
is_path (b ∷ bs) = not (b == 45)

-- whether there are several bytes and the first is a 0
abbrev pub has_leading_zero : List ℕ → Bool
has_leading_zero [] = false
has_leading_zero (b ∷ []) = false
has_leading_zero (b ∷ c ∷ bs) = b == 48

-- whether a word is one or more digits
abbrev pub is_decimal : List ℕ → Bool
is_decimal word = nat_lt 0 (length word) && list_all is_ascii_digit word

-- the number below a limit that a word gives in decimal digits without a leading zero
unfoldable pub plain_number : ℕ → List ℕ → Option ℕ
plain_number limit word =
    if not (has_leading_zero word) && is_decimal word && nat_lt (digits_value 10 word) limit
    then Some (digits_value 10 word) else None

-- replay
abbrev pub replay_of : List (List ℕ) → Option Asked
replay_of [] = Some replay
replay_of (word ∷ words) = None

-- the drill of a number, unless that is 0
abbrev pub drill_by : Option ℕ → Option Asked
drill_by None = None
drill_by (Some number) = if nat_lt 0 number then Some (drill number) else None

-- drill NUMBER, from 1 to 2000
abbrev pub drill_of : List (List ℕ) → Option Asked
drill_of [] = None
drill_of (number ∷ []) = drill_by (plain_number 2001 number)
drill_of (number ∷ more ∷ words) = None

-- export
abbrev pub export_of : List (List ℕ) → Option Asked
export_of [] = Some export
export_of (word ∷ words) = None

-- inspect [--offset N] SWAP
abbrev pub inspect_of : List (List ℕ) → Option Asked
inspect_of [] = None
inspect_of (swap ∷ []) = if is_path swap then Some (inspect 0 swap) else None
inspect_of (option ∷ number ∷ []) = None
inspect_of (option ∷ number ∷ swap ∷ []) =
    if pointwise nat_eq option (codes "--offset") && is_path swap
    then option_map (λ offset. inspect offset swap) (plain_number (2 ^ 32) number) else None
inspect_of (option ∷ number ∷ swap ∷ more ∷ words) = None

-- this request, if the word names a file
abbrev pub over_file : List ℕ → Asked → Option Asked
over_file swap asked = if is_path swap then Some asked else None

-- this request, if the word is that option
abbrev pub with_option : List ℕ → List ℕ → Option Asked → Option Asked
with_option word option asked = if pointwise nat_eq word option then asked else None

-- this request, with the size that a plain number of 64 bits gives, if the next word names a file
abbrev pub sized : List ℕ → List ℕ → (ℕ → Asked) → Option Asked
sized number swap asked = if is_path swap then option_map asked (plain_number (2 ^ 64) number) else None

-- --skip-zeros --image-size N, or the other way round
abbrev pub both_options : List ℕ → List ℕ → List ℕ → List ℕ → Option Asked
both_options a b c swap =
    if pointwise nat_eq a (codes "--skip-zeros")
    then with_option b (codes "--image-size") (sized c swap (λ want. hibernate SkipZeros (Some want) swap))
    else with_option c (codes "--skip-zeros")
    (with_option a (codes "--image-size") (sized b swap (λ want. hibernate SkipZeros (Some want) swap)))

-- hibernate [--skip-zeros] [--image-size N] SWAP, the options in either order
abbrev pub hibernate_of : List (List ℕ) → Option Asked
hibernate_of [] = None
hibernate_of (swap ∷ []) = over_file swap (hibernate Plain None swap)
hibernate_of (option ∷ swap ∷ []) =
    with_option option (codes "--skip-zeros") (over_file swap (hibernate SkipZeros None swap))
hibernate_of (option ∷ number ∷ swap ∷ []) =
    with_option option (codes "--image-size") (sized number swap (λ want. hibernate Plain (Some want) swap))
hibernate_of (a ∷ b ∷ c ∷ swap ∷ []) = both_options a b c swap
hibernate_of (a ∷ b ∷ c ∷ d ∷ more ∷ words) = None

-- resume [--any-kernel] SWAP
abbrev pub resume_of : List (List ℕ) → Option Asked
resume_of [] = None
resume_of (swap ∷ []) = over_file swap (resume Compare swap)
resume_of (option ∷ swap ∷ []) = with_option option (codes "--any-kernel") (over_file swap (resume Skip swap))
resume_of (option ∷ swap ∷ more ∷ words) = None

-- import SWAP
abbrev pub import_of : List (List ℕ) → Option Asked
import_of [] = None
import_of (swap ∷ []) = over_file swap (import swap)
import_of (swap ∷ more ∷ words) = None

-- what a command asks for with the words that follow it
abbrev pub command_by : List ℕ → List (List ℕ) → Option Asked
command_by command words =
    if pointwise nat_eq command (codes "inspect") then inspect_of words
    else if pointwise nat_eq command (codes "hibernate") then hibernate_of words
    else if pointwise nat_eq command (codes "resume") then resume_of words
    else if pointwise nat_eq command (codes "replay") then replay_of words
    else if pointwise nat_eq command (codes "drill") then drill_of words
    else if pointwise nat_eq command (codes "export") then export_of words
    else if pointwise nat_eq command (codes "import") then import_of words
    else None

-- What a plain list of words asks for: the program's name, a command, and its own words. No other list parses.
abbrev pub command_of : List (List ℕ) → Option Asked
command_of [] = None
command_of (name ∷ []) = None
command_of (name ∷ command ∷ words) = command_by command words
