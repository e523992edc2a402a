-- The command line of `swsusp_machine`: which lists of words are plain, and what they ask for.
use Rattle.std.specs.Prelude.{ℕ, List, [], ◌∷◌, ◌&&◌, nat_eq, nat_lt, codes, Option, Some, None, if◌then◌else◌}
use Rattle.std.specs.Cmp.Lexicographic.{pointwise}
use Rattle.plain_machine.specs.declared.event.IdentCheck.{IdentCheck}
use Rattle.plain_machine.specs.declared.event.IdentCheck.TheVariants.{Compare, Skip}
use Rattle.command_words.specs.Words.{is_path, plain_number}

-- what a list of words asks for, with its values
pub data Asked : Type 0 where
  make : Asked
  draw : Asked
  loader : Asked
  core : Asked
  from_core : (slots : Option ℕ) → Asked
  show : Asked
  differ : (first second : List ℕ) → Asked
  check : (ident : IdentCheck) (swap : List ℕ) → Asked

-- this request, if no word follows
abbrev pub alone : Asked → List (List ℕ) → Option Asked
alone asked [] = Some asked
alone asked (word ∷ words) = None

-- the machine of a core file with the given number of slots, at least two
abbrev pub slotted : Option ℕ → Option Asked
slotted None = None
slotted (Some slots) = if nat_lt 1 slots then Some (from_core (Some slots)) else None

-- from-core [--slots N], where N is at most 131072
abbrev pub from_core_of : List (List ℕ) → Option Asked
from_core_of [] = Some (from_core None)
from_core_of (option ∷ []) = None
from_core_of (option ∷ number ∷ []) =
    if pointwise nat_eq option (codes "--slots") then slotted (plain_number 131073 number) else None
from_core_of (option ∷ number ∷ more ∷ words) = None

-- differ DUMP DUMP
abbrev pub differ_of : List (List ℕ) → Option Asked
differ_of [] = None
differ_of (first ∷ []) = None
differ_of (first ∷ second ∷ []) = if is_path first && is_path second then Some (differ first second) else None
differ_of (first ∷ second ∷ more ∷ words) = None

-- check [--any-kernel] SWAP
abbrev pub check_of : List (List ℕ) → Option Asked
check_of [] = None
check_of (swap ∷ []) = if is_path swap then Some (check Compare swap) else None
check_of (option ∷ swap ∷ []) =
    if pointwise nat_eq option (codes "--any-kernel") && is_path swap then Some (check Skip swap) else None
check_of (option ∷ swap ∷ more ∷ words) = None

-- what a command asks for with the words that follow it
abbrev pub command_by : List ℕ → List (List ℕ) → Option Asked
command_by command words =
    if pointwise nat_eq command (codes "make") then alone make words
    else if pointwise nat_eq command (codes "draw") then alone draw words
    else if pointwise nat_eq command (codes "loader") then alone loader words
    else if pointwise nat_eq command (codes "core") then alone core words
    else if pointwise nat_eq command (codes "from-core") then from_core_of words
    else if pointwise nat_eq command (codes "show") then alone show words
    else if pointwise nat_eq command (codes "differ") then differ_of words
    else if pointwise nat_eq command (codes "check") then check_of words
    else None

-- What a plain list of words asks for: the program's name, a command, and its own words. No other list parses.
abbrev pub command_of : List (List ℕ) → Option Asked
command_of [] = None
command_of (name ∷ []) = None
command_of (name ∷ command ∷ words) = command_by command words
