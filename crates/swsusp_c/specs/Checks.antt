-- The state of a check, as C keeps it, and how the functions change it: as `Check` does.
use Rattle.std.specs.Prelude.{◌≡◌, ℕ, ◌/◌, ◌+◌, ◌==◌, ◌++◌, ◌∷◌, Bool, true, false, List, [], length, Option, Some}
use Rattle.std.specs.Prelude.{None, Ok, if◌then◌else◌, is_some, nat_lt, not}
use Rattle.definitions.specs.Disk.{Content}
use Rattle.page_core.specs.declared.format.Format.{Format}
use Rattle.page_core.specs.declared.format.Format.TheVariants.{Plain, SkipZeros}
use Rattle.image_walk.specs.Names.{IsReadFrom}
use Rattle.image_check.specs.declared.checking.Outcome.{Outcome}
use Rattle.image_check.specs.declared.checking.Outcome.TheVariants.{NoImage, Checked}
use Rattle.image_check.specs.declared.finding.Counts.{Counts}
use Rattle.image_check.specs.declared.finding.Finding.{Finding}
use Rattle.boot_check.specs.Found.{HasFound, pending}
use Rattle.boot_check.specs.declared.check.Check.{Check}
use Rattle.boot_check.specs.declared.names.Names.{Names}
use Rattle.boot_check.specs.declared.stage.Stage.{Stage}
use Rattle.boot_check.specs.declared.stage.Stage.TheVariants.{Header, Name, Over}
use Rattle.boot_check.specs.declared.stage.Step.{Step}
use Rattle.boot_check.specs.declared.stage.Step.TheVariants as step
use Rattle.swsusp_c.specs.Calls.{numbers}
use Rattle.swsusp_c.specs.Codes.{code_where, or_code, page_code}
use Rattle.swsusp_c.specs.Findings.{IsKept}
use Rattle.swsusp_c.specs.State.{has_of, last_by, number_of}
use Rattle.swsusp_c.specs.declared.calls.SwsuspCall.{SwsuspCall}
use Rattle.swsusp_c.specs.declared.findings.SwsuspFindings.{SwsuspFindings}
use Rattle.swsusp_c.specs.declared.kept.SwsuspCheck.{SwsuspCheck}

abbrev pub stage_number : Stage → ℕ
stage_number Header = 1
stage_number (Name b) = 2
stage_number (Over NoImage) = 3
stage_number (Over Checked) = 4

abbrev pub stage_block : Stage → ℕ
stage_block Header = 0
stage_block (Name b) = b
stage_block (Over outcome) = 0

abbrev pub stage_by : (stage block : ℕ) → Option Stage
stage_by s b =
    if s == 1 then Some Header
    else (if s == 2 then Some (Name b)
    else (if s == 3 then Some (Over NoImage) else (if s == 4 then Some (Over Checked) else None)))

abbrev pub format_number : Format → ℕ
format_number Plain = 0
format_number SkipZeros = 1

abbrev pub format_by : ℕ → Format
format_by n = if n == 0 then Plain else SkipZeros

abbrev pub flag_of : Bool → ℕ
flag_of true = 1
flag_of false = 0

abbrev pub flag_by : ℕ → Bool
flag_by n = not (n == 0)

abbrev pub has_counts_of : Option Counts → ℕ
has_counts_of None = 0
has_counts_of (Some c) = 1

abbrev pub counts_or : Option Counts → Counts
counts_or None = record { image_pages = 0; pages = 0 }
counts_or (Some c) = c

abbrev pub counts_by : (has image_pages pages : ℕ) → Option Counts
counts_by has n pages = if has == 0 then None else Some (record { image_pages = n; pages = pages })

abbrev pub check_code : Check → SwsuspCheck
check_code c = record {
  at = c.names.walk.at;
  next = c.names.walk.next;
  entry = c.names.walk.entry;
  image_pages = (counts_or c.names.progress.counts).image_pages;
  pages = (counts_or c.names.progress.counts).pages;
  previous = number_of c.names.progress.previous;
  counted = number_of c.names.progress.counted;
  stage = stage_number c.stage;
  block = stage_block c.stage;
  blocks = c.names.limits.blocks;
  header = c.names.limits.header;
  last = c.names.limits.last;
  skips_zeros = format_number c.names.format;
  maps = c.names.walk.maps;
  over = flag_of c.names.walk.over;
  has_counts = has_counts_of c.names.progress.counts;
  has_previous = has_of c.names.progress.previous;
  has_counted = has_of c.names.progress.counted;
  bad = c.names.limits.bad;
  map = c.names.walk.map;
}

-- what a check keeps of the names of an image, from its numbers
abbrev pub names_by : SwsuspCheck → Names
names_by s = record {
  limits = record { blocks = s.blocks; header = s.header; last = s.last; bad = s.bad };
  format = format_by s.skips_zeros;
  walk = record {
    maps = s.maps;
    at = s.at;
    map = s.map;
    entry = s.entry;
    next = s.next;
    over = flag_by s.over;
  };
  progress = record {
    counts = counts_by s.has_counts s.image_pages s.pages;
    previous = last_by s.has_previous s.previous;
    counted = last_by s.has_counted s.counted;
  };
}

abbrev pub with_names : Option Stage → Names → Option Check
with_names None n = None
with_names (Some stage) n = Some (record { stage = stage; names = n })

-- the check of these numbers, if its stage is a valid one
abbrev pub check_by : SwsuspCheck → Option Check
check_by s = with_names (stage_by s.stage s.block) (names_by s)

-- the next call, or the end
abbrev pub step_numbers : Step → SwsuspCall
step_numbers (step.Read b) = numbers 2 0 b 0
step_numbers (step.Over NoImage) = numbers 6 1 0 0
step_numbers (step.Over Checked) = numbers 5 0 0 0

-- which code a function returns

-- BAD_WORDS if the caller lends fewer words than one bit for each block takes
abbrev pub words_code : (blocks : ℕ) → List ℕ → ℕ
words_code blocks words = code_where (nat_lt (length words) (blocks / 64 + 1)) 7

abbrev pub check_state_code : SwsuspCheck → ℕ
check_state_code s = code_where (not (is_some (stage_by s.stage s.block))) 1

abbrev pub check_fail_code : SwsuspCheck → List ℕ → ℕ
check_fail_code s words = or_code (words_code s.blocks words) (check_state_code s)

abbrev pub check_answer_code : SwsuspCheck → List ℕ → List ℕ → ℕ
check_answer_code s words page = or_code (page_code page) (check_fail_code s words)

-- a check before its first read, for any disk and whatever the words hold
pub record BeginsCheck (blocks header : ℕ) (s : SwsuspCheck) : Type 0 where
  pub check : Check
  pub is : s ≡ check_code check
  pub blocks_are : check.names.limits.blocks ≡ blocks
  pub found : (content : Option Content) (lent : List ℕ) → HasFound content 0 blocks header check lent [] []

-- one answer: as in `Check::answer`, and only with this answer's findings
pub record ChecksOn (old : Check) (words lent page : List ℕ) (s : SwsuspCheck) (f : SwsuspFindings) : Type 0 where
  pub check : Check
  pub is : s ≡ check_code check
  pub blocks_are : check.names.limits.blocks ≡ old.names.limits.blocks
  pub found : (content : Option Content) (faults blocks header b : ℕ) (asked : List ℕ) (so_far : List Finding) →
      HasFound content faults blocks header old words asked so_far → pending old ≡ step.Read b →
      IsReadFrom content b (Ok page) → (more : List Finding)
      × (IsKept more f × HasFound content faults blocks header check lent (b ∷ asked) (so_far ++ more))

-- one failure: as in `Check::fail`
pub record ChecksPast (old : Check) (words lent : List ℕ) (s : SwsuspCheck) (f : SwsuspFindings) : Type 0 where
  pub check : Check
  pub is : s ≡ check_code check
  pub blocks_are : check.names.limits.blocks ≡ old.names.limits.blocks
  pub found : (content : Option Content) (faults blocks header b : ℕ) (asked : List ℕ) (so_far : List Finding) →
      HasFound content faults blocks header old words asked so_far → pending old ≡ step.Read b → (more : List Finding)
      × (IsKept more f × HasFound content (faults + 1) blocks header check lent (b ∷ asked) (so_far ++ more))

-- after the end the state stays, and nothing is found
abbrev pub StaysOver : SwsuspCheck → SwsuspCheck → SwsuspFindings → Type 0
StaysOver old new f =
    (c : Check) (outcome : Outcome) → old ≡ check_code c → c.stage ≡ Over outcome → (new ≡ old) × (f.count ≡ 0)
