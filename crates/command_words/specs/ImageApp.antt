-- The program's commands as clap reads them.
use Rattle.std.specs.Prelude.{ℕ, List, Some, true, codes, pos}
use Rattle.clap.specs.Words.{App, Rule, Text, new_app, new_rule, with_rule, with_subcommand}
use Rattle.clap.specs.declared.builder.action.ArgAction.TheVariants.{Append}
use Rattle.clap.specs.declared.builder.value_parser.ValueParser.TheVariants as parser
use Rattle.command_words.specs.App.{flag_rule, offset_rule, path_rule, program_app, swap_rule}

-- a command with [--offset N] and SWAP
abbrev pub area_app : List ℕ → App
area_app name = with_rule (with_rule (new_app name) offset_rule) swap_rule

-- [--json]
abbrev pub json_rule : Rule
json_rule = flag_rule (codes "json")

-- a command with an area and a form
abbrev pub formed_app : List ℕ → App
formed_app name = with_rule (area_app name) json_rule

-- P
abbrev pub frame_rule : Rule
frame_rule = record (new_rule (codes "frame")) {
  value_names = 1;
  required = true;
  parser = Some (parser.Unsigned 0 18446744073709551615);
}

abbrev pub page_app : App
page_app = with_rule (area_app (codes "page")) frame_rule

-- [--first]
abbrev pub first_rule : Rule
first_rule = flag_rule (codes "first")

-- SWAP, the second
abbrev pub other_rule : Rule
other_rule = path_rule (codes "other")

abbrev pub differ_app : App
differ_app = with_rule (with_rule (area_app (codes "differ")) first_rule) other_rule

-- as many numbers of 32 bits, which may be repeated
abbrev pub numbers_rule : Text → ℕ → Rule
numbers_rule name count = record (new_rule name) {
  long = Some name;
  action = Some Append;
  range = Some (record { start_inclusive = count; end_inclusive = count });
  value_names = count;
  parser = Some (parser.Signed (pos 0) (pos 4294967295));
}

-- --zone START COUNT and --extent START LENGTH BLOCK
abbrev pub zone_rule : Rule
zone_rule = numbers_rule (codes "zone") 2

abbrev pub extent_rule : Rule
extent_rule = numbers_rule (codes "extent") 3

abbrev pub dump_app : List ℕ → App
dump_app name = with_rule (with_rule (area_app name) zone_rule) extent_rule

abbrev pub loader_app : App
loader_app = dump_app (codes "loader")

-- --tables F S
abbrev pub tables_rule : Rule
tables_rule = numbers_rule (codes "tables") 2

abbrev pub machine_app : App
machine_app = with_rule (dump_app (codes "machine")) tables_rule

-- the program with the commands that report what an area holds
abbrev pub with_tellers : App → App
with_tellers app =
    with_subcommand (with_subcommand app (formed_app (codes "check")).top) (formed_app (codes "show")).top

-- the program with the commands that write what an image holds
abbrev pub with_writers : App → App
with_writers app =
    with_subcommand
    (with_subcommand (with_subcommand app (area_app (codes "stream")).top) page_app.top)
    (area_app (codes "core")).top

-- the program with the commands that compare images and give them up
abbrev pub with_enders : App → App
with_enders app = with_subcommand (with_subcommand app differ_app.top) (area_app (codes "discard")).top

-- the program with the commands that make dumps
abbrev pub with_makers : App → App
with_makers app = with_subcommand (with_subcommand app loader_app.top) machine_app.top

abbrev pub image_app : App
image_app = with_makers (with_enders (with_writers (with_tellers (program_app (codes "swsusp_image")))))
