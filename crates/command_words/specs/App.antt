-- The program's commands as clap reads them.
use Rattle.std.specs.Prelude.{◌≡◌, [], ◌∷◌, Some, false, true, codes, pos}
use Rattle.clap.specs.Words.{App, Rule, Text, app_of, new_app, new_rule, with_rule, with_subcommand}
use Rattle.clap.specs.Simple.{on_top}
use Rattle.clap.specs.declared.builder.action.ArgAction.TheVariants.{SetTrue}
use Rattle.clap.specs.declared.builder.command.Command.{Command}
use Rattle.clap.specs.declared.builder.command.Command.TheViews.{out-Command}
use Rattle.clap.specs.declared.builder.value_parser.ValueParser.TheVariants as parser

-- an option without a value
abbrev pub flag_rule : Text → Rule
flag_rule name = record (new_rule name) { long = Some name; action = Some SetTrue }

-- a path that must be given
abbrev pub path_rule : Text → Rule
path_rule name = record (new_rule name) { value_names = 1; required = true }

-- SWAP
abbrev pub swap_rule : Rule
swap_rule = path_rule (codes "swap")

abbrev pub offset_rule : Rule
offset_rule = record (new_rule (codes "offset")) {
  long = Some (codes "offset");
  value_names = 1;
  defaults = codes "0" ∷ [];
  parser = Some (parser.Signed (pos 0) (pos 4294967295));
}

abbrev pub inspect_app : App
inspect_app = with_rule (with_rule (new_app (codes "inspect")) offset_rule) swap_rule

abbrev pub skip_zeros_rule : Rule
skip_zeros_rule = flag_rule (codes "skip-zeros")

abbrev pub image_size_rule : Rule
image_size_rule = record (new_rule (codes "image-size")) {
  long = Some (codes "image-size");
  value_names = 1;
  parser = Some (parser.Unsigned 0 18446744073709551615);
}

abbrev pub hibernate_app : App
hibernate_app =
    with_rule (with_rule (with_rule (new_app (codes "hibernate")) skip_zeros_rule) image_size_rule) swap_rule

abbrev pub any_kernel_rule : Rule
any_kernel_rule = flag_rule (codes "any-kernel")

abbrev pub resume_app : App
resume_app = with_rule (with_rule (new_app (codes "resume")) any_kernel_rule) swap_rule

abbrev pub replay_app : App
replay_app = new_app (codes "replay")

abbrev pub number_rule : Rule
number_rule = record (new_rule (codes "number")) {
  value_names = 1;
  required = true;
  parser = Some (parser.Signed (pos 1) (pos 2000));
}

abbrev pub drill_app : App
drill_app = with_rule (new_app (codes "drill")) number_rule

abbrev pub export_app : App
export_app = new_app (codes "export")

abbrev pub import_app : App
import_app = with_rule (new_app (codes "import")) swap_rule

-- a program, which has a version and requires one of its commands
abbrev pub program_app : Text → App
program_app name = on_top (λ top. record top { has_version = true; subcommand_required = true }) (new_app name)

-- the program with the commands over a swap area
abbrev pub with_areas : App → App
with_areas app =
    with_subcommand (with_subcommand (with_subcommand app inspect_app.top) hibernate_app.top) resume_app.top

-- the program with the commands that play a run
abbrev pub with_players : App → App
with_players app = with_subcommand (with_subcommand app replay_app.top) drill_app.top

-- the program with the commands over a stream
abbrev pub with_streams : App → App
with_streams app = with_subcommand (with_subcommand app export_app.top) import_app.top

abbrev pub swsusp_app : App
swsusp_app = with_streams (with_players (with_areas (program_app (codes "swsusp"))))

-- clap reads the command as this definition
abbrev pub IsApp : App → Command → Type 0
IsApp app command = (app_of command ≡ app) × ((out-Command command).has_globals ≡ false)
