-- The program's commands as clap reads them.
use Rattle.std.specs.Prelude.{pos, Some, codes}
use Rattle.clap.specs.Words.{App, Rule, new_app, new_rule, with_rule, with_subcommand}
use Rattle.clap.specs.declared.builder.value_parser.ValueParser.TheVariants as parser
use Rattle.command_words.specs.App.{any_kernel_rule, path_rule, program_app, swap_rule}

abbrev pub make_app : App
make_app = new_app (codes "make")

abbrev pub draw_app : App
draw_app = new_app (codes "draw")

abbrev pub loader_app : App
loader_app = new_app (codes "loader")

abbrev pub core_app : App
core_app = new_app (codes "core")

-- N of `--slots`
abbrev pub slots_rule : Rule
slots_rule = record (new_rule (codes "slots")) {
  long = Some (codes "slots");
  value_names = 1;
  parser = Some (parser.Signed (pos 2) (pos 131072));
}

abbrev pub from_core_app : App
from_core_app = with_rule (new_app (codes "from-core")) slots_rule

abbrev pub show_app : App
show_app = new_app (codes "show")

-- DUMP, the first and the second
abbrev pub first_rule : Rule
first_rule = path_rule (codes "first")

abbrev pub second_rule : Rule
second_rule = path_rule (codes "second")

abbrev pub differ_app : App
differ_app = with_rule (with_rule (new_app (codes "differ")) first_rule) second_rule

abbrev pub check_app : App
check_app = with_rule (with_rule (new_app (codes "check")) any_kernel_rule) swap_rule

-- the program with the commands that play a script
abbrev pub with_players : App → App
with_players app = with_subcommand (with_subcommand app make_app.top) draw_app.top

-- the program with the commands that write a memory in another form
abbrev pub with_writers : App → App
with_writers app =
    with_subcommand (with_subcommand (with_subcommand app loader_app.top) core_app.top) from_core_app.top

-- the program with the commands that report on memories
abbrev pub with_tellers : App → App
with_tellers app = with_subcommand (with_subcommand (with_subcommand app show_app.top) differ_app.top) check_app.top

abbrev pub machine_app : App
machine_app = with_tellers (with_writers (with_players (program_app (codes "swsusp_machine"))))
