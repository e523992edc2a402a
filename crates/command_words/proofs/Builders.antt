-- What a chain of builders makes, step by step.
use Rattle.std.proofs.Common.{◌≡◌, ◌∙◌, ◌||◌, ℕ, Bool, false, true, List, Some, Result, ap, ap₂}
use Rattle.std.proofs.lemmas.Result.{IfOk-weaker}
use Rattle.std.specs.Prelude.{IfOk}
use Rattle.std.specs.Borrow.{Bor}
use Rattle.clap.specs.Simple.{app_of_fields, on_top}
use Rattle.clap.specs.declared.builder.command.Command.TheOpen.{Command-F}
use Rattle.clap.specs.declared.builder.command.Command.TheViews.{out-Command}
use Rattle.clap.specs.Words.{AddsArg, AddsSubcommand, App, Rule, rule_of, with_rule, with_subcommand}
use Rattle.clap.specs.declared.builder.arg.Arg.{Arg}
use Rattle.clap.specs.declared.builder.command.Command.{Command}
use Rattle.command_words.specs.App.{IsApp}

pub arg_added : (old new : Command) (a : Arg) (app : App) (rule : Rule) → IsApp app old → rule_of a ≡ rule → a.global ≡ false → AddsArg old a new → IsApp (with_rule app rule) new
arg_added old new a app rule old_is is own_only added =
    (added.shape own_only ∙ ap₂ with_rule old_is.0 is, added.globals ∙ ap₂ (λ (x y : Bool). x || y) old_is.1 own_only)

pub if_arg_added : {E : Type 0} (result : Result Command E) (old : Command) (a : Arg) (app : App) (rule : Rule) → IsApp app old → rule_of a ≡ rule → a.global ≡ false
    → IfOk result (λ new. AddsArg old a new) → IfOk result (IsApp (with_rule app rule))
if_arg_added result old a app rule is rule_is own_only = IfOk-weaker result _ _ (λ new added. arg_added old new a app rule is rule_is own_only added)

pub subcommand_added : (old sub new : Command) (app below : App) → IsApp app old → IsApp below sub → AddsSubcommand old sub new → IsApp (with_subcommand app below.top) new
subcommand_added old sub new app below old_is sub_is added =
    (added.shape sub_is.1 ∙ ap₂ (λ (a b : App). with_subcommand a b.top) old_is.0 sub_is.0, added.globals ∙ ap₂ (λ (x y : Bool). x || y) old_is.1 sub_is.1)

pub version_set : (old new : Command) (app : App) (text : Bor (List ℕ)) → IsApp app old → out-Command new ≡ record (out-Command old) { version = Some text }
    → IsApp (on_top (λ top. record top { has_version = true }) app) new
version_set old new app text old_is e =
    (ap app_of_fields e ∙ ap (on_top (λ top. record top { has_version = true })) old_is.0, ap (λ (f : Command-F Command). f.has_globals) e ∙ old_is.1)

pub subcommand_wanted : (old new : Command) (app : App) → IsApp app old → out-Command new ≡ record (out-Command old) { subcommand_required = true }
    → IsApp (on_top (λ top. record top { subcommand_required = true }) app) new
subcommand_wanted old new app old_is e =
    (ap app_of_fields e ∙ ap (on_top (λ top. record top { subcommand_required = true })) old_is.0, ap (λ (f : Command-F Command). f.has_globals) e ∙ old_is.1)
