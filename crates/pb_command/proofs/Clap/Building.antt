-- A command grows as its description does.
use Rattle.std.proofs.Common.{◌≡◌, ◌≤◌, ◌<◌, ◌+◌, ℕ, List, false, length, subst, take, take_all, arith}
use Rattle.std.proofs.Math.ListN.{get_or}
use Rattle.std.proofs.lemmas.List.Sums.{fold_more}
use Rattle.std.specs.Prelude.{fold}
use Rattle.clap.specs.Words.{AddsArg, AddsSubcommand, App, Rule, app_of, rule_of, with_rule, with_subcommand}
use Rattle.clap.specs.Simple.{app_of_fields}
use Rattle.clap.specs.declared.builder.arg.Arg.{Arg}
use Rattle.clap.specs.declared.builder.command.Command.{Command}
use Rattle.clap.specs.declared.builder.command.Command.TheViews.{out-Command}
use Rattle.clap.specs.declared.builder.command.Command.TheOpen.{Command-F}
use Rattle.pb_command.specs.Commands.{IsCommand}

-- texts of help change nothing that a parse reads
pub same_command : (old new : Command) (app : App) (fields : Command-F Command) → IsCommand app old
    → out-Command new ≡ fields → app_of_fields fields ≡ app_of old
    → fields.has_globals ≡ (out-Command old).has_globals → IsCommand app new
same_command old new app fields is e shape globals = grind arith

-- one more argument
pub adds_rule : (old new : Command) (a : Arg) (app : App) (rule : Rule) → IsCommand app old
    → rule_of a ≡ rule → a.global ≡ false → AddsArg old a new → IsCommand (with_rule app rule) new
adds_rule old new a app rule is same local added = grind arith

-- one more subcommand
pub adds_command : (old sub new : Command) (app below : App) → IsCommand app old → IsCommand below sub
    → AddsSubcommand old sub new → IsCommand (with_subcommand app below.top) new
adds_command old sub new app below is under added = grind arith

-- the next of a list
pub takes_next : {X : Type 0} (step : App → X → App) (start : App) (xs : List X) (i : ℕ) (d : X) → i < length xs
    → (c : Command) → IsCommand (step (fold step start (take i xs)) (get_or xs i d)) c
    → IsCommand (fold step start (take (i + 1) xs)) c
takes_next step start xs i d in_list c is = grind (arith, fold_more)

-- a list that is gone through
pub gone_through : {X : Type 0} (step : App → X → App) (start : App) (xs : List X) (i : ℕ) (c : Command)
    → IsCommand (fold step start (take i xs)) c → length xs ≤ i → IsCommand (fold step start xs) c
gone_through step start xs i c is past = subst (λ all. IsCommand (fold step start all) c) (take_all i xs past) is
