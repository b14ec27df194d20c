use Rattle.std.proofs.Common.{◌≡◌, Option, Some, arith, option_map, subst, sym}
use Rattle.std.specs.Prelude.{IfErr, IfOk, List}
use Rattle.clap.specs.Simple.{subcommand_rows}
use Rattle.clap.specs.Words.{Row, Text, found_of, rows_of, subcommand_name_of, subcommand_rows_of}
use Rattle.clap.specs.declared.parser.matches.ArgMatches.{ArgMatches, out-ArgMatches}
use Rattle.pb_command.specs.Tasks.{IsRefusalOf, asked, asked_in}
use Rattle.pb_command.proofs.task.task_in.Goals as goal

-- the rows of the subcommand that was met, behind its name
met : (m : ArgMatches) (name : Text) (rows : List Row) → Some name ≡ subcommand_name_of m
    → Some rows ≡ option_map (λ p. p.1) (subcommand_rows (out-ArgMatches m).subcommand)
    → subcommand_rows_of m ≡ Some (name, rows)
met m name rows named found = grind arith

pub returns-in-Some-clause-task : goal.returns-in-Some-clause-task
unfolding asked_in
returns-in-Some-clause-task c =
    let is = met c.args.matches.now c.in-Some.name.now (rows_of (found_of c.in-Some.inner.now)) c.in-Some.ensures.name
    c.in-Some.ensures.rows in
    subst (λ (o : Option (Text × List Row)). IfOk c.command_task.result (λ t. option_map asked t ≡ asked_in o)) (sym is)
    c.command_task.ensures.task

pub returns-in-Some-clause-refused : goal.returns-in-Some-clause-refused
unfolding asked_in
returns-in-Some-clause-refused c =
    let is = met c.args.matches.now c.in-Some.name.now (rows_of (found_of c.in-Some.inner.now)) c.in-Some.ensures.name
    c.in-Some.ensures.rows in
    subst (λ (o : Option (Text × List Row)). IfErr c.command_task.result (IsRefusalOf (asked_in o))) (sym is)
    c.command_task.ensures.refused

pub returns-in-None : goal.returns-in-None
unfolding asked_in
returns-in-None c = grind arith
