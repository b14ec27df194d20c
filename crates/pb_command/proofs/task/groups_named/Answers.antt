use Rattle.std.proofs.Common.{◌≡◌, ◌∙◌, ap, codes, false, option_map, sym, true}
use Rattle.std.proofs.lemmas.Bool.{or_from, or_left, or_right}
use Rattle.clap.specs.Words.{found_of, rows_of}
use Rattle.pb_command.specs.Tasks.{is_named, names_conditions, outcome_paths}
use Rattle.pb_command.proofs.Abouts.{beside_groups, no_such_measure}
use Rattle.pb_command.proofs.task.groups_named.Goals as goal

pub returns-then-has_text-clause-refused : goal.returns-then-has_text-clause-refused
returns-then-has_text-clause-refused c =
    let rows = rows_of (found_of c.args.matches.now) in
    let named : is_named rows (codes "certificate") ≡ true = sym c.has_text.ensures ∙ c.if-has_text.true in
    beside_groups rows c.words_refused.result (or_left _ _ named) c.words_refused.ensures

pub returns-then-has_conditions-clause-refused : goal.returns-then-has_conditions-clause-refused
returns-then-has_conditions-clause-refused c =
    let rows = rows_of (found_of c.args.matches.now) in
    let conditions : names_conditions rows ≡ true = sym c.has_conditions.ensures ∙ c.if-has_conditions.true in
    beside_groups rows c.words_refused-then-has_conditions.result (or_right _ _ conditions)
    c.words_refused-then-has_conditions.ensures

pub returns-in-None-clause-refused : goal.returns-in-None-clause-refused
returns-in-None-clause-refused c =
    let rows = rows_of (found_of c.args.matches.now) in
    let unnamed : is_named rows (codes "certificate") ≡ false = sym c.has_text.ensures ∙ c.if-has_text.false in
    let unconditional : names_conditions rows ≡ false = sym c.has_conditions.ensures ∙ c.if-has_conditions.false in
    no_such_measure rows (outcome_paths c.in-Some.inputs) c.no_measure.result (or_from _ _ unnamed unconditional)
    (ap (option_map outcome_paths) (sym c.in-Some.is) ∙ c.in_ok-inputs.ensures) (sym c.measure_of.ensures ∙ c.in-None.is)
    c.no_measure.ensures
