use Rattle.std.proofs.Common.{◌≡◌, ◌∙◌, codes, false, sym, true}
use Rattle.std.proofs.lemmas.Bool.{not_from_false, or_left, or_right}
use Rattle.clap.specs.Words.{found_of, rows_of}
use Rattle.pb_command.specs.Tasks.{is_named}
use Rattle.pb_command.proofs.Abouts.{no_certificate}
use Rattle.pb_command.proofs.task.certificate_named.Goals as goal

pub returns-then-has_text-clause-refused : goal.returns-then-has_text-clause-refused
returns-then-has_text-clause-refused c =
    let rows = rows_of (found_of c.args.matches.now) in
    let measured : is_named rows (codes "satisfaction") ≡ true = sym c.has_text.ensures ∙ c.if-has_text.true in
    no_certificate rows c.words_refused.result (or_left _ _ measured) c.words_refused.ensures

pub returns-then-not-has_text-clause-refused : goal.returns-then-not-has_text-clause-refused
returns-then-not-has_text-clause-refused c =
    let rows = rows_of (found_of c.args.matches.now) in
    let none : is_named rows (codes "certificate") ≡ false = sym c.has_text-2.ensures ∙ c.if-not-has_text.true in
    no_certificate rows c.words_refused-then-not-has_text.result (or_right _ _ (not_from_false _ none))
    c.words_refused-then-not-has_text.ensures
