use Rattle.std.proofs.Common.{◌∙◌, ap, ap₂, option_map, subst, sym}
use Rattle.clap.specs.Words.{found_of, rows_of}
use Rattle.pb_command.specs.Tasks.{IsRefusalOf, about, about_in, language_in, mode_in, paged}
use Rattle.pb_command.proofs.Abouts.{handed_on, no_page_language, paged_refusal}
use Rattle.pb_command.proofs.task.page_task.Goals as goal

pub returns-in_err-subject-clause-refused : goal.returns-in_err-subject-clause-refused
returns-in_err-subject-clause-refused c =
    let rows = rows_of (found_of c.args.matches.now) in
    handed_on _ _ _ c.from_residual.ensures
    (paged_refusal (mode_in rows) (language_in rows) (about_in rows) c.in_err-subject.field-0.0 c.in_err-subject.ensures.refused)

pub returns-in-None-clause-refused : goal.returns-in-None-clause-refused
returns-in-None-clause-refused c =
    let mode = mode_in (rows_of (found_of c.args.matches.now)) in
    let named = ap (option_map about) (sym c.in-Some.is) ∙ c.in_ok-subject.ensures.subject in
    let none = sym c.in-None.is ∙ c.language_of.ensures in
    subst (λ o. IsRefusalOf o c.no_language.result) (ap₂ (λ s l. option_map (paged mode l) s) named none)
    (no_page_language c.in-Some.subject mode c.no_language.result c.no_language.ensures)
