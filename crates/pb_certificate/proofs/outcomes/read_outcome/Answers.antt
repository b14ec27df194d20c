use Rattle.std.proofs.Common.{◌∙◌, ap, length, subst, sym, Bool, List}
use Rattle.std.proofs.lemmas.Result.{err_from_is_err_and}
use Rattle.pb_election.specs.Outcome.{Funding, funds}
use Rattle.pb_certificate.specs.Faults.{certificate_records, outcome_form}
use Rattle.pb_certificate.specs.Outcomes.Text.{IsOutcomeText}
use Rattle.pb_certificate.proofs.Ends.{stop-is-memory, stop-refuses}
use Rattle.pb_certificate.proofs.OnOutcomes.Clear.{outcome-clear}
use Rattle.pb_certificate.proofs.OnOutcomes.Answered.{whole-outcome}
use Rattle.pb_certificate.proofs.Unique.{outcome-text-length, outcome-text-same}
use Rattle.pb_certificate.proofs.outcomes.read_outcome.Goals as goal

pub of-requires : goal.of-requires
unfolding outcome_form
of-requires c =
    let recs = certificate_records c.args.bytes.now in
    let e = c.args.election.now in
    let text = whole-outcome e c.take_all.new.draft.begun c.take_all.new.draft.marks.items recs
    c.in_ok-take_all.ensures.taken c.in_ok-take_all.ensures.none in
    ap length c.into_marks.ensures ∙ outcome-text-length recs e c.take_all.new.draft.marks.items text

pub returns-clause-found : goal.returns-clause-found
unfolding outcome_form
returns-clause-found c =
    let recs = certificate_records c.args.bytes.now in
    let e = c.args.election.now in
    let text = whole-outcome e c.take_all.new.draft.begun c.take_all.new.draft.marks.items recs
    c.in_ok-take_all.ensures.taken c.in_ok-take_all.ensures.none in
    subst (IsOutcomeText recs e) (sym (ap (λ (w : Funding). w.marks) c.of.ensures.value ∙ c.into_marks.ensures)) text

pub returns-clause-funds : goal.returns-clause-funds
unfolding outcome_form
returns-clause-funds c = c.of.ensures.value
    ∙ ap (λ (ms : List Bool). funds ms c.args.election.now) (sym (ap (λ (w : Funding). w.marks) c.of.ensures.value))

pub returns-clause-only : goal.returns-clause-only
unfolding outcome_form
returns-clause-only c = λ marks text. (
    let recs = certificate_records c.args.bytes.now in
    let e = c.args.election.now in
    let own = whole-outcome e c.take_all.new.draft.begun c.take_all.new.draft.marks.items recs
    c.in_ok-take_all.ensures.taken c.in_ok-take_all.ensures.none in
    c.of.ensures.value
    ∙ ap (λ (ms : List Bool). funds ms e)
    (c.into_marks.ensures ∙ outcome-text-same recs e c.take_all.new.draft.marks.items marks own text)
    )

pub returns-in_err-take_all-clause-refused : goal.returns-in_err-take_all-clause-refused
unfolding outcome_form
returns-in_err-take_all-clause-refused c =
    let err = err_from_is_err_and c.from_residual-in_err-take_all.result c.from_residual-in_err-take_all.ensures.1 in
    rw (err.1, err.2)
    (stop-refuses (outcome_form c.args.election.now) (certificate_records c.args.bytes.now) c.in_err-take_all.field-0.0
    c.in_err-take_all.ensures.stopped)

pub returns-in_err-take_all-clause-only : goal.returns-in_err-take_all-clause-only
unfolding outcome_form
returns-in_err-take_all-clause-only c = λ marks text. (
    let recs = certificate_records c.args.bytes.now in
    let e = c.args.election.now in
    let err = err_from_is_err_and c.from_residual-in_err-take_all.result c.from_residual-in_err-take_all.ensures.1 in
    rw (err.1, err.2)
    (stop-is-memory (outcome_form e) recs c.in_err-take_all.field-0.0 c.in_err-take_all.ensures.stopped
    (λ f. outcome-clear recs e marks text f.record_number f.fault))
    )
