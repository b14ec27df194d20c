use Rattle.std.proofs.lemmas.Result.{err_from_is_err_and}
use Rattle.pb_certificate.specs.Faults.{certificate_records, refutation_form}
use Rattle.pb_certificate.specs.Inside.Refutations.{refutation_had}
use Rattle.pb_certificate.specs.Refutations.{Weights}
use Rattle.pb_certificate.specs.Refutations.Text.{IsRefutationText}
use Rattle.pb_certificate.proofs.Ends.{stop-is-memory, stop-refuses}
use Rattle.pb_certificate.proofs.OnRefutations.Clear.{refutation-clear}
use Rattle.pb_certificate.proofs.OnRefutations.Answered.{states-weights}
use Rattle.pb_certificate.proofs.OnRefutations.Texts.{are-weights, refutation-text-same, weights-fit}
use Rattle.pb_certificate.proofs.refutations.Refutation.read.Goals as goal

-- the weights that were read
abbrev read-weights : goal.After-into_weights-cover → Weights
read-weights c = record { cover = c.into_weights-cover.result.0; rows = c.into_weights-cover.result.1.items }

own-text : (c : goal.After-into_weights-cover)
    → IsRefutationText (certificate_records c.args.bytes.now) c.args.election.now (read-weights c)
unfolding refutation_form
own-text c =
    states-weights c.args.election.now (refutation_had c.take_all.new.draft) (certificate_records c.args.bytes.now)
    c.into_weights-cover.result.0 c.into_weights-cover.result.1.items c.in_ok-take_all.ensures.taken
    c.in_ok-take_all.ensures.none c.into_weights-cover.ensures.cover c.into_weights-cover.ensures.rows

pub invariant_of-result : goal.invariant_of-result
unfolding refutation_form
invariant_of-result c = are-weights (certificate_records c.args.bytes.now) c.args.election.now (read-weights c) (own-text c)

pub returns-clause-found : goal.returns-clause-found
unfolding refutation_form
returns-clause-found c = own-text c

pub returns-clause-fits : goal.returns-clause-fits
unfolding refutation_form
returns-clause-fits c =
    weights-fit (certificate_records c.args.bytes.now) c.args.election.now (read-weights c) (own-text c)

pub returns-clause-only : goal.returns-clause-only
unfolding refutation_form
returns-clause-only c = λ w text. (
    refutation-text-same (certificate_records c.args.bytes.now) c.args.election.now (read-weights c) w (own-text c) text
    )

pub returns-in_err-take_all-clause-only : goal.returns-in_err-take_all-clause-only
unfolding refutation_form
returns-in_err-take_all-clause-only c = λ w text. (
    let recs = certificate_records c.args.bytes.now in
    let e = c.args.election.now in
    let err = err_from_is_err_and c.from_residual-in_err-take_all.result c.from_residual-in_err-take_all.ensures.1 in
    rw (err.1, err.2)
    (stop-is-memory (refutation_form e) recs c.in_err-take_all.field-0.0 c.in_err-take_all.ensures.stopped
    (λ f. refutation-clear recs e w text f.record_number f.fault))
    )

pub returns-in_err-take_all-clause-refused : goal.returns-in_err-take_all-clause-refused
unfolding refutation_form
returns-in_err-take_all-clause-refused c =
    let err = err_from_is_err_and c.from_residual-in_err-take_all.result c.from_residual-in_err-take_all.ensures.1 in
    rw (err.1, err.2)
    (stop-refuses (refutation_form c.args.election.now) (certificate_records c.args.bytes.now) c.in_err-take_all.field-0.0
    c.in_err-take_all.ensures.stopped)
