use Rattle.std.proofs.Common.{refl}
use Rattle.csv.specs.Records.{fields_of}
use Rattle.pb_records.proofs.Headed.{row-steps}
use Rattle.pb_certificate.specs.Inside.Refutations.{after_weight_row, refutation_had}
use Rattle.pb_certificate.specs.Refutations.Kind.{refutation_kind}
use Rattle.pb_certificate.specs.Refutations.Text.{stated_by}
use Rattle.pb_certificate.proofs.OnRefutations.Rows.{after-row}
use Rattle.pb_certificate.proofs.refutations.draft.RefutationDraft.take_record.Goals as goal

pub returns-in-Row : goal.returns-in-Row
returns-in-Row c =
    let e = c.args.election.now in
    let old = refutation_had c.args.self.now in
    let new = refutation_had c.add_row.new.self in
    let r = fields_of c.args.row.now in
    row-steps (refutation_kind e) (stated_by e) (λ kept. after_weight_row e kept r) old.0 new.0 old.1 new.1 r c.add_row.result
    (rw c.in-Row.is refl) c.add_row.ensures.head (λ rows. after-row e rows r) c.add_row.ensures.rows
