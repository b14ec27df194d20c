use Rattle.std.proofs.Common.{◌∙◌, ◌++◌, ℕ, ap, sym, subst}
use Rattle.csv.proofs.WriteFacts.{on_ok_both}
use Rattle.pb_election.specs.Instance.{Instance, projects}
use Rattle.pb_election.specs.Text.{IsElection}
use Rattle.pb_records.specs.Inside.RecordWriter.{held}
use Rattle.pb_certificate.specs.Prices.Canon.{lines, rows_of_voter}
use Rattle.pb_certificate.specs.Prices.{IsPaymentMap}
use Rattle.pb_certificate.proofs.OnPrices.Canon.Steps.{text-next}
use Rattle.pb_certificate.proofs.prices.canonical.draft.CanonicalDraftPaymentSink.take.Goals as goal

pub add_payments-requires : goal.add_payments-requires
add_payments-requires c =
    let has = c.requires.has_prices in
    let map = subst (λ (m : ℕ). IsPaymentMap m c.args.payments.now) has.each_project c.requires.map in
    record {
      «open» = has.is_open;
      election = subst IsElection (sym has.election) has.sound;
      payments = subst (λ (e : Instance). IsPaymentMap (projects e) c.args.payments.now) (sym has.election) map;
    }

pub returns : goal.returns
returns c = λ e p has next. (
    on_ok_both c.add_payments.result (λ is_open written. record {
      election = has.election;
      sound = has.sound;
      each_project = has.each_project;
      is_open = is_open;
      text = text-next e p c.args.payments.now c.args.voter (held c.args.self.now.writer)
          (held c.add_payments.new.writer) next has.text
          (written
          ∙ ap
          (λ (x : Instance). held c.args.self.now.writer
          ++ lines (rows_of_voter x c.args.voter c.args.payments.now)) has.election);
    }) c.add_payments.ensures.«open» c.add_payments.ensures.text
    )
