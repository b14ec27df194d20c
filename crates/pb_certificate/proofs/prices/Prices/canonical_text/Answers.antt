use Rattle.std.proofs.Common.{◌≡◌, ℕ, List, IfOk, subst}
use Rattle.pb_records.specs.Inside.RecordWriter.{held}
use Rattle.pb_certificate.proofs.OnPrices.Canon.Written.{canon-written}
use Rattle.pb_certificate.proofs.prices.Prices.canonical_text.Goals as goal

pub returns : goal.returns
returns c =
    let all = canon-written c.args.election.now c.args.self.now c.denominator.result c.budget.result
    (held c.open-writer.result) (held c.add_heads.new.writer) (held c.add_rows.new.writer)
    c.denominator.ensures.value c.budget.ensures.value c.open-writer.ensures.text c.in_ok-add_heads.ensures.text
    c.in_ok-add_rows.ensures.text in
    subst (λ (x : List ℕ). IfOk c.close.result (λ text. text.items ≡ x)) all c.close.ensures
