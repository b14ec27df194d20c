use Rattle.std.proofs.Common.{◌≡◌, List, IfOk, ℕ, subst}
use Rattle.pb_records.specs.Inside.RecordWriter.{held}
use Rattle.pb_certificate.proofs.OnPrices.Canon.Steps.{text-whole}
use Rattle.pb_certificate.proofs.prices.canonical.draft.CanonicalDraft.into_text.Goals as goal

pub returns : goal.returns
returns c = λ e p has fits. (
    let whole = text-whole e p (held c.args.self.writer) fits has.text in
    subst (λ (x : List ℕ). IfOk c.close.result (λ text. text.items ≡ x)) whole c.close.ensures
    )
