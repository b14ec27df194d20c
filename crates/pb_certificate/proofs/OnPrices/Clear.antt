-- The text of a price certificate has no fault.
use Rattle.std.proofs.Common.{List, ℕ}
use Rattle.pb_election.specs.Instance.{Instance}
use Rattle.pb_records.specs.FirstFault.{IsFirstFault}
use Rattle.pb_records.specs.Records.{Rec}
use Rattle.pb_records.proofs.Headed.{states-clear}
use Rattle.pb_certificate.specs.Faults.{price_form}
use Rattle.pb_certificate.specs.Prices.{Prices}
use Rattle.pb_certificate.specs.Prices.Kind.{price_kind}
use Rattle.pb_certificate.specs.Prices.Text.{IsPriceText}
use Rattle.pb_certificate.specs.declared.refusal.CertFault.{CertFault}
use Rattle.pb_certificate.proofs.OnPrices.Stated.{text-states}

pub price-clear : (recs : List Rec) (e : Instance) (p : Prices) → IsPriceText recs e p → (k : ℕ) (f : CertFault)
    → IsFirstFault (price_form e) recs k f → ⊥
unfolding price_form
price-clear recs e p t = states-clear (price_kind e) recs (text-states recs e p t)
