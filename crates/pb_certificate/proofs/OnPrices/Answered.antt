-- Records without a fault are the text of prices.
use Rattle.std.proofs.Common.{List, inl, inr}
use Rattle.std.specs.Prelude.{◌⊎◌}
use Rattle.pb_election.specs.Instance.{Instance}
use Rattle.pb_records.specs.Records.{Rec}
use Rattle.pb_records.proofs.FirstOrNone.{HasFirst}
use Rattle.pb_records.proofs.Headed.{states-or-first}
use Rattle.pb_certificate.specs.Faults.{price_form}
use Rattle.pb_certificate.specs.Prices.{Prices}
use Rattle.pb_certificate.specs.Prices.Kind.{price_kind}
use Rattle.pb_certificate.specs.Prices.Text.{IsPriceText}
use Rattle.pb_certificate.proofs.OnPrices.Stated.{states-text}

pub price-answered : (recs : List Rec) (e : Instance)
    → ((p : Prices) × IsPriceText recs e p) ⊎ HasFirst (price_form e) recs
unfolding price_form
price-answered recs e =
    elim (states-or-first (price_kind e) recs) [ inl s ↦ inl (states-text recs e s) | inr first ↦ inr first ]
