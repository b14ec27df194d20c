-- The row that the parts of a record state, whose numbers were read.
use Rattle.std.specs.Prelude.{ℕ, Option, Some, None, Result, Ok, Err}
use Rattle.pb_certificate.specs.declared.prices.row.PriceRow.{PriceRow}
use Rattle.pb_certificate.specs.declared.refusal.CertFault.{CertFault}
use Rattle.pb_certificate.specs.declared.refusal.CertFault.TheVariants as fault

-- the row of a voter and a project, where there are both
abbrev pub stated_row : Option ℕ → Option ℕ → ℕ → Result PriceRow CertFault
stated_row None project n = Err fault.UnknownVoter
stated_row (Some i) None n = Err fault.UnknownProject
stated_row (Some i) (Some j) n = Ok (record { voter = i; project = j; payment = n })
