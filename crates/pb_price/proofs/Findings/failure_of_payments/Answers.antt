use Rattle.std.proofs.Common.{◌≡◌, rules}
use Rattle.std.specs.Prelude.{option_map}
use Rattle.pb_price.specs.declared.Failure.TheVariants as failure
use Rattle.pb_price.proofs.Findings.failure_of_payments.Goals as goal

pub returns : goal.returns
returns c =
    let second : c.map-over_budget.result ≡ option_map failure.C2 c.args.self.now.c2.first = search rules in
    let third : c.map-paid_wrongly.result ≡ option_map failure.C3 c.args.self.now.c3.first = search rules in
    let fourth : c.map-paid_in_vain.result ≡ option_map failure.C4 c.args.self.now.c4.first = search rules in
    rw c.in_default.is cc
