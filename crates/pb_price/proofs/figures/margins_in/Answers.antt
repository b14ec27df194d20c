use Rattle.std.proofs.Common.{◌*◌, length, sym, ◌∙◌, ap, subst}
use Rattle.pb_price.specs.Inside.Tallies.{AreSums}
use Rattle.pb_price.proofs.Reading.{margins-are}
use Rattle.pb_price.proofs.figures.margins_in.Goals as goal

pub margins_by-requires : goal.margins_by-requires
margins_by-requires c = record {
  outcome = c.requires.outcome;
  low = c.requires.low;
  high = c.requires.high;
  sums = ap length c.deref.ensures.value ∙ c.requires.sums;
}

pub returns-clause-found : goal.returns-clause-found
returns-clause-found c p is tally =
    let e = c.args.election.now in
    let grains = ap (λ n. 1000000 * n) c.from-grains_per_unit.ensures in
    let sums = subst (λ xs. AreSums e p xs) (sym c.deref.ensures.value) tally.sums in
    margins-are e c.args.outcome.now.marks p c.args.taken.now.denominator c.deref.result.now _ is sums grains
    c.in_ok-projects.ensures
