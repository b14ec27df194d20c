use Rattle.pb_cohesion.proofs.Refuting.{none_support, none_with_cover_support, nothing_refutes}
use Rattle.pb_cohesion.proofs.laws.refutations_exclude_prices.Goals as goal

pub returns-clause-all : goal.returns-clause-all
returns-clause-all c = λ e w r refutes none p supports. none_support e w r refutes none p supports

pub returns-clause-covered : goal.returns-clause-covered
returns-clause-covered c = λ e w r refutes some p supports cover. none_with_cover_support e w r refutes some p supports
    cover

pub returns-clause-supported : goal.returns-clause-supported
returns-clause-supported c = λ e w p cover supports covered r refutes. nothing_refutes e w p cover supports covered r
    refutes
