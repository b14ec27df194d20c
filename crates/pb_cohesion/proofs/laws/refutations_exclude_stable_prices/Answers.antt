use Rattle.pb_cohesion.proofs.RefutingStable.{none_stable_support, none_stable_with_cover_support, nothing_refutes_stable, stable-from-plain}
use Rattle.pb_cohesion.proofs.laws.refutations_exclude_stable_prices.Goals as goal

pub returns-clause-all : goal.returns-clause-all
returns-clause-all c = λ e w r refutes none p supports. none_stable_support e w r refutes none p supports

pub returns-clause-covered : goal.returns-clause-covered
returns-clause-covered c = λ e w r refutes some p supports cover. none_stable_with_cover_support e w r refutes some p
    supports cover

pub returns-clause-supported : goal.returns-clause-supported
returns-clause-supported c = λ e w p cover supports covered r refutes. nothing_refutes_stable e w p cover supports
    covered r refutes

pub returns-clause-plain : goal.returns-clause-plain
returns-clause-plain c = stable-from-plain
