-- When a price system supports an outcome.
use Rattle.std.specs.Prelude.{IsFalse, IsTrue, Bool, List}
use Rattle.pb_election.specs.Instance.{Instance}
use Rattle.pb_certificate.specs.Prices.{Prices}
use Rattle.pb_cohesion.specs.Conditions.{C1, C2, C3, C4, C5, Cover, Exhaustive, Feasible, S5}
use Rattle.pb_cohesion.specs.declared.Mode.{Mode}

-- the prices support the outcome by all conditions that the mode asks for, in the plain or the stable form
pub record Supports (m : Mode) (e : Instance) (w : List Bool) (p : Prices) : Type 0 where
  pub feasible : Feasible e w
  pub exhausts : IsTrue m.exhaustive → Exhaustive e w
  pub covers : IsTrue m.cover → Cover e p
  pub approved : C1 e p
  pub within_budget : C2 e p
  pub paid_for : C3 e w p
  pub none_wasted : C4 e w p
  pub plain : IsFalse m.stable → C5 e w p
  pub stable_form : IsTrue m.stable → S5 e w p
