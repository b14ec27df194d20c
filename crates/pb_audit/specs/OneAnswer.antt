-- That there is one answer, and no other.
use Rattle.std.specs.Prelude.{◌≡◌}

-- just one thing is such
pub record JustOne {A : Type 0} (is : A → Type 0) : Type 0 where
  pub one : (a : A) × is a
  pub no_other : (a b : A) → is a → is b → a ≡ b
