-- The numbers of what a yes to prices says of groups, and 0 where a file is refused.
use Rattle.std.specs.Prelude.{ℕ, Option, Some, None}
use Rattle.pb_price.specs.declared.OnGroups.{OnGroups}
use Rattle.pb_price.specs.declared.OnGroups.TheVariants.{Strict, Weak, Little}

abbrev pub groups_code : Option OnGroups → ℕ
groups_code None = 0
groups_code (Some Little) = 1
groups_code (Some Weak) = 2
groups_code (Some Strict) = 3
