-- Files and modes that C gives.
use Rattle.std.specs.Prelude.{Bool, true, false, ℕ, List, Option, Some, None}
use Rattle.pb_cohesion.specs.declared.Mode.{Mode}

-- a file that is given or not
abbrev pub given_file : Bool → List ℕ → Option (List ℕ)
given_file true bytes = Some bytes
given_file false bytes = None

-- the mode that asks for the stable form, for Exhaustive and for Cover, or for some of them
abbrev pub given_mode : Bool → Bool → Bool → Mode
given_mode stable exhaustive cover = record { stable = stable; exhaustive = exhaustive; cover = cover }
