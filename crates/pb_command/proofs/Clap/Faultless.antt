-- Words that clap finds no fault with stop at no `help`, and give each argument that is required.
use Rattle.std.proofs.Common.{◌≡◌, ◌||◌, refl, Bool, true, false, not, List, [], ◌∷◌, Option, Some, None, is_some, codes, arith}
use Rattle.std.specs.Prelude.{fold, slice_get}
use Rattle.std.specs.Str.{bytes_eq}
use Rattle.clap.specs.Kinds.{Kinds, check_kinds, or_else}
use Rattle.clap.specs.Simple.{Shape}
use Rattle.clap.specs.Takes.{is_given}
use Rattle.clap.specs.Faults.{check_fault, level_fault, turn_fault, walk_fault}
use Rattle.clap.specs.Walk.{Names, Text, Walk, first_of, nothing_held, rows_after, walked, walked_from}
use Rattle.pb_command.proofs.Clap.Positionals.{IsFull, IsPlaced, found_row_full, level_full}

-- of two faults there is neither
pub or_else_none : (a b : Kinds) → or_else a b ≡ [] → (a ≡ []) × (b ≡ [])
or_else_none [] b e = (refl, e)
or_else_none (k ∷ ks) b e = cc

-- the subcommand that was met is not `help`
abbrev pub IsNotHelp : Option (Text × List Text) → Type 0
IsNotHelp None = Unit {0}
IsNotHelp (Some p) = bytes_eq p.0 (codes "help") ≡ false

turn_stop : (s : Shape) (names : Names) (o : Option (Text × List Text)) (w : Walk) (word : Text)
    → s.disable_help_subcommand ≡ false → w.stopped ≡ o
    → turn_fault s names w word ≡ [] → IsNotHelp o → IsNotHelp (walked_from s.rules names o w word).stopped
turn_stop s names o w word helps at_o e n = grind arith

pub walk_stop : (s : Shape) (names : Names) (words : List Text) (w : Walk) → s.disable_help_subcommand ≡ false
    → walk_fault s names w words ≡ []
    → IsNotHelp w.stopped → IsNotHelp (fold (walked s.rules names) w words).stopped
unfolding walked walk_fault
walk_stop s names [] w helps e n = n
walk_stop s names (word ∷ rest) w helps e n =
    let parts = or_else_none (turn_fault s names w word) (walk_fault s names (walked s.rules names w word) rest) e in
    walk_stop s names rest (walked s.rules names w word) helps parts.1
    (turn_stop s names w.stopped w word helps refl parts.0 n)

-- a level without a fault has its required arguments
pub level_check : (s : Shape) (names : Names) (words : List Text) → level_fault s names nothing_held words false [] ≡ []
    → check_fault s (rows_after s.rules names words) false ≡ []
level_check s names words e = grind arith

pub last_passes : (a b c : Bool) → check_kinds a b c ≡ [] → c ≡ false
last_passes a b c e = grind arith

first_full : (vs : List Text) → IsFull vs → is_some (slice_get vs 0) ≡ true
first_full [] h = absurd h
first_full (v ∷ vs) h = refl

pub given_first : (id : Text) (s : Shape) (words : List Text) → IsPlaced id s.rules
    → is_given id (rows_after s.rules [] words) ≡ true
    → is_some (first_of id (rows_after s.rules [] words)) ≡ true
given_first id s words placed given = grind (arith, is_some, first_full, found_row_full, level_full)

-- which of the required arguments are given
pub one_given : (a : Bool) → (not a || false) ≡ false → a ≡ true
one_given true e = refl
one_given false e = cc

pub two_given : (a b : Bool) → (not a || (not b || false)) ≡ false → (a ≡ true) × (b ≡ true)
two_given a b e = grind arith

pub three_given : (a b d : Bool) → (not a || (not b || (not d || false))) ≡ false → (a ≡ true) × ((b ≡ true) × (d ≡ true))
three_given true b d e = (refl, two_given b d e)
three_given false b d e = cc
