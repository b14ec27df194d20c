use Rattle.std.proofs.Common.{◌≡◌, List, ℕ, take}
use Rattle.std.specs.BTreeSet.{contains_text}
use Rattle.pb_run.specs.Listings.{has_file}
use Rattle.pb_run.proofs.names.names_with.Given as goal

abbrev pub invariant-loop-entry : goal.invariant-loop-entry
invariant-loop-entry l =
    (name : List ℕ) → contains_text l.names name ≡ has_file (take l.entry-index l.listed) l.ending name
