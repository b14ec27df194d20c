-- The total of a folder is that of its entries together.
use Rattle.std.proofs.Common.{◌≡◌, ◌∙◌, ◌+◌, Bool, List, [], ◌∷◌, ◌++◌, ap, cond, refl}
use Rattle.std.specs.Prelude.{count_by, flat_map, map}
use Rattle.std.proofs.lemmas.List.Sums.{sum_by-append}
use Rattle.pb_audit.specs.Reports.{Found, added, endings_of, is_election, is_no, is_refused, is_yes, together, total_of}
use Rattle.pb_audit.specs.declared.total.Ending.{Ending}

more : (a b : List Ending) → total_of (a ++ b) ≡ added (total_of a) (total_of b)
more a b =
    let counts : (p : Ending → Bool) → count_by p (a ++ b) ≡ count_by p a + count_by p b =
    λ p. sum_by-append (λ e. cond (p e) 1 0) a b in
    λ i. record {
      elections = counts is_election i;
      yes = counts is_yes i;
      no = counts is_no i;
      refused = counts is_refused i;
    }

pub totals_add_up : (found : List Found)
    → total_of (flat_map endings_of found) ≡ together (map (λ f. total_of (endings_of f)) found)
totals_add_up [] = refl
totals_add_up (f ∷ fs) = more (endings_of f) (flat_map endings_of fs) ∙ ap (added (total_of (endings_of f))) (totals_add_up fs)
