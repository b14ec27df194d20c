-- Sentences with their parts grouped to the right, as a format writes them.
use Rattle.std.proofs.Common.{◌≡◌, ◌++◌, ◌^◌, ℕ, append_assoc}
use Rattle.std.specs.Prelude.{codes, decimal}
use Rattle.pb_price.specs.declared.Comparison.{Comparison}
use Rattle.pb_records.specs.Records.{Text}
use Rattle.pb_explain.specs.Amounts.{amount, balance}
use Rattle.pb_explain.specs.GroupLines.{costs_told, share_told}
use Rattle.pb_explain.specs.PriceWords.{cost_and_sum}

pub cost-flat : (unit : ℕ) (sums_of rest : Text) (m : Comparison) → cost_and_sum unit sums_of m ++ rest
    ≡ codes " costs " ++ (amount unit m.bound ++ (codes ", and its supporters' "
    ++ (sums_of ++ (codes " come to " ++ (balance unit m.amount ++ rest)))))
unfolding cost_and_sum
cost-flat unit sums_of rest m = simp (append_assoc)

pub share-flat : (supporters parts_per_unit parts : ℕ) (rest : Text) → share_told supporters parts_per_unit parts ++ rest
    ≡ codes ": the share of its " ++ (decimal supporters ++ (codes " supporters is " ++ (amount parts_per_unit parts ++ rest)))
unfolding share_told
share-flat supporters parts_per_unit parts rest = simp (append_assoc)

pub costs-flat : (cost funded_for : ℕ) → costs_told cost funded_for
    ≡ codes ", it costs " ++ (amount (10 ^ 6) cost ++ (codes ", and " ++ (amount (10 ^ 6) funded_for
    ++ codes " was funded for them")))
unfolding costs_told
costs-flat cost funded_for = simp (append_assoc)
