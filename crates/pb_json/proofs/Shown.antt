-- What holds of the figures of all projects holds of those that are told.
use Rattle.std.proofs.Common.{Bool, true, false, List, [], ◌∷◌, Option, Some, None, All, cond}
use Rattle.std.specs.Prelude.{IfSome, fold}
use Rattle.std.specs.List.{AllByRecursion}
use Rattle.std.proofs.lemmas.List.Elements.{recursion_from_All}
use Rattle.pb_cohesion.specs.Shown.{closer, first_short, is_as_close, or_closest, shown}
use Rattle.pb_cohesion.specs.declared.GroupFigures.{GroupFigures}

first-holds : (P : GroupFigures → Type 0) (xs : List GroupFigures) → AllByRecursion P xs → IfSome (first_short xs) P
first-holds P [] each = tt
first-holds P (x ∷ xs) each = go x.falls_short (first-holds P xs each.1)
  where
    go : (b : Bool) → IfSome (first_short xs) P → IfSome (cond b (Some x) (first_short xs)) P
    go true rest = each.0
    go false rest = rest

closer-holds : (P : GroupFigures → Type 0) (o : Option GroupFigures) (y : GroupFigures) → IfSome o P → P y
    → IfSome (closer o y) P
closer-holds P None y h k = k
closer-holds P (Some x) y h k = go (is_as_close x y)
  where
    go : (b : Bool) → IfSome (cond b (Some x) (Some y)) P
    go true = h
    go false = k

closest-holds : (P : GroupFigures → Type 0) (o : Option GroupFigures) (xs : List GroupFigures) → IfSome o P
    → AllByRecursion P xs → IfSome (fold closer o xs) P
closest-holds P o [] h each = h
closest-holds P o (x ∷ xs) h each = closest-holds P (closer o x) xs (closer-holds P o x h each.0) each.1

or-holds : (P : GroupFigures → Type 0) (xs : List GroupFigures) (o : Option GroupFigures) → IfSome o P
    → AllByRecursion P xs → IfSome (or_closest xs o) P
or-holds P xs None h each = closest-holds P None xs tt each
or-holds P xs (Some x) h each = h

pub first_told : (P : GroupFigures → Type 0) (xs : List GroupFigures) → All P xs → IfSome (first_short xs) P
first_told P xs each = first-holds P xs (recursion_from_All P xs each)

pub shown_told : (P : GroupFigures → Type 0) (xs : List GroupFigures) → All P xs → IfSome (shown xs) P
shown_told P xs each =
    or-holds P xs (first_short xs) (first_told P xs each) (recursion_from_All P xs each)
