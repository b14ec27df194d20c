-- Which group is told of an election: the one of the first project for which a group falls short, or else the closest of
-- all.
use Rattle.std.specs.Prelude.{◌≤◌, ◌*◌, nat_le, if◌then◌else◌, Bool, List, Option, Some, None, find, fold}
use Rattle.pb_election.specs.Instance.{most_voters}
use Rattle.pb_cohesion.specs.Closest.{most_need}
use Rattle.pb_cohesion.specs.declared.GroupFigures.{GroupFigures}
use Rattle.pb_cohesion.specs.declared.GroupsVerdict.{GroupsVerdict}
use Rattle.pb_cohesion.specs.declared.GroupsVerdict.TheVariants.{Satisfied, Failed}

-- the first project for which a group falls short
abbrev pub first_short : List GroupFigures → Option GroupFigures
first_short xs = find (λ x. x.falls_short) xs

-- the verdict by it
abbrev pub verdict_by : Option GroupFigures → GroupsVerdict
verdict_by None = Satisfied
verdict_by (Some x) = Failed x.project x.voters

abbrev pub verdict_of : List GroupFigures → GroupsVerdict
verdict_of xs = verdict_by (first_short xs)

-- the share of its group covers no less of what it has to come to than that of another
abbrev pub is_as_close : GroupFigures → GroupFigures → Bool
is_as_close x y = nat_le (y.voters * x.need) (x.voters * y.need)

-- of two, the later only where the earlier is not as close
abbrev pub closer : Option GroupFigures → GroupFigures → Option GroupFigures
closer None y = Some y
closer (Some x) y = if is_as_close x y then Some x else Some y

-- the closest of all, and of several the first
abbrev pub closest : List GroupFigures → Option GroupFigures
closest xs = fold closer None xs

abbrev pub or_closest : List GroupFigures → Option GroupFigures → Option GroupFigures
or_closest xs None = closest xs
or_closest xs (Some x) = Some x

abbrev pub shown : List GroupFigures → Option GroupFigures
shown xs = or_closest xs (first_short xs)

-- the figures are small enough for their products
abbrev pub AreSmall : GroupFigures → Type 0
AreSmall x = (x.voters ≤ most_voters) × (x.need ≤ most_need)
