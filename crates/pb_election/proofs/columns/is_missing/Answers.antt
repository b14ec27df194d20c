use Rattle.std.proofs.Common.{◌≡◌, ◌∙◌, ap, Bool, true, false, refl}
use Rattle.std.specs.Prelude.{is_none, not}
use Rattle.csv.specs.Records.{fields_of}
use Rattle.pb_election.specs.Rows.{is_named}
use Rattle.pb_election.proofs.ColumnLemmas.{missing-is}
use Rattle.pb_election.proofs.columns.is_missing.Goals as goal

turned : (a b : Bool) → a ≡ not b → b ≡ not a
turned a true e = rw e refl
turned a false e = rw e refl

pub returns : goal.returns
returns c =
    let none : c.is_none.result ≡ is_none c.column_named.result = turned _ _ c.is_none.ensures in
    none ∙ ap is_none c.column_named.ensures.first
    ∙ missing-is (is_named c.args.name.now) 0 (fields_of c.args.header.now)
