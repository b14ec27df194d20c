use Rattle.std.proofs.Common.{◌∙◌, ap, sym}
use Rattle.std.specs.Prelude.{is_some}
use Rattle.csv.specs.Records.{fields_of}
use Rattle.pb_election.specs.Rows.{is_named}
use Rattle.pb_election.proofs.ColumnLemmas.{none-repeated, repeated-all}
use Rattle.pb_election.proofs.columns.is_repeated.Goals as goal

pub returns-in-Some : goal.returns-in-Some
returns-in-Some c =
    c.is_some.ensures ∙ ap is_some c.column_from.ensures.first
    ∙ repeated-all (is_named c.args.name.now) c.in-Some.first (fields_of c.args.header.now)
    (sym c.in-Some.ensures.first)

pub returns-in-None : goal.returns-in-None
returns-in-None c =
    sym (none-repeated (is_named c.args.name.now) (fields_of c.args.header.now) (sym c.in-None.ensures.first))
