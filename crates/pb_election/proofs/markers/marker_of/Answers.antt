use Rattle.std.proofs.Common.{◌∙◌, sym, ap}
use Rattle.csv.specs.Records.{fields_of}
use Rattle.pb_election.specs.Names.{lower}
use Rattle.pb_election.specs.Markers.{section_named}
use Rattle.pb_election.proofs.MarkerLemmas.{marker-full, marker-named, marker-none}
use Rattle.pb_election.proofs.markers.marker_of.Goals as goal

pub returns-in_default : goal.returns-in_default
returns-in_default c = sym (marker-none (fields_of c.args.row.now) (sym c.in_default.ensures.value))

pub returns-then-not-is_blank_from : goal.returns-then-not-is_blank_from
returns-then-not-is_blank_from c =
    sym (marker-full (fields_of c.args.row.now) (sym c.is_blank_from.ensures ∙ c.if-not-is_blank_from.true))

pub returns : goal.returns
returns c =
    c.section_named.ensures ∙ ap (λ n. section_named (lower n)) c.clean.ensures
    ∙ sym (marker-named (fields_of c.args.row.now) _ (sym c.in-Some.ensures.value)
    (sym c.is_blank_from.ensures ∙ c.if-not-is_blank_from.false))
