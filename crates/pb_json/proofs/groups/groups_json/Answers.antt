use Rattle.std.proofs.Common.{Option, subst, sym}
use Rattle.std.specs.Prelude.{All, IfSome}
use Rattle.pb_cohesion.specs.declared.GroupFigures.{GroupFigures}
use Rattle.pb_election.specs.Instance.{Instance}
use Rattle.pb_json.specs.Groups.{CanBeTold}
use Rattle.pb_json.proofs.Shown.{first_told, shown_told}
use Rattle.pb_json.proofs.groups.groups_json.Goals as goal

pub failed_or_null-requires : goal.failed_or_null-requires
failed_or_null-requires c =
    let of = CanBeTold c.election-election.result.now in
    let told = subst (λ (e : Instance). All (CanBeTold e) c.args.figures.now) (sym c.election-election.ensures)
    c.requires.figures in
    subst (λ (o : Option GroupFigures). IfSome o of) (sym c.first_short-short.ensures)
    (first_told of c.args.figures.now told)

pub group_or_null-requires : goal.group_or_null-requires
group_or_null-requires c =
    let of = CanBeTold c.election-election.result.now in
    let told = subst (λ (e : Instance). All (CanBeTold e) c.args.figures.now) (sym c.election-election.ensures)
    c.requires.figures in
    subst (λ (o : Option GroupFigures). IfSome o of) (sym c.shown_of.ensures)
    (shown_told of c.args.figures.now told)
