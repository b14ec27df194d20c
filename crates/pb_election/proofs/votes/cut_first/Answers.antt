use Rattle.std.proofs.Common.{◌∙◌, ◌∷◌, ◌++◌, ap, sym, take}
use Rattle.std.specs.List.{list_any}
use Rattle.std.specs.Str.{byte}
use Rattle.pb_records.proofs.CellLemmas.{range-start}
use Rattle.pb_election.proofs.VoteLemmas.{comma-boundary, comma-parts, first-comma, is_comma, no-comma}
use Rattle.pb_election.proofs.votes.cut_first.Goals as goal

pub range-requires-clause-end_boundary : goal.range-requires-clause-end_boundary
range-requires-clause-end_boundary c =
    (comma-boundary c.args.text.now c.in-Some.comma c.utf8.text
    (first-comma c.args.text.now c.in-Some.comma c.in-Some.ensures)).0

pub range_from-requires : goal.range_from-requires
range_from-requires c =
    λ h.
    (comma-boundary c.args.text.now c.in-Some.comma c.utf8.text
    (first-comma c.args.text.now c.in-Some.comma c.in-Some.ensures)).1

pub returns-in-Some-clause-piece : goal.returns-in-Some-clause-piece
returns-in-Some-clause-piece c =
    let text = c.args.text.now in
    let i = c.in-Some.comma in
    ap (list_any is_comma) (c.range.ensures.value ∙ range-start text i) ∙ (first-comma text i c.in-Some.ensures).before

pub returns-in-Some-clause-rest : goal.returns-in-Some-clause-rest
returns-in-Some-clause-rest c =
    let text = c.args.text.now in
    let i = c.in-Some.comma in
    comma-parts text i (first-comma text i c.in-Some.ensures)
    ∙ ap (λ rest. take i text ++ byte "," ∷ rest) (sym c.range_from.ensures.value)
    ∙ ap (λ piece. piece ++ byte "," ∷ c.range_from.result.now) (sym (range-start text i) ∙ sym c.range.ensures.value)

pub returns-in-None-clause-piece : goal.returns-in-None-clause-piece
returns-in-None-clause-piece c = no-comma c.args.text.now c.in-None.ensures
