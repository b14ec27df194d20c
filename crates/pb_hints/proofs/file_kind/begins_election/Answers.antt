use Rattle.std.proofs.Common.{◌≡◌, ◌∙◌, ap, false, inl, inr, sym}
use Rattle.std.specs.Option.{option_map_or}
use Rattle.pb_hints.specs.Kinds.{begins_election, marks_meta}
use Rattle.pb_hints.proofs.First.{with-bytes, with-end, with-record}
use Rattle.pb_hints.proofs.file_kind.begins_election.Goals as goal

pub returns-in-Record : goal.returns-in-Record
returns-in-Record c =
    let start = c.open-cursor.result in
    let met = rw c.in-Record.is at c.in_ok-advance.ensures.next in
    c.marks_meta.ensures ∙ ap marks_meta c.row.ensures
    ∙ sym (
    ap begins_election (sym c.open-cursor.ensures.left)
    ∙ ap (λ r. option_map_or marks_meta r false) (with-record start c.advance.new.self met)
    )

pub returns : goal.returns
returns c =
    let start = c.open-cursor.result in
    let none : begins_election start.left ≡ false =
    elim c.in-NotText.is [
      | inl is ↦ ap (λ r. option_map_or marks_meta r false) (with-bytes start c.advance.new.self (rw is at c.in_ok-advance.ensures.next))
      | inr is ↦ ap (λ r. option_map_or marks_meta r false) (with-end start c.advance.new.self (rw is at c.in_ok-advance.ensures.next))
    ] in
    sym (ap begins_election (sym c.open-cursor.ensures.left) ∙ none)
