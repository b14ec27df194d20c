use Rattle.std.proofs.Common.{◌≡◌, ◌∙◌, ap, inl, inr, sym}
use Rattle.std.specs.Prelude.{None, option_and_then}
use Rattle.pb_hints.specs.Kinds.{kind_by_head, kind_named}
use Rattle.pb_hints.proofs.First.{with-bytes, with-end, with-record}
use Rattle.pb_hints.proofs.file_kind.kind_by_head.Goals as goal

pub returns-in-Record : goal.returns-in-Record
returns-in-Record c =
    let start = c.open-cursor.result in
    let met = rw c.in-Record.is at c.in_ok-advance.ensures.next in
    c.kind_named.ensures ∙ ap kind_named c.row.ensures
    ∙ sym (
    ap kind_by_head (sym c.open-cursor.ensures.left)
    ∙ ap (option_and_then kind_named) (with-record start c.advance.new.self met)
    )

pub returns : goal.returns
returns c =
    let start = c.open-cursor.result in
    let none : kind_by_head start.left ≡ None =
    elim c.in-NotText.is [
      | inl is ↦ ap (option_and_then kind_named) (with-bytes start c.advance.new.self (rw is at c.in_ok-advance.ensures.next))
      | inr is ↦ ap (option_and_then kind_named) (with-end start c.advance.new.self (rw is at c.in_ok-advance.ensures.next))
    ] in
    sym (ap kind_by_head (sym c.open-cursor.ensures.left) ∙ none)
