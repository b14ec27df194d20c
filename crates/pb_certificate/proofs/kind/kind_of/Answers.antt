use Rattle.std.proofs.Common.{◌≡◌, ◌∙◌, ap, inl, inr, sym}
use Rattle.pb_certificate.specs.Kinds.{kind_by, kind_by_head}
use Rattle.pb_certificate.specs.declared.kind.Kind.TheVariants as kind
use Rattle.pb_certificate.proofs.FirstHead.{kind-with, kind-with-bytes, kind-with-end}
use Rattle.pb_certificate.proofs.kind.kind_of.Goals as goal

pub returns-in-Record : goal.returns-in-Record
returns-in-Record c =
    let start = c.open-cursor.result in
    let met = rw c.in-Record.is at c.in_ok-advance.ensures.next in
    c.kind_named.ensures ∙ ap kind_by_head c.row.ensures
    ∙ sym (ap kind_by (sym c.open-cursor.ensures.left) ∙ kind-with start c.advance.new.self met)

pub returns : goal.returns
returns c =
    let start = c.open-cursor.result in
    let taken : kind_by start.left ≡ kind.Prices =
    elim c.in-NotText.is [
      | inl is ↦ kind-with-bytes start c.advance.new.self (rw is at c.in_ok-advance.ensures.next)
      | inr is ↦ kind-with-end start c.advance.new.self (rw is at c.in_ok-advance.ensures.next)
    ] in
    sym (ap kind_by (sym c.open-cursor.ensures.left) ∙ taken)
