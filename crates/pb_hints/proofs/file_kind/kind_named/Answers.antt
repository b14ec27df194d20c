use Rattle.std.proofs.Common.{◌∙◌, refl, sym}
use Rattle.pb_hints.proofs.file_kind.kind_named.Goals.{then-is_pair-3-via-then-is_pair-3, then-is_pair-3-via-else-is_pair-3+then-is_pair-4}
use Rattle.pb_hints.proofs.file_kind.kind_named.Goals as goal

pub returns-then-is_pair : goal.returns-then-is_pair
returns-then-is_pair c = rw (sym c.is_pair.ensures ∙ c.if-is_pair.true) refl

pub returns-then-is_pair-2 : goal.returns-then-is_pair-2
returns-then-is_pair-2 c =
    rw (sym c.is_pair.ensures ∙ c.if-is_pair.false, sym c.is_pair-2.ensures ∙ c.if-is_pair-2.true) refl

pub returns-then-is_pair-3 : goal.returns-then-is_pair-3
returns-then-is_pair-3 c =
    elim c.then-is_pair-3.branch [
      | then-is_pair-3-via-then-is_pair-3 w ↦
          rw (
            sym c.is_pair.ensures ∙ c.if-is_pair.false,
            sym c.is_pair-2.ensures ∙ c.if-is_pair-2.false,
            sym c.is_pair-3.ensures ∙ w.if-is_pair-3.true,
          ) refl
      | then-is_pair-3-via-else-is_pair-3+then-is_pair-4 w ↦
          rw (
            sym c.is_pair.ensures ∙ c.if-is_pair.false,
            sym c.is_pair-2.ensures ∙ c.if-is_pair-2.false,
            sym c.is_pair-3.ensures ∙ w.if-is_pair-3.false,
            sym w.is_pair-else-is_pair-3.ensures ∙ w.if-is_pair-4.true,
          ) refl
    ]

pub returns-then-is_pair-5 : goal.returns-then-is_pair-5
returns-then-is_pair-5 c =
    rw (
      sym c.is_pair.ensures ∙ c.if-is_pair.false,
      sym c.is_pair-2.ensures ∙ c.if-is_pair-2.false,
      sym c.is_pair-3.ensures ∙ c.if-is_pair-3.false,
      sym c.is_pair-else-is_pair-3.ensures ∙ c.if-is_pair-4.false,
      sym c.is_pair-4.ensures ∙ c.if-is_pair-5.true,
    ) refl

pub returns : goal.returns
returns c =
    rw (
      sym c.is_pair.ensures ∙ c.if-is_pair.false,
      sym c.is_pair-2.ensures ∙ c.if-is_pair-2.false,
      sym c.is_pair-3.ensures ∙ c.if-is_pair-3.false,
      sym c.is_pair-else-is_pair-3.ensures ∙ c.if-is_pair-4.false,
      sym c.is_pair-4.ensures ∙ c.if-is_pair-5.false,
    ) refl
