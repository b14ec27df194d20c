use Rattle.std.proofs.Common.{◌∙◌, refl, sym}
use Rattle.pb_certificate.proofs.kind.kind_named.Goals as goal

pub returns-then-is_pair-3 : goal.returns-then-is_pair-3
returns-then-is_pair-3 c =
    rw (
      sym c.is_pair.ensures ∙ c.if-is_pair.false,
      sym c.is_pair-else-is_pair.ensures ∙ c.if-is_pair-2.false,
      sym c.is_pair-2.ensures ∙ c.if-is_pair-3.true,
    ) refl

pub returns : goal.returns
returns c =
    rw (
      sym c.is_pair.ensures ∙ c.if-is_pair.false,
      sym c.is_pair-else-is_pair.ensures ∙ c.if-is_pair-2.false,
      sym c.is_pair-2.ensures ∙ c.if-is_pair-3.false,
    ) refl
