use Rattle.std.proofs.Common.{◌≡◌, arith}
use Rattle.std.proofs.lemmas.Nat.Gcd.{IsGcd-from_mod, IsGcd-from_zero}
use Rattle.pb_explain.proofs.Divisors.{gcd-is}
use Rattle.pb_explain.proofs.amounts.greatest_common_divisor.Goals as goal

pub loop-y-preserved : goal.loop-y-preserved
loop-y-preserved c = (omega arith, λ g h. c.loop-y.invariant.1 g (IsGcd-from_mod _ _ g h))

pub returns-clause-value : goal.returns-clause-value
returns-clause-value c =
    let last : c.loop-y.y ≡ 0 = omega arith in
    gcd-is c.args.a c.args.b c.loop-y.x c.requires (omega arith)
    (c.loop-y.invariant.1 c.loop-y.x (IsGcd-from_zero c.loop-y.x c.loop-y.y last))
