use Rattle.std.proofs.Common.{◌≡◌, ◌∙◌, ℕ, ◌*◌, List, [], ◌∷◌, ap, arith, flat_map, length, refl, take}
use Rattle.std.proofs.lemmas.List.{length-take-le}
use Rattle.sha2.proofs.Facts256.{length-sha256}
use Rattle.pb_page.specs.Sums.{two_digits}
use Rattle.pb_page.proofs.digest.sum_of.Goals as goal

two-each : (bytes : List ℕ) → length (flat_map two_digits bytes) ≡ 2 * length bytes
two-each [] = refl
two-each (b ∷ bytes) = omega (arith, two-each bytes)

pub returns-clause-digits : goal.returns-clause-digits
returns-clause-digits c =
    let all = ap length c.digest-sum.ensures ∙ length-sha256 _ in
    let taken =
    length-take-le c.loop-byte.byte-index c.digest-sum.result (omega (arith, all, c.loop-byte.auto.byte-index-end)) in
    ap length c.loop-byte.invariant
    ∙ two-each (take c.loop-byte.byte-index c.digest-sum.result)
    ∙ omega (arith, taken, c.loop-byte-test.false, c.loop-byte.auto.byte-index-end)
