use Rattle.std.proofs.Common.{arith, ◌++◌, ◌∙◌, ap, refl, take}
use Rattle.std.proofs.KnownBytes.{Appends-trans}
use Rattle.pb_records.specs.Loading.{WriteCounts}
use Rattle.pb_records.proofs.WrittenParts.{rest_after, length_after, taken_some}
use Rattle.pb_records.proofs.loading.put.Goals as goal

pub loop-rest-preserved : goal.loop-rest-preserved
loop-rest-preserved g c =
    let i = c.loop-rest.invariant in
    let e = c.in-Ok.ensures in
    let l = length_after i.0 c.loop-rest.rest.now c.in-Ok.taken e.bound in
    let writes = ap (λ (x : WriteCounts). x.writes) e.counts in (
      i.0 ++ take c.in-Ok.taken c.loop-rest.rest.now,
      rest_after _ i.0 c.loop-rest.rest.now c.in-Ok.taken _ refl i.1,
      Appends-trans _ _ _ _ _ i.2 e.bytes,
      omega (arith, i.3, l, writes),
      rw (taken_some c.in-Ok.taken _ c.if-taken-gt0.true) at (ap (λ (x : WriteCounts). x.failures) e.counts) ∙ i.4,
      ap (λ (x : WriteCounts). x.flushes) e.counts ∙ i.5,
    )
