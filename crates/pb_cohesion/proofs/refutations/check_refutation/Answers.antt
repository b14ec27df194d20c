use Rattle.std.proofs.Common.{sym, subst}
use Rattle.std.specs.Prelude.{◌≡◌, ◌<◌, ◌↔◌, ◌⊎◌, true}
use Rattle.pb_cohesion.specs.FirstU.{FirstStableU, FirstU, SaysUnpriceable, SaysUnpriceableStable}
use Rattle.pb_cohesion.specs.Refutations.{NoPricesSupport, NoPricesWithCoverSupport, NoStablePricesSupport, NoStablePricesWithCoverSupport, Refutes, RefutesAsked, RefutesStable}
use Rattle.pb_cohesion.specs.declared.RefutationVerdict.{RefutationVerdict}
use Rattle.pb_cohesion.specs.declared.RefutationVerdict.TheVariants as verdict
use Rattle.pb_cohesion.proofs.Refuted.{says-all, says-asked, says-covered, says-none-stable, says-none-support, says-refuted, says-refuted-stable}
use Rattle.pb_cohesion.proofs.refutations.check_refutation.Goals as goal

pub returns-clause-refuted : goal.returns-clause-refuted
returns-clause-refuted c =
    let e = c.args.election.now in
    let w = c.args.outcome.now.marks in
    let r = c.args.refutation.now in
    let is = c.verdict.ensures c.args.stable e w r c.refutation_findings.ensures in
    subst (λ (v : RefutationVerdict). SaysUnpriceable v ↔ Refutes e w r) (sym is) (says-refuted c.args.stable e w r)

pub returns-clause-asked : goal.returns-clause-asked
returns-clause-asked c =
    let e = c.args.election.now in
    let w = c.args.outcome.now.marks in
    let r = c.args.refutation.now in
    let is = c.verdict.ensures c.args.stable e w r c.refutation_findings.ensures in
    subst
    (λ (v : RefutationVerdict). (SaysUnpriceable v ⊎ SaysUnpriceableStable v) ↔ RefutesAsked c.args.stable e w r)
    (sym is) (says-asked c.args.stable e w r)

pub returns-clause-refuted_stable : goal.returns-clause-refuted_stable
returns-clause-refuted_stable c =
    let e = c.args.election.now in
    let w = c.args.outcome.now.marks in
    let r = c.args.refutation.now in
    let is = c.verdict.ensures c.args.stable e w r c.refutation_findings.ensures in
    subst
    (λ (v : RefutationVerdict). SaysUnpriceableStable v
    ↔ ((c.args.stable ≡ true) × RefutesStable e w r × (Refutes e w r → ⊥))) (sym is)
    (says-refuted-stable c.args.stable e w r)

pub returns-clause-all : goal.returns-clause-all
returns-clause-all c =
    let e = c.args.election.now in
    let w = c.args.outcome.now.marks in
    let r = c.args.refutation.now in
    let is = c.verdict.ensures c.args.stable e w r c.refutation_findings.ensures in
    subst
    (λ (v : RefutationVerdict). (v ≡ verdict.Unpriceable) ⊎ (v ≡ verdict.UnpriceableStable) → r.cover ≡ 0) (sym is)
    (says-all c.args.stable r.cover (FirstU e w r) (FirstStableU e w r))

pub returns-clause-covered : goal.returns-clause-covered
returns-clause-covered c =
    let e = c.args.election.now in
    let w = c.args.outcome.now.marks in
    let r = c.args.refutation.now in
    let is = c.verdict.ensures c.args.stable e w r c.refutation_findings.ensures in
    subst
    (λ (v : RefutationVerdict). (v ≡ verdict.UnpriceableUnderCover) ⊎ (v ≡ verdict.UnpriceableStableUnderCover)
    → 0 < r.cover) (sym is) (says-covered c.args.stable r.cover (FirstU e w r) (FirstStableU e w r))

pub returns-clause-unpriceable : goal.returns-clause-unpriceable
returns-clause-unpriceable c =
    let e = c.args.election.now in
    let w = c.args.outcome.now.marks in
    let r = c.args.refutation.now in
    let is = c.verdict.ensures c.args.stable e w r c.refutation_findings.ensures in
    subst
    (λ (v : RefutationVerdict). (v ≡ verdict.Unpriceable → NoPricesSupport e w)
    × (v ≡ verdict.UnpriceableUnderCover → NoPricesWithCoverSupport e w)) (sym is)
    (says-none-support c.args.stable e w r)

pub returns-clause-unpriceable_stable : goal.returns-clause-unpriceable_stable
returns-clause-unpriceable_stable c =
    let e = c.args.election.now in
    let w = c.args.outcome.now.marks in
    let r = c.args.refutation.now in
    let is = c.verdict.ensures c.args.stable e w r c.refutation_findings.ensures in
    subst
    (λ (v : RefutationVerdict). (v ≡ verdict.UnpriceableStable → NoStablePricesSupport e w)
    × (v ≡ verdict.UnpriceableStableUnderCover → NoStablePricesWithCoverSupport e w)) (sym is)
    (says-none-stable c.args.stable e w r)
