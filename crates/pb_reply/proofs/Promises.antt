-- What an answer promises where no input was refused.
use Rattle.std.proofs.Common.{◌≡◌, ◌≤◌, ◌⊎◌, refl, Bool, true, false, List, Option, ℕ, inl, inr, arith, subst}
use Rattle.std.specs.Prelude.{◌↔◌, Err, None, Ok, Some}
use Rattle.pb_election.specs.Instance.{Instance}
use Rattle.pb_records.specs.Loading.{Delivery}
use Rattle.pb_certificate.specs.Prices.{Prices}
use Rattle.pb_certificate.specs.Refutations.{Weights}
use Rattle.pb_certificate.specs.declared.violations.measure.Measure.{Measure}
use Rattle.pb_cohesion.specs.FirstU.{SaysUnpriceable, SaysUnpriceableStable, refutation_verdict as verdict_on_weights}
use Rattle.pb_cohesion.specs.FirstV.{FirstV, violation_verdict_of}
use Rattle.pb_cohesion.specs.Refutations.{Refutes, RefutesAsked, RefutesStable}
use Rattle.pb_cohesion.specs.Satisfactions.{worth_by}
use Rattle.pb_cohesion.specs.declared.RefutationVerdict.{RefutationVerdict}
use Rattle.pb_cohesion.specs.declared.RefutationVerdict.TheVariants as refutation_verdict
use Rattle.pb_cohesion.proofs.Refuted.{says-asked}
use Rattle.pb_cohesion.proofs.Refuting.{none_support, none_with_cover_support}
use Rattle.pb_cohesion.proofs.RefutingStable.{none_stable_support, none_stable_with_cover_support, stable-from-plain}
use Rattle.pb_cohesion.proofs.Verdicts.{through, violates-iff}
use Rattle.pb_price.specs.First.{First, verdict_of}
use Rattle.pb_price.specs.declared.Failure.{Failure}
use Rattle.pb_cohesion.specs.declared.Mode.{Mode}
use Rattle.pb_price.proofs.Groups.{all-promised, plain-no, stable-no}
use Rattle.pb_price.proofs.FirstFalse.{supports-iff}
use Rattle.pb_certificate.specs.declared.kind.Kind.{Kind}
use Rattle.pb_certificate.specs.declared.kind.Kind.TheVariants as kind
use Rattle.pb_reply.specs.Certificates.{Certificate, OfPrices, OfRefutation, OfViolation, StatesCertificate, StatesKind, as_certificate, certificate_status, kind_in}
use Rattle.pb_reply.specs.Inputs.{Stated, StatesPrices}
use Rattle.pb_reply.specs.Replies.{price_status, refutation_status, violation_status}
use Rattle.pb_input.specs.declared.InputName.{InputName}
use Rattle.pb_input.specs.declared.InputName.TheVariants as name
use Rattle.pb_reply.proofs.Culprits.{denominator-low}
use Rattle.pb_reply.specs.Promises.{CertificatePromises, PricesPromise, RefutationPromises, ViolationPromises}
use Rattle.pb_reply.specs.declared.status.Status.TheVariants.{Yes, No}
use Rattle.pb_reply.specs.declared.status.Unmet.{Unmet}

pub no-yes : {A : Type 0} {u : Unmet} → No u ≡ Yes → A
no-yes h = cc

-- what a verdict on prices that are stated promises
pub prices_promise : (m : Mode) (input : InputName) (e : Instance) (w : List Bool) (d : Delivery) (p : Prices)
    → StatesPrices input e d (Ok p) → PricesPromise m (price_status (verdict_of (First m e w p))) e w p
prices_promise m input e w d p given = by_first (First m e w p) refl
  where
    low : 1 ≤ p.denominator
    low = denominator-low input e d p given

    by_first : (f : Option Failure) → First m e w p ≡ f → PricesPromise m (price_status (verdict_of f)) e w p
    by_first None is = record {
      exactly = (λ yes'. (supports-iff m e w p).0 is, λ s. refl);
      yes = λ yes'. all-promised m e w p low is;
      plain_no = λ c h. plain-no m e w p c h;
      stable_no = λ c h. stable-no m e w p c h;
    }
    by_first (Some f) is = record {
      exactly = (λ yes'. no-yes yes', λ s. let none : First m e w p ≡ None = (supports-iff m e w p).1 s in cc);
      yes = λ yes'. no-yes yes';
      plain_no = λ c h. plain-no m e w p c h;
      stable_no = λ c h. stable-no m e w p c h;
    }

-- what a verdict on a group and its demand promises
pub violation_promises : (e : Instance) (w : List Bool) (claim : Measure × List ℕ × List ℕ)
    → ViolationPromises (violation_status (violation_verdict_of (FirstV (worth_by claim.0 e) e w claim.1 claim.2))) e w claim
violation_promises e w claim = grind (arith, violates-iff, no-yes)

-- the status is a yes exactly where the verdict says that no prices support the outcome, or no stable ones
status-says : (v : RefutationVerdict)
    → (refutation_status v ≡ Yes) ↔ (SaysUnpriceable v ⊎ SaysUnpriceableStable v)
status-says refutation_verdict.Unpriceable = (λ h. inl (inl refl), λ h. refl)
status-says refutation_verdict.UnpriceableUnderCover = (λ h. inl (inr refl), λ h. refl)
status-says refutation_verdict.UnpriceableStable = (λ h. inr (inl refl), λ h. refl)
status-says refutation_verdict.UnpriceableStableUnderCover = (λ h. inr (inr refl), λ h. refl)
status-says (refutation_verdict.Failed f) = (
  λ h. no-yes h,
  λ h. elim h [
    | inl plain ↦ (elim plain [ inl e ↦ cc | inr e ↦ cc ])
    | inr stable ↦ (elim stable [ inl e ↦ cc | inr e ↦ cc ])
  ],
)

-- weights that refute what is asked about refute stable prices
asked-stable : (stable : Bool) (e : Instance) (w : List Bool) (r : Weights) → RefutesAsked stable e w r
    → RefutesStable e w r
asked-stable false e w r refutes = stable-from-plain e w r refutes
asked-stable true e w r refutes = refutes

plain-asked : (stable : Bool) (e : Instance) (w : List Bool) (r : Weights) → Refutes e w r → RefutesAsked stable e w r
plain-asked false e w r refutes = refutes
plain-asked true e w r refutes = stable-from-plain e w r refutes

-- what a verdict on weights promises
pub refutation_promises : (stable : Bool) (e : Instance) (w : List Bool) (r : Weights)
    → RefutationPromises stable (refutation_status (verdict_on_weights stable e w r)) e w r
refutation_promises stable e w r = record {
  exactly = exactly;
  whatever_yes = λ refutes none. (exactly.1 (plain-asked stable e w r refutes), none_support e w r refutes none);
  cover_yes = λ refutes some. (
    exactly.1 (plain-asked stable e w r refutes),
    none_with_cover_support e w r refutes some,
  );
  stable_yes = λ yes' none. none_stable_support e w r (asked-stable stable e w r (exactly.0 yes')) none;
  stable_cover_yes = λ yes' some.
      none_stable_with_cover_support e w r (asked-stable stable e w r (exactly.0 yes')) some;
}
  where
    exactly : (refutation_status (verdict_on_weights stable e w r) ≡ Yes) ↔ RefutesAsked stable e w r
    exactly = through (status-says (verdict_on_weights stable e w r)) (says-asked stable e w r)

-- a certificate that states prices is taken as prices, and states them as such
pub prices_stated : (k : Kind) (e : Instance) (d : Delivery) (p : Prices) → StatesKind k e d (Ok (OfPrices p))
    → StatesPrices name.Certificate e d (Ok p)
prices_stated kind.Prices e d p h = go h.0 h.1 h.2
  where
    go : (s : Stated Prices) → StatesPrices name.Certificate e d s → Ok (OfPrices p) ≡ as_certificate OfPrices s
        → StatesPrices name.Certificate e d (Ok p)
    go (Ok q) states same =
        let is : q ≡ p = cc in subst (λ (x : Prices). StatesPrices name.Certificate e d (Ok x)) is states
    go (Err r) states same = cc
prices_stated kind.Violation e d p h = grind arith
prices_stated kind.Refutation e d p h = grind arith

-- what the audit of a certificate of any kind promises
pub certificate_promises : (m : Mode) (e : Instance) (w : List Bool) (d : Delivery) (c : Certificate)
    → StatesCertificate e d (Ok c) → CertificatePromises m (certificate_status m e w c) e w c
certificate_promises m e w d (OfPrices p) given =
    prices_promise m name.Certificate e w d p (prices_stated (kind_in d) e d p given)
certificate_promises m e w d (OfViolation v) given = violation_promises e w v
certificate_promises m e w d (OfRefutation r) given = refutation_promises m.stable e w r
