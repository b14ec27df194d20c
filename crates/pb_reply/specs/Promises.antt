-- What the status of an audit promises of what the inputs state.
use Rattle.std.specs.Prelude.{◌≡◌, ◌<◌, ◌↔◌, ℕ, Bool, List, length, Some}
use Rattle.pb_election.specs.Instance.{Instance}
use Rattle.pb_certificate.specs.Prices.{Prices}
use Rattle.pb_certificate.specs.Refutations.{Weights}
use Rattle.pb_certificate.specs.declared.violations.measure.Measure.{Measure}
use Rattle.pb_cohesion.specs.EveryGroup.{SupportersBlock, SupportersHaveMoreLeft}
use Rattle.pb_cohesion.specs.Groups.{Violates}
use Rattle.pb_cohesion.specs.Refutations.{NoPricesSupport, NoPricesWithCoverSupport, NoStablePricesSupport, NoStablePricesWithCoverSupport, Refutes, RefutesAsked}
use Rattle.pb_cohesion.specs.Satisfactions.{worth_by}
use Rattle.pb_cohesion.specs.Short.{SatisfiesEjrPlus, IsFirstShort}
use Rattle.pb_price.specs.First.{First}
use Rattle.pb_price.specs.Promises.{YesPromises}
use Rattle.pb_price.specs.Supports.{Supports}
use Rattle.pb_price.specs.declared.Failure.TheVariants as failure
use Rattle.pb_cohesion.specs.declared.Mode.{Mode}
use Rattle.pb_reply.specs.Certificates.{Certificate, OfPrices, OfRefutation, OfViolation}
use Rattle.pb_reply.specs.declared.status.Status.{Status}
use Rattle.pb_reply.specs.declared.status.Status.TheVariants.{Yes, No}
use Rattle.pb_reply.specs.declared.status.Unmet.TheVariants as unmet

-- The status is yes exactly where the prices support the outcome. What is more, a yes speaks of every group of
-- voters and of every refutation, and a no by the last condition of the supporters of the project that it names.
pub record PricesPromise (m : Mode) (status : Status) (e : Instance) (w : List Bool) (p : Prices) : Type 0 where
  pub exactly : (status ≡ Yes) ↔ Supports m e w p
  pub yes : status ≡ Yes → YesPromises m e w p
  pub plain_no : (c : ℕ) → First m e w p ≡ Some (failure.C5 c) → SupportersHaveMoreLeft e p c
  pub stable_no : (c : ℕ) → First m e w p ≡ Some (failure.S5 c) → SupportersBlock e w p c

-- The status is yes exactly where the group and its demand are a violation, by the measure that the certificate states.
abbrev pub ViolationPromises : Status → Instance → List Bool → Measure × List ℕ × List ℕ → Type 0
ViolationPromises status e w claim = (status ≡ Yes) ↔ Violates (worth_by claim.0 e) e w claim.1 claim.2

-- The status is yes exactly where the weights refute what is asked about: all prices, or stable ones. Of weights that
-- refute all prices the lines `unpriceable` and `unpriceable cover` say what these exclude: where Cover has no weight all
-- prices whatever that support the outcome, and where it has one all whose budgets exceed the limit. The lines
-- `unpriceable stable` and `unpriceable stable cover` say the same of stable prices alone.
pub record RefutationPromises (stable : Bool) (status : Status) (e : Instance) (w : List Bool) (r : Weights) : Type 0 where
  pub exactly : (status ≡ Yes) ↔ RefutesAsked stable e w r
  pub whatever_yes : Refutes e w r → r.cover ≡ 0 → (status ≡ Yes) × NoPricesSupport e w
  pub cover_yes : Refutes e w r → 0 < r.cover → (status ≡ Yes) × NoPricesWithCoverSupport e w
  pub stable_yes : status ≡ Yes → r.cover ≡ 0 → NoStablePricesSupport e w
  pub stable_cover_yes : status ≡ Yes → 0 < r.cover → NoStablePricesWithCoverSupport e w

-- The status is yes exactly where no group falls short by the measure. A no names the lowest project for which one does,
-- and how many voters the largest such group has.
pub record GroupsPromise (m : Measure) (status : Status) (e : Instance) (w : List Bool) : Type 0 where
  pub exactly : (status ≡ Yes) ↔ SatisfiesEjrPlus m e w
  pub first : (c k : ℕ) → status ≡ No (unmet.Groups c k) → (s : List ℕ) × IsFirstShort m e w s c × (length s ≡ k)

-- what the status of an audit of a certificate of any kind promises
abbrev pub CertificatePromises : Mode → Status → Instance → List Bool → Certificate → Type 0
CertificatePromises m status e w (OfPrices p) = PricesPromise m status e w p
CertificatePromises m status e w (OfViolation v) = ViolationPromises status e w v
CertificatePromises m status e w (OfRefutation r) = RefutationPromises m.stable status e w r
