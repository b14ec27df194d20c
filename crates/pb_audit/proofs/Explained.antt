-- The answers of `explain`.
use Rattle.std.proofs.Common.{◌≡◌, ◌∙◌, ap, get_or, ℕ, Bool, List, ◌≤◌, arith, refl, subst}
use Rattle.std.specs.Prelude.{Ok, Option, None, true}
use Rattle.pb_records.specs.Loading.{Delivery}
use Rattle.pb_election.specs.Instance.{Instance}
use Rattle.pb_certificate.specs.Prices.{Prices}
use Rattle.pb_price.specs.Findings.{findings}
use Rattle.pb_price.specs.First.{verdict_of}
use Rattle.pb_price.specs.OnGroups.{HoldsOfGroups, groups_by, on_groups}
use Rattle.pb_price.specs.Told.{first_told}
use Rattle.pb_price.specs.declared.Findings.{Findings}
use Rattle.pb_price.specs.declared.OnGroups.{OnGroups}
use Rattle.pb_price.specs.declared.OnGroups.TheVariants.{Strict, Weak, Little}
use Rattle.pb_price.specs.declared.nearest.NearestGroup.{NearestGroup}
use Rattle.pb_price.proofs.Told.{tell-first}
use Rattle.pb_cohesion.specs.declared.Mode.{Mode}
use Rattle.pb_explain.specs.GroupLines.{below_reach, claim, not_shown, within_reach}
use Rattle.pb_input.specs.declared.InputName.TheVariants as name
use Rattle.pb_reply.specs.Certificates.{Certificate, OfPrices, OfRefutation, OfViolation, StatesCertificate, kind_in}
use Rattle.pb_reply.specs.Promises.{PricesPromise}
use Rattle.pb_reply.specs.declared.status.Status.{Status}
use Rattle.pb_reply.proofs.Culprits.{denominator-low}
use Rattle.pb_reply.proofs.Promises.{certificate_promises, prices_stated}
use Rattle.pb_report.specs.Found.{ArePricesFound, FindsAnyKind, IsFoundOf, claim_of, group_found, nearest_by, nearest_on_yes, on_groups_by, price_verdict}
use Rattle.pb_report.specs.declared.certificate.CertificateFound.{CertificateFound}
use Rattle.pb_report.specs.declared.certificate.CertificateFound.TheVariants as found
use Rattle.pb_report.specs.declared.group.GroupFound.{GroupFound}
use Rattle.pb_report.specs.declared.prices.PricesFound.{PricesFound}
use Rattle.pb_report.specs.declared.report.Report.TheVariants as report
use Rattle.pb_report.specs.declared.weights.WeightsFound.{WeightsFound}
use Rattle.pb_audit.specs.Answers.{price_reply, verdict_reply}
use Rattle.pb_audit.specs.Both.{GroupAndDemand}
use Rattle.pb_audit.specs.Explained.{IsSoOfGroups, explained_prices, explained_reply, explained_rules, explained_verdict, explained_violation}
use Rattle.pb_audit.specs.Inside.Certificates.{AnswersCertificate, Promised}
use Rattle.pb_audit.specs.Inside.Told.{reply_of}
use Rattle.pb_audit.specs.declared.rendering.Rendering.{Rendering}

-- what is said of groups follows from what the status promises
differ : (xs ys : List ℕ) (k : ℕ) → xs ≡ ys → (get_or xs k 0 ≡ get_or ys k 0 → ⊥) → ⊥
differ xs ys k same apart = apart (ap (λ zs. get_or zs k 0) same)

said-weak : (said : OnGroups) → claim said ≡ within_reach → said ≡ Weak
said-weak Strict h = absurd (differ below_reach within_reach 86 h (λ same. omega arith))
said-weak Weak h = refl
said-weak Little h = absurd (differ not_shown within_reach 0 h (λ same. omega arith))

said-strict : (said : OnGroups) → claim said ≡ below_reach → said ≡ Strict
said-strict Strict h = refl
said-strict Weak h = absurd (differ within_reach below_reach 86 h (λ same. omega arith))
said-strict Little h = absurd (differ not_shown below_reach 0 h (λ same. omega arith))

so_of_groups : (m : Mode) (status : Status) (e : Instance) (w : List Bool) (p : Prices) → PricesPromise m status e w p
    → IsSoOfGroups status e w (groups_by m e p)
so_of_groups m status e w p promise = record {
  reach = λ yes' told. subst (λ said. HoldsOfGroups said e w) (said-weak (groups_by m e p) told) (promise.yes yes').groups;
  below = λ yes' told. subst (λ said. HoldsOfGroups said e w) (said-strict (groups_by m e p) told) (promise.yes yes').groups;
}

pub explained_promise : (m : Mode) → Promised (explained_rules m)
explained_promise m e w d (OfPrices p) given =
    let promise = certificate_promises m e w d (OfPrices p) given in (promise, so_of_groups m _ e w p promise)
explained_promise m e w d (OfViolation v) given = certificate_promises m e w d (OfViolation v) given
explained_promise m e w d (OfRefutation r) given = certificate_promises m e w d (OfRefutation r) given

-- the reply on the findings on prices is that on the prices
pub findings_answer : (m : Mode) (e : Instance) (w : List Bool) (p : Prices) (f : Findings) → 1 ≤ p.denominator
    → f ≡ findings e w p
    → verdict_reply m e w (verdict_of (first_told m f)) f None ≡ price_reply m e w p
findings_answer m e w p f low is = grind (arith, tell-first)

pub findings_explain : (m : Mode) (e : Instance) (w : List Bool) (p : Prices) (f : Findings) → 1 ≤ p.denominator
    → f ≡ findings e w p
    → explained_verdict m e w (verdict_of (first_told m f)) f (on_groups m.exhaustive f.budgets f.limit)
    (nearest_on_yes (verdict_of (first_told m f)) (on_groups m.exhaustive f.budgets f.limit) e w) ≡ explained_prices m e w p
findings_explain m e w p f low is = grind (arith, tell-first)

-- what is found of a certificate, explained
abbrev explaining : CertificateFound → Rendering
explaining x = record { report = report.Certificate x; explained = true }

-- what is found of a certificate, explained, is the reply on it
prices_explained : (m : Mode) (e : Instance) (w : List Bool) (p : Prices) (f : PricesFound) → 1 ≤ p.denominator
    → ArePricesFound m e w p f → f.nearest ≡ nearest_by e w f
    → reply_of e w (explaining (found.Prices f)) ≡ explained_prices m e w p
prices_explained m e w p f low found nearest =
    ap (λ (n : Option NearestGroup). explained_verdict f.mode e w (price_verdict f) f.findings (on_groups_by f) n) nearest
    ∙ findings_explain f.mode e w p f.findings low found.findings
    ∙ ap (λ (k : Mode). explained_prices k e w p) found.mode

group_explained : (e : Instance) (w : List Bool) (v : GroupAndDemand) (g : GroupFound) → claim_of g.violation ≡ v
    → g ≡ group_found e w g.violation → reply_of e w (explaining (found.Group g)) ≡ explained_violation e w v
group_explained e w v g stated is =
    ap (λ (x : GroupFound). reply_of e w (explaining (found.Group x))) is ∙ ap (explained_violation e w) stated

is_explained : (m : Mode) (e : Instance) (w : List Bool) (d : Delivery) (c : Certificate) (x : CertificateFound)
    → StatesCertificate e d (Ok c) → IsFoundOf m e w c x
    → reply_of e w (explaining x) ≡ explained_reply m e w c
is_explained m e w d (OfPrices p) x states (f, is, of_prices, nearest) =
    ap (λ (y : CertificateFound). reply_of e w (explaining y)) is
    ∙ prices_explained m e w p f
    (denominator-low name.Certificate e d p (prices_stated (kind_in d) e d p states)) of_prices nearest
is_explained m e w d (OfViolation v) x states (g, is, stated, of_group) =
    ap (λ (y : CertificateFound). reply_of e w (explaining y)) is ∙ group_explained e w v g stated of_group
is_explained m e w d (OfRefutation r) x states (y, is, of_weights) =
    ap (λ (z : CertificateFound). reply_of e w (explaining z)) is
    ∙ ap (λ (z : WeightsFound). reply_of e w (explaining (found.Weights z))) of_weights

pub explained_found : (m : Mode) (e : Instance) (w : List Bool) (d : Delivery) (x : CertificateFound) (r : Rendering)
    → FindsAnyKind m e w d (Ok x) → r ≡ explaining x
    → AnswersCertificate StatesCertificate (explained_reply m) e w d (reply_of e w r)
explained_found m e w d x r (c, states, of_certificate) is = record {
  c = Ok c;
  given = states;
  out = ap (reply_of e w) is ∙ is_explained m e w d c x states of_certificate;
}
