-- What is found of an election with its outcome: of the prices, the group and its demand, or the weights that a certificate
-- states, or of all groups of voters.
use Rattle.std.specs.Prelude.{◌≡◌, ℕ, Bool, List, [], ◌∷◌, Option, None, Ok, Err}
use Rattle.pb_records.specs.Loading.{Delivery}
use Rattle.pb_records.specs.Records.{Text}
use Rattle.pb_election.specs.Instance.{Instance}
use Rattle.pb_certificate.specs.Prices.{Prices}
use Rattle.pb_certificate.specs.Refutations.{Weights}
use Rattle.pb_certificate.specs.Violations.{Claim}
use Rattle.pb_certificate.specs.declared.violations.measure.Measure.{Measure}
use Rattle.pb_cohesion.specs.FirstU.{refutation_verdict}
use Rattle.pb_cohesion.specs.FirstV.{FirstV, violation_verdict_of}
use Rattle.pb_cohesion.specs.RefutationFindings.{refutation_findings}
use Rattle.pb_cohesion.specs.Satisfactions.{worth_by}
use Rattle.pb_cohesion.specs.Shown.{first_short, verdict_by}
use Rattle.pb_cohesion.specs.ViolationFindings.{violation_findings}
use Rattle.pb_cohesion.specs.declared.GroupsVerdict.{GroupsVerdict}
use Rattle.pb_cohesion.specs.declared.Mode.{Mode}
use Rattle.pb_price.specs.Findings.{findings}
use Rattle.pb_price.specs.First.{verdict_of}
use Rattle.pb_price.specs.Margins.{AreMargins}
use Rattle.pb_price.specs.NearestGroup.{nearest_to}
use Rattle.pb_price.specs.OnGroups.{on_groups}
use Rattle.pb_price.specs.Told.{first_told}
use Rattle.pb_price.specs.declared.OnGroups.{OnGroups}
use Rattle.pb_price.specs.declared.Verdict.{Verdict}
use Rattle.pb_price.specs.declared.Verdict.TheVariants.{Supported, Failed}
use Rattle.pb_price.specs.declared.nearest.NearestGroup.{NearestGroup}
use Rattle.pb_input.specs.declared.InputName.{InputName}
use Rattle.pb_input.specs.declared.InputName.TheVariants as name
use Rattle.pb_reply.specs.Certificates.{Certificate, OfPrices, OfRefutation, OfViolation, StatesCertificate}
use Rattle.pb_reply.specs.Inputs.{Stated, StatesPrices, StatesRefutation, StatesViolation}
use Rattle.pb_reply.specs.Lines.{groups_line, price_line, refutation_line, violation_line}
use Rattle.pb_reply.specs.Replies.{groups_status, price_status, refutation_status, violation_status}
use Rattle.pb_reply.specs.declared.status.Status.{Status}
use Rattle.pb_reply.specs.declared.status.Status.TheVariants.{Yes, No}
use Rattle.pb_reply.specs.declared.status.Unmet.TheVariants as unmet
use Rattle.pb_report.specs.declared.certificate.CertificateFound.{CertificateFound}
use Rattle.pb_report.specs.declared.certificate.CertificateFound.TheVariants as found
use Rattle.pb_report.specs.declared.group.GroupFound.{GroupFound}
use Rattle.pb_report.specs.declared.groups.GroupsFound.{GroupsFound}
use Rattle.pb_report.specs.declared.prices.PricesFound.{PricesFound}
use Rattle.pb_report.specs.declared.report.Report.{Report}
use Rattle.pb_report.specs.declared.report.Report.TheVariants.{Both, Certificate as OfCertificate, Groups}
use Rattle.pb_report.specs.declared.weights.WeightsFound.{WeightsFound}

-- the verdict on prices, and what a yes says of groups
abbrev pub price_verdict : PricesFound → Verdict
price_verdict p = verdict_of (first_told p.mode p.findings)

abbrev pub on_groups_by : PricesFound → OnGroups
on_groups_by p = on_groups p.mode.exhaustive p.findings.budgets p.findings.limit

-- the group that comes nearest to what a yes says of groups; on a no there is none
abbrev pub nearest_on_yes : Verdict → OnGroups → Instance → List Bool → Option NearestGroup
nearest_on_yes Supported said e w = nearest_to said e w
nearest_on_yes (Failed f) said e w = None

abbrev pub nearest_by : Instance → List Bool → PricesFound → Option NearestGroup
nearest_by e w p = nearest_on_yes (price_verdict p) (on_groups_by p) e w

-- the verdict on groups
abbrev pub groups_verdict : GroupsFound → GroupsVerdict
groups_verdict g = verdict_by (first_short g.figures.items)

-- this is found of prices, in a mode
pub record ArePricesFound (m : Mode) (e : Instance) (w : List Bool) (p : Prices) (f : PricesFound) : Type 0 where
  pub mode : f.mode ≡ m
  pub findings : f.findings ≡ findings e w p
  pub margins : AreMargins e w p f.margins

-- what is found of a group and its demand, and of weights
abbrev pub group_found : Instance → List Bool → Claim → GroupFound
group_found e w v = record {
  violation = v;
  verdict = violation_verdict_of (FirstV (worth_by v.measure e) e w v.group v.demand);
  findings = violation_findings (worth_by v.measure e) e w v.group v.demand;
}

abbrev pub weights_found : Bool → Instance → List Bool → Weights → WeightsFound
weights_found stable e w r = record {
  refutation = r;
  verdict = refutation_verdict stable e w r;
  findings = refutation_findings stable e w r;
}

-- what a violation certificate states, as its measure, its group and its demand
abbrev pub claim_of : Claim → Measure × List ℕ × List ℕ
claim_of v = (v.measure, v.group, v.demand)

-- what is found by what a certificate states
abbrev pub FindsPrices : InputName → Mode → Instance → List Bool → Delivery → Stated PricesFound → Type 0
FindsPrices input m e w certificate (Ok f) =
    (p : Prices) × StatesPrices input e certificate (Ok p) × ArePricesFound m e w p f
FindsPrices input m e w certificate (Err r) = StatesPrices input e certificate (Err r)

abbrev pub FindsExplainedPrices : Mode → Instance → List Bool → Delivery → Stated PricesFound → Type 0
FindsExplainedPrices m e w certificate (Ok f) =
    (p : Prices) × StatesPrices name.Certificate e certificate (Ok p) × ArePricesFound m e w p f
    × (f.nearest ≡ nearest_by e w f)
FindsExplainedPrices m e w certificate (Err r) = StatesPrices name.Certificate e certificate (Err r)

abbrev pub FindsGroup : InputName → Instance → List Bool → Delivery → Stated GroupFound → Type 0
FindsGroup input e w certificate (Ok g) =
    StatesViolation input e certificate (Ok (claim_of g.violation)) × (g ≡ group_found e w g.violation)
FindsGroup input e w certificate (Err r) = StatesViolation input e certificate (Err r)

abbrev pub FindsWeights : Bool → Instance → List Bool → Delivery → Stated WeightsFound → Type 0
FindsWeights stable e w certificate (Ok r) =
    StatesRefutation e certificate (Ok r.refutation) × (r ≡ weights_found stable e w r.refutation)
FindsWeights stable e w certificate (Err r) = StatesRefutation e certificate (Err r)

-- this is found of what a certificate of any kind states
abbrev pub IsFoundOf : Mode → Instance → List Bool → Certificate → CertificateFound → Type 0
IsFoundOf m e w (OfPrices p) c =
    (f : PricesFound) × (c ≡ found.Prices f) × ArePricesFound m e w p f × (f.nearest ≡ nearest_by e w f)
IsFoundOf m e w (OfViolation v) c =
    (g : GroupFound) × (c ≡ found.Group g) × (claim_of g.violation ≡ v) × (g ≡ group_found e w g.violation)
IsFoundOf m e w (OfRefutation r) c =
    (x : WeightsFound) × (c ≡ found.Weights x) × (x ≡ weights_found m.stable e w r)

abbrev pub FindsAnyKind : Mode → Instance → List Bool → Delivery → Stated CertificateFound → Type 0
FindsAnyKind m e w certificate (Ok x) =
    (c : Certificate) × StatesCertificate e certificate (Ok c) × IsFoundOf m e w c x
FindsAnyKind m e w certificate (Err r) = StatesCertificate e certificate (Err r)

-- the line of each verdict
abbrev pub verdict_line : Instance → CertificateFound → Text
verdict_line e (found.Prices p) = price_line p.mode.stable e (price_verdict p)
verdict_line e (found.Group g) = violation_line e g.verdict
verdict_line e (found.Weights r) = refutation_line e r.verdict

abbrev pub verdict_lines : Instance → Report → List Text
verdict_lines e (OfCertificate c) = verdict_line e c ∷ []
verdict_lines e (Groups g) = groups_line g.measure e (groups_verdict g) ∷ []
verdict_lines e (Both p g) = verdict_line e (found.Prices p) ∷ verdict_line e (found.Group g) ∷ []

-- how it ends: yes, or what fails first; of two certificates yes where both are a yes, and where neither is, what fails
-- first of each
abbrev pub certificate_ends : CertificateFound → Status
certificate_ends (found.Prices p) = price_status (price_verdict p)
certificate_ends (found.Group g) = violation_status g.verdict
certificate_ends (found.Weights r) = refutation_status r.verdict

abbrev pub yes_where_both : Status → Status → Status
yes_where_both Yes second = second
yes_where_both (No (unmet.Prices f)) (No (unmet.Violation g)) = No (unmet.Both f g)
yes_where_both first second = first

abbrev pub status_of : Report → Status
status_of (OfCertificate c) = certificate_ends c
status_of (Groups g) = groups_status (groups_verdict g)
status_of (Both p g) = yes_where_both (certificate_ends (found.Prices p)) (certificate_ends (found.Group g))
