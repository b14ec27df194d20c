-- What is told of what was found.
use Rattle.std.proofs.Common.{◌≡◌, ◌∙◌, ◌+◌, ◌++◌, ℕ, Bool, List, [], ◌∷◌, ap, arith, subst, sym, map, suc}
use Rattle.std.specs.Prelude.{Ok, string_bytes}
use Rattle.std.specs.List.{range_with_len}
use Rattle.std.proofs.lemmas.List.{map-append}
use Rattle.pb_records.specs.Loading.{Delivery}
use Rattle.pb_records.proofs.Lists.{range-push}
use Rattle.pb_election.specs.Instance.{Instance, cost_of}
use Rattle.pb_certificate.specs.Prices.{Prices}
use Rattle.pb_certificate.specs.Refutations.{Weights}
use Rattle.pb_certificate.specs.declared.violations.measure.Measure.{Measure}
use Rattle.pb_cohesion.specs.Closest.{AreAllFigures}
use Rattle.pb_cohesion.specs.Shown.{first_short, shown, verdict_by}
use Rattle.pb_cohesion.specs.declared.GroupFigures.{GroupFigures}
use Rattle.pb_cohesion.specs.declared.Mode.{Mode}
use Rattle.pb_price.specs.First.{First, verdict_of}
use Rattle.pb_price.specs.Margins.{AreMargins}
use Rattle.pb_price.specs.Told.{first_told}
use Rattle.pb_price.specs.declared.Findings.{Findings}
use Rattle.pb_price.specs.declared.Margins.{Margins}
use Rattle.pb_input.specs.declared.InputName.TheVariants as name
use Rattle.pb_reply.specs.Certificates.{Certificate, OfPrices, OfRefutation, OfViolation, StatesCertificate, certificate_status, kind_in}
use Rattle.pb_reply.specs.Lines.{groups_line, price_line, refutation_line, violation_line}
use Rattle.pb_reply.specs.Replies.{groups_status, price_status, refutation_status, violation_status}
use Rattle.pb_reply.proofs.Culprits.{denominator-low}
use Rattle.pb_reply.proofs.Promises.{prices_stated}
use Rattle.pb_report.specs.Found.{ArePricesFound, FindsAnyKind, IsFoundOf, claim_of, group_found, groups_verdict, price_verdict, weights_found}
use Rattle.pb_report.specs.declared.certificate.CertificateFound.{CertificateFound}
use Rattle.pb_report.specs.declared.certificate.CertificateFound.TheVariants as certificate
use Rattle.pb_report.specs.declared.group.GroupFound.{GroupFound}
use Rattle.pb_report.specs.declared.groups.GroupsFound.{GroupsFound}
use Rattle.pb_report.specs.declared.prices.PricesFound.{PricesFound}
use Rattle.pb_report.specs.declared.weights.WeightsFound.{WeightsFound}
use Rattle.pb_report.proofs.Told.{told_verdict}
use Rattle.pb_case.specs.Shown.{ShowsLine}
use Rattle.pb_figures.specs.declared.short_groups.ShortFigures.{ShortFigures}
use Rattle.pb_figures.specs.declared.told.CertificateFigures.TheVariants as found
use Rattle.pb_page.specs.Answers.{TellsPrices, TellsRefutation, TellsViolation}
use Rattle.pb_page.specs.Taken.{AreShortFigures, TellsCertificate, TellsFound, TellsOfGroups}
use Rattle.pb_page.specs.declared.telling.PageTold.{PageTold}

-- one more cost
pub costs-next : (e : Instance) (k x : ℕ) (xs ys : List ℕ) → ys ≡ xs ++ (x ∷ [])
    → xs ≡ map (cost_of e) (range_with_len 1 k) → x ≡ cost_of e (k + 1)
    → ys ≡ map (cost_of e) (range_with_len 1 (k + 1))
costs-next e k x xs ys pushed before this =
    let last : k + 1 ≡ 1 + k = omega arith in
    pushed ∙ ap (λ (zs : List ℕ). zs ++ (x ∷ [])) before
    ∙ ap (λ (y : ℕ). map (cost_of e) (range_with_len 1 k) ++ (y ∷ [])) (this ∙ ap (cost_of e) last)
    ∙ sym (map-append (cost_of e) (range_with_len 1 k) ((1 + k) ∷ []))
    ∙ ap (map (cost_of e)) (sym (next k))
  where
    next : (n : ℕ) → range_with_len 1 (n + 1) ≡ range_with_len 1 n ++ ((1 + n) ∷ [])
    next n = let e : n + 1 ≡ suc n = omega arith in ap (range_with_len 1) e ∙ range-push 1 n

-- the verdict on prices by what was found of them
verdict-is : (m : Mode) (e : Instance) (w : List Bool) (d : Delivery) (p : Prices) (f : PricesFound)
    → StatesCertificate e d (Ok (OfPrices p)) → ArePricesFound m e w p f → price_verdict f ≡ verdict_of (First m e w p)
verdict-is m e w d p f states found =
    ap (λ (k : Mode). verdict_of (first_told k f.findings)) found.mode
    ∙ ap (λ (x : Findings). verdict_of (first_told m x)) found.findings
    ∙ told_verdict m e w p (denominator-low name.Certificate e d p (prices_stated (kind_in d) e d p states))

tells-prices : (m : Mode) (e : Instance) (w : List Bool) (p : Prices) (f : PricesFound) (t : PageTold)
    → price_verdict f ≡ verdict_of (First m e w p) → ArePricesFound m e w p f
    → TellsFound m e w (certificate.Prices f) t → TellsPrices m e w p t.told
tells-prices m e w p f t verdict found told =
    let figures = told.figures.2 in
    record {
      figures = told.figures.0;
      found = told.figures.1;
      mode = told.mode;
      verdict =
          ap (λ (k : Mode). verdict_of (first_told k told.figures.0.findings)) (told.mode ∙ sym found.mode)
          ∙ ap (λ (x : Findings). verdict_of (first_told f.mode x)) figures.findings ∙ verdict;
      line =
          subst (λ (l : List ℕ). ShowsLine l (string_bytes t.told.line))
          (ap (λ (k : Mode). price_line k.stable e (price_verdict f)) found.mode ∙ ap (price_line m.stable e) verdict)
          told.line;
      findings = figures.findings ∙ found.findings;
      margins = subst (λ (x : Margins). AreMargins e w p x) (sym figures.margins) found.margins;
    }

tells-group : (m : Mode) (e : Instance) (w : List Bool) (g : GroupFound) (t : PageTold)
    → g ≡ group_found e w g.violation → TellsFound m e w (certificate.Group g) t
    → TellsViolation e w (claim_of g.violation) t.told
tells-group m e w g t is told =
    let figures = told.figures.2 in
    let verdict = ap (λ (x : GroupFound). x.verdict) is in (
      told.figures.0,
      told.figures.1,
      record {
        line = subst (λ (l : List ℕ). ShowsLine l (string_bytes t.told.line)) (ap (violation_line e) verdict) told.line;
        verdict = figures.verdict ∙ verdict;
        findings = figures.findings ∙ ap (λ (x : GroupFound). x.findings) is;
        claim = ap claim_of figures.violation;
        costs = figures.costs;
        limit = figures.limit;
        total = figures.total;
        voters = figures.voters;
      },
    )

tells-weights : (m : Mode) (e : Instance) (w : List Bool) (r : Weights) (x : WeightsFound) (t : PageTold)
    → x ≡ weights_found m.stable e w r → TellsFound m e w (certificate.Weights x) t
    → TellsRefutation m e w r t.told
tells-weights m e w r x t is told =
    let figures = told.figures.2 in
    let verdict = ap (λ (y : WeightsFound). y.verdict) is in (
      told.figures.0,
      told.figures.1,
      told.mode,
      record {
        line = subst (λ (l : List ℕ). ShowsLine l (string_bytes t.told.line)) (ap (refutation_line e) verdict) told.line;
        verdict = figures.verdict ∙ verdict;
        findings = figures.findings ∙ ap (λ (y : WeightsFound). y.findings) is;
        weights = figures.weights ∙ ap (λ (y : WeightsFound). y.refutation) is;
        costs = figures.costs;
        limit = figures.limit;
        total = figures.total;
      },
    )

-- what is told of what was found of a certificate
pub tells-certificate : (m : Mode) (e : Instance) (w : List Bool) (d : Delivery) (x : CertificateFound) (t : PageTold)
    → FindsAnyKind m e w d (Ok x) → TellsFound m e w x t → TellsCertificate m e w d (Ok t)
tells-certificate m e w d x t (c, states, is) told = go c states is
  where
    told-as : (y : CertificateFound) → x ≡ y → TellsFound m e w y t
    told-as y same = subst (λ (z : CertificateFound). TellsFound m e w z t) same told

    go : (c : Certificate) → StatesCertificate e d (Ok c) → IsFoundOf m e w c x → TellsCertificate m e w d (Ok t)
    go (OfPrices p) states (f, same, found, nearest) =
        let of_prices = told-as (certificate.Prices f) same in
        let verdict = verdict-is m e w d p f states found in
        (OfPrices p, states, tells-prices m e w p f t verdict found of_prices, of_prices.status ∙ ap price_status verdict)
    go (OfViolation v) states (g, same, claim, found) =
        let of_group = told-as (certificate.Group g) same in (
          OfViolation v,
          states,
          subst (λ (s : Measure × List ℕ × List ℕ). TellsViolation e w s t.told) claim (tells-group m e w g t found of_group),
          of_group.status ∙ ap (λ (y : GroupFound). violation_status y.verdict) found
              ∙ ap (λ (s : Measure × List ℕ × List ℕ). certificate_status m e w (OfViolation s)) claim,
        )
    go (OfRefutation r) states (y, same, found) =
        let of_weights = told-as (certificate.Weights y) same in (
          OfRefutation r,
          states,
          tells-weights m e w r y t found of_weights,
          of_weights.status ∙ ap (λ (z : WeightsFound). refutation_status z.verdict) found,
        )

-- what is told of what was found of groups
pub tells-of-groups : (m : Measure) (e : Instance) (w : List Bool) (g : GroupsFound) (x : ShortFigures) (t : PageTold)
    → g.measure ≡ m → AreAllFigures m e w g.figures.items → AreShortFigures e w g x → t.told.found ≡ found.Groups x
    → ShowsLine (groups_line g.measure e (groups_verdict g)) (string_bytes t.told.line)
    → t.status ≡ groups_status (groups_verdict g) → TellsOfGroups m e w t
tells-of-groups m e w g x t by_measure all figures is line status =
    let same : x.groups.items ≡ g.figures.items = ap (λ v. v.items) figures.groups in (
      record {
        figures = x;
        found = is;
        line =
            subst (λ (l : List ℕ). ShowsLine l (string_bytes t.told.line))
            (ap (λ (k : Measure). groups_line k e (groups_verdict g)) by_measure
            ∙ ap (λ (ys : List GroupFigures). groups_line m e (verdict_by (first_short ys))) (sym same))
            line;
        groups = subst (λ (ys : List GroupFigures). AreAllFigures m e w ys) (sym same) all;
        measure = figures.measure ∙ by_measure;
        shown = figures.shown ∙ ap shown (sym same);
        costs = figures.costs;
        limit = figures.limit;
        total = figures.total;
        voters = figures.voters;
      },
      status ∙ ap (λ (ys : List GroupFigures). groups_status (verdict_by (first_short ys))) (sym same),
    )
