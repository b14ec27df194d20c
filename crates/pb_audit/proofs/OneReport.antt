-- A folder has one report.
use Rattle.std.proofs.Common.{◌≡◌, ◌∙◌, Bool, List, [], ◌∷◌, Option, Some, None, ap, refl, subst, sym}
use Rattle.pb_records.specs.Loading.{Delivery}
use Rattle.pb_cohesion.specs.declared.Mode.{Mode}
use Rattle.pb_audit.specs.Answers.{AnswersPrices, AnswersViolation}
use Rattle.pb_reply.specs.Replies.{Reply}
use Rattle.pb_audit.specs.OneAnswer.{JustOne}
use Rattle.pb_audit.specs.Reports.{EntryFiles, Finds, FindsCertificate, FindsEach, Found, ReportOf, report_on, where_accepted}
use Rattle.pb_audit.proofs.OneAnswer.{price-reply-one, read-one, violation-reply-one}

-- what is found of a certificate
certificate-some : (answers : Delivery → Reply → Type 0) → ((d : Delivery) → JustOne (answers d))
    → (certificate : Option Delivery) → (found : Option Reply) × FindsCertificate answers certificate found
certificate-some answers one None = (None, tt)
certificate-some answers one (Some d) = let r = (one d).one in (Some r.0, r.1)

certificate-same : (answers : Delivery → Reply → Type 0) → ((d : Delivery) → JustOne (answers d))
    → (certificate : Option Delivery) (r s : Option Reply) → FindsCertificate answers certificate r
    → FindsCertificate answers certificate s → r ≡ s
certificate-same answers one None None None h k = refl
certificate-same answers one None None (Some s) h k = absurd k
certificate-same answers one None (Some r) s h k = absurd h
certificate-same answers one (Some d) None s h k = absurd h
certificate-same answers one (Some d) (Some r) None h k = absurd k
certificate-same answers one (Some d) (Some r) (Some s) h k = ap Some ((one d).no_other r s h k)

-- what is found of the files of one name
finds-some : (m : Mode) (files : EntryFiles) → (found : Found) × Finds m files found
finds-some m files =
    let read = (read-one files.election).one in
    let prices =
    certificate-some (AnswersPrices m files.election None) (price-reply-one m files.election None)
    (where_accepted read.0.status files.prices) in
    let violation =
    certificate-some (AnswersViolation files.election None) (violation-reply-one files.election None)
    (where_accepted read.0.status files.violation) in (
      record { name = files.name; read = read.0; prices = prices.0; violation = violation.0 },
      record { name = refl; read = read.1; prices = prices.1; violation = violation.1 },
    )

finds-same : (m : Mode) (files : EntryFiles) (f g : Found) → Finds m files f → Finds m files g → f ≡ g
finds-same m files f g h k =
    let read : g.read ≡ f.read = (read-one files.election).no_other g.read f.read k.read h.read in
    let prices =
    subst
    (λ (r : Reply). FindsCertificate (AnswersPrices m files.election None) (where_accepted r.status files.prices)
    g.prices) read k.prices in
    let violation =
    subst
    (λ (r : Reply). FindsCertificate (AnswersViolation files.election None)
    (where_accepted r.status files.violation) g.violation) read k.violation in
    let names : f.name ≡ g.name = h.name ∙ sym k.name in
    let same_prices =
    certificate-same (AnswersPrices m files.election None) (price-reply-one m files.election None)
    (where_accepted f.read.status files.prices) f.prices g.prices h.prices prices in
    let same_violation =
    certificate-same (AnswersViolation files.election None) (violation-reply-one files.election None)
    (where_accepted f.read.status files.violation) f.violation g.violation h.violation violation in
    λ i. record { name = names i; read = sym read i; prices = same_prices i; violation = same_violation i }

-- and of all files
each-some : (m : Mode) (entries : List EntryFiles) → (found : List Found) × FindsEach m entries found
each-some m [] = ([], tt)
each-some m (files ∷ rest) =
    let first = finds-some m files in
    let more = each-some m rest in
    (first.0 ∷ more.0, (first.1, more.1))

each-same : (m : Mode) (entries : List EntryFiles) (f g : List Found) → FindsEach m entries f → FindsEach m entries g → f ≡ g
each-same m [] [] [] h k = refl
each-same m [] [] (y ∷ ys) h k = absurd k
each-same m [] (x ∷ xs) g h k = absurd h
each-same m (files ∷ rest) [] g h k = absurd h
each-same m (files ∷ rest) (x ∷ xs) [] h k = absurd k
each-same m (files ∷ rest) (x ∷ xs) (y ∷ ys) h k =
    let first = finds-same m files x y h.0 k.0 in
    let more = each-same m rest xs ys h.1 k.1 in
    λ i. first i ∷ more i

pub report-one : (as_json : Bool) (m : Mode) (entries : List EntryFiles) → JustOne (ReportOf as_json m entries)
report-one as_json m entries = record {
  one = let found = each-some m entries in (report_on as_json found.0, record { found = found.0; each = found.1; out = refl });
  no_other = λ r s a b. a.out ∙ ap (report_on as_json) (each-same m entries a.found b.found a.each b.each) ∙ sym b.out;
}
