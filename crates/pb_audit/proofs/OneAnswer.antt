-- Each command but `explain` has one answer on what is delivered of its inputs; `OneExplained` has that of `explain`.
use Rattle.std.proofs.Common.{◌≡◌, ◌∙◌, List, [], Option, ap, refl, subst, sym, Bool}
use Rattle.std.specs.Prelude.{IfOk, None, Ok, Err}
use Rattle.pb_election.specs.Instance.{Instance}
use Rattle.pb_records.specs.Loading.{Delivery}
use Rattle.pb_certificate.specs.Prices.{Prices}
use Rattle.pb_cohesion.specs.declared.GroupFigures.{GroupFigures}
use Rattle.pb_cohesion.proofs.OneShown.{figures_are_one, figures_exist}
use Rattle.pb_cohesion.specs.declared.Mode.{Mode}
use Rattle.pb_reply.specs.Replies.{Answer, Reply, answer_as, answer_of, refused, with_input, TellsReply}
use Rattle.pb_audit.specs.Answers.{AnswersAudit, AnswersElection, AnswersPrices, AnswersRefutation, AnswersTidy, AnswersViolation, AuditRules, audit_reply, price_rules, read_reply, refutation_rules, tidy_answer, violation_rules}
use Rattle.pb_audit.specs.Both.{AnswersBoth, Both, GroupAndDemand, StatesBoth, both_rules}
use Rattle.pb_reply.specs.Inputs.{FilesState, Stated, StatesElection, StatesFile, StatesOutcome, StatesPrices, audited}
use Rattle.pb_audit.specs.Figured.{AnswersFigured, AreFigured, FigureRules, FiguresPromise, OfOutcome, outcome_reply}
use Rattle.pb_audit.specs.Margins.{margin_rules}
use Rattle.pb_audit.specs.OneAnswer.{JustOne}
use Rattle.pb_reply.specs.Inside.Taking.{AuditsOutcome}
use Rattle.pb_audit.specs.Inside.Certificates.{Promised}
use Rattle.pb_input.specs.declared.InputName.TheVariants as name
use Rattle.pb_audit.proofs.Audits.{certificate_answered, election_refused, outcome_refused}
use Rattle.pb_audit.proofs.Boths.{both_promises}
use Rattle.pb_audit.proofs.OneStated.{election-one, file-one, outcome-one, prices-one, refutation-one, violation-one}
use Rattle.pb_reply.proofs.Promises.{prices_promise, refutation_promises, violation_promises}
use Rattle.pb_reply.specs.declared.answer.Format.{Format}
use Rattle.pb_reply.specs.declared.status.Status.{Status}

-- The read line.

pub read-one : (election : Delivery) → JustOne (AnswersElection election)
read-one election = record {
  one = let s = (election-one election).one in (read_reply s.0, record { e = s.0; given = s.1; out = refl });
  no_other = λ r q a b. a.out ∙ ap read_reply ((election-one election).no_other a.e b.e a.given b.given) ∙ sym b.out;
}

-- The canonical text.

tidy-some : (election certificate : Delivery) → (answer : Answer Status) × AnswersTidy election certificate answer
tidy-some election certificate = by (election-one election).one.0 (election-one election).one.1
  where
    by : (e : Stated Instance) → StatesElection election e → (answer : Answer Status) × AnswersTidy election certificate answer
    by (Ok e) given =
        let p = (prices-one name.Certificate e certificate).one in (
          tidy_answer (Ok e) p.0,
          record { e = Ok e; p = p.0; election_states = given; certificate_states = p.1; out = refl },
        )
    by (Err r) given = (
      answer_of (refused r),
      record { e = Err r; p = Err r; election_states = given; certificate_states = tt; out = refl },
    )

tidy-same : (certificate : Delivery) (e : Stated Instance) (p q : Stated Prices)
    → IfOk e (λ i. StatesPrices name.Certificate i certificate p)
    → IfOk e (λ i. StatesPrices name.Certificate i certificate q) → tidy_answer e p ≡ tidy_answer e q
tidy-same certificate (Ok e) p q h k =
    ap (tidy_answer (Ok e)) ((prices-one name.Certificate e certificate).no_other p q h k)
tidy-same certificate (Err r) p q h k = refl

pub tidy-one : (election certificate : Delivery) → JustOne (AnswersTidy election certificate)
tidy-one election certificate = record {
  one = tidy-some election certificate;
  no_other = λ r s a b. (
      let same : b.e ≡ a.e = (election-one election).no_other b.e a.e b.election_states a.election_states in
      let states =
      subst (λ (e : Stated Instance). IfOk e (λ i. StatesPrices name.Certificate i certificate b.p)) same
      b.certificate_states in
      a.out ∙ tidy-same certificate a.e a.p b.p a.certificate_states states
      ∙ ap (λ (e : Stated Instance). tidy_answer e b.p) (sym same) ∙ sym b.out
      );
}

-- An audit of a certificate of a kind, of which a delivery states one thing beside an election.

-- the certificate counts where the outcome is accepted
certificates-same : {A : Type 0} (states : Instance → Delivery → Stated A → Type 0)
    → ((e : Instance) (d : Delivery) → JustOne (states e d))
    → (reply : List Bool → Stated A → Reply) (certificate : Delivery) (e : Instance) (w : Stated (List Bool))
    (c d : Stated A)
    → IfOk w (λ marks. states e certificate c) → IfOk w (λ marks. states e certificate d)
    → with_input w (λ marks. reply marks c) ≡ with_input w (λ marks. reply marks d)
certificates-same states one reply certificate e (Ok w) c d h k = ap (reply w) ((one e certificate).no_other c d h k)
certificates-same states one reply certificate e (Err r) c d h k = refl

files-same : {A : Type 0} (states : Instance → Delivery → Stated A → Type 0)
    → ((e : Instance) (d : Delivery) → JustOne (states e d))
    → (reply : Instance → List Bool → A → Reply) (election : Delivery) (outcome : Option Delivery)
    (certificate : Delivery)
    (e : Stated Instance) (o p : Option (Stated (List Bool))) (c d : Stated A)
    → FilesState states election outcome certificate e o c → FilesState states election outcome certificate e p d
    → audit_reply reply e o c ≡ audit_reply reply e p d
files-same states one reply election outcome certificate (Err r) o p c d f g = refl
files-same {A} states one reply election outcome certificate (Ok e) o p c d f g =
    let same : p ≡ o =
    (file-one (StatesOutcome e) (outcome-one e) outcome).no_other p o g.outcome_states f.outcome_states in
    let given = subst (λ (x : Option (Stated (List Bool))). IfOk (audited e x) (λ w. states e certificate d)) same
    g.certificate_states in
    certificates-same states one (λ w x. with_input x (λ a. reply e w a)) certificate e (audited e o) c d
    f.certificate_states given
    ∙ ap (λ (x : Option (Stated (List Bool))). with_input (audited e x) (λ w. with_input d (λ a. reply e w a)))
    (sym same)

audit-same : {A : Type 0} (rules : AuditRules A) → ((e : Instance) (d : Delivery) → JustOne (rules.states e d))
    → (election : Delivery) (outcome : Option Delivery) (certificate : Delivery) (r s : Reply)
    → AnswersAudit rules election outcome certificate r
    → AnswersAudit rules election outcome certificate s → r ≡ s
audit-same rules one election outcome certificate r s a b =
    let same : b.e ≡ a.e = (election-one election).no_other b.e a.e b.given.election_states a.given.election_states in
    let given = subst (λ (e : Stated Instance). FilesState rules.states election outcome certificate e b.o b.c) same
    b.given in
    a.out ∙ files-same rules.states one rules.reply election outcome certificate a.e a.o b.o a.c b.c a.given given
    ∙ ap (λ (e : Stated Instance). audit_reply rules.reply e b.o b.c) (sym same) ∙ sym b.out

-- the outcome of an accepted election
outcome-some : (e : Instance) (outcome : Option Delivery)
    → (stated : Stated (List Bool)) × AuditsOutcome e outcome stated
outcome-some e outcome = let o = (file-one (StatesOutcome e) (outcome-one e) outcome).one in
    (audited e o.0, record { file = o.0; given = o.1; is = refl })

audit-some : {A : Type 0} (rules : AuditRules A) → ((e : Instance) (d : Delivery) → JustOne (rules.states e d))
    → Promised rules → (election : Delivery) (outcome : Option Delivery) (certificate : Delivery)
    → (r : Reply) × AnswersAudit rules election outcome certificate r
audit-some {A} rules one each election outcome certificate =
    by (election-one election).one.0 (election-one election).one.1
  where
    Some-reply : Type 0
    Some-reply = (r : Reply) × AnswersAudit rules election outcome certificate r

    with-outcome : (e : Instance) → StatesElection election (Ok e) → (w : Stated (List Bool))
        → AuditsOutcome e outcome w → Some-reply
    with-outcome e given (Ok w) taken =
        let c = (one e certificate).one in
        let r = with_input c.0 (λ a. rules.reply e w a) in (
          r,
          certificate_answered rules each election outcome certificate e w r given taken
              (record { c = c.0; given = c.1; out = refl }),
        )
    with-outcome e given (Err r) taken =
        (refused r, outcome_refused rules election outcome certificate e r given taken)

    by : (e : Stated Instance) → StatesElection election e → Some-reply
    by (Ok e) given = let w = outcome-some e outcome in with-outcome e given w.0 w.1
    by (Err r) given = (refused r, election_refused rules election outcome certificate r given)

pub audit-one : {A : Type 0} (rules : AuditRules A) → ((e : Instance) (d : Delivery) → JustOne (rules.states e d))
    → Promised rules → (election : Delivery) (outcome : Option Delivery) (certificate : Delivery)
    → JustOne (AnswersAudit rules election outcome certificate)
audit-one rules one each election outcome certificate = record {
  one = audit-some rules one each election outcome certificate;
  no_other = audit-same rules one election outcome certificate;
}

pub price-reply-one : (m : Mode) (election : Delivery) (outcome : Option Delivery) (certificate : Delivery)
    → JustOne (AnswersPrices m election outcome certificate)
price-reply-one m =
    audit-one (price_rules m) (prices-one name.Certificate)
    (λ e w d p given. prices_promise m name.Certificate e w d p given)

pub violation-reply-one : (election : Delivery) (outcome : Option Delivery) (certificate : Delivery)
    → JustOne (AnswersViolation election outcome certificate)
violation-reply-one =
    audit-one violation_rules (violation-one name.Certificate) (λ e w d claim given. violation_promises e w claim)

pub refutation-reply-one : (stable : Bool) (election : Delivery) (outcome : Option Delivery) (certificate : Delivery)
    → JustOne (AnswersRefutation stable election outcome certificate)
refutation-reply-one stable =
    audit-one (refutation_rules stable) refutation-one (λ e w d r given. refutation_promises stable e w r)

pub margins-reply-one : (election : Delivery) (outcome : Option Delivery) (certificate : Delivery)
    → JustOne (AnswersAudit margin_rules election outcome certificate)
margins-reply-one = audit-one margin_rules (prices-one name.Certificate) (λ e w d p given. refl)

pub tells-one : (format : Format) (is_reply : Reply → Type 0) → JustOne is_reply → JustOne (TellsReply format is_reply)
tells-one format is_reply h = record {
  one = (answer_as format h.one.0, record { reply = h.one.0; of_inputs = h.one.1; out = refl });
  no_other = λ r s a b. a.out ∙ ap (answer_as format) (h.no_other a.reply b.reply a.of_inputs b.of_inputs) ∙ sym b.out;
}

-- What is told by the figures of all projects.

abbrev Figured : FigureRules → Stated Instance → Option (Stated (List Bool)) → List GroupFigures → Type 0
Figured rules e o xs = OfOutcome (λ e w. AreFigured rules e w xs) e o

figured-same : (rules : FigureRules) (e : Instance) (w : Stated (List Bool)) (xs ys : List GroupFigures)
    → IfOk w (λ w. AreFigured rules e w xs) → IfOk w (λ w. AreFigured rules e w ys)
    → with_input w (λ w. rules.reply e w xs) ≡ with_input w (λ w. rules.reply e w ys)
figured-same rules e (Ok w) xs ys a b = ap (rules.reply e w) (figures_are_one rules.measure e w xs ys a.figures b.figures)
figured-same rules e (Err r) xs ys a b = refl

answers-same : (rules : FigureRules) (outcome : Option Delivery) (e : Stated Instance) (o p : Option (Stated (List Bool)))
    (xs ys : List GroupFigures)
    → IfOk e (λ i. StatesFile (StatesOutcome i) outcome o) → IfOk e (λ i. StatesFile (StatesOutcome i) outcome p)
    → Figured rules e o xs → Figured rules e p ys
    → outcome_reply (λ e w. rules.reply e w xs) e o ≡ outcome_reply (λ e w. rules.reply e w ys) e p
answers-same rules outcome (Err r) o p xs ys given also a b = refl
answers-same rules outcome (Ok e) o p xs ys given also a b =
    let same : p ≡ o = (file-one (StatesOutcome e) (outcome-one e) outcome).no_other p o also given in
    let of : IfOk (audited e o) (λ w. AreFigured rules e w ys) =
    subst (λ (x : Option (Stated (List Bool))). IfOk (audited e x) (λ w. AreFigured rules e w ys)) same b in
    figured-same rules e (audited e o) xs ys a of
    ∙ ap (λ (x : Option (Stated (List Bool))). with_input (audited e x) (λ w. rules.reply e w ys)) (sym same)

figured-some : (rules : FigureRules) → FiguresPromise rules → (election : Delivery) (outcome : Option Delivery)
    → (r : Reply) × AnswersFigured rules election outcome r
figured-some rules each election outcome = by (election-one election).one.0 (election-one election).one.1
  where
    with-outcome : (e : Instance) → StatesElection election (Ok e) → (o : Option (Stated (List Bool)))
        → StatesFile (StatesOutcome e) outcome o → (w : Stated (List Bool)) → audited e o ≡ w
        → (xs : List GroupFigures) × IfOk w (λ w. AreFigured rules e w xs)
        → (r : Reply) × AnswersFigured rules election outcome r
    with-outcome e given o states w is found = (
      with_input w (λ w. rules.reply e w found.0),
      record {
        e = Ok e;
        o = o;
        xs = found.0;
        election_states = given;
        outcome_states = states;
        figured = subst (λ (w : Stated (List Bool)). IfOk w (λ w. AreFigured rules e w found.0)) (sym is) found.1;
        out = ap (λ (w : Stated (List Bool)). with_input w (λ w. rules.reply e w found.0)) (sym is);
      },
    )

    figured : (e : Instance) (w : Stated (List Bool)) → (xs : List GroupFigures) × IfOk w (λ w. AreFigured rules e w xs)
    figured e (Ok w) = let xs = figures_exist rules.measure e w in
        (xs.0, record { figures = xs.1; promised = each e w xs.0 xs.1 })
    figured e (Err r) = ([], tt)

    by : (e : Stated Instance) → StatesElection election e → (r : Reply) × AnswersFigured rules election outcome r
    by (Ok e) given = let o = (file-one (StatesOutcome e) (outcome-one e) outcome).one in
        with-outcome e given o.0 o.1 (audited e o.0) refl (figured e (audited e o.0))
    by (Err r) given = (
      refused r,
      record {
        e = Err r;
        o = None;
        xs = [];
        election_states = given;
        outcome_states = tt;
        figured = tt;
        out = refl;
      },
    )

pub figured-one : (rules : FigureRules) → FiguresPromise rules → (election : Delivery) (outcome : Option Delivery)
    → JustOne (AnswersFigured rules election outcome)
figured-one rules each election outcome = record {
  one = figured-some rules each election outcome;
  no_other = λ r s a b. (
      let same : b.e ≡ a.e = (election-one election).no_other b.e a.e b.election_states a.election_states in
      let states = subst (λ (e : Stated Instance). IfOk e (λ i. StatesFile (StatesOutcome i) outcome b.o)) same
      b.outcome_states in
      let figured = subst (λ (e : Stated Instance). Figured rules e b.o b.xs) same b.figured in
      a.out ∙ answers-same rules outcome a.e a.o b.o a.xs b.xs a.outcome_states states a.figured figured
      ∙ ap (λ (e : Stated Instance). outcome_reply (λ e w. rules.reply e w b.xs) e b.o) (sym same) ∙ sym b.out
      );
}

-- Both certificates.

-- what the violation certificate states beside the prices
beside-stated : Stated GroupAndDemand → Stated Prices → Stated Both
beside-stated v (Ok p) = Ok (p, v)
beside-stated v (Err r) = Err r

both-stated : (violation : Delivery) (e : Instance) (prices : Delivery) (p : Stated Prices)
    → StatesPrices name.Prices e prices p → (both : Stated Both) × StatesBoth violation e prices both
both-stated violation e prices (Ok p) states = let v = (violation-one name.Violation e violation).one in
    (Ok (p, v.0), (states, v.1))
both-stated violation e prices (Err r) states = (Err r, states)

both-same : (violation : Delivery) (e : Instance) (prices : Delivery) (a b : Stated Both)
    → StatesBoth violation e prices a → StatesBoth violation e prices b → a ≡ b
unfolding beside-stated
both-same violation e prices (Ok a) (Ok b) h k =
    ap (beside-stated a.1) ((prices-one name.Prices e prices).no_other (Ok a.0) (Ok b.0) h.0 k.0)
    ∙ ap (λ v. beside-stated v (Ok b.0)) ((violation-one name.Violation e violation).no_other a.1 b.1 h.1 k.1)
both-same violation e prices (Ok a) (Err r) h k =
    ap (beside-stated a.1) ((prices-one name.Prices e prices).no_other (Ok a.0) (Err r) h.0 k)
both-same violation e prices (Err r) (Ok b) h k =
    ap (beside-stated b.1) ((prices-one name.Prices e prices).no_other (Err r) (Ok b.0) h k.0)
both-same violation e prices (Err r) (Err s) h k =
    ap (beside-stated (Err r)) ((prices-one name.Prices e prices).no_other (Err r) (Err s) h k)

pub both-one : (m : Mode) (election : Delivery) (outcome : Option Delivery) (prices violation : Delivery)
    → JustOne (AnswersBoth m election outcome prices violation)
both-one m election outcome prices violation =
    audit-one (both_rules m violation)
    (λ e d. (
    let p = (prices-one name.Prices e d).one in
    record { one = both-stated violation e d p.0 p.1; no_other = both-same violation e d }
    ))
    (both_promises m violation) election outcome prices
