-- Prices and weights are never both answered by a yes for one election and one outcome, but prices without Cover beside
-- weights with one of Cover.
use Rattle.std.proofs.Common.{◌≡◌, ◌<◌, ◌∙◌, ℕ, Bool, true, false, List, [], ◌∷◌, Option, ap, codes, get_or, inl, inr, refl, subst, sym, arith}
use Rattle.std.specs.Prelude.{◌⊎◌, IfOk, IsFalse, IsTrue, Ok, Err}
use Rattle.std.proofs.lemmas.Bool.{false≢true}
use Rattle.pb_records.specs.Loading.{Delivery}
use Rattle.pb_election.specs.Instance.{Instance}
use Rattle.pb_certificate.specs.Prices.{Prices}
use Rattle.pb_certificate.specs.Refutations.{Weights}
use Rattle.pb_cohesion.specs.FirstU.{FirstStableU, FirstU, SaysUnpriceable, SaysUnpriceableStable, refutation_verdict}
use Rattle.pb_cohesion.specs.Refutations.{NothingRefutes, NothingRefutesStable}
use Rattle.pb_cohesion.specs.declared.RefutationVerdict.{RefutationVerdict}
use Rattle.pb_cohesion.specs.declared.RefutationVerdict.TheVariants as verdict
use Rattle.pb_cohesion.proofs.Refuted.{says-all, says-refuted, says-refuted-stable}
use Rattle.pb_cohesion.specs.declared.Mode.{Mode}
use Rattle.pb_reply.specs.Inputs.{FilesState, Stated, StatesOutcome, audited}
use Rattle.pb_reply.specs.Lines.{refutation_line}
use Rattle.pb_reply.specs.Replies.{Reply, refutation_status, refused, with_input}
use Rattle.pb_input.specs.declared.InputRefusal.{InputRefusal}
use Rattle.pb_reply.specs.declared.status.Status.TheVariants.{Yes, Refused}
use Rattle.pb_audit.specs.Answers.{AnswersPrices, AnswersRefutation, AuditRules, OfAccepted, audit_reply, price_reply, price_rules, refutation_reply, refutation_rules}
use Rattle.pb_reply.proofs.Promises.{no-yes}
use Rattle.pb_reply.specs.Promises.{PricesPromise}
use Rattle.pb_audit.proofs.OneStated.{election-one, file-one, outcome-one}

-- what an audit answers, by what its election and its outcome file state
abbrev AnswersOn : {A : Type 0} → AuditRules A → Delivery → Option Delivery → Delivery → Reply → Stated Instance
    → Option (Stated (List Bool)) → Type 0
AnswersOn {A} rules election outcome certificate r e o =
    (c : Stated A) × FilesState rules.states election outcome certificate e o c
    × (r ≡ audit_reply rules.reply e o c) × OfAccepted (rules.promises r.status) e o c

-- what prices with a yes leave of the line of weights with a yes
pub record Leaves (m : Mode) (stable : Bool) (r : Reply) : Type 0 where
  pub whatever : r.lines ≡ codes "unpriceable" ∷ [] → ⊥
  pub told_under_cover : r.lines ≡ codes "unpriceable cover" ∷ [] → IsTrue m.cover → ⊥
  pub told_stable : r.lines ≡ codes "unpriceable stable" ∷ [] → IsTrue m.stable → ⊥
  pub stable_under_cover : IsTrue m.stable → IsTrue m.cover → ⊥
  pub plain_under_cover : IsFalse stable → IsTrue m.cover → ⊥

-- a refusal is no yes
refusal-no-yes : {A : Type 0} (x : InputRefusal) → Refused x ≡ Yes → A
refusal-no-yes x h = cc

no-refusal : {A : Type 0} (r : Reply) (x : InputRefusal) → r ≡ refused x → r.status ≡ Yes → A
no-refusal r x is yes' = refusal-no-yes x (sym (ap (λ (q : Reply). q.status) is) ∙ yes')

not-both : {A : Type 0} (b : Bool) → b ≡ true → b ≡ false → A
not-both b yes' no' = absurd (false≢true (sym no' ∙ yes'))

-- the lines differ at this character
abbrev first-line : List (List ℕ) → List ℕ
first-line [] = []
first-line (line ∷ lines) = line

abbrev cover-line : List ℕ
cover-line = codes "unpriceable cover"

abbrev stable-line : List ℕ
stable-line = codes "unpriceable stable"

abbrev stable-cover-line : List ℕ
stable-cover-line = codes "unpriceable stable cover"

line-differs : (k : ℕ) (x y : List ℕ) (lines : List (List ℕ)) → lines ≡ x ∷ [] → lines ≡ y ∷ []
    → (get_or x k 0 ≡ get_or y k 0 → ⊥) → ⊥
line-differs k x y lines is other apart =
    apart (ap (λ (ls : List (List ℕ)). get_or (first-line ls) k 0) (sym is ∙ other))

cover-no-plain : (lines : List (List ℕ)) → lines ≡ cover-line ∷ [] → lines ≡ codes "unpriceable" ∷ [] → ⊥
cover-no-plain lines is other = line-differs 12 _ _ lines is other (λ same. omega arith)

cover-no-stable : (lines : List (List ℕ)) → lines ≡ cover-line ∷ [] → lines ≡ stable-line ∷ [] → ⊥
cover-no-stable lines is other = line-differs 12 _ _ lines is other (λ same. omega arith)

stable-no-plain : (lines : List (List ℕ)) → lines ≡ stable-line ∷ [] → lines ≡ codes "unpriceable" ∷ [] → ⊥
stable-no-plain lines is other = line-differs 12 _ _ lines is other (λ same. omega arith)

both-no-plain : (lines : List (List ℕ)) → lines ≡ stable-cover-line ∷ [] → lines ≡ codes "unpriceable" ∷ [] → ⊥
both-no-plain lines is other = line-differs 12 _ _ lines is other (λ same. omega arith)

both-no-cover : (lines : List (List ℕ)) → lines ≡ stable-cover-line ∷ [] → lines ≡ cover-line ∷ [] → ⊥
both-no-cover lines is other = line-differs 12 _ _ lines is other (λ same. omega arith)

both-no-stable : (lines : List (List ℕ)) → lines ≡ stable-cover-line ∷ [] → lines ≡ stable-line ∷ [] → ⊥
both-no-stable lines is other = line-differs 19 _ _ lines is other (λ same. omega arith)

-- what is left, by the line of the weights
leaves-cover : (m : Mode) (stable : Bool) (r : Reply) → r.lines ≡ cover-line ∷ [] → IsFalse m.cover → Leaves m stable r
leaves-cover m stable r says uncovered = record {
  whatever = cover-no-plain r.lines says;
  told_under_cover = λ line covers. not-both m.cover covers uncovered;
  told_stable = λ line stable'. cover-no-stable r.lines says line;
  stable_under_cover = λ stable' covers. not-both m.cover covers uncovered;
  plain_under_cover = λ plain covers. not-both m.cover covers uncovered;
}

leaves-stable : (m : Mode) (stable : Bool) (r : Reply) → r.lines ≡ stable-line ∷ [] → stable ≡ true
    → (IsTrue m.stable → ⊥) → Leaves m stable r
leaves-stable m stable r says asked never = record {
  whatever = stable-no-plain r.lines says;
  told_under_cover = λ line covers. cover-no-stable r.lines line says;
  told_stable = λ line stable'. never stable';
  stable_under_cover = λ stable' covers. never stable';
  plain_under_cover = λ plain covers. not-both stable asked plain;
}

leaves-both : (m : Mode) (stable : Bool) (r : Reply) → r.lines ≡ stable-cover-line ∷ [] → stable ≡ true
    → (IsTrue m.stable → IsFalse m.cover) → Leaves m stable r
leaves-both m stable r says asked uncovered = record {
  whatever = both-no-plain r.lines says;
  told_under_cover = λ line covers. both-no-cover r.lines says line;
  told_stable = λ line stable'. both-no-stable r.lines says line;
  stable_under_cover = λ stable' covers. not-both m.cover covers (uncovered stable');
  plain_under_cover = λ plain covers. not-both stable asked plain;
}

zero-some : {A : Type 0} (k : ℕ) → k ≡ 0 → 0 < k → A
zero-some k none some = absurd (omega arith)

-- What the verdict says of the weights, whose weight of Cover is k, beside prices in a mode.
record Says (m : Mode) (stable : Bool) (k : ℕ) (v : RefutationVerdict) : Type 0 where
  of_all : SaysUnpriceable v → (0 < k) × IsFalse m.cover
  of_stable : SaysUnpriceableStable v → (stable ≡ true) × (IsTrue m.stable → (0 < k) × IsFalse m.cover)
  none : (v ≡ verdict.Unpriceable) ⊎ (v ≡ verdict.UnpriceableStable) → k ≡ 0

by-verdict : (m : Mode) (stable : Bool) (k : ℕ) (e : Instance) (r : Reply) (v : RefutationVerdict) → Says m stable k v
    → r.lines ≡ refutation_line e v ∷ [] → r.status ≡ refutation_status v → r.status ≡ Yes → Leaves m stable r
by-verdict m stable k e r verdict.Unpriceable said says ends yes' =
    zero-some k (said.none (inl refl)) (said.of_all (inl refl)).0
by-verdict m stable k e r verdict.UnpriceableUnderCover said says ends yes' =
    leaves-cover m stable r says (said.of_all (inr refl)).1
by-verdict m stable k e r verdict.UnpriceableStable said says ends yes' =
    let of_stable = said.of_stable (inl refl) in
    leaves-stable m stable r says of_stable.0 (λ stable'. zero-some k (said.none (inr refl)) (of_stable.1 stable').0)
by-verdict m stable k e r verdict.UnpriceableStableUnderCover said says ends yes' =
    let of_stable = said.of_stable (inr refl) in
    leaves-both m stable r says of_stable.0 (λ stable'. (of_stable.1 stable').1)
by-verdict m stable k e r (verdict.Failed f) said says ends yes' = no-yes (sym ends ∙ yes')

said-of : (m : Mode) (stable : Bool) (e : Instance) (w : List Bool) (b : Weights) → NothingRefutes m.cover e w
    → (IsTrue m.stable → NothingRefutesStable m.cover e w)
    → Says m stable b.cover (refutation_verdict stable e w b)
said-of m stable e w b unrefuted of_stable = record {
  of_all = λ h. unrefuted b ((says-refuted stable e w b).0 h);
  of_stable = λ h. (
      let of_weights = (says-refuted-stable stable e w b).0 h in
      (of_weights.0, λ stable'. of_stable stable' b of_weights.1)
      );
  none = says-all stable b.cover (FirstU e w b) (FirstStableU e w b);
}

on-outcome : (m : Mode) (stable : Bool) (e : Instance) (w : List Bool) (c : Stated Prices) (d : Stated Weights)
    (p r : Reply)
    → p ≡ with_input c (λ a. price_reply m e w a) → r ≡ with_input d (λ a. refutation_reply stable e w a)
    → IfOk c (λ a. PricesPromise m p.status e w a) → p.status ≡ Yes → r.status ≡ Yes → Leaves m stable r
on-outcome m stable e w (Ok a) (Ok b) p r is_p is_r of_p yes_p yes_r =
    by-verdict m stable b.cover e r (refutation_verdict stable e w b)
    (said-of m stable e w b (of_p.yes yes_p).unrefuted (of_p.yes yes_p).unrefuted_stable)
    (ap (λ (q : Reply). q.lines) is_r) (ap (λ (q : Reply). q.status) is_r) yes_r
on-outcome m stable e w (Err x) d p r is_p is_r of_p yes_p yes_r = no-refusal p x is_p yes_p
on-outcome m stable e w (Ok a) (Err x) p r is_p is_r of_p yes_p yes_r = no-refusal r x is_r yes_r

on-election : (m : Mode) (stable : Bool) (e : Instance) (w : Stated (List Bool)) (c : Stated Prices)
    (d : Stated Weights) (p r : Reply) → p ≡ with_input w (λ marks. with_input c (λ a. price_reply m e marks a))
    → r ≡ with_input w (λ marks. with_input d (λ a. refutation_reply stable e marks a))
    → IfOk w (λ marks. IfOk c (λ a. PricesPromise m p.status e marks a)) → p.status ≡ Yes → r.status ≡ Yes
    → Leaves m stable r
on-election m stable e (Ok w) c d p r is_p is_r of_p yes_p yes_r =
    on-outcome m stable e w c d p r is_p is_r of_p yes_p yes_r
on-election m stable e (Err x) c d p r is_p is_r of_p yes_p yes_r = no-refusal p x is_p yes_p

by-election : (m : Mode) (stable : Bool) (election : Delivery) (outcome : Option Delivery) (prices weights : Delivery)
    (p r : Reply) (e : Stated Instance) (o q : Option (Stated (List Bool)))
    → AnswersOn (price_rules m) election outcome prices p e o
    → AnswersOn (refutation_rules stable) election outcome weights r e q → p.status ≡ Yes → r.status ≡ Yes
    → Leaves m stable r
by-election m stable election outcome prices weights p r (Ok e) o q a b yes_p yes_r =
    let same : q ≡ o =
    (file-one (StatesOutcome e) (outcome-one e) outcome).no_other q o b.1.outcome_states a.1.outcome_states in
    let on = subst
    (λ (x : Option (Stated (List Bool))). AnswersOn (refutation_rules stable) election outcome weights r (Ok e) x)
    same b in
    on-election m stable e (audited e o) a.0 on.0 p r a.2 on.2 a.3 yes_p yes_r
by-election m stable election outcome prices weights p r (Err x) o q a b yes_p yes_r = no-refusal p x a.2 yes_p

pub never-both : (m : Mode) (stable : Bool) (election : Delivery) (outcome : Option Delivery)
    (prices weights : Delivery) (p r : Reply) → AnswersPrices m election outcome prices p
    → AnswersRefutation stable election outcome weights r → p.status ≡ Yes → r.status ≡ Yes → Leaves m stable r
never-both m stable election outcome prices weights p r a b yes_p yes_r =
    let same = (election-one election).no_other b.e a.e b.given.election_states a.given.election_states in
    let on = subst (λ (x : Stated Instance). AnswersOn (refutation_rules stable) election outcome weights r x b.o) same
    (b.c, b.given, b.out, b.promised) in
    by-election m stable election outcome prices weights p r a.e a.o b.o (a.c, a.given, a.out, a.promised) on yes_p
    yes_r
