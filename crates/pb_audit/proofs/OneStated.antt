-- What an input states is one thing.
use Rattle.std.proofs.Common.{◌≡◌, ◌∙◌, ℕ, List, Option, Some, None, ap, inl, inr, refl, sym, arith}
use Rattle.std.specs.Prelude.{◌⊎◌, Ok, Err}
use Rattle.pb_records.proofs.FirstOrNone.{HasFirst}
use Rattle.pb_election.specs.Faults as elections
use Rattle.pb_election.specs.Instance.{Instance}
use Rattle.pb_election.specs.Text.{IsTextOf}
use Rattle.pb_election.specs.declared.refusal.ElectionFault.{ElectionFault}
use Rattle.pb_election.proofs.Apart as election_laws
use Rattle.pb_election.proofs.FoundParts.{one-election}
use Rattle.pb_election.proofs.Reading as election_reading
use Rattle.pb_records.specs.FirstFault.{Form}
use Rattle.pb_records.specs.Loading.{Delivery}
use Rattle.pb_records.specs.Loading as delivery
use Rattle.pb_records.specs.Records.{election_records}
use Rattle.pb_records.proofs.First.{one-first}
use Rattle.pb_certificate.specs.Faults.{certificate_records, outcome_form, price_form, refutation_form, violation_form}
use Rattle.pb_certificate.specs.Outcomes.Text.{IsOutcomeText}
use Rattle.pb_certificate.specs.Prices.Text.{IsPriceText}
use Rattle.pb_certificate.specs.Refutations.Text.{IsRefutationText}
use Rattle.pb_certificate.specs.Violations.Text.{IsViolationText}
use Rattle.pb_certificate.specs.declared.refusal.CertFault.{CertFault}
use Rattle.pb_certificate.proofs.OnViolations.Answered.{group-answered}
use Rattle.pb_certificate.proofs.OnViolations.Clear.{group-clear}
use Rattle.pb_certificate.proofs.OnOutcomes.Answered.{outcome-answered}
use Rattle.pb_certificate.proofs.OnOutcomes.Clear.{outcome-clear}
use Rattle.pb_certificate.proofs.OnPrices.Answered.{price-answered}
use Rattle.pb_certificate.proofs.OnPrices.Clear.{price-clear}
use Rattle.pb_certificate.proofs.OnRefutations.Answered.{refutation-answered}
use Rattle.pb_certificate.proofs.OnRefutations.Clear.{refutation-clear}
use Rattle.pb_certificate.proofs.OnRefutations.Texts.{refutation-text-same}
use Rattle.pb_certificate.proofs.Unique.{group-text-same, outcome-text-same, price-text-same}
use Rattle.pb_audit.specs.Both.{GroupAndDemand}
use Rattle.pb_reply.specs.Inputs.{IsRefusedElection, IsRefusedFile, Stated, States, StatesElection, StatesFile, StatesOutcome, StatesPrices, StatesRefutation, StatesViolation, refusal_of}
use Rattle.pb_input.specs.declared.InputRefusal.{InputRefusal}
use Rattle.pb_audit.specs.OneAnswer.{JustOne}
use Rattle.pb_input.specs.declared.InputFault.TheVariants as fault
use Rattle.pb_input.specs.declared.InputName.{InputName}
use Rattle.pb_input.specs.declared.InputName.TheVariants as name

-- Bytes state one thing of a kind, or are refused for one reason, and never both.
record Decides {A : Type 0} (is_text : List ℕ → A → Type 0) (is_refused : List ℕ → InputRefusal → Type 0) : Type 0 where
  answered : (bytes : List ℕ) → ((a : A) × is_text bytes a) ⊎ ((r : InputRefusal) × is_refused bytes r)
  apart : (bytes : List ℕ) (a : A) (r : InputRefusal) → is_text bytes a → is_refused bytes r → ⊥
  alone : (bytes : List ℕ) (a b : A) → is_text bytes a → is_text bytes b → a ≡ b
  first : (bytes : List ℕ) (r s : InputRefusal) → is_refused bytes r → is_refused bytes s → r ≡ s

-- So does what is delivered.
states-some : {A : Type 0} (input : InputName) (is_text : List ℕ → A → Type 0)
    (is_refused : List ℕ → InputRefusal → Type 0)
    → Decides is_text is_refused → (d : Delivery) → (stated : Stated A) × States input is_text is_refused d stated
states-some input is_text is_refused k (delivery.Bytes bytes) =
    elim (k.answered bytes) [ inl text ↦ (Ok text.0, text.1) | inr why ↦ (Err why.0, why.1) ]
states-some input is_text is_refused k delivery.Read = (Err (refusal_of input fault.Unread), refl)
states-some input is_text is_refused k delivery.TooLong = (Err (refusal_of input fault.TooLong), refl)

states-same : {A : Type 0} (input : InputName) (is_text : List ℕ → A → Type 0)
    (is_refused : List ℕ → InputRefusal → Type 0) → Decides is_text is_refused → (d : Delivery) (s t : Stated A)
    → States input is_text is_refused d s → States input is_text is_refused d t → s ≡ t
states-same input is_text is_refused k d s t h i = grind arith

states-one : {A : Type 0} (input : InputName) (is_text : List ℕ → A → Type 0)
    (is_refused : List ℕ → InputRefusal → Type 0)
    → Decides is_text is_refused → (d : Delivery) → JustOne (States input is_text is_refused d)
states-one input is_text is_refused k d =
    record { one = states-some input is_text is_refused k d; no_other = states-same input is_text is_refused k d }

-- Elections.

election_refusal : ElectionFault → ℕ → InputRefusal
election_refusal f record_number = refusal_of name.Election (fault.Election (record { fault = f; record_number = record_number }))

election-decides : Decides IsTextOf IsRefusedElection
unfolding election_refusal
election-decides = record {
  answered = λ bytes. elim (election_reading.answered (election_records bytes)) [
    | inl text ↦ inl text
    | inr why ↦ inr (election_refusal why.1 why.0, (record { fault = why.1; record_number = why.0 }, why.2, refl))
  ];
  apart = λ bytes e r text refused. election_laws.apart (election_records bytes) e refused.0.record_number refused.0.fault text
      refused.1;
  alone = λ bytes e d t u. one-election (election_records bytes) e d t u;
  first = λ bytes r s h k. (
      let same =
      one-first elections.election_form (election_records bytes) h.0.record_number k.0.record_number h.0.fault k.0.fault h.1 k.1 in
      h.2 ∙ ap (λ f. election_refusal f h.0.record_number) same.1 ∙ ap (election_refusal k.0.fault) same.0 ∙ sym k.2
      );
}

pub election-one : (d : Delivery) → JustOne (StatesElection d)
election-one = states-one name.Election IsTextOf IsRefusedElection election-decides

-- Files beside an election.

file_refusal : InputName → CertFault → ℕ → InputRefusal
file_refusal input f record_number = refusal_of input (fault.Certificate (record { fault = f; record_number = record_number }))

-- where a first fault stands, the file is refused for it
file-refused : (input : InputName) (form : Form CertFault) (bytes : List ℕ) → HasFirst form (certificate_records bytes)
    → (r : InputRefusal) × IsRefusedFile input form bytes r
unfolding file_refusal
file-refused input form bytes why =
    (file_refusal input why.1 why.0, (record { fault = why.1; record_number = why.0 }, why.2, refl))

refusals-same : (input : InputName) (form : Form CertFault) (bytes : List ℕ) (r s : InputRefusal)
    → IsRefusedFile input form bytes r → IsRefusedFile input form bytes s → r ≡ s
unfolding file_refusal
refusals-same input form bytes r s h k =
    let same = one-first form (certificate_records bytes) h.0.record_number k.0.record_number h.0.fault k.0.fault h.1 k.1 in
    h.2 ∙ ap (λ f. file_refusal input f h.0.record_number) same.1 ∙ ap (file_refusal input k.0.fault) same.0 ∙ sym k.2

pub prices-one : (input : InputName) (e : Instance) (d : Delivery) → JustOne (StatesPrices input e d)
prices-one input e =
    states-one input (λ bytes p. IsPriceText (certificate_records bytes) e p) (IsRefusedFile input (price_form e))
    (record {
      answered = λ bytes. elim (price-answered (certificate_records bytes) e)
          [ inl text ↦ inl text | inr why ↦ inr (file-refused input (price_form e) bytes why) ];
      apart = λ bytes p r text refused. price-clear (certificate_records bytes) e p text refused.0.record_number refused.0.fault
          refused.1;
      alone = λ bytes p q t u. price-text-same (certificate_records bytes) e p q t u;
      first = refusals-same input (price_form e);
    })

-- the three parts of a claim are the claim
claims-same : (a b : GroupAndDemand) → (a.0 ≡ b.0) × (a.1 ≡ b.1) × (a.2 ≡ b.2) → a ≡ b
claims-same a b h = λ i. (h.0 i, h.1 i, h.2 i)

pub violation-one : (input : InputName) (e : Instance) (d : Delivery) → JustOne (StatesViolation input e d)
violation-one input e =
    states-one input (λ bytes v. IsViolationText (certificate_records bytes) e v.0 v.1 v.2)
    (IsRefusedFile input (violation_form e)) (record {
      answered = λ bytes. elim (group-answered (certificate_records bytes) e) [
        | inl text ↦ inl ((text.0, text.1, text.2), text.3)
        | inr why ↦ inr
            (file-refused input (violation_form e) bytes why)
      ];
      apart = λ bytes v r text refused. group-clear (certificate_records bytes) e v.0 v.1 v.2 text refused.0.record_number
          refused.0.fault refused.1;
      alone = λ bytes v w t u. claims-same v w
          (group-text-same (certificate_records bytes) e v.0 w.0 v.1 v.2 w.1 w.2 t u);
      first = refusals-same input (violation_form e);
    })

pub refutation-one : (e : Instance) (d : Delivery) → JustOne (StatesRefutation e d)
refutation-one e =
    states-one name.Certificate (λ bytes r. IsRefutationText (certificate_records bytes) e r)
    (IsRefusedFile name.Certificate (refutation_form e)) (record {
      answered = λ bytes. elim (refutation-answered (certificate_records bytes) e) [
        | inl text ↦ inl text
        | inr why ↦ inr (file-refused name.Certificate (refutation_form e) bytes why)
      ];
      apart = λ bytes r f text refused. refutation-clear (certificate_records bytes) e r text refused.0.record_number
          refused.0.fault refused.1;
      alone = λ bytes r s t u. refutation-text-same (certificate_records bytes) e r s t u;
      first = refusals-same name.Certificate (refutation_form e);
    })

pub outcome-one : (e : Instance) (d : Delivery) → JustOne (StatesOutcome e d)
outcome-one e = states-one name.Outcome (λ bytes marks. IsOutcomeText (certificate_records bytes) e marks)
    (IsRefusedFile name.Outcome (outcome_form e)) (record {
      answered = λ bytes. elim (outcome-answered (certificate_records bytes) e)
          [ inl text ↦ inl text | inr why ↦ inr (file-refused name.Outcome (outcome_form e) bytes why) ];
      apart = λ bytes w r text refused. outcome-clear (certificate_records bytes) e w text refused.0.record_number
          refused.0.fault refused.1;
      alone = λ bytes w v t u. outcome-text-same (certificate_records bytes) e w v t u;
      first = refusals-same name.Outcome (outcome_form e);
    })

-- a file that is given or not
file-some : {A : Type 0} (states : Delivery → Stated A → Type 0) → ((d : Delivery) → JustOne (states d))
    → (file : Option Delivery) → (stated : Option (Stated A)) × StatesFile states file stated
file-some states one None = (None, tt)
file-some states one (Some d) = let s = (one d).one in (Some s.0, s.1)

file-same : {A : Type 0} (states : Delivery → Stated A → Type 0) → ((d : Delivery) → JustOne (states d))
    → (file : Option Delivery) (s t : Option (Stated A)) → StatesFile states file s → StatesFile states file t → s ≡ t
file-same states one None None None h k = refl
file-same states one None None (Some t) h k = absurd k
file-same states one None (Some s) t h k = absurd h
file-same states one (Some d) None t h k = absurd h
file-same states one (Some d) (Some s) None h k = absurd k
file-same states one (Some d) (Some s) (Some t) h k = ap Some ((one d).no_other s t h k)

pub file-one : {A : Type 0} (states : Delivery → Stated A → Type 0) → ((d : Delivery) → JustOne (states d))
    → (file : Option Delivery) → JustOne (StatesFile states file)
file-one states one file = record { one = file-some states one file; no_other = file-same states one file }
