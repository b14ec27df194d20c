-- A tally of all rows of a certificate is that of the prices that it states.
use Rattle.std.proofs.Common.{◌≡◌, ◌⊎◌, ℕ, List, [], length, drop, refl, sym, ◌∙◌, ap, subst, inl, inr}
use Rattle.std.specs.Prelude.{Err, IsErrAnd, Result}
use Rattle.std.proofs.lemmas.Result.{err_from_is_err_and}
use Rattle.pb_money.specs.Grains.{payment_grains}
use Rattle.pb_election.specs.Instance.{Instance, IsProject, IsVoter, voters}
use Rattle.pb_records.specs.Records.{Rec}
use Rattle.pb_records.specs.Cells.{nonblank}
use Rattle.pb_records.specs.FirstFault.{IsFirstFault}
use Rattle.pb_certificate.specs.Faults.{certificate_records, no_memory, price_form}
use Rattle.pb_certificate.specs.Prices.{Prices, payment}
use Rattle.pb_certificate.specs.Prices.Text.{IsPriceText, Payment, stated}
use Rattle.pb_certificate.specs.Prices.Rows.{Rows, given, prices_given}
use Rattle.pb_certificate.specs.declared.refusal.CertRefusal.{CertRefusal}
use Rattle.pb_certificate.proofs.OnPrices.Clear.{price-clear}
use Rattle.pb_certificate.proofs.OnPrices.Texts.{stated-payment}
use Rattle.pb_certificate.proofs.Unique.{price-text-same}
use Rattle.pb_price.specs.Inside.Tallying.{IsTallied, TakesCertificate, taken_from}
use Rattle.pb_price.specs.Inside.Tallies.{IsTallyOf, Taken, Tallied, no_payment}
use Rattle.pb_price.specs.declared.tallying.CertificateTally.{CertificateTally}
use Rattle.pb_price.specs.declared.open_tally.OpenTally.{OpenTally}
use Rattle.pb_price.specs.declared.tally.Tally.{Tally}
use Rattle.pb_price.proofs.Rows.{count-is, given-is}
use Rattle.pb_price.proofs.Whole.{Agree, whole}

-- before the first row
taken-by : ℕ → List Payment → Taken
taken-by b qs = record { budget = b; pays = stated qs; rows = length qs }

pub before-rows : (e : Instance) (t : OpenTally) (r : Rows) (b : ℕ) → Tallied e (no_payment b) t
    → b ≡ payment_grains r.budget → given r ≡ [] → Tallied e (taken_from r) t
unfolding taken-by
before-rows e t r b h budget none =
    let first : Tallied e (taken-by b []) t = h in
    subst (λ x. Tallied e (taken-by x (given r)) t) budget (subst (λ x. Tallied e (taken-by b x) t) (sym none) first)

-- the text, of the same election and records
text-of : (recs recs' : List Rec) (e e' : Instance) (p : Prices) → recs ≡ recs' → e ≡ e' → IsPriceText recs e p
    → IsPriceText recs' e' p
text-of recs recs' e e' p r s h = subst (λ x. IsPriceText recs' x p) s (subst (λ x. IsPriceText x e p) r h)

pub record Certified (e : Instance) (recs : List Rec) (r : Rows) (end : Rows) (t : Tally) : Type 0 where
  pub text : IsPriceText recs e (prices_given end)
  pub denominator : (prices_given end).denominator ≡ r.denominator
  pub tally : IsTallyOf e (prices_given end) t
  pub rows : length (given end) ≡ length (drop 4 (nonblank recs))

pub tallied-by : (r : Rows) (e : Instance) (t : OpenTally) (k : TakesCertificate r t) → r.election ≡ e
    → Tallied e (taken_from k.end) t
tallied-by r e t k is = subst (λ x. Tallied x (taken_from k.end) t) is k.tallied

pub certified : (r : Rows) (e : Instance) (recs : List Rec) (t new : OpenTally) (k : TakesCertificate r t) → r.election ≡ e
    → r.records ≡ recs → Tallied e (taken_from k.end) new → new.tally.closed ≡ voters e → Certified e recs r k.end new.tally
certified r e recs t new k is_e is_recs h all =
    let end_recs : k.end.records ≡ r.records = ap (λ x. x.records) k.same in
    let end_e : k.end.election ≡ r.election = ap (λ x. x.election) k.same in
    let end_text : IsPriceText k.end.records k.end.election (prices_given k.end) =
    text-of r.records k.end.records r.election k.end.election (prices_given k.end) (sym end_recs) (sym end_e)
    k.states in
    let none : nonblank (drop k.end.record_number k.end.records) ≡ [] =
    subst (λ x. nonblank (drop k.end.record_number x) ≡ []) (sym end_recs) k.no_row_left in
    let back : e ≡ k.end.election = sym (end_e ∙ is_e) in
    let agree : Agree e (stated (given k.end)) (payment (prices_given k.end)) = record {
      pays = λ i c iv ip. (
          ap (λ qs. stated qs i c) (given-is k.end (prices_given k.end) end_text none)
          ∙ sym (stated-payment k.end.records k.end.election (prices_given k.end) end_text i c
          (subst (λ x. IsVoter x i) back iv) (subst (λ x. IsProject x c) back ip)));
    } in
    record {
      text = text-of r.records recs r.election e (prices_given k.end) is_recs is_e k.states;
      denominator = ap (λ x. x.denominator) k.same;
      tally = whole e (taken_from k.end) new.tally (prices_given k.end) h.tally all refl agree;
      rows = count-is k.end (prices_given k.end) end_text none
          ∙ ap (λ x. length (drop 4 (nonblank x))) (end_recs ∙ is_recs);
    }

-- what holds of the prices that a certificate states holds of any that it states
pub of-any : {e : Instance} {bytes : List ℕ} {t : CertificateTally} (P : Prices → Type 0) (k : IsTallied e bytes t)
    → P k.prices → (p : Prices) → IsPriceText (certificate_records bytes) e p → P p
of-any {e} {bytes} P k h p text = subst P (price-text-same (certificate_records bytes) e k.prices p k.text text) h

-- the refusal that a `?` hands on means out of memory, where the records state prices
pub only-memory : {A : Type 0} (recs : List Rec) (e : Instance) (p : Prices) (f : CertRefusal)
    (r : Result A CertRefusal) → IsErrAnd r (λ x. x ≡ f) → IsPriceText recs e p
    → (f ≡ no_memory) ⊎ IsFirstFault (price_form e) recs f.record_number f.fault → r ≡ Err no_memory
only-memory recs e p f r handed text refused =
    let x = err_from_is_err_and r handed in
    x.1 ∙ ap Err (x.2 ∙ go refused)
  where
    go : (f ≡ no_memory) ⊎ IsFirstFault (price_form e) recs f.record_number f.fault → f ≡ no_memory
    go (inl h) = h
    go (inr h) = absurd (price-clear recs e p text f.record_number f.fault h)
