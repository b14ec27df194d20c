-- The prices of a certificate, gathered row by row.
use Rattle.std.proofs.Common.{◌≡◌, ◌∙◌, ◌≤◌, ◌<◌, ◌-◌, ℕ, false, List, [], ◌∷◌, ◌++◌, length, sym, ap, subst, arith, inl, inr}
use Rattle.std.specs.Prelude.{◌⊎◌}
use Rattle.std.specs.List.{list_any}
use Rattle.pb_election.specs.Instance.{Instance, projects, voters}
use Rattle.pb_records.specs.Records.{Rec}
use Rattle.pb_records.specs.FirstFault.{IsFirstFault}
use Rattle.pb_certificate.specs.Faults.{no_memory, price_form}
use Rattle.pb_certificate.specs.Inside.Prices.Gathering.{GathersAll, Holds, HoldsAll}
use Rattle.pb_certificate.specs.Prices.RowFaults.{as_payment, last_voter}
use Rattle.pb_certificate.specs.Prices.Text.{IsPriceText, Payment, same_pair}
use Rattle.pb_certificate.specs.Prices.{Prices}
use Rattle.pb_certificate.specs.Prices.Rows.{GivesNone, GivesRow, Rows, given, prices_given}
use Rattle.pb_certificate.specs.declared.prices.gathering.Turn.{Turn}
use Rattle.pb_certificate.specs.declared.prices.row.PriceRow.{PriceRow}
use Rattle.pb_certificate.specs.declared.refusal.CertRefusal.{CertRefusal}
use Rattle.pb_certificate.proofs.OnPrices.Clear.{price-clear}
use Rattle.pb_certificate.proofs.OnPrices.RowSteps.{last_voter-push, may-follow}

-- the place in the file does not matter
any-place : (has : Instance → Prices → Type 0) (s : Rows) (n : ℕ) (qs : List Payment) (t : Turn)
    → Holds has (record s { record_number = n }) qs t → Holds has s qs t
any-place has s n qs t h = grind arith

at-place : (has : Instance → Prices → Type 0) (s : Rows) (n : ℕ) (qs : List Payment) (t : Turn) → Holds has s qs t
    → Holds has (record s { record_number = n }) qs t
at-place has s n = any-place has (record s { record_number = n }) s.record_number

-- how far the rows behind the first were gathered
pub record Gathers (has : Instance → Prices → Type 0) (first s : Rows) (t : Turn) : Type 0 where
  pub at : s ≡ record first { record_number = s.record_number }
  pub holds : Holds has s (given s) t
  pub done : t.done ≤ last_voter (given s) - 1
  pub voters : t.done ≤ voters s.election

pub gathers-none : (has : Instance → Prices → Type 0) (s : Rows) (t : Turn) → given s ≡ [] → Holds has s [] t
    → t.done ≡ 0 → Gathers has s s t
gathers-none has s t none holds done = grind arith

-- one more row is added
pub gathers-row : (has has' : Instance → Prices → Type 0) (first s new : Rows) (t next : Turn) (q : PriceRow)
    → Gathers has first s t → GivesRow s new q
    → (q.project ≤ projects s.election → list_any (same_pair (as_payment q)) (given s) ≡ false
    → length (given s) < 10000000 → Holds has' s (given s ++ (as_payment q ∷ [])) next)
    → next.done ≡ q.voter - 1 → Gathers has' first new next
gathers-row has has' first s new t next q g row adds done =
    let follows = may-follow (given s) (as_payment q) row.follows in
    let holds = adds row.project.1 follows.fresh follows.few in
    let last : last_voter (given new) ≡ q.voter = ap last_voter row.given_then
    ∙ last_voter-push (given s) (as_payment q) in
    let same : new.election ≡ s.election = ap (λ (x : Rows). x.election) row.same in
    record {
      at = row.same ∙ ap (λ (x : Rows). record x { record_number = new.record_number }) g.at;
      holds = subst (λ (x : Rows). Holds has' x (given new) next) (sym row.same)
          (at-place has' s new.record_number (given new) next
          (subst (λ (qs : List Payment). Holds has' s qs next) (sym row.given_then) holds));
      done = omega arith;
      voters = subst (λ (e : Instance). next.done ≤ voters e) (sym same) (omega arith);
    }

-- all rows
pub gathers-all : (has : Instance → Prices → Type 0) (first s new : Rows) (t : Turn) → Gathers has first s t
    → GivesNone s new → HoldsAll has first t
gathers-all has first s new t g none =
    record {
      record_number = s.record_number;
      states = subst (λ (x : Rows). IsPriceText x.records x.election (prices_given x)) g.at none.states;
      holds = any-place has first s.record_number (given (record first { record_number = s.record_number })) t
          (subst (λ (x : Rows). Holds has x (given x) t) g.at g.holds);
      voters = subst (λ (x : Rows). t.done ≤ voters x.election) g.at g.voters;
    }

-- all voters
pub all-gathered : (has has' : Instance → Prices → Type 0) (first : Rows) (t last : Turn) (n : ℕ)
    → (h : HoldsAll has first t) → ((s : Rows) (qs : List Payment) → Holds has s qs t → Holds has' s qs last)
    → last.done ≡ n → n ≡ voters first.election → GathersAll has' first
all-gathered has has' first t last n h closes done is = grind arith

-- the prices of all rows
abbrev pub prices-by : ℕ → ℕ → ℕ → List (List (ℕ × ℕ)) → Prices
prices-by m d b payments = record { projects = m; denominator = d; budget = b; payments = payments }

-- the prices that a sink has, for the election and the records at hand
pub states-all : (recs : List Rec) (e : Instance) (first : Rows) (has : Instance → Prices → Type 0)
    (h : GathersAll has first) → first.election ≡ e → first.records ≡ recs
    → IsPriceText recs e h.prices × has e h.prices
states-all recs e first has h same_election same_records = grind arith

-- the runs are the payments of those prices
pub runs-state : (recs : List Rec) (e : Instance) (first : Rows) (m d b : ℕ) (runs : List (List (ℕ × ℕ)))
    → GathersAll (λ x p. runs ≡ p.payments) first → first.election ≡ e → first.records ≡ recs
    → m ≡ projects e → d ≡ first.denominator → b ≡ first.budget → IsPriceText recs e (prices-by m d b runs)
runs-state recs e first m d b runs h same_election same_records is_m is_d is_b = grind arith

-- a refusal of a text of prices means out of memory
pub text-refused : (recs : List Rec) (e : Instance) (p : Prices) (r : CertRefusal) → IsPriceText recs e p
    → (r ≡ no_memory) ⊎ IsFirstFault (price_form e) recs r.record_number r.fault → r ≡ no_memory
text-refused recs e p r text h =
    elim h [ inl memory ↦ memory | inr first ↦ absurd (price-clear recs e p text r.record_number r.fault first) ]

-- and so is one while its rows were gathered
pub gathering-refused : (recs : List Rec) (e : Instance) (p : Prices) (first : Rows) (r : CertRefusal)
    → IsPriceText recs e p → first.election ≡ e → first.records ≡ recs
    → (r ≡ no_memory) ⊎ IsFirstFault (price_form first.election) first.records r.record_number r.fault → r ≡ no_memory
gathering-refused recs e p first r text same_election same_records =
    rw (same_election, same_records) (text-refused recs e p r text)
