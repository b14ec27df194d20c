-- The payment that a row states, by its cells.
use Rattle.std.proofs.Common.{◌≡◌, ℕ, true, false, length, refl, sym, ap, arith, None, Some}
use Rattle.std.specs.Prelude.{◌==◌, ◌&&◌, nat_le, IfOk, MatchResult, Option, is_none}
use Rattle.std.proofs.lemmas.Bool.{eq-eqb}
use Rattle.csv.specs.Records.{field_at}
use Rattle.pb_money.specs.Whole.{WholeText}
use Rattle.pb_records.specs.Inside.Lines.{IsTriple}
use Rattle.pb_records.specs.declared.lines.Triple.{Triple}
use Rattle.pb_records.proofs.PlainLines.{whole-clean, whole-some}
use Rattle.pb_election.specs.Instance.{Instance, voters}
use Rattle.pb_records.specs.Records.{Field, Rec}
use Rattle.pb_records.specs.Cells.{cell, clean}
use Rattle.pb_certificate.specs.Fields.{fields, only_if, project_in, voter_in, whole_in}
use Rattle.pb_certificate.specs.Prices.RowFaults.{as_payment, row_fault}
use Rattle.pb_certificate.specs.Inside.Prices.StatedRow.{stated_row}
use Rattle.pb_certificate.specs.Prices.Text.{numerator_of, payment_of}
use Rattle.pb_certificate.proofs.Heads.{triple-is}
use Rattle.pb_certificate.proofs.Numbers.{within-bounds}
use Rattle.pb_certificate.proofs.Widths.{keeps-last}

pub payment-of-cells : (e : Instance) (r : Rec) (i j n : ℕ) → (length (fields r) == 3) ≡ true
    → voter_in e (cell 0 r) ≡ Some i → project_in e (cell 1 r) ≡ Some j → numerator_of (cell 2 r) ≡ Some n
    → payment_of e r ≡ Some (record { voter = i; project = j; numerator = n })
payment-of-cells e r i j n three voter project numerator = grind (arith, triple-is)

-- the cells of a record of three fields whose numbers were read
pub record ThreeCells (t : Triple) (r : Rec) : Type 0 where
  pub three : (length (fields r) == 3) ≡ true
  pub voter : whole_in (cell 0 r) ≡ Some t.first
  pub project : cell 1 r ≡ clean t.second.now
  pub payment : numerator_of (cell 2 r) ≡ Some t.third

whole-states : (f : Field) (n : ℕ) → WholeText f n → whole_in (clean f) ≡ Some n
unfolding whole_in
whole-states f n w = rw (whole-clean f n w, w.digits) (ap Some (sym w.value))

pub three-cells : (t : Triple) (r : Rec) → IsTriple t r → ThreeCells t r
unfolding field_at
three-cells t r h = grind (arith, eq-eqb, keeps-last, whole-clean, whole-some, whole-states, within-bounds)

-- The cells of a record of three fields, whose numbers can be read, name this voter and this project, if any, and state
-- this payment.
pub record Named (e : Instance) (r : Rec) (voter project : Option ℕ) (n : ℕ) : Type 0 where
  pub three : (length (fields r) == 3) ≡ true
  pub digits : is_none (whole_in (cell 0 r)) ≡ false
  pub of_voter : voter_in e (cell 0 r) ≡ voter
  pub of_project : project_in e (cell 1 r) ≡ project
  pub payment : numerator_of (cell 2 r) ≡ Some n

pub triple-named : (e : Instance) (t : Triple) (r : Rec) → IsTriple t r
    → Named e r (only_if (λ n. nat_le 1 n && nat_le n (voters e)) t.first) (project_in e (clean t.second.now)) t.third
triple-named e t r h =
    let c = three-cells t r h in
    record {
      three = c.three;
      digits = ap is_none c.voter;
      of_voter = rw c.voter refl;
      of_project = ap (project_in e) c.project;
      payment = c.payment;
    }

-- such a record states this row, or has this fault
pub row-stated : (e : Instance) (r : Rec) (voter project : Option ℕ) (n : ℕ) → Named e r voter project n
    → MatchResult (stated_row voter project n) (λ q. payment_of e r ≡ Some (as_payment q)) (λ f. row_fault e r ≡ Some f)
row-stated e r None project n c = rw (c.three, c.digits, c.payment, c.of_voter) refl
row-stated e r (Some i) None n c = rw (c.three, c.digits, c.payment, c.of_voter, c.of_project) refl
row-stated e r (Some i) (Some j) n c = payment-of-cells e r i j n c.three c.of_voter c.of_project c.payment

pub none-stated : (e : Instance) (r : Rec) (voter project : Option ℕ) (n : ℕ) → Named e r voter project n
    → IfOk (stated_row voter project n) (λ q. row_fault e r ≡ None)
none-stated e r None project n c = tt
none-stated e r (Some i) None n c = tt
none-stated e r (Some i) (Some j) n c = rw (c.three, c.digits, c.payment, c.of_voter, c.of_project) refl
