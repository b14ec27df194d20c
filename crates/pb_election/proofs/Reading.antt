-- What has been read of some records, none of them blank and none of them at fault.
use Rattle.std.proofs.Common.{◌≡◌, ◌∙◌, ◌++◌, suc, List, [], ◌∷◌, refl, sym, ap, inl, inr, false, Some, None, length}
use Rattle.std.specs.Prelude.{IfErr, IsTrue, OnOk, ◌⊎◌, Result, Ok, Err}
use Rattle.std.specs.List.{AllByRecursion}
use Rattle.pb_records.specs.Records.{Rec}
use Rattle.pb_records.proofs.Each.{all-push}
use Rattle.pb_records.proofs.FirstOrNone.{HasFirst, Kept, fault-last, first-or-none, kept-to-end}
use Rattle.pb_election.specs.Instance.{Instance}
use Rattle.pb_records.specs.declared.drafts.Stop.{Stop}
use Rattle.pb_records.specs.declared.drafts.Stop.TheVariants.{Fault}
use Rattle.pb_election.specs.declared.refusal.ElectionFault.{ElectionFault}
use Rattle.pb_election.specs.declared.refusal.ElectionFault.TheVariants.{NotUtf8}
use Rattle.pb_records.specs.Inside.Drafts.{StopsAt, Takes}
use Rattle.pb_records.specs.Cells.{is_text, nonblank}
use Rattle.pb_records.specs.FirstFault.{NoFault}
use Rattle.pb_election.specs.Faults.{before_of, election_form, lowest_fault, lowest_fault_at_end}
use Rattle.pb_election.specs.Text.{PbText}
use Rattle.pb_election.specs.Inside.SoFar.{SoFar, Steps, before_next, next}
use Rattle.pb_election.specs.Inside.Beginnings.{Beginning, AtStart, InVotes, Good, HasRead, so_far_of, beginning_records}
use Rattle.pb_election.proofs.BeginningLemmas.{before-text}
use Rattle.pb_election.proofs.Extends.{extend, extends, text-extend}

unfoldable pub read-nothing : HasRead (so_far_of AtStart) []
read-nothing = record { beginning = AtStart; good = tt; same = refl; records = refl; text = tt }

before_of-next : (s : SoFar) (recs : List Rec) → HasRead s recs → before_of recs ≡ before_next s
before_of-next s recs h = ap before_of h.records ∙ before-text h.beginning h.good ∙ ap before_next (sym h.same)

-- the fault at the next record, and at the end
pub fault-next : (s : SoFar) (recs : List Rec) (r : Rec) → HasRead s recs
    → election_form recs (Some r) ≡ lowest_fault (before_next s) r
unfolding election_form
fault-next s recs r h = ap (λ b. lowest_fault b r) (before_of-next s recs h)

pub fault-end : (s : SoFar) (recs : List Rec) → HasRead s recs
    → election_form recs None ≡ lowest_fault_at_end (before_next s)
unfolding election_form
fault-end s recs h = ap lowest_fault_at_end (before_of-next s recs h)

-- one more record, at which no fault stands
unfoldable pub read-next : (s : SoFar) (recs : List Rec) (r : Rec) → HasRead s recs
    → lowest_fault (before_next s) r ≡ None → HasRead (next s r) (recs ++ (r ∷ []))
read-next s recs r h l =
    let t = extends h.beginning r h.good (ap (λ x. lowest_fault (before_next x) r) (sym h.same) ∙ l) in
    record {
      beginning = extend h.beginning r;
      good = t.good;
      same = ap (λ x. next x r) h.same ∙ t.next;
      records = ap (λ x. x ++ (r ∷ [])) h.records ∙ sym (text-extend h.beginning r);
      text = all-push (λ r. IsTrue (is_text r)) recs r h.text t.text;
    }

-- The end.

-- records at whose end no fault stands are the text of an election
whole : (recs : List Rec) (x : Beginning) → Good x → nonblank recs ≡ beginning_records x
    → AllByRecursion (λ r. IsTrue (is_text r)) (nonblank recs)
    → lowest_fault_at_end (before_next (so_far_of x)) ≡ None → PbText recs (so_far_of x).election
unfolding lowest_fault_at_end
whole recs (InVotes a b c) h t x n =
    record {
      meta = a;
      projects = b;
      votes = c;
      cut = t;
      text = x;
      is_meta = h.0.part;
      is_projects = h.1.part;
      is_votes = h.2.part;
      project_header = h.1.header;
      vote_header = h.2.header;
      meta_rows = h.0.rows;
      project_rows = h.1.rows;
      vote_rows = h.2.rows;
      states = refl;
    }
whole recs _ h t x n = cc n

pub text-of-all : (s : SoFar) (recs : List Rec) → HasRead s (nonblank recs) → lowest_fault_at_end (before_next s) ≡ None
    → PbText recs s.election
text-of-all s recs h n =
    rw h.same (whole recs h.beginning h.good h.records h.text (rw h.same at n))

-- What the calls that take records answer.

pub taken : {T : Type 0} (answer : Result T (Stop ElectionFault)) (s t : SoFar) (r : Rec) → Steps answer s t r
    → OnOk answer (Takes election_form (HasRead s) (HasRead t) r)
taken (Ok x) s t r e =
    λ before h. (fault-next s before r h ∙ e.0, rw e.1 (read-next s before r h e.0))
taken (Err f) s t r e = tt

pub stopped : {T : Type 0} (answer : Result T (Stop ElectionFault)) (s t : SoFar) (r : Rec) → Steps answer s t r
    → IfErr answer (λ stop. StopsAt election_form (HasRead s) r stop)
stopped (Err (Fault f)) s t r e = λ before h. fault-next s before r h ∙ e
stopped _ s t r e = tt

pub not-text : (before : List Rec) (r : Rec) → is_text r ≡ false → election_form before (Some r) ≡ Some NotUtf8
unfolding election_form lowest_fault
not-text before r e = rw e refl

-- records without a fault, all of which were read, are the text of the election that was read
pub finished : (s : SoFar) (recs : List Rec) → HasRead s (nonblank recs) → NoFault election_form recs
    → PbText recs s.election
finished s recs h none =
    text-of-all s recs h
    (sym (fault-end s (nonblank recs) h) ∙ sym (fault-last election_form recs) ∙ none (suc (length recs)))

-- Each list of records is the text of an election, or has a first fault.

-- these records were read, and no fault was met
abbrev Read : List Rec → Type 0
Read before = (s : SoFar) × HasRead s before

kept : Kept election_form Read
kept = record {
  start = (so_far_of AtStart, read-nothing);
  more = λ before r h none.
      (next h.0 r, read-next h.0 before r h.1 (sym (fault-next h.0 before r h.1) ∙ none));
}

pub answered : (recs : List Rec) → ((e : Instance) × PbText recs e) ⊎ HasFirst election_form recs
answered recs = elim (first-or-none election_form recs) [
  | inl none ↦
      let read = kept-to-end election_form Read recs kept none in
      inl (read.0.election, finished read.0 recs read.1 none)
  | inr first ↦ inr first
]
