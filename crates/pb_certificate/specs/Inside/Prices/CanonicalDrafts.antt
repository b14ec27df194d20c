-- What the text stands for that is being written voter by voter. No claim on a text rests on this.
use Rattle.std.specs.Prelude.{◌≡◌, ◌++◌, ℕ, List, flat_map, length}
use Rattle.std.specs.List.{range_with_len}
use Rattle.pb_election.specs.Instance.{Instance, projects}
use Rattle.pb_election.specs.Text.{IsElection}
use Rattle.pb_records.specs.Records.{Rec}
use Rattle.pb_records.specs.Inside.RecordWriter.{IsOpen, held}
use Rattle.pb_certificate.specs.Prices.Canon.{head_records, lines, rows_of_voter}
use Rattle.pb_certificate.specs.Prices.{Prices, payments_of}
use Rattle.pb_certificate.specs.declared.prices.canonical.draft.CanonicalDraft.{CanonicalDraft}

-- the rows of the first so many voters
abbrev pub rows_up_to : Instance → Prices → ℕ → List Rec
rows_up_to e p n = flat_map (λ i. rows_of_voter e i (payments_of p i)) (range_with_len 1 n)

-- for this election, the text has the head of the prices so far and the rows of their voters
pub record HasWritten (d : CanonicalDraft) (e : Instance) (p : Prices) : Type 0 where
  pub election : d.election.now ≡ e
  pub sound : IsElection e
  pub each_project : p.projects ≡ projects e
  pub is_open : IsOpen d.writer
  pub text : held d.writer ≡ lines (head_records p.denominator p.budget) ++ lines (rows_up_to e p (length p.payments))
