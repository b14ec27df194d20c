-- What a read of `csv` does to the records that are left.
use Rattle.std.proofs.Common.{Bor, ◌≡◌, ◌∙◌, ◌+◌, ℕ, List, [], ◌∷◌, length, refl, arith, inl, Bool, true, false, Option, Some, None}
use Rattle.std.specs.Prelude.{IsSome, ◌==◌, ◌&&◌}
use Rattle.std.specs.List.{list_all}
use Rattle.std.specs.Str.{IsUtf8, is_utf8}
use Rattle.std.proofs.lemmas.Bool.{false_from_ne_true}
use Rattle.std.proofs.lemmas.Str.{IsUtf8-from_is_utf8, is_utf8-from_IsUtf8}
use Rattle.csv.specs.Reading.{ReadRecord, TookRecord, pending_of, records_from, source_of}
use Rattle.csv.specs.declared.reader.Reader.{Reader}
use Rattle.pb_records.specs.Records.{Rec}
use Rattle.pb_records.specs.Inside.Lines.{lines_left}
use Rattle.pb_records.specs.Inside.RecordReader.{Stands, left_in, reader_left}
use Rattle.pb_records.specs.Cells.{is_text}
use Rattle.csv.specs.Records.{AllText}
use Rattle.pb_records.proofs.Csv.{next_none, next_some}
use Rattle.pb_records.proofs.PlainLines.{nothing-left}

-- a read that found a record
pub read_found : (a b : Reader (Bor (List ℕ))) (fields : Rec) → Stands a → ReadRecord left_in a b true fields
    → b.first ≡ true → b.flexible ≡ a.flexible
    → Stands b × (reader_left a ≡ fields ∷ reader_left b)
read_found a b fields h r first flexible = by (source_of left_in a) refl h.known
  where
    by : (o : Option (List ℕ)) → source_of left_in a ≡ o → IsSome o
        → Stands b × (reader_left a ≡ fields ∷ reader_left b)
    by None e k = cc k
    by (Some xs) e k =
        let n = next_some a.config a.state xs (pending_of (left_in b.rdr) b) fields b.state h.between (rw e at r.0) in
        let known : source_of left_in b ≡ Some n.rest = rw r.1 n.known in (
          record {
            trim = r.3 ∙ h.trim;
            flexible = flexible ∙ h.flexible;
            ready = inl first;
            between = n.between;
            known = rw known refl;
          },
          rw (e, known, r.2) n.records,
        )

-- a read that found none
pub read_none : (a b : Reader (Bor (List ℕ))) (fields : Rec) → Stands a → ReadRecord left_in a b false fields
    → reader_left a ≡ []
read_none a b fields h r = grind (arith, next_none)

-- a read that took a record which is no text
pub read_took : (a b : Reader (Bor (List ℕ))) (fields : Rec) → Stands a → TookRecord left_in a b fields
    → (rest : List Rec) × (reader_left a ≡ fields ∷ rest)
read_took a b fields h r = by (source_of left_in a) refl h.known
  where
    by : (o : Option (List ℕ)) → source_of left_in a ≡ o → IsSome o
        → (rest : List Rec) × (reader_left a ≡ fields ∷ rest)
    by None e k = cc k
    by (Some xs) e k =
        let n = next_some a.config a.state xs (pending_of (left_in b.rdr) b) fields b.state h.between (rw e at r) in
        (records_from a.config (length n.rest + 1) b.state n.rest, rw e n.records)

-- `csv` and the definitions mean the same by a record that is text
pub text-yes : (r : Rec) → AllText r → is_text r ≡ true
unfolding AllText is_text
text-yes [] h = refl
text-yes (f ∷ fs) h = rw (is_utf8-from_IsUtf8 f h.0, text-yes fs h.1) refl

all-text : (r : Rec) → is_text r ≡ true → AllText r
unfolding AllText is_text
all-text [] h = tt
all-text (f ∷ fs) h = by (is_utf8 f) refl (all-text fs) h
  where
    by : (b : Bool) → is_utf8 f ≡ b → (is_text fs ≡ true → AllText fs) → (b && list_all is_utf8 fs) ≡ true
        → IsUtf8 f × AllText fs
    by true e more t = (IsUtf8-from_is_utf8 f e, more t)
    by false e more t = cc t

pub text-no : (r : Rec) → ¬ (AllText r) → is_text r ≡ false
text-no r h = false_from_ne_true (is_text r) (λ t. h (all-text r t))

pub empty-lines : (lines : List ℕ) → (length lines == 0) ≡ true → lines_left lines ≡ []
empty-lines [] h = nothing-left
empty-lines (b ∷ bs) h = grind arith
