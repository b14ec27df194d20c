-- Plain lines, as csv reads them.
use Rattle.std.proofs.Common.{◌≡◌, ◌<◌, ◌∙◌, ◌++◌, arith, ℕ, List, [], ◌∷◌, refl, sym, ap, Bool, true, false, Option, Some, None, append-nil, append_assoc}
use Rattle.std.specs.Prelude.{not, ⊤}
use Rattle.std.specs.List.{list_all}
use Rattle.std.specs.Char.{is_ascii_digit}
use Rattle.std.specs.Str.{IsAscii, IsUtf8, all_ascii_digits, is_utf8}
use Rattle.std.proofs.lemmas.Bool.{and_parts}
use Rattle.std.proofs.lemmas.Str.{is_utf8-from_IsUtf8}
use Rattle.std.proofs.lemmas.Str.Ascii.{IsAscii-cons, IsAscii-nil}
use Rattle.csv.specs.Machine.{Read, next_record, step}
use Rattle.csv.specs.Reading.{strip_bom}
use Rattle.csv.specs.declared.parser.Config.{Config}
use Rattle.csv.specs.declared.parser.State.{State}
use Rattle.csv.specs.declared.parser.State.TheVariants as st
use Rattle.csv.specs.declared.parser.Action.TheVariants as act
use Rattle.pb_money.specs.Digits.{drop_back, drop_front, is_empty}
use Rattle.pb_money.specs.Whole.{WholeText}
use Rattle.pb_records.specs.Records.{Rec, csv_settings}
use Rattle.pb_records.specs.Cells.{clean, is_blank, is_space, is_text}
use Rattle.pb_records.specs.Inside.Lines.{IsLineEnd, is_plain, lines_left}
use Rattle.pb_records.proofs.Csv.{records-none, records-some}

abbrev commas : Config
commas = csv_settings 44

-- the states in which a plain byte joins the field at hand, and those of them within a record
abbrev IsOpen : State → Type 0
IsOpen st.StartRecord = ⊤
IsOpen st.StartField = ⊤
IsOpen st.InField = ⊤
IsOpen st.InQuoted = ⊥
IsOpen st.AfterQuote = ⊥
IsOpen st.InEscape = ⊥
IsOpen st.InComment = ⊥
IsOpen st.AfterCr = ⊥

abbrev IsBegun : State → Type 0
IsBegun st.StartRecord = ⊥
IsBegun st.StartField = ⊤
IsBegun st.InField = ⊤
IsBegun st.InQuoted = ⊥
IsBegun st.AfterQuote = ⊥
IsBegun st.InEscape = ⊥
IsBegun st.InComment = ⊥
IsBegun st.AfterCr = ⊥

begun-open : (s : State) → IsBegun s → IsOpen s
begun-open s h = grind arith

plain-step : (s : State) → IsOpen s → (b : ℕ) → is_plain b ≡ true → step commas s b ≡ (st.InField, act.Copy)
plain-step s o b h = grind arith

all-first : (b : ℕ) (bs : List ℕ) → list_all is_plain (b ∷ bs) ≡ true → (is_plain b ≡ true) × (list_all is_plain bs ≡ true)
all-first b bs h = grind arith

comma-ends : (s : State) → IsOpen s → (fields : Rec) (field more : List ℕ)
    → next_record commas s fields field (44 ∷ more) ≡ next_record commas st.StartField (fields ++ (field ∷ [])) [] more
unfolding next_record
comma-ends s o fields field more = grind arith

-- a plain byte joins the field
joins : (s : State) → IsOpen s → (fields : Rec) (field : List ℕ) (b : ℕ) (more : List ℕ) → is_plain b ≡ true
    → next_record commas s fields field (b ∷ more) ≡ next_record commas st.InField fields (field ++ (b ∷ [])) more
unfolding next_record
joins s o fields field b more h = rw (plain-step s o b h) refl

-- plain bytes and then a comma are a field
field-ends : (s : State) → IsOpen s → (fields : Rec) (field a more : List ℕ) → list_all is_plain a ≡ true
    → next_record commas s fields field (a ++ (44 ∷ more))
    ≡ next_record commas st.StartField (fields ++ ((field ++ a) ∷ [])) [] more
field-ends s o fields field [] more h = rw append-nil (comma-ends s o fields field more)
field-ends s o fields field (b ∷ bs) more h =
    let parts = all-first b bs h in
    joins s o fields field b (bs ++ (44 ∷ more)) parts.0
    ∙ field-ends st.InField tt fields (field ++ (b ∷ [])) bs more parts.1
    ∙ ap (λ (f : List ℕ). next_record commas st.StartField (fields ++ (f ∷ [])) [] more)
    (append_assoc field (b ∷ []) bs)

-- what stands behind the end of a line
abbrev behind_end : List ℕ → List ℕ
behind_end [] = []
behind_end (b ∷ bs) = bs

line-stops : (s : State) → IsBegun s → (fields : Rec) (field rest : List ℕ) → IsLineEnd rest
    → next_record commas s fields field rest ≡ Some (fields ++ (field ∷ []), st.StartRecord, behind_end rest)
unfolding next_record
line-stops s o fields field rest h = grind arith

-- plain bytes at the end of a line are the last field of its record
line-ends : (s : State) → IsBegun s → (fields : Rec) (field a rest : List ℕ) → list_all is_plain a ≡ true
    → IsLineEnd rest
    → next_record commas s fields field (a ++ rest)
    ≡ Some (fields ++ ((field ++ a) ∷ []), st.StartRecord, behind_end rest)
line-ends s o fields field [] rest h end = rw append-nil (line-stops s o fields field rest end)
line-ends s o fields field (b ∷ bs) rest h end =
    let parts = all-first b bs h in
    joins s (begun-open s o) fields field b (bs ++ rest) parts.0
    ∙ line-ends st.InField tt fields (field ++ (b ∷ [])) bs rest parts.1 end
    ∙ ap (λ (f : List ℕ). Some (fields ++ (f ∷ []), st.StartRecord, behind_end rest)) (append_assoc field (b ∷ []) bs)

-- an empty line is no record
pub feed : (more : List ℕ) → lines_left (10 ∷ more) ≡ lines_left more
unfolding next_record
feed more = by (next_record commas st.StartRecord [] [] more) refl
  where
    by : (o : Option Read) → next_record commas st.StartRecord [] [] more ≡ o
        → lines_left (10 ∷ more) ≡ lines_left more
    by None e =
        records-none commas st.StartRecord (10 ∷ more) e ∙ sym (records-none commas st.StartRecord more e)
    by (Some p) e =
        records-some commas st.StartRecord (10 ∷ more) p refl e
        ∙ sym (records-some commas st.StartRecord more p refl e)

pub nothing-left : lines_left [] ≡ []
unfolding next_record
nothing-left = records-none commas st.StartRecord [] refl

at-end : (rest : List ℕ) → IsLineEnd rest → lines_left rest ≡ lines_left (behind_end rest)
at-end [] h = refl
at-end (b ∷ bs) h = rw h (feed bs)

pub no-mark : (rest : List ℕ) → IsLineEnd rest → strip_bom rest ≡ rest
unfolding strip_bom
no-mark (a ∷ b ∷ c ∷ rest) h = rw h refl
no-mark _ h = refl

-- these fields of the text's first record are read, and the next field begins what is left
abbrev pub HasFields : List ℕ → Rec → List ℕ → Type 0
HasFields text fields left =
    next_record commas st.StartRecord [] [] text ≡ next_record commas st.StartField fields [] left

-- the fields that were read of the first record, where another one follows behind a comma
pub record Filled (lines left : List ℕ) (fields : Rec) : Type 0 where
  pub text : List ℕ
  pub same : lines_left text ≡ lines_left lines
  pub follows : (more : List ℕ) → left ≡ 44 ∷ more → HasFields text fields more

pub first-field : (text a rest more : List ℕ) → text ≡ a ++ rest → rest ≡ 44 ∷ more → list_all is_plain a ≡ true
    → HasFields text (a ∷ []) more
first-field text a rest more cut comma plain = rw (cut, comma) (field-ends st.StartRecord tt [] [] a more plain)

pub next-field : (text : List ℕ) (fields : Rec) (left a rest more : List ℕ) → HasFields text fields left
    → left ≡ a ++ rest → rest ≡ 44 ∷ more → list_all is_plain a ≡ true → HasFields text (fields ++ (a ∷ [])) more
next-field text fields left a rest more before cut comma plain = grind (arith, field-ends)

pub last-field : (text : List ℕ) (fields : Rec) (left a rest : List ℕ) → HasFields text fields left → left ≡ a ++ rest
    → list_all is_plain a ≡ true → IsLineEnd rest → lines_left text ≡ (fields ++ (a ∷ [])) ∷ lines_left rest
last-field text fields left a rest before cut plain end =
    records-some commas st.StartRecord text (fields ++ (a ∷ []), st.StartRecord, behind_end rest) refl
    (before ∙ rw cut (line-ends st.StartField tt fields [] a rest plain end))
    ∙ ap (λ (l : List Rec). (fields ++ (a ∷ [])) ∷ l) (sym (at-end rest end))

-- the fields of a record are text, each of which was found to be
all-push : (test : List ℕ → Bool) (fs : Rec) (f : List ℕ) → list_all test fs ≡ true → test f ≡ true
    → list_all test (fs ++ (f ∷ [])) ≡ true
all-push test [] f h e = rw e refl
all-push test (g ∷ gs) f h e = grind (arith, all-push test gs f)

pub text-push : (fs : Rec) (f : List ℕ) → is_text fs ≡ true → IsUtf8 f → is_text (fs ++ (f ∷ [])) ≡ true
unfolding is_text
text-push fs f h u = all-push is_utf8 fs f h (is_utf8-from_IsUtf8 f u)

pub no-fields : is_text [] ≡ true
unfolding is_text
no-fields = refl

-- digits are plain text, and stay as they are where they are cleaned
digit-plain : (b : ℕ) → is_ascii_digit b ≡ true → (is_plain b ≡ true) × (is_space b ≡ false) × (b < 128)
digit-plain b h = grind arith

pub digits-plain : (ds : List ℕ) → all_ascii_digits ds ≡ true → list_all is_plain ds ≡ true
digits-plain [] h = refl
digits-plain (d ∷ ds) h =
    let parts = and_parts (is_ascii_digit d) (all_ascii_digits ds) h in
    rw ((digit-plain d parts.0).0, digits-plain ds parts.1) refl

pub digits-ascii : (ds : List ℕ) → all_ascii_digits ds ≡ true → IsAscii ds
digits-ascii [] h = IsAscii-nil
digits-ascii (d ∷ ds) h =
    let parts = and_parts (is_ascii_digit d) (all_ascii_digits ds) h in
    IsAscii-cons d ds (digit-plain d parts.0).2 (digits-ascii ds parts.1)

back-same : (ds : List ℕ) → all_ascii_digits ds ≡ true → drop_back is_space ds ≡ ds
unfolding drop_back
back-same [] h = refl
back-same (d ∷ ds) h =
    let parts = and_parts (is_ascii_digit d) (all_ascii_digits ds) h in
    rw ((digit-plain d parts.0).1, back-same ds parts.1) refl

pub digits-clean : (ds : List ℕ) → all_ascii_digits ds ≡ true → clean ds ≡ ds
unfolding drop_back drop_front
digits-clean [] h = refl
digits-clean (d ∷ ds) h = grind (arith, and_parts, digit-plain, back-same)

-- a text that states a number is digits, of which there are some
pub whole-digits : (f : List ℕ) (n : ℕ) → WholeText f n → all_ascii_digits f ≡ true
whole-digits f n w = (and_parts (not (is_empty f)) (all_ascii_digits f) w.digits).1

pub whole-some : (f : List ℕ) (n : ℕ) → WholeText f n → is_empty f ≡ false
whole-some [] n w = cc w.digits
whole-some (b ∷ bs) n w = refl

pub whole-clean : (f : List ℕ) (n : ℕ) → WholeText f n → clean f ≡ f
whole-clean f n w = digits-clean f (whole-digits f n w)

-- a record of three fields is full where its last states a number
pub third-full : (a b c : List ℕ) (n : ℕ) → WholeText c n → is_blank (a ∷ b ∷ c ∷ []) ≡ false
unfolding is_blank
third-full a b c n w = grind (arith, whole-clean, whole-some)
