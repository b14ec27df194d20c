-- What holds of the kit's csv, whatever the records are of: a read of one record is a step along the list of records, and
-- takes at least two bytes, or the last one; and a writer of records of any lengths writes each as the default writer does.
use Rattle.std.proofs.Common.{◌≡◌, ◌<◌, ◌≤◌, ◌+◌, ◌*◌, ◌-◌, ℕ, suc, zero, List, [], ◌∷◌, length, refl, ap, arith, add-one, Bool, true, false, Option, Some, None, drop}
use Rattle.std.specs.Prelude.{if◌then◌else◌, ◌&&◌}
use Rattle.std.specs.List.{list_all}
use Rattle.csv.specs.Machine.{Read, ends_at_end, next_record, step, is_end, fields_after, field_after}
use Rattle.csv.specs.Reading.{NextIs, ReadsNext, records, records_from, records_next}
use Rattle.csv.specs.Records.{field_at}
use Rattle.csv.specs.Writing.{default_writer, escaped, field_text, fields_text, is_blank, row_text, with_flexible}
use Rattle.csv.specs.declared.parser.Config.{Config}
use Rattle.csv.specs.declared.parser.State.{State}
use Rattle.csv.specs.declared.parser.Action.{Action}
use Rattle.csv.specs.declared.writer.WriterBuilder.{WriterBuilder}

-- where an action ends a record, its state stands between two records
abbrev EndsBetween : State × Action → Type 0
EndsBetween q = is_end q.1 ≡ true → ends_at_end q.0 ≡ false

end_step : (cfg : Config) (s : State) (c : ℕ) → EndsBetween (step cfg s c)
end_step cfg s c = grind arith

-- a record that was read took a byte, or all that was left, and the reader then stands between two records
pub record Took (xs : List ℕ) (p : Read) : Type 0 where
  pub less : length p.2 ≤ length xs - 1
  pub between : ends_at_end p.1 ≡ false

pub took : (cfg : Config) (s : State) (fields : List (List ℕ)) (field xs : List ℕ) (p : Read)
    → next_record cfg s fields field xs ≡ Some p → Took xs p
unfolding next_record
took cfg s fields field [] p e = grind arith
took cfg s fields field (c ∷ rest) p e =
    by (is_end (step cfg s c).1) refl e
    (took cfg (step cfg s c).0 (fields_after (step cfg s c).1 fields field) (field_after (step cfg s c).1 c field) rest
    p)
  where
    by : (b : Bool) → is_end (step cfg s c).1 ≡ b
        → (if b then Some (fields_after (step cfg s c).1 fields field, (step cfg s c).0, rest)
        else next_record cfg (step cfg s c).0 (fields_after (step cfg s c).1 fields field)
        (field_after (step cfg s c).1 c field) rest) ≡ Some p
        → (next_record cfg (step cfg s c).0 (fields_after (step cfg s c).1 fields field)
        (field_after (step cfg s c).1 c field) rest ≡ Some p → Took rest p)
        → Took (c ∷ rest) p
    by true t h more =
        let q : p ≡ (fields_after (step cfg s c).1 fields field, (step cfg s c).0, rest) = cc h in
        rw q (record { less = omega arith; between = end_step cfg s c t })
    by false t h more =
        let m = more h in
        record { less = omega (arith, m.less); between = m.between }

first_goes_on : (cfg : Config) (s : State) (c : ℕ) → ends_at_end s ≡ false → is_end (step cfg s c).1 ≡ false
first_goes_on cfg s c b = grind arith

-- a record that is read from between two records took two bytes, or all that was left, and then at least one
pub took_two : (cfg : Config) (s : State) (xs : List ℕ) (p : Read) → ends_at_end s ≡ false
    → next_record cfg s [] [] xs ≡ Some p → length p.2 + 2 ≤ length xs + (1 - length p.2)
unfolding next_record
took_two cfg s [] p b e = cc (rw b at e)
took_two cfg s (c ∷ rest) p b e =
    let t = took cfg (step cfg s c).0 (fields_after (step cfg s c).1 [] []) (field_after (step cfg s c).1 c []) rest p
    (rw (first_goes_on cfg s c b) at e) in
    omega (arith, t.less)

-- fuel that suffices makes no difference
pub fuel : (cfg : Config) (n m : ℕ) (s : State) (xs : List ℕ) → ends_at_end s ≡ false → length xs < n → length xs < m
    → records_from cfg n s xs ≡ records_from cfg m s xs
unfolding records_from
fuel cfg zero m s xs b h k = absurd (omega arith)
fuel cfg (suc n) zero s xs b h k = absurd (omega arith)
fuel cfg (suc n) (suc m) s xs b h k = by (next_record cfg s [] [] xs) refl (fuel cfg n m)
  where
    by : (o : Option Read) → next_record cfg s [] [] xs ≡ o
        → ((s2 : State) (ys : List ℕ) → ends_at_end s2 ≡ false → length ys < n → length ys < m
        → records_from cfg n s2 ys ≡ records_from cfg m s2 ys)
        → records_next (records_from cfg n) o ≡ records_next (records_from cfg m) o
    by None e more = refl
    by (Some p) e more =
        let t = took cfg s [] [] xs p e in
        let l = took_two cfg s xs p b e in
        ap (λ r. p.0 ∷ r) (more p.1 p.2 t.between (omega arith) (omega arith))

-- the records, one read at a time
pub records-some : (cfg : Config) (s : State) (xs : List ℕ) (p : Read) → ends_at_end s ≡ false
    → next_record cfg s [] [] xs ≡ Some p
    → records_from cfg (length xs + 1) s xs ≡ p.0 ∷ records_from cfg (length p.2 + 1) p.1 p.2
unfolding records_from
records-some cfg s xs p b e =
    let t = took cfg s [] [] xs p e in
    let l = took_two cfg s xs p b e in
    let f = fuel cfg (length xs) (length p.2 + 1) p.1 p.2 t.between (omega arith) (omega arith) in
    rw (add-one (length xs)) (rw e (ap (λ r. p.0 ∷ r) f))

pub records-none : (cfg : Config) (s : State) (xs : List ℕ) → next_record cfg s [] [] xs ≡ None
    → records_from cfg (length xs + 1) s xs ≡ []
unfolding records_from
records-none cfg s xs e = rw (add-one (length xs)) (rw e refl)

-- two records need three bytes, and so on
count-from : (cfg : Config) (n : ℕ) (s : State) (xs : List ℕ) → ends_at_end s ≡ false
    → 2 * length (records_from cfg n s xs) ≤ length xs + 1
unfolding records_from
count-from cfg zero s xs b = omega arith
count-from cfg (suc n) s xs b = by (next_record cfg s [] [] xs) refl (count-from cfg n)
  where
    by : (o : Option Read) → next_record cfg s [] [] xs ≡ o
        → ((s2 : State) (ys : List ℕ) → ends_at_end s2 ≡ false → 2 * length (records_from cfg n s2 ys) ≤ length ys + 1)
        → 2 * length (records_next (records_from cfg n) o) ≤ length xs + 1
    by None e more = omega arith
    by (Some p) e more =
        let t = took cfg s [] [] xs p e in
        let l = took_two cfg s xs p b e in
        omega (arith, more p.1 p.2 t.between)

pub count : (cfg : Config) (bytes : List ℕ) → 2 * length (records cfg bytes) ≤ length bytes + 1
count cfg bytes = grind (arith, count-from)

-- what is left after a record
pub record After (cfg : Config) (s : State) (xs : List ℕ) (k : Option (List ℕ)) (fields : List (List ℕ)) (s2 : State) : Type
    0 where
  pub rest : List ℕ
  pub known : k ≡ Some rest
  pub records : records_from cfg (length xs + 1) s xs ≡ fields ∷ records_from cfg (length rest + 1) s2 rest
  pub between : ends_at_end s2 ≡ false

next_is : (cfg : Config) (s : State) (xs : List ℕ) (o : Option Read) (fields : List (List ℕ)) (s2 : State) (z : List ℕ)
    → ends_at_end s ≡ false
    → next_record cfg s [] [] xs ≡ o → NextIs o true fields s2 z → After cfg s xs (Some z) fields s2
next_is cfg s xs None fields s2 z b e n = cc n
next_is cfg s xs (Some p) fields s2 z b e n =
    let r = records-some cfg s xs p b e in
    let t = took cfg s [] [] xs p e in
    record { rest = z; known = refl; records = rw (n.1, n.2, n.3) r; between = rw n.2 t.between }

pub next_some : (cfg : Config) (s : State) (xs : List ℕ) (k : Option (List ℕ)) (fields : List (List ℕ)) (s2 : State)
    → ends_at_end s ≡ false
    → ReadsNext cfg s (Some xs) k true fields s2 → After cfg s xs k fields s2
next_some cfg s xs None fields s2 b r = absurd r
next_some cfg s xs (Some z) fields s2 b r = next_is cfg s xs _ fields s2 z b refl r

none_is : (o : Option Read) (fields : List (List ℕ)) (s2 : State) (z : List ℕ) → NextIs o false fields s2 z → o ≡ None
none_is None fields s2 z n = refl
none_is (Some p) fields s2 z n = cc n.0

pub next_none : (cfg : Config) (s : State) (xs : List ℕ) (k : Option (List ℕ)) (fields : List (List ℕ)) (s2 : State)
    → ReadsNext cfg s (Some xs) k false fields s2 → records_from cfg (length xs + 1) s xs ≡ []
next_none cfg s xs None fields s2 r = absurd r
next_none cfg s xs (Some z) fields s2 r = records-none cfg s xs (none_is _ fields s2 z r)

-- the fields of a record from a place on
pub drop-at : (fs : List (List ℕ)) (i : ℕ) (f : List ℕ) → field_at fs i ≡ Some f → drop i fs ≡ f ∷ drop (suc i) fs
unfolding field_at
drop-at [] i f e = cc e
drop-at (x ∷ xs) zero f e = let s : x ≡ f = cc e in rw s refl
drop-at (x ∷ xs) (suc i) f e = drop-at xs i f e

pub all-drop : (p : List ℕ → Bool) (fs : List (List ℕ)) (i : ℕ) (f : List ℕ) → field_at fs i ≡ Some f
    → list_all p (drop i fs) ≡ (p f && list_all p (drop (i + 1) fs))
unfolding field_at
all-drop p [] i f e = cc e
all-drop p (x ∷ xs) zero f e = grind arith
all-drop p (x ∷ xs) (suc i) f e = grind (arith, all-drop p xs i f e)

pub field-none : (fs : List (List ℕ)) (i : ℕ) → field_at fs i ≡ None → drop i fs ≡ []
unfolding field_at
field-none [] zero e = refl
field-none [] (suc i) e = refl
field-none (x ∷ xs) zero e = cc e
field-none (x ∷ xs) (suc i) e = field-none xs i e

pub field-some : (fs : List (List ℕ)) (i : ℕ) (f : List ℕ) → field_at fs i ≡ Some f → i < length fs
unfolding field_at
field-some [] i f e = cc e
field-some (x ∷ xs) zero f e = omega arith
field-some (x ∷ xs) (suc i) f e = omega (arith, field-some xs i f e)

-- the writer of records of any lengths
abbrev pub flexible_writer : WriterBuilder
flexible_writer = with_flexible default_writer true

same-escaped : (f : List ℕ) → escaped flexible_writer f ≡ escaped default_writer f
unfolding escaped
same-escaped [] = refl
same-escaped (b ∷ bs) = rw (same-escaped bs) refl

same-field : (f : List ℕ) → field_text flexible_writer f ≡ field_text default_writer f
same-field f = rw (same-escaped f) refl

same-fields : (r : List (List ℕ)) → fields_text flexible_writer r ≡ fields_text default_writer r
unfolding fields_text
same-fields [] = refl
same-fields (f ∷ fs) = rw (same-field f, same-fields fs) refl

pub same-row_text : (r : List (List ℕ)) → row_text flexible_writer r ≡ row_text default_writer r
unfolding is_blank
same-row_text [] = refl
same-row_text (f ∷ []) = rw (same-field f, same-fields []) refl
same-row_text (f ∷ g ∷ fs) = rw (same-field f, same-fields (g ∷ fs)) refl
