-- A report under way, of which a part may be written ahead of the rest.
use Rattle.std.proofs.Common.{◌≡◌, ◌⊎◌, ◌∙◌, ◌++◌, ◌∷◌, [], ℕ, Bool, true, false, Err, List, Option, Result, ap, append-nil, append_assoc, inl, inr, map, refl, string_bytes, subst, sym, true≢false}
use Rattle.std.proofs.KnownBytes.{Appends-trans}
use Rattle.std.proofs.lemmas.List.{map-append}
use Rattle.std.proofs.lemmas.Result.{IfOk-weaker}
use Rattle.std.specs.BTreeSet.{IsOrdered}
use Rattle.std.specs.Global.{Global}
use Rattle.std.specs.Io.KnownBytes.{Appends}
use Rattle.std.specs.String.{string_cmp}
use Rattle.std.specs.declared.string.String.{String}
use Rattle.pb_audit.proofs.Reports.{is_rest_of, rest_of}
use Rattle.pb_audit.specs.Reports.{EntryFiles, HasTaken, Progress, ReportOf}
use Rattle.pb_audit.specs.declared.total.FolderStatus.{FolderStatus}
use Rattle.pb_cohesion.specs.declared.Mode.{Mode}
use Rattle.pb_records.specs.Loading.{AppendsFront, Delivery, IsFlushed, Rises}
use Rattle.pb_records.specs.Records.{Text}
use Rattle.pb_records.specs.declared.loading.Sink.{Ghosts as Sink}
use Rattle.pb_reply.specs.Replies.{Answer}
use Rattle.pb_reply.specs.Writing.{IsCutShort, Writes, writer}
use Rattle.pb_reply.specs.declared.status.Fault.{Fault}
use Rattle.pb_reply.specs.declared.status.Fault.TheVariants as fault
use Rattle.pb_run.specs.Folders.{AddsEntry, LoadsEach, ReportsOn, ReportsOnFirst, names_of}
use Rattle.pb_run.specs.Reporting.{HasFailedToWrite, HasTakenEntry, IsAhead, IsOutOfMemory, IsWrittenOut, TakesEntry, WritesAhead, WritesReport}
use Rattle.pb_run.specs.declared.listing.Listing.{Listing}
use Rattle.pb_run.proofs.Loading.{one_left_less, one_shown_more}

-- the first elections are loaded and taken, these are left, and this was written of the report
pub record UnderWay {S I W : Type 0} (hands : S → S → Text → I → Type 0) (delivers : I → I → Delivery → Type 0)
    (sink : Sink W) (json : Bool) (m : Mode) (folder : Text) (l : Listing) (left : List (String Global)) (p : Progress)
    (files files' : S) (out out' : W) : Type 0 where
  pub done : List (String Global)
  pub entries : List EntryFiles
  pub written : Text
  pub split : l.elections.keys ≡ done ++ left
  pub loaded : LoadsEach hands delivers folder l (map string_bytes done) files files' entries
  pub taken : HasTaken p entries written
  pub mode : p.mode ≡ m
  pub as_json : p.as_json ≡ json
  pub ahead : Appends (sink.holds out) (sink.holds out') written
  pub calm : (sink.counts out').failures ≡ (sink.counts out).failures
  pub nothing : json ≡ false → (written ≡ []) × (out' ≡ out)

-- a front of a text, behind what was written ahead of it, is a front of both with more behind them
cut_behind : (old mid new : Option (List ℕ)) (written text more : List ℕ) → Appends old mid written
    → AppendsFront mid new text → AppendsFront old new (written ++ (text ++ more))
cut_behind old mid new written text more ahead f = (
  written ++ f.0,
  f.1 ++ more,
  ap (λ (t : List ℕ). written ++ (t ++ more)) f.2
      ∙ (ap (λ (t : List ℕ). written ++ t) (append_assoc f.0 f.1 more)
      ∙ sym (append_assoc written f.0 (f.1 ++ more))),
  Appends-trans _ _ _ _ _ ahead f.3,
)

cut_at_end : (old mid new : Option (List ℕ)) (written text : List ℕ) → Appends old mid written
    → AppendsFront mid new text → AppendsFront old new (written ++ text)
cut_at_end old mid new written text ahead f = (
  written ++ f.0,
  f.1,
  ap (λ (t : List ℕ). written ++ t) f.2 ∙ sym (append_assoc written f.0 f.1),
  Appends-trans _ _ _ _ _ ahead f.3,
)

-- nothing was written, or else it is JSON and this was
by_form : {nothing begun : Type 0} (json : Bool) → (json ≡ false → nothing) → begun → nothing ⊎ ((json ≡ true) × begun)
by_form true nothing begun = inr (refl, begun)
by_form false nothing begun = inl (nothing refl)

-- one entry more is added
one_more : {S I W : Type 0} (hands : S → S → Text → I → Type 0) (delivers : I → I → Delivery → Type 0)
    (sink : Sink W) (json : Bool) (m : Mode) (folder : Text) (l : Listing) (left rest : List (String Global))
    (name : String Global) (shown : Text) (p more : Progress) (files mid files' : S) (out out' : W)
    → left ≡ name ∷ rest → shown ≡ string_bytes name
    → UnderWay hands delivers sink json m folder l left p files mid out out'
    → AddsEntry hands delivers folder l shown mid files' p more
    → UnderWay hands delivers sink json m folder l rest more files files' out out'
one_more hands delivers sink json m folder l left rest name shown p more files mid files' out out' step is_shown u added = record {
  done = u.done ++ name ∷ [];
  entries = u.entries ++ added.files ∷ [];
  written = u.written;
  split = one_left_less _ u.done left rest name u.split step;
  loaded = one_shown_more string_bytes hands delivers folder l u.done name shown files mid files' u.entries added.files
      is_shown u.loaded added.loads;
  taken = added.taken u.entries u.written u.taken;
  mode = added.mode ∙ u.mode;
  as_json = added.as_json ∙ u.as_json;
  ahead = u.ahead;
  calm = u.calm;
  nothing = u.nothing;
}

-- its text so far is written out
written_more : {S I W : Type 0} (hands : S → S → Text → I → Type 0) (delivers : I → I → Delivery → Type 0)
    (sink : Sink W) (json : Bool) (m : Mode) (folder : Text) (l : Listing) (left : List (String Global))
    (p rest : Progress) (files files' : S) (out mid out' : W)
    → json ≡ true
    → UnderWay hands delivers sink json m folder l left p files files' out mid
    → IsWrittenOut sink p rest mid out'
    → UnderWay hands delivers sink json m folder l left rest files files' out out'
written_more hands delivers sink json m folder l left p rest files files' out mid out' is_json u w = record {
  done = u.done;
  entries = u.entries;
  written = u.written ++ p.text;
  split = u.split;
  loaded = u.loaded;
  taken = w.taken u.entries u.written u.taken;
  mode = w.mode ∙ u.mode;
  as_json = w.as_json ∙ u.as_json;
  ahead = Appends-trans _ _ _ _ _ u.ahead w.all;
  calm = w.calm ∙ u.calm;
  nothing = λ no. absurd (true≢false (sym is_json ∙ no));
}

-- one entry more is taken
pub entry_taken : {S I W : Type 0} (hands : S → S → Text → I → Type 0) (delivers : I → I → Delivery → Type 0)
    (sink : Sink W) (json : Bool) (m : Mode) (folder : Text) (l : Listing) (left rest : List (String Global))
    (name : String Global) (shown : Text) (p new : Progress) (files mid files' : S) (out old out' : W)
    → left ≡ name ∷ rest → shown ≡ string_bytes name
    → UnderWay hands delivers sink json m folder l left p files mid out old
    → HasTakenEntry hands delivers sink json folder l shown p new mid files' old out'
    → UnderWay hands delivers sink json m folder l rest new files files' out out'
entry_taken {W = W} hands delivers sink true m folder l left rest name shown p new files mid files' out old out' step is_shown u t =
    written_more hands delivers sink true m folder l rest t.more new files files' out old out' refl
    (one_more hands delivers sink true m folder l left rest name shown p t.more files mid files' out old step is_shown u t.adds)
    (t.objects refl)
entry_taken {W = W} hands delivers sink false m folder l left rest name shown p new files mid files' out old out' step is_shown u t =
    subst (λ (w : W). UnderWay hands delivers sink false m folder l rest new files files' out w) (sym (t.lines refl).1)
    (subst (λ (q : Progress). UnderWay hands delivers sink false m folder l rest q files files' out old) (sym (t.lines refl).0)
    (one_more hands delivers sink false m folder l left rest name shown p t.more files mid files' out old step is_shown u t.adds))

-- The report on the first elections, with its total.
on_first : {S I W : Type 0} (hands : S → S → Text → I → Type 0) (delivers : I → I → Delivery → Type 0)
    (sink : Sink W) (json : Bool) (m : Mode) (folder : Text) (l : Listing) (left : List (String Global)) (p : Progress)
    (files files' : S) (out out' : W)
    → IsOrdered string_cmp l.elections
    → (u : UnderWay hands delivers sink json m folder l left p files files' out out')
    → ReportsOnFirst hands delivers json m folder l files
    (record { text = u.written ++ (rest_of p).text; status = (rest_of p).status })
on_first hands delivers sink json m folder l left p files files' out out' ordered u =
    let report : Answer FolderStatus = record { text = u.written ++ (rest_of p).text; status = (rest_of p).status } in
    record {
      ordered = ordered;
      first = map string_bytes u.done;
      others = map string_bytes left;
      names = ap (λ (k : List (String Global)). map string_bytes k) u.split ∙ map-append string_bytes u.done left;
      after_first = files';
      entries = u.entries;
      loaded = u.loaded;
      report_of = subst (λ (b : Bool). ReportOf b m u.entries report) u.as_json
          (subst (λ (m' : Mode). ReportOf p.as_json m' u.entries report) u.mode (is_rest_of p u.entries u.written u.taken));
    }

-- writing failed
pub is_cut_short : {S I W : Type 0} (hands : S → S → Text → I → Type 0) (delivers : I → I → Delivery → Type 0)
    (sink : Sink W) (json : Bool) (m : Mode) (folder : Text) (l : Listing) (left rest : List (String Global))
    (name : String Global) (shown : Text) (p : Progress) (files mid files' : S) (out old out' : W)
    → IsOrdered string_cmp l.elections
    → left ≡ name ∷ rest → shown ≡ string_bytes name
    → UnderWay hands delivers sink json m folder l left p files mid out old
    → HasFailedToWrite hands delivers sink folder l shown p mid files' old out'
    → IsCutShort (ReportsOnFirst hands delivers json m folder l files) (writer sink out) (writer sink out')
is_cut_short hands delivers sink json m folder l left rest name shown p files mid files' out old out' ordered step is_shown u f =
    let u' =
    one_more hands delivers sink json m folder l left rest name shown p f.more files mid files' out old step is_shown u f.adds in
    record {
      answer = record { text = u'.written ++ (rest_of f.more).text; status = (rest_of f.more).status };
      of_inputs = on_first hands delivers sink json m folder l rest f.more files files' out old ordered u';
      front = cut_behind _ _ _ u'.written f.more.text _ u'.ahead f.front;
      failed = subst (λ (n : ℕ). Rises n (sink.counts out').failures) u'.calm f.failed;
    }

-- nothing more is written
is_out_of_memory : {S I W : Type 0} (hands : S → S → Text → I → Type 0) (delivers : I → I → Delivery → Type 0)
    (sink : Sink W) (json : Bool) (m : Mode) (folder : Text) (l : Listing) (left : List (String Global)) (p : Progress)
    (files files' : S) (out out' : W)
    → IsOrdered string_cmp l.elections
    → UnderWay hands delivers sink json m folder l left p files files' out out'
    → IsOutOfMemory json sink (ReportsOnFirst hands delivers json m folder l files) out out'
is_out_of_memory hands delivers sink json m folder l left p files files' out out' ordered u =
    by_form json (λ no. (u.nothing no).1) (record {
      report = record { text = u.written ++ (rest_of p).text; status = (rest_of p).status };
      of_folder = on_first hands delivers sink json m folder l left p files files' out out' ordered u;
      front = (u.written, (rest_of p).text, refl, u.ahead);
      calm = u.calm;
    })

abbrev is_write : {A : Type 0} → Result A Fault → Type 0
is_write (Err fault.Write) = Unit {0}
is_write _ = ⊥

-- memory ran out
pub ended_by_memory : {S I W : Type 0} (hands : S → S → Text → I → Type 0) (delivers : I → I → Delivery → Type 0)
    (sink : Sink W) (json : Bool) (m : Mode) (folder : Text) (l : Listing) (left : List (String Global)) (p : Progress)
    (files mid files' : S) (out out' : W)
    → IsOrdered string_cmp l.elections
    → UnderWay hands delivers sink json m folder l left p files mid out out'
    → WritesAhead hands delivers sink json m folder l (Err fault.Memory) files files' out out'
ended_by_memory hands delivers sink json m folder l left p files mid files' out out' ordered u = record {
  ahead = tt;
  cut_short = λ h. absurd (subst is_write (sym h) tt);
  out_of_memory = λ h. is_out_of_memory hands delivers sink json m folder l left p files mid out out' ordered u;
}

-- the call that takes one entry more failed
pub ended_at_entry : {S I W : Type 0} (hands : S → S → Text → I → Type 0) (delivers : I → I → Delivery → Type 0)
    (sink : Sink W) (json : Bool) (m : Mode) (folder : Text) (l : Listing) (left rest : List (String Global))
    (name : String Global) (shown : Text) (p : Progress) (f : Fault) (files mid files' : S) (out old out' : W)
    → IsOrdered string_cmp l.elections
    → left ≡ name ∷ rest → shown ≡ string_bytes name
    → UnderWay hands delivers sink json m folder l left p files mid out old
    → TakesEntry hands delivers sink json folder l shown p (Err f) mid files' old out'
    → WritesAhead hands delivers sink json m folder l (Err f) files files' out out'
ended_at_entry hands delivers sink json m folder l left rest name shown p fault.Write files mid files' out old out' ordered step is_shown u t = record {
  ahead = tt;
  cut_short = λ h. (
    (t.cut_short refl).0,
    is_cut_short hands delivers sink json m folder l left rest name shown p files mid files' out old out' ordered step
        is_shown u (t.cut_short refl).1,
  );
  out_of_memory = λ h. absurd (subst is_write h tt);
}
ended_at_entry {W = W} hands delivers sink json m folder l left rest name shown p fault.Memory files mid files' out old out' ordered step is_shown u t =
    subst (λ (w : W). WritesAhead hands delivers sink json m folder l (Err fault.Memory) files files' out w)
    (sym (t.untouched refl))
    (ended_by_memory hands delivers sink json m folder l left p files mid files' out old ordered u)

-- the whole report is one on its first elections
all_first : {S I : Type 0} (hands : S → S → Text → I → Type 0) (delivers : I → I → Delivery → Type 0) (json : Bool)
    (m : Mode) (folder : Text) (l : Listing) (old new : S) (a : Answer FolderStatus)
    → ReportsOn hands delivers json m folder l old new a → ReportsOnFirst hands delivers json m folder l old a
all_first hands delivers json m folder l old new a r = record {
  ordered = r.ordered;
  first = names_of l;
  others = [];
  names = sym (append-nil (names_of l));
  after_first = new;
  entries = r.entries;
  loaded = r.loaded;
  report_of = r.report_of;
}

-- what is ahead of the rest was written, and then the rest
pub rest_written : {S I W : Type 0} (hands : S → S → Text → I → Type 0) (delivers : I → I → Delivery → Type 0)
    (sink : Sink W) (json : Bool) (m : Mode) (folder : Text) (l : Listing) (rest : Answer FolderStatus)
    (r : Result FolderStatus Fault) (files files' : S) (out mid out' : W)
    → IsAhead sink json (ReportsOn hands delivers json m folder l files files') rest out mid
    → Writes sink (λ (a : Answer FolderStatus). a ≡ rest) r mid out'
    → WritesReport hands delivers sink json m folder l r files files' out out'
rest_written {W = W} hands delivers sink json m folder l rest r files files' out mid out' ahead w =
    let report : Answer FolderStatus = record { text = ahead.written ++ rest.text; status = rest.status } in
    record {
      reported = IfOk-weaker r _ _
          (λ status is. record {
            report = report;
            of_folder = ahead.of_folder;
            text = Appends-trans _ _ _ _ _ ahead.ahead
                (subst (λ (a : Answer FolderStatus). Appends (sink.holds mid) (sink.holds out') a.text) is.of_inputs is.text);
            ends = is.ends ∙ ap (λ (a : Answer FolderStatus). a.status) is.of_inputs;
            flushed = is.flushed.last;
            once = λ no. subst (λ (v : W). IsFlushed (sink.counts v) (sink.counts out')) (ahead.nothing no).1 is.flushed;
            calm = is.calm ∙ ahead.calm;
          }) w.written;
      cut_short = λ h.
          let is = w.cut_short h in
          record {
            answer = report;
            of_inputs = inl ahead.of_folder;
            front = cut_at_end _ _ _ ahead.written rest.text ahead.ahead
                (subst (λ (a : Answer FolderStatus). AppendsFront (sink.holds mid) (sink.holds out') a.text) is.of_inputs is.front);
            failed = subst (λ (n : ℕ). Rises n (sink.counts out').failures) ahead.calm is.failed;
          };
      out_of_memory = λ h. by_form json (λ no. w.untouched h ∙ (ahead.nothing no).1) (record {
        report = report;
        of_folder = all_first hands delivers json m folder l files files' report ahead.of_folder;
        front = (
          ahead.written,
          rest.text,
          refl,
          subst (λ (v : W). Appends (sink.holds out) (sink.holds v) ahead.written) (sym (w.untouched h)) ahead.ahead,
        );
        calm = subst (λ (v : W). (sink.counts v).failures ≡ (sink.counts out).failures) (sym (w.untouched h)) ahead.calm;
      });
    }
