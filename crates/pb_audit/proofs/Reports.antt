-- A report that takes one entry more, is written out as far as it is there, and ends.
use Rattle.std.proofs.Common.{◌≡◌, ◌∙◌, ap, append_assoc, subst, sym, Bool, false, IfOk, Result, List, [], ◌∷◌, ◌++◌}
use Rattle.std.specs.Prelude.{flat_map}
use Rattle.std.proofs.lemmas.List.{flat_map_more}
use Rattle.std.proofs.lemmas.List.Concat.{flat_map-append}
use Rattle.pb_audit.specs.Reports.{IsRestOf, EntryFiles, Finds, FindsEach, Found, HasTaken, Progress, ReportOf, endings_of, lines_of, status_of, total_line, total_of}
use Rattle.pb_audit.specs.declared.total.Ending.{Ending}
use Rattle.pb_audit.specs.declared.total.FolderStatus.{FolderStatus}
use Rattle.pb_reply.specs.Replies.{Answer, text_of}
use Rattle.pb_cohesion.specs.declared.Mode.{Mode}
use Rattle.pb_records.specs.Records.{Text}

pub finds_more : (m : Mode) (entries : List EntryFiles) (all : List Found) (files : EntryFiles) (found : Found)
    → FindsEach m entries all → Finds m files found → FindsEach m (entries ++ files ∷ []) (all ++ found ∷ [])
finds_more m [] [] files found each last = (last, tt)
finds_more m [] (x ∷ xs) files found each last = absurd each
finds_more m (f ∷ fs) [] files found each last = absurd each
finds_more m (f ∷ fs) (x ∷ xs) files found each last = (each.0, finds_more m fs xs files found each.1 last)

pub takes_more : (old new : Progress) (entries : List EntryFiles) (written : Text) (files : EntryFiles) (found : Found)
    → new.as_json ≡ old.as_json → new.mode ≡ old.mode
    → new.text ≡ old.text ++ text_of (lines_of old.as_json found) → new.endings ≡ old.endings ++ endings_of found
    → Finds old.mode files found → HasTaken old entries written → HasTaken new (entries ++ files ∷ []) written
takes_more old new entries written files found as_json mode text endings last taken = record {
  found = taken.found ++ found ∷ [];
  each = subst (λ (m : Mode). FindsEach m (entries ++ files ∷ []) (taken.found ++ found ∷ [])) (sym mode)
      (finds_more old.mode entries taken.found files found taken.each last);
  text = ap (λ (t : Text). written ++ t) text
      ∙ (sym (append_assoc written old.text (text_of (lines_of old.as_json found)))
      ∙ (ap (λ (t : Text). t ++ text_of (lines_of old.as_json found)) taken.text
      ∙ (sym (flat_map-append _ (flat_map (lines_of old.as_json) taken.found) (lines_of old.as_json found))
      ∙ (ap text_of (flat_map_more (lines_of old.as_json) [] taken.found found)
      ∙ ap (λ (b : Bool). text_of (flat_map (lines_of b) (taken.found ++ found ∷ []))) (sym as_json)))));
  endings = endings
      ∙ (ap (λ e. e ++ endings_of found) taken.endings
      ∙ flat_map_more endings_of [] taken.found found);
}

-- the rest of the report: its text so far, and the total
abbrev pub rest_of : Progress → Answer FolderStatus
rest_of p = record {
  text = p.text ++ text_of (total_line p.as_json (total_of p.endings) ∷ []);
  status = status_of (total_of p.endings);
}

pub is_rest_of : (p : Progress) (entries : List EntryFiles) (written : Text) → HasTaken p entries written
    → IsRestOf p entries written (rest_of p)
is_rest_of p entries written taken = record {
  found = taken.found;
  each = taken.each;
  out = ap (λ (e : List Ending). record {
    text = written ++ (p.text ++ text_of (total_line p.as_json (total_of e) ∷ []));
    status = status_of (total_of e);
  }) taken.endings
      ∙ ap (λ (t : Text). record {
        text = t;
        status = status_of (total_of (flat_map endings_of taken.found));
      })
      (sym (append_assoc written p.text (text_of (total_line p.as_json (total_of (flat_map endings_of taken.found)) ∷ [])))
      ∙ (ap (λ (t : Text). t ++ text_of (total_line p.as_json (total_of (flat_map endings_of taken.found)) ∷ [])) taken.text
      ∙ sym (flat_map-append _ (flat_map (lines_of p.as_json) taken.found) (total_line p.as_json (total_of (flat_map endings_of taken.found)) ∷ []))));
}

-- nothing was written out of it
pub whole_report : {E : Type 0} (p : Progress) (m : Mode) (entries : List EntryFiles) (r : Result (Answer FolderStatus) E)
    → p.as_json ≡ false → p.mode ≡ m → IfOk r (IsRestOf p entries []) → IfOk r (ReportOf false m entries)
whole_report p m entries r as_json mode ended =
    subst (λ (b : Bool). IfOk r (ReportOf b m entries)) as_json
    (subst (λ (m' : Mode). IfOk r (ReportOf p.as_json m' entries)) mode ended)
