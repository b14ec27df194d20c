-- What is reported, or that memory ran out.
use Rattle.std.proofs.Common.{◌≡◌, ◌∙◌, List, ℕ, ap, inl, inr, subst, sym}
use Rattle.std.specs.Prelude.{IfErr, IfOk, Result, Ok, Err}
use Rattle.std.specs.declared.alloc.AllocError.{AllocError}
use Rattle.pb_audit.specs.Reports.{EntryFiles, TellsEntry, status_of}
use Rattle.pb_audit.specs.declared.parts.ToldEntry.{ToldEntry}
use Rattle.pb_audit.specs.declared.total.Total.{Total}
use Rattle.pb_c.specs.Facts.{facts_of, no_facts}
use Rattle.pb_c.specs.Folders.{ReportsEntry, folder_code, no_files}
use Rattle.pb_c.specs.Reports.{IsGiven, IsOutOfMemory, IsReported, Reports, ReportsFacts}
use Rattle.pb_c.specs.declared.facts.Facts.{Facts}
use Rattle.pb_cohesion.specs.declared.Mode.{Mode}
use Rattle.pb_reply.specs.Replies.{Answer}
use Rattle.pb_reply.specs.declared.status.Status.{Status}

pub reported : (is_answer : Answer Status → Type 0) (r : Result (Answer Status) AllocError) (code : ℕ)
    (old new : List ℕ) (needed : ℕ) → IfOk r is_answer → IfOk r (λ own. IsReported (λ a. a ≡ own) code old new needed)
    → IfErr r (λ why. IsOutOfMemory code old new needed) → Reports is_answer code old new needed
reported is_answer (Ok own) code old new needed is told out = inl (record {
  answer = told.answer;
  of_inputs = subst is_answer (sym told.of_inputs) is;
  ends = told.ends;
  given = told.given;
})
reported is_answer (Err why) code old new needed is told out = inr out

-- the same with what is told in numbers
pub reported_facts : (is_answer : Answer Status → Type 0) (r : Result (Answer Status) AllocError) (code : ℕ) (facts : Facts)
    (old new : List ℕ) (needed : ℕ) → IfOk r is_answer
    → IfOk r (λ own. IsReported (λ a. a ≡ own) code old new needed × (facts ≡ facts_of own.status))
    → IfErr r (λ why. IsOutOfMemory code old new needed × (facts ≡ no_facts))
    → ReportsFacts is_answer code facts old new needed
reported_facts is_answer (Ok own) code facts old new needed is told out = inl (record {
  answer = told.0.answer;
  of_inputs = (
    subst is_answer (sym told.0.of_inputs) is,
    told.1 ∙ ap (λ (a : Answer Status). facts_of a.status) (sym told.0.of_inputs),
  );
  ends = told.0.ends;
  given = told.0.given;
})
reported_facts is_answer (Err why) code facts old new needed is told out = inr out

-- what is told of an entry, or that memory ran out
pub reported_entry : (m : Mode) (files : EntryFiles) (r : Result ToldEntry AllocError) (code : ℕ) (total : Total)
    (old new : List ℕ) (needed : ℕ) → IfOk r (TellsEntry m files)
    → IfOk r (λ own. code ≡ folder_code (status_of own.total)) → IfOk r (λ own. total ≡ own.total)
    → IfOk r (λ own. IsGiven own.text.items old new needed)
    → IfErr r (λ why. IsOutOfMemory code old new needed × (total ≡ no_files))
    → ReportsEntry m files code total old new needed
reported_entry m files (Ok own) code total old new needed tells ends counts given out = inl (record {
  told = own;
  tells = tells;
  ends = ends;
  counts = counts;
  given = given;
})
reported_entry m files (Err why) code total old new needed tells ends counts given out = inr out
