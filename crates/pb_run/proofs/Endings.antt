-- How a run on a folder ends that is listed, by how its report was written.
use Rattle.std.proofs.Common.{Bool, List, refl, Result, Ok, Err, inl, inr}
use Rattle.pb_audit.specs.declared.total.FolderStatus.{FolderStatus}
use Rattle.pb_cohesion.specs.declared.Mode.{Mode}
use Rattle.pb_records.specs.Loading.{Delivery}
use Rattle.pb_records.specs.Records.{Text}
use Rattle.pb_records.specs.declared.loading.Sink.{Ghosts as Sink}
use Rattle.pb_reply.specs.Replies.{Answer}
use Rattle.pb_reply.specs.Writing.{IsCutShort, Writer}
use Rattle.pb_reply.specs.declared.status.Fault.{Fault}
use Rattle.pb_reply.specs.declared.status.Fault.TheVariants as fault
use Rattle.pb_reply.specs.declared.status.Status.{Status}
use Rattle.pb_run.specs.Folders.{ListsFolder, ReportsFirst, ReportsFolder}
use Rattle.pb_run.specs.Listings.{Entry}
use Rattle.pb_run.specs.Reporting.{IsBegun, IsLeftOff, IsOutOfMemory, IsReported, WritesReport}
use Rattle.pb_run.specs.Runs.{EndsReporting, Once}
use Rattle.pb_run.specs.declared.end.End.{End}
use Rattle.pb_run.specs.declared.end.End.TheVariants.{Reported, Faulted}
use Rattle.pb_run.specs.declared.listing.Listing.{Listing}

abbrev pub end_of_report : Result FolderStatus Fault → End
end_of_report (Ok s) = Reported s
end_of_report (Err f) = Faulted f

reported_as : {json : Bool} {is_one is_other : Answer FolderStatus → Type 0} {status : FolderStatus} {old new : Writer}
    → ((a : Answer FolderStatus) → is_one a → is_other a) → IsReported json is_one status old new
    → IsReported json is_other status old new
reported_as same w = record {
  report = w.report;
  of_folder = same w.report w.of_folder;
  text = w.text;
  ends = w.ends;
  flushed = w.flushed;
  once = w.once;
  calm = w.calm;
}

begun_as : {json : Bool} {one other first_one first_other : Answer FolderStatus → Type 0}
    → ((a : Answer FolderStatus) → one a → other a) → ((a : Answer FolderStatus) → first_one a → first_other a)
    → (a : Answer FolderStatus) → IsBegun json one first_one a → IsBegun json other first_other a
begun_as same on_first a (inl whole) = inl (same a whole)
begun_as same on_first a (inr begun) = inr (begun.0, on_first a begun.1)

cut_as : {is_one is_other : Answer FolderStatus → Type 0} {old new : Writer}
    → ((a : Answer FolderStatus) → is_one a → is_other a) → IsCutShort is_one old new → IsCutShort is_other old new
cut_as same w = record {
  answer = w.answer;
  of_inputs = same w.answer w.of_inputs;
  front = w.front;
  failed = w.failed;
}

left_as : {is_one is_other : Answer FolderStatus → Type 0} {old new : Writer}
    → ((a : Answer FolderStatus) → is_one a → is_other a) → IsLeftOff is_one old new → IsLeftOff is_other old new
left_as same w = record { report = w.report; of_folder = same w.report w.of_folder; front = w.front; calm = w.calm }

memory_as : {W : Type 0} {json : Bool} (sink : Sink W) {is_one is_other : Answer FolderStatus → Type 0} {old new : W}
    → ((a : Answer FolderStatus) → is_one a → is_other a) → IsOutOfMemory json sink is_one old new
    → IsOutOfMemory json sink is_other old new
memory_as sink same (inl nothing) = inl nothing
memory_as sink same (inr begun) = inr (begun.0, left_as same begun.1)

pub ends_by_report : {S I W : Type 0} (lists : S → S → Text → List Entry → Type 0) (hands : S → S → Text → I → Type 0)
    (delivers : I → I → Delivery → Type 0) (sink : Sink W) (json : Bool) (m : Mode) (folder : Text) (l : Listing)
    (refusals : Answer Status → Type 0) (r : Result FolderStatus Fault) (files listed files' : S) (old new : W)
    → ListsFolder lists folder files listed l
    → WritesReport hands delivers sink json m folder l r listed files' old new
    → EndsReporting sink json refusals (Once (λ then. ReportsFolder lists hands delivers json m folder files then))
    (ReportsFirst lists hands delivers json m folder files) (end_of_report r) old new
ends_by_report lists hands delivers sink json m folder l refusals (Ok s) files listed files' old new is_listed w =
    reported_as
    (λ a r. (files', record { listing = l; after_listing = listed; listed = is_listed; reported = r }))
    w.reported
ends_by_report lists hands delivers sink json m folder l refusals (Err fault.Write) files listed files' old new is_listed w =
    inr (cut_as
    (begun_as (λ a r. (files', record { listing = l; after_listing = listed; listed = is_listed; reported = r }))
    (λ a r. record { listing = l; after_listing = listed; listed = is_listed; reported = r }))
    (w.cut_short refl))
ends_by_report lists hands delivers sink json m folder l refusals (Err fault.Memory) files listed files' old new is_listed w =
    memory_as sink
    (λ a r. record { listing = l; after_listing = listed; listed = is_listed; reported = r })
    (w.out_of_memory refl)
