-- The entries of a folder, by what is delivered of their files.
use Rattle.std.specs.Prelude.{◌≡◌, IfOk, None, Result, string_bytes}
use Rattle.std.specs.Option.{option_map}
use Rattle.pb_election.specs.Instance.{Instance}
use Rattle.pb_election.specs.Outcome.{Decided}
use Rattle.pb_records.specs.Records.{Text}
use Rattle.pb_reply.specs.Inside.Loaded.{delivery_of, lent}
use Rattle.pb_reply.specs.Inside.Taking.{AuditsOutcome, IfTaken, decided_as}
use Rattle.pb_reply.specs.declared.unanswered.Unanswered.{Unanswered}
use Rattle.pb_audit.specs.Reports.{EntryFiles, Found}
use Rattle.pb_audit.specs.declared.found.Found as code
use Rattle.pb_audit.specs.declared.folder.Entry.{Entry}
use Rattle.pb_audit.specs.declared.folder.LentEntry.{LentEntry}

abbrev pub files_of : Entry → EntryFiles
files_of entry = record {
  name = string_bytes entry.name;
  election = delivery_of entry.election;
  prices = option_map delivery_of entry.prices;
  violation = option_map delivery_of entry.violation;
}

-- the same where their bytes are lent
abbrev pub lent_files : LentEntry → EntryFiles
lent_files entry = record {
  name = entry.name.now;
  election = lent entry.election;
  prices = option_map lent entry.prices;
  violation = option_map lent entry.violation;
}

-- what the code found of the files of this name
abbrev pub found_as : Text → code.Found → Found
found_as name found = record {
  name = name;
  read = found.read;
  prices = found.prices;
  violation = found.violation;
}

-- an election with its own outcome, memory aside, or why it has none
pub record IsDecided (e : Instance) (decided : Result Decided Unanswered) : Type 0 where
  pub outcome : IfTaken (decided_as decided) (AuditsOutcome e None)
  pub election : IfOk decided (λ d. d.election ≡ e)
