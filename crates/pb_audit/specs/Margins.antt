-- What is answered with the table of margins.
use Rattle.std.specs.Prelude.{◌≡◌, ◌*◌, ◌^◌, Bool, List, map}
use Rattle.pb_election.specs.Instance.{Instance, all_projects}
use Rattle.pb_certificate.specs.Prices.{Prices}
use Rattle.pb_explain.specs.MarginTable.{record_line, table_of}
use Rattle.pb_price.specs.Margins.{margins_of_project}
use Rattle.pb_reply.specs.Inputs.{StatesPrices}
use Rattle.pb_reply.specs.Replies.{Reply}
use Rattle.pb_reply.specs.Turns.{FileTurn, Turn}
use Rattle.pb_reply.specs.declared.status.Status.{Status}
use Rattle.pb_reply.specs.declared.status.Status.TheVariants.{Yes}
use Rattle.pb_input.specs.declared.InputName.TheVariants as name
use Rattle.pb_audit.specs.Answers.{AuditRules}
use Rattle.pb_audit.specs.InTurn.{ReadsAudit}
use Rattle.pb_audit.specs.Objects.{margins_text}

-- the table, line by line, and an object with the same figures
abbrev pub margins_reply : Instance → List Bool → Prices → Reply
margins_reply e w p = record {
  lines = map record_line (table_of e w p);
  json = margins_text e w (10 ^ 6 * p.denominator) (map (margins_of_project e w p) (all_projects e));
  status = Yes;
}

-- the status of a table of margins is yes, whatever the prices support
abbrev pub AlwaysYes : Status → Instance → List Bool → Prices → Type 0
AlwaysYes status e w p = status ≡ Yes

abbrev pub margin_rules : AuditRules Prices
margin_rules = record { states = StatesPrices name.Certificate; reply = margins_reply; promises = AlwaysYes }

-- the reply on an election, an outcome file where one is given, and a price certificate, in their turn
abbrev pub ReadsMargins : Turn → FileTurn → Turn → Reply → Type 0
ReadsMargins election outcome certificate r = ReadsAudit margin_rules election outcome certificate r
