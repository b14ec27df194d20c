-- What is answered on groups that fall short, which an election and its outcome decide.
use Rattle.std.specs.Prelude.{◌≡◌, Bool, List, [], ◌∷◌, map}
use Rattle.pb_election.specs.Instance.{Instance}
use Rattle.pb_certificate.specs.declared.violations.measure.Measure.{Measure}
use Rattle.pb_cohesion.specs.Shown.{first_short, shown, verdict_by}
use Rattle.pb_cohesion.specs.declared.GroupFigures.{GroupFigures}
use Rattle.pb_explain.specs.GroupMargins.{group_margin_table}
use Rattle.pb_explain.specs.MarginTable.{record_line}
use Rattle.pb_explain.specs.ShownGroup.{shown_table}
use Rattle.pb_reply.specs.Lines.{groups_line}
use Rattle.pb_reply.specs.Promises.{GroupsPromise}
use Rattle.pb_reply.specs.Replies.{Reply, groups_status}
use Rattle.pb_reply.specs.Turns.{FileTurn, Turn}
use Rattle.pb_reply.specs.declared.status.Status.{Status}
use Rattle.pb_reply.specs.declared.status.Status.TheVariants.{Yes}
use Rattle.pb_audit.specs.Explained.{with_table}
use Rattle.pb_audit.specs.Figured.{FigureRules, ReadsFigured}
use Rattle.pb_audit.specs.Objects.{group_margins_text, groups_text}

-- the reply by the figures of all projects
abbrev pub groups_reply : Measure → Instance → List Bool → List GroupFigures → Reply
groups_reply m e w xs = record {
  lines = groups_line m e (verdict_by (first_short xs)) ∷ [];
  json = groups_text m e w xs;
  status = groups_status (verdict_by (first_short xs));
}

abbrev pub groups_rules : Measure → FigureRules
groups_rules m = record { measure = m; reply = groups_reply m; promises = GroupsPromise m }

abbrev pub ReadsGroups : Measure → Turn → FileTurn → Reply → Type 0
ReadsGroups m election outcome r = ReadsFigured (groups_rules m) election outcome r

-- The same with an empty line and the table of the group that is shown: the largest that falls short for the first
-- project for which one does, or else the closest of all.
abbrev pub explained_groups : Measure → Instance → List Bool → List GroupFigures → Reply
explained_groups m e w xs = with_table (shown_table m e (shown xs)) (groups_reply m e w xs)

abbrev pub explained_groups_rules : Measure → FigureRules
explained_groups_rules m = record { measure = m; reply = explained_groups m; promises = GroupsPromise m }

abbrev pub ReadsExplainedGroups : Measure → Turn → FileTurn → Reply → Type 0
ReadsExplainedGroups m election outcome r = ReadsFigured (explained_groups_rules m) election outcome r

-- the table of margins, line by line, and an object on the same groups
abbrev pub group_margins_reply : Measure → Instance → List Bool → List GroupFigures → Reply
group_margins_reply m e w xs = record {
  lines = map record_line (group_margin_table m e xs);
  json = group_margins_text m e w xs;
  status = Yes;
}

-- its status is yes, whether or not a group falls short
abbrev pub group_margin_rules : Measure → FigureRules
group_margin_rules m =
    record { measure = m; reply = group_margins_reply m; promises = λ (status : Status) e w. status ≡ Yes }

abbrev pub ReadsGroupMargins : Measure → Turn → FileTurn → Reply → Type 0
ReadsGroupMargins m election outcome r = ReadsFigured (group_margin_rules m) election outcome r
