-- What is answered on inputs in their turn, question by question, as lines or as a JSON object. An input that a question
-- doesn't have is left alone.
use Rattle.std.specs.Prelude.{None}
use Rattle.pb_reply.specs.Replies.{Answer, TellsReply}
use Rattle.pb_reply.specs.Turns.{FileTurn, Turn}
use Rattle.pb_reply.specs.declared.answer.Format.{Format}
use Rattle.pb_reply.specs.declared.status.Status.{Status}
use Rattle.pb_audit.specs.Both.{ReadsBoth}
use Rattle.pb_audit.specs.Explained.{ReadsExplained}
use Rattle.pb_audit.specs.Groups.{ReadsExplainedGroups, ReadsGroupMargins, ReadsGroups}
use Rattle.pb_audit.specs.InTurn.{ReadsElection, ReadsPrices, ReadsRefutation, ReadsTidy, ReadsViolation}
use Rattle.pb_audit.specs.Margins.{ReadsMargins}
use Rattle.pb_audit.specs.declared.question.Question.{Question}
use Rattle.pb_audit.specs.declared.question.Question.TheVariants as question

-- the answer in a format to a question on an election, an outcome file where one is given, a certificate, and the
-- violation certificate beside prices; a canonical text is for programs as it is
abbrev pub Answers : Format → Question → Turn → FileTurn → Turn → Turn → Answer Status → Type 0
Answers format question.Read election outcome certificate violation a =
    TellsReply format (ReadsElection election) a × outcome None × certificate None × violation None
Answers format (question.Groups k) election outcome certificate violation a =
    TellsReply format (ReadsGroups k election outcome) a × certificate None × violation None
Answers format (question.ExplainGroups k) election outcome certificate violation a =
    TellsReply format (ReadsExplainedGroups k election outcome) a × certificate None × violation None
Answers format (question.GroupMargins k) election outcome certificate violation a =
    TellsReply format (ReadsGroupMargins k election outcome) a × certificate None × violation None
Answers format (question.Prices m) election outcome certificate violation a =
    TellsReply format (ReadsPrices m election outcome certificate) a × violation None
Answers format question.Violation election outcome certificate violation a =
    TellsReply format (ReadsViolation election outcome certificate) a × violation None
Answers format (question.Refutation stable) election outcome certificate violation a =
    TellsReply format (ReadsRefutation stable election outcome certificate) a × violation None
Answers format (question.Both m) election outcome prices violation a =
    TellsReply format (ReadsBoth m election outcome prices violation) a
Answers format (question.Explain m) election outcome certificate violation a =
    TellsReply format (ReadsExplained m election outcome certificate) a × violation None
Answers format question.Margins election outcome certificate violation a =
    TellsReply format (ReadsMargins election outcome certificate) a × violation None
Answers format question.Tidy election outcome certificate violation a =
    ReadsTidy election certificate a × outcome None × violation None

-- the questions on which a JSON object is answered: all but that for a canonical text, which is a file of its own form
abbrev pub HasObject : Question → Type 0
HasObject question.Tidy = ⊥
HasObject _ = Unit {0}
