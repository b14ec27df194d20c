-- The answers on groups that fall short.
use Rattle.std.proofs.Common.{◌∙◌, ap, refl, subst, Bool, List, []}
use Rattle.std.specs.Prelude.{IfOk, IfSome, Ok, Err, None}
use Rattle.pb_election.specs.Instance.{Instance}
use Rattle.pb_certificate.specs.declared.violations.measure.Measure.{Measure}
use Rattle.pb_reply.specs.Inputs.{Stated, StatesElection}
use Rattle.pb_reply.specs.Inside.Taking.{Gives, GivesOutcome, IfTaken, reply_why}
use Rattle.pb_reply.specs.Replies.{Reply, with_input}
use Rattle.pb_reply.specs.Turns.{FileTurn, Turn}
use Rattle.pb_reply.specs.declared.unanswered.Unanswered.{Unanswered}
use Rattle.pb_reply.specs.declared.unanswered.Unanswered.TheVariants as unanswered
use Rattle.pb_reply.proofs.Groups.{groups-promise}
use Rattle.pb_audit.specs.Figured.{AreFigured, FigureRules, FiguresPromise, IsFiguredReply, ReadsFigured}
use Rattle.pb_audit.specs.Groups.{groups_rules}

-- where the election is refused, the outcome file is left alone
pub figured_ended_at_election : (rules : FigureRules) (election : Turn) (outcome : FileTurn) (why : Unanswered)
    → IfTaken {A = Instance} (Err why) (Gives StatesElection election) → outcome None
    → IfSome (reply_why why) (ReadsFigured rules election outcome)
figured_ended_at_election rules election outcome (unanswered.Refused r) given left = record {
  of_election = given.delivery;
  of_outcome = None;
  answers = record {
    e = Err r;
    o = None;
    xs = [];
    election_states = given.stating;
    outcome_states = tt;
    figured = tt;
    out = refl;
  };
  election_delivered = given.delivered;
  outcome_delivered = left;
}
figured_ended_at_election rules election outcome unanswered.Memory given left = tt

pub figured_ended_at_outcome : (rules : FigureRules) (election : Turn) (outcome : FileTurn) (e : Instance) (why : Unanswered)
    → Gives StatesElection election (Ok e) → IfTaken {A = List Bool} (Err why) (GivesOutcome e outcome)
    → IfSome (reply_why why) (ReadsFigured rules election outcome)
figured_ended_at_outcome rules election outcome e (unanswered.Refused r) given taken = record {
  of_election = given.delivery;
  of_outcome = taken.delivery;
  answers = record {
    e = Ok e;
    o = taken.audits.file;
    xs = [];
    election_states = given.stating;
    outcome_states = taken.audits.given;
    figured = subst (λ (o : Stated (List Bool)). IfOk o (λ w. AreFigured rules e w [])) taken.audits.is tt;
    out = ap (λ (o : Stated (List Bool)). with_input o (λ w. rules.reply e w [])) taken.audits.is;
  };
  election_delivered = given.delivered;
  outcome_delivered = taken.delivered;
}
figured_ended_at_outcome rules election outcome e unanswered.Memory given taken = tt

-- the reply by the figures of all projects keeps what its status promises
pub groups_promise : (m : Measure) → FiguresPromise (groups_rules m)
groups_promise m e w xs figures = groups-promise m e w xs figures

-- both are accepted
pub figured_answered : (rules : FigureRules) (election : Turn) (outcome : FileTurn) (e : Instance) (w : List Bool)
    (r : Reply)
    → Gives StatesElection election (Ok e) → GivesOutcome e outcome (Ok w) → IsFiguredReply rules e w r
    → ReadsFigured rules election outcome r
figured_answered rules election outcome e w r given taken found = record {
  of_election = given.delivery;
  of_outcome = taken.delivery;
  answers = record {
    e = Ok e;
    o = taken.audits.file;
    xs = found.xs;
    election_states = given.stating;
    outcome_states = taken.audits.given;
    figured =
        subst (λ (o : Stated (List Bool)). IfOk o (λ marks. AreFigured rules e marks found.xs)) taken.audits.is
        found.figured;
    out = found.out
        ∙ ap (λ (o : Stated (List Bool)). with_input o (λ marks. rules.reply e marks found.xs)) taken.audits.is;
  };
  election_delivered = given.delivered;
  outcome_delivered = taken.delivered;
}
