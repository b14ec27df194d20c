use Rattle.std.proofs.Common.{option_map, refl, subst, sym}
use Rattle.std.specs.Prelude.{None, Ok}
use Rattle.pb_reply.specs.Inside.Loaded.{lent}
use Rattle.pb_reply.specs.Replies.{Reply}
use Rattle.pb_audit.specs.Answers.{AnswersPrices, AnswersViolation}
use Rattle.pb_audit.specs.Inside.Folders.{IsDecided}
use Rattle.pb_audit.specs.Reports.{FindsCertificate, where_accepted}
use Rattle.pb_audit.proofs.found.found_on.Goals as goal

pub returns : goal.returns
returns c = λ given.
    let e = c.args.election in
    let entry = c.args.entry in
    let file = lent entry.election in
    let decided : IsDecided e c.decided_of-decided.result = record {
      outcome = c.decided_of-decided.ensures.taken;
      election = c.decided_of-decided.ensures.election;
    } in
    record {
      name = refl;
      read = record { e = Ok e; given = given; out = c.in_ok-read.ensures };
      prices =
          subst (λ (r : Reply). FindsCertificate (AnswersPrices c.args.mode file None)
          (where_accepted r.status (option_map lent entry.prices)) c.in_ok-certificate_found.field-0)
          (sym c.in_ok-read.ensures) (c.in_ok-certificate_found.ensures file e given decided);
      violation =
          subst (λ (r : Reply). FindsCertificate (AnswersViolation file None)
          (where_accepted r.status (option_map lent entry.violation)) c.in_ok-certificate_found-2.field-0)
          (sym c.in_ok-read.ensures) (c.in_ok-certificate_found-2.ensures file e given decided);
    }
