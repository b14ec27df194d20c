use Rattle.std.proofs.Common.{refl, rules}
use Rattle.pb_reply.proofs.answer.Answer.write.Goals as goal

pub returns-in_err-put : goal.returns-in_err-put
returns-in_err-put g c = record {
  written = search rules;
  cut_short = λ h. record { answer = c.args.self.now; of_inputs = refl; front = search rules; failed = search rules };
  untouched = search rules;
}

pub returns : goal.returns
returns g c = record {
  written = record {
    answer = c.args.self.now;
    of_inputs = refl;
    text = search rules;
    ends = search rules;
    flushed = search rules;
    calm = search rules;
  };
  cut_short = search rules;
  untouched = search rules;
}
