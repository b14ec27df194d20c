use Rattle.pb_explain.proofs.shown_group.push_no_group.Goals as goal

pub returns : goal.returns
returns c = rw c.in_ok-from_str.ensures.ok at c.push_line.ensures
