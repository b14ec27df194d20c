use Rattle.pb_run.proofs.folder.load_entry.Goals as goal

pub returns : goal.returns
returns g c = record {
  after_election = c.load_file.new.files;
  after_prices = c.load_beside.new.files;
  named = c.in_ok-from_str.ensures.ok;
  election = c.in_ok-load_file.ensures;
  prices = rw c.has_prices.ensures at c.in_ok-load_beside.ensures;
  violation = rw c.has_violation.ensures at c.in_ok-load_beside-2.ensures;
}
