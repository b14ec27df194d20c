-- For the code's own `Election`: which `Instance` it stands for. What callers are promised is said of the `Instance`,
-- without this module.
use Rattle.std.specs.Option.{option_map}
use Rattle.pb_election.specs.Instance.{Instance}
use Rattle.pb_election.specs.declared.election.Election.TheInside.{Inside}

abbrev pub instance_of : Inside → Instance
instance_of a =
    record {
      limit = a.limit;
      ids = a.ids;
      costs = a.costs.items;
      selected = option_map (λ marks. marks.items) a.selected;
      other_selected = a.other_selected;
      declared_projects = a.declared_projects;
      declared_votes = a.declared_votes;
      unused = a.unused;
      ballots = a.ballots;
    }
