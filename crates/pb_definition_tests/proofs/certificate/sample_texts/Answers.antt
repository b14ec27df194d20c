use Rattle.std.proofs.Common.{refl, [], ◌∷◌, arith}
use Rattle.std.specs.Prelude.{◌++◌, codes}
use Rattle.std.specs.List.{IsDistinct}
use Rattle.std.specs.Str.{chars, is_utf8}
use Rattle.std.specs.Char.{encode_utf8}
use Rattle.csv.specs.Records.{field_at}
use Rattle.pb_money.specs.Digits.{drop_back, drop_front}
use Rattle.pb_records.specs.Cells.{is_blank, is_text}
use Rattle.pb_certificate.specs.Fields.{whole_in}
use Rattle.pb_certificate.specs.NamedRows.Named.{Voter, Project}
use Rattle.pb_definition_tests.specs.Samples.{demand_x1, demand_x2, least_a, left_c, member_1, most_b, price_columns, row_1a, row_1b, row_2a, row_3b, three, two}
use Rattle.pb_certificate.specs.declared.refutations.weighting.Role.TheVariants.{Least, Most, Left}
use Rattle.pb_certificate.proofs.OnPrices.Stated.{cons-rises, nil-rises}
use Rattle.pb_definition_tests.proofs.certificate.sample_texts.Goals as goal

pub returns-clause-prices : goal.returns-clause-prices
unfolding field_at drop_front drop_back is_blank is_text whole_in is_utf8 chars encode_utf8 IsDistinct
returns-clause-prices c = record {
  head = two (codes "pb-prices") (codes "1");
  denominator = two (codes "denominator") (codes "1");
  budget = two (codes "voter_budget") (codes "4");
  columns = price_columns;
  rows = row_1a ∷ row_1b ∷ row_2a ∷ row_3b ∷ [];
  payments = record { voter = 1; project = 1; numerator = 2 } ∷ record { voter = 1; project = 2; numerator = 2 }
      ∷ record { voter = 2; project = 1; numerator = 4 } ∷ record { voter = 3; project = 2; numerator = 2 } ∷ [];
  cut = refl;
  text = (refl, (refl, (refl, (refl, (refl, (refl, (refl, (refl, tt))))))));
  is_head = refl;
  is_denominator = (codes "1", refl, refl);
  is_budget = (codes "4", refl, refl);
  is_columns = refl;
  each_row = refl;
  in_order = cons-rises 1 (1 ∷ 2 ∷ 3 ∷ []) (omega arith, (omega arith, (omega arith, tt)))
      (cons-rises 1 (2 ∷ 3 ∷ []) (omega arith, (omega arith, tt))
      (cons-rises 2 (3 ∷ []) (omega arith, tt) (cons-rises 3 [] tt nil-rises)));
  once = ((refl, (refl, (refl, tt))), ((refl, (refl, tt)), ((refl, tt), (tt, tt))));
  few = omega arith;
  each_project = refl;
  same_payments = refl;
}

pub returns-clause-group : goal.returns-clause-group
unfolding field_at drop_front drop_back is_blank is_text whole_in is_utf8 chars encode_utf8 IsDistinct
returns-clause-group c = record {
  heads = two (codes "pb-violation") (codes "1") ∷ [];
  rows = demand_x1 ∷ demand_x2 ∷ member_1 ∷ two (codes "voter") (codes "2") ∷ [];
  names = Project 1 ∷ Project 2 ∷ Voter 1 ∷ Voter 2 ∷ [];
  cut = refl;
  text = (refl, (refl, (refl, (refl, (refl, tt)))));
  measure = (refl, refl);
  named = record { each_row = refl; once = ((refl, (refl, (refl, tt))), ((refl, (refl, tt)), ((refl, tt), (tt, tt)))) };
  same_group = refl;
  same_demand = refl;
}

pub returns-clause-by_cost : goal.returns-clause-by_cost
unfolding field_at drop_front drop_back is_blank is_text whole_in is_utf8 chars encode_utf8 IsDistinct
returns-clause-by_cost c = record {
  heads = two (codes "pb-violation") (codes "2") ∷ two (codes "satisfaction") (codes "cost") ∷ [];
  rows = demand_x1 ∷ demand_x2 ∷ member_1 ∷ [];
  names = Project 1 ∷ Project 2 ∷ Voter 1 ∷ [];
  cut = refl;
  text = (refl, (refl, (refl, (refl, (refl, tt)))));
  measure = (refl, refl);
  named = record { each_row = refl; once = ((refl, (refl, tt)), ((refl, tt), (tt, tt))) };
  same_group = refl;
  same_demand = refl;
}

pub returns-clause-outcome : goal.returns-clause-outcome
unfolding field_at drop_front drop_back is_blank is_text whole_in is_utf8 chars encode_utf8 IsDistinct
returns-clause-outcome c = record {
  head = two (codes "pb-outcome") (codes "1");
  rows = two (codes "project") (codes "b") ∷ two (codes "project") (codes "a") ∷ [];
  names = Project 2 ∷ Project 1 ∷ [];
  cut = refl;
  text = (refl, (refl, (refl, tt)));
  is_head = refl;
  named = record { each_row = refl; once = ((refl, tt), (tt, tt)) };
  projects_alone = (refl, (refl, tt));
  same_outcome = refl;
}

pub returns-clause-weights : goal.returns-clause-weights
unfolding field_at drop_front drop_back is_blank is_text whole_in is_utf8 chars encode_utf8 IsDistinct
returns-clause-weights c = record {
  head = two (codes "pb-refutation") (codes "1");
  cover = two (codes "cover") (codes "0");
  columns = three (codes "role") (codes "project") (codes "weight");
  rows = least_a ∷ most_b ∷ left_c ∷ [];
  stated = record { project = 1; states = record { role = Least; weight = 2 } }
      ∷ record { project = 2; states = record { role = Most; weight = 1 } }
      ∷ record { project = 3; states = record { role = Left; weight = 1 } } ∷ [];
  cut = refl;
  text = (refl, (refl, (refl, (refl, (refl, (refl, tt))))));
  is_head = refl;
  is_cover = (codes "0", refl, refl);
  is_columns = refl;
  each_row = refl;
  once = ((refl, (refl, tt)), ((refl, tt), (tt, tt)));
  same_rows = refl;
}

pub returns-clause-lenient : goal.returns-clause-lenient
unfolding field_at drop_front drop_back is_blank is_text whole_in is_utf8 chars encode_utf8 IsDistinct
returns-clause-lenient c = record {
  head = two (codes "pb-refutation") (codes " 1");
  cover = two (codes "cover") (codes "000");
  columns = three (codes "role") (codes "project") (codes "weight");
  rows = left_c ∷ (most_b ++ ([] ∷ [] ∷ [])) ∷ three (codes "least") (codes " a") (codes "02") ∷ [];
  stated = record { project = 3; states = record { role = Left; weight = 1 } }
      ∷ record { project = 2; states = record { role = Most; weight = 1 } }
      ∷ record { project = 1; states = record { role = Least; weight = 2 } } ∷ [];
  cut = refl;
  text = (refl, (refl, (refl, (refl, (refl, (refl, tt))))));
  is_head = refl;
  is_cover = (codes "000", refl, refl);
  is_columns = refl;
  each_row = refl;
  once = ((refl, (refl, tt)), ((refl, tt), (tt, tt)));
  same_rows = refl;
}
