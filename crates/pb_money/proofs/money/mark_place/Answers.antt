use Rattle.std.proofs.Common.{◌∙◌, ap, rules, tests, length}
use Rattle.std.proofs.lemmas.Iterator.{YieldsList-from_slice}
use Rattle.std.proofs.lemmas.Iterator.Search.{position_from_yields_List}
use Rattle.std.specs.Prelude.{unwrap_or}
use Rattle.pb_money.specs.Money.{is_mark}
use Rattle.pb_money.proofs.Marks.{place}
use Rattle.pb_money.proofs.money.mark_place.Goals as goal

pub returns : goal.returns
returns c =
    let found = position_from_yields_List is_mark _ _ c.position.result c.position.ensures.ran
    (YieldsList-from_slice c.args.text.now cc) (λ x b q k. search (rules, tests)) in
    c.unwrap_or.ensures ∙ ap (λ r. unwrap_or r (length c.args.text.now)) found ∙ place is_mark c.args.text.now
