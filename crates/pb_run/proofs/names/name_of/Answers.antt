use Rattle.std.proofs.Common.{◌≡◌, ◌++◌, rules, true, false}
use Rattle.pb_audit.specs.Names.{is_clean}
use Rattle.pb_run.proofs.Stems.{is_stem, not_clean}
use Rattle.pb_run.proofs.names.name_of.Goals as goal

pub returns-in-true : goal.returns-in-true
returns-in-true c =
    let stem = c.in_ok-name.name.now in
    let named : c.args.entry.now.name ≡ stem ++ c.args.ending.now = search rules in
    let clean : is_clean stem ≡ true = search rules in
    let file : c.args.entry.now.is_file ≡ true = search rules in
    λ name. is_stem c.args.ending.now name stem c.args.entry.now file named clean

pub returns-in-false : goal.returns-in-false
returns-in-false c =
    let stem = c.in_ok-name.name.now in
    let named : c.args.entry.now.name ≡ stem ++ c.args.ending.now = search rules in
    let unclean : is_clean stem ≡ false = search rules in
    λ name. not_clean c.args.ending.now name stem c.args.entry.now named unclean
