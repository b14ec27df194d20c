use Rattle.std.proofs.Common.{◌∙◌, ap, sym}
use Rattle.std.specs.BTreeSet.{contains_text}
use Rattle.std.specs.Prelude.{◌||◌}
use Rattle.std.specs.Str.{bytes_eq}
use Rattle.pb_run.proofs.Stems.{one_more}
use Rattle.pb_run.proofs.names.add_name.Goals as goal

pub returns-in_ok-insert : goal.returns-in_ok-insert
returns-in_ok-insert c = λ name.
    one_more c.args.names.now c.insert.new.self c.in_ok-from_str.field-0 name c.in_ok-insert.ensures.updates
    ∙ ap (λ b. bytes_eq b name || contains_text c.args.names.now name) c.in_ok-from_str.ensures.ok
    ∙ ap (λ b. b || contains_text c.args.names.now name) (sym (c.in-Some.ensures name))
