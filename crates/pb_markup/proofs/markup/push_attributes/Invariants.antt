use Rattle.std.proofs.Common.{◌≡◌, ◌++◌, take, flat_map}
use Rattle.pb_markup.specs.Pieces as spec
use Rattle.pb_markup.proofs.markup.push_attributes.Given as goal

abbrev pub invariant-loop-attribute : goal.invariant-loop-attribute
invariant-loop-attribute l =
    l.text.items ≡ l.initial.text.items ++ flat_map spec.attribute (take l.attribute-index l.attributes)
