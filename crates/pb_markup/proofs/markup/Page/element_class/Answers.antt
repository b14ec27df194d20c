use Rattle.pb_markup.proofs.Adding.{adds-then}
use Rattle.pb_markup.proofs.markup.Page.element_class.Goals as goal

pub returns : goal.returns
returns c = adds-then _ _ _ _ _ (adds-then _ _ _ _ _ c.open_class.ensures c.text.ensures) c.close.ensures
