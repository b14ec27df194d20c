use Rattle.pb_markup.proofs.Adding.{adds-then}
use Rattle.pb_page.proofs.parts.push_headline.Goals as goal

pub returns : goal.returns
returns c = adds-then _ _ _ _ _ (adds-then _ _ _ _ _ c.«open».ensures c.headline.ensures) c.close.ensures
