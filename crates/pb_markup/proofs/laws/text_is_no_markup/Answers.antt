use Rattle.pb_markup.proofs.Texts.{same-markup}
use Rattle.pb_markup.proofs.laws.text_is_no_markup.Goals as goal

pub returns : goal.returns
returns c = same-markup
