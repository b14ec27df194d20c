use Rattle.pb_markup.proofs.Texts.{ampersands}
use Rattle.pb_markup.proofs.laws.ampersands_are_escapes.Goals as goal

pub returns : goal.returns
returns c = ampersands
