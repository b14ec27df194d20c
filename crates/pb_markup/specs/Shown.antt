-- What the pieces of a page show of what is told.
use Rattle.std.specs.Prelude.{string_bytes}
use Rattle.pb_words.specs.Headlines.{headline_words}
use Rattle.pb_figures.specs.Amounts.{amount_text}
use Rattle.pb_figures.specs.Told.{amount_of, grains_per_unit, headline_of}
use Rattle.pb_figures.specs.declared.told.Told.{Told}
use Rattle.pb_markup.specs.Pieces.{Shows}

abbrev pub shows_of : Told → Shows
shows_of t = record {
  amount = λ f. amount_text t.style (grains_per_unit t.found) (amount_of t.found f);
  headline = headline_words t.style.language (headline_of t.mode t.found);
  line = string_bytes t.line;
}
