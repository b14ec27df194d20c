use Rattle.std.proofs.Common.{◌≡◌, ◌++◌, ◌∙◌, ap, encode_utf8, length, sym}
use Rattle.std.specs.Str.Iter.{chars_rest}
use Rattle.std.proofs.lemmas.Str.{IsUtf8-past_char}
use Rattle.pb_visible.proofs.Letters.{all_written, first_to_write, more_written, none_to_write}
use Rattle.pb_visible.proofs.text.visible_text.Goals as goal

pub loop-after-init : goal.loop-after-init
loop-after-init c =
    let is : c.args.given.now ≡ encode_utf8 c.in-Some.first ++ chars_rest c.into_iter-after-iterator.result =
    sym c.chars-letters.ensures.rest ∙ (c.in-Some.ensures.steps.0 ∙ ap (λ s. encode_utf8 c.in-Some.first ++ chars_rest s) (sym c.into_iter-after-iterator.ensures.into_iter_gives)) in
    record {
      rest = IsUtf8-past_char c.args.given.now (chars_rest c.into_iter-after-iterator.result) c.in-Some.first c.utf8.given is;
      whole = first_to_write c.args.given.now (chars_rest c.into_iter-after-iterator.result) _ c.in-Some.first
          c.utf8.given is c.new-text.ensures.bytes;
    }

pub loop-after-preserved : goal.loop-after-preserved
loop-after-preserved c =
    let held = c.loop-after.invariant in
    let parts = c.in-Some-after.ensures.steps.0 in
    record {
      rest = IsUtf8-past_char _ _ c.in-Some-after.after held.rest parts;
      whole = more_written _ _ _ _ _ c.loop-after.before c.loop-after.letter c.in-Some-after.after
          held.rest parts c.in_ok-push_shown.ensures held.whole;
    }

pub returns : goal.returns
returns c =
    all_written _ _ _ _ c.loop-after.before c.loop-after.letter c.in-None.ensures.steps.0.0
    c.in_ok-push_shown-2.ensures c.loop-after.invariant.whole

pub returns-in_default : goal.returns-in_default
returns-in_default c =
    c.new-text.ensures.bytes ∙ sym (none_to_write c.args.given.now
    (ap length (sym c.chars-letters.ensures.rest) ∙ c.in_default.ensures.steps.0.0))
