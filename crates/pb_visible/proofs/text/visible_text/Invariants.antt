use Rattle.std.proofs.Common.{◌≡◌, ◌∷◌, ◌++◌, IsUtf8, chars, encode_utf8_all, string_bytes}
use Rattle.std.specs.Str.Iter.{chars_rest}
use Rattle.pb_visible.specs.Visible.{visible_behind, visible_chars}
use Rattle.pb_visible.proofs.text.visible_text.Given as goal

abbrev pub invariant-loop-after : goal.invariant-loop-after
invariant-loop-after l = record {
  rest : IsUtf8 (chars_rest l.after-iterator);
  whole : string_bytes l.text ++ encode_utf8_all (visible_behind l.before (l.letter ∷ chars (chars_rest l.after-iterator)))
      ≡ encode_utf8_all (visible_chars (chars l.fn.given));
}
