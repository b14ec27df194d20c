use Rattle.std.proofs.Common.{◌≡◌, ap, chars, rules, string_bytes}
use Rattle.std.proofs.lemmas.Str.{IsUtf8-string_bytes}
use Rattle.pb_visible.proofs.Seen.{none_lost_in, unchanged_in}
use Rattle.pb_visible.proofs.text.visible.Goals as goal

pub returns : goal.returns
returns c =
    let given = c.in_ok-given.given in
    let is : chars c.deref.result.now ≡ chars (string_bytes given) = ap chars c.deref.ensures in
    record {
      text = search rules;
      nothing_hidden =
          none_lost_in c.visible_text.result (string_bytes given) (chars c.deref.result.now) is (IsUtf8-string_bytes given)
          c.visible_text.ensures;
      same =
          unchanged_in c.visible_text.result c.args.bytes.now (string_bytes given) (chars c.deref.result.now) is
          c.in_ok-given.ensures.ok c.visible_text.ensures;
    }
