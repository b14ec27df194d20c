use Rattle.std.proofs.Common.{◌∙◌, [], ◌∷◌, refl, sym}
use Rattle.std.proofs.lemmas.Str.{IsUtf8-from_ascii}
use Rattle.pb_records.proofs.PlainLines.{digits-ascii, digits-plain, first-field, last-field, next-field, no-fields, text-push, third-full, whole-digits}
use Rattle.pb_records.proofs.lines.first_triple.Goals as goal

pub returns : goal.returns
returns c =
    let line = c.behind_feed.result.now in
    let one = c.in_ok-first.ensures in
    let three = c.in_ok-third.ensures in
    let a = one.digits in
    let b = c.cut_field.result.0.now in
    let d = three.digits in
    let a-digits = whole-digits a c.in_ok-first.first one.states in
    let d-digits = whole-digits d c.in_ok-third.third three.states in
    let first = first-field line a c.in_ok-first.rest.now c.in_ok-behind.field-0.now one.cut
    c.in_ok-behind.ensures.cut (digits-plain a a-digits) in
    let second = next-field line (a ∷ []) c.in_ok-behind.field-0.now b c.cut_field.result.1.now
    c.in_ok-behind-2.field-0.now first c.cut_field.ensures.cut c.in_ok-behind-2.ensures.cut
    c.cut_field.ensures.plain in
    let end = c.ends_line.ensures c.if-not-ends_line.false in
    record {
      row = a ∷ b ∷ d ∷ [];
      fields =
          record {
            first = a;
            third = d;
            fields = refl;
            first_states = one.states;
            third_states = three.states;
            small = three.small;
          };
      line =
          record {
            records =
                sym c.behind_feed.ensures
                ∙ last-field line (a ∷ b ∷ []) c.in_ok-behind-2.field-0.now d c.in_ok-third.rest.now second three.cut
                (digits-plain d d-digits) end;
            is_utf8 =
                text-push (a ∷ b ∷ []) d
                (text-push (a ∷ []) b (text-push [] a no-fields (IsUtf8-from_ascii a (digits-ascii a a-digits)))
                c.cut_field.ensures.utf8.0)
                (IsUtf8-from_ascii d (digits-ascii d d-digits));
            at_end = end;
          };
      is_full = third-full a b d c.in_ok-third.third three.states;
    }
