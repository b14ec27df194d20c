use mir.Syntax.{w128}
use Rattle.std.proofs.Common.{◌≡◌, ◌∙◌, SFits, ap, rules, to_z-of_z}
use Rattle.std.specs.Fmt.{signed_decimal}
use Rattle.pb_certificate.proofs.OnPrices.Canon.Lines.{IsPlain}
use Rattle.std.specs.Prelude.{decimal}
use Rattle.pb_explain.proofs.MarginTable.{row_written}
use Rattle.pb_explain.proofs.margin_table.add_row.Goals as goal

pub returns-clause-text : goal.returns-clause-text
returns-clause-text c =
    let supporters : IsPlain (decimal c.args.margins.now.supporters) =
    rw (c.amount.ensures.text, c.from.ensures) at c.amount.ensures.plain in
    let cost = rw c.amount-2.ensures.text at c.amount-2.ensures.plain in
    let paid = rw c.amount-3.ensures.text at c.amount-3.ensures.plain in
    let left_fits : SFits w128 c.args.margins.now.left = search rules in
    let offer_fits : SFits w128 c.args.margins.now.offer = search rules in
    let left_text : c.balance.result.now ≡ signed_decimal c.args.margins.now.left =
    c.balance.ensures.text ∙ ap signed_decimal (to_z-of_z left_fits) in
    let offer_text : c.balance-2.result.now ≡ signed_decimal c.args.margins.now.offer =
    c.balance-2.ensures.text ∙ ap signed_decimal (to_z-of_z offer_fits) in
    let left = rw left_text at c.balance.ensures.plain in
    let offer = rw offer_text at c.balance-2.ensures.plain in
    let fields = rw (
      c.as_bytes.ensures.value,
      c.as_bytes-2.ensures.value,
      c.flag.ensures,
      c.as_bytes-3.ensures.value,
      c.amount.ensures.text,
      c.from.ensures,
      c.as_bytes-4.ensures.value,
      c.amount-2.ensures.text,
      c.as_bytes-5.ensures.value,
      c.amount-3.ensures.text,
      c.as_bytes-6.ensures.value,
      left_text,
      c.as_bytes-7.ensures.value,
      offer_text,
    ) at c.in_ok-add_record.ensures.text in
    rw (row_written c.args.id.now c.args.margins.now c.requires.id supporters cost paid left offer) at fields
