use Rattle.std.proofs.Common.{◌≡◌, ◌∙◌, ap, arith, length, sym, false, ℕ, List}
use Rattle.std.proofs.lemmas.Bool.{eq-eqb}
use Rattle.csv.specs.Records.{fields_of}
use Rattle.pb_money.specs.Digits.{is_empty}
use Rattle.pb_records.specs.Cells.{cell}
use Rattle.pb_certificate.specs.Fields.{fields}
use Rattle.pb_certificate.proofs.Widths.{is-empty, keeps-last, whole}
use Rattle.pb_certificate.proofs.prices.row.has_three_fields.Goals as goal

pub returns-then-not-is_empty : goal.returns-then-not-is_empty
returns-then-not-is_empty c =
    let r = fields_of c.args.row.now in
    let three : length r ≡ 3 = sym c.len.ensures ∙ c.if-len-eq3.true in
    let some : is_empty (cell 2 r) ≡ false =
    ap (λ (f : List ℕ). is_empty f) (sym c.requires)
    ∙ (sym (is-empty c.args.third.now) ∙ (sym c.is_empty.ensures ∙ c.if-not-is_empty.true)) in
    let kept = ap (λ (fs : List (List ℕ)). length (fields fs)) (sym (whole r 3 three))
    ∙ keeps-last r 2 (omega (arith, three)) some in
    sym (eq-eqb (length (fields r)) 3 kept)
