-- The answers with the tables of margins.
use Rattle.std.proofs.Common.{◌≡◌, ◌∙◌, List, [], ◌∷◌, ◌++◌, map, refl, ap, Bool}
use Rattle.pb_election.specs.Instance.{Instance}
use Rattle.pb_records.specs.Records.{Rec, Text}
use Rattle.pb_certificate.specs.Prices.Canon.{line, lines, line_end}
use Rattle.pb_certificate.specs.Prices.{Prices}
use Rattle.pb_certificate.specs.declared.violations.measure.Measure.{Measure}
use Rattle.pb_cohesion.specs.declared.GroupFigures.{GroupFigures}
use Rattle.pb_explain.specs.GroupMargins.{group_margin_table}
use Rattle.pb_explain.specs.MarginTable.{record_line, table_of}
use Rattle.pb_reply.specs.Replies.{TableText, as_table, text_of}
use Rattle.pb_audit.specs.Groups.{group_margins_reply}
use Rattle.pb_audit.specs.Margins.{margin_rules, margins_reply}
use Rattle.pb_audit.specs.Inside.Certificates.{Promised}
use Rattle.pb_audit.specs.Objects.{group_margins_text}
use Rattle.pb_reply.specs.declared.status.Status.TheVariants.{Yes}

line_is : (r : Rec) → line r ≡ record_line r ++ (line_end ∷ [])
unfolding line
line_is r = refl

lines_are : (rs : List Rec) → lines rs ≡ text_of (map record_line rs)
lines_are [] = refl
lines_are (r ∷ rs) = rw (line_is r, lines_are rs) refl

abbrev table_with : Text → Text → TableText
table_with text json = record { text = text; json = json; status = Yes }

pub margins_told : (e : Instance) (w : List Bool) (p : Prices) (text json : Text) → text ≡ lines (table_of e w p)
    → json ≡ (margins_reply e w p).json → table_with text json ≡ as_table (margins_reply e w p)
margins_told e w p text json is object =
    ap (λ (t : Text). table_with t json) (is ∙ lines_are (table_of e w p))
    ∙ ap (table_with (text_of (map record_line (table_of e w p)))) object

pub group_margins_told : (m : Measure) (e : Instance) (w : List Bool) (xs : List GroupFigures) (text json : Text)
    → text ≡ lines (group_margin_table m e xs) → json ≡ group_margins_text m e w xs
    → table_with text json ≡ as_table (group_margins_reply m e w xs)
group_margins_told m e w xs text json is object =
    ap (λ (t : Text). table_with t json) (is ∙ lines_are (group_margin_table m e xs))
    ∙ ap (table_with (text_of (map record_line (group_margin_table m e xs)))) object

pub always_yes : Promised margin_rules
always_yes e w d p given = refl
