-- Texts that are made line by line.
use Rattle.std.proofs.Common.{◌≡◌, List, ◌++◌, append_assoc, arith}
use Rattle.std.proofs.lemmas.List.Concat.{flat_map-append}
use Rattle.std.specs.Prelude.{Option, codes, false}
use Rattle.pb_records.specs.Records.{Text}
use Rattle.pb_reply.specs.Replies.{Reply, text_of}
use Rattle.pb_audit.specs.Reports.{certificate_lines, file_lines, lines_of}

-- lines after lines
pub text_after : (a b : List Text) (old middle new : Text) → middle ≡ old ++ text_of a → new ≡ middle ++ text_of b
    → new ≡ old ++ text_of (a ++ b)
text_after a b old middle new first then = grind (arith, append_assoc, flat_map-append)

-- the lines on the files of an entry, one after the other
pub found_text : (name : Text) (read : Reply) (prices violation : Option Reply) (old first second new : Text)
    → first ≡ old ++ text_of (file_lines (name ++ codes ".pb") read)
    → second ≡ first ++ text_of (certificate_lines (name ++ codes ".prices.csv") prices)
    → new ≡ second ++ text_of (certificate_lines (name ++ codes ".violation.csv") violation)
    → new ≡ old ++ text_of (lines_of false (record { name = name; read = read; prices = prices; violation = violation }))
found_text name read prices violation old first second new one two three = grind (arith, text_after)
