use Rattle.std.proofs.Common.{◌∙◌, refl, sym}
use Rattle.csv.specs.Records.{fields_of}
use Rattle.pb_records.proofs.RecordsLeft.{read_found, read_none, read_took, text-no, text-yes}
use Rattle.pb_records.proofs.records.next_of.Goals as goal

pub returns-in-Ok-true : goal.returns-in-Ok-true
returns-in-Ok-true c =
    let s = c.requires in
    let e = c.in-Ok-true.ensures in
    let r = rw c.in-Ok-true.field-0-test at (e.reads s.trim s.ready) in
    let row = fields_of c.read_record.new.row in
    let found = read_found c.args.reader.now c.read_record.new.self row s r (e.ready s.trim) e.flexible in
    ((found.1, text-yes row (e.text s.trim)), found.0)

pub returns-in-Ok-false : goal.returns-in-Ok-false
returns-in-Ok-false c =
    let s = c.requires in
    let r = rw c.in-Ok-false.field-0-test at (c.in-Ok-false.ensures.reads s.trim s.ready) in
    (read_none c.args.reader.now c.read_record.new.self (fields_of c.read_record.new.row) s r, refl)

pub returns-in-Utf8 : goal.returns-in-Utf8
returns-in-Utf8 c =
    let s = c.requires in
    let kind = sym c.kind.ensures ∙ c.in-Utf8.is in
    let why = rw kind at (c.in-Err.ensures.why s.trim s.ready) in
    let took = read_took c.args.reader.now c.read_record.new.self why.1 s why.2 in
    (why.1, took.0, took.1, text-no why.1 why.3, refl)
