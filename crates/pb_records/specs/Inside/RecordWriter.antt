-- What the writer's own buffer of records stands for, between two records. The contracts of `record_writer` cite it.
-- What a text is that is written so, as the canonical text of prices, is said without this module.
use Rattle.std.specs.Prelude.{◌≡◌, ◌++◌, ℕ, List, false, true}
use Rattle.std.specs.Global.{Vec}
use Rattle.csv.specs.Writing.{default_writer, fields_written, has_written, with_flexible, writer_pending, writer_setup, writer_under}
use Rattle.csv.specs.declared.writer.Writer.{Writer}

-- what was written so far
abbrev pub held : Writer (Vec ℕ) → List ℕ
held w = (writer_under w).items ++ writer_pending w

-- a writer of records of any lengths that stands between two records
pub record IsOpen (w : Writer (Vec ℕ)) : Type 0 where
  pub setup : writer_setup w ≡ with_flexible default_writer true
  pub between : fields_written w ≡ 0
  pub fresh : has_written w ≡ false
