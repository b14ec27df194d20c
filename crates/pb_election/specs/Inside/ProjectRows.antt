-- For the reader's own parts: what one more project adds to those that were read. What a file states is said in Text
-- and Faults, without this module.
use Rattle.std.specs.Prelude.{◌≡◌, ◌+◌, ◌++◌, ◌&&◌, if◌then◌else◌, is_some, ℕ, [], ◌∷◌}
use Rattle.std.specs.Option.{option_map}
use Rattle.pb_records.specs.Records.{Field}
use Rattle.pb_election.specs.Rows.{is_neither, says_funded}
use Rattle.pb_election.specs.declared.election_draft.ProjectRows.{ProjectRows}

pub record AddsProject (old new : ProjectRows) (id : Field) (cost : ℕ) (mark : Field) : Type 0 where
  pub columns : new.columns ≡ old.columns
  pub ids : new.ids ≡ old.ids ++ id ∷ []
  pub costs : new.costs.items ≡ old.costs.items ++ cost ∷ []
  pub selected : option_map (λ v. v.items) new.selected
      ≡ option_map (λ v. v.items ++ says_funded mark ∷ []) old.selected
  pub others : new.other_selected ≡ old.other_selected
      + (if is_some old.columns.selected && is_neither mark then 1 else 0)
