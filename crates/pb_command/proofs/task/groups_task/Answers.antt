use Rattle.std.proofs.Common.{◌≡◌, ◌∙◌, ◌⊎◌, ap, ap₂, inl, inr, option_map, refl, subst, sym, Some, None}
use Rattle.clap.specs.declared.error.kind.ErrorKind.TheVariants.{InvalidValue}
use Rattle.pb_command.specs.declared.task.UsageFault.{UsageFault}
use Rattle.pb_command.specs.declared.task.UsageFault.TheVariants.{Memory}
use Rattle.pb_command.specs.Tasks.{FitsKind, IsRefusalOf, OutcomePaths, groups, outcome_paths}
use Rattle.pb_command.proofs.task.groups_task.Goals as goal

refuses : (p : OutcomePaths) (f : UsageFault) → (f ≡ Memory) ⊎ FitsKind InvalidValue f
    → IsRefusalOf (Some (groups p None)) f
refuses p f (inl memory) = inl memory
refuses p f (inr fits) = inr (InvalidValue, inl refl, fits)

pub returns-in-None-clause-refused : goal.returns-in-None-clause-refused
returns-in-None-clause-refused c =
    let shared = ap (option_map outcome_paths) (sym c.in-Some.is) ∙ c.in_ok-inputs.ensures in
    let none = sym c.in-None.is ∙ c.measure_of.ensures in
    subst (λ o. IsRefusalOf o c.no_measure.result) (ap₂ (λ s l. option_map (λ p. groups p l) s) shared none)
    (refuses (outcome_paths c.in-Some.inputs) c.no_measure.result c.no_measure.ensures)
