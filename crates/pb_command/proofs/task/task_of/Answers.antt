use Rattle.std.proofs.Common.{[], ◌∷◌, Some, Option, sym, false, is_some, option_map, ◌≡◌, ◌∙◌, ap, ap₂, subst, true, refl, map, string_bytes, ◌⊎◌, arith}
use Rattle.clap.specs.Words.{HasKind, IsAmong, Kinds, fault_of, is_simple, is_simple_and_free, kind_of, subcommand_of, takes}
use Rattle.clap.specs.declared.error.kind.ErrorKind.{ErrorKind}
use Rattle.clap.specs.declared.error.kind.ErrorKind.TheVariants.{OutOfMemory}
use Rattle.pb_command.specs.declared.task.UsageFault.{UsageFault}
use Rattle.pb_command.specs.declared.task.UsageFault.TheVariants.{Memory}
use Rattle.pb_command.specs.Commands.{pbaudit}
use Rattle.pb_command.proofs.Written.{commands_written}
use Rattle.clap.specs.Kinds.{or_else}
use Rattle.pb_command.specs.Tasks.{Asked, FitsKind, IsFaultOf, IsRefusalOf, TaskOf, asked, asked_in, value_fault}
use Rattle.pb_command.specs.declared.task.Task.{Task}
use Rattle.pb_command.proofs.Abouts.{handed_on}
use Rattle.pb_command.proofs.Asks.{faultless_asks}
use Rattle.pb_command.proofs.task.task_of.Goals as goal

simple : is_simple pbaudit ≡ true
unfolding commands_written
simple = refl

simple_and_free : is_simple_and_free pbaudit ≡ true
unfolding commands_written
simple_and_free = refl

pub returns-in-Some-clause-task : goal.returns-in-Some-clause-task
returns-in-Some-clause-task c =
    let is = c.in_ok-command.ensures in
    let words_are : map string_bytes c.as_slice.result.now ≡ map string_bytes c.args.words.items =
    ap (map string_bytes) c.as_slice.ensures.value in
    ap (option_map asked) (sym c.in-Some.is) ∙ c.in_ok-task-in-Ok.ensures.task
    ∙ ap asked_in ((c.in-Ok.ensures.matches (ap is_simple is.0 ∙ simple)).1 ∙ ap₂ subcommand_of is.0 words_are)

-- a refusal where there is no fault in the language
no_fault : (met : Option Asked) (f : UsageFault) → IsRefusalOf met f → value_fault met ≡ [] → f ≡ Memory
no_fault met f h none = go (value_fault met) none h
  where
    go : (kinds : Kinds) → kinds ≡ [] → IsFaultOf kinds f → f ≡ Memory
    go kinds e h = grind arith

-- of two faults, the second comes where the first doesn't
second : (a b : Kinds) (f : UsageFault) → a ≡ [] → IsFaultOf b f → IsFaultOf (or_else a b) f
second a b f none h = subst (λ kinds. IsFaultOf (or_else kinds b) f) (sym none) h

first : (a b : Kinds) (f : UsageFault) → IsFaultOf a f → IsFaultOf (or_else a b) f
first [] b f h = grind arith
first (k ∷ ks) b f h = h

-- a task has its language
faultless : (t : Task) → value_fault (Some (asked t)) ≡ []
faultless t = grind arith

pub returns-in_err-task-in-Ok-clause-taken : goal.returns-in_err-task-in-Ok-clause-taken
returns-in_err-task-in-Ok-clause-taken c =
    let is = c.in_ok-command.ensures in
    let words_are : map string_bytes c.as_slice.result.now ≡ map string_bytes c.args.words.items =
    ap (map string_bytes) c.as_slice.ensures.value in
    let met = ap asked_in ((c.in-Ok.ensures.matches (ap is_simple is.0 ∙ simple)).1 ∙ ap₂ subcommand_of is.0 words_are) in
    λ t none.
    let memory : c.in_err-task-in-Ok.field-0.0 ≡ Memory =
    no_fault _ _ c.in_err-task-in-Ok.ensures.refused (ap value_fault met ∙ none) in grind arith

pub returns-in_err-task-in-Ok-clause-refused : goal.returns-in_err-task-in-Ok-clause-refused
returns-in_err-task-in-Ok-clause-refused c =
    let is = c.in_ok-command.ensures in
    let words_are : map string_bytes c.as_slice.result.now ≡ map string_bytes c.args.words.items =
    ap (map string_bytes) c.as_slice.ensures.value in
    let met = ap asked_in ((c.in-Ok.ensures.matches (ap is_simple is.0 ∙ simple)).1 ∙ ap₂ subcommand_of is.0 words_are) in
    let taken : fault_of pbaudit (map string_bytes c.args.words.items) ≡ [] =
    subst (λ kinds. kinds ≡ []) (ap₂ fault_of is.0 words_are)
    (c.in-Ok.ensures.kinds (ap is_simple_and_free is.0 ∙ simple_and_free)) in
    let refused = second (fault_of pbaudit (map string_bytes c.args.words.items)) _ c.in_err-task-in-Ok.field-0.0 taken
    (subst (λ o. IsRefusalOf o c.in_err-task-in-Ok.field-0.0) met c.in_err-task-in-Ok.ensures.refused) in
    handed_on _ _ _ c.from_residual-in_err-task-in-Ok.ensures refused

pub returns-clause-taken : goal.returns-clause-taken
returns-clause-taken c =
    let is = c.in_ok-command.ensures in
    let words_are : map string_bytes c.as_slice.result.now ≡ map string_bytes c.args.words.items =
    ap (map string_bytes) c.as_slice.ensures.value in
    λ t none. c.fault_in.ensures.memory (c.in-Err.ensures.passes (ap₂ takes is.0 words_are ∙ t))

-- the fault of clap's error
fault_is : (kinds : Kinds) (k : ErrorKind) (f : UsageFault) → (k ≡ OutOfMemory) ⊎ IsAmong k kinds
    → (k ≡ OutOfMemory → f ≡ Memory)
    → (f ≡ Memory) ⊎ FitsKind k f → IsFaultOf kinds f
fault_is kinds k f h memory fits = grind arith

pub returns-clause-refused : goal.returns-clause-refused
returns-clause-refused c =
    let is = c.in_ok-command.ensures in
    let words_are : map string_bytes c.as_slice.result.now ≡ map string_bytes c.args.words.items =
    ap (map string_bytes) c.as_slice.ensures.value in
    first (fault_of pbaudit (map string_bytes c.args.words.items)) _ c.fault_in.result
    (fault_is (fault_of pbaudit (map string_bytes c.args.words.items)) (kind_of c.in-Err.error) c.fault_in.result
    (subst (λ kinds. HasKind kinds c.in-Err.error) (ap₂ fault_of is.0 words_are)
    (c.in-Err.ensures.kinds (ap is_simple_and_free is.0 ∙ simple_and_free)))
    c.fault_in.ensures.memory c.fault_in.ensures.kind)

pub returns-in-Some-clause-accepted : goal.returns-in-Some-clause-accepted
returns-in-Some-clause-accepted c =
    let is = c.in_ok-command.ensures in
    let words_are : map string_bytes c.as_slice.result.now ≡ map string_bytes c.args.words.items =
    ap (map string_bytes) c.as_slice.ensures.value in
    let met = ap asked_in ((c.in-Ok.ensures.matches (ap is_simple is.0 ∙ simple)).1 ∙ ap₂ subcommand_of is.0 words_are) in
    let task = ap (option_map asked) (sym c.in-Some.is) ∙ c.in_ok-task-in-Ok.ensures.task ∙ met in
    let taken : fault_of pbaudit (map string_bytes c.args.words.items) ≡ [] =
    subst (λ kinds. kinds ≡ []) (ap₂ fault_of is.0 words_are)
    (c.in-Ok.ensures.kinds (ap is_simple_and_free is.0 ∙ simple_and_free)) in
    ap₂ or_else taken (ap value_fault (sym task) ∙ faultless _)

pub unreachable-requires : goal.unreachable-requires
unreachable-requires c =
    let is = c.in_ok-command.ensures in
    let words_are : map string_bytes c.as_slice.result.now ≡ map string_bytes c.args.words.items =
    ap (map string_bytes) c.as_slice.ensures.value in
    let words = map string_bytes c.args.words.items in
    let none : fault_of pbaudit words ≡ [] =
    subst (λ kinds. kinds ≡ []) (ap₂ fault_of is.0 words_are)
    (c.in-Ok.ensures.kinds (ap is_simple_and_free is.0 ∙ simple_and_free)) in
    let same : option_map asked c.in_ok-task-in-Ok.field-0 ≡ TaskOf words =
    c.in_ok-task-in-Ok.ensures.task
    ∙ ap asked_in ((c.in-Ok.ensures.matches (ap is_simple is.0 ∙ simple)).1 ∙ ap₂ subcommand_of is.0 words_are) in
    let no_task : false ≡ is_some (TaskOf words) = ap (λ o. is_some (option_map asked o)) (sym c.in-None.is)
    ∙ ap is_some same in
    let bad : false ≡ true = no_task ∙ faultless_asks words none in cc
