-- Words that clap finds no fault with ask for a task.
use Rattle.std.proofs.Common.{◌≡◌, ◌||◌, refl, Bool, true, false, not, List, [], ◌∷◌, Option, Some, None, is_some, option_map, codes, arith}
use Rattle.std.specs.Prelude.{find, if◌then◌else◌, unwrap_or}
use Rattle.std.specs.Str.{bytes_eq}
use Rattle.std.specs.Option.{option_map_or}
use Rattle.clap.specs.Simple.{Shape, built, entered, help_shape, label_of, rows_at}
use Rattle.clap.specs.Takes.{is_given}
use Rattle.clap.specs.Faults.{check_fault, entered_fault, fault_of, level_fault}
use Rattle.clap.specs.declared.error.kind.ErrorKind.TheVariants as kind
use Rattle.clap.specs.Walk.{Row, Text, answers_to, first_of, nothing_held, rows_after}
use Rattle.pb_command.specs.Commands.{pbaudit}
use Rattle.pb_command.proofs.Written.{commands_written}
use Rattle.pb_command.specs.Tasks.{Asked, Paths, TaskOf, about_certificate, about_groups, about_in, asked_by, asked_in, from_both, is_named, is_on, measure_in, names_conditions, of_certificate, of_groups, of_neither, outcome_paths_in, paths_in}
use Rattle.pb_command.proofs.Clap.Positionals.{IsPlaced}
use Rattle.pb_command.proofs.Clap.Faultless.{IsNotHelp, given_first, last_passes, level_check, one_given, or_else_none, three_given, two_given, walk_stop}

-- each command
abbrev AsksByName : Shape → Type 0
AsksByName s = (n : Text) → answers_to n (label_of s) ≡ true → bytes_eq n (codes "help") ≡ false → (rest : List Text)
    → level_fault s [] nothing_held rest false [] ≡ [] → is_some (asked_by s.name (rows_after s.rules [] rest)) ≡ true

abbrev AllAsk : List Shape → Type 0
AllAsk [] = Unit {0}
AllAsk (s ∷ ss) = AsksByName s × AllAsk ss

sub_asks : (subs : List Shape) (p : Text × List Text) → AllAsk subs → IsNotHelp (Some p)
    → option_map_or (λ s. level_fault s [] nothing_held p.1 false []) (find (λ s. answers_to p.0 (label_of s)) subs) []
    ≡ []
    → is_some (asked_in (option_map (λ s. rows_at s p.1) (find (λ s. answers_to p.0 (label_of s)) subs))) ≡ true
unfolding asked_in
sub_asks [] p all n e = refl
sub_asks (s ∷ ss) p all n e = go (answers_to p.0 (label_of s)) refl (sub_asks ss p all.1 n)
  where
    go : (b : Bool) → answers_to p.0 (label_of s) ≡ b
        → (option_map_or (λ s. level_fault s [] nothing_held p.1 false []) (find (λ s. answers_to p.0 (label_of s)) ss)
        [] ≡ []
        → is_some (asked_in (option_map (λ s. rows_at s p.1) (find (λ s. answers_to p.0 (label_of s)) ss))) ≡ true)
        → is_some (asked_in (option_map (λ s. rows_at s p.1) (find (λ s. answers_to p.0 (label_of s)) (s ∷ ss)))) ≡ true
    go true t rest = rw t (all.0 p.0 t n p.1 (rw t at e))
    go false t rest = rw t (rest (rw t at e))

map_some : {X Y : Type 0} (f : X → Y) (o : Option X) → is_some o ≡ true → is_some (option_map f o) ≡ true
map_some f None e = cc
map_some f (Some x) e = refl

both_some : {A B C : Type 0} (f : A → B → C) (a : Option A) (b : Option B) → is_some a ≡ true → is_some b ≡ true
    → is_some (from_both f a b) ≡ true
both_some f a b ea eb = grind arith

sub_of : Text → Shape
sub_of name = unwrap_or (find (λ s. bytes_eq s.name name) (built pbaudit).subs) help_shape

read_asks : AsksByName (sub_of (codes "read"))
unfolding sub_of commands_written
read_asks n met other rest e =
    let s = sub_of (codes "read") in
    let rows = rows_after s.rules [] rest in
    let given = one_given (is_given (codes "election") rows) (last_passes false false _ (level_check s [] rest e)) in
    map_some _ (first_of (codes "election") rows) (given_first (codes "election") s rest refl given)

groups_asks : AsksByName (sub_of (codes "groups"))
unfolding sub_of commands_written
groups_asks n met other rest e =
    let s = sub_of (codes "groups") in
    let rows = rows_after s.rules [] rest in
    let given = one_given (is_given (codes "election") rows) (last_passes false false _ (level_check s [] rest e)) in
    map_some _ (outcome_paths_in rows)
    (map_some _ (first_of (codes "election") rows) (given_first (codes "election") s rest refl given))

-- the shared paths, where the election and the certificate are given
paths_some : (certificate : Text) (s : Shape) (rest : List Text) → IsPlaced (codes "election") s.rules
    → IsPlaced certificate s.rules
    → is_given (codes "election") (rows_after s.rules [] rest) ≡ true
    → is_given certificate (rows_after s.rules [] rest) ≡ true
    → is_some (paths_in certificate (rows_after s.rules [] rest)) ≡ true
paths_some certificate s rest election placed election_given given = grind (arith, both_some, given_first)

-- a command of the shared paths
pair_asks : (make : List Row → Paths → Asked) (s : Shape) → IsPlaced (codes "election") s.rules
    → IsPlaced (codes "certificate") s.rules
    → ((rows : List Row) → check_fault s rows false ≡ []
    → (not (is_given (codes "election") rows) || (not (is_given (codes "certificate") rows) || false)) ≡ false)
    → ((rows : List Row) → asked_by s.name rows ≡ option_map (make rows) (paths_in (codes "certificate") rows))
    → AsksByName s
pair_asks make s election certificate needs asks n met other rest e =
    grind (arith, two_given, level_check, map_some, paths_some)

both_asks : AsksByName (sub_of (codes "both"))
unfolding sub_of commands_written
both_asks n met other rest e =
    let s = sub_of (codes "both") in
    let rows = rows_after s.rules [] rest in
    let given = three_given (is_given (codes "election") rows) (is_given (codes "prices") rows)
    (is_given (codes "violation") rows)
    (last_passes false false _ (level_check s [] rest e)) in
    both_some _ (paths_in (codes "prices") rows) (first_of (codes "violation") rows)
    (paths_some (codes "prices") s rest refl refl given.0 given.1.0)
    (given_first (codes "violation") s rest refl given.1.1)

-- what is asked about, where the election is given
groups_some : (rows : List Row) → is_some (first_of (codes "election") rows) ≡ true → is_some (about_groups rows) ≡ true
groups_some rows election =
    elim (is_named rows (codes "certificate") || names_conditions rows) as
    (λ b. is_some (if b then Some (of_neither kind.ArgumentConflict)
    else option_map (λ p. of_groups p (measure_in rows)) (outcome_paths_in rows)) ≡ true) [
      | true ↦ refl
      | false ↦ map_some _ (outcome_paths_in rows) (map_some _ (first_of (codes "election") rows) election)
    ]

certificate_some : (rows : List Row) → is_some (first_of (codes "election") rows) ≡ true
    → is_some (about_certificate rows) ≡ true
certificate_some rows election = go (is_named rows (codes "satisfaction")) (is_named rows (codes "certificate")) refl
  where
    go : (a b : Bool) → is_named rows (codes "certificate") ≡ b
        → is_some (if a || not b then Some (of_neither kind.MissingRequiredArgument)
        else option_map of_certificate (paths_in (codes "certificate") rows)) ≡ true
    go true b e = refl
    go false false e = refl
    go false true e =
        map_some of_certificate (paths_in (codes "certificate") rows)
        (both_some _ (first_of (codes "election") rows) (first_of (codes "certificate") rows) election e)

about_some : (rows : List Row) → is_some (first_of (codes "election") rows) ≡ true → is_some (about_in rows) ≡ true
about_some rows election =
    elim (is_on rows (codes "groups")) as
    (λ b. is_some (if b then about_groups rows else about_certificate rows) ≡ true) [
      | true ↦ groups_some rows election
      | false ↦ certificate_some rows election
    ]

explain_asks : AsksByName (sub_of (codes "explain"))
unfolding sub_of commands_written
explain_asks n met other rest e =
    let s = sub_of (codes "explain") in
    let rows = rows_after s.rules [] rest in
    let given = one_given (is_given (codes "election") rows) (last_passes false false _ (level_check s [] rest e)) in
    map_some _ (about_in rows) (about_some rows (given_first (codes "election") s rest refl given))

page_asks : AsksByName (sub_of (codes "page"))
unfolding sub_of commands_written
page_asks n met other rest e =
    let s = sub_of (codes "page") in
    let rows = rows_after s.rules [] rest in
    let given = one_given (is_given (codes "election") rows) (last_passes false false _ (level_check s [] rest e)) in
    map_some _ (about_in rows) (about_some rows (given_first (codes "election") s rest refl given))

margins_asks : AsksByName (sub_of (codes "margins"))
unfolding sub_of commands_written
margins_asks n met other rest e =
    let s = sub_of (codes "margins") in
    let rows = rows_after s.rules [] rest in
    let given = one_given (is_given (codes "election") rows) (last_passes false false _ (level_check s [] rest e)) in
    map_some _ (about_in rows) (about_some rows (given_first (codes "election") s rest refl given))

folder_asks : AsksByName (sub_of (codes "folder"))
unfolding sub_of commands_written
folder_asks n met other rest e =
    let s = sub_of (codes "folder") in
    let rows = rows_after s.rules [] rest in
    let given = one_given (is_given (codes "folder") rows) (last_passes false false _ (level_check s [] rest e)) in
    map_some _ (first_of (codes "folder") rows) (given_first (codes "folder") s rest refl given)

help_asks : AsksByName (sub_of (codes "help"))
unfolding sub_of commands_written
help_asks n met other rest e = grind arith

all_ask : AllAsk (built pbaudit).subs
unfolding sub_of commands_written
all_ask = (
  read_asks,
  (
    groups_asks,
    (
      pair_asks _ (sub_of (codes "prices")) refl refl (λ rows. last_passes false false _) (λ rows. refl),
      (
        pair_asks _ (sub_of (codes "violation")) refl refl (λ rows. last_passes false false _) (λ rows. refl),
        (
          pair_asks _ (sub_of (codes "refutation")) refl refl (λ rows. last_passes false false _) (λ rows. refl),
          (
            both_asks,
            (
              explain_asks,
              (
                page_asks,
                (
                  margins_asks,
                  (
                    pair_asks _ (sub_of (codes "tidy")) refl refl (λ rows. last_passes false false _) (λ rows. refl),
                    (folder_asks, (help_asks, tt)),
                  ),
                ),
              ),
            ),
          ),
        ),
      ),
    ),
  ),
)

stop_asks : (o : Option (Text × List Text)) → IsNotHelp o → entered_fault (built pbaudit) o ≡ []
    → is_some (asked_in (entered (built pbaudit) o)) ≡ true
unfolding asked_in
stop_asks None n e = refl
stop_asks (Some p) n e = sub_asks (built pbaudit).subs p all_ask n e

helps : (built pbaudit).top.disable_help_subcommand ≡ false
unfolding commands_written
helps = refl

-- words without a fault ask for a task
pub faultless_asks : (words : List Text) → fault_of pbaudit words ≡ [] → is_some (TaskOf words) ≡ true
faultless_asks words e = grind (arith, or_else_none, stop_asks, walk_stop, helps)
