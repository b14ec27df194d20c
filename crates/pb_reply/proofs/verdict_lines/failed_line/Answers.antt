use Rattle.std.proofs.Common.{◌≡◌, ◌∙◌, ◌++◌, ℕ, ap, append_assoc, append-nil, refl, sym}
use Rattle.std.specs.Prelude.{Option, codes, decimal}
use Rattle.std.proofs.lemmas.Result.{IfOk-weaker}
use Rattle.pb_election.specs.Instance.{Instance}
use Rattle.pb_records.specs.Records.{Text}
use Rattle.pb_cohesion.specs.Failed.{Failed}
use Rattle.pb_reply.specs.Lines.{failed_line, project_words, voter_words}
use Rattle.pb_reply.proofs.verdict_lines.failed_line.Goals as goal

-- the line of what fails, by its name and its culprit
failed-as : {k : ℕ} {v p : Option ℕ} (e : Instance) (f : Failed) (name culprit : Text) (voter project : Option ℕ)
    → record { number = k; name = name; voter = v; project = p } ≡ f → v ≡ voter → p ≡ project
    → culprit ≡ voter_words voter ++ project_words e project → codes "failed " ++ (name ++ culprit) ≡ failed_line e f
failed-as e f name culprit voter project is at_voter at_project said =
    rw (sym is, at_voter, at_project, said) (ap (λ t. codes "failed " ++ t) (sym (append_assoc name _ _)))

pub returns-in-None-None : goal.returns-in-None-None
returns-in-None-None c =
    IfOk-weaker c.format.result _ _
    (λ line e.
    e ∙ ap (λ t. codes "failed " ++ t) (sym (append-nil c.failed.inside.name.now))
    ∙ failed-as c.args.election.now _ _ _ _ _ c.failed.view_is c.in-None-None.is-0 c.in-None-None.is-1 refl)
    c.format.ensures.ok

pub returns-in-None-Some : goal.returns-in-None-Some
returns-in-None-Some c =
    IfOk-weaker c.format-in-None-Some.result _ _
    (λ line e.
    e
    ∙ failed-as c.args.election.now _ _ _ _ _ c.failed.view_is c.in-None-Some.is-0 c.in-None-Some.is-1
    (ap (λ id. codes " project " ++ id) c.id.ensures))
    c.format-in-None-Some.ensures.ok

pub returns-in-Some-None : goal.returns-in-Some-None
returns-in-Some-None c =
    IfOk-weaker c.format-in-Some-None.result _ _
    (λ line e.
    e
    ∙ failed-as c.args.election.now _ _ _ _ _ c.failed.view_is c.in-Some-None.is-0 c.in-Some-None.is-1
    (sym (append-nil (codes " voter " ++ decimal c.in-Some-None.i))))
    c.format-in-Some-None.ensures.ok

pub returns-in-Some-Some : goal.returns-in-Some-Some
returns-in-Some-Some c =
    IfOk-weaker c.format-in-Some-Some.result _ _
    (λ line e.
    e
    ∙ failed-as c.args.election.now _ _ _ _ _ c.failed.view_is c.in-Some-Some.is-0 c.in-Some-Some.is-1
    (ap (λ id. codes " voter " ++ (decimal c.in-Some-Some.i ++ (codes " project " ++ id))) c.id-in-Some-Some.ensures))
    c.format-in-Some-Some.ensures.ok
