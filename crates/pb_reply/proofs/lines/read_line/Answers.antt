use Rattle.std.proofs.Common.{◌≡◌, ◌∙◌, ◌++◌, ℕ, append_assoc, sym}
use Rattle.std.specs.Prelude.{Option, codes, decimal}
use Rattle.std.proofs.lemmas.Result.{IfOk-weaker}
use Rattle.pb_election.specs.Instance.{Instance, projects, voters}
use Rattle.pb_reply.specs.Lines.{number_of_funded, outcome_words, read_line}
use Rattle.pb_reply.proofs.lines.read_line.Goals as goal

said : (e : Instance) (v p : ℕ) (funded : Option ℕ) → v ≡ voters e → p ≡ projects e → funded ≡ number_of_funded e
    → codes "read " ++ (decimal v ++ (codes " voters " ++ (decimal p ++ (codes " projects " ++ outcome_words funded))))
    ≡ read_line e
said e v p funded vs ps is = rw (vs, ps, is) (simp (append_assoc))

pub returns-in-Some : goal.returns-in-Some
returns-in-Some c =
    IfOk-weaker c.format.result _ _
    (λ line e.
    e
    ∙ said c.args.election.now _ _ _ c.voters-voters.ensures.value c.projects-projects.ensures.value
    (sym c.in-Some.is ∙ c.requires))
    c.format.ensures.ok

pub returns-in-None : goal.returns-in-None
returns-in-None c =
    IfOk-weaker c.format-in-None.result _ _
    (λ line e.
    e
    ∙ said c.args.election.now _ _ _ c.voters-voters.ensures.value c.projects-projects.ensures.value
    (sym c.in-None.is ∙ c.requires))
    c.format-in-None.ensures.ok
