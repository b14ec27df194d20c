use Rattle.std.proofs.Common.{◌≡◌, [], ◌∷◌, ◌++◌, List, Bool, ℕ, Option, ap, refl, rules, subst}
use Rattle.std.specs.Prelude.{Err, Ok, option_map, option_to_list}
use Rattle.pb_records.specs.Loading.{Delivery}
use Rattle.pb_election.specs.Instance.{Instance}
use Rattle.pb_reply.specs.Inside.Loaded.{lent}
use Rattle.pb_reply.specs.Turns.{file_turn, turn}
use Rattle.pb_reply.specs.Inside.Taking.{AuditsOutcome, IfTaken}
use Rattle.pb_reply.specs.declared.unanswered.Unanswered.TheVariants.{Memory}
use Rattle.pb_figures.specs.declared.amounts.Style.{Style}
use Rattle.pb_page.specs.declared.telling.PageTold.{PageTold}
use Rattle.pb_page.specs.Sums.{sums_of}
use Rattle.pb_page.specs.Taken.{RendersTold, TellsCertificate, sum_of}
use Rattle.pb_page.proofs.InTurn.{answered, err-is, ended-at-certificate, ended-at-election, ended-at-outcome}
use Rattle.pb_page.proofs.entry.page_in_turn.Goals as goal

pub returns-in_err-taken : goal.returns-in_err-taken
returns-in_err-taken g c =
    let is : c.from_residual.result ≡ Err c.in_err-taken.field-0.0 = search rules in
    rw is (
    ended-at-election c.args.mode c.args.language
    (turn g.E.Given.delivers c.args.election.now c.take_election.new.input)
    (file_turn g.O.Given.delivers c.args.outcome.now c.args.outcome.now)
    (turn g.C.Given.delivers c.args.certificate.now c.args.certificate.now) c.in_err-taken.field-0.0
    c.in_err-taken.ensures.unanswered refl refl
    )

pub returns-in_err-decided : goal.returns-in_err-decided
returns-in_err-decided g c =
    let is : c.from_residual-in_err-decided.result ≡ Err c.in_err-decided.field-0.0 =
    err-is _ _ c.in_err-decided.field-0.0 (λ why is_it. is_it) c.from_residual-in_err-decided.ensures in
    let given = c.in_ok-taken.ensures.given in
    let taken =
    subst (λ (o : Option Delivery). IfTaken {A = List Bool} (Err c.in_err-decided.field-0.0) (AuditsOutcome c.in_ok-taken.taken.election o))
    c.file_given.ensures c.in_err-decided.ensures.taken in
    rw is (
    ended-at-outcome c.args.mode c.args.language
    (turn g.E.Given.delivers c.args.election.now c.take_election.new.input)
    (file_turn g.O.Given.delivers c.args.outcome.now c.take_file.new.input)
    (turn g.C.Given.delivers c.args.certificate.now c.args.certificate.now) given.delivery
    (option_map g.O.Taken.AsFile.delivery c.in_ok-given.given) c.in_ok-taken.taken.election c.in_err-decided.field-0.0 given.delivered
    given.states c.in_ok-given.ensures taken refl
    )

pub returns-in_err-told : goal.returns-in_err-told
returns-in_err-told g c =
    let is : c.from_residual-in_err-told.result ≡ Err c.in_err-told.field-0.0 =
    err-is _ _ c.in_err-told.field-0.0 (λ why is_it. is_it) c.from_residual-in_err-told.ensures in
    let given = c.in_ok-taken.ensures.given in
    let taken =
    subst (λ (o : Option Delivery). AuditsOutcome c.in_ok-taken.taken.election o (Ok c.in_ok-decided.decided.outcome.marks))
    c.file_given.ensures c.in_ok-decided.ensures.taken in
    let at_file =
    subst
    (λ (f : Delivery). IfTaken {A = PageTold} (Err c.in_err-told.field-0.0)
    (TellsCertificate c.args.mode c.in_ok-decided.decided.election c.in_ok-decided.decided.outcome.marks f))
    c.as_file.ensures c.in_err-told.ensures.told in
    let states =
    subst
    (λ (e : Instance). IfTaken {A = PageTold} (Err c.in_err-told.field-0.0)
    (TellsCertificate c.args.mode e c.in_ok-decided.decided.outcome.marks (g.C.Taken.AsFile.delivery c.in_ok-certificate.certificate)))
    c.in_ok-decided.ensures.election at_file in
    rw is (
    ended-at-certificate c.args.mode c.args.language
    (turn g.E.Given.delivers c.args.election.now c.take_election.new.input)
    (file_turn g.O.Given.delivers c.args.outcome.now c.take_file.new.input)
    (turn g.C.Given.delivers c.args.certificate.now c.take.new.self) given.delivery
    (option_map g.O.Taken.AsFile.delivery c.in_ok-given.given) (g.C.Taken.AsFile.delivery c.in_ok-certificate.certificate)
    c.in_ok-taken.taken.election c.in_ok-decided.decided.outcome.marks c.in_err-told.field-0.0 given.delivered given.states
    c.in_ok-given.ensures taken c.in_ok-certificate.ensures states
    )

pub returns-in_err-certificate : goal.returns-in_err-certificate
returns-in_err-certificate g c =
    rw (err-is _ _ Memory (λ why is_it. is_it) c.from_residual-in_err-certificate.ensures) tt

pub returns-in_err-page : goal.returns-in_err-page
returns-in_err-page g c = rw (err-is _ _ Memory (λ why is_it. is_it) c.from_residual-in_err-page.ensures) tt

pub returns : goal.returns
returns g c =
    let given = c.in_ok-taken.ensures.given in
    let told = c.in_ok-told.told in
    let taken =
    subst (λ (o : Option Delivery). AuditsOutcome c.in_ok-taken.taken.election o (Ok c.in_ok-decided.decided.outcome.marks))
    c.file_given.ensures c.in_ok-decided.ensures.taken in
    let of_file =
    subst
    (λ (f : Delivery). TellsCertificate c.args.mode c.in_ok-decided.decided.election c.in_ok-decided.decided.outcome.marks f (Ok told))
    c.as_file.ensures c.in_ok-told.ensures.told in
    let tells =
    subst
    (λ (e : Instance). TellsCertificate c.args.mode e c.in_ok-decided.decided.outcome.marks (g.C.Taken.AsFile.delivery c.in_ok-certificate.certificate) (Ok told))
    c.in_ok-decided.ensures.election of_file in
    let at_file =
    subst
    (λ (f : Delivery). RendersTold told (sum_of c.in_ok-taken.taken.shown.file ∷ sums_of (option_to_list (option_map lent c.file_given-2.result) ++ f ∷ [])) c.in_ok-page.page)
    c.as_file-2.ensures c.in_ok-page.ensures in
    let at_outcome =
    subst
    (λ (o : Option Delivery). RendersTold told (sum_of c.in_ok-taken.taken.shown.file ∷ sums_of (option_to_list o ++ g.C.Taken.AsFile.delivery c.in_ok-certificate.certificate ∷ [])) c.in_ok-page.page)
    c.file_given-2.ensures at_file in
    let renders =
    subst
    (λ (sum : List ℕ). RendersTold told (sum ∷ sums_of (option_to_list (option_map g.O.Taken.AsFile.delivery c.in_ok-given.given) ++ g.C.Taken.AsFile.delivery c.in_ok-certificate.certificate ∷ [])) c.in_ok-page.page)
    given.is_sum at_outcome in
    answered c.args.mode c.args.language
    (turn g.E.Given.delivers c.args.election.now c.take_election.new.input)
    (file_turn g.O.Given.delivers c.args.outcome.now c.take_file.new.input)
    (turn g.C.Given.delivers c.args.certificate.now c.take.new.self) given.delivery
    (option_map g.O.Taken.AsFile.delivery c.in_ok-given.given) (g.C.Taken.AsFile.delivery c.in_ok-certificate.certificate)
    c.in_ok-taken.taken.election c.in_ok-decided.decided.outcome.marks told c.in_ok-page.page given.delivered given.states
    c.in_ok-given.ensures taken c.in_ok-certificate.ensures tells
    (ap (λ (s : Style). s.language) c.in_ok-told.ensures.style) renders
