use denote.Enum.Bare.{sameb}
use Rattle.std.proofs.Common.{◌≡◌, ◌∙◌, true, false, refl, sym, subst}
use Rattle.std.specs.Prelude.{Ok, Err, not}
use Rattle.pb_money.specs.Whole.{whole_of}
use Rattle.pb_money.specs.contracts.whole.WholeFault.{the_type}
use Rattle.pb_money.specs.declared.whole.WholeFault.{WholeFault}
use Rattle.pb_money.specs.declared.whole.WholeFault.TheVariants as whole
use Rattle.pb_election.specs.Instance.{voters}
use Rattle.pb_certificate.proofs.Numbers.{read-of, voter-0-read, voter-large-read, voter-not-read, voter-read}
use Rattle.pb_certificate.proofs.fields.voter_in.Goals as goal

-- what the test of a fault says
other : (w : WholeFault) → true ≡ not (sameb the_type w whole.TooLarge) → w ≡ whole.TooLarge → ⊥
other whole.TooLarge e k = cc e
other _ e k = cc k

large : (w : WholeFault) → false ≡ not (sameb the_type w whole.TooLarge) → w ≡ whole.TooLarge
large whole.TooLarge e = refl
large _ e = cc e

pub returns-in-Ok : goal.returns-in-Ok
returns-in-Ok c =
    let n = voters c.args.election.now in
    let read = read-of c.read_whole.result (Ok c.in-Ok.number) c.from.result n c.as_bytes.result.now c.args.field.now
    c.in-Ok.is c.read_whole.ensures.exact (c.from.ensures ∙ c.voters.ensures.value) c.as_bytes.ensures.value in
    voter-read n c.in-Ok.number c.args.field.now read c.if-number-gt0.true

pub returns-in-Err : goal.returns-in-Err
returns-in-Err c =
    let n = voters c.args.election.now in
    let read = read-of c.read_whole.result (Err c.in-Err.fault) c.from.result n c.as_bytes.result.now c.args.field.now
    c.in-Err.is c.read_whole.ensures.exact (c.from.ensures ∙ c.voters.ensures.value) c.as_bytes.ensures.value in
    voter-not-read n c.args.field.now c.in-Err.fault read (other c.in-Err.fault (sym c.if-ne.true ∙ c.ne.ensures))

pub returns-in_default : goal.returns-in_default
returns-in_default c =
    let n = voters c.args.election.now in
    let read = read-of c.read_whole.result (Ok c.in-Ok.number) c.from.result n c.as_bytes.result.now c.args.field.now
    c.in-Ok.is c.read_whole.ensures.exact (c.from.ensures ∙ c.voters.ensures.value) c.as_bytes.ensures.value in
    voter-0-read n c.in-Ok.number c.args.field.now read c.if-number-gt0.false

pub returns-in_default-2 : goal.returns-in_default-2
returns-in_default-2 c =
    let n = voters c.args.election.now in
    let read = read-of c.read_whole.result (Err c.in-Err.fault) c.from.result n c.as_bytes.result.now c.args.field.now
    c.in-Err.is c.read_whole.ensures.exact (c.from.ensures ∙ c.voters.ensures.value) c.as_bytes.ensures.value in
    voter-large-read n c.args.field.now
    (subst (λ w. Err w ≡ whole_of n c.args.field.now) (large c.in-Err.fault (sym c.if-ne.false ∙ c.ne.ensures))
    read)
