-- What the inputs state, by what is delivered of them.
use Rattle.std.specs.Prelude.{◌≡◌, ◌^◌, nat_lt, if◌then◌else◌, Bool, ℕ, List, length, IfOk, Option, Some, None, Result, Ok, Err}
use Rattle.pb_records.specs.FirstFault.{Form}
use Rattle.pb_election.specs.Instance.{Instance}
use Rattle.pb_election.specs.Text.{IsTextOf}
use Rattle.pb_election.specs.Faults.{Refuses}
use Rattle.pb_election.specs.Faults as elections
use Rattle.pb_records.specs.Loading.{Delivery}
use Rattle.pb_records.specs.Loading as delivery
use Rattle.pb_election.specs.declared.refusal.Refusal as election
use Rattle.pb_certificate.specs.Faults.{certificate_records, outcome_form, price_form, refutation_form, violation_form}
use Rattle.pb_certificate.specs.Faults as certificates
use Rattle.pb_certificate.specs.Violations.Text.{IsViolationText}
use Rattle.pb_certificate.specs.Refutations.{Weights}
use Rattle.pb_certificate.specs.Refutations.Text.{IsRefutationText}
use Rattle.pb_certificate.specs.Outcomes.Text.{IsOutcomeText}
use Rattle.pb_certificate.specs.Prices.{Prices}
use Rattle.pb_certificate.specs.Prices.Text.{IsPriceText}
use Rattle.pb_certificate.specs.declared.violations.measure.Measure.{Measure}
use Rattle.pb_certificate.specs.declared.refusal.CertFault.{CertFault}
use Rattle.pb_certificate.specs.declared.refusal.CertRefusal.{CertRefusal}
use Rattle.pb_input.specs.declared.InputRefusal.{InputRefusal}
use Rattle.pb_input.specs.declared.InputFault.{InputFault}
use Rattle.pb_input.specs.declared.InputFault.TheVariants as fault
use Rattle.pb_input.specs.declared.InputName.{InputName}
use Rattle.pb_input.specs.declared.InputName.TheVariants as name

-- an input is what it states, or why it is refused
abbrev pub Stated : Type 0 → Type 0
Stated A = Result A InputRefusal

-- the refusal of an input for a fault
abbrev pub refusal_of : InputName → InputFault → InputRefusal
refusal_of input why = record { input = input; fault = why }

-- the most bytes of an input
abbrev pub most_bytes : ℕ
most_bytes = 2 ^ 28

-- what is delivered of a file in memory: its bytes, or that they are too many
abbrev pub in_memory : List ℕ → Delivery
in_memory bytes = if nat_lt most_bytes (length bytes) then delivery.TooLong else delivery.Bytes bytes

-- What an input states, by what was delivered of it, where a kind of input says which values are stated by bytes and
-- why bytes are refused. The delivery `Read` says that the reader failed, and `TooLong` that it had more bytes than are
-- allowed.
abbrev pub States : {A : Type 0} → InputName → (List ℕ → A → Type 0) → (List ℕ → InputRefusal → Type 0) → Delivery
    → Stated A → Type 0
States input is_text is_refused (delivery.Bytes bytes) (Ok a) = is_text bytes a
States input is_text is_refused (delivery.Bytes bytes) (Err r) = is_refused bytes r
States input is_text is_refused delivery.Read stated = stated ≡ Err (refusal_of input fault.Unread)
States input is_text is_refused delivery.TooLong stated = stated ≡ Err (refusal_of input fault.TooLong)

-- an election
abbrev pub IsRefusedElection : List ℕ → InputRefusal → Type 0
IsRefusedElection bytes r = (first : election.Refusal) × Refuses bytes first
    × (r ≡ refusal_of name.Election (fault.Election first))

abbrev pub StatesElection : Delivery → Stated Instance → Type 0
StatesElection delivered stated = States name.Election IsTextOf IsRefusedElection delivered stated

-- a file of this form beside an election
abbrev pub IsRefusedFile : InputName → Form CertFault → List ℕ → InputRefusal → Type 0
IsRefusedFile input form bytes r = (first : CertRefusal) × certificates.Refuses form bytes first
    × (r ≡ refusal_of input (fault.Certificate first))

-- a price certificate for an election, as the input of this name
abbrev pub StatesPrices : InputName → Instance → Delivery → Stated Prices → Type 0
StatesPrices input e delivered stated =
    States input (λ bytes p. IsPriceText (certificate_records bytes) e p) (IsRefusedFile input (price_form e)) delivered
    stated

-- a violation certificate for an election: its measure, a group and what it demands, as the input of this name
abbrev pub StatesViolation : InputName → Instance → Delivery → Stated (Measure × List ℕ × List ℕ) → Type 0
StatesViolation input e delivered stated =
    States input (λ bytes v. IsViolationText (certificate_records bytes) e v.0 v.1 v.2)
    (IsRefusedFile input (violation_form e)) delivered stated

-- a refutation for an election: the weights of projects
abbrev pub StatesRefutation : Instance → Delivery → Stated Weights → Type 0
StatesRefutation e delivered stated =
    States name.Certificate (λ bytes r. IsRefutationText (certificate_records bytes) e r)
    (IsRefusedFile name.Certificate (refutation_form e)) delivered stated

-- an outcome file for an election: which projects are funded
abbrev pub StatesOutcome : Instance → Delivery → Stated (List Bool) → Type 0
StatesOutcome e delivered stated =
    States name.Outcome (λ bytes marks. IsOutcomeText (certificate_records bytes) e marks)
    (IsRefusedFile name.Outcome (outcome_form e)) delivered stated

-- the outcome that is audited: that of the outcome file where one is given, and else that of the election, which may
-- state none
abbrev pub its_outcome : Option (List Bool) → Stated (List Bool)
its_outcome None = Err (refusal_of name.Election (fault.Election elections.no_outcome))
its_outcome (Some marks) = Ok marks

abbrev pub audited : Instance → Option (Stated (List Bool)) → Stated (List Bool)
audited e None = its_outcome e.selected
audited e (Some file) = file

-- the same of an outcome file that is given or not
abbrev pub StatesFile : {A : Type 0} → (Delivery → Stated A → Type 0) → Option Delivery → Option (Stated A) → Type 0
StatesFile states None None = Unit {0}
StatesFile states (Some file) (Some stated) = states file stated
StatesFile states _ _ = ⊥

-- an input counts where the one before it was accepted, and else what is said of a refusal holds
abbrev pub InTurn : {A : Type 0} → Stated A → (A → Type 0) → Type 0 → Type 0
InTurn (Ok a) accepted refused = accepted a
InTurn (Err r) accepted refused = refused

-- What an election, an outcome file where one is given, and a certificate of a kind state. Each counts where those
-- before it are accepted.
pub record FilesState {A : Type 0} (states : Instance → Delivery → Stated A → Type 0) (election : Delivery)
    (outcome : Option Delivery) (certificate : Delivery)
    (e : Stated Instance) (o : Option (Stated (List Bool))) (c : Stated A) : Type 0 where
  pub election_states : StatesElection election e
  pub outcome_states : IfOk e (λ instance. StatesFile (StatesOutcome instance) outcome o)
  pub certificate_states : IfOk e (λ instance. IfOk (audited instance o) (λ w. states instance certificate c))
