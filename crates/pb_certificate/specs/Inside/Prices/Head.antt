-- The head of a price certificate, as the reader's own parts take it. No claim on a file rests on this.
use Rattle.std.specs.Prelude.{◌≡◌, ◌-◌, ◌<◌, ◌⊎◌, ⊤, false, List, [], ◌∷◌, ◌++◌, length, take, Result, Ok, Err}
use Rattle.pb_election.specs.Instance.{Instance}
use Rattle.pb_records.specs.Records.{Rec}
use Rattle.pb_records.specs.Cells.{nonblank}
use Rattle.pb_records.specs.FirstFault.{IsFirstFault}
use Rattle.pb_records.specs.Inside.Headed.{Taken}
use Rattle.pb_records.specs.Inside.Position.{MeetsRecord, Position}
use Rattle.pb_certificate.specs.Prices.Kind.{Awaited, awaits_row, price_kind}
use Rattle.pb_certificate.specs.Prices.Kind.Awaited.{Row}
use Rattle.pb_certificate.specs.Faults.{no_memory, price_form}
use Rattle.pb_certificate.specs.Inside.Prices.Places.{RefusedBehind, StandsBehind}
use Rattle.pb_certificate.specs.declared.prices.head.PriceHead.{PriceHead}
use Rattle.pb_certificate.specs.declared.refusal.CertRefusal.{CertRefusal}

-- a cursor stands behind these head records, which have no fault, and this is awaited
pub record StandsInHead (e : Instance) (recs : List Rec) (c : Position) (before : List Rec) (h : Awaited) : Type 0 where
  pub stands : StandsBehind (price_form e) recs c before
  pub taken : Taken (price_kind e) before (record { head = h; rows = [] })

-- the file is refused in place of the head record that was awaited
abbrev pub RefusedInHead : Position → Awaited → CertRefusal → Type 0
RefusedInHead old h r =
    (e : Instance) (recs before : List Rec) → StandsInHead e recs old before h
    → (r ≡ no_memory) ⊎ RefusedBehind (price_form e) recs before r

-- the next head record was met, or the file was refused
abbrev pub NextHead : Position → Position → Result ⊤ CertRefusal → Type 0
NextHead old new (Ok done) = MeetsRecord old new
NextHead old new (Err r) = (h : Awaited) → awaits_row h ≡ false → RefusedInHead old h r

-- where this was awaited, the next head record was taken, and now this is awaited; or it was refused
abbrev pub HeadGives : {A : Type 0} → Awaited → (A → Awaited) → Position → Position → Result A CertRefusal → Type 0
HeadGives h next old new (Ok x) =
    (e : Instance) (recs before : List Rec) → StandsInHead e recs old before h
    → StandsInHead e recs new (before ++ (new.row ∷ [])) (next x)
HeadGives h next old new (Err r) = RefusedInHead old h r

-- the head was read, and the cursor stands behind it; or it was refused
abbrev pub ReadsHead : Instance → List Rec → Position → Result PriceHead CertRefusal → Type 0
ReadsHead e recs new (Ok h) = (heads : List Rec) × StandsInHead e recs new heads (Row h.denominator h.budget)
ReadsHead e recs new (Err r) = (r ≡ no_memory)
    ⊎ (IsFirstFault (price_form e) recs r.record_number r.fault × (length (nonblank (take (r.record_number - 1) recs)) < 4))
