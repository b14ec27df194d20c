-- One more head record of a price certificate.
use Rattle.std.proofs.Common.{◌≡◌, ◌∙◌, ◌<◌, ◌+◌, ℕ, false, List, [], ◌∷◌, ◌++◌, length, sym, ap, refl, inl, inr, arith, Some}
use Rattle.std.specs.Prelude.{◌⊎◌, Ok, Err}
use Rattle.std.specs.Result.{result_err}
use Rattle.pb_election.specs.Instance.{Instance}
use Rattle.pb_records.specs.Headed.{after}
use Rattle.pb_records.specs.Records.{Rec}
use Rattle.pb_records.specs.Cells.{is_text}
use Rattle.pb_records.specs.FirstFault.{Form}
use Rattle.pb_records.specs.Inside.Position.{MeetsEnd, MeetsRecord, Position}
use Rattle.pb_records.proofs.BlankText.{not-text-is-full}
use Rattle.pb_records.proofs.Headed.{form-end, form-here, taken-more}
use Rattle.pb_certificate.specs.Faults.{no_memory, price_form}
use Rattle.pb_certificate.specs.Inside.Prices.Places.{Comes, RefusedBehind, StandsBehind}
use Rattle.pb_certificate.specs.Inside.Prices.Head.{NextHead, ReadsHead, RefusedInHead, StandsInHead}
use Rattle.pb_certificate.specs.Prices.Kind.{Awaited, awaits_row, price_head, price_kind}
use Rattle.pb_certificate.specs.declared.refusal.CertFault.{CertFault}
use Rattle.pb_certificate.specs.declared.refusal.CertFault.TheVariants as fault
use Rattle.pb_certificate.specs.declared.refusal.CertRefusal.{CertRefusal}
use Rattle.pb_certificate.proofs.OnPrices.PlaceSteps.{goes-behind, refused-at, refused-bytes, refused-end}

-- What a head record gives.

after-head : (e : Instance) (h next : Awaited) (r : Rec) → awaits_row h ≡ false → price_head h r ≡ Ok next
    → after (price_kind e) (record { head = h; rows = [] }) r ≡ Ok (record { head = next; rows = [] })
after-head e h next r short is = rw (short, is) refl

pub head-taken : (h next : Awaited) (old new : Position) → awaits_row h ≡ false → MeetsRecord old new
    → price_head h new.row ≡ Ok next → (e : Instance) (recs before : List Rec) → StandsInHead e recs old before h
    → StandsInHead e recs new (before ++ (new.row ∷ [])) next
unfolding price_form
head-taken h next old new short m is e recs before s =
    let more = after-head e h next new.row short is in
    record {
      stands = goes-behind (price_form e) recs old new before s.stands m
          (form-here (price_kind e) before (record { head = h; rows = [] }) new.row s.taken m.is_utf8
          ∙ ap result_err more);
      taken = taken-more (price_kind e) before (record { head = h; rows = [] }) (record { head = next; rows = [] })
          new.row s.taken m.is_utf8 more;
    }

head-fault : (e : Instance) (h : Awaited) (r : Rec) (f : CertFault) → awaits_row h ≡ false → price_head h r ≡ Err f
    → result_err (after (price_kind e) (record { head = h; rows = [] }) r) ≡ Some f
head-fault e h r f short is = rw (short, is) refl

pub head-refused : (h : Awaited) (old new : Position) (f : CertFault) → awaits_row h ≡ false → MeetsRecord old new
    → price_head h new.row ≡ Err f → RefusedInHead old h (record { fault = f; record_number = new.record_number })
unfolding price_form
head-refused h old new f short m is e recs before s =
    inr (refused-at (price_form e) recs old new before f s.stands m
    (form-here (price_kind e) before (record { head = h; rows = [] }) new.row s.taken m.is_utf8
    ∙ head-fault e h new.row f short is))

-- What stands in place of a head record.

not-text-form : (e : Instance) (before : List Rec) (r : Rec) → is_text r ≡ false
    → price_form e before (Some r) ≡ Some fault.NotUtf8
unfolding price_form
not-text-form e before r n = rw n refl

refusal-is : (form : Form CertFault) (recs before : List Rec) (r : CertRefusal) (f : CertFault) (record_number : ℕ)
    → r.fault ≡ f → r.record_number ≡ record_number → RefusedBehind form recs before (record { fault = f; record_number = record_number })
    → RefusedBehind form recs before r
refusal-is form recs before r f record_number is at h = rw (sym is, sym at) at h

pub bytes-refused : (e : Instance) (recs before : List Rec) (old new : Position) (r : CertRefusal)
    → StandsBehind (price_form e) recs old before → Comes old new (Err r)
    → (r ≡ no_memory) ⊎ RefusedBehind (price_form e) recs before r
bytes-refused e recs before old new r s comes = elim comes [
  | inl memory ↦ inl memory
  | inr bad ↦ inr (refusal-is (price_form e) recs before r fault.NotUtf8 new.record_number bad.0 bad.1
      (refused-bytes (price_form e) recs old new before fault.NotUtf8 s bad.2
      (not-text-is-full bad.2.bad bad.2.is_not_utf8) (not-text-form e before bad.2.bad bad.2.is_not_utf8)))
]

pub none-met : (old new : Position) (r : CertRefusal) → Comes old new (Err r) → NextHead old new (Err r)
none-met old new r comes h short e recs before s = bytes-refused e recs before old new r s.stands comes

pub head-ends : (old new : Position) → MeetsEnd old new
    → NextHead old new (Err (record { fault = fault.BadHead; record_number = new.record_number + 1 }))
unfolding price_form
head-ends old new m h short e recs before s =
    inr (refused-end (price_form e) recs old new before fault.BadHead s.stands m
    (form-end (price_kind e) before (record { head = h; rows = [] }) s.taken ∙ rw short refl))

-- the whole head

pub in-head : (e : Instance) (recs before : List Rec) (new : Position) (r : CertRefusal) → length before < 4
    → (r ≡ no_memory) ⊎ RefusedBehind (price_form e) recs before r → ReadsHead e recs new (Err r)
in-head e recs before new r few h = grind arith
