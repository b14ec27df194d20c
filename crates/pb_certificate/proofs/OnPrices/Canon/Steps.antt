-- The canonical text with the rows of one more voter.
use Rattle.std.proofs.Common.{◌≡◌, ◌≤◌, ◌<◌, ◌+◌, ◌-◌, ◌∙◌, ℕ, zero, suc, List, [], ◌∷◌, ◌++◌, length, refl, sym, ap, arith, add-one, append_assoc, append-nil, length-append, get_or}
use Rattle.std.specs.Prelude.{flat_map}
use Rattle.std.specs.List.{range_with_len}
use Rattle.std.proofs.Math.ListN.{get_or-append}
use Rattle.std.proofs.Math.Seq.{get_or-append_seam}
use Rattle.std.proofs.lemmas.Grind.{flat_map-append}
use Rattle.pb_records.proofs.Lists.{range-push}
use Rattle.pb_election.specs.Instance.{Instance, voters}
use Rattle.pb_records.specs.Records.{Rec}
use Rattle.pb_certificate.specs.Prices.Canon.{Canon, head_records, line, lines, rows_of_voter}
use Rattle.pb_certificate.specs.Inside.Prices.CanonicalDrafts.{rows_up_to}
use Rattle.pb_certificate.specs.Inside.Prices.PaymentSinks.{with_voter}
use Rattle.pb_certificate.specs.Prices.{Prices, PricesFit, payments_of}

-- the head alone
pub head-alone : (d b : ℕ) (h0 h1 : List ℕ) → h0 ≡ [] → h1 ≡ h0 ++ lines (head_records d b)
    → h1 ≡ lines (head_records d b) ++ []
head-alone d b h0 h1 e0 e1 = grind (arith, append-nil)

flat-same : (f g : ℕ → List Rec) (n a : ℕ) → ((i : ℕ) → a ≤ i → i < a + n → f i ≡ g i)
    → flat_map f (range_with_len a n) ≡ flat_map g (range_with_len a n)
flat-same f g zero a h = refl
flat-same f g (suc n) a h = grind (arith, flat-same f g n (a + 1))

-- the rows of one more voter
rows-next : (e : Instance) (p : Prices) (run : List (ℕ × ℕ)) (voter : ℕ) → voter ≡ length p.payments + 1
    → rows_up_to e (with_voter p run) (length (with_voter p run).payments)
    ≡ rows_up_to e p (length p.payments) ++ rows_of_voter e voter run
rows-next e p run voter at =
    let n : ℕ = length p.payments in
    let more : Prices = with_voter p run in
    let f : ℕ → List Rec = λ i. rows_of_voter e i (payments_of more i) in
    let many : length more.payments ≡ suc n = length-append p.payments (run ∷ []) ∙ add-one n in
    let before : flat_map f (range_with_len 1 n) ≡ rows_up_to e p n =
    flat-same f (λ i. rows_of_voter e i (payments_of p i)) n 1
    (λ i low high. ap (rows_of_voter e i) (get_or-append p.payments (run ∷ []) [] (i - 1) (omega arith))) in
    let index : 1 + n - 1 ≡ n = omega arith in
    let paid : payments_of more (1 + n) ≡ run = ap (λ (k : ℕ). get_or more.payments k []) index
    ∙ get_or-append_seam p.payments run [] [] in
    let number : 1 + n ≡ voter = omega arith in
    let here : f (1 + n) ≡ rows_of_voter e voter run = ap (rows_of_voter e (1 + n)) paid
    ∙ ap (λ (k : ℕ). rows_of_voter e k run) number in
    ap (λ (k : ℕ). flat_map f (range_with_len 1 k)) many ∙ ap (flat_map f) (range-push 1 n)
    ∙ flat_map-append f (range_with_len 1 n) ((1 + n) ∷ [])
    ∙ ap (λ (x : List Rec). x ++ flat_map f ((1 + n) ∷ [])) before
    ∙ ap (λ (x : List Rec). rows_up_to e p n ++ x) (append-nil (f (1 + n)) ∙ here)

pub text-next : (e : Instance) (p : Prices) (run : List (ℕ × ℕ)) (voter : ℕ) (old new : List ℕ)
    → voter ≡ length p.payments + 1
    → old ≡ lines (head_records p.denominator p.budget) ++ lines (rows_up_to e p (length p.payments))
    → new ≡ old ++ lines (rows_of_voter e voter run)
    → new ≡ lines (head_records p.denominator p.budget)
    ++ lines (rows_up_to e (with_voter p run) (length (with_voter p run).payments))
text-next e p run voter old new at before after =
    let head = lines (head_records p.denominator p.budget) in
    let rows = rows_up_to e p (length p.payments) in
    after ∙ ap (λ (x : List ℕ). x ++ lines (rows_of_voter e voter run)) before
    ∙ append_assoc head (lines rows) (lines (rows_of_voter e voter run))
    ∙ ap (λ (x : List ℕ). head ++ x)
    (sym (flat_map-append line rows (rows_of_voter e voter run)) ∙ ap lines (sym (rows-next e p run voter at)))

-- the rows of all voters
pub text-whole : (e : Instance) (p : Prices) (text : List ℕ) → PricesFit p e
    → text ≡ lines (head_records p.denominator p.budget) ++ lines (rows_up_to e p (length p.payments))
    → text ≡ Canon e p
text-whole e p text fits is =
    is ∙ ap (λ (k : ℕ). lines (head_records p.denominator p.budget) ++ lines (rows_up_to e p k)) fits.each_voter
    ∙ sym (flat_map-append line (head_records p.denominator p.budget) (rows_up_to e p (voters e)))

-- two facts of what was done
