-- The text of a refutation is what its records state, one after another.
use Rattle.std.proofs.Common.{◌≡◌, ◌∙◌, ℕ, true, List, [], ◌∷◌, ◌++◌, refl, sym, ap, Some}
use Rattle.std.specs.Prelude.{Ok, codes}
use Rattle.std.specs.Result.{result_map_both}
use Rattle.pb_election.specs.Instance.{Instance}
use Rattle.pb_records.specs.Records.{Rec}
use Rattle.pb_records.specs.Inside.Headed.{HeadsState}
use Rattle.pb_records.proofs.Each.{all-every}
use Rattle.pb_records.proofs.Headed.{States, distinct-follow, follow-distinct}
use Rattle.pb_records.proofs.Lists.{map-link}
use Rattle.pb_certificate.specs.Fields.{StatesNumber, fields}
use Rattle.pb_certificate.specs.Refutations.{Weights, most_weight}
use Rattle.pb_certificate.specs.Refutations.Kind.{RefutationHead, awaits_row, refutation_kind, refutation_row}
use Rattle.pb_certificate.specs.Refutations.Text.{IsRefutationText, refutation_columns, refutation_name, same_project, stated_by, weight_row_of}
use Rattle.pb_certificate.specs.declared.refutations.draft.Awaited.TheVariants.{Format, Cover, Columns, Row}
use Rattle.pb_certificate.specs.declared.refusal.CertFault.TheVariants as fault
use Rattle.pb_certificate.proofs.Heads.{fields-were, head-number-is, number-was}
use Rattle.pb_certificate.proofs.OnRefutations.Rows.{row-states, same-turned, states-row}

-- The head.

-- the head records of a refutation, and the weight of Cover that they state
pub record Heads (heads : List Rec) (cover : ℕ) : Type 0 where
  pub head : Rec
  pub cover_of : Rec
  pub columns : Rec
  pub are : heads ≡ head ∷ cover_of ∷ columns ∷ []
  pub is_head : fields head ≡ refutation_name
  pub is_cover : StatesNumber (codes "cover") 0 most_weight cover_of cover
  pub is_columns : fields columns ≡ refutation_columns

heads-are : (e : Instance) (heads : List Rec) (last : RefutationHead)
    → HeadsState (refutation_kind e) (record { awaited = Format; cover = 0 }) heads last
    → awaits_row last.awaited ≡ true → Heads heads last.cover
heads-are e [] last states whole = cc (rw (sym states) at whole)
heads-are e (h ∷ rs) last states whole =
    let name = fields-were h refutation_name (record { awaited = Cover; cover = 0 }) states.0 states.2 in
    behind-name name.0 rs (rw (sym name.1) at states.3)
  where
    behind-columns : (c k : Rec) (n : ℕ) → fields h ≡ refutation_name → StatesNumber (codes "cover") 0 most_weight c n
        → fields k ≡ refutation_columns → (rs : List Rec)
        → HeadsState (refutation_kind e) (record { awaited = Row; cover = n }) rs last → Heads (h ∷ c ∷ k ∷ rs) last.cover
    behind-columns c k n name number columns [] more =
        record {
          head = h;
          cover_of = c;
          columns = k;
          are = refl;
          is_head = name;
          is_cover = rw (sym more) number;
          is_columns = columns;
        }
    behind-columns c k n name number columns (r ∷ rs) more = let short = more.1 in cc short

    behind-cover : (c : Rec) (n : ℕ) → fields h ≡ refutation_name → StatesNumber (codes "cover") 0 most_weight c n
        → (rs : List Rec) → HeadsState (refutation_kind e) (record { awaited = Columns; cover = n }) rs last
        → Heads (h ∷ c ∷ rs) last.cover
    behind-cover c n name number [] more = cc (rw (sym more) at whole)
    behind-cover c n name number (k ∷ rs) more =
        let columns = fields-were k refutation_columns (record { awaited = Row; cover = n }) more.0 more.2 in
        behind-columns c k n name number columns.0 rs (rw (sym columns.1) at more.3)

    behind-name : fields h ≡ refutation_name → (rs : List Rec)
        → HeadsState (refutation_kind e) (record { awaited = Cover; cover = 0 }) rs last → Heads (h ∷ rs) last.cover
    behind-name name [] more = cc (rw (sym more) at whole)
    behind-name name (c ∷ rs) more =
        let cover = number-was (codes "cover") 0 most_weight (λ n. record { awaited = Columns; cover = n }) c more.0 more.2 in
        behind-cover c cover.0 name cover.1 rs (rw (sym cover.2) at more.3)

-- The text.

pub text-states : (recs : List Rec) (e : Instance) (w : Weights) → IsRefutationText recs e w
    → States (refutation_kind e) recs
text-states recs e w t =
    record {
      so_far = record { head = record { awaited = Row; cover = w.cover }; rows = t.stated };
      taken =
          record {
            heads = t.head ∷ t.cover ∷ t.columns ∷ [];
            rows = t.rows;
            cut = t.cut;
            text = t.text;
            heads_state = (
              record { awaited = Cover; cover = 0 },
              refl,
              rw t.is_head refl,
              (
                record { awaited = Columns; cover = w.cover },
                refl,
                ap (result_map_both (λ n. record { awaited = Columns; cover = n }) (λ f. f))
                    (head-number-is (codes "cover") 0 most_weight w.cover t.cover t.is_cover),
                (record { awaited = Row; cover = w.cover }, refl, rw t.is_columns refl, refl),
              ),
            );
            behind = λ short. cc short;
            rows_state = map-link (λ q. Unit {0}) (weight_row_of e) Some (refutation_row e) Ok
                (λ r q any states. states-row e r q states) t.rows t.stated (all-every (λ q. Unit {0}) t.stated (λ q. tt))
                t.each_row;
            follow = distinct-follow (refutation_kind e) fault.Repeated same_project same-turned (λ qs q. refl) t.stated
                t.once;
          };
      whole = refl;
    }

pub states-text : (recs : List Rec) (e : Instance) (s : States (refutation_kind e) recs)
    → IsRefutationText recs e (record { cover = s.so_far.head.cover; rows = stated_by e s.so_far.rows })
states-text recs e s =
    let t = s.taken in
    let stated = s.so_far.rows in
    let h = heads-are e t.heads s.so_far.head t.heads_state s.whole in
    record {
      head = h.head;
      cover = h.cover_of;
      columns = h.columns;
      rows = t.rows;
      stated = stated;
      cut = t.cut ∙ ap (λ (rs : List Rec). rs ++ t.rows) h.are;
      text = t.text;
      is_head = h.is_head;
      is_cover = h.is_cover;
      is_columns = h.is_columns;
      each_row = map-link (λ q. Unit {0}) (refutation_row e) Ok (weight_row_of e) Some
          (λ r q any states. row-states e r q states) t.rows stated (all-every (λ q. Unit {0}) stated (λ q. tt))
          t.rows_state;
      once = follow-distinct (refutation_kind e) fault.Repeated same_project same-turned (λ qs q. refl) stated t.follow;
      same_rows = refl;
    }
