use Rattle.std.proofs.Common.{◌≡◌, ◌∙◌, [], ap, None, Some, Option, refl}
use Rattle.std.specs.Prelude.{replicate}
use Rattle.pb_records.proofs.Headed.{nothing-kept}
use Rattle.pb_certificate.specs.Refutations.Kind.{refutation_kind}
use Rattle.pb_certificate.specs.Refutations.Text.{stated_by}
use Rattle.pb_certificate.specs.declared.refutations.draft.Awaited.TheVariants.{Format}
use Rattle.pb_certificate.proofs.OnRefutations.Rows.{none-stated}
use Rattle.pb_certificate.proofs.refutations.draft.RefutationDraft.new.Goals as goal

-- where nothing else passes a test, what passes it is none
none-alone : {A : Type 0} (P : Option A → Type 0) → ((x : A) → P (Some x) → ⊥) → (y : Option A) → P y → y ≡ None
none-alone P other None p = refl
none-alone P other (Some x) p = absurd (other x p)

pub returns : goal.returns
returns c =
    let e = c.args.election.now in
    let none : c.in_ok-rows.rows.items ≡ stated_by e [] =
    c.in_ok-rows.ensures.items_if_clones_equal (none-alone _ (λ x e. e))
    ∙ ap (λ n. replicate n None) c.projects.ensures.value ∙ none-stated e in
    nothing-kept (refutation_kind e) (stated_by e) (record { awaited = Format; cover = 0 }, c.in_ok-rows.rows.items)
    (rw none refl)
