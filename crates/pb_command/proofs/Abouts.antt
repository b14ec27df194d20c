-- Where it isn't clear what `explain`, `page` and `margins` are about, and where a measure is asked for that there isn't.
use Rattle.std.proofs.Common.{◌≡◌, ◌≢◌, ◌⊎◌, ◌||◌, [], true, false, not, List, Option, Some, None, codes, inl, inr, option_map, refl, subst, sym}
use Rattle.std.specs.Prelude.{if◌then◌else◌, IfErr, Result, Ok, Err}
use Rattle.std.specs.Result.{IsErr, IsErrAnd}
use Rattle.clap.specs.Words.{IsAmong, Kinds, Row}
use Rattle.pb_words.specs.declared.language.Language.{Language}
use Rattle.clap.specs.declared.error.kind.ErrorKind.{ErrorKind}
use Rattle.clap.specs.declared.error.kind.ErrorKind.TheVariants as kind
use Rattle.pb_certificate.specs.declared.violations.measure.Measure.{Measure}
use Rattle.pb_cohesion.specs.declared.Mode.{Mode}
use Rattle.pb_command.specs.declared.task.Subject.{Subject}
use Rattle.pb_command.specs.declared.task.Subject.TheVariants as subject
use Rattle.pb_command.specs.declared.task.UsageFault.{UsageFault}
use Rattle.pb_command.specs.declared.task.UsageFault.TheVariants.{Memory}
use Rattle.pb_command.specs.Tasks.{About, FitsKind, about, IsFaultOf, IsNoHelp, IsRefusalAbout, IsRefusalOf, OutcomePaths, about_certificate, about_fault, about_groups, explained, is_named, measure_in, names_conditions, of_certificate, of_groups, of_neither, outcome_paths_in, paged, paths_in, value_fault, with_margins}

explained_fault : (m : Mode) (o : Option About) → value_fault (option_map (explained m) o) ≡ about_fault o
explained_fault m None = refl
explained_fault m (Some (of_certificate p)) = refl
explained_fault m (Some (of_groups p None)) = refl
explained_fault m (Some (of_groups p (Some k))) = refl
explained_fault m (Some (of_neither k)) = refl

margins_fault : (o : Option About) → value_fault (option_map with_margins o) ≡ about_fault o
margins_fault None = refl
margins_fault (Some (of_certificate p)) = refl
margins_fault (Some (of_groups p None)) = refl
margins_fault (Some (of_groups p (Some k))) = refl
margins_fault (Some (of_neither k)) = refl

-- the same fault, whichever of the two asks
pub explained_refusal : (m : Mode) (o : Option About) (f : UsageFault) → IsRefusalAbout o f
    → IsRefusalOf (option_map (explained m) o) f
explained_refusal m o f h = subst (λ kinds. IsFaultOf kinds f) (sym (explained_fault m o)) h

-- nothing is a fault of a value but where the subject or the language is
within : (o : Option About) (more : Kinds) (f : UsageFault) → about_fault o ≡ [] → IsRefusalAbout o f → IsFaultOf more f
within o more f none (inl memory) = inl memory
within o more f none (inr fits) = absurd (subst (IsAmong fits.0) none fits.1)

pub paged_refusal : (m : Mode) (l : Option Language) (o : Option About) (f : UsageFault) → IsRefusalAbout o f
    → IsRefusalOf (option_map (paged m l) o) f
paged_refusal m l None f h = h
paged_refusal m l (Some (of_certificate p)) f h = within (Some (of_certificate p)) _ f refl h
paged_refusal m l (Some (of_groups p None)) f h = h
paged_refusal m l (Some (of_groups p (Some k))) f h = within (Some (of_groups p (Some k))) _ f refl h
paged_refusal m l (Some (of_neither k)) f h = h

-- no language has this code
pub no_page_language : (s : Subject) (m : Mode) (f : UsageFault) → (f ≡ Memory) ⊎ FitsKind kind.InvalidValue f
    → IsRefusalOf (Some (paged m None (about s))) f
no_page_language (subject.Certificate i) m f (inl memory) = inl memory
no_page_language (subject.Certificate i) m f (inr fits) = inr (kind.InvalidValue, inl refl, fits)
no_page_language (subject.Groups i k) m f (inl memory) = inl memory
no_page_language (subject.Groups i k) m f (inr fits) = inr (kind.InvalidValue, inl refl, fits)

pub margins_refusal : (o : Option About) (f : UsageFault) → IsRefusalAbout o f
    → IsRefusalOf (option_map with_margins o) f
margins_refusal o f h = subst (λ kinds. IsFaultOf kinds f) (sym (margins_fault o)) h

-- a fault that isn't help is one of this kind
is_kind : (k : ErrorKind) (f : UsageFault) → k ≢ kind.DisplayHelp → k ≢ kind.DisplayVersion → IsNoHelp f
    → IsRefusalAbout (Some (of_neither k)) f
is_kind k f help version free = by (free k help version)
  where
    by : (f ≡ Memory) ⊎ FitsKind k f → IsRefusalAbout (Some (of_neither k)) f
    by (inl memory) = inl memory
    by (inr fits) = inr (k, inl refl, fits)

-- something of a certificate stands beside groups
pub beside_groups : (rows : List Row) (f : UsageFault)
    → (is_named rows (codes "certificate") || names_conditions rows) ≡ true → IsNoHelp f
    → IsRefusalAbout (about_groups rows) f
beside_groups rows f beside free =
    subst
    (λ b. IsRefusalAbout (if b then Some (of_neither kind.ArgumentConflict)
    else option_map (λ p. of_groups p (measure_in rows)) (outcome_paths_in rows)) f)
    (sym beside) (is_kind kind.ArgumentConflict f (λ e. cc) (λ e. cc) free)

-- there is a measure without groups, or no certificate
pub no_certificate : (rows : List Row) (f : UsageFault)
    → (is_named rows (codes "satisfaction") || not (is_named rows (codes "certificate"))) ≡ true → IsNoHelp f
    → IsRefusalAbout (about_certificate rows) f
no_certificate rows f without free =
    subst
    (λ b. IsRefusalAbout (if b then Some (of_neither kind.MissingRequiredArgument)
    else option_map of_certificate (paths_in (codes "certificate") rows)) f)
    (sym without) (is_kind kind.MissingRequiredArgument f (λ e. cc) (λ e. cc) free)

-- no measure has this name
pub no_such_measure : (rows : List Row) (p : OutcomePaths) (f : UsageFault)
    → (is_named rows (codes "certificate") || names_conditions rows) ≡ false → Some p ≡ outcome_paths_in rows
    → measure_in rows ≡ None → (f ≡ Memory) ⊎ FitsKind kind.InvalidValue f → IsRefusalAbout (about_groups rows) f
no_such_measure rows p f alone shared none fits =
    subst
    (λ b. IsRefusalAbout (if b then Some (of_neither kind.ArgumentConflict)
    else option_map (λ p. of_groups p (measure_in rows)) (outcome_paths_in rows)) f)
    (sym alone)
    (subst (λ o. IsRefusalAbout (option_map (λ p. of_groups p (measure_in rows)) o) f) shared
    (subst (λ (k : Option Measure). IsRefusalAbout (Some (of_groups p k)) f) (sym none) (by fits)))
  where
    by : (f ≡ Memory) ⊎ FitsKind kind.InvalidValue f → IsRefusalAbout (Some (of_groups p None)) f
    by (inl memory) = inl memory
    by (inr fits) = inr (kind.InvalidValue, inl refl, fits)

-- what holds of a fault that is handed on
pub handed_on : {A : Type 0} (r : Result A UsageFault) (f : UsageFault) (P : UsageFault → Type 0)
    → IsErr r × IsErrAnd r (λ e. e ≡ f) → P f → IfErr r P
handed_on (Ok a) f P is h = tt
handed_on (Err e) f P is h = subst P (sym is.1) h
