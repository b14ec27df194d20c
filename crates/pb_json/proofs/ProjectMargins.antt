-- The projects with their figures, as far as they have been told.
use Rattle.std.proofs.Common.{◌≡◌, ◌∙◌, ◌<◌, ◌≤◌, ◌+◌, ℕ, List, [], ◌∷◌, ◌++◌, length, map, sym, ap, arith, get_or, take}
use Rattle.std.specs.Prelude.{min}
use Rattle.std.proofs.lemmas.List.{map_more, take_all}
use Rattle.std.proofs.lemmas.List.FromFn.{get_or-range_with_len, length-range_with_len}
use Rattle.std.proofs.lemmas.Slice.Zip.{get_or-zip, length-zip}
use Rattle.std.specs.List.{zip}
use Rattle.serde_json.specs.Data.{Data}
use Rattle.pb_election.specs.Instance.{Instance, all_projects, projects}
use Rattle.pb_price.specs.declared.ProjectMargins.{ProjectMargins}
use Rattle.pb_json.specs.Margins.{margin_json}

-- how many there are
pub told_length : (e : Instance) (ms : List ProjectMargins)
    → length (zip (all_projects e) ms) ≡ min (projects e) (length ms)
told_length e ms =
    length-zip (all_projects e) ms ∙ ap (λ (n : ℕ). min n (length ms)) (length-range_with_len 1 (projects e))

-- the one at place k
told_at : (e : Instance) (ms : List ProjectMargins) (k : ℕ) (d : ProjectMargins) → k < projects e → k < length ms
    → get_or (zip (all_projects e) ms) k (0, d) ≡ (k + 1, get_or ms k d)
told_at e ms k d low here =
    let place : get_or (all_projects e) k 0 ≡ k + 1 =
    get_or-range_with_len 1 (projects e) k 0 low ∙ omega arith in
    get_or-zip (all_projects e) ms k (0, d) (rw (length-range_with_len 1 (projects e)) low) here
    ∙ ap (λ (j : ℕ). (j, get_or ms k d)) place

-- one more
pub project_pushed : (e : Instance) (ms : List ProjectMargins) (k : ℕ) (d : ProjectMargins) (before after : List Data)
    → k < projects e → k < length ms
    → before ≡ map (margin_json e) (take k (zip (all_projects e) ms))
    → after ≡ before ++ (margin_json e (k + 1, get_or ms k d) ∷ [])
    → after ≡ map (margin_json e) (take (k + 1) (zip (all_projects e) ms))
project_pushed e ms k d before after low here b a =
    let told : List (ℕ × ProjectMargins) = zip (all_projects e) ms in
    let least : k < length told = rw (told_length e ms) (omega (arith, low, here)) in
    let row : margin_json e (get_or told k (0, d)) ≡ margin_json e (k + 1, get_or ms k d) =
    ap (margin_json e) (told_at e ms k d low here) in
    a ∙ (ap (λ (x : List Data). x ++ (margin_json e (k + 1, get_or ms k d) ∷ [])) b
    ∙ sym (map_more (margin_json e) told k (0, d) least
    ∙ ap (λ (x : Data). map (margin_json e) (take k told) ++ (x ∷ [])) row))

-- all
pub projects_told : (e : Instance) (ms : List ProjectMargins) (k : ℕ) (list : List Data)
    → min (projects e) (length ms) ≤ k
    → list ≡ map (margin_json e) (take k (zip (all_projects e) ms))
    → list ≡ map (margin_json e) (zip (all_projects e) ms)
projects_told e ms k list past is =
    is ∙ ap (map (margin_json e)) (take_all k (zip (all_projects e) ms) (rw (told_length e ms) past))
