-- How many rows have a role, project by project.
use Rattle.std.proofs.Common.{◌≡◌, ℕ, ◌+◌, ◌≤◌, Bool, false, cond, length, refl, sym, ◌∙◌, ap, arith}
use Rattle.std.specs.Prelude.{Option, Some, None, filter, option_map}
use Rattle.std.specs.List.{range_with_len}
use Rattle.std.specs.Option.{option_map_or}
use Rattle.std.proofs.lemmas.Bool.{cases_Bool}
use Rattle.std.proofs.lemmas.List.{length-append}
use Rattle.std.proofs.lemmas.List.Elements.{filter-append}
use Rattle.std.proofs.lemmas.List.FromFn.{length-range_with_len}
use Rattle.std.proofs.lemmas.List.Sums.{count_by-le-length, length-filter}
use Rattle.pb_certificate.specs.Refutations.{Weights, row_of}
use Rattle.pb_certificate.specs.declared.refutations.weighting.Role.{Role}
use Rattle.pb_certificate.specs.declared.refutations.weighting.Weighting.{Weighting}
use Rattle.pb_cohesion.proofs.Firsts.{range-next}
use Rattle.pb_cohesion.specs.Refutations.{has_role}

-- how many of the first projects pass a test
abbrev passing : (ℕ → Bool) → ℕ → ℕ
passing q n = length (filter q (range_with_len 1 n))

pub roles-few : (is : Role → Bool) (r : Weights) (n m count : ℕ) → count ≡ length (filter (has_role is r) (range_with_len 1 n))
    → n ≤ m → count ≤ m
roles-few is r n m count h few =
    omega (
      arith,
      length-filter (has_role is r) (range_with_len 1 n),
      count_by-le-length (has_role is r) (range_with_len 1 n),
      length-range_with_len 1 n,
    )

one-more : (q : ℕ → Bool) (n : ℕ) → passing q (n + 1) ≡ passing q n + cond (q (n + 1)) 1 0
one-more q n = grind (arith, range-next, filter-append, length-append, cases_Bool)

-- the role of a project's row
of-role : (is : Role → Bool) (row : Option Weighting)
    → option_map_or is (option_map (λ x. x.role) row) false ≡ option_map_or (λ x. is x.role) row false
of-role is None = refl
of-role is (Some x) = refl

pub roles-next : (is : Role → Bool) (r : Weights) (n old new : ℕ) (role : Option Role)
    → old ≡ length (filter (has_role is r) (range_with_len 1 n)) → role ≡ option_map (λ x. x.role) (row_of r (n + 1))
    → new ≡ old + cond (option_map_or is role false) 1 0
    → new ≡ length (filter (has_role is r) (range_with_len 1 (n + 1)))
roles-next is r n old new role known is_role more =
    more ∙ ap (λ k. k + cond (option_map_or is role false) 1 0) known
    ∙ ap (λ o. passing (has_role is r) n + cond (option_map_or is o false) 1 0) is_role
    ∙ ap (λ b. passing (has_role is r) n + cond b 1 0) (of-role is (row_of r (n + 1)))
    ∙ sym (one-more (has_role is r) n)
