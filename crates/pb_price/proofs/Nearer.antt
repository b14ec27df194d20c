-- The nearest group by the words of the projects, project by project.
use Rattle.std.proofs.Common.{◌≡◌, ℕ, ◌+◌, ◌-◌, ◌%◌, ◌<◌, Bool, true, false, cond, List, [], ◌∷◌, get_or, refl, sym, ◌∙◌, ap, subst, arith}
use Rattle.std.specs.Prelude.{ℤ, pos, ◌&&◌, ◌||◌, ◌==◌, IfSome, Option, Some, None, filter, int_lt, length, not, option_map, sum_by}
use Rattle.std.specs.List.{list_any}
use Rattle.std.specs.Option.{option_map_or}
use Rattle.std.proofs.lemmas.Bool.{cases_Bool}
use Rattle.std.proofs.lemmas.List.{get_or_default}
use Rattle.pb_records.proofs.Lists.{filter-none, filter-same}
use Rattle.pb_election.specs.Instance.{Instance, all_projects, all_voters, approves, cost_of, projects, supporters, voters}
use Rattle.pb_election.specs.Outcome.{has}
use Rattle.pb_cohesion.specs.Groups.{funded_for, reach}
use Rattle.pb_cohesion.specs.Outcome.{unfunded}
use Rattle.pb_price.specs.Findings.{closest, comparison}
use Rattle.pb_price.specs.Inside.Noted.{IsFindingTo, noted}
use Rattle.pb_price.specs.declared.Finding.{Finding}
use Rattle.pb_price.proofs.Closest.{found-as}
use Rattle.pb_price.proofs.SameSums.{Same}
use Rattle.pb_price.proofs.OneMore.{finding-next, tried}
use Rattle.pb_price.specs.NearestGroup.{bound_of, group_of, nearest_group, share_of, surplus}
use Rattle.pb_price.specs.Inside.Reached.{AreReached, AreSupporters, IsSmallGroup, bit_if, funded_with_bit, nearer_of, share_a_voter, surplus_by}
use Rattle.pb_price.specs.declared.nearest.NearestGroup.{NearestGroup}

-- what is funded for the supporters of a project of the block
any-filter : (p q : ℕ → Bool) (xs : List ℕ) → list_any p (filter q xs) ≡ list_any (λ x. p x && q x) xs
any-filter p q [] = refl
any-filter p q (x ∷ xs) = grind (arith, cases_Bool, any-filter p q xs)

bit-one : (b : Bool) (n : ℕ) → n ≡ bit_if b → (n == 1) ≡ b
bit-one true n h = ap (λ x. x == 1) h
bit-one false n h = ap (λ x. x == 1) h

pub reach-is : (e : Instance) (w : List Bool) (low k : ℕ) (words : List ℕ) → AreReached (voters e) e low words → k < 128
    → filter (funded_with_bit w words k) (all_projects e) ≡ reach e w (supporters e (low + k + 1))
reach-is e w low k words h small =
    filter-same (funded_with_bit w words k)
    (λ j. has w j && list_any (λ i. approves e i j) (supporters e (low + k + 1))) (projects e) 1
    (λ j from to.
    let place : j - 1 + 1 ≡ j = omega arith in
    ap (λ b. has w j && b)
    (bit-one _ _ (h.each (j - 1) k (omega arith) small)
    ∙ ap (λ x. share_a_voter (voters e) e x (low + k + 1)) place
    ∙ sym (any-filter (λ i. approves e i j) (λ i. approves e i (low + k + 1)) (all_voters e))))

-- the group that was found among the first projects
abbrev pub amount_of : Instance → ℕ → ℤ
amount_of e c = pos (share_of e c)

abbrev pub finding_of : Instance → List Bool → Option NearestGroup → Finding
finding_of e w o = record {
  first = None;
  count = 0;
  shown = option_map (λ g. comparison (bound_of e w) (amount_of e) g.project) o;
}

pub record IsNearestTo (n : ℕ) (e : Instance) (w : List Bool) (o : Option NearestGroup) : Type 0 where
  pub found : IsFindingTo n (λ c. false) (λ c. not (has w c)) (bound_of e w) (amount_of e) (finding_of e w o)
  pub figures : IfSome o (λ g. g ≡ group_of e w g.project)

pub nearest-past : (n : ℕ) (e : Instance) (w : List Bool) (o : Option NearestGroup) → IsNearestTo n e w o
    → has w (n + 1) ≡ true → IsNearestTo (n + 1) e w o
nearest-past n e w o h is = record {
  found = finding-next (λ c. false) (λ c. not (has w c)) (bound_of e w) (amount_of e) n (finding_of e w o) h.found false
      false refl (ap not is);
  figures = h.figures;
}

-- one more candidate
picked : (e : Instance) (w : List Bool) (c d : ℕ) (b : Bool)
    → record {
      first = None;
      count = 0;
      shown = cond (false || b) (Some (comparison (bound_of e w) (amount_of e) c)) (Some (comparison (bound_of e w) (amount_of e) d));
    } ≡ finding_of e w (Some (cond b (group_of e w c) (group_of e w d)))
picked e w c d true = refl
picked e w c d false = refl

nearer-is : (e : Instance) (w : List Bool) (c : ℕ) (o : Option NearestGroup)
    → IfSome o (λ g. g ≡ group_of e w g.project)
    → noted false (comparison (bound_of e w) (amount_of e) c) (finding_of e w o)
    ≡ finding_of e w (Some (nearer_of e o (group_of e w c)))
nearer-is e w c None h = refl
nearer-is e w c (Some g) h =
    ap (λ x. noted false (comparison (bound_of e w) (amount_of e) c) (finding_of e w (Some x))) h
    ∙ picked e w c g.project (int_lt (surplus e w g.project) (surplus e w c))
    ∙ sym (ap (λ x. finding_of e w (Some (nearer_of e (Some x) (group_of e w c)))) h)

either-figures : (e : Instance) (w : List Bool) (c : ℕ) (g : NearestGroup) (b : Bool) → g ≡ group_of e w g.project
    → cond b (group_of e w c) g ≡ group_of e w (cond b (group_of e w c) g).project
either-figures e w c g true h = refl
either-figures e w c g false h = h

nearer-figures : (e : Instance) (w : List Bool) (c : ℕ) (o : Option NearestGroup)
    → IfSome o (λ g. g ≡ group_of e w g.project)
    → nearer_of e o (group_of e w c) ≡ group_of e w (nearer_of e o (group_of e w c)).project
nearer-figures e w c None h = refl
nearer-figures e w c (Some g) h = either-figures e w c g (int_lt (surplus_by e g) (surplus_by e (group_of e w c))) h

pub nearest-next : (n : ℕ) (e : Instance) (w : List Bool) (o : Option NearestGroup) (g new : NearestGroup)
    → IsNearestTo n e w o → has w (n + 1) ≡ false → g ≡ group_of e w (n + 1) → new ≡ nearer_of e o g
    → IsNearestTo (n + 1) e w (Some new)
nearest-next n e w o g new h is figures new_is =
    let same : new ≡ nearer_of e o (group_of e w (n + 1)) = new_is ∙ ap (nearer_of e o) figures in
    subst (λ x. IsNearestTo (n + 1) e w (Some x)) (sym same)
    (record {
      found =
          subst (λ f. IsFindingTo (n + 1) (λ c. false) (λ c. not (has w c)) (bound_of e w) (amount_of e) f)
          (nearer-is e w (n + 1) o h.figures)
          (tried (λ c. false) (λ c. not (has w c)) (bound_of e w) (amount_of e) n (finding_of e w o) false h.found refl
          (ap not is));
      figures = nearer-figures e w (n + 1) o h.figures;
    })

-- all projects were looked at
shown-groups : (e : Instance) (w : List Bool) (o : Option NearestGroup) (x : Option ℕ)
    → IfSome o (λ g. g ≡ group_of e w g.project)
    → option_map (λ g. comparison (bound_of e w) (amount_of e) g.project) o
    ≡ option_map (comparison (bound_of e w) (amount_of e)) x
    → o ≡ option_map (group_of e w) x
shown-groups e w None None h is = refl
shown-groups e w None (Some c) h is = cc is
shown-groups e w (Some g) None h is = cc is
shown-groups e w (Some g) (Some c) h is =
    let at : g.project ≡ c = ap (λ o. option_map_or (λ m. m.at) o 0) is in
    ap Some (h ∙ ap (group_of e w) at)

pub nearest-is : (e : Instance) (w : List Bool) (o : Option NearestGroup) → IsNearestTo (projects e) e w o
    → o ≡ nearest_group e w
nearest-is e w o h =
    shown-groups e w o (closest (unfunded e w) (surplus e w)) h.figures
    (ap (λ f. f.shown)
    (found-as (projects e) (λ c. false) (λ c. not (has w c)) [] (unfunded e w) (bound_of e w) (bound_of e w)
    (amount_of e) (amount_of e) (finding_of e w o) h.found
    (filter-none (λ c. false) (projects e) 1 (λ j from to. refl)) same refl))
  where
    same : Same (projects e) (bound_of e w) (bound_of e w) (amount_of e) (amount_of e)
    same = record { bounds = λ x low high. refl; amounts = λ x low high. refl }

-- the figures of the next project, by the counts and the words
pub figures-are : (e : Instance) (w : List Bool) (n s f : ℕ) (counts words : List ℕ) → AreSupporters (voters e) e counts
    → AreReached (voters e) e (n - n % 128) words → n < projects e → s ≡ get_or counts n s
    → f ≡ sum_by (cost_of e) (filter (funded_with_bit w words (n % 128)) (all_projects e))
    → record { project = n + 1; supporters = s; funded_for = f } ≡ group_of e w (n + 1)
figures-are e w n s f counts words counted reached within s_is f_is =
    let s_then : s ≡ length (supporters e (n + 1)) =
    s_is ∙ get_or_default counts n s 0 (omega (arith, counted.as_many)) ∙ counted.each n within in
    let at : n - n % 128 + n % 128 + 1 ≡ n + 1 = omega arith in
    let f_then : f ≡ funded_for e w (supporters e (n + 1)) =
    f_is ∙ ap (sum_by (cost_of e)) (reach-is e w (n - n % 128) (n % 128) words reached (omega arith))
    ∙ ap (λ c. funded_for e w (supporters e c)) at in
    rw (s_then, f_then) refl

-- the nearer of two groups whose figures fit
either-small : (e : Instance) (g h : NearestGroup) (b : Bool) → IsSmallGroup e g → IsSmallGroup e h
    → IsSmallGroup e (cond b g h)
either-small e g h true p q = p
either-small e g h false p q = q

pub nearer-small : (e : Instance) (o : Option NearestGroup) (g : NearestGroup) → IfSome o (IsSmallGroup e)
    → IsSmallGroup e g → IsSmallGroup e (nearer_of e o g)
nearer-small e None g p q = q
nearer-small e (Some h) g p q = either-small e g h (int_lt (surplus_by e h) (surplus_by e g)) q p
