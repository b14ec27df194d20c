-- The projects that are ranked, one after another.
use Rattle.std.proofs.Common.{◌≡◌, ◌∙◌, ◌+◌, ◌<◌, ◌≤◌, ◌++◌, ℕ, Bool, List, [], ◌∷◌, ap, append-nil, append_assoc, arith, get_or, length, sym, take}
use Rattle.std.specs.Prelude.{if◌then◌else◌}
use Rattle.std.proofs.lemmas.List.{length-take-le, take_more}
use Rattle.pb_figures.specs.Ranking.{numbered}

-- with one more project behind
numbered-behind : {A X : Type 0} (holds : A → Bool) (kept : A → ℕ → X) (j : ℕ)
    (ms : List A) (m : A)
    → numbered holds kept j (ms ++ m ∷ [])
    ≡ numbered holds kept j ms ++ (if holds m then kept m (j + length ms) ∷ [] else [])
numbered-behind {A} {X} holds kept j [] m =
    append-nil (if holds m then kept m j ∷ [] else [])
    ∙ ap (λ (n : ℕ). if holds m then kept m n ∷ [] else []) (omega arith)
numbered-behind {A} {X} holds kept j (x ∷ ms) m =
    let first : List X = if holds x then kept x j ∷ [] else [] in
    let rest = numbered holds kept (j + 1) ms in
    let at : j + 1 + length ms ≡ j + length (x ∷ ms) = omega arith in
    ap (λ (l : List X). first ++ l) (numbered-behind holds kept (j + 1) ms m)
    ∙ sym (append_assoc first rest (if holds m then kept m (j + 1 + length ms) ∷ [] else []))
    ∙ ap (λ (n : ℕ). (first ++ rest) ++ (if holds m then kept m n ∷ [] else [])) at

-- with the next one
pub numbered-next : {A X : Type 0} (holds : A → Bool) (kept : A → ℕ → X)
    (ms : List A) (k : ℕ) (d : A) (old new : List X) → k < length ms
    → old ≡ numbered holds kept 1 (take k ms)
    → new ≡ old ++ (if holds (get_or ms k d) then kept (get_or ms k d) (k + 1) ∷ [] else [])
    → new ≡ numbered holds kept 1 (take (k + 1) ms)
numbered-next {A} {X} holds kept ms k d old new below before is =
    let m = get_or ms k d in
    let within : k ≤ length ms = omega (arith, below) in
    let at : k + 1 ≡ 1 + length (take k ms) = omega (arith, length-take-le k ms within) in
    is
    ∙ ap (λ (l : List X). l ++ (if holds m then kept m (k + 1) ∷ [] else [])) before
    ∙ ap (λ (n : ℕ). numbered holds kept 1 (take k ms) ++ (if holds m then kept m n ∷ [] else [])) at
    ∙ sym (numbered-behind holds kept 1 (take k ms) m)
    ∙ ap (λ (l : List A). numbered holds kept 1 l) (sym (take_more ms k d below))
