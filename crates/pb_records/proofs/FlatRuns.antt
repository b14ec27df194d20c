-- Lists that are kept one behind the other in one list.
use Rattle.std.proofs.Common.{◌≡◌, ◌∙◌, ◌≤◌, ◌<◌, ◌+◌, ◌++◌, ℕ, zero, suc, List, [], ◌∷◌, refl, sym, ap, add-one, arith, length, drop, get_or, length-append}
use Rattle.std.specs.List.{between, sum_by}
use Rattle.std.proofs.lemmas.List.{get_or_read, take-append-le, take_all, drop_at}
use Rattle.std.proofs.lemmas.List.Sums.{sum_by-cons}
use Rattle.std.proofs.lemmas.Slice.{between_is}
use Rattle.std.proofs.lemmas.List.Edits.{length-between}
use Rattle.pb_records.specs.Flat.{AreStarts, Climb, cut_at_starts, cut_from}

-- a climb

climb-ends : (low high : ℕ) (xs : List ℕ) → Climb low xs high → low ≤ high
climb-ends low high [] h = omega (arith, h)
climb-ends low high (x ∷ xs) h = omega (arith, h.0, climb-ends x high xs h.1)

climb-below : (low high : ℕ) (xs : List ℕ) → Climb low xs high → (i : ℕ) → i < length xs → get_or xs i 0 ≤ high
climb-below low high [] h i l = omega (arith, l)
climb-below low high (x ∷ xs) h zero l = climb-ends x high xs h.1
climb-below low high (x ∷ xs) h (suc i) l = climb-below x high xs h.1 i (omega (arith, l))

climb-step : (low high : ℕ) (xs : List ℕ) → Climb low xs high → (i : ℕ) → i < length xs
    → get_or (low ∷ xs) i 0 ≤ get_or xs i 0
climb-step low high [] h i l = omega (arith, l)
climb-step low high (x ∷ xs) h zero l = h.0
climb-step low high (x ∷ xs) h (suc i) l = climb-step x high xs h.1 i (omega (arith, l))

climb-more : (low high more : ℕ) (xs : List ℕ) → Climb low xs high → high ≤ more → Climb low (xs ++ more ∷ []) more
climb-more low high more [] h l = (omega (arith, h, l), refl)
climb-more low high more (x ∷ xs) h l = (h.0, climb-more x high more xs h.1 l)

-- starts

starts-step : (starts : List ℕ) (n i : ℕ) → AreStarts starts n → i + 1 < length starts
    → get_or starts i 0 ≤ get_or starts (i + 1) 0
starts-step starts n i h l = grind (arith, add-one, climb-step)

starts-within : (starts : List ℕ) (n i : ℕ) → AreStarts starts n → i < length starts → get_or starts i 0 ≤ n
starts-within starts n i h l = grind (arith, climb-below)

starts-push : (starts : List ℕ) (n m : ℕ) → AreStarts starts n → n ≤ m → AreStarts (starts ++ m ∷ []) m
starts-push starts n m h l = grind (arith, climb-more)

module _ {A : Type 0} where
  cut-length : (start : ℕ) (starts : List ℕ) (entries : List A) → length (cut_from start starts entries) ≡ length starts
  unfolding cut_from
  cut-length start [] entries = refl
  cut-length start (next ∷ starts) entries = ap suc (cut-length next starts entries)

  cut-get : (start : ℕ) (starts : List ℕ) (entries : List A) (i : ℕ) → i < length starts
      → get_or (cut_from start starts entries) i [] ≡ between (get_or (start ∷ starts) i 0) (get_or starts i 0) entries
  unfolding cut_from
  cut-get start [] entries i l = absurd (omega (arith, l))
  cut-get start (next ∷ starts) entries zero l = refl
  cut-get start (next ∷ starts) entries (suc i) l = cut-get next starts entries i (omega (arith, l))

  -- what stands behind all starts is in no run
  cut-append : (start high : ℕ) (starts : List ℕ) (entries more : List A) → Climb start starts high
      → high ≤ length entries
      → cut_from start starts (entries ++ more) ≡ cut_from start starts entries
  unfolding cut_from
  cut-append start high [] entries more h l = refl
  cut-append start high (next ∷ starts) entries more h l =
      let below : next ≤ length entries = omega (arith, climb-ends next high starts h.1) in
      let same : between start next (entries ++ more) ≡ between start next entries =
      between_is (entries ++ more) start next ∙ ap (drop start) (take-append-le next entries more below)
      ∙ sym (between_is entries start next) in
      rw (same, cut-append next high starts entries more h.1 l) refl

  cut-more : (start high next : ℕ) (starts : List ℕ) (entries : List A) → Climb start starts high
      → cut_from start (starts ++ next ∷ []) entries ≡ cut_from start starts entries ++ between high next entries ∷ []
  unfolding cut_from
  cut-more start high next [] entries h = rw h refl
  cut-more start high next (x ∷ starts) entries h =
      ap (λ l. between start x entries ∷ l) (cut-more x high next starts entries h.1)

  cut-total : (start high : ℕ) (starts : List ℕ) (entries : List A) → Climb start starts high → high ≤ length entries
      → start + sum_by length (cut_from start starts entries) ≡ high
  unfolding cut_from
  cut-total start high [] entries h l = omega (arith, h)
  cut-total start high (next ∷ starts) entries h l =
      let below : next ≤ length entries = omega (arith, climb-ends next high starts h.1) in
      omega (
        arith,
        h.0,
        sum_by-cons length (between start next entries) (cut_from next starts entries),
        length-between entries start next below,
        cut-total next high starts entries h.1 l,
      )

  -- there is one start more than there are runs
  pub runs-length : (starts : List ℕ) (n : ℕ) (entries : List A) → AreStarts starts n
      → length (cut_at_starts starts entries) + 1 ≡ length starts
  unfolding cut_at_starts
  runs-length starts n entries h = rw h.first (omega (arith, cut-length 0 h.others entries))

  runs-get : (starts : List ℕ) (n : ℕ) (entries : List A) (i : ℕ) → AreStarts starts n → i + 1 < length starts
      → get_or (cut_at_starts starts entries) i [] ≡ between (get_or starts i 0) (get_or starts (i + 1) 0) entries
  unfolding cut_at_starts
  runs-get starts n entries i h l =
      let within : i < length h.others = omega (arith, ap length h.first) in
      rw (h.first, add-one i) (cut-get 0 h.others entries i within)

  -- the run at a place stands between its start and the next
  pub record IsRunAt (starts : List ℕ) (entries : List A) (place start next : ℕ) : Type 0 where
    pub rising : start ≤ next
    pub within : next ≤ length entries
    pub run : between start next entries ≡ get_or (cut_at_starts starts entries) place []

  pub run-at : (starts : List ℕ) (entries : List A) (place start next : ℕ) → AreStarts starts (length entries)
      → place < length (cut_at_starts starts entries)
      → start ≡ get_or starts place start → next ≡ get_or starts (place + 1) next
      → IsRunAt starts entries place start next
  run-at starts entries place start next h l s n =
      let behind : place + 1 < length starts = omega (arith, l, runs-length starts (length entries) entries h) in
      let s0 : start ≡ get_or starts place 0 = get_or_read starts place start (omega (arith, behind)) s 0 in
      let n0 : next ≡ get_or starts (place + 1) 0 = get_or_read starts (place + 1) next behind n 0 in
      record {
        rising = omega (arith, s0, n0, starts-step starts (length entries) place h behind);
        within = omega (arith, n0, starts-within starts (length entries) (place + 1) h behind);
        run = rw (s0, n0) (sym (runs-get starts (length entries) entries place h behind));
      }

  -- one more run at the end
  pub runs-push : (starts : List ℕ) (entries more : List A) → AreStarts starts (length entries)
      → cut_at_starts (starts ++ (length entries + length more) ∷ []) (entries ++ more)
      ≡ cut_at_starts starts entries ++ more ∷ []
  unfolding cut_at_starts
  runs-push starts entries more h =
      let n = length entries in
      let m = length entries + length more in
      let all = entries ++ more in
      let last : between n m all ≡ more = between_is all n m
      ∙ ap (drop n) (take_all m all (omega (arith, length-append entries more))) ∙ drop_at entries more n refl in
      rw h.first
      (cut-more 0 n m h.others all h.climb
      ∙ ap (λ l. l ++ between n m all ∷ []) (cut-append 0 n h.others entries more h.climb (omega arith))
      ∙ ap (λ l. cut_from 0 h.others entries ++ l ∷ []) last)

  pub starts-pushed : (starts : List ℕ) (entries more : List A) → AreStarts starts (length entries)
      → AreStarts (starts ++ (length entries + length more) ∷ []) (length (entries ++ more))
  starts-pushed starts entries more h =
      rw length-append (starts-push starts (length entries) (length entries + length more) h (omega arith))

  -- the runs have all entries
  pub runs-total : (starts : List ℕ) (entries : List A) → AreStarts starts (length entries)
      → sum_by length (cut_at_starts starts entries) ≡ length entries
  unfolding cut_at_starts
  runs-total starts entries h =
      rw h.first (omega (arith, cut-total 0 (length entries) h.others entries h.climb (omega arith)))
