-- A set of rows as a rising list: its members, and the list with a row more or with one of them gone.
use Rattle.std.proofs.Common.{◌≡◌, ℕ, zero, suc, ◌<◌, ◌≤◌, cond, not, ◌==◌, List, [], ◌∷◌, length, map, get_or, refl, sym, ◌∙◌, ap, subst, arith, inl, inr, ◌⊎◌, ⊎_elim, eq-eqb, ne_eqb}
use Rattle.std.specs.List.{insert, remove}
use Rattle.std.proofs.lemmas.Bool.{cond-false, cond_below, cond_above, cases_lt}
use Rattle.mpc_sets.specs.RowSet.{RisesWithin, Among, with_row, without_row}
use Rattle.mpc_online.specs.Positions.{place_of}

pub among_within : (low high i : ℕ) (s : List ℕ) → RisesWithin low high s → Among i s → (low < i) × (i ≤ high)
among_within low high i [] r h = absurd h
among_within low high i (j ∷ rest) r (inl e) = omega (arith, r.0, r.1)
among_within low high i (j ∷ rest) r (inr h) = let w = among_within j high i rest r.2 h in omega (arith, r.0, w)

pub among_at : (s : List ℕ) (k : ℕ) → k < length s → Among (get_or s k 0) s
among_at [] k h = absurd (omega arith)
among_at (j ∷ s) zero h = inl refl
among_at (j ∷ s) (suc k) h = inr (among_at s k (omega arith))

pub rises_higher : (low high top : ℕ) (s : List ℕ) → high ≤ top → RisesWithin low high s → RisesWithin low top s
rises_higher low high top [] h r = tt
rises_higher low high top (i ∷ s) h r = (r.0, omega (arith, r.1), rises_higher i high top s h r.2)

rises_lower : (low below high : ℕ) (s : List ℕ) → low ≤ below → RisesWithin below high s → RisesWithin low high s
rises_lower low below high [] h r = tt
rises_lower low below high (i ∷ s) h r = (omega (arith, r.0), r.1, r.2)

-- ---- one member gone
same_test : (i j : ℕ) {A : Type 0} (x y : A) → i ≡ j → cond (not (i == j)) x y ≡ y
same_test i j x y e = ap (λ b. cond (not b) x y) (eq-eqb i j e)

other_test : (i j : ℕ) {A : Type 0} (x y : A) → (i ≡ j → ⊥) → cond (not (i == j)) x y ≡ x
other_test i j x y e = ap (λ b. cond (not b) x y) (ne_eqb i j e)

kept : (low high i : ℕ) (s : List ℕ) → RisesWithin low high s → i ≤ low → without_row i s ≡ s
kept low high i [] r h = refl
kept low high i (j ∷ s) r h =
    let l : low < j = r.0 in
    other_test j i (j ∷ without_row i s) (without_row i s) (λ e. omega arith) ∙ ap (λ u. j ∷ u) (kept j high i s r.2 (omega arith))

pub without-remove : (low high k : ℕ) (s : List ℕ) → RisesWithin low high s → k < length s → without_row (get_or s k 0) s ≡ remove s k
without-remove low high k [] r h = absurd (omega arith)
without-remove low high zero (j ∷ s) r h = same_test j j (j ∷ without_row j s) (without_row j s) refl ∙ kept j high j s r.2 (omega arith)
without-remove low high (suc k) (j ∷ s) r h =
    let w : (j < get_or s k 0) × (get_or s k 0 ≤ high) = among_within j high (get_or s k 0) s r.2 (among_at s k (omega arith)) in
    other_test j (get_or s k 0) (j ∷ without_row (get_or s k 0) s) (without_row (get_or s k 0) s) (λ e. omega (arith, w.0)) ∙ ap (λ u. j ∷ u) (without-remove j high k s r.2 (omega arith))

pub rises-remove : (low high k : ℕ) (s : List ℕ) → RisesWithin low high s → RisesWithin low high (remove s k)
rises-remove low high zero [] r = tt
rises-remove low high zero (j ∷ s) r = let l : low < j = r.0 in rises_lower low j high s (omega arith) r.2
rises-remove low high (suc k) [] r = tt
rises-remove low high (suc k) (j ∷ s) r = (r.0, r.1, rises-remove j high k s r.2)

pub among-remove : (i k : ℕ) (s : List ℕ) → Among i (remove s k) → Among i s
among-remove i zero [] h = h
among-remove i zero (j ∷ s) h = inr h
among-remove i (suc k) [] h = h
among-remove i (suc k) (j ∷ s) (inl e) = inl e
among-remove i (suc k) (j ∷ s) (inr h) = inr (among-remove i k s h)

pub map-remove : {A B : Type 0} (f : A → B) (k : ℕ) (s : List A) → map f (remove s k) ≡ remove (map f s) k
map-remove f zero [] = refl
map-remove f zero (x ∷ s) = refl
map-remove f (suc k) [] = refl
map-remove f (suc k) (x ∷ s) = ap (λ u. f x ∷ u) (map-remove f k s)

-- ---- one member more
pub map-insert : {A B : Type 0} (f : A → B) (k : ℕ) (x : A) (s : List A) → map f (insert s k x) ≡ insert (map f s) k (f x)
map-insert f zero x s = refl
map-insert f (suc k) x [] = refl
map-insert f (suc k) x (y ∷ s) = ap (λ u. f y ∷ u) (map-insert f k x s)

pub place_within : (r : ℕ) (s : List ℕ) → place_of r s ≤ length s
place_within r [] = omega arith
place_within r (j ∷ s) = ⊎_elim
    (λ h. let e = cond_below j r (suc (place_of r s)) 0 h in let w = place_within r s in omega arith)
    (λ h. let e = cond_above j r (suc (place_of r s)) 0 0 h refl in omega arith)
    (cases_lt j r)

-- the place by what stands before it and in it
pub place_is : (r k : ℕ) (s : List ℕ) → k ≤ length s → ((j : ℕ) → j < k → get_or s j 0 < r) → (k < length s → r ≤ get_or s k 0) → place_of r s ≡ k
place_is r zero [] h before at = refl
place_is r (suc k) [] h before at = absurd (omega arith)
place_is r zero (j ∷ s) h before at = let l : r ≤ j = at (omega arith) in sym (cond_above j r (suc (place_of r s)) 0 0 l refl)
place_is r (suc k) (j ∷ s) h before at =
    let l : j < r = before 0 (omega arith) in
    sym (cond_below j r (suc (place_of r s)) 0 l) ∙ ap suc (place_is r k s (omega arith) (λ i m. before (suc i) (omega arith)) (λ m. at (omega arith)))

pub with-insert : (r : ℕ) (s : List ℕ) → (Among r s → ⊥) → with_row r s ≡ insert s (place_of r s) r
with-insert r [] absent = refl
with-insert r (j ∷ s) absent = ⊎_elim below (λ h. ⊎_elim (above (with-insert r s (λ m. absent (inr m)))) (λ k. absurd (absent (inl (let e : r ≡ j = omega arith in e)))) (cases_lt j r)) (cases_lt r j)
  where
    below : r < j → with_row r (j ∷ s) ≡ insert (j ∷ s) (place_of r (j ∷ s)) r
    below h =
        sym (cond_below r j (r ∷ j ∷ s) (cond (r == j) (j ∷ s) (j ∷ with_row r s)) h)
        ∙ ap (λ k. insert (j ∷ s) k r) (cond_above j r (suc (place_of r s)) 0 0 (omega arith) refl)

    above : with_row r s ≡ insert s (place_of r s) r → j < r → with_row r (j ∷ s) ≡ insert (j ∷ s) (place_of r (j ∷ s)) r
    above rest h =
        sym (cond_above r j (r ∷ j ∷ s) (cond (r == j) (j ∷ s) (j ∷ with_row r s)) (cond (r == j) (j ∷ s) (j ∷ with_row r s)) (omega arith) refl)
        ∙ cond-false (r == j) (j ∷ s) (j ∷ with_row r s) (ne_eqb r j (λ e. omega arith))
        ∙ ap (λ u. j ∷ u) rest
        ∙ ap (λ k. insert (j ∷ s) k r) (cond_below j r (suc (place_of r s)) 0 h)

pub rises-with : (low high r : ℕ) (s : List ℕ) → RisesWithin low high s → low < r → r ≤ high → (Among r s → ⊥) → RisesWithin low high (with_row r s)
rises-with low high r [] q l h absent = (l, h, tt)
rises-with low high r (j ∷ s) q l h absent = ⊎_elim below (λ m. ⊎_elim (above (λ k. rises-with j high r s q.2 k h (λ a. absent (inr a)))) (λ k. absurd (absent (inl (let e : r ≡ j = omega arith in e)))) (cases_lt j r)) (cases_lt r j)
  where
    below : r < j → RisesWithin low high (with_row r (j ∷ s))
    below m = subst (RisesWithin low high) (cond_below r j (r ∷ j ∷ s) (cond (r == j) (j ∷ s) (j ∷ with_row r s)) m) (l, h, (m, q.1, q.2))

    above : (j < r → RisesWithin j high (with_row r s)) → j < r → RisesWithin low high (with_row r (j ∷ s))
    above rest m =
        subst (RisesWithin low high)
        (sym (sym (cond_above r j (r ∷ j ∷ s) (cond (r == j) (j ∷ s) (j ∷ with_row r s)) (cond (r == j) (j ∷ s) (j ∷ with_row r s)) (omega arith) refl)
        ∙ cond-false (r == j) (j ∷ s) (j ∷ with_row r s) (ne_eqb r j (λ e. omega arith))))
        (q.0, q.1, rest m)

pub among-insert : (i k r : ℕ) (s : List ℕ) → Among i (insert s k r) → (i ≡ r) ⊎ Among i s
among-insert i zero r s (inl e) = inl e
among-insert i zero r s (inr h) = inr h
among-insert i (suc k) r [] (inl e) = inl e
among-insert i (suc k) r [] (inr h) = absurd h
among-insert i (suc k) r (j ∷ s) (inl e) = inr (inl e)
among-insert i (suc k) r (j ∷ s) (inr h) = by (among-insert i k r s h)
  where
    by : (i ≡ r) ⊎ Among i s → (i ≡ r) ⊎ Among i (j ∷ s)
    by (inl e) = inl e
    by (inr m) = inr (inr m)
