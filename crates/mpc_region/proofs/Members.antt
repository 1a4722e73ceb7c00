-- The members of a set, and their rows.
use Rattle.std.proofs.Common.{◌≡◌, ℕ, zero, suc, ◌-◌, ◌<◌, ◌≤◌, ◌||◌, true, false, eqb, List, [], ◌∷◌, length, get_or, refl, sym, ◌∙◌, ap, arith, ◌⊎◌, inl, inr, ⊎_elim, eq-eqb, ne_eqb, zero-lt-suc}
use Rattle.std.proofs.lemmas.Bool.{cases_eq, cases_lt, cond-true, cond-false}
use Rattle.std.proofs.lemmas.List.{get_or-map, length-map}
use Rattle.mpc_exact.specs.Rational.{ℚ}
use Rattle.mpc_space.specs.Vector.{cell, coordinate}
use Rattle.mpc_space.specs.Matrix.{RationalMatrix, height, IsRectangular}
use Rattle.mpc_sets.specs.RowSet.{IsSetOfRows, RisesWithin}
use Rattle.mpc_rows.specs.ActiveSets.{row_of, rows_of}
use Rattle.mpc_rows.specs.LawRows.{is_member, place_of}

-- ---- they rise
rises_from : (low high : ℕ) (s : List ℕ) (k : ℕ) → RisesWithin low high s → k < length s → (low < get_or s k 0) × (get_or s k 0 ≤ high)
rises_from low high [] k h l = absurd (omega arith)
rises_from low high (i ∷ s) zero h l = (h.0, h.1)
rises_from low high (i ∷ s) (suc k) h l =
    let r = rises_from i high s k h.2 (omega arith) in
    let a = h.0 in
    let b = r.0 in
    (omega arith, r.1)

rises : (low high : ℕ) (s : List ℕ) (k l : ℕ) → RisesWithin low high s → k < l → l < length s → get_or s k 0 < get_or s l 0
rises low high [] k l h a b = absurd (omega arith)
rises low high (i ∷ s) k zero h a b = absurd (omega arith)
rises low high (i ∷ s) zero (suc l) h a b = (rises_from i high s l h.2 (omega arith)).0
rises low high (i ∷ s) (suc k) (suc l) h a b = rises i high s k l h.2 (omega arith) (omega arith)

module _ (rows : ℕ) (s : List ℕ) (set : IsSetOfRows rows s) where
  pub member : (k : ℕ) → k < length s → (1 ≤ get_or s k 0) × (get_or s k 0 ≤ rows)
  member k l = rises_from 0 rows s k set.rises l

  pub members_rise : (k l : ℕ) → k < l → l < length s → get_or s k 0 < get_or s l 0
  members_rise k l a b = rises 0 rows s k l set.rises a b

-- ---- their rows
pub member_cell : (m : List (List ℚ)) (s : List ℕ) (k i j : ℕ) → k < length s → i ≡ get_or s k 0 → cell m (i - 1) j ≡ cell (rows_of m s) k j
member_cell m s k i j l e = ap (λ row. coordinate row j) (sym (get_or-map (row_of m) s k 0 [] l ∙ ap (row_of m) (sym e)))

pub length-rows_of : (m : List (List ℚ)) (s : List ℕ) → length (rows_of m s) ≡ length s
length-rows_of m s = length-map s (row_of m)

pub row_within : (m : RationalMatrix) (n i : ℕ) → IsRectangular m → m.columns ≡ n → length (get_or m.rows i []) ≤ n
row_within m n i r e = ⊎_elim (λ l. omega (arith, r i [] l)) (λ l. omega (arith, past m.rows i l)) (cases_lt i (height m))
  where
    past : (rows : List (List ℚ)) (i : ℕ) → length rows ≤ i → length (get_or rows i []) ≡ 0
    past [] i h = refl
    past (row ∷ rows) zero h = absurd (omega arith)
    past (row ∷ rows) (suc i) h = past rows i (omega arith)

pub rows_within : (m : RationalMatrix) (n : ℕ) (s : List ℕ) → IsRectangular m → m.columns ≡ n → (i : ℕ) → length (get_or (rows_of m.rows s) i []) ≤ n
rows_within m n [] r e i = omega arith
rows_within m n (j ∷ s) r e zero = row_within m n (j - 1) r e
rows_within m n (j ∷ s) r e (suc i) = rows_within m n s r e i

-- ---- where a member stands
member_later : (i j : ℕ) (s : List ℕ) → (i ≡ j → ⊥) → is_member i (j ∷ s) ≡ is_member i s
member_later i j s n = ap (λ b. b || is_member i s) (ne_eqb i j n)

place_here : (i j : ℕ) (s : List ℕ) → i ≡ j → place_of i (j ∷ s) ≡ 0
place_here i j s e = cond-true (eqb i j) 0 (suc (place_of i s)) (eq-eqb i j e)

place_later : (i j : ℕ) (s : List ℕ) → (i ≡ j → ⊥) → place_of i (j ∷ s) ≡ suc (place_of i s)
place_later i j s n = cond-false (eqb i j) 0 (suc (place_of i s)) (ne_eqb i j n)

false_true : false ≡ true → ⊥
false_true e = cc

pub member_place : (s : List ℕ) (i : ℕ) → is_member i s ≡ true → (place_of i s < length s) × (get_or s (place_of i s) 0 ≡ i)
member_place [] i e = absurd (false_true e)
member_place (j ∷ s) i e = by (cases_eq i j) (member_place s i)
  where
    by : (i ≡ j) ⊎ (i ≡ j → ⊥) → (is_member i s ≡ true → (place_of i s < length s) × (get_or s (place_of i s) 0 ≡ i)) → (place_of i (j ∷ s) < length (j ∷ s)) × (get_or (j ∷ s) (place_of i (j ∷ s)) 0 ≡ i)
    by (inl f) ih = rw (place_here i j s f) (zero-lt-suc (length s), sym f)
    by (inr f) ih =
        let rest = ih (sym (member_later i j s f) ∙ e) in
        let below : place_of i s < length s = rest.0 in
        rw (place_later i j s f) (omega arith, rest.1)

pub not_member : (s : List ℕ) (i k : ℕ) → is_member i s ≡ false → k < length s → get_or s k 0 ≡ i → ⊥
not_member [] i k e h q = absurd (omega arith)
not_member (j ∷ s) i zero e h q = false_true (sym e ∙ ap (λ b. b || is_member i s) (eq-eqb i j (sym q)))
not_member (j ∷ s) i (suc k) e h q = ⊎_elim
    (λ p. false_true (sym e ∙ ap (λ b. b || is_member i s) (eq-eqb i j p)))
    (λ p. not_member s i k (sym (member_later i j s p) ∙ e) (omega arith) q)
    (cases_eq i j)
