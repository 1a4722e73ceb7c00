-- Where the rows of a plant stand in its program.
use Rattle.std.proofs.Common.{◌≡◌, ℕ, suc, ◌+◌, ◌-◌, ◌*◌, ◌/◌, ◌%◌, ◌<◌, ◌≤◌, List, [], length, get_or, pos, refl, sym, ◌∙◌, ap, arith, ◌⊎◌, inl, inr, ⊎_elim, Some, slice_get}
use Rattle.std.proofs.Math.Nat.{mul-le-mul_left, mul-le-mul_right}
use Rattle.std.proofs.lemmas.Bool.{cases_lt, cases_order}
use Rattle.std.proofs.lemmas.Option.{slice_get-get_or, get_or_from_slice_get, slice_get_within}
use Rattle.mpc_exact.specs.Rational.{int}
use Rattle.mpc_plant.specs.declared.lists.PlantRow.{PlantRow}
use Rattle.mpc_plant.specs.declared.plants.Plant.{Plant}
use Rattle.mpc_condense.specs.Stages.{IsRow}
use Rattle.mpc_condense.specs.Causes.{row_count}

-- ---- a row of the program is a row of the plant at one step only
same_place : (m k r k' r' : ℕ) → r < m → r' < m → k * m + r ≡ k' * m + r' → (k ≡ k') × (r ≡ r')
same_place m k r k' r' l l' e = by (cases_order k k')
  where
    by : (k ≡ k') ⊎ ((k < k') ⊎ (k' < k)) → (k ≡ k') × (r ≡ r')
    by (inl p) = let q : k * m ≡ k' * m = ap (λ z. z * m) p in (p, omega arith)
    by (inr (inl p)) = let q : suc k * m ≤ k' * m = mul-le-mul_right m p in absurd (omega arith)
    by (inr (inr p)) = let q : suc k' * m ≤ k * m = mul-le-mul_right m p in absurd (omega arith)

same_item : {X : Type 0} (xs : List X) (r r' : ℕ) (a b : X) → slice_get xs r ≡ Some a → slice_get xs r' ≡ Some b → r ≡ r' → a ≡ b
same_item xs r r' a b e f p = sym (get_or_from_slice_get xs r a a e) ∙ ap (λ z. get_or xs z a) p ∙ get_or_from_slice_get xs r' b a f

-- a number below n m is k m + r with k below n and r below m
quotient_below : (i n m : ℕ) → i < n * m → 0 < m → (i / m < n) × ((i / m) * m + i % m ≡ i) × (i % m < m)
quotient_below i n m l some = (below, omega arith, omega arith)
  where
    below : i / m < n
    below = ⊎_elim (λ p. p) (λ p. let h : m * n ≤ m * (i / m) = mul-le-mul_left m p in absurd (omega arith)) (cases_lt (i / m) n)

module _ (plant : Plant) where
  pub before_end : (k r : ℕ) → k < plant.horizon → r < length plant.rows → k * length plant.rows + r < plant.horizon * length plant.rows
  before_end k r l m = let q : suc k * length plant.rows ≤ plant.horizon * length plant.rows = mul-le-mul_right (length plant.rows) l in omega arith

  pub row_unique : (i k k' : ℕ) (row row' : PlantRow) → IsRow plant i k row → IsRow plant i k' row' → (k ≡ k') × (row ≡ row')
  row_unique i k k' row row' (inl (r, a, b, c)) (inl (r', a', b', c')) =
      let p = same_place (length plant.rows) k r k' r' (slice_get_within plant.rows r row b) (slice_get_within plant.rows r' row' b') (sym c ∙ c') in
      (p.0, same_item plant.rows r r' row row' b b' p.1)
  row_unique i k k' row row' (inl (r, a, b, c)) (inr (r', a', b', c')) =
      let l = before_end k r a (slice_get_within plant.rows r row b) in absurd (omega arith)
  row_unique i k k' row row' (inr (r, a, b, c)) (inl (r', a', b', c')) =
      let l = before_end k' r' a' (slice_get_within plant.rows r' row' b') in absurd (omega arith)
  row_unique i k k' row row' (inr (r, a, b, c)) (inr (r', a', b', c')) =
      let p : r ≡ r' = omega arith in
      (a ∙ sym a', same_item plant.terminal r r' row row' b b' p)

  pub row_within : (i k : ℕ) (row : PlantRow) → IsRow plant i k row → i < row_count plant
  row_within i k row (inl (r, a, b, c)) = let l = before_end k r a (slice_get_within plant.rows r row b) in omega arith
  row_within i k row (inr (r, a, b, c)) = let l = slice_get_within plant.terminal r row b in omega arith

  pub step_within : (i k : ℕ) (row : PlantRow) → IsRow plant i k row → k ≤ plant.horizon
  step_within i k row (inl (r, a, b, c)) = omega arith
  step_within i k row (inr (r, a, b, c)) = omega arith

  -- each row of the program is one of the plant
  pub record HasRow (i : ℕ) : Type 0 where
    pub step : ℕ
    pub row : PlantRow
    pub is_row : IsRow plant i step row

  blank : PlantRow
  blank = record { x = []; u = []; max = int (pos 0) }

  some_rows : (i : ℕ) → i < plant.horizon * length plant.rows → 0 < length plant.rows
  some_rows i p =
      ⊎_elim (λ s. s) (λ s. let none_left : length plant.rows ≡ 0 = omega arith in let z : plant.horizon * length plant.rows ≡ 0 = ap (λ m. plant.horizon * m) none_left ∙ omega arith in absurd (omega arith)) (cases_lt 0 (length plant.rows))

  in_stage : (i : ℕ) → i < plant.horizon * length plant.rows → HasRow i
  in_stage i p =
      let q = quotient_below i plant.horizon (length plant.rows) p (some_rows i p) in
      let r = i % length plant.rows in
      record { step = i / length plant.rows; row = get_or plant.rows r blank; is_row = inl (r, q.0, slice_get-get_or plant.rows r blank q.2, sym q.1) }

  in_end : (i : ℕ) → i < row_count plant → plant.horizon * length plant.rows ≤ i → HasRow i
  in_end i l p =
      let r = i - plant.horizon * length plant.rows in
      record { step = plant.horizon; row = get_or plant.terminal r blank; is_row = inr (r, refl, slice_get-get_or plant.terminal r blank (omega arith), omega arith) }

  pub row_exists : (i : ℕ) → i < row_count plant → HasRow i
  row_exists i l = ⊎_elim (λ p. in_stage i p) (λ p. in_end i l p) (cases_lt i (plant.horizon * length plant.rows))
