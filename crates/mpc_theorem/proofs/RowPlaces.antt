-- Each row of a plant's program is one row of the plant at one step.
use Rattle.std.proofs.Common.{◌≡◌, ℕ, ◌+◌, ◌-◌, ◌*◌, ◌/◌, ◌%◌, ◌<◌, ◌≤◌, ◌⊎◌, inl, inr, List, length, suc, Some, None, slice_get, get_or, refl, sym, ◌∙◌, ap, arith}
use Rattle.std.proofs.Math.Nat.{mul-le-mul_right, mod-lt}
use Rattle.std.proofs.lemmas.Nat.{div-add-mod'}
use Rattle.std.proofs.lemmas.Bool.{cases_lt, cases_order}
use Rattle.std.proofs.lemmas.Option.{slice_get_within, slice_get_cases}
use Rattle.mpc_plant.specs.declared.lists.PlantRow.{PlantRow}
use Rattle.mpc_plant.specs.declared.plants.Plant.{Plant}
use Rattle.mpc_condense.specs.Stages.{IsRow}
use Rattle.mpc_condense.specs.Causes.{row_count}

-- what stands at a place within a list
pub some_at : {X : Type 0} (xs : List X) (i : ℕ) → i < length xs → (x : X) × (slice_get xs i ≡ Some x)
some_at {X} xs i l = by ((slice_get_cases xs i).1)
  where
    by : ((x : X) × (i < length xs) × (slice_get xs i ≡ Some x) × (get_or xs i x ≡ x)) ⊎ ((length xs ≤ i) × (slice_get xs i ≡ None)) → (x : X) × (slice_get xs i ≡ Some x)
    by (inl (x, m, e, f)) = (x, e)
    by (inr (m, e)) = absurd (omega (arith, l, m))

pub same_some : {X : Type 0} {x y : X} → Some x ≡ Some y → x ≡ y
same_some e = cc

-- a row of a step lies before the next step's
next_step : (m k step r : ℕ) → k < step → r < m → k * m + r < step * m
next_step m k step r l h = let below : suc k * m ≤ step * m = mul-le-mul_right m l in omega (arith, h, below)

-- so one number has one step and one row
one_step : (m k l r s : ℕ) → r < m → s < m → k * m + r ≡ l * m + s → k ≡ l
one_step m k l r s a b e = by (cases_order k l)
  where
    by : (k ≡ l) ⊎ ((k < l) ⊎ (l < k)) → k ≡ l
    by (inl h) = h
    by (inr (inl h)) = absurd (let n = next_step m k l r h a in omega (arith, n, e))
    by (inr (inr h)) = absurd (let n = next_step m l k s h b in omega (arith, n, e))

module _ (plant : Plant) where
  pub row_exists : (i : ℕ) → i < row_count plant → (k : ℕ) × (row : PlantRow) × IsRow plant i k row
  row_exists i l = by (cases_lt i (plant.horizon * length plant.rows))
    where
      step_of : i < plant.horizon * length plant.rows → i / length plant.rows < plant.horizon
      step_of h = within (cases_lt (i / length plant.rows) plant.horizon)
        where
          within : (i / length plant.rows < plant.horizon) ⊎ (plant.horizon ≤ i / length plant.rows) → i / length plant.rows < plant.horizon
          within (inl a) = a
          within (inr a) = absurd (let over = mul-le-mul_right (length plant.rows) a in let whole = div-add-mod' i (length plant.rows) in omega (arith, h, over, whole))

      some_rows : i < plant.horizon * length plant.rows → 0 < length plant.rows
      some_rows h = within (cases_lt 0 (length plant.rows))
        where
          within : (0 < length plant.rows) ⊎ (length plant.rows ≤ 0) → 0 < length plant.rows
          within (inl a) = a
          within (inr a) = absurd (let none : length plant.rows ≡ 0 = omega (arith, a) in let e = ap (λ m. plant.horizon * m) none in omega (arith, h, e))

      by : (i < plant.horizon * length plant.rows) ⊎ (plant.horizon * length plant.rows ≤ i) → (k : ℕ) × (row : PlantRow) × IsRow plant i k row
      by (inl h) =
          let row = some_at plant.rows (i % length plant.rows) (mod-lt i (some_rows h)) in
          (i / length plant.rows, row.0, inl (i % length plant.rows, step_of h, row.1, sym (div-add-mod' i (length plant.rows))))
      by (inr h) =
          let row = some_at plant.terminal (i - plant.horizon * length plant.rows) (omega (arith, h, l)) in
          (plant.horizon, row.0, inr (i - plant.horizon * length plant.rows, refl, row.1, omega (arith, h)))

  pub one_row : (i k l : ℕ) (row other : PlantRow) → IsRow plant i k row → IsRow plant i l other → (k ≡ l) × (row ≡ other)
  one_row i k l row other (inl (r, a, e, f)) (inl (s, b, g, h)) =
      let same = one_step (length plant.rows) k l r s (slice_get_within plant.rows r row e) (slice_get_within plant.rows s other g) (sym f ∙ h) in
      let step : k * length plant.rows ≡ l * length plant.rows = ap (λ m. m * length plant.rows) same in
      let place : r ≡ s = omega (arith, f, h, step) in
      (same, same_some (sym e ∙ ap (slice_get plant.rows) place ∙ g))
  one_row i k l row other (inl (r, a, e, f)) (inr (s, b, g, h)) = absurd (let n = next_step (length plant.rows) k plant.horizon r a (slice_get_within plant.rows r row e) in omega (arith, n, f, h))
  one_row i k l row other (inr (r, a, e, f)) (inl (s, b, g, h)) = absurd (let n = next_step (length plant.rows) l plant.horizon s b (slice_get_within plant.rows s other g) in omega (arith, n, f, h))
  one_row i k l row other (inr (r, a, e, f)) (inr (s, b, g, h)) = let place : r ≡ s = omega (arith, f, h) in (a ∙ sym b, same_some (sym e ∙ ap (slice_get plant.terminal) place ∙ g))
