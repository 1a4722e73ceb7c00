-- The values of the unknowns as sums over the columns, where alone the variables have coefficients that aren't 0.
use Rattle.std.proofs.Common.{◌≡◌, ℕ, ◌+◌, ◌<◌, true, List, ℤ, pos, ◌+ℤ◌, ◌*ℤ◌, [], ◌∷◌, refl, sym, ◌∙◌, ap, subst, ◌⊎◌, inl, inr}
use Rattle.std.proofs.lemmas.Bool.{cases_eq}
use Rattle.mpc_exact.specs.Rational.{ℚ, int, frac, ◌+ℚ◌, ◌*ℚ◌}
use Rattle.mpc_exact.proofs.RationalRing.{reads, by_ring}
use Rattle.mpc_space.specs.Total.{total, unit}
use Rattle.mpc_space.proofs.Total.{total-same, total-zeros, total-swap, total-unit, unit-same, unit-other}
use Rattle.mpc_rows.specs.LinearSystem.{LinearSystem, height}
use Rattle.mpc_rows.specs.Run.{Position, IsTableau, rest, value}
use Rattle.mpc_runs.specs.declared.variables.Seat.{Seat}
use Rattle.mpc_runs.specs.declared.variables.Seat.TheVariants.{Row, Column}
use Rattle.mpc_runs.specs.Table.{seat_at, in_row, variable_at, IsSeated, AreNonbasic}
use Rattle.mpc_whole.specs.Whole.{IsForm}
use Rattle.mpc_scaled.specs.Scaled.{whole_cell, scale_at}
use Rattle.mpc_whole.proofs.Nonbasic.{column_below}
use Rattle.mpc_runs.proofs.Seats.{seat_cases, column_same}
use Rattle.mpc_runs.proofs.Table.{total_more, first_terms, second_terms, value_first, value_second}
use Rattle.mpc_runs.proofs.WholeSums.{frac_sum}
use Rattle.mpc_whole.proofs.WholeChanges.{scale_cancels}

times_zero : (x y : ℚ) → y ≡ int (pos 0) → x *ℚ y ≡ int (pos 0)
times_zero x y e = ap (λ u. x *ℚ u) e ∙ by_ring (x ∷ []) (search reads depth 30) (search reads depth 30) tt

zero_times : (x y : ℚ) → x ≡ int (pos 0) → x *ℚ y ≡ int (pos 0)
zero_times x y e = ap (λ u. u *ℚ y) e ∙ by_ring (y ∷ []) (search reads depth 30) (search reads depth 30) tt

plus_zero : (x y : ℚ) → y ≡ int (pos 0) → x ≡ x +ℚ y
plus_zero x y e = sym (ap (λ u. x +ℚ u) e ∙ by_ring (x ∷ []) (search reads depth 30) (search reads depth 30) tt)

module _ (s : LinearSystem) (n : ℕ) (seats : List Seat) (nonbasic : List ℕ) (z : IsSeated (height s) s.width n seats) (a : AreNonbasic s.width seats nonbasic) where
  pub in_column : (c : ℕ) → c < s.width → variable_at nonbasic c < n
  in_column c h = subst (λ m. variable_at nonbasic c < m) z.each (column_below seats (variable_at nonbasic c) c (a.at c h))

  only : (y c₀ : ℕ) → y < n → seat_at seats y ≡ Column c₀ → (c : ℕ) → c < s.width → unit (variable_at nonbasic c) y ≡ unit c₀ c
  only y c₀ b e c h = by (cases_eq c₀ c)
    where
      by : (c₀ ≡ c) ⊎ (c₀ ≡ c → ⊥) → unit (variable_at nonbasic c) y ≡ unit c₀ c
      by (inl q) =
          let own = (z.columns (variable_at nonbasic c) c (in_column c h) (a.at c h)).1 in
          let other = (z.columns y c₀ b e).1 in
          unit-same (variable_at nonbasic c) y (sym own ∙ ap z.of_column (sym q) ∙ other) ∙ sym (unit-same c₀ c q)
      by (inr k) = unit-other (variable_at nonbasic c) y (λ q. k (column_same c₀ c (sym e ∙ ap (seat_at seats) (sym q) ∙ a.at c h))) ∙ sym (unit-other c₀ c k)

  module _ (f : ℕ → ℚ) (basic : (y : ℕ) → y < n → in_row (seat_at seats y) ≡ true → f y ≡ int (pos 0)) where
    spread : (y : ℕ) → y < n → f y ≡ total s.width (λ c. unit (variable_at nonbasic c) y *ℚ f y)
    spread y b = by (seat_cases (seat_at seats y))
      where
        by : ((r : ℕ) × (seat_at seats y ≡ Row r)) ⊎ ((c : ℕ) × (seat_at seats y ≡ Column c)) → f y ≡ total s.width (λ c. unit (variable_at nonbasic c) y *ℚ f y)
        by (inl q) =
            let nought = basic y b (ap in_row q.1) in
            nought ∙ sym (total-zeros s.width (λ c. unit (variable_at nonbasic c) y *ℚ f y) (λ c h. times_zero (unit (variable_at nonbasic c) y) (f y) nought))
        by (inr q) =
            sym (total-same s.width (λ c. unit (variable_at nonbasic c) y *ℚ f y) (λ c. unit q.0 c *ℚ f y) (λ c h. ap (λ u. u *ℚ f y) (only y q.0 b q.1 c h))
            ∙ total-unit s.width q.0 (λ c. f y) (z.columns y q.0 b q.1).0)

    pub columns_total : total n f ≡ total s.width (λ c. f (variable_at nonbasic c))
    columns_total =
        total-same n f (λ y. total s.width (λ c. unit (variable_at nonbasic c) y *ℚ f y)) spread
        ∙ total-swap n s.width (λ y c. unit (variable_at nonbasic c) y *ℚ f y)
        ∙ total-same s.width (λ c. total n (λ y. unit (variable_at nonbasic c) y *ℚ f y)) (λ c. f (variable_at nonbasic c)) (λ c h. total-unit n (variable_at nonbasic c) f (in_column c h))

  -- the value of the unknown j
  module _ (k : List ℕ) (v : List ℤ) (p : Position) (d : ℕ) (t : IsTableau p) (f : IsForm s n seats k d v p) (j : ℕ) where
    pub first_is : total s.width (λ c. first_terms s p j (variable_at nonbasic c)) ≡ (value s p j).first
    first_is = sym (columns_total (first_terms s p j) (λ y h b. zero_times (p.coefficient j y) (rest s y).first (t.empty j y (f.basic y h ∙ b)))) ∙ value_first s p j n (sym z.count)

    pub second_is : total s.width (λ c. second_terms s p j (variable_at nonbasic c)) ≡ (value s p j).second
    second_is = sym (columns_total (second_terms s p j) (λ y h b. zero_times (p.coefficient j y) (rest s y).second (t.empty j y (f.basic y h ∙ b)))) ∙ value_second s p j n (sym z.count)

    -- the code's sum, one column on
    module _ (r : ℕ → ℚ) (c : ℕ) (h : c < s.width) (sum : ℤ) (e : total c (λ m. p.coefficient j (variable_at nonbasic m) *ℚ r (variable_at nonbasic m)) ≡ frac sum d) where
      pub unknown_skipped : p.coefficient j (variable_at nonbasic c) *ℚ r (variable_at nonbasic c) ≡ int (pos 0) → total (c + 1) (λ m. p.coefficient j (variable_at nonbasic m) *ℚ r (variable_at nonbasic m)) ≡ frac sum d
      unknown_skipped q =
          let part = p.coefficient j (variable_at nonbasic c) *ℚ r (variable_at nonbasic c) in
          sym (total_more c (λ m. p.coefficient j (variable_at nonbasic m) *ℚ r (variable_at nonbasic m)) (frac sum d) part (frac sum d) (sym e) refl (plus_zero (frac sum d) part q))

      pub side_more : (b next : ℤ) → j < s.width → 0 < scale_at k (variable_at nonbasic c) → r (variable_at nonbasic c) ≡ frac b (scale_at k (variable_at nonbasic c)) → next ≡ sum +ℤ (whole_cell s.width v j c *ℤ b)
          → total (c + 1) (λ m. p.coefficient j (variable_at nonbasic m) *ℚ r (variable_at nonbasic m)) ≡ frac next d
      side_more b next l scale q more =
          let y = variable_at nonbasic c in
          sym (total_more c (λ m. p.coefficient j (variable_at nonbasic m) *ℚ r (variable_at nonbasic m)) (frac sum d) (frac (whole_cell s.width v j c *ℤ b) d) (frac next d) (sym e)
          (sym ((λ i. f.entries j y c l (in_column c h) (a.at c h) i *ℚ q i) ∙ scale_cancels (whole_cell s.width v j c) b (scale_at k y) d scale f.some))
          (ap (λ u. frac u d) more ∙ sym (frac_sum sum (whole_cell s.width v j c *ℤ b) d f.some)))
