-- The rows of the sides at a position of the run, from those of the unknowns, and the sizes of all numbers there.
use Rattle.std.proofs.Common.{◌≡◌, ℕ, ◌+◌, ◌-◌, ◌*◌, ◌/◌, ◌^◌, ◌<◌, ◌≤◌, true, false, List, ℤ, pos, negsuc, ◌*ℤ◌, unsigned_abs, cond, Bool, refl, sym, ◌∙◌, ap, subst, arith, ◌⊎◌, inl, inr, le_trans, lt-ltb, mul-pos, mul-le-mul_right, mul-le-mul_left}
use Rattle.std.proofs.lemmas.Bool.{both_ways, cases_Bool, cases_lt}
use Rattle.std.proofs.lemmas.Int.{unsigned_abs-mul}
use Rattle.std.proofs.lemmas.Nat.{mul-le, le-div}
use Rattle.mpc_exact.specs.Rational.{ℚ, frac, int, ◌*ℚ◌}
use Rattle.mpc_exact.proofs.Rational.{same_frac, *ℚ_comm}
use Rattle.mpc_space.specs.Total.{total, unit}
use Rattle.mpc_space.proofs.Total.{total-same, total-unit, unit-same, unit-other}
use Rattle.mpc_rows.specs.LinearSystem.{LinearSystem, row_at, height, entry}
use Rattle.mpc_rows.specs.Run.{Position, IsTableau, goes_on, count, is_unknown, rest, bound, turn, value, opening}
use Rattle.mpc_rows.specs.RunWidth.{ValueFits, PositionFits}
use Rattle.mpc_rows.specs.NumberedSystems.{left_side}
use Rattle.mpc_runs.specs.declared.variables.Seat.{Seat}
use Rattle.mpc_runs.specs.declared.variables.Seat.TheVariants.{Column}
use Rattle.mpc_runs.specs.Table.{seat_at}
use Rattle.mpc_whole.specs.Norms.{Over}
use Rattle.mpc_whole.proofs.WholeChanges.{times_scaled, total_scaled}
use Rattle.mpc_whole.proofs.DividedRows.{crossed, rest_some}
use Rattle.mpc_runs.proofs.WholeSums.{abs_some, total_over, total_at_most, product_at_most}
use Rattle.mpc_whole.proofs.WholeNorms.{over_not_zero, HasRowRoom, HasFittingRow, HasPivotSizes, HasPivotRoom, judged_value, row_by, judged_fit, norms_fit}
use Rattle.mpc_whole.proofs.WholeScales.{Scaled, scaled_over, at_nought, at_side, at_minus_one, nought_over, nought_times, less_with_scale}
use Rattle.mpc_whole.specs.Judged.{coefficient_of, HasRoomAt, IsJudged, IsNorm, IsDividedRow, IsLeavingRow, IsSideJudged, IsRowFitting}
use Rattle.mpc_runs.specs.WholeNumbers.{whole_total}
use Rattle.mpc_whole.specs.Whole.{AreBounds, HasSideBound, IsNarrow, IsSideRow, IsForm, side_cell}
use Rattle.mpc_scaled.specs.Scaled.{whole_at, whole_cell, scale_at, IsSmall, IsWholeSystem}
use Rattle.mpc_runs.proofs.Turn.{Goes, turn-at}
use Rattle.mpc_runs.proofs.TableauRows.{Meets, row_value, values_meet}
use Rattle.mpc_runs.proofs.Positions.{tableau, rows_across, firsts_meet, seconds_meet, firsts, seconds}
use Rattle.mpc_runs.proofs.Ends.{Reached, position-zero}
use Rattle.mpc_runs.proofs.LeftSides.{side_value, bound-first, bound-second}
use Rattle.mpc_runs.proofs.Seats.{column_seat}
use Rattle.mpc_runs.proofs.Read.{rest_unknown, rest_bound}

pub equal_share : (m : ℕ) → 0 < m → (2 ^ 125 / m) * m ≤ 2 ^ 125
equal_share m h = omega arith

all_room : (m : ℕ) → m * (2 ^ 125 / m) ≤ 2 ^ 126
all_room m = by (cases_lt 0 m)
  where
    by : (0 < m) ⊎ (m ≤ 0) → m * (2 ^ 125 / m) ≤ 2 ^ 126
    by (inl h) = omega arith
    by (inr h) = let e : m ≡ 0 = omega arith in subst (λ q. q * (2 ^ 125 / m) ≤ 2 ^ 126) (sym e) (omega arith)

unit_turned : (y z : ℕ) → (y ≡ z) ⊎ (y ≡ z → ⊥) → unit y z ≡ unit z y
unit_turned y z (inl e) = unit-same y z e ∙ sym (unit-same z y (sym e))
unit_turned y z (inr h) = unit-other y z h ∙ sym (unit-other z y (λ e. h (sym e)))

-- ---- where the nonbasic variables stand
strict_rest : (s : LinearSystem) (y : ℕ) (t : Bool) → (rest s y).second ≡ cond t (int (negsuc 0)) (int (pos 0)) → ((rest s y).second ≡ int (pos 0)) ⊎ ((rest s y).second ≡ int (negsuc 0))
strict_rest s y true e = inr e
strict_rest s y false e = inl e

second_rest : (s : LinearSystem) (y : ℕ) → y < count s → (is_unknown s y ≡ true) ⊎ (is_unknown s y ≡ false) → (y < s.width) ⊎ (s.width ≤ y) → ((rest s y).second ≡ int (pos 0)) ⊎ ((rest s y).second ≡ int (negsuc 0))
second_rest s y h (inl u) l = inl (ap (λ z. z.second) (rest_unknown s y u))
second_rest s y h (inr u) (inl l) = absurd (both_ways (is_unknown s y) u (lt-ltb y s.width l))
second_rest s y h (inr u) (inr l) =
    let q : s.width + (y - s.width) ≡ y = omega arith in
    strict_rest s y (row_at s (y - s.width)).strict (ap (λ z. z.second) (rest_bound s y u) ∙ ap (λ z. (bound s z).second) (sym q) ∙ bound-second s (y - s.width))

first_rest : (s : LinearSystem) (k : List ℕ) (a b : List ℤ) → IsWholeSystem s k a b → (y : ℕ) → y < count s → (is_unknown s y ≡ true) ⊎ (is_unknown s y ≡ false) → (y < s.width) ⊎ (s.width ≤ y)
    → ((rest s y).first ≡ int (pos 0)) ⊎ ((s.width ≤ y) × ((rest s y).first ≡ frac (whole_at b (y - s.width)) (scale_at k y)))
first_rest s k a b w y h (inl u) l = inl (ap (λ z. z.first) (rest_unknown s y u))
first_rest s k a b w y h (inr u) (inl l) = absurd (both_ways (is_unknown s y) u (lt-ltb y s.width l))
first_rest s k a b w y h (inr u) (inr l) =
    let q : s.width + (y - s.width) ≡ y = omega arith in
    inr (l, ap (λ z. z.first) (rest_bound s y u) ∙ ap (λ z. (bound s z).first) (sym q) ∙ bound-first s (y - s.width) ∙ w.sides.sides (y - s.width) (omega arith) ∙ ap (λ z. frac (whole_at b (y - s.width)) (scale_at k z)) q)

-- so much holds of each number of a row, in the column of y
pub record HoldAll (s : LinearSystem) (n : ℕ) (seats : List Seat) (a v : List ℤ) (P : ℕ → ℤ → Type 0) : Type 0 where
  pub numbers : (j y c : ℕ) → j < s.width → y < n → seat_at seats y ≡ Column c → P y (whole_cell s.width v j c)
  pub rows : (i y c : ℕ) → i < height s → y < n → seat_at seats y ≡ Column c → P y (side_cell s a v i c)

-- ---- a position of the run
module _ (s : LinearSystem) (p : Position) (r : Reached s p) where
  pub reached_tableau : IsTableau p
  reached_tableau = subst IsTableau (sym r.is) (tableau s r.after)

  to_opening : (x : ℕ → ℚ) → Meets (count s) p x → Meets (count s) (opening s) x
  to_opening x h = subst (λ q. Meets (count s) q x) (position-zero s) (rows_across s r.after 0 x (subst (λ q. Meets (count s) q x) r.is h))

  side_of : (x : ℕ → ℚ) → Meets (count s) p x → (i : ℕ) → i < height s → x (s.width + i) ≡ left_side s i x
  side_of x h i b = side_value s x (to_opening x h) i b

  column_is : (y z : ℕ) → y < count s → row_value (count s) p (unit y) z ≡ p.coefficient z y
  column_is y z h =
      total-same (count s) (λ w. p.coefficient z w *ℚ unit y w) (λ w. unit y w *ℚ p.coefficient z w) (λ w k. *ℚ_comm (p.coefficient z w) (unit y w))
      ∙ total-unit (count s) y (p.coefficient z) h

  -- the row of a side
  pub side_row : (i y : ℕ) → i < height s → y < count s → p.coefficient (s.width + i) y ≡ total s.width (λ j. entry s i j *ℚ p.coefficient j y)
  side_row i y b h =
      sym (column_is y (s.width + i) h)
      ∙ side_of (row_value (count s) p (unit y)) (values_meet (count s) p reached_tableau (unit y)) i b
      ∙ total-same s.width (λ j. entry s i j *ℚ row_value (count s) p (unit y) j) (λ j. entry s i j *ℚ p.coefficient j y) (λ j k. ap (λ u. entry s i j *ℚ u) (column_is y j h))

  -- the value of a side
  pub side_first : (i : ℕ) → i < height s → (value s p (s.width + i)).first ≡ total s.width (λ j. entry s i j *ℚ (value s p j).first)
  side_first i b = side_of (firsts s p) (subst (λ q. Meets (count s) q (firsts s q)) (sym r.is) (firsts_meet s r.after)) i b

  pub side_second : (i : ℕ) → i < height s → (value s p (s.width + i)).second ≡ total s.width (λ j. entry s i j *ℚ (value s p j).second)
  side_second i b = side_of (seconds s p) (subst (λ q. Meets (count s) q (seconds s q)) (sym r.is) (seconds_meet s r.after)) i b

  -- sums with the whole numbers of a side
  module _ (k : List ℕ) (a b : List ℤ) (w : IsWholeSystem s k a b) where
    pub side_scale : (i : ℕ) → i < height s → 0 < scale_at k (s.width + i)
    side_scale i h = w.scales.some (s.width + i) (omega arith)

    pub side_total : (i d : ℕ) (x : ℕ → ℚ) (f : ℕ → ℤ) → i < height s → 0 < d → ((j : ℕ) → j < s.width → x j ≡ frac (f j) d) →
        total s.width (λ j. entry s i j *ℚ x j) ≡ frac (whole_total s.width (λ j. whole_cell s.width a i j *ℤ f j)) (d * scale_at k (s.width + i))
    side_total i d x f h some e =
        total-same s.width (λ j. entry s i j *ℚ x j) (λ j. frac (whole_cell s.width a i j *ℤ f j) (d * scale_at k (s.width + i)))
        (λ j l. (λ t. w.entries i j h l t *ℚ e j l t) ∙ times_scaled (whole_cell s.width a i j) (f j) (scale_at k (s.width + i)) d (side_scale i h) some)
        ∙ total_over s.width (d * scale_at k (s.width + i)) (λ j. whole_cell s.width a i j *ℤ f j) (mul-pos some (side_scale i h))

    module _ (n : ℕ) (whole : count s ≡ n) (seats : List Seat) (d : ℕ) (v : List ℤ) (f : IsForm s n seats k d v p) where
      in_all : (y : ℕ) → y < n → y < count s
      in_all y h = subst (λ m. y < m) (sym whole) h

      pub side_entry : (i y c : ℕ) → i < height s → y < n → seat_at seats y ≡ Column c → p.coefficient (s.width + i) y ≡ frac (side_cell s a v i c *ℤ pos (scale_at k y)) (d * scale_at k (s.width + i))
      side_entry i y c b h e =
          side_row i y b (in_all y h)
          ∙ side_total i d (λ j. p.coefficient j y) (λ j. whole_cell s.width v j c *ℤ pos (scale_at k y)) b f.some (λ j l. f.entries j y c l h e)
          ∙ ap (λ z. frac z (d * scale_at k (s.width + i))) (total_scaled s.width (λ j. whole_cell s.width a i j) (λ j. whole_cell s.width v j c) (pos (scale_at k y)))

      -- the denominators of the rows
      unfoldable pub row_den : ℕ → ℕ
      row_den x = d * scale_at k x

      pub den_some : (x : ℕ) → x < count s → 0 < row_den x
      unfolding row_den
      den_some x h = mul-pos f.some (w.scales.some x h)

      pub own_den : (x : ℕ) → x < s.width → row_den x ≡ d
      unfolding row_den
      own_den x h = ap (λ u. d * u) (w.scales.own x h) ∙ (let r : d * 1 ≡ d = omega arith in r)

      pub by_seat : (y m d : ℕ) (u : ℚ) → 0 < d → y < n → (p.is_basic y ≡ true → u ≡ int (pos 0)) → ((c : ℕ) → seat_at seats y ≡ Column c → Over d m u) → (p.is_basic y ≡ true) ⊎ (p.is_basic y ≡ false) → Over d m u
      by_seat y m d u some h zero there (inl e) = nought_over d m u some (zero e)
      by_seat y m d u some h zero there (inr e) = let q = column_seat (seat_at seats y) (sym (f.basic y h) ∙ e) in there q.0 q.1

      side_is : (i y c : ℕ) → i < height s → y < n → seat_at seats y ≡ Column c → p.coefficient (s.width + i) y ≡ frac (side_cell s a v i c *ℤ pos (scale_at k y)) (row_den (s.width + i))
      unfolding row_den
      side_is i y c b h e = side_entry i y c b h e

      -- the coefficients of the row of a side
      pub side_over : (i m y : ℕ) → i < height s → ((c : ℕ) → y < n → seat_at seats y ≡ Column c → unsigned_abs (side_cell s a v i c) * scale_at k y ≤ m) → y < count s → Over (d * scale_at k (s.width + i)) m (p.coefficient (s.width + i) y)
      unfolding row_den
      side_over i m y b h l =
          let y_in : y < n = subst (λ q. y < q) whole l in
          let some : 0 < row_den (s.width + i) = den_some (s.width + i) (omega arith) in
          by_seat y m (row_den (s.width + i)) (p.coefficient (s.width + i) y) some y_in (reached_tableau.empty (s.width + i) y)
          (λ c e. scaled_over (row_den (s.width + i)) (scale_at k y) m (λ z. unsigned_abs z * scale_at k y ≤ m) some (λ z o. o) (p.coefficient (s.width + i) y) (record { at = side_cell s a v i c; is = side_is i y c b y_in e; holds = h c y_in e }))
          (cases_Bool (p.is_basic y))

      -- so those over a divisor of them and of the denominator
      pub divided_is : (i g rest : ℕ) (x : List ℤ) → IsDividedRow s a v i d g rest x → (y c : ℕ) → i < height s → y < n → seat_at seats y ≡ Column c → c < s.width → p.coefficient (s.width + i) y ≡ coefficient_of k rest (s.width + i) y (whole_at x c)
      divided_is i g rest x row y c b h e inside =
          let own : 0 < scale_at k (s.width + i) = side_scale i b in
          side_entry i y c b h e
          ∙ same_frac (side_cell s a v i c *ℤ pos (scale_at k y)) (d * scale_at k (s.width + i)) (whole_at x c *ℤ pos (scale_at k y)) (rest * scale_at k (s.width + i)) (mul-pos f.some own) (mul-pos (rest_some g rest d row.split f.some) own)
          (ap (λ u. (u *ℤ pos (scale_at k y)) *ℤ pos (rest * scale_at k (s.width + i))) (sym (row.cells c inside)) ∙ crossed (whole_at x c) (pos g) (pos (scale_at k y)) (pos rest) (pos (scale_at k (s.width + i)))
          ∙ ap (λ q. (whole_at x c *ℤ pos (scale_at k y)) *ℤ pos (q * scale_at k (s.width + i))) row.split)

      pub divided_over : (i g rest : ℕ) (x : List ℤ) → IsDividedRow s a v i d g rest x → (m y : ℕ) → i < height s → ((c : ℕ) → y < n → seat_at seats y ≡ Column c → (c < s.width) × (unsigned_abs (whole_at x c) * scale_at k y ≤ m)) → y < count s
          → Over (rest * scale_at k (s.width + i)) m (p.coefficient (s.width + i) y)
      divided_over i g rest x row m y b h l =
          let y_in : y < n = subst (λ q. y < q) whole l in
          let some : 0 < rest * scale_at k (s.width + i) = mul-pos (rest_some g rest d row.split f.some) (side_scale i b) in
          by_seat y m (rest * scale_at k (s.width + i)) (p.coefficient (s.width + i) y) some y_in (reached_tableau.empty (s.width + i) y)
          (λ c e. record {
            at = whole_at x c *ℤ pos (scale_at k y);
            is = divided_is i g rest x row y c b y_in e (h c y_in e).0;
            size = subst (λ q. q ≤ m) (sym (unsigned_abs-mul (whole_at x c) (pos (scale_at k y)))) (h c y_in e).1;
          })
          (cases_Bool (p.is_basic y))

      -- the numbers of the row of a side, and of all rows, over their denominators
      module _ (P : ℕ → ℤ → Type 0) where
        abbrev HasNumbers : ℕ → Type 0
        HasNumbers x = (y c : ℕ) → y < n → seat_at seats y ≡ Column c → Scaled (row_den x) (scale_at k y) (P y) (p.coefficient x y)

        side_numbers : (i : ℕ) → i < height s → ((y c : ℕ) → y < n → seat_at seats y ≡ Column c → P y (side_cell s a v i c)) → HasNumbers (s.width + i)
        side_numbers i b g y c h e = record { at = side_cell s a v i c; is = side_is i y c b h e; holds = g y c h e }

        numbers_by : HoldAll s n seats a v P → (x : ℕ) → x < count s → (x < s.width) ⊎ (s.width ≤ x) → HasNumbers x
        numbers_by g x l (inl b) = λ y c h e. record { at = whole_cell s.width v x c; is = f.entries x y c b h e ∙ ap (frac (whole_cell s.width v x c *ℤ pos (scale_at k y))) (sym (own_den x b)); holds = g.numbers x y c b h e }
        numbers_by g x l (inr b) =
            let i = x - s.width in
            let i_in : i < height s = omega arith in
            let q : s.width + i ≡ x = omega arith in
            subst HasNumbers q (side_numbers i i_in (λ y c. g.rows i y c i_in))

        numbers : HoldAll s n seats a v P → (x : ℕ) → x < count s → HasNumbers x
        numbers g x h = numbers_by g x h (cases_lt x s.width)

        -- the row of x, with these
        module _ (x : ℕ) (h : x < count s) (t : HasNumbers x) where
          entry_over : (m y : ℕ) → ((z : ℤ) → P y z → unsigned_abs z * scale_at k y ≤ m) → y < count s → Over (row_den x) m (p.coefficient x y)
          entry_over m y sizes l =
              let y_in : y < n = subst (λ q. y < q) whole l in
              by_seat y m (row_den x) (p.coefficient x y) (den_some x h) y_in (reached_tableau.empty x y)
              (λ c e. scaled_over (row_den x) (scale_at k y) m (P y) (den_some x h) sizes (p.coefficient x y) (t y c y_in e))
              (cases_Bool (p.is_basic y))

          -- with where the nonbasic variables stand
          module _ (m : ℕ) (firsts : (y : ℕ) (z : ℤ) → y < count s → s.width ≤ y → P y z → unsigned_abs z * unsigned_abs (whole_at b (y - s.width)) ≤ m) (seconds : (y : ℕ) (z : ℤ) → y < count s → P y z → unsigned_abs z * scale_at k y ≤ m) where
            product_by : (y : ℕ) (r : ℚ) → y < count s → ((c : ℕ) → seat_at seats y ≡ Column c → Over (row_den x) m (p.coefficient x y *ℚ r)) → Over (row_den x) m (p.coefficient x y *ℚ r)
            product_by y r l there =
                by_seat y m (row_den x) (p.coefficient x y *ℚ r) (den_some x h) (subst (λ q. y < q) whole l) (λ e. ap (λ u. u *ℚ r) (reached_tableau.empty x y e) ∙ nought_times r) there (cases_Bool (p.is_basic y))

            first_by : (y c : ℕ) (l : y < count s) → seat_at seats y ≡ Column c → ((rest s y).first ≡ int (pos 0)) ⊎ ((s.width ≤ y) × ((rest s y).first ≡ frac (whole_at b (y - s.width)) (scale_at k y))) → Over (row_den x) m (p.coefficient x y *ℚ (rest s y).first)
            first_by y c l e (inl o) = at_nought (row_den x) (scale_at k y) m (P y) (den_some x h) (p.coefficient x y) (rest s y).first o
            first_by y c l e (inr o) =
                at_side (row_den x) (scale_at k y) m (P y) (den_some x h) (w.scales.some y l) (p.coefficient x y) (rest s y).first (whole_at b (y - s.width)) (λ z q. firsts y z l o.0 q)
                (t y c (subst (λ q. y < q) whole l) e) o.1

            second_by : (y c : ℕ) (l : y < count s) → seat_at seats y ≡ Column c → ((rest s y).second ≡ int (pos 0)) ⊎ ((rest s y).second ≡ int (negsuc 0)) → Over (row_den x) m (p.coefficient x y *ℚ (rest s y).second)
            second_by y c l e (inl o) = at_nought (row_den x) (scale_at k y) m (P y) (den_some x h) (p.coefficient x y) (rest s y).second o
            second_by y c l e (inr o) = at_minus_one (row_den x) (scale_at k y) m (P y) (den_some x h) (λ z q. seconds y z l q) (p.coefficient x y) (rest s y).second (t y c (subst (λ q. y < q) whole l) e) o

            first_products : (y : ℕ) → y < count s → Over (row_den x) m (p.coefficient x y *ℚ (rest s y).first)
            first_products y l = product_by y (rest s y).first l (λ c e. first_by y c l e (first_rest s k a b w y l (cases_Bool (is_unknown s y)) (cases_lt y s.width)))

            second_products : (y : ℕ) → y < count s → Over (row_den x) m (p.coefficient x y *ℚ (rest s y).second)
            second_products y l = product_by y (rest s y).second l (λ c e. second_by y c l e (second_rest s y l (cases_Bool (is_unknown s y)) (cases_lt y s.width)))

      -- ---- nothing formed there is wide, where one limit holds for all numbers
      module _ (g : IsNarrow s n seats k a d v) (most_side : ℕ) (o : HasSideBound s b most_side) where
        abbrev IsNarrowAt : ℕ → ℤ → Type 0
        IsNarrowAt y z = unsigned_abs z * scale_at k y ≤ 2 ^ 62

        narrow_all : HoldAll s n seats a v IsNarrowAt
        narrow_all = record { numbers = g.numbers; rows = g.rows }

        den_small : (x : ℕ) → x < count s → row_den x ≤ 2 ^ 62
        unfolding row_den
        den_small x h = g.dens x (subst (λ m. x < m) whole h)

        narrow_firsts : (y : ℕ) (z : ℤ) → y < count s → s.width ≤ y → IsNarrowAt y z → unsigned_abs z * unsigned_abs (whole_at b (y - s.width)) ≤ 2 ^ 62 * most_side
        narrow_firsts y z l h t = mul-le (unsigned_abs z) (unsigned_abs (whole_at b (y - s.width))) (2 ^ 62) most_side (less_with_scale (unsigned_abs z) (scale_at k y) (w.scales.some y l) t) (o.sides.each (y - s.width))

        narrow_seconds : (y : ℕ) (z : ℤ) → y < count s → IsNarrowAt y z → unsigned_abs z * scale_at k y ≤ 2 ^ 62 * most_side
        narrow_seconds y z l t = let h = o.some_side in omega arith

        narrow_numbers : (x : ℕ) → x < count s → HasNumbers IsNarrowAt x
        narrow_numbers = numbers IsNarrowAt narrow_all

        pub narrow_fits : PositionFits s p
        narrow_fits =
            norms_fit s p row_den den_some den_small (λ x y h. entry_over IsNarrowAt x h (narrow_numbers x h) (2 ^ 62) y (λ z t. t))
            (2 ^ 62 * most_side) (let h = o.side_room in omega arith)
            (λ x y h. first_products IsNarrowAt x h (narrow_numbers x h) (2 ^ 62 * most_side) narrow_firsts narrow_seconds y)
            (λ x y h. second_products IsNarrowAt x h (narrow_numbers x h) (2 ^ 62 * most_side) narrow_firsts narrow_seconds y)

      -- ---- the row that leaves is over a divisor of it and of the denominator
      module _ (f₀ top size g₀ left : ℕ) (split : g₀ * left ≡ d) (l e : ℕ) (goes : Goes s p l e) (row : IsLeavingRow s p k left f₀ top size l e) where
        left_some : 0 < left * scale_at k l
        left_some = mul-pos (rest_some g₀ left d split f.some) (w.scales.some l goes.leaves.below)

        pub top_some : 0 < top
        top_some = let t : 0 < scale_at k l = w.scales.some l goes.leaves.below in let o = row.own in omega arith

        pub size_some : 0 < size
        size_some = le_trans (abs_some row.pivot.at (over_not_zero left_some row.pivot goes.eligible.some)) row.pivot.size

        apart_from : (x : ℕ) → row_den x ≡ left * (g₀ * scale_at k x)
        unfolding row_den
        apart_from x = ap (λ m. m * scale_at k x) (sym split) ∙ (let q : (g₀ * left) * scale_at k x ≡ left * (g₀ * scale_at k x) = omega arith in q)

        pivot_sizes : HasPivotSizes s p row_den l e
        pivot_sizes = record {
          size = size;
          den = left * scale_at k l;
          den_some = left_some;
          pivot = row.pivot;
          top = top;
          row = row.others;
          shared = left;
          part = λ x. g₀ * scale_at k x;
          parts = apart_from;
          left = scale_at k l;
          split = refl;
          own = row.own;
        }

        pub pivot_room : ((x : ℕ) → x < count s → p.is_basic x ≡ true → HasRowRoom (count s) p e top size (row_den x) x ⊎ HasFittingRow (count s) p l e x) → HasPivotRoom s p row_den l e
        unfolding pivot_sizes
        pivot_room rows = record { sizes = pivot_sizes; rows = rows }

      -- or where the numbers of a row are judged
      module _ (f₀ top size : ℕ) where
        some_variable : (y : ℕ) → y < count s → 0 < count s
        some_variable y h = omega arith

        judged_firsts : (y : ℕ) (z : ℤ) → y < count s → s.width ≤ y → HasRoomAt s k b f₀ top size y z → unsigned_abs z * unsigned_abs (whole_at b (y - s.width)) ≤ 2 ^ 125 / count s
        judged_firsts y z l h t = le-div (unsigned_abs z * unsigned_abs (whole_at b (y - s.width))) (2 ^ 125) (count s) (some_variable y l) (let q = t.first h in omega arith)

        judged_seconds : (y : ℕ) (z : ℤ) → y < count s → HasRoomAt s k b f₀ top size y z → unsigned_abs z * scale_at k y ≤ 2 ^ 125 / count s
        judged_seconds y z l t = le-div (unsigned_abs z * scale_at k y) (2 ^ 125) (count s) (some_variable y l) (let q = t.second in omega arith)

        module _ (x : ℕ) (h : x < count s) (t : HasNumbers (HasRoomAt s k b f₀ top size) x) where
          value_fits : row_den x ≤ 2 ^ 125 → ValueFits s (count s) p x
          value_fits below =
              judged_value s p row_den den_some (2 ^ 125 / count s) (all_room (count s)) x h (omega arith)
              (first_products (HasRoomAt s k b f₀ top size) x h t (2 ^ 125 / count s) judged_firsts judged_seconds)
              (second_products (HasRoomAt s k b f₀ top size) x h t (2 ^ 125 / count s) judged_firsts judged_seconds)

          row_room : (g₀ left : ℕ) → g₀ * left ≡ d → (l e : ℕ) → Goes s p l e → IsLeavingRow s p k left f₀ top size l e → row_den x * size ≤ 2 ^ 125 → HasRowRoom (count s) p e top size (row_den x) x
          row_room g₀ left split l e goes row below =
              let most_top = top_some f₀ top size g₀ left split l e goes row in
              let most_size = size_some f₀ top size g₀ left split l e goes row in
              record {
                factor = 2 ^ 125 / top;
                factors = entry_over (HasRoomAt s k b f₀ top size) x h t (2 ^ 125 / top) e (λ z q. le-div (unsigned_abs z * scale_at k e) (2 ^ 125) top most_top (q.entering row.entering)) goes.below;
                factor_room = equal_share top most_top;
                most = 2 ^ 125 / size;
                entries = λ y o apart. entry_over (HasRoomAt s k b f₀ top size) x h t (2 ^ 125 / size) y (λ z q. le-div (unsigned_abs z * scale_at k y) (2 ^ 125) size most_size (q.other (λ u. apart (u ∙ sym row.entering)))) o;
                room = equal_share size most_size;
                den_room = below;
              }

        -- those of the row of a side
        module _ (i : ℕ) (i_in : i < height s) (g : IsSideJudged s seats k a b d v f₀ top size i) where
          side_in : s.width + i < count s
          side_in = omega arith

          judged_side : HasNumbers (HasRoomAt s k b f₀ top size) (s.width + i)
          judged_side = side_numbers (HasRoomAt s k b f₀ top size) i i_in (λ y c h. g.cells y c (in_all y h))

          pub judged_row : (g₀ left : ℕ) → g₀ * left ≡ d → ((l e : ℕ) → turn s p ≡ goes_on l e → IsLeavingRow s p k left f₀ top size l e) → IsRowFitting s p (s.width + i)
          unfolding row_den pivot_sizes
          judged_row g₀ left split rows = record {
            value = value_fits (s.width + i) side_in judged_side g.whole;
            row = λ l e t.
                let goes = turn-at s p (goes_on l e) t in
                row_by s p row_den den_some l e goes (pivot_sizes f₀ top size g₀ left split l e goes (rows l e t)) (s.width + i) side_in
                (inl (row_room (s.width + i) side_in judged_side g₀ left split l e goes (rows l e t) g.dens));
          }

        -- those of all rows
        module _ (g : IsJudged s n seats k a b d v f₀ top size) where
          judged_numbers : (x : ℕ) → x < count s → HasNumbers (HasRoomAt s k b f₀ top size) x
          judged_numbers = numbers (HasRoomAt s k b f₀ top size) (record { numbers = g.unknowns; rows = g.sides })

          den_below : (x : ℕ) → x < count s → row_den x ≤ 2 ^ 125
          unfolding row_den
          den_below x h = g.whole x (subst (λ m. x < m) whole h)

          den_room : (x : ℕ) → x < count s → row_den x * size ≤ 2 ^ 125
          unfolding row_den
          den_room x h = g.dens x (subst (λ m. x < m) whole h)

          pub judged_with : ((l e : ℕ) → turn s p ≡ goes_on l e → HasPivotRoom s p row_den l e) → PositionFits s p
          judged_with = judged_fit s p row_den den_some (record { values = λ x h basic. value_fits x h (judged_numbers x h) (den_below x h) })

          pub judged_divided : (g₀ left : ℕ) → g₀ * left ≡ d → ((l e : ℕ) → turn s p ≡ goes_on l e → IsLeavingRow s p k left f₀ top size l e) → PositionFits s p
          judged_divided g₀ left split rows = judged_with (λ l e t.
              let goes = turn-at s p (goes_on l e) t in
              pivot_room f₀ top size g₀ left split l e goes (rows l e t) (λ x h basic. inl (row_room x h (judged_numbers x h) g₀ left split l e goes (rows l e t) (den_room x h))))

          pub judged_over : ((l e : ℕ) → turn s p ≡ goes_on l e → IsLeavingRow s p k d f₀ top size l e) → PositionFits s p
          judged_over rows = judged_divided 1 d (omega arith) rows

-- ---- the row of a side, by the greatest numbers
pub column_norm : (s : LinearSystem) (a v : List ℤ) (norm most : ℕ) → IsNorm s.width a norm → (c : ℕ) → ((j : ℕ) → j < s.width → unsigned_abs (whole_cell s.width v j c) ≤ most) → (i : ℕ) → unsigned_abs (side_cell s a v i c) ≤ norm * most
column_norm s a v norm most z c h i =
    let t : unsigned_abs (side_cell s a v i c) ≤ s.width * (z.most * most) =
    total_at_most s.width (z.most * most) (λ j. whole_cell s.width a i j *ℤ whole_cell s.width v j c)
    (λ j q. product_at_most (whole_cell s.width a i j) (whole_cell s.width v j c) z.most most (z.each.each (i * s.width + j)) (h j q))
    in
    let e : (s.width * z.most) * most ≤ norm * most = mul-le-mul_right most z.rows in
    omega arith

pub side_norm : (s : LinearSystem) (a v : List ℤ) (most_entry most : ℕ) → IsSmall most_entry a → IsSmall most v → (i c : ℕ) → unsigned_abs (side_cell s a v i c) ≤ s.width * (most_entry * most)
side_norm s a v most_entry most entries small i c =
    total_at_most s.width (most_entry * most) (λ j. whole_cell s.width a i j *ℤ whole_cell s.width v j c)
    (λ j q. product_at_most (whole_cell s.width a i j) (whole_cell s.width v j c) most_entry most (entries.each (i * s.width + j)) (small.each (j * s.width + c)))

-- ---- narrow by the norms
module _ (s : LinearSystem) (k : List ℕ) (a b v : List ℤ) (most_entry most_side most_scale most : ℕ) (g : AreBounds s k a b most_entry most_side most_scale most) (small : IsSmall most v) where
  side_narrow : (i c y : ℕ) → unsigned_abs (side_cell s a v i c) * scale_at k y ≤ 2 ^ 62
  side_narrow i c y = le_trans (le_trans (mul-le-mul_right (scale_at k y) (side_norm s a v most_entry most g.entries small i c)) (mul-le-mul_left (s.width * (most_entry * most)) (g.scales y))) g.room

  pub narrow_by_norms : (n : ℕ) (seats : List Seat) (d : ℕ) → ((x : ℕ) → x < n → d * scale_at k x ≤ 2 ^ 62) → IsNarrow s n seats k a d v
  narrow_by_norms n seats d dens = record {
    dens = dens;
    numbers = λ j y c h l e. le_trans (le_trans (mul-le-mul_right (scale_at k y) (small.each (j * s.width + c))) (mul-le-mul_left most (g.scales y))) g.top;
    rows = λ i y c h l e. side_narrow i c y;
  }

  -- the size of a pivot, which is the next denominator
  pub pivot_narrow : (i : ℕ) (x : List ℤ) → IsSideRow s a v i x → (c : ℕ) → c < s.width → (y : ℕ) → unsigned_abs (whole_at x c) * scale_at k y ≤ 2 ^ 62
  pivot_narrow i x row c h y = subst (λ z. unsigned_abs z * scale_at k y ≤ 2 ^ 62) (sym (row.cells c h)) (side_narrow i c y)
