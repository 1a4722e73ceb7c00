-- The least-number run. The unknown v_j has the number j - 1, for j = 1 to the width d, and the value s_i of the left side of row i
-- has the number d + i - 1, so that all variables are numbered from 0.
use Rattle.std.specs.Prelude.{◌≡◌, ◌<◌, ℕ, zero, suc, ◌+◌, ◌-◌, ◌^◌, Bool, true, false, cond, not, ◌&&◌, eqb, ltb, pos, negsuc, Option, Some, None}
use Rattle.mpc_exact.specs.Rational.{ℚ, int, ◌+ℚ◌, ◌*ℚ◌, ◌/ℚ◌, neg_ℚ, inv_ℚ, le_ℚ, lt_ℚ}
use Rattle.mpc_space.specs.Total.{total, unit}
use Rattle.mpc_rows.specs.Least.{least}
use Rattle.mpc_exact.specs.Pair.{Pair, is_below}
use Rattle.mpc_rows.specs.LinearSystem.{LinearSystem, row_at, height, entry}

-- how many variables there are
abbrev pub count : LinearSystem → ℕ
count s = s.width + height s

-- whether x is one of the v
abbrev pub is_unknown : LinearSystem → ℕ → Bool
is_unknown s x = ltb x s.width

-- the bound of s_i: (b_i, 0), or (b_i, -1) where the row is strict
unfoldable pub bound : LinearSystem → ℕ → Pair
bound s x = record {
  first = (row_at s (x - s.width)).b;
  second = cond (row_at s (x - s.width)).strict (int (negsuc 0)) (int (pos 0));
}

-- where a nonbasic variable stands: a v at (0, 0), an s at its bound
unfoldable pub rest : LinearSystem → ℕ → Pair
rest s x = cond (is_unknown s x) (record { first = int (pos 0); second = int (pos 0) }) (bound s x)

-- A position: which variables are basic, and the coefficients of their rows by the numbers of the variables. A basic variable has the
-- coefficient 0 in every row, and the row of a nonbasic variable is that variable itself.
pub record Position : Type 0 where
  pub is_basic : ℕ → Bool
  pub coefficient : ℕ → ℕ → ℚ

-- the form of a position's rows
pub record IsTableau (p : Position) : Type 0 where
  pub empty : (x y : ℕ) → p.is_basic y ≡ true → p.coefficient x y ≡ int (pos 0)
  pub own : (x y : ℕ) → p.is_basic x ≡ false → p.coefficient x y ≡ unit x y

-- at first the s are basic, with the rows s_i = a_i · v
unfoldable pub opening : LinearSystem → Position
opening s = record {
  is_basic = λ x. not (is_unknown s x);
  coefficient = λ x y. cond (is_unknown s x) (unit x y) (cond (is_unknown s y) (entry s (x - s.width) y) (int (pos 0)));
}

-- the value of a variable: the dot of its coefficients with where the nonbasic variables stand
unfoldable pub value : LinearSystem → Position → ℕ → Pair
value s p x = record {
  first = total (count s) (λ y. p.coefficient x y *ℚ (rest s y).first);
  second = total (count s) (λ y. p.coefficient x y *ℚ (rest s y).second);
}

abbrev pub is_zero : ℚ → Bool
is_zero c = le_ℚ c (int (pos 0)) && le_ℚ (int (pos 0)) c

-- whether x may leave: it is a basic s above its bound
unfoldable pub may_leave : LinearSystem → Position → ℕ → Bool
may_leave s p x = not (is_unknown s x) && (p.is_basic x && is_below (bound s x) (value s p x))

-- whether y may enter where l leaves: it is nonbasic, and a v with a coefficient not 0 or an s with a positive one in the row of l
unfoldable pub may_enter : LinearSystem → Position → ℕ → ℕ → Bool
may_enter s p l y = not (p.is_basic y) && cond (is_unknown s y) (not (is_zero (p.coefficient l y))) (lt_ℚ (int (pos 0)) (p.coefficient l y))

-- what comes next: the end with a point, the end where the row of l refutes the system, or a pivot where l leaves and e enters
pub data Turn : Type 0 where
  has_point : Turn
  is_refuted : ℕ → Turn
  goes_on : ℕ → ℕ → Turn

abbrev pub turn_at : ℕ → Option ℕ → Turn
turn_at l None = is_refuted l
turn_at l (Some e) = goes_on l e

abbrev pub turn_from : (ℕ → Option ℕ) → Option ℕ → Turn
turn_from entering None = has_point
turn_from entering (Some l) = turn_at l (entering l)

unfoldable pub turn : LinearSystem → Position → Turn
turn s p = turn_from (λ l. least (may_enter s p l) (count s)) (least (may_leave s p) (count s))

-- the new row of the entering variable e, from the row of the leaving variable l, where q is the coefficient of e there: 1/q on l, and the
-- negative of c/q on each other nonbasic variable with the coefficient c
unfoldable pub entering_row : Position → ℕ → ℕ → ℕ → ℚ
entering_row p l e y =
    let q = p.coefficient l e in
    cond (eqb y l) (inv_ℚ q) (cond (eqb y e) (int (pos 0)) (neg_ℚ (p.coefficient l y) /ℚ q))

-- the new row of another basic variable x, where k is its coefficient on e
unfoldable pub other_row : Position → ℕ → ℕ → ℕ → ℕ → ℚ
other_row p l e x y =
    let k = p.coefficient x e in
    cond (eqb y e) (int (pos 0)) (cond (eqb y l) (k *ℚ entering_row p l e l) (p.coefficient x y +ℚ k *ℚ entering_row p l e y))

unfoldable pub pivot : Position → ℕ → ℕ → Position
pivot p l e = record {
  is_basic = λ x. cond (eqb x l) false (cond (eqb x e) true (p.is_basic x));
  coefficient = λ x y. cond (eqb x l) (unit l y) (cond (eqb x e) (entering_row p l e y) (other_row p l e x y));
}

-- the position after a turn; an end stays
abbrev pub moved : Position → Turn → Position
moved p has_point = p
moved p (is_refuted l) = p
moved p (goes_on l e) = pivot p l e

-- the position after k steps
unfoldable pub position : LinearSystem → ℕ → Position
position s zero = opening s
position s (suc k) = moved (position s k) (turn s (position s k))

-- whether a turn is a pivot, and then which variables it exchanges
abbrev pub is_pivot : Turn → Bool
is_pivot has_point = false
is_pivot (is_refuted l) = false
is_pivot (goes_on l e) = true

abbrev pub leaving : Turn → ℕ
leaving has_point = 0
leaving (is_refuted l) = l
leaving (goes_on l e) = l

abbrev pub entering : Turn → ℕ
entering has_point = 0
entering (is_refuted l) = 0
entering (goes_on l e) = e

-- at position k the run goes on
pub record GoesOn (s : LinearSystem) (k : ℕ) : Type 0 where
  pub pivots : is_pivot (turn s (position s k)) ≡ true

-- two positions of a run have one basis
pub record OneBasis (s : LinearSystem) (i j : ℕ) : Type 0 where
  pub same : (x : ℕ) → x < count s → (position s i).is_basic x ≡ (position s j).is_basic x

-- how many steps follow a position, counted up to so many
unfoldable pub steps_within : LinearSystem → ℕ → Position → ℕ
steps_within s zero p = zero
steps_within s (suc most) p = cond (is_pivot (turn s p)) (suc (steps_within s most (moved p (turn s p)))) zero

-- how many steps follow a position: no run takes as many as there are sets of variables
unfoldable pub steps_from : LinearSystem → Position → ℕ
steps_from s p = steps_within s (2 ^ count s) p

-- how many steps the run takes, and where it ends
unfoldable pub steps : LinearSystem → ℕ
steps s = steps_from s (opening s)

unfoldable pub last_position : LinearSystem → Position
last_position s = position s (steps s)

-- ---- what an end says
-- the multiplier of row i where the row of l refutes: 1 for l itself, the negative of its coefficient for a nonbasic s, else 0
unfoldable pub multiplier : LinearSystem → Position → ℕ → ℕ → ℚ
multiplier s p l i =
    let x = s.width + i in
    cond (eqb x l) (int (pos 1)) (cond (p.is_basic x) (int (pos 0)) (neg_ℚ (p.coefficient l x)))
