-- The coefficients of the unknowns at each position of a run in one to four unknowns: minors of one row less than there are unknowns, over
-- the determinant of as many.
use Rattle.std.proofs.Common.{◌≡◌, ◌≢◌, ℕ, ◌-◌, ◌<◌, ◌≤◌, false, List, ℤ, pos, negsuc, ◌*ℤ◌, unsigned_abs, [], ◌∷◌, refl, sym, ◌∙◌, ap, subst, arith, ◌⊎◌, inl, inr}
use Rattle.std.proofs.lemmas.Bool.{cases_eq}
use Rattle.mpc_exact.specs.Rational.{ℚ, int, frac, ◌*ℚ◌, neg_ℚ, inv_ℚ}
use Rattle.mpc_exact.proofs.Rational.{rational_ring, *ℚ_inv, *ℚ_comm, int-mul}
use Rattle.mpc_exact.proofs.RationalRing.{reads, by_ring, by_equation}
use Rattle.mpc_exact.proofs.IntRing.{int_ring, int_reads, by_ring_ℤ}
use Rattle.mpc_exact.proofs.School.{int_not_zero}
use Rattle.mpc_space.specs.Total.{total, unit}
use Rattle.mpc_space.proofs.Total.{total-same, total-unit, unit-same, unit-other}
use Rattle.mpc_rows.specs.LinearSystem.{LinearSystem}
use Rattle.mpc_rows.specs.Run.{Position, count, opening, position}
use Rattle.mpc_scaled.specs.Scaled.{whole_cell, scale_at, IsSmall, IsWholeSystem}
use Rattle.mpc_runs.specs.declared.variables.Seat.TheVariants.{Column}
use Rattle.mpc_runs.specs.Table.{seat_at, in_row}
use Rattle.mpc_runs.specs.WholeNumbers.{turned}
use Rattle.mpc_runs.proofs.TableauRows.{Meets, row_value, values_meet, stands}
use Rattle.mpc_runs.proofs.Positions.{tableau, same_rows}
use Rattle.mpc_runs.proofs.Seats.{column_same}
use Rattle.mpc_runs.proofs.WholeSums.{abs_some, abs_turned, ratio_is}
use Rattle.mpc_whole.specs.Whole.{IsForm}
use Rattle.mpc_minors.specs.Sizes.{most_determinant}
use Rattle.mpc_minors.proofs.Minors.{sum_four, cofactor_at, determinant_of, determinant_some, solved}
use Rattle.mpc_minors.proofs.Padded.{padded, padded_ratios, padded_scales, inside, scale-inside, padded_some, padded_dots}
use Rattle.mpc_minors.proofs.Sizes.{cofactor-size, determinant-size}
use Rattle.mpc_minors.proofs.Cells.{cells, cells-at, cells-small}
use Rattle.mpc_minors.proofs.Seats.{HasSeats}
use Rattle.mpc_minors.proofs.Rows.{number, number-small, meets_number}

turned-times : (q a b : ℤ) → turned q (a *ℤ b) ≡ turned q a *ℤ b
turned-times (pos n) a b = refl
turned-times (negsuc n) a b = by_ring_ℤ (a ∷ b ∷ []) (search int_reads depth 30) (search int_reads depth 30) tt

-- from d x = a k
quotient_of : (d a : ℤ) (x : ℚ) (k : ℕ) → d ≢ pos 0 → int d *ℚ x ≡ int a *ℚ int (pos k) → x ≡ frac (turned d a *ℤ pos k) (unsigned_abs d)
quotient_of d a x k some e =
    divided (int d) x (inv_ℚ (int d)) (*ℚ_inv (int d) (int_not_zero d some))
    ∙ ap (λ u. u *ℚ inv_ℚ (int d)) (e ∙ sym (int-mul a (pos k)))
    ∙ ratio_is (a *ℤ pos k) d 1 (omega arith) some
    ∙ ap (λ z. frac z (unsigned_abs d)) (turned-times d a (pos k))
  where
    divided : (d x i : ℚ) → d *ℚ i ≡ int (pos 1) → x ≡ (d *ℚ x) *ℚ i
    divided d x i h = by_equation (neg_ℚ x) h (by_ring (d ∷ x ∷ i ∷ []) (search reads depth 30) (search reads depth 30) tt)

-- ---- a position
module _ (s : LinearSystem) (some : 1 ≤ s.width) (few : s.width ≤ 4) (k : List ℕ) (a b : List ℤ) (w : IsWholeSystem s k a b) (q : ℕ) (o : HasSeats s (position s q)) where
  abbrev p : Position
  p = position s q

  -- the variable of a column, and the values where it is 1 and the other nonbasic ones are 0
  abbrev of : ℕ → ℕ
  of c = o.seated.of_column c

  in_all : (c : ℕ) → c < s.width → of c < count s
  in_all c h = (o.seated.columns_full c h).0

  free : (c : ℕ) → c < s.width → p.is_basic (of c) ≡ false
  free c h = o.basic (of c) (in_all c h) ∙ ap in_row (o.seated.columns_full c h).1

  abbrev values : ℕ → ℕ → ℚ
  values c z = row_value (count s) p (unit (of c)) z

  values_are : (c z : ℕ) → c < s.width → values c z ≡ p.coefficient z (of c)
  values_are c z h =
      total-same (count s) (λ y. p.coefficient z y *ℚ unit (of c) y) (λ y. unit (of c) y *ℚ p.coefficient z y) (λ y l. *ℚ_comm (p.coefficient z y) (unit (of c) y))
      ∙ total-unit (count s) (of c) (p.coefficient z) (in_all c h)

  at_opening : (c : ℕ) → Meets (count s) (opening s) (values c)
  at_opening c = (same_rows s q).back (values c) (values_meet (count s) p (tableau s q) (unit (of c)))

  units : (i c : ℕ) → i < s.width → c < s.width → (i ≡ c) ⊎ (i ≡ c → ⊥) → unit (of c) (of i) ≡ unit i c
  units i c h l (inl e) = unit-same (of c) (of i) (ap of (sym e)) ∙ sym (unit-same i c e)
  units i c h l (inr e) =
      unit-other (of c) (of i) (λ f. e (sym (column_same c i (sym (o.seated.columns_full c l).1 ∙ ap (seat_at o.seats) f ∙ (o.seated.columns_full i h).1))))
      ∙ sym (unit-other i c e)

  abbrev numbers : ℕ → ℕ → ℤ
  numbers i j = number s.width a (of i) j

  abbrev scales : ℕ → ℕ
  scales c = scale_at k (of c)

  dots : (i c : ℕ) → i < s.width → c < s.width → total s.width (λ j. int (numbers i j) *ℚ values c j) ≡ int (pos (scales i)) *ℚ unit i c
  dots i c h l =
      sym (meets_number s k a b w (values c) (at_opening c) (of i) (in_all i h))
      ∙ ap (λ u. int (pos (scales i)) *ℚ u) (stands (count s) p (tableau s q) (unit (of c)) (of i) (in_all i h) (free i h) ∙ units i c h l (cases_eq i c))

  -- ---- within four rows
  abbrev matrix : ℕ → ℕ → ℤ
  matrix = padded s.width numbers

  abbrev solutions : ℕ → ℕ → ℚ
  solutions = padded_ratios s.width values

  abbrev factors : ℕ → ℕ
  factors = padded_scales s.width scales

  some_factors : (c : ℕ) → c < 4 → 0 < factors c
  some_factors c h = padded_some s.width scales (λ i l. w.scales.some (of i) (in_all i l)) c

  all_dots : (i c : ℕ) → i < 4 → c < 4 → sum_four rational_ring (λ j. int (matrix i j) *ℚ solutions c j) ≡ int (pos (factors i)) *ℚ unit i c
  all_dots = padded_dots s.width few numbers values scales dots

  pub whole_den : ℤ
  whole_den = determinant_of int_ring matrix

  den_some : whole_den ≢ pos 0
  unfolding whole_den
  den_some = determinant_some matrix solutions factors some_factors all_dots

  pub form_number : ℕ → ℕ → ℤ
  form_number j c = turned whole_den (cofactor_at int_ring matrix c j)

  coefficient_is : (j c : ℕ) → j < s.width → c < s.width → p.coefficient j (of c) ≡ frac (form_number j c *ℤ pos (scales c)) (unsigned_abs whole_den)
  unfolding form_number whole_den
  coefficient_is j c h l =
      sym (values_are c j l)
      ∙ sym (inside s.width c j (values c j) (unit c j) l h)
      ∙ quotient_of (determinant_of int_ring matrix) (cofactor_at int_ring matrix c j) (solutions c j) (factors c) den_some
      (solved matrix solutions factors some_factors all_dots j c (omega (arith, few)) (omega (arith, few)))
      ∙ ap (λ n. frac (form_number j c *ℤ pos n) (unsigned_abs whole_den)) (scale-inside s.width scales c l)

  -- the numbers row by row
  pub form_list : List ℤ
  form_list = cells s.width s.width form_number

  pub is_form : IsForm s (count s) o.seats k (unsigned_abs whole_den) form_list p
  unfolding form_list
  is_form = record { some = abs_some whole_den den_some; basic = o.basic; entries = entries }
    where
      entries : (j y c : ℕ) → j < s.width → y < count s → seat_at o.seats y ≡ Column c → p.coefficient j y ≡ frac (whole_cell s.width form_list j c *ℤ pos (scale_at k y)) (unsigned_abs whole_den)
      entries j y c h l e =
          let f = o.seated.columns y c l e in
          subst (λ z. p.coefficient j z ≡ frac (whole_cell s.width form_list j c *ℤ pos (scale_at k z)) (unsigned_abs whole_den)) f.1
          (coefficient_is j c h f.0 ∙ ap (λ z. frac (z *ℤ pos (scales c)) (unsigned_abs whole_den)) (sym (cells-at s.width s.width form_number j c h f.0)))

  -- ---- their sizes
  module _ (most : ℕ) (one : 1 ≤ most) (small : IsSmall most a) where
    numbers_small : (i j : ℕ) → unsigned_abs (numbers i j) ≤ most
    numbers_small i j = number-small most s.width a one small (of i) j

    form_small : (j c : ℕ) → j < s.width → c < s.width → unsigned_abs (form_number j c) ≤ most_determinant (s.width - 1) most
    unfolding form_number
    form_small j c h l =
        subst (λ n. n ≤ most_determinant (s.width - 1) most) (sym (abs_turned whole_den (cofactor_at int_ring matrix c j)))
        (cofactor-size numbers most numbers_small s.width some few c j l h)

    pub list_small : IsSmall (most_determinant (s.width - 1) most) form_list
    unfolding form_list
    list_small = cells-small s.width s.width form_number (most_determinant (s.width - 1) most) (omega arith) form_small

    pub den_small : unsigned_abs whole_den ≤ most_determinant s.width most
    unfolding whole_den
    den_small = determinant-size numbers most numbers_small s.width some few
