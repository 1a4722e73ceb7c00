-- Sums of products, and rows that are listed entry by entry.
use Rattle.std.proofs.Common.{◌≡◌, ℕ, zero, suc, ◌+◌, ◌<◌, List, [], ◌∷◌, ◌++◌, length, pos, refl, sym, ◌∙◌, ap, subst, arith}
use Rattle.std.proofs.lemmas.List.{get_or-map}
use Rattle.std.proofs.lemmas.List.FromFn.{map-range_with_len_more}
use Rattle.mpc_exact.specs.Rational.{ℚ, int, abs_ℚ, ◌+ℚ◌}
use Rattle.mpc_exact.proofs.RationalRing.{reads, by_ring}
use Rattle.mpc_space.specs.Vector.{coordinate, column, dot, listed}
use Rattle.mpc_space.specs.Matrix.{RationalMatrix, height, entry}
use Rattle.mpc_space.proofs.Entries.{length-listed}
use Rattle.mpc_space.proofs.Matrix.{length-column, coordinate-column}
use Rattle.mpc_linear.specs.SumTheorems.{StandAt}
use Rattle.mpc_plant.specs.declared.plants.Plant.{Plant}
use Rattle.mpc_tight.specs.declared.errors.StepError.{StepError}
use Rattle.mpc_tight.specs.declared.errors.StepError.TheVariants.{TooWide, OutOfMemory}
use Rattle.mpc_tight.specs.Disturbed.{sizes}
use Rattle.mpc_linear.specs.Product.{product_row}
use Rattle.mpc_tight.specs.Tightening.{IfTooWide, carried, effect, tightening, AddedFits}

pub zero_plus : (x : ℚ) → int (pos 0) +ℚ x ≡ x
zero_plus x = by_ring (x ∷ []) (search reads depth 30) (search reads depth 30) tt

pub stand_in_column : (row : List ℚ) (m : RationalMatrix) (j k : ℕ) (x y : ℚ) → length row ≡ height m → k < height m → x ≡ coordinate row k → y ≡ entry m k j → StandAt row (column m.rows j) k x y
stand_in_column row m j k x y size l e f = record {
  within_left = omega arith;
  within_right = omega (arith, length-column m.rows j);
  left = e;
  right = f ∙ sym (coordinate-column m.rows k j);
}

pub sizes_length : (xs : List ℚ) → length (sizes xs) ≡ length xs
sizes_length [] = refl
sizes_length (x ∷ xs) = ap suc (sizes_length xs)

pub stand_in_sizes : (row noise : List ℚ) (k : ℕ) (x s y : ℚ) → length row ≡ length noise → k < length row → x ≡ coordinate row k → s ≡ abs_ℚ x → y ≡ coordinate noise k → StandAt (sizes row) noise k s y
stand_in_sizes row noise k x s y size l e is f = record {
  within_left = omega (arith, sizes_length row);
  within_right = omega arith;
  left = is ∙ ap abs_ℚ e ∙ sym (get_or-map abs_ℚ row k (int (pos 0)) (int (pos 0)) l);
  right = f;
}

pub listed_more : (f : ℕ → ℚ) (i : ℕ) (xs ys : List ℚ) (v : ℚ) → xs ≡ listed i f → ys ≡ xs ++ v ∷ [] → v ≡ f i → ys ≡ listed (i + 1) f
listed_more f i xs ys v e g is = g ∙ (λ j. e j ++ is j ∷ []) ∙ sym (map-range_with_len_more f 0 i i (omega arith))

-- a row that is carried along keeps its size
pub carried_length : (plant : Plant) (a : List ℚ) (j : ℕ) → length a ≡ plant.n → length (carried plant a j) ≡ plant.n
carried_length plant a zero e = e
carried_length plant a (suc j) e = length-listed plant.a.columns (λ i. dot (carried plant a j) (column plant.a.rows i)) ∙ plant.is_plant.a_shape.columns_are

pub too_wide_weaker : (e : StepError) (P Q : Type 0) → (P → Q) → IfTooWide P e → IfTooWide Q e
too_wide_weaker TooWide P Q f h = f h
too_wide_weaker OutOfMemory P Q f h = h

pub too_wide : (e : StepError) (P : Type 0) → P → IfTooWide P e
too_wide TooWide P h = h
too_wide OutOfMemory P h = tt

-- ---- one step more
module _ (plant : Plant) (noise a : List ℚ) (j : ℕ) where
  next_is : j + 1 ≡ suc j
  next_is = omega arith

  pub carried_next : carried plant a (j + 1) ≡ product_row plant.a (carried plant a j)
  carried_next = ap (carried plant a) next_is

  pub tightening_next : tightening plant noise a (j + 1) ≡ tightening plant noise a j +ℚ effect plant noise a j
  tightening_next = ap (tightening plant noise a) next_is

  -- the sum so far and the row that is carried so far, as the code has them
  module _ (sum : ℚ) (row : List ℚ) (sum_is : sum ≡ tightening plant noise a j) (row_is : row ≡ carried plant a j) where
    pub row_length : length a ≡ plant.n → length row ≡ plant.n
    row_length e = ap length row_is ∙ carried_length plant a j e

    pub carried_more : (next : List ℚ) → next ≡ product_row plant.a row → next ≡ carried plant a (j + 1)
    carried_more next e = e ∙ ap (product_row plant.a) row_is ∙ sym carried_next

    pub sum_more : (next : ℚ) → next ≡ sum +ℚ dot (sizes row) noise → next ≡ tightening plant noise a (j + 1)
    sum_more next e = e ∙ (λ i. sum_is i +ℚ dot (sizes (row_is i)) noise) ∙ sym tightening_next

    pub added_as : AddedFits sum row noise → AddedFits (tightening plant noise a j) (carried plant a j) noise
    added_as h = subst (λ s. AddedFits s (carried plant a j) noise) sum_is (subst (λ r. AddedFits sum r noise) row_is h)
