-- Affine forms (k_0 + k_1 t_1 + .. + k_n t_n) / den in the counts t, in whole numbers.
use Rattle.std.specs.Prelude.{◌≡◌, ℕ, ◌+◌, ◌^◌, ◌<◌, ◌≤◌, ℤ, pos, ◌+ℤ◌, ◌*ℤ◌, ◌<ℤ◌, unsigned_abs, List, [], ◌∷◌, length, map}
use Rattle.mpc_exact.specs.Rational.{ℚ, quotient}
use Rattle.mpc_space.specs.Vector.{dot}
use Rattle.mpc_linear.specs.declared.integers.IntAffine.{IntAffine}
use Rattle.mpc_plant.specs.Trajectory.{point_of}
use Rattle.mpc_rows.specs.ActiveSets.{extended}
use Rattle.mpc_controller.specs.Bounds.{reach}

-- k_1 t_1 + .. + k_n t_n
abbrev pub weighed : List ℤ → List ℕ → ℤ
weighed [] ts = pos 0
weighed (k ∷ ks) [] = pos 0
weighed (k ∷ ks) (t ∷ ts) = k *ℤ pos t +ℤ weighed ks ts

-- the value at counts
abbrev pub affine_value : IntAffine → List ℕ → ℚ
affine_value form ts = quotient (weighed form.k (1 ∷ ts)) form.den

-- the values of several forms
abbrev pub affine_values : List IntAffine → List ℕ → List ℚ
affine_values forms ts = map (λ form. affine_value form ts) forms

-- no number of the form's values is too wide, at counts up to these
pub record IsBounded (counts : List ℕ) (form : IntAffine) : Type 0 where
  pub size : length form.k ≡ length counts + 1
  pub positive : pos 0 <ℤ form.den
  pub den_fits : unsigned_abs form.den < 2 ^ 127
  pub reach_fits : reach form.k (1 ∷ counts) < 2 ^ 127

-- the form has these coefficients, the constant first
pub record IsFormOf (row : List ℚ) (form : IntAffine) : Type 0 where
  pub value : (ts : List ℕ) → affine_value form ts ≡ dot row (extended (point_of ts))

-- as many counts, each at most the other
abbrev pub AreUpTo : List ℕ → List ℕ → Type 0
AreUpTo [] [] = Unit {0}
AreUpTo [] (t ∷ ts) = ⊥
AreUpTo (s ∷ ss) [] = ⊥
AreUpTo (s ∷ ss) (t ∷ ts) = (s ≤ t) × AreUpTo ss ts

-- each form has the coefficients of its row
abbrev pub AreFormsOf : List (List ℚ) → List IntAffine → Type 0
AreFormsOf [] [] = Unit {0}
AreFormsOf [] (form ∷ forms) = ⊥
AreFormsOf (row ∷ rows) [] = ⊥
AreFormsOf (row ∷ rows) (form ∷ forms) = IsFormOf row form × AreFormsOf rows forms
