-- A program for views that know none: one count of 0, one unknown, no rows, and all numbers 0.
use Rattle.std.specs.Prelude.{◌≡◌, ℕ, zero, suc, List, [], ◌∷◌, length, All, pos}
use Rattle.std.proofs.Common.{refl, zero-le, suc-le-suc, le_of_suc-le-suc, not-suc-le-zero}
use Rattle.mpc_exact.specs.Rational.{ℚ, int}
use Rattle.mpc_space.specs.Matrix.{RationalMatrix}
use Rattle.mpc_rows.specs.declared.programs.Qp.{Qp}

abbrev nought : ℚ
nought = int (pos 0)

abbrev one_number : RationalMatrix
one_number = record { rows = (nought ∷ []) ∷ []; columns = 1 }

abbrev two_numbers : RationalMatrix
two_numbers = record { rows = (nought ∷ nought ∷ []) ∷ []; columns = 2 }

abbrev four_numbers : RationalMatrix
four_numbers = record { rows = (nought ∷ nought ∷ []) ∷ (nought ∷ nought ∷ []) ∷ []; columns = 2 }

abbrev no_rows : ℕ → RationalMatrix
no_rows columns = record { rows = []; columns = columns }

none : (n : ℕ) → All (λ (row : List ℚ). length row ≡ n) []
none n k d p = absurd (not-suc-le-zero p)

one : (row : List ℚ) (n : ℕ) → length row ≡ n → All (λ (r : List ℚ). length r ≡ n) (row ∷ [])
one row n e zero d p = e
one row n e (suc k) d p = absurd (not-suc-le-zero (le_of_suc-le-suc p))

two : (row other : List ℚ) (n : ℕ) → length row ≡ n → length other ≡ n → All (λ (r : List ℚ). length r ≡ n) (row ∷ other ∷ [])
two row other n e f zero d p = e
two row other n e f (suc zero) d p = f
two row other n e f (suc (suc k)) d p = absurd (not-suc-le-zero (le_of_suc-le-suc (le_of_suc-le-suc p)))

pub blank : Qp
blank = record {
  h = one_number;
  f = two_numbers;
  y = four_numbers;
  g = no_rows 1;
  w = no_rows 2;
  counts = 0 ∷ [];
  is_program = record {
    some_parameters = suc-le-suc zero-le;
    few_parameters = suc-le-suc zero-le;
    some_unknowns = suc-le-suc zero-le;
    few_unknowns = suc-le-suc zero-le;
    few_rows = zero-le;
    h_shape = record { rows_are = refl; columns_are = refl; rectangular = one (nought ∷ []) 1 refl };
    f_shape = record { rows_are = refl; columns_are = refl; rectangular = one (nought ∷ nought ∷ []) 2 refl };
    y_shape = record { rows_are = refl; columns_are = refl; rectangular = two (nought ∷ nought ∷ []) (nought ∷ nought ∷ []) 2 refl refl };
    g_shape = record { rows_are = refl; columns_are = refl; rectangular = none 1 };
    w_shape = record { rows_are = refl; columns_are = refl; rectangular = none 2 };
  };
}
