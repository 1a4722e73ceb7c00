-- What is kept where the pivots stand in their own rows.
use Rattle.std.proofs.Common.{◌≡◌, ◌≢◌, ℕ, ◌+◌, ◌*◌, ◌<◌, ◌≤◌, min, List, length, get_or, Option, Some, None, pos, ◌∙◌, subst, subst₂, arith}
use Rattle.mpc_exact.specs.Rational.{ℚ, int}
use Rattle.mpc_space.specs.Matrix.{RationalMatrix, height, entry}
use Rattle.mpc_linear.specs.Elimination.{Table}
use Rattle.mpc_bordered.specs.Fronts.{front}
use Rattle.mpc_bordered.specs.Kept.{IfFormed, AreFormed, HasPivot, IsKept}

pivot_at : (t : Table) (c : ℕ) (o : Option ℚ) → HasPivot o → IfFormed t c c c o → front t c c c ≢ int (pos 0)
pivot_at t c (Some v) h f e = h (f.value ∙ e)
pivot_at t c None h f e = absurd h

pub kept_with : (t : RationalMatrix) (u : ℕ) (xs ys : List (Option ℚ)) (rows : ℕ) → u ≤ height t → u ≤ t.columns → length xs ≡ t.columns * height t → AreFormed (entry t) u (height t) t.columns xs → ys ≡ xs → rows ≡ height t
    → ((c : ℕ) → c < u → HasPivot (get_or ys (c * rows + c) None)) → IsKept t u xs
kept_with t u xs ys rows a b size f e r p = record {
  rows_enough = a;
  columns_enough = b;
  size = size;
  pivots = λ c l. let q : min c u ≡ c = omega arith in
      pivot_at (entry t) c (get_or xs (c * height t + c) None) (subst₂ (λ zs n. HasPivot (get_or zs (c * n + c) None)) e r (p c l))
      (subst (λ k. IfFormed (entry t) k c c (get_or xs (c * height t + c) None)) q (f c c (omega arith) (omega arith)));
  formed = f;
}
