-- The entries of a matrix after one is written.
use Rattle.std.proofs.Common.{◌≡◌, ◌≢◌, ℕ, ◌<◌, [], length, get_or, set, replicate, pos, ◌∙◌, ap, arith, ⊎_elim}
use Rattle.std.proofs.Math.ListN.{length-set, length-replicate, get_or-eq_default}
use Rattle.std.proofs.lemmas.Bool.{cases_lt}
use Rattle.std.proofs.lemmas.List.{get_or-replicate, get_or-set_same, get_or-set_other}
use Rattle.std.proofs.lemmas.List.Elements.{All-set}
use Rattle.mpc_exact.specs.Rational.{ℚ, int}
use Rattle.mpc_space.specs.Matrix.{RationalMatrix, height, IsRectangular, entry}
use Rattle.mpc_linear.specs.Shape.{HasShape}
use Rattle.mpc_linear.specs.Entries.{with_entry, zero_matrix}
use Rattle.mpc_definite.specs.Steps.{IsLike}

module _ (m : RationalMatrix) (i j : ℕ) (v : ℚ) where
  pub with_entry-height : height (with_entry m i j v) ≡ height m
  with_entry-height = length-set m.rows i _

  pub with_entry-same : i < height m → j < m.columns → IsRectangular m → entry (with_entry m i j v) i j ≡ v
  with_entry-same a b r =
      ap (λ row. get_or row j (int (pos 0))) (get_or-set_same m.rows i (set (get_or m.rows i []) j v) [] a)
      ∙ get_or-set_same (get_or m.rows i []) j v (int (pos 0)) (omega (arith, r i [] a))

  pub with_entry-row : (k : ℕ) → i < height m → k ≢ j → entry (with_entry m i j v) i k ≡ entry m i k
  with_entry-row k a other =
      ap (λ row. get_or row k (int (pos 0))) (get_or-set_same m.rows i (set (get_or m.rows i []) j v) [] a)
      ∙ get_or-set_other (get_or m.rows i []) j k v (int (pos 0)) other

  pub with_entry-others : (r k : ℕ) → r ≢ i → entry (with_entry m i j v) r k ≡ entry m r k
  with_entry-others r k other = ap (λ row. get_or row k (int (pos 0))) (get_or-set_other m.rows i r (set (get_or m.rows i []) j v) [] other)

  pub with_entry-shape : (rows columns : ℕ) → i < height m → HasShape m rows columns → HasShape (with_entry m i j v) rows columns
  with_entry-shape rows columns a s = record {
    rows_are = with_entry-height ∙ s.rows_are;
    columns_are = s.columns_are;
    rectangular = All-set (λ row. length row ≡ m.columns) m.rows i (set (get_or m.rows i []) j v) (length-set (get_or m.rows i []) j v ∙ s.rectangular i [] a) s.rectangular;
  }

pub like-trans : (a b c : RationalMatrix) → IsLike a b → IsLike b c → IsLike a c
like-trans a b c p q = record { rows_are = q.rows_are ∙ p.rows_are; columns_are = q.columns_are ∙ p.rows_are; rectangular = q.rectangular }

-- ---- zeros
pub zero_matrix-height : (n w : ℕ) → height (zero_matrix n w) ≡ n
zero_matrix-height n w = length-replicate n (replicate w (int (pos 0)))

replicate-at : (n i : ℕ) → get_or (replicate n (int (pos 0))) i (int (pos 0)) ≡ int (pos 0)
replicate-at n i = ⊎_elim (λ p. get_or-replicate n i (int (pos 0)) (int (pos 0)) p) (λ p. get_or-eq_default (replicate n (int (pos 0))) (int (pos 0)) (omega (arith, length-replicate n (int (pos 0))))) (cases_lt i n)

pub zero_matrix-entry : (n w i k : ℕ) → entry (zero_matrix n w) i k ≡ int (pos 0)
zero_matrix-entry n w i k =
    ⊎_elim
    (λ p. ap (λ row. get_or row k (int (pos 0))) (get_or-replicate n i (replicate w (int (pos 0))) [] p) ∙ replicate-at w k)
    (λ p. ap (λ row. get_or row k (int (pos 0))) (get_or-eq_default (replicate n (replicate w (int (pos 0)))) [] (omega (arith, zero_matrix-height n w))))
    (cases_lt i n)
