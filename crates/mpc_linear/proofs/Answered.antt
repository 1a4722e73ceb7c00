-- How an elimination of the stored table answers for the system.
use Rattle.std.proofs.Common.{◌≡◌, ℕ, ◌+◌, ◌<◌, ◌≤◌, List, Some, None, sym, ◌∙◌, subst, subst₂, arith}
use Rattle.mpc_exact.specs.Rational.{ℚ}
use Rattle.mpc_space.specs.Matrix.{RationalMatrix, height, IsRectangular, tabled}
use Rattle.mpc_space.proofs.Matrix.{entry-tabled}
use Rattle.mpc_linear.specs.Elimination.{Table, augmented, eliminated, ColumnsDone, EndsDependent}
use Rattle.mpc_linear.specs.Solution.{IsOnlySolution, IsFirstDependent, IsWideColumn, width}
use Rattle.mpc_linear.specs.Stored.{stored, SameFrom, EndsAt, IsWideAt, ShowsSolution}
use Rattle.mpc_linear.proofs.Agreement.{eliminated_same, done_same, dependent_same, wide_same}
use Rattle.mpc_linear.proofs.Theorem.{tabled-shape, unique, dependent, not_only}

module _ (m rhs : RationalMatrix) (mr : IsRectangular m) (rr : IsRectangular rhs) (square : height m ≡ m.columns) (rows : height rhs ≡ height m) (xs : List ℚ)
    (table : SameFrom (height m) (m.columns + rhs.columns) 0 (stored (m.columns + rhs.columns) xs) (augmented m rhs)) where
  abbrev n : ℕ
  n = m.columns

  abbrev w : ℕ
  w = rhs.columns

  abbrev first : Table
  first = stored (n + w) xs

  same : SameFrom n (n + w) 0 first (augmented m rhs)
  same i j hi = table i j (subst (λ k. i < k) (sym square) hi)

  within : n ≤ n + w
  within = omega arith

  done_here : ColumnsDone n (n + w) first n → ColumnsDone n (n + w) (augmented m rhs) n
  done_here = done_same n (n + w) within first (augmented m rhs) same n (omega arith)

  unique_here : (ys : List ℚ) → ColumnsDone n (n + w) first n → SameFrom n (n + w) n (stored (n + w) ys) (eliminated n first n) → IsOnlySolution m rhs (tabled n w (λ i j. stored (n + w) ys i (n + j)))
  unique_here ys d s =
      unique m rhs mr rr square rows (done_here d) (tabled n w (λ i j. stored (n + w) ys i (n + j))) (tabled-shape n w (λ i j. stored (n + w) ys i (n + j)))
      (λ i j hi hj.
      entry-tabled n w (λ i j. stored (n + w) ys i (n + j)) i j hi hj ∙ s i (n + j) hi (omega arith) (omega arith)
      ∙ eliminated_same n (n + w) within first (augmented m rhs) same n (omega arith) i (n + j) hi (omega arith) (omega arith))

  module _ (a b : ℕ) (ea : a ≡ n) (eb : b ≡ w) where
    pub unique_answer : (ys : List ℚ) → EndsAt a (a + b) (stored (a + b) xs) None → ShowsSolution a (a + b) (stored (a + b) xs) (stored (a + b) ys) None → IsOnlySolution m rhs (tabled a b (λ i j. stored (a + b) ys i (a + j)))
    unique_answer ys =
        subst₂ (λ a b. ColumnsDone a (a + b) (stored (a + b) xs) a → SameFrom a (a + b) a (stored (a + b) ys) (eliminated a (stored (a + b) xs) a) → IsOnlySolution m rhs (tabled a b (λ i j. stored (a + b) ys i (a + j))))
        (sym ea) (sym eb) (unique_here ys)

    pub unique_fits : EndsAt a (a + b) (stored (a + b) xs) None → ColumnsDone n (width m rhs) (augmented m rhs) n
    unique_fits = subst₂ (λ a b. ColumnsDone a (a + b) (stored (a + b) xs) a → ColumnsDone n (width m rhs) (augmented m rhs) n) (sym ea) (sym eb) done_here

    pub dependent_fits : (column : ℕ) → EndsAt a (a + b) (stored (a + b) xs) (Some column) → (index : ℕ) × (column ≡ index + 1) × EndsDependent n (width m rhs) (augmented m rhs) index
    dependent_fits column =
        subst₂ (λ a b. EndsAt a (a + b) (stored (a + b) xs) (Some column) → (index : ℕ) × (column ≡ index + 1) × EndsDependent n (width m rhs) (augmented m rhs) index) (sym ea) (sym eb)
        (λ d. (d.0, d.1, dependent_same n (n + w) within first (augmented m rhs) same d.0 d.2))

    pub dependent_answer : (column : ℕ) → EndsAt a (a + b) (stored (a + b) xs) (Some column) → (index : ℕ) × (column ≡ index + 1) × IsFirstDependent m index × (0 < rhs.columns → (x : RationalMatrix) → ¬ IsOnlySolution m rhs x)
    dependent_answer column d =
        let e = dependent_fits column d in
        let f = dependent m rhs mr rr square rows e.0 e.2 in
        (e.0, e.1, f, λ some x. not_only m rhs mr rr square rows e.0 f some x)

    pub wide_answer : (column : ℕ) → IsWideAt a (a + b) (stored (a + b) xs) column → IsWideColumn m rhs column
    wide_answer column =
        subst₂ (λ a b. IsWideAt a (a + b) (stored (a + b) xs) column → IsWideColumn m rhs column) (sym ea) (sym eb)
        (λ d. (d.0, d.1, wide_same n (n + w) within first (augmented m rhs) same d.0 d.2))
