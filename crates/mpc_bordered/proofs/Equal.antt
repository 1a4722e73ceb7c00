-- The first columns' elimination leaves the solutions of a system as they are.
use Rattle.std.proofs.Common.{◌≡◌, ℕ, ◌+◌, ◌-◌, ◌<◌, ◌≤◌, cond, ltb, List, [], ◌∷◌, get_or, pos, sym, ◌∙◌, ap, subst, arith, lt-ltb}
use Rattle.std.proofs.lemmas.Bool.{cond-true, cond-false}
use Rattle.std.proofs.lemmas.Bool.Decides.{nat_tests}
use Rattle.mpc_exact.specs.Rational.{ℚ, int, ◌+ℚ◌, ◌-ℚ◌, ◌*ℚ◌, neg_ℚ}
use Rattle.mpc_exact.proofs.RationalRing.{reads, by_ring}
use Rattle.mpc_space.specs.Vector.{dot, coordinate, column, mat_vec, IsZero}
use Rattle.mpc_space.specs.Matrix.{RationalMatrix, height, IsRectangular, entry, mat_mul}
use Rattle.mpc_space.specs.Total.{total, unit}
use Rattle.mpc_space.proofs.Total.{total-same, total-split, total-unit}
use Rattle.mpc_space.proofs.Entries.{zero_entries, zero_by_entries, dot-total_within}
use Rattle.mpc_space.proofs.Matrix.{coordinate-column, coordinate-mat_vec, entry-mat_mul, length-mat_vec, rectangular-mat_mul, height-mat_mul, same_matrix}
use Rattle.mpc_linear.specs.Elimination.{Table, augmented}
use Rattle.mpc_linear.specs.Shape.{HasShape}
use Rattle.mpc_linear.specs.Solution.{IsOnlySolution, IsFirstDependent}
use Rattle.mpc_bordered.specs.Fronts.{front, HasFront}
use Rattle.mpc_bordered.proofs.Agree.{Agree, agree_back}
use Rattle.mpc_bordered.proofs.FrontLemmas.{row_dot, InKernel, kernel_agree, front-kernel, kernel-front}

pub augmented_front : (m rhs : RationalMatrix) (i j : ℕ) → j < m.columns → augmented m rhs i j ≡ entry m i j
unfolding augmented
augmented_front m rhs i j h = cond-true (ltb j m.columns) (entry m i j) (entry rhs i (j - m.columns)) (lt-ltb j m.columns h)

pub augmented_back : (m rhs : RationalMatrix) (i j : ℕ) → augmented m rhs i (m.columns + j) ≡ entry rhs i j
unfolding augmented
augmented_back m rhs i j =
    let e : m.columns + j - m.columns ≡ j = omega arith in
    cond-false (ltb (m.columns + j) m.columns) (entry m i (m.columns + j)) (entry rhs i (m.columns + j - m.columns)) (grind (arith, nat_tests)) ∙ ap (λ k. entry rhs i k) e

-- y, and behind it the negative of a unit vector
pub beside : ℕ → (ℕ → ℚ) → ℕ → ℕ → ℚ
beside n y j k = cond (ltb k n) (y k) (neg_ℚ (unit j (k - n)))

beside-before : (n : ℕ) (y : ℕ → ℚ) (j k : ℕ) → k < n → beside n y j k ≡ y k
unfolding beside
beside-before n y j k h = cond-true (ltb k n) (y k) (neg_ℚ (unit j (k - n))) (grind (arith, nat_tests))

beside-from : (n : ℕ) (y : ℕ → ℚ) (j k : ℕ) → beside n y j (n + k) ≡ neg_ℚ (unit j k)
unfolding beside
beside-from n y j k =
    let e : n + k - n ≡ k = omega arith in
    cond-false (ltb (n + k) n) (y (n + k)) (neg_ℚ (unit j (n + k - n))) (grind (arith, nat_tests)) ∙ ap (λ m. neg_ℚ (unit j m)) e

beside-dot : (n w : ℕ) (t : Table) (y : ℕ → ℚ) (i j : ℕ) → j < w → row_dot (n + w) t (beside n y j) i ≡ total n (λ k. t i k *ℚ y k) -ℚ t i (n + j)
beside-dot n w t y i j hj =
    total-split n w (λ k. t i k *ℚ beside n y j k)
    ∙ (λ m. total-same n (λ k. t i k *ℚ beside n y j k) (λ k. t i k *ℚ y k) (λ k h. ap (λ v. t i k *ℚ v) (beside-before n y j k h)) m
    +ℚ (total-same w (λ k. t i (n + k) *ℚ beside n y j (n + k)) (λ k. unit j k *ℚ neg_ℚ (t i (n + k))) (λ k h. ap (λ v. t i (n + k) *ℚ v) (beside-from n y j k) ∙ by_ring (t i (n + k) ∷ unit j k ∷ []) (search reads depth 30) (search reads depth 30) tt)
    ∙ total-unit w j (λ k. neg_ℚ (t i (n + k))) hj) m)

difference_zero : (x y : ℚ) → x -ℚ y ≡ int (pos 0) → x ≡ y
difference_zero x y e = by_ring (x ∷ y ∷ []) (search reads depth 30) (search reads depth 30) tt ∙ ap (λ v. v +ℚ y) e ∙ by_ring (y ∷ []) (search reads depth 30) (search reads depth 30) tt

zero_difference : (x y : ℚ) → x ≡ y → x -ℚ y ≡ int (pos 0)
zero_difference x y e = ap (λ v. v -ℚ y) e ∙ by_ring (y ∷ []) (search reads depth 30) (search reads depth 30) tt

-- what the table says of a square system
module _ (m rhs : RationalMatrix) (mr : IsRectangular m) (rr : IsRectangular rhs) (square : height m ≡ m.columns) (rows : height rhs ≡ height m) where
  abbrev n : ℕ
  n = m.columns

  abbrev t : Table
  t = augmented m rhs

  in_rows : (i : ℕ) → i < n → i < height m
  in_rows i h = subst (λ k. i < k) (sym square) h

  row_total : (i : ℕ) (xs : List ℚ) → i < n → dot (get_or m.rows i []) xs ≡ total n (λ k. t i k *ℚ coordinate xs k)
  row_total i xs hi =
      dot-total_within n (get_or m.rows i []) xs (let e = mr i [] (in_rows i hi) in omega arith)
      ∙ total-same n (λ k. coordinate (get_or m.rows i []) k *ℚ coordinate xs k) (λ k. t i k *ℚ coordinate xs k) (λ k l. ap (λ u. u *ℚ coordinate xs k) (sym (augmented_front m rhs i k l)))

  product_total : (y : RationalMatrix) (i j : ℕ) → i < n → j < y.columns → entry (mat_mul m y) i j ≡ total n (λ k. t i k *ℚ entry y k j)
  product_total y i j hi hj =
      entry-mat_mul m y i j (in_rows i hi) hj ∙ row_total i (column y.rows j) hi
      ∙ total-same n (λ k. t i k *ℚ coordinate (column y.rows j) k) (λ k. t i k *ℚ entry y k j) (λ k l. ap (λ u. t i k *ℚ u) (coordinate-column y.rows k j))

  -- the columns of y, each beside its right side, are sent to 0
  abbrev pub SendsToZero : RationalMatrix → Type 0
  SendsToZero y = (j : ℕ) → j < rhs.columns → InKernel n (n + rhs.columns) t (beside n (λ k. entry y k j) j)

  pub solves_sends : (y : RationalMatrix) → y.columns ≡ rhs.columns → mat_mul m y ≡ rhs → SendsToZero y
  solves_sends y e p j hj i hi =
      beside-dot n rhs.columns t (λ k. entry y k j) i j hj
      ∙ zero_difference (total n (λ k. t i k *ℚ entry y k j)) (t i (n + j))
      (sym (product_total y i j hi (omega arith)) ∙ ap (λ z. entry z i j) p ∙ sym (augmented_back m rhs i j))

  pub sends_solves : (y : RationalMatrix) → y.columns ≡ rhs.columns → SendsToZero y → mat_mul m y ≡ rhs
  sends_solves y e k =
      same_matrix (mat_mul m y) rhs (rectangular-mat_mul m y) rr (height-mat_mul m y ∙ sym rows) e
      (λ i j hi hj.
      let hi' : i < n = subst (λ k. i < k) (height-mat_mul m y ∙ square) hi in
      let hj' : j < rhs.columns = subst (λ k. j < k) e hj in
      product_total y i j hi' hj
      ∙ difference_zero (total n (λ k. t i k *ℚ entry y k j)) (t i (n + j)) (sym (beside-dot n rhs.columns t (λ k. entry y k j) i j hj') ∙ k j hj' i hi')
      ∙ augmented_back m rhs i j)

  -- the vectors that m sends to 0
  pub zero_kernel : (v : List ℚ) → IsZero (mat_vec m.rows v) → InKernel n n t (coordinate v)
  zero_kernel v z i hi = sym (row_total i v hi) ∙ sym (coordinate-mat_vec m.rows v i) ∙ zero_entries (mat_vec m.rows v) z i

  pub kernel_zero : (v : List ℚ) → InKernel n n t (coordinate v) → IsZero (mat_vec m.rows v)
  kernel_zero v k =
      zero_by_entries (mat_vec m.rows v)
      (λ i h.
      let hi : i < n = subst (λ k. i < k) (length-mat_vec m.rows v ∙ square) h in
      coordinate-mat_vec m.rows v i ∙ row_total i v hi ∙ k i hi)

-- a square system
pub record IsSystem (m rhs : RationalMatrix) (n w : ℕ) : Type 0 where
  pub rectangular : IsRectangular m
  pub right_rectangular : IsRectangular rhs
  pub height_is : height m ≡ n
  pub columns_are : m.columns ≡ n
  pub right_height : height rhs ≡ n
  pub right_columns : rhs.columns ≡ w

-- what m and rhs are once the first u columns are eliminated
module _ (n w u : ℕ) (m rhs a b : RationalMatrix) (sys : IsSystem m rhs n w) (left : IsSystem a b n w) (within : u ≤ n) (pivots : HasFront (augmented m rhs) u)
    (same : Agree n (n + w) (augmented a b) (front (augmented m rhs) u)) where
  kernel_to : (width : ℕ) (z : ℕ → ℚ) → width ≤ n + w → InKernel n width (augmented m rhs) z → InKernel n width (augmented a b) z
  kernel_to width z l k =
      kernel_agree n (n + w) width (front (augmented m rhs) u) (augmented a b) z l (agree_back n (n + w) (augmented a b) (front (augmented m rhs) u) same)
      (front-kernel n width u (augmented m rhs) z within k)

  kernel_back : (width : ℕ) (z : ℕ → ℚ) → width ≤ n + w → InKernel n width (augmented a b) z → InKernel n width (augmented m rhs) z
  kernel_back width z l k =
      kernel-front n width u (augmented m rhs) z within pivots (kernel_agree n (n + w) width (augmented a b) (front (augmented m rhs) u) z l same k)

  system_shape : (m rhs : RationalMatrix) → IsSystem m rhs n w → height m ≡ m.columns
  system_shape m rhs s = s.height_is ∙ sym s.columns_are

  system_rows : (m rhs : RationalMatrix) → IsSystem m rhs n w → height rhs ≡ height m
  system_rows m rhs s = s.right_height ∙ sym s.height_is

  sends : (m rhs : RationalMatrix) → IsSystem m rhs n w → (y : RationalMatrix) → y.columns ≡ w → mat_mul m y ≡ rhs → (j : ℕ) → j < w → InKernel n (n + w) (augmented m rhs) (beside n (λ k. entry y k j) j)
  sends m rhs s y e p j hj =
      let k = solves_sends m rhs s.rectangular s.right_rectangular (system_shape m rhs s) (system_rows m rhs s) y (e ∙ sym s.right_columns) p j (omega (arith, s.right_columns)) in
      subst (λ k. InKernel k (k + w) (augmented m rhs) (beside k (λ k. entry y k j) j)) s.columns_are
      (subst (λ w. InKernel m.columns (m.columns + w) (augmented m rhs) (beside m.columns (λ k. entry y k j) j)) s.right_columns k)

  solves : (m rhs : RationalMatrix) → IsSystem m rhs n w → (y : RationalMatrix) → y.columns ≡ w → ((j : ℕ) → j < w → InKernel n (n + w) (augmented m rhs) (beside n (λ k. entry y k j) j)) → mat_mul m y ≡ rhs
  solves m rhs s y e k =
      sends_solves m rhs s.rectangular s.right_rectangular (system_shape m rhs s) (system_rows m rhs s) y (e ∙ sym s.right_columns)
      (λ j hj.
      subst (λ k. InKernel k (k + rhs.columns) (augmented m rhs) (beside k (λ k. entry y k j) j)) (sym s.columns_are)
      (subst (λ w. InKernel n (n + w) (augmented m rhs) (beside n (λ k. entry y k j) j)) (sym s.right_columns) (k j (omega (arith, s.right_columns)))))

  solves_to : (y : RationalMatrix) → y.columns ≡ w → mat_mul m y ≡ rhs → mat_mul a y ≡ b
  solves_to y e p = solves a b left y e (λ j hj. kernel_to (n + w) (beside n (λ k. entry y k j) j) (omega arith) (sends m rhs sys y e p j hj))

  solves_back : (y : RationalMatrix) → y.columns ≡ w → mat_mul a y ≡ b → mat_mul m y ≡ rhs
  solves_back y e p = solves m rhs sys y e (λ j hj. kernel_back (n + w) (beside n (λ k. entry y k j) j) (omega arith) (sends a b left y e p j hj))

  columns_same : a.columns ≡ m.columns
  columns_same = left.columns_are ∙ sym sys.columns_are

  rights_same : b.columns ≡ rhs.columns
  rights_same = left.right_columns ∙ sym sys.right_columns

  shape_to : (y : RationalMatrix) → HasShape y m.columns rhs.columns → HasShape y a.columns b.columns
  shape_to y s = record { rows_are = s.rows_are ∙ sym columns_same; columns_are = s.columns_are ∙ sym rights_same; rectangular = s.rectangular }

  shape_back : (y : RationalMatrix) → HasShape y a.columns b.columns → HasShape y m.columns rhs.columns
  shape_back y s = record { rows_are = s.rows_are ∙ columns_same; columns_are = s.columns_are ∙ rights_same; rectangular = s.rectangular }

  pub only_back : (x : RationalMatrix) → IsOnlySolution a b x → IsOnlySolution m rhs x
  only_back x o = record {
    shape = shape_back x o.shape;
    solves = solves_back x (o.shape.columns_are ∙ left.right_columns) o.solves;
    only = λ y s p. o.only y (shape_to y s) (solves_to y (s.columns_are ∙ sys.right_columns) p);
  }

  pub only_to : (x : RationalMatrix) → IsOnlySolution m rhs x → IsOnlySolution a b x
  only_to x o = record {
    shape = shape_to x o.shape;
    solves = solves_to x (o.shape.columns_are ∙ sys.right_columns) o.solves;
    only = λ y s p. o.only y (shape_back y s) (solves_back y (s.columns_are ∙ left.right_columns) p);
  }

  kernel_of : (m rhs : RationalMatrix) → IsSystem m rhs n w → (v : List ℚ) → IsZero (mat_vec m.rows v) → InKernel n n (augmented m rhs) (coordinate v)
  kernel_of m rhs s v z =
      subst (λ k. InKernel k k (augmented m rhs) (coordinate v)) s.columns_are
      (zero_kernel m rhs s.rectangular s.right_rectangular (system_shape m rhs s) (system_rows m rhs s) v z)

  zero_of : (m rhs : RationalMatrix) → IsSystem m rhs n w → (v : List ℚ) → InKernel n n (augmented m rhs) (coordinate v) → IsZero (mat_vec m.rows v)
  zero_of m rhs s v k =
      kernel_zero m rhs s.rectangular s.right_rectangular (system_shape m rhs s) (system_rows m rhs s) v
      (subst (λ k. InKernel k k (augmented m rhs) (coordinate v)) (sym s.columns_are) k)

  pub first_back : (c : ℕ) → IsFirstDependent a c → IsFirstDependent m c
  first_back c d = record {
    below = subst (λ k. c < k) columns_same d.below;
    factors = d.factors;
    size = d.size ∙ columns_same;
    one = d.one;
    behind = d.behind;
    sent_to_zero = zero_of m rhs sys d.factors (kernel_back n (coordinate d.factors) (omega arith) (kernel_of a b left d.factors d.sent_to_zero));
    independent = λ v size past z. d.independent v (size ∙ sym columns_same) past (zero_of a b left v (kernel_to n (coordinate v) (omega arith) (kernel_of m rhs sys v z)));
  }
