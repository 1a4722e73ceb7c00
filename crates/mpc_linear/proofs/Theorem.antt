-- What the elimination shows of a system of matrices.
use Rattle.std.proofs.Common.{◌≡◌, ℕ, suc, ◌+◌, ◌-◌, ◌<◌, List, [], ◌∷◌, get_or, pos, refl, sym, ◌∙◌, ap, subst, arith, ⊎_elim}
use Rattle.std.proofs.lemmas.Bool.{cases_lt}
use Rattle.std.proofs.lemmas.List.{ext_get_or, length-map}
use Rattle.mpc_exact.specs.Rational.{ℚ, int, ◌+ℚ◌, ◌-ℚ◌, ◌*ℚ◌}
use Rattle.mpc_exact.proofs.OrderTheorems.{one-not_zero}
use Rattle.mpc_exact.proofs.RationalRing.{reads, by_ring}
use Rattle.mpc_space.specs.Vector.{dot, listed, coordinate, column, mat_vec}
use Rattle.mpc_space.specs.Matrix.{RationalMatrix, height, IsRectangular, entry, mat_mul, tabled}
use Rattle.mpc_space.specs.Total.{total, unit}
use Rattle.mpc_space.proofs.Total.{total-add, total-same, total-scale, total-short, unit-other, unit-same}
use Rattle.mpc_space.proofs.Entries.{same_entries, coordinate-listed, length-listed, coordinate_past, zero_entries, zero_by_entries, dot-total_within}
use Rattle.mpc_space.proofs.Matrix.{coordinate-column, coordinate-mat_vec, entry-mat_mul, entry-tabled, height-tabled, length-mat_vec}
use Rattle.mpc_linear.specs.Elimination.{Table, augmented, eliminated, ColumnsDone, EndsDependent}
use Rattle.mpc_linear.specs.Shape.{HasShape}
use Rattle.mpc_linear.specs.Solution.{IsOnlySolution, IsFirstDependent, width}
use Rattle.mpc_linear.proofs.Reduction.{InKernel}
use Rattle.mpc_linear.proofs.Pivots.{pivot_none}
use Rattle.mpc_linear.proofs.Solutions.{HasPivots, solution_only, solution_is, eliminated-units, eliminated-kernel, kernel-eliminated, witness, witness-from, witness-kernel, before-independent}
use Rattle.mpc_linear.proofs.ProductLemmas.{product_wide}
use Rattle.mpc_linear.proofs.TableLemmas.{all_rows, augmented_back, augmented_front}

pub tabled-rectangular : (n w : ℕ) (f : ℕ → ℕ → ℚ) → IsRectangular (tabled n w f)
tabled-rectangular n w f = all_rows (λ i. listed w (f i)) n w (λ i h. length-listed w (f i))

pub tabled-shape : (n w : ℕ) (f : ℕ → ℕ → ℚ) → HasShape (tabled n w f) n w
tabled-shape n w f = record { rows_are = height-tabled n w f; columns_are = refl; rectangular = tabled-rectangular n w f }

-- matrices of one shape with the same entries are one
pub same_matrix : (a b : RationalMatrix) → height a ≡ height b → a.columns ≡ b.columns → IsRectangular a → IsRectangular b → ((i j : ℕ) → i < height a → j < a.columns → entry a i j ≡ entry b i j) → a ≡ b
same_matrix a b h w ra rb e = λ t. record { rows = rows_same t; columns = w t }
  where
    rows_same : a.rows ≡ b.rows
    rows_same = ext_get_or [] a.rows b.rows h
        (λ i hi.
        let hb : i < height b = subst (λ k. i < k) h hi in
        same_entries (get_or a.rows i []) (get_or b.rows i []) (ra i [] hi ∙ w ∙ sym (rb i [] hb)) (λ j hj. e i j hi (subst (λ k. j < k) (ra i [] hi) hj)))

module _ (m rhs : RationalMatrix) (mr : IsRectangular m) (rr : IsRectangular rhs) (square : height m ≡ m.columns) (rows : height rhs ≡ height m) where
  abbrev n : ℕ
  n = m.columns

  abbrev w : ℕ
  w = rhs.columns

  abbrev t : Table
  t = augmented m rhs

  in_rows : (i : ℕ) → i < n → i < height m
  in_rows i h = subst (λ k. i < k) (sym square) h

  -- a row of m against a vector
  row_total : (i : ℕ) (xs : List ℚ) → i < n → dot (get_or m.rows i []) xs ≡ total n (λ k. t i k *ℚ coordinate xs k)
  row_total i xs hi =
      dot-total_within n (get_or m.rows i []) xs (let e = mr i [] (in_rows i hi) in omega arith)
      ∙ total-same n (λ k. coordinate (get_or m.rows i []) k *ℚ coordinate xs k) (λ k. t i k *ℚ coordinate xs k) (λ k l. ap (λ u. u *ℚ coordinate xs k) (sym (augmented_front m rhs i k l)))

  -- m y = rhs, entry by entry
  product_total : (y : RationalMatrix) (i j : ℕ) → i < n → j < y.columns → entry (mat_mul m y) i j ≡ total n (λ k. t i k *ℚ entry y k j)
  product_total y i j hi hj =
      entry-mat_mul m y i j (in_rows i hi) hj ∙ row_total i (column y.rows j) hi
      ∙ total-same n (λ k. t i k *ℚ coordinate (column y.rows j) k) (λ k. t i k *ℚ entry y k j) (λ k l. ap (λ u. t i k *ℚ u) (coordinate-column y.rows k j))

  module _ (done : ColumnsDone n (width m rhs) t n) where
    pivots : HasPivots n t n
    pivots k l = let p = done k l in (p.0, p.1.pivot)

    -- the table's last columns are the solution
    pub unique : (x : RationalMatrix) → HasShape x n w → ((i j : ℕ) → i < n → j < w → entry x i j ≡ eliminated n t n i (n + j)) → IsOnlySolution m rhs x
    unique x s ex = record {
      shape = s;
      solves = same_matrix (mat_mul m x) rhs (height_product ∙ sym rows) s.columns_are (product_wide m x) rr
          (λ i j hi hj.
          let hi' : i < n = subst (λ k. i < k) (height_product ∙ square) hi in
          let hj' : j < w = subst (λ k. j < k) s.columns_are hj in
          product_total x i j hi' hj ∙ solution_is n w t pivots (λ k. entry x k j) j hj' (λ k l. ex k j l hj') i hi' ∙ augmented_back m rhs i j);
      only = λ y like p. same_matrix y x (like.rows_are ∙ sym s.rows_are) (like.columns_are ∙ sym s.columns_are) like.rectangular s.rectangular
          (λ i j hi hj.
          let hi' : i < n = subst (λ k. i < k) like.rows_are hi in
          let hj' : j < w = subst (λ k. j < k) like.columns_are hj in
          solution_only n w t pivots (λ k. entry y k j) j hj'
          (λ k l. sym (product_total y k j l hj) ∙ ap (λ z. entry z k j) p ∙ sym (augmented_back m rhs k j)) i hi'
          ∙ sym (ex i j hi' hj'));
    }
      where
        height_product : height (mat_mul m x) ≡ height m
        height_product = length-map m.rows (λ row. listed x.columns (λ j. dot row (column x.rows j)))

  -- a column without a pivot
  module _ (c : ℕ) (d : EndsDependent n (width m rhs) t c) where
    front_pivots : HasPivots n t c
    front_pivots k l = let p = d.before k l in (p.0, p.1.pivot)

    abbrev s : Table
    s = eliminated n t c

    units : (i k : ℕ) → i < n → k < c → s i k ≡ unit i k
    units = let b = d.below in eliminated-units n t c (omega arith) front_pivots

    abbrev factors : List ℚ
    factors = listed n (witness s c)

    factor-is : (k : ℕ) → k < n → coordinate factors k ≡ witness s c k
    factor-is k h = coordinate-listed n (witness s c) k h

    witness-behind : (k : ℕ) → c < k → witness s c k ≡ int (pos 0)
    witness-behind k h = witness-from s c k (omega arith) ∙ unit-other k c (λ e. omega arith)

    sent : InKernel n (n + w) t (witness s c)
    sent =
        let b = d.below in
        let e : suc c + (n + w - suc c) ≡ n + w = omega arith in
        eliminated-kernel n (n + w) (witness s c) t c (omega arith) front_pivots
        (subst (λ k. InKernel n k s (witness s c)) e (witness-kernel n s c (n + w - suc c) d.below units (pivot_none n s c d.no_pivot)))

    pub dependent : IsFirstDependent m c
    dependent = record {
      below = d.below;
      factors = factors;
      size = length-listed n (witness s c);
      one = factor-is c d.below ∙ witness-from s c c (omega arith) ∙ unit-same c c refl;
      behind = λ k h. ⊎_elim (λ l. factor-is k l ∙ witness-behind k h) (λ l. coordinate_past factors k (let e = length-listed n (witness s c) in omega arith)) (cases_lt k n);
      sent_to_zero = zero_by_entries (mat_vec m.rows factors)
          (λ i h.
          let hi : i < n = subst (λ k. i < k) (length-mat_vec m.rows factors ∙ square) h in
          coordinate-mat_vec m.rows factors i ∙ row_total i factors hi
          ∙ total-same n (λ k. t i k *ℚ coordinate factors k) (λ k. t i k *ℚ witness s c k) (λ k l. ap (λ u. t i k *ℚ u) (factor-is k l))
          ∙ sym (total-short n w (λ k. t i k *ℚ witness s c k) (λ k l. let b = d.below in ap (λ u. t i k *ℚ u) (witness-behind k (omega arith)) ∙ by_ring (t i k ∷ []) (search reads depth 30) (search reads depth 30) tt))
          ∙ sent i hi);
      independent = λ v size past zero.
          let kernel : InKernel n (n + w) t (λ k. coordinate v k) =
          λ i hi.
          total-short n w (λ k. t i k *ℚ coordinate v k) (λ k l. ap (λ u. t i k *ℚ u) (coordinate_past v k (omega arith)) ∙ by_ring (t i k ∷ []) (search reads depth 30) (search reads depth 30) tt)
          ∙ sym (row_total i v hi) ∙ sym (coordinate-mat_vec m.rows v i) ∙ zero_entries (mat_vec m.rows v) zero i
          in
          let later : InKernel n (n + w) s (λ k. coordinate v k) = let b = d.below in kernel-eliminated n (n + w) (λ k. coordinate v k) t c (omega arith) front_pivots kernel in
          let e : c + (n + w - c) ≡ n + w = let b = d.below in omega arith in
          zero_by_entries v
          (λ i h. ⊎_elim
          (λ l. let b = d.below in before-independent n s c (n + w - c) (λ k. coordinate v k) (omega arith) units past (subst (λ k. InKernel n k s (λ k. coordinate v k)) (sym e) later) i l)
          (λ l. past i l)
          (cases_lt i c));
    }

distribute : (t x u v : ℚ) → t *ℚ (x +ℚ u *ℚ v) ≡ t *ℚ x +ℚ u *ℚ (t *ℚ v)
distribute t x u v = by_ring (t ∷ x ∷ u ∷ v ∷ []) (search reads depth 30) (search reads depth 30) tt

nothing_added : (x u z : ℚ) → z ≡ int (pos 0) → x +ℚ u *ℚ z ≡ x
nothing_added x u z e = ap (λ y. x +ℚ u *ℚ y) e ∙ by_ring (x ∷ u ∷ []) (search reads depth 30) (search reads depth 30) tt

one_added : (x u v : ℚ) → u ≡ int (pos 1) → v ≡ int (pos 1) → x +ℚ u *ℚ v ≡ x → ⊥
one_added x u v eu ev h =
    one-not_zero
    (by_ring (x ∷ []) (search reads depth 30) (search reads depth 30) tt
    ∙ (λ i. (x +ℚ sym eu i *ℚ sym ev i) -ℚ x) ∙ ap (λ y. y -ℚ x) h ∙ by_ring (x ∷ []) (search reads depth 30) (search reads depth 30) tt)

-- where m sends a list to 0 that isn't all 0, no solution is the only one
module _ (m rhs : RationalMatrix) (mr : IsRectangular m) (rr : IsRectangular rhs) (square : height m ≡ m.columns) (rows : height rhs ≡ height m) (c : ℕ) (d : IsFirstDependent m c) (some : 0 < rhs.columns) (x : RationalMatrix)
    (o : IsOnlySolution m rhs x) where
  abbrev opening : Table
  opening = augmented m rhs

  abbrev moved_entry : ℕ → ℕ → ℚ
  moved_entry i j = entry x i j +ℚ unit 0 j *ℚ coordinate d.factors i

  abbrev moved : RationalMatrix
  moved = tabled m.columns rhs.columns moved_entry

  zero_sum : (i : ℕ) → i < m.columns → total m.columns (λ k. opening i k *ℚ coordinate d.factors k) ≡ int (pos 0)
  zero_sum i hi = sym (row_total m rhs mr rr square rows i d.factors hi) ∙ sym (coordinate-mat_vec m.rows d.factors i) ∙ zero_entries (mat_vec m.rows d.factors) d.sent_to_zero i

  moved_product : (i j : ℕ) → i < m.columns → j < rhs.columns → entry (mat_mul m moved) i j ≡ entry rhs i j
  moved_product i j hi hj =
      product_total m rhs mr rr square rows moved i j hi hj
      ∙ total-same m.columns (λ k. opening i k *ℚ entry moved k j) (λ k. opening i k *ℚ entry x k j +ℚ unit 0 j *ℚ (opening i k *ℚ coordinate d.factors k))
      (λ k l. ap (λ u. opening i k *ℚ u) (entry-tabled m.columns rhs.columns moved_entry k j l hj) ∙ distribute (opening i k) (entry x k j) (unit 0 j) (coordinate d.factors k))
      ∙ total-add m.columns (λ k. opening i k *ℚ entry x k j) (λ k. unit 0 j *ℚ (opening i k *ℚ coordinate d.factors k))
      ∙ ap (λ u. total m.columns (λ k. opening i k *ℚ entry x k j) +ℚ u) (total-scale m.columns (unit 0 j) (λ k. opening i k *ℚ coordinate d.factors k))
      ∙ nothing_added (total m.columns (λ k. opening i k *ℚ entry x k j)) (unit 0 j) (total m.columns (λ k. opening i k *ℚ coordinate d.factors k)) (zero_sum i hi)
      ∙ sym (product_total m rhs mr rr square rows x i j hi (subst (λ k. j < k) (sym o.shape.columns_are) hj)) ∙ ap (λ z. entry z i j) o.solves

  height_moved : height (mat_mul m moved) ≡ height m
  height_moved = length-map m.rows (λ row. listed moved.columns (λ j. dot row (column moved.rows j)))

  moved_solves : mat_mul m moved ≡ rhs
  moved_solves =
      same_matrix (mat_mul m moved) rhs (height_moved ∙ sym rows) refl (product_wide m moved) rr
      (λ i j hi hj. moved_product i j (subst (λ k. i < k) (height_moved ∙ square) hi) hj)

  pub not_only : ⊥
  not_only =
      one_added (entry x c 0) (unit 0 0) (coordinate d.factors c) (unit-same 0 0 refl) d.one
      (sym (entry-tabled m.columns rhs.columns moved_entry c 0 d.below some)
      ∙ ap (λ z. entry z c 0) (o.only moved (tabled-shape m.columns rhs.columns moved_entry) moved_solves))
