-- A system solved for each column of its right sides: the solutions as the columns of a matrix solve it for every combination of these columns. And the
-- solution of a regular system is the only one.
use Rattle.std.proofs.Common.{◌≡◌, ℕ, ◌<◌, ◌≤◌, List, [], ◌∷◌, length, get_or, pos, negsuc, sym, ◌∙◌, ap, arith}
use Rattle.mpc_exact.specs.Rational.{ℚ, int, ◌+ℚ◌, ◌-ℚ◌, ◌*ℚ◌}
use Rattle.mpc_exact.proofs.RationalRing.{reads, by_ring, by_equation, by_equations}
use Rattle.mpc_space.specs.Vector.{coordinate, column, dot, vec_add, vec_scale, vec_sub, mat_vec, vec_mat, IsZero, IsIndependent}
use Rattle.mpc_space.specs.Matrix.{RationalMatrix, tabled}
use Rattle.mpc_space.specs.Total.{total}
use Rattle.mpc_space.specs.Definite.{IsDefinite}
use Rattle.mpc_space.proofs.Total.{total-same, total-add, total-zeros}
use Rattle.mpc_space.proofs.Entries.{same_entries, dot-total_within, zero_by_dots, zero_by_entries, dot-zero, length-sub, difference_zero}
use Rattle.mpc_space.proofs.Vector.{dot_comm, dot-add_right, dot-sub_right}
use Rattle.mpc_space.proofs.Matrix.{mat_vec-add, mat_vec-scale, vec_mat-add, vec_mat-scale, dot-vec_mat, coordinate-vec_mat, coordinate-mat_vec, length-mat_vec, length-column, coordinate-column, entry-tabled, height-tabled}
use Rattle.mpc_space.proofs.Optimality.{kernel_point, kernel_factors}
use Rattle.mpc_cover.proofs.Systems.{Solution}

-- a matrix times c is the sum of its columns, each times its entry of c
pub dot_columns : (p : ℕ) (x : List ℚ) (m : List (List ℚ)) (c : List ℚ) → length c ≤ p → dot x (mat_vec m c) ≡ total p (λ j. coordinate c j *ℚ dot x (column m j))
dot_columns p x m c h =
    dot_comm x (mat_vec m c) ∙ dot-vec_mat m c x ∙ dot-total_within p c (vec_mat x m) h
    ∙ total-same p (λ j. coordinate c j *ℚ coordinate (vec_mat x m) j) (λ j. coordinate c j *ℚ dot x (column m j)) (λ j l. ap (λ u. coordinate c j *ℚ u) (coordinate-vec_mat x m j))

-- the matrix of given columns
abbrev pub of_columns : ℕ → ℕ → (ℕ → List ℚ) → RationalMatrix
of_columns rows columns v = tabled rows columns (λ i j. coordinate (v j) i)

pub column-of_columns : (rows columns : ℕ) (v : ℕ → List ℚ) → ((j : ℕ) → length (v j) ≡ rows) → (j : ℕ) → j < columns → column (of_columns rows columns v).rows j ≡ v j
column-of_columns rows columns v h j l =
    let m = of_columns rows columns v in
    let size : length (column m.rows j) ≡ rows = length-column m.rows j ∙ height-tabled rows columns (λ i j. coordinate (v j) i) in
    same_entries (column m.rows j) (v j) (size ∙ sym (h j)) (λ i k. coordinate-column m.rows i j ∙ entry-tabled rows columns (λ i j. coordinate (v j) i) i j (omega arith) l)

pub dot-of_columns : (rows columns : ℕ) (v : ℕ → List ℚ) → ((j : ℕ) → length (v j) ≡ rows) → (x c : List ℚ) → length c ≤ columns → dot x (mat_vec (of_columns rows columns v).rows c) ≡ total columns (λ j. coordinate c j *ℚ dot x (v j))
dot-of_columns rows columns v h x c k =
    dot_columns columns x (of_columns rows columns v).rows c k
    ∙ total-same columns (λ j. coordinate c j *ℚ dot x (column (of_columns rows columns v).rows j)) (λ j. coordinate c j *ℚ dot x (v j)) (λ j l. ap (λ u. coordinate c j *ℚ dot x u) (column-of_columns rows columns v h j l))

-- ---- x against a matrix, from the left
from_left : (y : List ℚ) (m : List (List ℚ)) (x : List ℚ) → dot y (mat_vec m x) ≡ dot (vec_mat y m) x
from_left y m x = dot_comm y (mat_vec m x) ∙ dot-vec_mat m x y ∙ dot_comm x (vec_mat y m)

-- ---- the solutions for the columns of f and w
module _ (n p : ℕ) (h f g w : List (List ℚ)) (at : (j : ℕ) → Solution n (mat_vec h) g (column f j) (column w j)) (c : List ℚ) (within : length c ≤ p) where
  abbrev pub points : RationalMatrix
  points = of_columns n p (λ j. (at j).z)

  abbrev pub factors : RationalMatrix
  factors = of_columns (length g) p (λ j. (at j).l)

  weighted : (c x y z : ℚ) → x +ℚ y +ℚ z ≡ int (pos 0) → c *ℚ x +ℚ c *ℚ y +ℚ c *ℚ z ≡ int (pos 0)
  weighted c x y z e = by_equation c e (by_ring (c ∷ x ∷ y ∷ z ∷ []) (search reads depth 30) (search reads depth 30) tt)

  three_sums : (u v w : ℕ → ℚ) → total p u +ℚ total p v +ℚ total p w ≡ total p (λ j. u j +ℚ v j +ℚ w j)
  three_sums u v w = sym (total-add p (λ j. u j +ℚ v j) w ∙ ap (λ s. s +ℚ total p w) (total-add p u v))

  stationary_at : (y : List ℚ) → dot y (mat_vec h (mat_vec points.rows c)) +ℚ dot y (mat_vec f c) +ℚ dot y (vec_mat (mat_vec factors.rows c) g) ≡ int (pos 0)
  stationary_at y =
      let a : ℕ → ℚ = λ j. coordinate c j *ℚ dot y (mat_vec h (at j).z) in
      let b : ℕ → ℚ = λ j. coordinate c j *ℚ dot y (column f j) in
      let d : ℕ → ℚ = λ j. coordinate c j *ℚ dot y (vec_mat (at j).l g) in
      let first : dot y (mat_vec h (mat_vec points.rows c)) ≡ total p a =
      from_left y h (mat_vec points.rows c) ∙ dot-of_columns n p (λ j. (at j).z) (λ j. (at j).size) (vec_mat y h) c within
      ∙ total-same p (λ j. coordinate c j *ℚ dot (vec_mat y h) (at j).z) a (λ j l. ap (λ u. coordinate c j *ℚ u) (sym (from_left y h (at j).z))) in
      let third : dot y (vec_mat (mat_vec factors.rows c) g) ≡ total p d =
      sym (dot-vec_mat g y (mat_vec factors.rows c)) ∙ dot-of_columns (length g) p (λ j. (at j).l) (λ j. (at j).one_each) (mat_vec g y) c within
      ∙ total-same p (λ j. coordinate c j *ℚ dot (mat_vec g y) (at j).l) d (λ j l. ap (λ u. coordinate c j *ℚ u) (dot-vec_mat g y (at j).l)) in
      (λ i. first i +ℚ dot_columns p y f c within i +ℚ third i) ∙ three_sums a b d
      ∙ total-zeros p (λ j. a j +ℚ b j +ℚ d j) (λ j l. weighted (coordinate c j) (dot y (mat_vec h (at j).z)) (dot y (column f j)) (dot y (vec_mat (at j).l g)) ((at j).stationary y))

  pub columns_stationary : IsZero (vec_add (vec_add (mat_vec h (mat_vec points.rows c)) (mat_vec f c)) (vec_mat (mat_vec factors.rows c) g))
  columns_stationary =
      let a = mat_vec h (mat_vec points.rows c) in
      let d = vec_mat (mat_vec factors.rows c) g in
      zero_by_dots (vec_add (vec_add a (mat_vec f c)) d)
      (λ y. dot-add_right (vec_add a (mat_vec f c)) d y ∙ ap (λ u. u +ℚ dot y d) (dot-add_right a (mat_vec f c) y) ∙ stationary_at y)

  pub columns_tight : length w ≡ length g → mat_vec g (mat_vec points.rows c) ≡ mat_vec w c
  columns_tight e =
      same_entries (mat_vec g (mat_vec points.rows c)) (mat_vec w c) (length-mat_vec g (mat_vec points.rows c) ∙ sym e ∙ sym (length-mat_vec w c))
      (λ i l. coordinate-mat_vec g (mat_vec points.rows c) i ∙ dot-of_columns n p (λ j. (at j).z) (λ j. (at j).size) (get_or g i []) c within
      ∙ total-same p (λ j. coordinate c j *ℚ dot (get_or g i []) (at j).z) (λ j. coordinate c j *ℚ coordinate (get_or w i []) j)
      (λ j k. ap (λ u. coordinate c j *ℚ u) (sym (coordinate-mat_vec g (at j).z i) ∙ ap (λ u. coordinate u i) (at j).tight ∙ coordinate-column w i j))
      ∙ sym (coordinate-mat_vec w c i ∙ dot_comm (get_or w i []) c ∙ dot-total_within p c (get_or w i []) within))

-- ---- the only solution
module _ (h g : List (List ℚ)) (q b z z' l l' : List ℚ) (e : IsZero (vec_add (vec_add (mat_vec h z) q) (vec_mat l g))) (e' : IsZero (vec_add (vec_add (mat_vec h z') q) (vec_mat l' g))) (t : mat_vec g z ≡ b) (t' : mat_vec g z' ≡ b) where
  expanded : (y x m : List ℚ) → IsZero (vec_add (vec_add (mat_vec h x) q) (vec_mat m g)) → dot y (mat_vec h x) +ℚ dot y q +ℚ dot y (vec_mat m g) ≡ int (pos 0)
  expanded y x m k = sym (dot-add_right (vec_add (mat_vec h x) q) (vec_mat m g) y ∙ ap (λ u. u +ℚ dot y (vec_mat m g)) (dot-add_right (mat_vec h x) q y)) ∙ dot-zero y (vec_add (vec_add (mat_vec h x) q) (vec_mat m g)) k

  both : (a b c d q : ℚ) → a +ℚ q +ℚ c ≡ int (pos 0) → b +ℚ q +ℚ d ≡ int (pos 0) → (a -ℚ b) +ℚ (c -ℚ d) ≡ int (pos 0)
  both a b c d q e f = by_equations (int (pos 1)) (int (negsuc 0)) e f (by_ring (a ∷ b ∷ c ∷ d ∷ q ∷ []) (search reads depth 30) (search reads depth 30) tt)

  no_gap : (x : ℚ) → x -ℚ x ≡ int (pos 0)
  no_gap x = by_ring (x ∷ []) (search reads depth 30) (search reads depth 30) tt

  gap_above : IsZero (vec_add (mat_vec h (vec_sub z z')) (vec_mat (vec_sub l l') g))
  gap_above = zero_by_dots (vec_add (mat_vec h (vec_sub z z')) (vec_mat (vec_sub l l') g)) (λ y.
      let k = int (negsuc 0) in
      let first : dot y (mat_vec h (vec_sub z z')) ≡ dot y (mat_vec h z) -ℚ dot y (mat_vec h z') =
      ap (dot y) (mat_vec-add h z (vec_scale k z') ∙ ap (vec_add (mat_vec h z)) (mat_vec-scale h k z')) ∙ dot-sub_right (mat_vec h z) (mat_vec h z') y in
      let second : dot y (vec_mat (vec_sub l l') g) ≡ dot y (vec_mat l g) -ℚ dot y (vec_mat l' g) =
      ap (dot y) (vec_mat-add l (vec_scale k l') g ∙ ap (vec_add (vec_mat l g)) (vec_mat-scale k l' g)) ∙ dot-sub_right (vec_mat l g) (vec_mat l' g) y in
      dot-add_right (mat_vec h (vec_sub z z')) (vec_mat (vec_sub l l') g) y ∙ (λ i. first i +ℚ second i)
      ∙ both (dot y (mat_vec h z)) (dot y (mat_vec h z')) (dot y (vec_mat l g)) (dot y (vec_mat l' g)) (dot y q) (expanded y z l e) (expanded y z' l' e'))

  gap_below : IsZero (mat_vec g (vec_sub z z'))
  gap_below = zero_by_entries (mat_vec g (vec_sub z z')) (λ i _.
      coordinate-mat_vec g (vec_sub z z') i ∙ dot-sub_right z z' (get_or g i [])
      ∙ (λ k. (sym (coordinate-mat_vec g z i) ∙ ap (λ u. coordinate u i) t) k -ℚ (sym (coordinate-mat_vec g z' i) ∙ ap (λ u. coordinate u i) t') k) ∙ no_gap (coordinate b i))

  pub same_point : IsDefinite h → length z ≡ length h → length z' ≡ length h → z ≡ z'
  same_point d size size' =
      difference_zero z z' (size ∙ sym size') (kernel_point h g (vec_sub z z') (vec_sub l l') gap_above gap_below d (length-sub z z' (size ∙ sym size') ∙ size))

  pub same_factors : IsDefinite h → length z ≡ length h → length z' ≡ length h → IsIndependent g → length l ≡ length g → length l' ≡ length g → l ≡ l'
  same_factors d size size' i one one' =
      difference_zero l l' (one ∙ sym one')
      (kernel_factors h g (vec_sub z z') (vec_sub l l') gap_above gap_below d (length-sub z z' (size ∙ sym size') ∙ size) i (length-sub l l' (one ∙ sym one') ∙ one))
