-- The law of an independent set is the only one, where h is positive definite: the multipliers and the unknowns that meet the equations are
-- single at every point, and affine forms with the same values have the same coefficients.
use Rattle.std.proofs.Common.{◌≡◌, ℕ, zero, suc, ◌+◌, ◌<◌, List, [], ◌∷◌, length, get_or, pos, negsuc, refl, sym, ◌∙◌, ap, subst, arith}
use Rattle.std.proofs.lemmas.List.{length-map}
use Rattle.mpc_exact.specs.Rational.{ℚ, int, ◌+ℚ◌, ◌-ℚ◌}
use Rattle.mpc_exact.proofs.RationalRing.{reads, by_ring, by_equation, by_equations}
use Rattle.mpc_space.specs.Vector.{coordinate, listed, dot, vec_add, vec_scale, vec_sub, mat_vec, vec_mat, later_entries, IsZero, IsIndependent}
use Rattle.mpc_space.specs.Matrix.{RationalMatrix, height}
use Rattle.mpc_space.specs.Total.{unit}
use Rattle.mpc_space.specs.Definite.{IsDefinite}
use Rattle.mpc_space.proofs.Entries.{coordinate-add, coordinate-sub, coordinate-listed, zero_entries, zero_by_entries, dot-zero, dot-unit, length-listed, length-sub, difference_zero}
use Rattle.mpc_space.proofs.Vector.{dot_comm}
use Rattle.mpc_space.proofs.Matrix.{mat_vec-add, mat_vec-scale, vec_mat-add, vec_mat-scale, coordinate-mat_vec, length-mat_vec, same_matrix}
use Rattle.mpc_space.proofs.Optimality.{kernel_point, kernel_factors}
use Rattle.mpc_rows.specs.declared.programs.Qp.{Qp}
use Rattle.mpc_rows.specs.declared.laws.Law.{Law}
use Rattle.mpc_linear.specs.Shape.{HasShape}
use Rattle.mpc_rows.specs.ActiveSets.{extended, row_of, rows_of, IsIndependentSet, MeetsEquations}
use Rattle.mpc_rows.specs.Laws.{IsLaw, moves_at, mults_at}

-- ---- the equations have one solution
mat_vec-sub : (m : List (List ℚ)) (xs ys : List ℚ) → mat_vec m (vec_sub xs ys) ≡ vec_sub (mat_vec m xs) (mat_vec m ys)
mat_vec-sub m xs ys = mat_vec-add m xs (vec_scale (int (negsuc 0)) ys) ∙ ap (vec_add (mat_vec m xs)) (mat_vec-scale m (int (negsuc 0)) ys)

vec_mat-sub : (xs ys : List ℚ) (m : List (List ℚ)) → vec_mat (vec_sub xs ys) m ≡ vec_sub (vec_mat xs m) (vec_mat ys m)
vec_mat-sub xs ys m = vec_mat-add xs (vec_scale (int (negsuc 0)) ys) m ∙ ap (vec_add (vec_mat xs m)) (vec_mat-scale (int (negsuc 0)) ys m)

coordinate-sum : (xs ys zs : List ℚ) (i : ℕ) → coordinate (vec_add (vec_add xs ys) zs) i ≡ coordinate xs i +ℚ coordinate ys i +ℚ coordinate zs i
coordinate-sum xs ys zs i = coordinate-add (vec_add xs ys) zs i ∙ ap (λ u. u +ℚ coordinate zs i) (coordinate-add xs ys i)

cancel : (a b f c d : ℚ) → a +ℚ f +ℚ c ≡ int (pos 0) → b +ℚ f +ℚ d ≡ int (pos 0) → (a -ℚ b) +ℚ (c -ℚ d) ≡ int (pos 0)
cancel a b f c d p q = by_equations (int (pos 1)) (int (negsuc 0)) p q (by_ring (a ∷ b ∷ f ∷ c ∷ d ∷ []) (search reads depth 30) (search reads depth 30) tt)

itself : (x y : ℚ) → x ≡ y → x -ℚ y ≡ int (pos 0)
itself x y e = by_equation (int (pos 1)) e (by_ring (x ∷ y ∷ []) (search reads depth 30) (search reads depth 30) tt)

module _ (h g : List (List ℚ)) (f x y l m : List ℚ) (at_x : IsZero (vec_add (vec_add (mat_vec h x) f) (vec_mat l g))) (at_y : IsZero (vec_add (vec_add (mat_vec h y) f) (vec_mat m g))) (same : mat_vec g x ≡ mat_vec g y) where
  above : IsZero (vec_add (mat_vec h (vec_sub x y)) (vec_mat (vec_sub l m) g))
  above =
      zero_by_entries (vec_add (mat_vec h (vec_sub x y)) (vec_mat (vec_sub l m) g))
      (λ i k. coordinate-add (mat_vec h (vec_sub x y)) (vec_mat (vec_sub l m) g) i
      ∙ (λ z. (ap (λ u. coordinate u i) (mat_vec-sub h x y) ∙ coordinate-sub (mat_vec h x) (mat_vec h y) i) z +ℚ (ap (λ u. coordinate u i) (vec_mat-sub l m g) ∙ coordinate-sub (vec_mat l g) (vec_mat m g) i) z)
      ∙ cancel (coordinate (mat_vec h x) i) (coordinate (mat_vec h y) i) (coordinate f i) (coordinate (vec_mat l g) i) (coordinate (vec_mat m g) i)
      (sym (coordinate-sum (mat_vec h x) f (vec_mat l g) i) ∙ zero_entries (vec_add (vec_add (mat_vec h x) f) (vec_mat l g)) at_x i)
      (sym (coordinate-sum (mat_vec h y) f (vec_mat m g) i) ∙ zero_entries (vec_add (vec_add (mat_vec h y) f) (vec_mat m g)) at_y i))

  below : IsZero (mat_vec g (vec_sub x y))
  below =
      zero_by_entries (mat_vec g (vec_sub x y))
      (λ i k. ap (λ u. coordinate u i) (mat_vec-sub g x y) ∙ coordinate-sub (mat_vec g x) (mat_vec g y) i
      ∙ itself (coordinate (mat_vec g x) i) (coordinate (mat_vec g y) i) (ap (λ u. coordinate u i) same))

  module _ (d : IsDefinite h) (x_size : length x ≡ length h) (y_size : length y ≡ length h) where
    size : length (vec_sub x y) ≡ length h
    size = length-sub x y (x_size ∙ sym y_size) ∙ x_size

    pub same_unknowns : x ≡ y
    same_unknowns = difference_zero x y (x_size ∙ sym y_size) (kernel_point h g (vec_sub x y) (vec_sub l m) above below d size)

    pub same_multipliers : IsIndependent g → length l ≡ length g → length m ≡ length g → l ≡ m
    same_multipliers i l_size m_size =
        difference_zero l m (l_size ∙ sym m_size) (kernel_factors h g (vec_sub x y) (vec_sub l m) above below d size i (length-sub l m (l_size ∙ sym m_size) ∙ l_size))

-- ---- affine forms with the same values
pub dot-extended : (r t : List ℚ) → dot r (extended t) ≡ coordinate r 0 +ℚ dot (later_entries r) t
dot-extended [] t = by_ring [] (search reads depth 30) (search reads depth 30) tt
dot-extended (x ∷ xs) t = by_ring (x ∷ dot xs t ∷ []) (search reads depth 30) (search reads depth 30) tt

pub coordinate-later : (r : List ℚ) (j : ℕ) → coordinate (later_entries r) j ≡ coordinate r (suc j)
coordinate-later [] j = refl
coordinate-later (x ∷ xs) j = refl

take_away : (a b x y : ℚ) → a ≡ b → a +ℚ x ≡ b +ℚ y → x ≡ y
take_away a b x y e f = by_equations (int (negsuc 0)) (int (pos 1)) e f (by_ring (a ∷ b ∷ x ∷ y ∷ []) (search reads depth 30) (search reads depth 30) tt)

module _ (n : ℕ) (r s : List ℚ) (same : (t : List ℚ) → length t ≡ n → dot r (extended t) ≡ dot s (extended t)) where
  at_origin : (r : List ℚ) → dot r (extended (listed n (λ j. int (pos 0)))) ≡ coordinate r 0
  at_origin r =
      dot-extended r (listed n (λ j. int (pos 0)))
      ∙ ap (λ u. coordinate r 0 +ℚ u) (dot-zero (later_entries r) (listed n (λ j. int (pos 0))) (zero_by_entries (listed n (λ j. int (pos 0))) (λ j h. coordinate-listed n (λ j. int (pos 0)) j (omega (arith, length-listed n (λ (j : ℕ). int (pos 0)))))))
      ∙ by_ring (coordinate r 0 ∷ []) (search reads depth 30) (search reads depth 30) tt

  same_constant : coordinate r 0 ≡ coordinate s 0
  same_constant = sym (at_origin r) ∙ same (listed n (λ j. int (pos 0))) (length-listed n (λ j. int (pos 0))) ∙ at_origin s

  at_unit : (j : ℕ) → j < n → (r : List ℚ) → dot r (extended (listed n (unit j))) ≡ coordinate r 0 +ℚ coordinate r (suc j)
  at_unit j h r =
      dot-extended r (listed n (unit j))
      ∙ ap (λ u. coordinate r 0 +ℚ u) (dot_comm (later_entries r) (listed n (unit j)) ∙ dot-unit n j (later_entries r) h ∙ coordinate-later r j)

  same_slope : (j : ℕ) → j < n → coordinate r (suc j) ≡ coordinate s (suc j)
  same_slope j h =
      take_away (coordinate r 0) (coordinate s 0) (coordinate r (suc j)) (coordinate s (suc j)) same_constant
      (sym (at_unit j h r) ∙ same (listed n (unit j)) (length-listed n (unit j)) ∙ at_unit j h s)

  pub same_coefficients : (j : ℕ) → j < n + 1 → coordinate r j ≡ coordinate s j
  same_coefficients zero h = same_constant
  same_coefficients (suc j) h = same_slope j (omega arith)

pub same_forms : (rows n : ℕ) (a b : RationalMatrix) → HasShape a rows (n + 1) → HasShape b rows (n + 1) → ((t : List ℚ) → length t ≡ n → mat_vec a.rows (extended t) ≡ mat_vec b.rows (extended t)) → a ≡ b
same_forms rows n a b p q same =
    same_matrix a b p.rectangular q.rectangular (p.rows_are ∙ sym q.rows_are) (p.columns_are ∙ sym q.columns_are)
    (λ i j h k.
    same_coefficients n (get_or a.rows i []) (get_or b.rows i [])
    (λ t e. sym (coordinate-mat_vec a.rows (extended t) i) ∙ ap (λ u. coordinate u i) (same t e) ∙ coordinate-mat_vec b.rows (extended t) i)
    j (subst (λ m. j < m) p.columns_are k))

-- ---- the law
module _ (qp : Qp) (d : IsDefinite qp.h.rows) (a b : Law) (p : IsLaw qp a) (q : IsLaw qp b) (e : a.set ≡ b.set) where
  of_set : (t : List ℚ) → length t ≡ length qp.counts → MeetsEquations qp a.set t (moves_at b t) (mults_at b t)
  of_set t h = subst (λ s. MeetsEquations qp s t (moves_at b t) (mults_at b t)) (sym e) (q.equations t h)

  module _ (t : List ℚ) (h : length t ≡ length qp.counts) where
    moves_size : (law : Law) → IsLaw qp law → length (moves_at law t) ≡ height qp.h
    moves_size law k = length-mat_vec law.moves.rows (extended t) ∙ k.shape.moves_shape.rows_are

    mults_size : (law : Law) → IsLaw qp law → law.set ≡ a.set → length (mults_at law t) ≡ length (rows_of qp.g.rows a.set)
    mults_size law k f = length-mat_vec law.mults.rows (extended t) ∙ k.shape.mults_shape.rows_are ∙ ap length f ∙ sym (length-map a.set (row_of qp.g.rows))

    same_moves_at : moves_at a t ≡ moves_at b t
    same_moves_at =
        same_unknowns qp.h.rows (rows_of qp.g.rows a.set) (mat_vec qp.f.rows (extended t)) (moves_at a t) (moves_at b t) (mults_at a t) (mults_at b t)
        (p.equations t h).stationary (of_set t h).stationary ((p.equations t h).tight ∙ sym (of_set t h).tight)
        d (moves_size a p) (moves_size b q)

    same_mults_at : IsIndependentSet qp a.set → mults_at a t ≡ mults_at b t
    same_mults_at i =
        same_multipliers qp.h.rows (rows_of qp.g.rows a.set) (mat_vec qp.f.rows (extended t)) (moves_at a t) (moves_at b t) (mults_at a t) (mults_at b t)
        (p.equations t h).stationary (of_set t h).stationary ((p.equations t h).tight ∙ sym (of_set t h).tight)
        d (moves_size a p) (moves_size b q) i (mults_size a p refl) (mults_size b q (sym e))

  pub same_moves : a.moves ≡ b.moves
  same_moves = same_forms (height qp.h) (length qp.counts) a.moves b.moves p.shape.moves_shape q.shape.moves_shape same_moves_at

  pub same_mults : IsIndependentSet qp a.set → a.mults ≡ b.mults
  same_mults i =
      same_forms (length a.set) (length qp.counts) a.mults b.mults p.shape.mults_shape (subst (λ s. HasShape b.mults (length s) (length qp.counts + 1)) (sym e) q.shape.mults_shape) (λ t h. same_mults_at t h i)

pub law_unique : (qp : Qp) → IsDefinite qp.h.rows → (a b : Law) → IsLaw qp a → IsLaw qp b → a.set ≡ b.set → IsIndependentSet qp a.set → a ≡ b
law_unique qp d a b p q e i =
    let moves = same_moves qp d a b p q e in
    let mults = same_mults qp d a b p q e i in
    λ z. record { set = e z; moves = moves z; mults = mults z }
