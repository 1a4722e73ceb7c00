-- The equations h z + q + g'l = 0, g z = b of a definite form h and independent rows g have a solution. It is built row by row: the solution for the
-- later rows is moved along the direction that keeps these, until the first row holds too.
use Rattle.std.proofs.Common.{◌≡◌, ◌≢◌, ℕ, suc, ◌≤◌, List, [], ◌∷◌, length, pos, negsuc, refl, sym, ◌∙◌, ap, subst, arith, ⊎_elim}
use Rattle.std.specs.List.{AllByRecursion}
use Rattle.std.proofs.lemmas.List.{length-replicate}
use Rattle.mpc_exact.specs.Rational.{ℚ, int, ◌+ℚ◌, ◌-ℚ◌, ◌*ℚ◌, ◌/ℚ◌, neg_ℚ, inv_ℚ, IsPositive}
use Rattle.mpc_exact.proofs.RationalRing.{reads, by_ring, by_equation, by_equations}
use Rattle.mpc_exact.proofs.OrderTheorems.{positive-not_zero, one-not_zero, *ℚ-/ℚ}
use Rattle.mpc_space.specs.Vector.{coordinate, listed, zeros, dot, vec_add, vec_scale, mat_vec, vec_mat, IsZero, IsIndependent}
use Rattle.mpc_space.specs.Definite.{IsDefinite}
use Rattle.mpc_space.proofs.Entries.{coordinate-add, coordinate-scale, coordinate-listed, coordinate-zeros, length-listed, length-add, length-scale, length-add_within, same_entries, zero_by_entries, zeros_zero, dot_nil, dot-zero, zero_by_dots, zero_or_not}
use Rattle.mpc_space.proofs.Vector.{dot_comm, dot-add_right, dot-scale_right, dot_self-positive}
use Rattle.mpc_space.proofs.Matrix.{mat_vec-add, mat_vec-scale, vec_mat-add, vec_mat-scale, dot-vec_mat, length-mat_vec}
use Rattle.mpc_space.proofs.Definite.{definite_at}

-- ---- combinations of rows
pub dot_combination : (y : List ℚ) (c : ℚ) (cs : List ℚ) (row : List ℚ) (rows : List (List ℚ)) → dot y (vec_mat (c ∷ cs) (row ∷ rows)) ≡ c *ℚ dot y row +ℚ dot y (vec_mat cs rows)
dot_combination y c cs row rows = dot-add_right (vec_scale c row) (vec_mat cs rows) y ∙ ap (λ u. u +ℚ dot y (vec_mat cs rows)) (dot-scale_right c row y)

-- a point moved along a direction
pub dot_along : (y x d : List ℚ) (s : ℚ) → dot y (vec_add x (vec_scale s d)) ≡ dot y x +ℚ s *ℚ dot y d
dot_along y x d s = dot-add_right x (vec_scale s d) y ∙ ap (λ u. dot y x +ℚ u) (dot-scale_right s d y)

without_first : (y : List ℚ) (cs row : List ℚ) (rows : List (List ℚ)) → dot y (vec_mat cs rows) ≡ int (pos 0) → dot y (vec_mat (int (pos 0) ∷ cs) (row ∷ rows)) ≡ int (pos 0)
without_first y cs row rows e =
    dot_combination y (int (pos 0)) cs row rows
    ∙ by_equation (int (pos 1)) e (by_ring (dot y row ∷ dot y (vec_mat cs rows) ∷ []) (search reads depth 30) (search reads depth 30) tt)

-- the later rows of independent ones are independent
pub later_independent : (row : List ℚ) (rows : List (List ℚ)) → IsIndependent (row ∷ rows) → IsIndependent rows
later_independent row rows i = record {
  only_zero = λ cs e z. (i.only_zero (int (pos 0) ∷ cs) (ap suc e) (zero_by_dots (vec_mat (int (pos 0) ∷ cs) (row ∷ rows)) (λ y. without_first y cs row rows (dot-zero y (vec_mat cs rows) z)))).1;
}

-- a row that isn't a combination of independent ones joins them
pub joined_independent : (row : List ℚ) (rows : List (List ℚ)) → IsIndependent rows → ((c : ℚ) (cs : List ℚ) → length cs ≡ length rows → IsZero (vec_mat (c ∷ cs) (row ∷ rows)) → c ≡ int (pos 0)) → IsIndependent (row ∷ rows)
joined_independent row rows i h = record { only_zero = each }
  where
    rest : (y : List ℚ) (c : ℚ) (cs : List ℚ) → c ≡ int (pos 0) → dot y (vec_mat (c ∷ cs) (row ∷ rows)) ≡ int (pos 0) → dot y (vec_mat cs rows) ≡ int (pos 0)
    rest y c cs e f =
        by_equations (int (pos 1)) (neg_ℚ (dot y row)) (sym (dot_combination y c cs row rows) ∙ f) e
        (by_ring (c ∷ dot y row ∷ dot y (vec_mat cs rows) ∷ []) (search reads depth 30) (search reads depth 30) tt)

    each : (factors : List ℚ) → length factors ≡ length (row ∷ rows) → IsZero (vec_mat factors (row ∷ rows)) → IsZero factors
    each [] e z = absurd (omega arith)
    each (c ∷ cs) e z =
        let first : c ≡ int (pos 0) = h c cs (omega arith) z in
        (first, i.only_zero cs (omega arith) (zero_by_dots (vec_mat cs rows) (λ y. rest y c cs first (dot-zero y (vec_mat (c ∷ cs) (row ∷ rows)) z))))

-- ---- definite forms: linear maps H with x'H x above 0 at each x that isn't 0, for which H z + q = 0 has a solution
pub record IsForm (n : ℕ) (H : List ℚ → List ℚ) : Type 0 where
  pub sums : (x y : List ℚ) → H (vec_add x y) ≡ vec_add (H x) (H y)
  pub multiples : (c : ℚ) (x : List ℚ) → H (vec_scale c x) ≡ vec_scale c (H x)
  pub positive : (x : List ℚ) → length x ≡ n → ¬ IsZero x → IsPositive (dot x (H x))
  pub solved : (q : List ℚ) → length q ≤ n → (z : List ℚ) × (length z ≡ n) × IsZero (vec_add (H z) q)

-- z and multipliers l with H z + q + g'l = 0 and g z = b
pub record Solution (n : ℕ) (H : List ℚ → List ℚ) (g : List (List ℚ)) (q b : List ℚ) : Type 0 where
  pub z : List ℚ
  pub l : List ℚ
  pub size : length z ≡ n
  pub one_each : length l ≡ length g
  pub stationary : (y : List ℚ) → dot y (H z) +ℚ dot y q +ℚ dot y (vec_mat l g) ≡ int (pos 0)
  pub tight : mat_vec g z ≡ b

no_square : (a b c : ℚ) → a +ℚ b +ℚ c ≡ int (pos 0) → b ≡ int (pos 0) → c ≡ int (pos 0) → a ≡ int (pos 0)
no_square a b c e f g =
    by_equations (int (pos 1)) (int (negsuc 0)) e f (by_equation (int (negsuc 0)) g (by_ring (a ∷ b ∷ c ∷ []) (search reads depth 30) (search reads depth 30) tt))

no_times : (x : ℚ) → int (pos 0) *ℚ x ≡ int (pos 0)
no_times x = by_ring (x ∷ []) (search reads depth 30) (search reads depth 30) tt

moved : (a p q c d m s : ℚ) → a +ℚ q +ℚ c ≡ int (pos 0) → d +ℚ p +ℚ m ≡ int (pos 0) → (a +ℚ s *ℚ d) +ℚ q +ℚ (s *ℚ p +ℚ (c +ℚ s *ℚ m)) ≡ int (pos 0)
moved a p q c d m s e f = by_equations (int (pos 1)) s e f (by_ring (a ∷ p ∷ q ∷ c ∷ d ∷ m ∷ s ∷ []) (search reads depth 30) (search reads depth 30) tt)

pub arrives : (x t b : ℚ) → t ≢ int (pos 0) → x +ℚ ((b -ℚ x) /ℚ t) *ℚ t ≡ b
arrives x t b h = by_equation (int (pos 1)) (*ℚ-/ℚ (b -ℚ x) t h) (by_ring (x ∷ t ∷ b ∷ inv_ℚ t ∷ []) (search reads depth 30) (search reads depth 30) tt)

stays : (m : ℕ) (b : List ℚ) (s : ℚ) → length b ≡ m → vec_add b (vec_scale s (zeros m)) ≡ b
stays m b s e =
    same_entries (vec_add b (vec_scale s (zeros m))) b (length-add b (vec_scale s (zeros m)) (e ∙ sym (length-replicate m (int (pos 0))) ∙ sym (length-scale s (zeros m))))
    (λ i l. coordinate-add b (vec_scale s (zeros m)) i ∙ ap (λ u. coordinate b i +ℚ u) (coordinate-scale s (zeros m) i ∙ ap (λ u. s *ℚ u) (coordinate-zeros m i)) ∙ by_ring (coordinate b i ∷ s ∷ []) (search reads depth 30) (search reads depth 30) tt)

module _ (n : ℕ) (H : List ℚ → List ℚ) (form : IsForm n H) where
  zero_scaled : (x : List ℚ) → IsZero x → vec_scale (int (pos 0)) x ≡ x
  zero_scaled [] h = refl
  zero_scaled (x ∷ xs) h = let first : int (pos 0) *ℚ x ≡ x = no_times x ∙ sym h.0 in λ i. first i ∷ zero_scaled xs h.1 i

  pub at_zero : (x y : List ℚ) → IsZero x → dot y (H x) ≡ int (pos 0)
  at_zero x y h =
      ap (λ u. dot y (H u)) (sym (zero_scaled x h)) ∙ ap (dot y) (form.multiples (int (pos 0)) x) ∙ dot-scale_right (int (pos 0)) (H x) y ∙ no_times (dot y (H x))

  pub form_zero : (x : List ℚ) → length x ≡ n → dot x (H x) ≡ int (pos 0) → IsZero x
  form_zero x e f = ⊎_elim (λ h. h) (λ h. absurd (positive-not_zero (form.positive x e h) f)) (zero_or_not x)

  -- the direction d with H d + r + g'm = 0 and g d = 0 changes r unless r is a combination of g
  module _ (row : List ℚ) (g : List (List ℚ)) (i : IsIndependent (row ∷ g)) (b : List ℚ) (none : IsZero b) (s : Solution n H g row b) where
    keeps_others : dot s.z (vec_mat s.l g) ≡ int (pos 0)
    keeps_others = sym (dot-vec_mat g s.z s.l) ∙ dot_comm (mat_vec g s.z) s.l ∙ ap (dot s.l) s.tight ∙ dot-zero s.l b none

    still : dot row s.z ≡ int (pos 0) → IsZero s.z
    still e = form_zero s.z s.size (no_square (dot s.z (H s.z)) (dot s.z row) (dot s.z (vec_mat s.l g)) (s.stationary s.z) (dot_comm s.z row ∙ e) keeps_others)

    combined : (a c d : ℚ) → a +ℚ c +ℚ d ≡ int (pos 0) → a ≡ int (pos 0) → int (pos 1) *ℚ c +ℚ d ≡ int (pos 0)
    combined a c d e f = by_equations (int (pos 1)) (int (negsuc 0)) e f (by_ring (a ∷ c ∷ d ∷ []) (search reads depth 30) (search reads depth 30) tt)

    pub turns : dot row s.z ≢ int (pos 0)
    turns e =
        one-not_zero (i.only_zero (int (pos 1) ∷ s.l) (ap suc s.one_each)
        (zero_by_dots (vec_mat (int (pos 1) ∷ s.l) (row ∷ g)) (λ y.
        dot_combination y (int (pos 1)) s.l row g ∙ combined (dot y (H s.z)) (dot y row) (dot y (vec_mat s.l g)) (s.stationary y) (at_zero s.z y (still e))))).0

  -- the solution for a row more
  module _ (row : List ℚ) (g : List (List ℚ)) (q : List ℚ) (first : ℚ) (b : List ℚ) (at : Solution n H g q b) (turn : Solution n H g row (zeros (length g))) (t : dot row turn.z ≢ int (pos 0)) where
    step : ℚ
    step = (first -ℚ dot row at.z) /ℚ dot row turn.z

    new_z : List ℚ
    new_z = vec_add at.z (vec_scale step turn.z)

    new_l : List ℚ
    new_l = step ∷ vec_add at.l (vec_scale step turn.l)

    along_form : (y : List ℚ) → dot y (H new_z) ≡ dot y (H at.z) +ℚ step *ℚ dot y (H turn.z)
    unfolding new_z
    along_form y = ap (dot y) (form.sums at.z (vec_scale step turn.z) ∙ ap (vec_add (H at.z)) (form.multiples step turn.z)) ∙ dot_along y (H at.z) (H turn.z) step

    along_rows : (y : List ℚ) → dot y (vec_mat new_l (row ∷ g)) ≡ step *ℚ dot y row +ℚ (dot y (vec_mat at.l g) +ℚ step *ℚ dot y (vec_mat turn.l g))
    unfolding new_l
    along_rows y =
        dot_combination y step (vec_add at.l (vec_scale step turn.l)) row g
        ∙ ap (λ u. step *ℚ dot y row +ℚ u)
        (ap (dot y) (vec_mat-add at.l (vec_scale step turn.l) g ∙ ap (vec_add (vec_mat at.l g)) (vec_mat-scale step turn.l g)) ∙ dot_along y (vec_mat at.l g) (vec_mat turn.l g) step)

    first_tight : dot row new_z ≡ first
    unfolding new_z step
    first_tight = dot_along row at.z turn.z step ∙ arrives (dot row at.z) (dot row turn.z) first t

    later_tight : mat_vec g new_z ≡ b
    unfolding new_z
    later_tight =
        mat_vec-add g at.z (vec_scale step turn.z) ∙ ap (vec_add (mat_vec g at.z)) (mat_vec-scale g step turn.z)
        ∙ (λ i. vec_add (at.tight i) (vec_scale step (turn.tight i))) ∙ stays (length g) b step (ap length (sym at.tight) ∙ length-mat_vec g at.z)

    pub one_more : Solution n H (row ∷ g) q (first ∷ b)
    unfolding new_z new_l
    one_more = record {
      z = new_z;
      l = new_l;
      size = length-add at.z (vec_scale step turn.z) (at.size ∙ sym turn.size ∙ sym (length-scale step turn.z)) ∙ at.size;
      one_each = ap suc (length-add at.l (vec_scale step turn.l) (at.one_each ∙ sym turn.one_each ∙ sym (length-scale step turn.l)) ∙ at.one_each);
      stationary = λ y. (λ i. along_form y i +ℚ dot y q +ℚ along_rows y i)
          ∙ moved (dot y (H at.z)) (dot y row) (dot y q) (dot y (vec_mat at.l g)) (dot y (H turn.z)) (dot y (vec_mat turn.l g)) step (at.stationary y) (turn.stationary y);
      tight = λ i. first_tight i ∷ later_tight i;
    }

alone : (y x q : List ℚ) → IsZero (vec_add x q) → dot y x +ℚ dot y q +ℚ dot y [] ≡ int (pos 0)
alone y x q h = ap (λ u. dot y x +ℚ dot y q +ℚ u) (dot_nil y) ∙ by_equation (int (pos 1)) (sym (dot-add_right x q y) ∙ dot-zero y (vec_add x q) h) (by_ring (dot y x ∷ dot y q ∷ []) (search reads depth 30) (search reads depth 30) tt)

pub solve : (n : ℕ) (H : List ℚ → List ℚ) → IsForm n H → (g : List (List ℚ)) → AllByRecursion (λ row. length row ≤ n) g → IsIndependent g → (q b : List ℚ) → length q ≤ n → length b ≡ length g → Solution n H g q b
solve n H form [] sizes i q [] h e =
    let s = form.solved q h in
    record { z = s.0; l = []; size = s.1; one_each = refl; stationary = λ y. alone y (H s.0) q s.2; tight = refl }
solve n H form [] sizes i q (x ∷ b) h e = absurd (omega arith)
solve n H form (row ∷ g) sizes i q [] h e = absurd (omega arith)
solve n H form (row ∷ g) sizes i q (x ∷ b) h e =
    let later = later_independent row g i in
    let turn = solve n H form g sizes.1 later row (zeros (length g)) sizes.0 (length-replicate (length g) (int (pos 0))) in
    one_more n H form row g q x b (solve n H form g sizes.1 later q b h (omega arith)) turn (turns n H form row g i (zeros (length g)) (zeros_zero (length g)) turn)

-- ---- the identity and a positive definite matrix as forms
negatives : ℕ → List ℚ → List ℚ
negatives n q = listed n (λ i. neg_ℚ (coordinate q i))

cancels : (x : ℚ) → neg_ℚ x +ℚ x ≡ int (pos 0)
cancels x = by_ring (x ∷ []) (search reads depth 30) (search reads depth 30) tt

negated : (n : ℕ) (q : List ℚ) → length q ≤ n → IsZero (vec_add (negatives n q) q)
unfolding negatives
negated n q h =
    zero_by_entries (vec_add (negatives n q) q) (λ i l.
    let within : length (vec_add (negatives n q) q) ≤ n = length-add_within n (negatives n q) q (omega (arith, length-listed n (λ i. neg_ℚ (coordinate q i)))) h in
    coordinate-add (negatives n q) q i ∙ ap (λ u. u +ℚ coordinate q i) (coordinate-listed n (λ i. neg_ℚ (coordinate q i)) i (omega arith)) ∙ cancels (coordinate q i))

pub identity_form : (n : ℕ) → IsForm n (λ x. x)
unfolding negatives
identity_form n = record {
  sums = λ x y. refl;
  multiples = λ c x. refl;
  positive = λ x e h. dot_self-positive x h;
  solved = λ q h. (negatives n q, length-listed n (λ i. neg_ℚ (coordinate q i)), negated n q h);
}

pub definite_rows : (h : List (List ℚ)) → IsDefinite h → IsIndependent h
definite_rows h d = record {
  only_zero = λ l e z. ⊎_elim (λ k. k) (λ k.
      absurd (positive-not_zero (definite_at d l e k) (dot_comm l (mat_vec h l) ∙ dot-vec_mat h l l ∙ dot-zero l (vec_mat l h) z))) (zero_or_not l);
}

pub matrix_form : (h : List (List ℚ)) → AllByRecursion (λ row. length row ≤ length h) h → IsDefinite h → IsForm (length h) (mat_vec h)
unfolding negatives
matrix_form h sizes d = record {
  sums = mat_vec-add h;
  multiples = λ c x. mat_vec-scale h c x;
  positive = λ x e k. definite_at d x e k;
  solved = λ q k.
      let n = length h in
      let s = solve n (λ x. x) (identity_form n) h sizes (definite_rows h d) [] (negatives n q) (omega arith) (length-listed n (λ i. neg_ℚ (coordinate q i))) in
      (s.z, s.size, subst (λ u. IsZero (vec_add u q)) (sym s.tight) (negated n q k));
}
