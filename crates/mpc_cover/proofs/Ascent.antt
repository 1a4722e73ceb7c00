-- The greatest value of a linear form f under the first k rows and some rows that hold with equality, by the same induction as for the cheapest point: there
-- is a direction along which the form grows without end, or a point where it is greatest, with multipliers on independent rows.
use Rattle.std.proofs.Common.{◌≡◌, ℕ, zero, suc, ◌≤◌, List, [], ◌∷◌, length, map, pos, negsuc, refl, sym, ◌∙◌, ap, subst, arith, ◌⊎◌, inl, inr, ⊎_elim}
use Rattle.std.proofs.lemmas.Bool.{cases_eq}
use Rattle.std.proofs.lemmas.List.{length-map}
use Rattle.mpc_exact.specs.Rational.{ℚ, int, ◌+ℚ◌, ◌-ℚ◌, ◌*ℚ◌, ◌/ℚ◌, inv_ℚ, ◌≤ℚ◌, ◌<ℚ◌, IsNonneg, IsPositive}
use Rattle.mpc_exact.proofs.Rational.{*ℚ_comm}
use Rattle.mpc_exact.proofs.RationalRing.{reads, by_ring, by_equation, by_equations}
use Rattle.mpc_exact.proofs.RationalOrder.{gap, nonneg_int, nonneg-add, nonneg-mul, nonneg_cancel, le_or_lt, ≤ℚ_of_<, ≤ℚ_refl, inv_positive, by_le}
use Rattle.mpc_exact.proofs.OrderTheorems.{positive-not_zero, *ℚ-/ℚ}
use Rattle.mpc_exact.proofs.Linear.{linear_le, linear_lt, linear_false, claims, none, le, lt, eq}
use Rattle.mpc_space.specs.Vector.{dot, vec_add, vec_scale, vec_sub, vec_mat, IsZero, IsIndependent}
use Rattle.mpc_space.proofs.Entries.{length-add, length-scale, dot_nil, dot-zero, zero_or_not}
use Rattle.mpc_space.proofs.Vector.{dot_comm, dot-scale_right, dot_self-positive}
use Rattle.mpc_sets.specs.RowSet.{Among}
use Rattle.mpc_cover.proofs.Members.{Among_within}
use Rattle.mpc_cover.proofs.Systems.{Solution, solve, identity_form, dot_along}
use Rattle.mpc_cover.proofs.Segments.{MeetsFirst, Holds, lengths_of, holds_among, holds_from_rows, combination_falls, combination_stays, border, length-border, border_meets, border_at, border_holds}
use Rattle.mpc_cover.proofs.Descent.{Cheapest, IsConvex, kept, joined, last_nonneg, upper_at, crossed_independent}

-- the form as a cost without a quadratic part
abbrev pub flat : List ℚ → List ℚ
flat x = []

flat_convex : (n : ℕ) → IsConvex n flat
flat_convex n = record { monotone = λ x z _ _. subst IsNonneg (sym (none_left (dot (vec_sub x z) []) (dot_nil (vec_sub x z)))) (nonneg_int 0) }
  where
    none_left : (x : ℚ) → x ≡ int (pos 0) → x -ℚ x ≡ int (pos 0)
    none_left x e = by_ring (x ∷ []) (search reads depth 30) (search reads depth 30) tt

abbrev pub against : List ℚ → List ℚ
against f = vec_scale (int (negsuc 0)) f

-- what grows by a positive rate passes any bound
pub passing : (x rate bound : ℚ) → IsPositive rate → x ≤ℚ bound → (c : ℚ) × IsNonneg c × (bound <ℚ (x +ℚ c *ℚ rate))
passing x rate bound h k =
    let share = (bound -ℚ x) /ℚ rate in (
      share +ℚ int (pos 1),
      nonneg-add (nonneg-mul (gap k) (≤ℚ_of_< (inv_positive h))) (nonneg_int 1),
      subst (λ u. bound <ℚ u) (sym (arrived (bound -ℚ x) rate x bound (positive-not_zero h) refl)) (linear_lt (bound ∷ rate ∷ []) (lt h none) (search claims depth 40) tt),
    )
  where
    arrived : (u rate x bound : ℚ) → (rate ≡ int (pos 0) → ⊥) → u ≡ bound -ℚ x → x +ℚ (u /ℚ rate +ℚ int (pos 1)) *ℚ rate ≡ bound +ℚ rate
    arrived u rate x bound h e = by_equations (int (pos 1)) (int (pos 1)) (*ℚ-/ℚ u rate h) e (by_ring (u ∷ rate ∷ x ∷ bound ∷ inv_ℚ rate ∷ []) (search reads depth 30) (search reads depth 30) tt)

-- ---- numbers
solved_for : (z g l m : ℚ) → z ≡ int (pos 0) → z +ℚ int (negsuc 0) *ℚ g +ℚ (l +ℚ m) ≡ int (pos 0) → g ≡ l +ℚ m
solved_for z g l m h e = by_equations (int (pos 1)) (int (negsuc 0)) h e (by_ring (z ∷ g ∷ l ∷ m ∷ []) (search reads depth 30) (search reads depth 30) tt)

last_share : (g l p m : ℚ) → g ≡ l +ℚ (p +ℚ m) → IsPositive g → l ≤ℚ int (pos 0) → m ≡ int (pos 0) → IsNonneg p
last_share g l p m e h r s = linear_le (g ∷ l ∷ p ∷ m ∷ []) (eq e (lt h (le r (eq s none)))) (search claims depth 40) tt

no_gain : (g l m : ℚ) → g ≡ l +ℚ m → IsPositive g → l ≤ℚ int (pos 0) → m ≡ int (pos 0) → ⊥
no_gain g l m e h r s = linear_false (g ∷ l ∷ m ∷ []) (eq e (lt h (le r (eq s none)))) (search claims depth 40) tt

no_quadratic : (o z q m : ℚ) → o ≡ int (pos 0) → z ≡ int (pos 0) → z +ℚ q +ℚ m ≡ int (pos 0) → o +ℚ q +ℚ (o +ℚ m) ≡ int (pos 0)
no_quadratic o z q m e f h = by_equations (int (pos 2)) (int (negsuc 0)) e f (by_equation (int (pos 1)) h (by_ring (o ∷ z ∷ q ∷ m ∷ []) (search reads depth 30) (search reads depth 30) tt))

square_gain : (s g m : ℚ) → IsPositive s → s +ℚ int (negsuc 0) *ℚ g +ℚ m ≡ int (pos 0) → m ≡ int (pos 0) → IsPositive g
square_gain s g m h e r = linear_lt (s ∷ g ∷ m ∷ []) (lt h (eq e (eq r none))) (search claims depth 40) tt

module _ (n : ℕ) (f : List ℚ) (a : ℕ → List ℚ) (b : ℕ → ℚ) where
  -- the form grows along d, which leaves none of the first k rows and keeps those of e
  pub record Ray (k : ℕ) (e : List ℕ) : Type 0 where
    pub d : List ℚ
    pub size : length d ≡ n
    pub falls : (i : ℕ) → 1 ≤ i → i ≤ k → dot d (a i) ≤ℚ int (pos 0)
    pub stays : (i : ℕ) → Among i e → dot d (a i) ≡ int (pos 0)
    pub gains : IsPositive (dot d f)

  abbrev pub Greatest : ℕ → List ℕ → Type 0
  Greatest k e = Cheapest n flat (against f) a b k e

  -- ---- along a ray
  module _ (k : ℕ) (e : List ℕ) (y : List ℚ) (ray : Ray k e) (c : ℚ) (forward : IsNonneg c) where
    pub further : List ℚ
    further = vec_add y (vec_scale c ray.d)

    pub length-further : length y ≡ n → length further ≡ n
    unfolding further
    length-further h = length-add y (vec_scale c ray.d) (h ∙ sym ray.size ∙ sym (length-scale c ray.d)) ∙ h

    pub along_ray : (row : List ℚ) → dot row further ≡ dot row y +ℚ c *ℚ dot ray.d row
    unfolding further
    along_ray row = dot_along row y ray.d c ∙ ap (λ u. dot row y +ℚ c *ℚ u) (dot_comm row ray.d)

    lower_still : (x s u : ℚ) → x ≤ℚ u → s ≤ℚ int (pos 0) → (x +ℚ c *ℚ s) ≤ℚ u
    lower_still x s u h k = by_le (x ∷ s ∷ u ∷ c ∷ []) (nonneg-add (gap h) (nonneg-mul forward (gap k))) (search reads depth 30) (search reads depth 30) tt

    the_same : (x s u : ℚ) → x ≡ u → s ≡ int (pos 0) → x +ℚ c *ℚ s ≡ u
    the_same x s u h k = by_equations (int (pos 1)) c h k (by_ring (x ∷ s ∷ u ∷ c ∷ []) (search reads depth 30) (search reads depth 30) tt)

    pub further_meets : MeetsFirst a b k y → MeetsFirst a b k further
    further_meets h i from to = subst (λ u. u ≤ℚ b i) (sym (along_ray (a i))) (lower_still (dot (a i) y) (dot ray.d (a i)) (b i) (h i from to) (ray.falls i from to))

    pub further_holds : (s : List ℕ) → ((i : ℕ) → Among i s → dot ray.d (a i) ≡ int (pos 0)) → Holds a b s y → Holds a b s further
    further_holds [] h g = tt
    further_holds (i ∷ s) h g = (along_ray (a i) ∙ the_same (dot (a i) y) (dot ray.d (a i)) (b i) g.0 (h i (inl refl)), further_holds s (λ j m. h j (inr m)) g.1)

  -- ---- one row more
  falls_last : (k : ℕ) (d : List ℚ) → ((i : ℕ) → 1 ≤ i → i ≤ k → dot d (a i) ≤ℚ int (pos 0)) → dot d (a (suc k)) ≤ℚ int (pos 0) → (i : ℕ) → 1 ≤ i → i ≤ suc k → dot d (a i) ≤ℚ int (pos 0)
  falls_last k d h last i from to = by (cases_eq i (suc k))
    where
      by : (i ≡ suc k) ⊎ (i ≡ suc k → ⊥) → dot d (a i) ≤ℚ int (pos 0)
      by (inl g) = subst (λ j. dot d (a j) ≤ℚ int (pos 0)) (sym g) last
      by (inr no_last) = h i from (omega arith)

  ray_kept : (k : ℕ) (e : List ℕ) (ray : Ray k e) → dot ray.d (a (suc k)) ≤ℚ int (pos 0) → Ray (suc k) e
  ray_kept k e ray h = record { d = ray.d; size = ray.size; falls = falls_last k ray.d ray.falls h; stays = ray.stays; gains = ray.gains }

  ray_joined : (k : ℕ) (e : List ℕ) → Ray k (suc k ∷ e) → Ray (suc k) e
  ray_joined k e ray = record {
    d = ray.d;
    size = ray.size;
    falls = falls_last k ray.d ray.falls (subst (λ u. u ≤ℚ int (pos 0)) (sym (ray.stays (suc k) (inl refl))) (≤ℚ_refl (int (pos 0))));
    stays = λ i m. ray.stays i (inr m);
    gains = ray.gains;
  }

  -- ---- the multipliers at a greatest value
  pub gain_of : (k : ℕ) (e : List ℕ) (at : Greatest k e) (y : List ℚ) → dot y f ≡ dot y (vec_mat at.l (map a at.members)) +ℚ dot y (vec_mat at.m (map a e))
  gain_of k e at y =
      solved_for (dot y []) (dot y f) (dot y (vec_mat at.l (map a at.members))) (dot y (vec_mat at.m (map a e))) (dot_nil y)
      (ap (λ u. dot y [] +ℚ u +ℚ (dot y (vec_mat at.l (map a at.members)) +ℚ dot y (vec_mat at.m (map a e)))) (sym (dot-scale_right (int (negsuc 0)) f y)) ∙ at.stationary y)

  gain_with : (k : ℕ) (e : List ℕ) (upper : Greatest k (suc k ∷ e)) (p : ℚ) (m : List ℚ) → upper.m ≡ p ∷ m → (y : List ℚ) → dot y f ≡ dot y (vec_mat upper.l (map a upper.members)) +ℚ (p *ℚ dot y (a (suc k)) +ℚ dot y (vec_mat m (map a e)))
  gain_with k e upper p m is y =
      let rest = p *ℚ dot y (a (suc k)) +ℚ dot y (vec_mat m (map a e)) in
      solved_for (dot y []) (dot y f) (dot y (vec_mat upper.l (map a upper.members))) rest (dot_nil y)
      (ap (λ u. dot y [] +ℚ u +ℚ (dot y (vec_mat upper.l (map a upper.members)) +ℚ rest)) (sym (dot-scale_right (int (negsuc 0)) f y)) ∙ upper_at n flat (against f) a b k e upper p m is y)

  members_fall : (k : ℕ) (e rest : List ℕ) (at : Greatest k rest) (ray : Ray k e) → dot ray.d (vec_mat at.l (map a at.members)) ≤ℚ int (pos 0)
  members_fall k e rest at ray = combination_falls a ray.d at.l at.members at.nonnegative (λ i m. let w = Among_within 0 k i at.members at.rises m in ray.falls i w.0 w.1)

  -- row k + 1 has a multiplier of at least 0 where the form grows along a ray that leaves it
  out_of_row : (k : ℕ) (e : List ℕ) (ray : Ray k e) → IsPositive (dot ray.d (a (suc k))) → (upper : Greatest k (suc k ∷ e)) (p : ℚ) (m : List ℚ) → upper.m ≡ p ∷ m → IsNonneg p
  out_of_row k e ray steep upper p m is =
      nonneg_cancel steep (subst IsNonneg (*ℚ_comm p (dot ray.d (a (suc k))))
      (last_share (dot ray.d f) (dot ray.d (vec_mat upper.l (map a upper.members))) (p *ℚ dot ray.d (a (suc k))) (dot ray.d (vec_mat m (map a e)))
      (gain_with k e upper p m is ray.d) ray.gains (members_fall k e (suc k ∷ e) upper ray) (combination_stays a ray.d m e ray.stays)))

  -- no form grows along a ray where it has a greatest value
  no_ray : (k : ℕ) (e : List ℕ) → Greatest k e → Ray k e → ⊥
  no_ray k e at ray =
      no_gain (dot ray.d f) (dot ray.d (vec_mat at.l (map a at.members))) (dot ray.d (vec_mat at.m (map a e)))
      (gain_of k e at ray.d) ray.gains (members_fall k e e at ray) (combination_stays a ray.d at.m e ray.stays)

  -- ---- the ascent
  module _ (k : ℕ) (e : List ℕ) (i : IsIndependent (map a e)) (y : List ℚ) (y_size : length y ≡ n) (meets : MeetsFirst a b (suc k) y) (holds : Holds a b e y) (more : IsIndependent (map a (suc k ∷ e)) → (x : List ℚ) → length x ≡ n → MeetsFirst a b k x → Holds a b (suc k ∷ e) x → Ray k (suc k ∷ e) ⊎ Greatest k (suc k ∷ e)) where
    -- with row k + 1 among the equations, from a point outside it
    at_border : (z : List ℚ) → length z ≡ n → MeetsFirst a b k z → Holds a b e z → b (suc k) <ℚ dot (a (suc k)) z → Ray k (suc k ∷ e) ⊎ Greatest k (suc k ∷ e)
    at_border z z_size z_meets z_holds outside =
        let inside : dot (a (suc k)) y ≤ℚ b (suc k) = meets (suc k) (omega arith) (omega arith) in
        let x = border a b (suc k) y z inside outside in
        let on_e : Holds a b e x = border_holds a b (suc k) y z inside outside e holds z_holds in
        let on_last : dot (a (suc k)) x ≡ b (suc k) = border_at a b (suc k) y z inside outside in
        more (crossed_independent a b (suc k) e z x z_holds on_e on_last outside i) x (length-border a b (suc k) y z inside outside (y_size ∙ sym z_size) ∙ y_size)
        (λ j from to. border_meets a b (suc k) y z inside outside j (meets j from (omega arith)) (z_meets j from to)) (on_last, on_e)

    from_ray : Ray k e → Ray (suc k) e ⊎ Greatest (suc k) e
    from_ray ray = ⊎_elim (λ h. inl (ray_kept k e ray h)) (λ steep.
        let ahead = passing (dot (a (suc k)) y) (dot ray.d (a (suc k))) (b (suc k)) steep (meets (suc k) (omega arith) (omega arith)) in
        let z = further k e y ray ahead.0 ahead.1 in
        let outside : b (suc k) <ℚ dot (a (suc k)) z = subst (λ u. b (suc k) <ℚ u) (sym (along_ray k e y ray ahead.0 ahead.1 (a (suc k)))) ahead.2 in
        ⊎_elim (λ r. inl (ray_joined k e r)) (λ g. inr (joined n flat (against f) a b k e g (out_of_row k e ray steep g)))
        (at_border z (length-further k e y ray ahead.0 ahead.1 y_size) (further_meets k e y ray ahead.0 ahead.1 (λ j from to. meets j from (omega arith))) (further_holds k e y ray ahead.0 ahead.1 e ray.stays holds) outside))
        (le_or_lt (dot ray.d (a (suc k))) (int (pos 0)))

    from_greatest : Greatest k e → Ray (suc k) e ⊎ Greatest (suc k) e
    from_greatest lower = ⊎_elim (λ h. inr (kept n flat (against f) a b k e lower h)) (λ outside.
        ⊎_elim (λ r. absurd (no_ray k e lower (record { d = r.d; size = r.size; falls = r.falls; stays = λ j m. r.stays j (inr m); gains = r.gains })))
        (λ g. inr (joined n flat (against f) a b k e g (last_nonneg n flat (against f) a b k e lower outside g (flat_convex n))))
        (at_border lower.z lower.size lower.meets lower.equal outside))
        (le_or_lt (dot (a (suc k)) lower.z) (b (suc k)))

  -- ---- without rows to meet, only the equations count: the form's own direction, as far as they leave it
  module _ (sizes : (i : ℕ) → length (a i) ≤ n) (f_size : length f ≤ n) (e : List ℕ) (i : IsIndependent (map a e)) where
    own : Solution n (λ x. x) (map a e) (against f) (map (λ _. int (pos 0)) e)
    own =
        solve n (λ x. x) (identity_form n) (map a e) (lengths_of n a sizes e) i (against f) (map (λ _. int (pos 0)) e)
        (omega (arith, length-scale (int (negsuc 0)) f, f_size)) (length-map e (λ _. int (pos 0)) ∙ sym (length-map e a))

    own_stays : (j : ℕ) → Among j e → dot own.z (a j) ≡ int (pos 0)
    own_stays j m = dot_comm own.z (a j) ∙ holds_among a (λ _. int (pos 0)) e own.z (holds_from_rows a (λ _. int (pos 0)) e own.z own.tight) j m

    own_gains : ¬ IsZero own.z → IsPositive (dot own.z f)
    own_gains some =
        square_gain (dot own.z own.z) (dot own.z f) (dot own.z (vec_mat own.l (map a e))) (dot_self-positive own.z some)
        (ap (λ u. dot own.z own.z +ℚ u +ℚ dot own.z (vec_mat own.l (map a e))) (sym (dot-scale_right (int (negsuc 0)) f own.z)) ∙ own.stationary own.z)
        (combination_stays a own.z own.l e own_stays)

    own_ray : ¬ IsZero own.z → Ray zero e
    own_ray some = record { d = own.z; size = own.size; falls = λ j from to. absurd (omega arith); stays = own_stays; gains = own_gains some }

    level_at : (y : List ℚ) → length y ≡ n → Holds a b e y → IsZero own.z → Greatest zero e
    level_at y y_size holds zero_own = record {
      z = y;
      size = y_size;
      members = [];
      rises = tt;
      independent = i;
      meets = λ j from to. absurd (omega arith);
      tight = tt;
      equal = holds;
      l = [];
      m = own.l;
      one_each = refl;
      one_equal = own.one_each ∙ length-map e a;
      nonnegative = tt;
      stationary = λ v. no_quadratic (dot v []) (dot v own.z) (dot v (against f)) (dot v (vec_mat own.l (map a e))) (dot_nil v) (dot-zero v own.z zero_own) (own.stationary v);
    }

    first_of_all : (y : List ℚ) → length y ≡ n → Holds a b e y → Ray zero e ⊎ Greatest zero e
    first_of_all y y_size holds = ⊎_elim (λ still. inr (level_at y y_size holds still)) (λ some. inl (own_ray some)) (zero_or_not own.z)

  pub ascend : ((i : ℕ) → length (a i) ≤ n) → length f ≤ n → (k : ℕ) (e : List ℕ) → IsIndependent (map a e) → (y : List ℚ) → length y ≡ n → MeetsFirst a b k y → Holds a b e y → Ray k e ⊎ Greatest k e
  ascend sizes f_size zero e i y y_size meets holds = first_of_all sizes f_size e i y y_size holds
  ascend sizes f_size (suc k) e i y y_size meets holds =
      by (ascend sizes f_size k e i y y_size (λ j from to. meets j from (omega arith)) holds) (ascend sizes f_size k (suc k ∷ e))
    where
      by : Ray k e ⊎ Greatest k e → (IsIndependent (map a (suc k ∷ e)) → (x : List ℚ) → length x ≡ n → MeetsFirst a b k x → Holds a b (suc k ∷ e) x → Ray k (suc k ∷ e) ⊎ Greatest k (suc k ∷ e)) → Ray (suc k) e ⊎ Greatest (suc k) e
      by (inl ray) more = from_ray k e i y y_size meets holds more ray
      by (inr lower) more = from_greatest k e i y y_size meets holds more lower
