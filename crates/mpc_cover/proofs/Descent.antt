-- The cheapest point under the first k rows and some rows that hold with equality, by induction on k: either the cheapest point under the first k - 1 rows
-- meets row k, or row k joins the equations. So the multipliers of Karush (1939), Kuhn and Tucker (1951) come with an independent set of rows.
use Rattle.std.proofs.Common.{◌≡◌, ℕ, zero, suc, ◌+◌, ◌≤◌, List, [], ◌∷◌, ◌++◌, length, map, pos, negsuc, refl, sym, ◌∙◌, ap, subst, arith, ◌⊎◌, inl, inr, ⊎_elim}
use Rattle.std.proofs.lemmas.List.{length-map, length-append, map-append, append_assoc}
use Rattle.mpc_exact.specs.Rational.{ℚ, int, ◌+ℚ◌, ◌-ℚ◌, ◌*ℚ◌, ◌≤ℚ◌, ◌<ℚ◌, IsNonneg, IsPositive}
use Rattle.mpc_exact.proofs.RationalRing.{reads, by_ring, by_equations}
use Rattle.mpc_exact.proofs.RationalOrder.{nonneg_cancel, le_or_lt, ≤ℚ_of_<, ≤ℚ_refl}
use Rattle.mpc_exact.proofs.OrderTheorems.{positive-not_zero}
use Rattle.mpc_exact.proofs.Rational.{*ℚ_comm}
use Rattle.mpc_exact.proofs.RationalField.{product_zero}
use Rattle.std.proofs.lemmas.Bool.{cases_eq}
use Rattle.mpc_exact.proofs.Linear.{linear_le, linear_lt, claims, none, le, lt, eq}
use Rattle.mpc_space.specs.Vector.{dot, vec_add, vec_scale, vec_sub, vec_mat, AllNonneg, IsIndependent}
use Rattle.mpc_space.proofs.Entries.{length-sub, dot_nil, dot-zero, zero_or_not}
use Rattle.mpc_space.proofs.Vector.{dot-sub_right}
use Rattle.mpc_sets.specs.RowSet.{RisesWithin}
use Rattle.mpc_cover.proofs.Members.{Among_within, rises_last}
use Rattle.mpc_cover.proofs.Systems.{IsForm, solve, dot_combination, joined_independent, at_zero}
use Rattle.mpc_cover.proofs.Segments.{MeetsFirst, Holds, lengths_of, holds-append, holds_among, holds_from_rows, dot-combination_append, combination_rises, combination_falls, combination_stays, nothing_more, difference, border, length-border, border_meets, border_at, border_holds}

-- the signs of the two points' conditions along the way from the one to the other
last_multiplier : (x z q rising falling p flat level : ℚ) → IsNonneg (x -ℚ z) → x +ℚ q +ℚ (rising +ℚ flat) ≡ int (pos 0) → z +ℚ q +ℚ (falling +ℚ (p +ℚ level)) ≡ int (pos 0) → IsNonneg rising → falling ≤ℚ int (pos 0) → flat ≡ int (pos 0) → level ≡ int (pos 0) → IsNonneg p
last_multiplier x z q rising falling p flat level h e f r s t u = linear_le (x ∷ z ∷ q ∷ rising ∷ falling ∷ p ∷ flat ∷ level ∷ []) (le h (eq e (eq f (le r (le s (eq t (eq u none))))))) (search claims depth 60 fits 9000) tt

zero_factor : (c t : ℚ) → IsPositive t → c *ℚ t ≡ int (pos 0) → c ≡ int (pos 0)
zero_factor c t h e = ⊎_elim (λ k. k) (λ k. absurd (positive-not_zero h k)) (product_zero c t e)

only_first : (c t x : ℚ) → c *ℚ t +ℚ x ≡ int (pos 0) → x ≡ int (pos 0) → c *ℚ t ≡ int (pos 0)
only_first c t x e f = by_equations (int (pos 1)) (int (negsuc 0)) e f (by_ring (c ∷ t ∷ x ∷ []) (search reads depth 30) (search reads depth 30) tt)

same_difference : {x y b : ℚ} → x ≡ b → y ≡ b → x -ℚ y ≡ int (pos 0)
same_difference {x} {y} {b} e f = by_equations (int (pos 1)) (int (negsuc 0)) e f (by_ring (x ∷ y ∷ b ∷ []) (search reads depth 30) (search reads depth 30) tt)

positive_difference : {x y b : ℚ} → b <ℚ x → y ≡ b → IsPositive (x -ℚ y)
positive_difference {x} {y} {b} h e = linear_lt (x ∷ y ∷ b ∷ []) (lt h (eq e none)) (search claims depth 40) tt

rising_difference : {x y b : ℚ} → x ≡ b → y ≤ℚ b → IsNonneg (x -ℚ y)
rising_difference {x} {y} {b} e h = linear_le (x ∷ y ∷ b ∷ []) (eq e (le h none)) (search claims depth 40) tt

falling_difference : {x y b : ℚ} → x ≤ℚ b → y ≡ b → (x -ℚ y) ≤ℚ int (pos 0)
falling_difference {x} {y} {b} h e = linear_le (x ∷ y ∷ b ∷ []) (le h (eq e none)) (search claims depth 40) tt

-- a row on which two points differ that agree on e is independent of e
pub crossed_independent : (a : ℕ → List ℚ) (b : ℕ → ℚ) (r : ℕ) (e : List ℕ) (x z : List ℚ) → Holds a b e x → Holds a b e z → dot (a r) z ≡ b r → b r <ℚ dot (a r) x → IsIndependent (map a e) → IsIndependent (map a (r ∷ e))
crossed_independent a b r e x z h k at beyond i =
    let d = vec_sub x z in
    joined_independent (a r) (map a e) i (λ c cs _ vanishing.
    zero_factor c (dot d (a r)) (subst IsPositive (sym (difference (a r) x z)) (positive_difference beyond at))
    (only_first c (dot d (a r)) (dot d (vec_mat cs (map a e))) (sym (dot_combination d c cs (a r) (map a e)) ∙ dot-zero d (vec_mat (c ∷ cs) (map a (r ∷ e))) vanishing)
    (combination_stays a d cs e (λ j m. difference (a j) x z ∙ same_difference (holds_among a b e x h j m) (holds_among a b e z k j m)))))

nonneg_append : (ls : List ℚ) (x : ℚ) → AllNonneg ls → IsNonneg x → AllNonneg (ls ++ x ∷ [])
nonneg_append [] x h k = (k, tt)
nonneg_append (l ∷ ls) x h k = (h.0, nonneg_append ls x h.1 k)

regroup : (l p m : ℚ) → l +ℚ (p +ℚ m) ≡ (l +ℚ (p +ℚ int (pos 0))) +ℚ m
regroup l p m = by_ring (l ∷ p ∷ m ∷ []) (search reads depth 30) (search reads depth 30) tt

-- x - z and H x - H z never point against each other
pub record IsConvex (n : ℕ) (H : List ℚ → List ℚ) : Type 0 where
  pub monotone : (x z : List ℚ) → length x ≡ length z → length x ≡ n → IsNonneg (dot (vec_sub x z) (H x) -ℚ dot (vec_sub x z) (H z))

module _ (n : ℕ) (H : List ℚ → List ℚ) (q : List ℚ) (a : ℕ → List ℚ) (b : ℕ → ℚ) where
  -- the cheapest point under the first k rows and the rows of e with equality: its multipliers are at least 0 on some of the first k rows, which hold
  -- with equality and are independent together with e, and of either sign on e
  pub record Cheapest (k : ℕ) (e : List ℕ) : Type 0 where
    pub z : List ℚ
    pub size : length z ≡ n
    pub members : List ℕ
    pub rises : RisesWithin 0 k members
    pub independent : IsIndependent (map a (members ++ e))
    pub meets : MeetsFirst a b k z
    pub tight : Holds a b members z
    pub equal : Holds a b e z
    pub l : List ℚ
    pub m : List ℚ
    pub one_each : length l ≡ length members
    pub one_equal : length m ≡ length e
    pub nonnegative : AllNonneg l
    pub stationary : (y : List ℚ) → dot y (H z) +ℚ dot y q +ℚ (dot y (vec_mat l (map a members)) +ℚ dot y (vec_mat m (map a e))) ≡ int (pos 0)

  meets_last : (k : ℕ) (z : List ℚ) → MeetsFirst a b k z → dot (a (suc k)) z ≤ℚ b (suc k) → MeetsFirst a b (suc k) z
  meets_last k z h last i from to = by (cases_eq i (suc k))
    where
      by : (i ≡ suc k) ⊎ (i ≡ suc k → ⊥) → dot (a i) z ≤ℚ b i
      by (inl e) = subst (λ j. dot (a j) z ≤ℚ b j) (sym e) last
      by (inr no_last) = h i from (omega arith)

  rises_more : (low k high : ℕ) (s : List ℕ) → k ≤ high → RisesWithin low k s → RisesWithin low high s
  rises_more low k high [] h r = tt
  rises_more low k high (i ∷ s) h r = (r.0, omega (arith, r.1), rises_more i k high s h r.2)

  -- the cheapest point under the first k rows meets row k + 1 too
  pub kept : (k : ℕ) (e : List ℕ) (lower : Cheapest k e) → dot (a (suc k)) lower.z ≤ℚ b (suc k) → Cheapest (suc k) e
  kept k e lower h = record {
    z = lower.z;
    size = lower.size;
    members = lower.members;
    rises = rises_more 0 k (suc k) lower.members (omega arith) lower.rises;
    independent = lower.independent;
    meets = meets_last k lower.z lower.meets h;
    tight = lower.tight;
    equal = lower.equal;
    l = lower.l;
    m = lower.m;
    one_each = lower.one_each;
    one_equal = lower.one_equal;
    nonnegative = lower.nonnegative;
    stationary = lower.stationary;
  }

  -- or row k + 1 joins the equations, with a multiplier of at least 0
  module _ (k : ℕ) (e : List ℕ) (upper : Cheapest k (suc k ∷ e)) where
    pub upper_at : (p : ℚ) (m : List ℚ) → upper.m ≡ p ∷ m → (y : List ℚ) → dot y (H upper.z) +ℚ dot y q +ℚ (dot y (vec_mat upper.l (map a upper.members)) +ℚ (p *ℚ dot y (a (suc k)) +ℚ dot y (vec_mat m (map a e)))) ≡ int (pos 0)
    upper_at p m is y =
        ap (λ u. dot y (H upper.z) +ℚ dot y q +ℚ (dot y (vec_mat upper.l (map a upper.members)) +ℚ u)) (sym (ap (λ v. dot y (vec_mat v (map a (suc k ∷ e)))) is ∙ dot_combination y p m (a (suc k)) (map a e)))
        ∙ upper.stationary y

    grouped : (p : ℚ) (m y : List ℚ) → dot y (vec_mat upper.l (map a upper.members)) +ℚ (p *ℚ dot y (a (suc k)) +ℚ dot y (vec_mat m (map a e))) ≡ dot y (vec_mat (upper.l ++ p ∷ []) (map a (upper.members ++ suc k ∷ []))) +ℚ dot y (vec_mat m (map a e))
    grouped p m y =
        let last : dot y (vec_mat (p ∷ []) (a (suc k) ∷ [])) ≡ p *ℚ dot y (a (suc k)) +ℚ int (pos 0) = dot_combination y p [] (a (suc k)) [] ∙ ap (λ u. p *ℚ dot y (a (suc k)) +ℚ u) (dot_nil y) in
        regroup (dot y (vec_mat upper.l (map a upper.members))) (p *ℚ dot y (a (suc k))) (dot y (vec_mat m (map a e)))
        ∙ ap (λ u. u +ℚ dot y (vec_mat m (map a e)))
        (sym (ap (λ rows. dot y (vec_mat (upper.l ++ p ∷ []) rows)) (map-append a upper.members (suc k ∷ []))
        ∙ dot-combination_append y upper.l (p ∷ []) (map a upper.members) (a (suc k) ∷ []) (upper.one_each ∙ sym (length-map upper.members a)) ∙ ap (λ u. dot y (vec_mat upper.l (map a upper.members)) +ℚ u) last))

    regrouped : ((p : ℚ) (m : List ℚ) → upper.m ≡ p ∷ m → IsNonneg p) → (m : List ℚ) → upper.m ≡ m → Cheapest (suc k) e
    regrouped h [] is = absurd (omega (arith, upper.one_equal, ap length is))
    regrouped h (p ∷ m) is = record {
      z = upper.z;
      size = upper.size;
      members = upper.members ++ suc k ∷ [];
      rises = rises_last 0 k (suc k) upper.members (suc k) upper.rises (λ i g. let w = Among_within 0 k i upper.members upper.rises g in omega (arith, w.1)) (omega arith) (omega arith);
      independent = subst (λ s. IsIndependent (map a s)) (sym (append_assoc upper.members (suc k ∷ []) e)) upper.independent;
      meets = meets_last k upper.z upper.meets (subst (λ u. u ≤ℚ b (suc k)) (sym upper.equal.0) (≤ℚ_refl (b (suc k))));
      tight = holds-append a b upper.members (suc k ∷ []) upper.z upper.tight (upper.equal.0, tt);
      equal = upper.equal.1;
      l = upper.l ++ p ∷ [];
      m = m;
      one_each = length-append upper.l (p ∷ []) ∙ ap (λ u. u + 1) upper.one_each ∙ sym (length-append upper.members (suc k ∷ []));
      one_equal = omega (arith, upper.one_equal, ap length is);
      nonnegative = nonneg_append upper.l p upper.nonnegative (h p m is);
      stationary = λ y. sym (ap (λ u. dot y (H upper.z) +ℚ dot y q +ℚ u) (grouped p m y)) ∙ upper_at p m is y;
    }

    pub joined : ((p : ℚ) (m : List ℚ) → upper.m ≡ p ∷ m → IsNonneg p) → Cheapest (suc k) e
    joined h = regrouped h upper.m refl

  -- it is at least 0 where the cheapest point under the first k rows lies outside row k + 1 and H is convex
  module _ (k : ℕ) (e : List ℕ) (lower : Cheapest k e) (outside : b (suc k) <ℚ dot (a (suc k)) lower.z) (upper : Cheapest k (suc k ∷ e)) where
    abbrev way : List ℚ
    way = vec_sub lower.z upper.z

    steep : IsPositive (dot way (a (suc k)))
    steep = subst IsPositive (sym (difference (a (suc k)) lower.z upper.z)) (positive_difference outside upper.equal.0)

    rising : IsNonneg (dot way (vec_mat lower.l (map a lower.members)))
    rising = combination_rises a way lower.l lower.members lower.nonnegative (λ i m.
        let w = Among_within 0 k i lower.members lower.rises m in
        subst IsNonneg (sym (difference (a i) lower.z upper.z)) (rising_difference (holds_among a b lower.members lower.z lower.tight i m) (upper.meets i w.0 w.1)))

    falling : dot way (vec_mat upper.l (map a upper.members)) ≤ℚ int (pos 0)
    falling = combination_falls a way upper.l upper.members upper.nonnegative (λ i m.
        let w = Among_within 0 k i upper.members upper.rises m in
        subst (λ u. u ≤ℚ int (pos 0)) (sym (difference (a i) lower.z upper.z)) (falling_difference (lower.meets i w.0 w.1) (holds_among a b upper.members upper.z upper.tight i m)))

    level : (m : List ℚ) → dot way (vec_mat m (map a e)) ≡ int (pos 0)
    level m = combination_stays a way m e (λ i g. difference (a i) lower.z upper.z ∙ same_difference (holds_among a b e lower.z lower.equal i g) (holds_among a b e upper.z upper.equal.1 i g))

    pub last_nonneg : IsConvex n H → (p : ℚ) (m : List ℚ) → upper.m ≡ p ∷ m → IsNonneg p
    last_nonneg convex p m is =
        nonneg_cancel steep (subst IsNonneg (*ℚ_comm p (dot way (a (suc k))))
        (last_multiplier (dot way (H lower.z)) (dot way (H upper.z)) (dot way q) (dot way (vec_mat lower.l (map a lower.members))) (dot way (vec_mat upper.l (map a upper.members)))
        (p *ℚ dot way (a (suc k))) (dot way (vec_mat lower.m (map a e))) (dot way (vec_mat m (map a e)))
        (convex.monotone lower.z upper.z (lower.size ∙ sym upper.size) lower.size)
        (lower.stationary way) (upper_at k e upper p m is way) rising falling (level lower.m) (level m)))

-- ---- definite forms are convex
module _ (n : ℕ) (H : List ℚ → List ℚ) (form : IsForm n H) where
  form_nonneg : (d : List ℚ) → length d ≡ n → IsNonneg (dot d (H d))
  form_nonneg d e = ⊎_elim (λ h. subst IsNonneg (sym (at_zero n H form d d h)) (≤ℚ_refl (int (pos 0)))) (λ h. ≤ℚ_of_< (form.positive d e h)) (zero_or_not d)

  -- H (x - z) against y
  form_difference : (y x z : List ℚ) → dot y (H (vec_sub x z)) ≡ dot y (H x) -ℚ dot y (H z)
  form_difference y x z =
      ap (dot y) (form.sums x (vec_scale (int (negsuc 0)) z) ∙ ap (vec_add (H x)) (form.multiples (int (negsuc 0)) z)) ∙ dot-sub_right (H x) (H z) y

  form_convex : IsConvex n H
  form_convex = record { monotone = λ x z same size. subst IsNonneg (form_difference (vec_sub x z) x z) (form_nonneg (vec_sub x z) (length-sub x z same ∙ size)) }

-- ---- the descent
module _ (n : ℕ) (H : List ℚ → List ℚ) (form : IsForm n H) (q : List ℚ) (a : ℕ → List ℚ) (b : ℕ → ℚ) where
  -- the cheapest point exists where any point meets the rows
  pub descend : ((i : ℕ) → length (a i) ≤ n) → length q ≤ n → (k : ℕ) (e : List ℕ) → IsIndependent (map a e) → (y : List ℚ) → length y ≡ n → MeetsFirst a b k y → Holds a b e y → Cheapest n H q a b k e
  descend sizes q_size zero e i y y_size meets holds =
      let s = solve n H form (map a e) (lengths_of n a sizes e) i q (map b e) q_size (length-map e b ∙ sym (length-map e a)) in
      record {
        z = s.z;
        size = s.size;
        members = [];
        rises = tt;
        independent = i;
        meets = λ j from to. absurd (omega arith);
        tight = tt;
        equal = holds_from_rows a b e s.z s.tight;
        l = [];
        m = s.l;
        one_each = refl;
        one_equal = s.one_each ∙ length-map e a;
        nonnegative = tt;
        stationary = λ y. ap (λ u. dot y (H s.z) +ℚ dot y q +ℚ (u +ℚ dot y (vec_mat s.l (map a e)))) (dot_nil y) ∙ ap (λ u. dot y (H s.z) +ℚ dot y q +ℚ u) (nothing_more (dot y (vec_mat s.l (map a e)))) ∙ s.stationary y;
      }
  descend sizes q_size (suc k) e i y y_size meets holds =
      by (descend sizes q_size k e i y y_size (λ j from to. meets j from (omega arith)) holds) (descend sizes q_size k (suc k ∷ e))
    where
      by : Cheapest n H q a b k e → (IsIndependent (map a (suc k ∷ e)) → (x : List ℚ) → length x ≡ n → MeetsFirst a b k x → Holds a b (suc k ∷ e) x → Cheapest n H q a b k (suc k ∷ e)) → Cheapest n H q a b (suc k) e
      by lower more = ⊎_elim (kept n H q a b k e lower) (λ outside.
          let inside : dot (a (suc k)) y ≤ℚ b (suc k) = meets (suc k) (omega arith) (omega arith) in
          let x = border a b (suc k) y lower.z inside outside in
          let on_e : Holds a b e x = border_holds a b (suc k) y lower.z inside outside e holds lower.equal in
          let on_last : dot (a (suc k)) x ≡ b (suc k) = border_at a b (suc k) y lower.z inside outside in
          let upper = more (crossed_independent a b (suc k) e lower.z x lower.equal on_e on_last outside i) x (length-border a b (suc k) y lower.z inside outside (y_size ∙ sym lower.size) ∙ y_size)
          (λ j from to. border_meets a b (suc k) y lower.z inside outside j (meets j from (omega arith)) (lower.meets j from to)) (on_last, on_e) in
          joined n H q a b k e upper (last_nonneg n H q a b k e lower outside upper (form_convex n H form))) (le_or_lt (dot (a (suc k)) lower.z) (b (suc k)))
