-- The changes of a pivot on fractions of whole numbers, where each variable has a scale: Y of y, E of the entering variable, L of the leaving
-- one.
use Rattle.std.proofs.Common.{◌≡◌, ◌≢◌, ℕ, zero, suc, ◌*◌, ◌<◌, ℤ, pos, negsuc, ◌+ℤ◌, ◌*ℤ◌, neg_ℤ, unsigned_abs, [], ◌∷◌, sym, ◌∙◌, ap, subst, mul-pos, mul_comm, arith, lit<}
use Rattle.std.proofs.lemmas.Int.{ints}
use Rattle.mpc_exact.specs.Rational.{ℚ, frac, int, ◌+ℚ◌, ◌-ℚ◌, ◌*ℚ◌, neg_ℚ, inv_ℚ, ◌<ℚ◌}
use Rattle.mpc_exact.proofs.Rational.{same_frac, frac-mul, frac-neg, *ℚ_inv}
use Rattle.mpc_exact.proofs.RationalRing.{reads, by_ring, by_equation, by_equations}
use Rattle.mpc_exact.proofs.IntRing.{int_reads, by_ring_ℤ}
use Rattle.mpc_exact.proofs.OrderTheorems.{inv-mul, inv_inv, inv_not_zero, product_not_zero}
use Rattle.mpc_exact.proofs.School.{frac_inv, int_lt}
use Rattle.mpc_exact.proofs.RationalOrder.{one_last, <ℚ_irrefl}
use Rattle.mpc_runs.specs.WholeNumbers.{turned, whole_total}
use Rattle.mpc_runs.proofs.WholeSums.{frac_sum, times_int, ratio_is, abs_some}

-- ---- scales
pub times_scaled : (a f : ℤ) (k d : ℕ) → 0 < k → 0 < d → frac a k *ℚ frac f d ≡ frac (a *ℤ f) (d * k)
times_scaled a f k d h g = frac-mul a k f d h g ∙ ap (frac (a *ℤ f)) (mul_comm k d)

cancelled : (x k b d : ℤ) → ((x *ℤ k) *ℤ b) *ℤ d ≡ (x *ℤ b) *ℤ (d *ℤ k)
cancelled x k b d = by_ring_ℤ (x ∷ k ∷ b ∷ d ∷ []) (search int_reads depth 30) (search int_reads depth 30) tt

-- a scale against the same one
pub scale_cancels : (x b : ℤ) (k d : ℕ) → 0 < k → 0 < d → frac (x *ℤ pos k) d *ℚ frac b k ≡ frac (x *ℤ b) d
scale_cancels x b k d h g = frac-mul (x *ℤ pos k) d b k g h ∙ same_frac ((x *ℤ pos k) *ℤ b) (d * k) (x *ℤ b) d (mul-pos g h) g (cancelled x (pos k) b (pos d))

pub scale_not_zero : (k : ℕ) → 0 < k → int (pos k) ≢ int (pos 0)
scale_not_zero k h e = <ℚ_irrefl (subst (λ z. int (pos 0) <ℚ z) e ((int_lt (pos 0) (pos k)).1 (omega (arith, ints))))

int_inverse : (l : ℕ) → 0 < l → inv_ℚ (int (pos l)) ≡ frac (pos 1) l
int_inverse l h = frac_inv (pos l) 1 (λ e. omega (arith, ints)) (lit< tt)

pub over_scale : (x : ℤ) (y d l : ℕ) → 0 < d → 0 < l → frac (x *ℤ pos y) (d * l) ≡ (frac x d *ℚ int (pos y)) *ℚ inv_ℚ (int (pos l))
over_scale x y d l h k =
    sym ((λ i. times_int x (pos y) d h i *ℚ int_inverse l k i) ∙ frac-mul (x *ℤ pos y) d (pos 1) l h k ∙ ap (λ z. frac z (d * l)) (one_last (x *ℤ pos y)))

one_below : (k : ℤ) → negsuc 0 *ℤ k ≡ neg_ℤ k *ℤ pos 1
one_below k = by_ring_ℤ (k ∷ []) (search int_reads depth 30) (search int_reads depth 30) tt

-- the second part of a strict row's bound
pub strict_over : (z : ℤ) (k : ℕ) → 0 < k → z ≡ neg_ℤ (pos k) → int (negsuc 0) ≡ frac z k
strict_over z k h e = same_frac (negsuc 0) 1 z k (lit< tt) h (one_below (pos k) ∙ ap (λ u. u *ℤ pos 1) (sym e))

negative_left : (x k : ℤ) → neg_ℤ x *ℤ k ≡ neg_ℤ (x *ℤ k)
negative_left x k = by_ring_ℤ (x ∷ k ∷ []) (search int_reads depth 30) (search int_reads depth 30) tt

pub negative_scaled : (m x k : ℤ) → m ≡ neg_ℤ x → m *ℤ k ≡ neg_ℤ (x *ℤ k)
negative_scaled m x k e = ap (λ u. u *ℤ k) e ∙ negative_left x k

one_more : (t g f z : ℤ) → (t *ℤ z) +ℤ (g *ℤ (f *ℤ z)) ≡ (t +ℤ (g *ℤ f)) *ℤ z
one_more t g f z = by_ring_ℤ (t ∷ g ∷ f ∷ z ∷ []) (search int_reads depth 30) (search int_reads depth 30) tt

nought_times : (z : ℤ) → pos 0 ≡ pos 0 *ℤ z
nought_times z = by_ring_ℤ (z ∷ []) (search int_reads depth 30) (search int_reads depth 30) tt

-- a factor of all terms
pub total_scaled : (n : ℕ) (g f : ℕ → ℤ) (z : ℤ) → whole_total n (λ j. g j *ℤ (f j *ℤ z)) ≡ whole_total n (λ j. g j *ℤ f j) *ℤ z
unfolding whole_total
total_scaled zero g f z = nought_times z
total_scaled (suc n) g f z = ap (λ u. u +ℤ (g n *ℤ (f n *ℤ z))) (total_scaled n g f z) ∙ one_more (whole_total n (λ j. g j *ℤ f j)) (g n) (f n) z

-- ---- two updates on fractions
pub at_leaving : (c k u r i : ℚ) → c ≡ int (pos 0) → u ≡ int (pos 1) → r ≡ int (pos 0) → c +ℚ k *ℚ ((u -ℚ r) *ℚ i) ≡ k *ℚ i
at_leaving c k u r i e f g = (λ j. e j +ℚ k *ℚ ((f j -ℚ g j) *ℚ i)) ∙ by_ring (k ∷ i ∷ []) (search reads depth 30) (search reads depth 30) tt

pub at_another : (c k u r i : ℚ) → u ≡ int (pos 0) → c +ℚ k *ℚ ((u -ℚ r) *ℚ i) ≡ c +ℚ k *ℚ (neg_ℚ r *ℚ i)
at_another c k u r i e = (λ j. c +ℚ k *ℚ ((e j -ℚ r) *ℚ i)) ∙ by_ring (c ∷ k ∷ r ∷ i ∷ []) (search reads depth 30) (search reads depth 30) tt

expanded : (z m d : ℤ) → z *ℤ (d *ℤ m) ≡ (z *ℤ m) *ℤ d
expanded z m d = by_ring_ℤ (z ∷ m ∷ d ∷ []) (search int_reads depth 30) (search int_reads depth 30) tt

narrowed : (z m d : ℤ) → (z *ℤ d) *ℤ m ≡ z *ℤ (d *ℤ m)
narrowed z m d = by_ring_ℤ (z ∷ m ∷ d ∷ []) (search int_reads depth 30) (search int_reads depth 30) tt

signs_pos : (k x : ℤ) → k *ℤ neg_ℤ x ≡ neg_ℤ (k *ℤ x)
signs_pos k x = by_ring_ℤ (k ∷ x ∷ []) (search int_reads depth 30) (search int_reads depth 30) tt

signs_neg : (k x : ℤ) → k *ℤ neg_ℤ (neg_ℤ x) ≡ neg_ℤ (neg_ℤ k *ℤ x)
signs_neg k x = by_ring_ℤ (k ∷ x ∷ []) (search int_reads depth 30) (search int_reads depth 30) tt

signs : (q k x : ℤ) → k *ℤ turned q (neg_ℤ x) ≡ neg_ℤ (turned q k *ℤ x)
signs (pos n) k x = signs_pos k x
signs (negsuc n) k x = signs_neg k x

-- ---- a factor taken out of what is over the product of a denominator and the size of a pivot
module _ (q : ℤ) (d factor size : ℕ) (some : 0 < d) (q_some : q ≢ pos 0) (more : 0 < factor) (over : factor * size ≡ d * unsigned_abs q) where
  both_some : 0 < d * unsigned_abs q
  both_some = mul-pos some (abs_some q q_some)

  pub size_some : 0 < size
  size_some = by size over
    where
      by : (m : ℕ) → factor * m ≡ d * unsigned_abs q → 0 < m
      by zero e = let h : 0 < d * unsigned_abs q = both_some in absurd (omega arith)
      by (suc m) e = omega arith

  taken_out : (z : ℤ) → frac (z *ℤ pos factor) (d * unsigned_abs q) ≡ frac z size
  taken_out z = ap (frac (z *ℤ pos factor)) (sym over) ∙ same_frac (z *ℤ pos factor) (factor * size) z size (mul-pos more size_some) size_some (narrowed z (pos size) (pos factor))

  pub turned_over : (k z : ℤ) → z *ℤ pos factor ≡ turned q k *ℤ pos d → frac (turned q k) (unsigned_abs q) ≡ frac z size
  turned_over k z e =
      same_frac (turned q k) (unsigned_abs q) (turned q k *ℤ pos d) (d * unsigned_abs q) (abs_some q q_some) both_some (sym (narrowed (turned q k) (pos (unsigned_abs q)) (pos d)))
      ∙ ap (λ n. frac n (d * unsigned_abs q)) (sym e) ∙ taken_out z

-- the new number of a column that stays
changed_over : (v k x q z : ℤ) (d factor size : ℕ) → 0 < d → q ≢ pos 0 → 0 < factor → factor * size ≡ d * unsigned_abs q → z *ℤ pos factor ≡ (v *ℤ pos (unsigned_abs q)) +ℤ neg_ℤ (turned q k *ℤ x) →
    frac v d +ℚ frac k d *ℚ (neg_ℚ (frac x d) *ℚ inv_ℚ (frac q d)) ≡ frac z size
changed_over v k x q z d factor size some q_some more over e =
    let m = unsigned_abs q in
    let m_some : 0 < m = abs_some q q_some in
    let both : 0 < d * m = mul-pos some m_some in
    (λ i. same_frac v d (v *ℤ pos m) (d * m) some both (expanded v (pos m) (pos d)) i
    +ℚ (ap (λ u. frac k d *ℚ u) (ap (λ u. u *ℚ inv_ℚ (frac q d)) (frac-neg x d some) ∙ ratio_is (neg_ℤ x) q d some q_some) ∙ frac-mul k d (turned q (neg_ℤ x)) m some m_some) i)
    ∙ frac_sum (v *ℤ pos m) (k *ℤ turned q (neg_ℤ x)) (d * m) both
    ∙ ap (λ n. frac n (d * m)) (ap (λ n. (v *ℤ pos m) +ℤ n) (signs q k x) ∙ sym e)
    ∙ taken_out q d factor size some q_some more over z

-- ---- a pivot with scales
inverse_apart : (Q E L : ℚ) → Q ≢ int (pos 0) → E ≢ int (pos 0) → L ≢ int (pos 0) → inv_ℚ ((Q *ℚ E) *ℚ inv_ℚ L) ≡ (inv_ℚ Q *ℚ inv_ℚ E) *ℚ L
inverse_apart Q E L q e l = inv-mul (product_not_zero q e) (inv_not_zero l) ∙ (λ i. inv-mul q e i *ℚ inv_inv l i)

change_ring : (V K X Y E L i e l : ℚ) → E *ℚ e ≡ int (pos 1) → L *ℚ l ≡ int (pos 1) →
    V *ℚ Y +ℚ (K *ℚ E) *ℚ (neg_ℚ ((X *ℚ Y) *ℚ l) *ℚ ((i *ℚ e) *ℚ L)) ≡ (V +ℚ K *ℚ (neg_ℚ X *ℚ i)) *ℚ Y
change_ring V K X Y E L i e l p q =
    by_equations (neg_ℚ (((K *ℚ X) *ℚ i) *ℚ Y) *ℚ (L *ℚ l)) (neg_ℚ (((K *ℚ X) *ℚ i) *ℚ Y)) p q
    (by_ring (V ∷ K ∷ X ∷ Y ∷ E ∷ L ∷ i ∷ e ∷ l ∷ []) (search reads depth 40 fits 9000) (search reads depth 40 fits 9000) tt)

pub scaled_change : (V K X Q Y E L : ℚ) → Q ≢ int (pos 0) → E ≢ int (pos 0) → L ≢ int (pos 0) →
    V *ℚ Y +ℚ (K *ℚ E) *ℚ (neg_ℚ ((X *ℚ Y) *ℚ inv_ℚ L) *ℚ inv_ℚ ((Q *ℚ E) *ℚ inv_ℚ L)) ≡ (V +ℚ K *ℚ (neg_ℚ X *ℚ inv_ℚ Q)) *ℚ Y
scaled_change V K X Q Y E L q e l =
    ap (λ u. V *ℚ Y +ℚ (K *ℚ E) *ℚ (neg_ℚ ((X *ℚ Y) *ℚ inv_ℚ L) *ℚ u)) (inverse_apart Q E L q e l)
    ∙ change_ring V K X Y E L (inv_ℚ Q) (inv_ℚ E) (inv_ℚ L) (*ℚ_inv E e) (*ℚ_inv L l)

leave_ring : (K E L i e : ℚ) → E *ℚ e ≡ int (pos 1) → (K *ℚ E) *ℚ ((i *ℚ e) *ℚ L) ≡ (K *ℚ i) *ℚ L
leave_ring K E L i e p = by_equation ((K *ℚ i) *ℚ L) p (by_ring (K ∷ E ∷ L ∷ i ∷ e ∷ []) (search reads depth 30) (search reads depth 30) tt)

pub scaled_leave : (K Q E L : ℚ) → Q ≢ int (pos 0) → E ≢ int (pos 0) → L ≢ int (pos 0) → (K *ℚ E) *ℚ inv_ℚ ((Q *ℚ E) *ℚ inv_ℚ L) ≡ (K *ℚ inv_ℚ Q) *ℚ L
scaled_leave K Q E L q e l = ap (λ u. (K *ℚ E) *ℚ u) (inverse_apart Q E L q e l) ∙ leave_ring K E L (inv_ℚ Q) (inv_ℚ E) (*ℚ_inv E e)

-- the new number of a column that stays: V[j][c] k_y / den, with the same whole quotient z as without scales
pub scaled_changed_over : (v k x q z : ℤ) (d factor size y : ℕ) (Q E L : ℚ) → 0 < d → q ≢ pos 0 → 0 < factor → factor * size ≡ d * unsigned_abs q → Q ≡ frac q d → Q ≢ int (pos 0) → E ≢ int (pos 0) → L ≢ int (pos 0)
    → z *ℤ pos factor ≡ (v *ℤ pos (unsigned_abs q)) +ℤ neg_ℤ (turned q k *ℤ x)
    → frac v d *ℚ int (pos y) +ℚ (frac k d *ℚ E) *ℚ (neg_ℚ ((frac x d *ℚ int (pos y)) *ℚ inv_ℚ L) *ℚ inv_ℚ ((Q *ℚ E) *ℚ inv_ℚ L)) ≡ frac (z *ℤ pos y) size
scaled_changed_over v k x q z d factor size y Q E L some q_some more over is qn en ln e =
    scaled_change (frac v d) (frac k d) (frac x d) Q (int (pos y)) E L qn en ln
    ∙ ap (λ u. u *ℚ int (pos y)) (ap (λ u. frac v d +ℚ frac k d *ℚ (neg_ℚ (frac x d) *ℚ inv_ℚ u)) is ∙ changed_over v k x q z d factor size some q_some more over e)
    ∙ times_int z (pos y) size (size_some q d factor size some q_some more over)
