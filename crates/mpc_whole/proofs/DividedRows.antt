-- A row that leaves, over a divisor of its numbers and of the denominator.
use Rattle.std.proofs.Common.{◌≡◌, ℕ, zero, suc, ◌*◌, ◌<◌, List, map, length, ℤ, pos, negsuc, ◌+ℤ◌, ◌*ℤ◌, neg_ℤ, unsigned_abs, [], ◌∷◌, refl, sym, ◌∙◌, ap, subst, arith, mul-pos}
use Rattle.std.proofs.lemmas.Int.{unsigned_abs-mul}
use Rattle.std.proofs.lemmas.List.{length-map, get_or-map}
use Rattle.mpc_exact.proofs.Rational.{same_frac}
use Rattle.mpc_exact.proofs.IntRing.{int_reads, by_ring_ℤ}
use Rattle.mpc_rows.specs.LinearSystem.{LinearSystem}
use Rattle.mpc_rows.specs.Run.{Position}
use Rattle.mpc_runs.specs.declared.variables.Seat.{Seat}
use Rattle.mpc_runs.specs.declared.variables.Seat.TheVariants.{Column}
use Rattle.mpc_runs.specs.Table.{seat_at}
use Rattle.mpc_runs.specs.WholeNumbers.{turned}
use Rattle.mpc_whole.specs.Whole.{IsRowOf, IsSideRow, IsChanged}
use Rattle.mpc_scaled.specs.Scaled.{whole_at, whole_cell, scale_at}
use Rattle.mpc_whole.specs.Judged.{IsTimes, IsDividedRow, IsReducedPivot}

-- ---- the row itself
abbrev pub times_row : ℕ → List ℤ → List ℤ
times_row g x = map (λ z. z *ℤ pos g) x

pub times_is : (g : ℕ) (x : List ℤ) → IsTimes g x (times_row g x)
times_is g x = record {
  size = length-map x (λ z. z *ℤ pos g);
  each = λ c h. get_or-map (λ z. z *ℤ pos g) x c (pos 0) (pos 0) h;
}

pub side_of_divided : (s : LinearSystem) (a v : List ℤ) (i den g rest : ℕ) (x : List ℤ) → IsDividedRow s a v i den g rest x → IsSideRow s a v i (times_row g x)
side_of_divided s a v i den g rest x d = record {
  size = length-map x (λ z. z *ℤ pos g) ∙ d.size;
  cells = λ c h. (times_is g x).each c (subst (λ w. c < w) (sym d.size) h) ∙ d.cells c h;
}

-- ---- signs
turned_negative : (m : ℕ) (z : ℤ) → 0 < m → turned (neg_ℤ (pos m)) z ≡ neg_ℤ z
turned_negative zero z h = absurd (omega arith)
turned_negative (suc m) z h = refl

opposite : (p g : ℤ) → neg_ℤ p *ℤ g ≡ neg_ℤ (p *ℤ g)
opposite p g = by_ring_ℤ (p ∷ g ∷ []) (search int_reads depth 30) (search int_reads depth 30) tt

turned_times : (q : ℤ) (g : ℕ) (z : ℤ) → 0 < g → turned (q *ℤ pos g) z ≡ turned q z
turned_times (pos n) g z h = refl
turned_times (negsuc n) g z h = ap (λ u. turned u z) (opposite (pos (suc n)) (pos g)) ∙ turned_negative (suc n * g) z (mul-pos (omega arith) h)

-- ---- products
regrouped : (f g s m d : ℕ) → s * f ≡ m * d → (f * g) * s ≡ d * (m * g)
regrouped f g s m d e = (let a : (f * g) * s ≡ (s * f) * g = omega arith in a) ∙ ap (λ u. u * g) e ∙ (let b : (m * d) * g ≡ d * (m * g) = omega arith in b)

grouped : (n f g : ℤ) → n *ℤ (f *ℤ g) ≡ (n *ℤ f) *ℤ g
grouped n f g = by_ring_ℤ (n ∷ f ∷ g ∷ []) (search int_reads depth 30) (search int_reads depth 30) tt

moved_in : (k r g : ℤ) → (k *ℤ r) *ℤ g ≡ k *ℤ (g *ℤ r)
moved_in k r g = by_ring_ℤ (k ∷ r ∷ g ∷ []) (search int_reads depth 30) (search int_reads depth 30) tt

spread : (o m k x g : ℤ) → ((o *ℤ m) +ℤ neg_ℤ (k *ℤ x)) *ℤ g ≡ (o *ℤ (m *ℤ g)) +ℤ neg_ℤ (k *ℤ (x *ℤ g))
spread o m k x g = by_ring_ℤ (o ∷ m ∷ k ∷ x ∷ g ∷ []) (search int_reads depth 30) (search int_reads depth 30) tt

-- ---- the pivot
module _ (width factor den rest size : ℕ) (old new x row : List ℤ) (e g : ℕ) (z : ℤ) (long : length x ≡ width) (some : 0 < factor) (more : 0 < g) (split : g * rest ≡ den) (t : IsTimes g x row) (inside : e < width)
    (over : z *ℤ pos factor ≡ pos (unsigned_abs (whole_at x e)) *ℤ pos den) (is : size ≡ unsigned_abs z) (h : (j c : ℕ) → j < width → c < width → IsChanged width factor rest old x j e c (whole_cell width new j c)) where
  at : (c : ℕ) → c < width → whole_at row c ≡ whole_at x c *ℤ pos g
  at c l = t.each c (subst (λ w. c < w) (sym long) l)

  own_size : unsigned_abs (whole_at row e) ≡ unsigned_abs (whole_at x e) * g
  own_size = ap unsigned_abs (at e inside) ∙ unsigned_abs-mul (whole_at x e) (pos g)

  sign : (k : ℤ) → turned (whole_at row e) k ≡ turned (whole_at x e) k
  sign k = ap (λ u. turned u k) (at e inside) ∙ turned_times (whole_at x e) g k more

  pub pivot_divided : IsReducedPivot width den old new row e size
  pivot_divided = record {
    factor = factor * g;
    some = mul-pos some more;
    over =
        let s : unsigned_abs z * factor ≡ unsigned_abs (whole_at x e) * den = sym (unsigned_abs-mul z (pos factor)) ∙ ap unsigned_abs over ∙ unsigned_abs-mul (pos (unsigned_abs (whole_at x e))) (pos den) in
        ap (λ m. (factor * g) * m) is ∙ regrouped factor g (unsigned_abs z) (unsigned_abs (whole_at x e)) den s ∙ ap (λ m. den * m) (sym own_size);
    column = λ j l.
        grouped (whole_cell width new j e) (pos factor) (pos g) ∙ ap (λ u. u *ℤ pos g) ((h j e l inside).entering refl)
        ∙ moved_in (turned (whole_at x e) (whole_cell width old j e)) (pos rest) (pos g)
        ∙ ap (λ m. turned (whole_at x e) (whole_cell width old j e) *ℤ pos m) split ∙ ap (λ u. u *ℤ pos den) (sym (sign (whole_cell width old j e)));
    others = λ j c l k m.
        grouped (whole_cell width new j c) (pos factor) (pos g) ∙ ap (λ u. u *ℤ pos g) ((h j c l k).other m)
        ∙ spread (whole_cell width old j c) (pos (unsigned_abs (whole_at x e))) (turned (whole_at x e) (whole_cell width old j e)) (whole_at x c) (pos g)
        ∙ (λ i. (whole_cell width old j c *ℤ pos (sym own_size i)) +ℤ neg_ℤ (sym (sign (whole_cell width old j e)) i *ℤ sym (at c k) i));
  }

-- ---- its coefficients
pub crossed : (x g y r l : ℤ) → ((x *ℤ g) *ℤ y) *ℤ (r *ℤ l) ≡ (x *ℤ y) *ℤ ((g *ℤ r) *ℤ l)
crossed x g y r l = by_ring_ℤ (x ∷ g ∷ y ∷ r ∷ l ∷ []) (search int_reads depth 30) (search int_reads depth 30) tt

pub rest_some : (g rest den : ℕ) → g * rest ≡ den → 0 < den → 0 < rest
rest_some g zero den e h = absurd (omega arith)
rest_some g (suc rest) den e h = omega arith

pub row_of_divided : (n : ℕ) (seats : List Seat) (k : List ℕ) (p : Position) (den l g rest : ℕ) (x row : List ℤ) → 0 < den → g * rest ≡ den → IsTimes g x row → ((y c : ℕ) → y < n → seat_at seats y ≡ Column c → c < length x) → IsRowOf n seats k p den l row → IsRowOf n seats k p rest l x
row_of_divided n seats k p den l g rest x row some split t columns r = record {
  own = r.own;
  some = r.some;
  coefficients = λ y c b q. r.coefficients y c b q
      ∙ same_frac (whole_at row c *ℤ pos (scale_at k y)) (den * scale_at k l) (whole_at x c *ℤ pos (scale_at k y)) (rest * scale_at k l) (mul-pos some r.own) (mul-pos (rest_some g rest den split some) r.own)
      (ap (λ u. (u *ℤ pos (scale_at k y)) *ℤ pos (rest * scale_at k l)) (t.each c (columns y c b q)) ∙ crossed (whole_at x c) (pos g) (pos (scale_at k y)) (pos rest) (pos (scale_at k l))
      ∙ ap (λ m. (whole_at x c *ℤ pos (scale_at k y)) *ℤ pos (m * scale_at k l)) split);
}
