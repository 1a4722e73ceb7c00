-- Where the numbers of each row of a position lie over one denominator of that row and are small enough, no operation at that position is wide.
use Rattle.std.proofs.Common.{◌≡◌, ◌≢◌, ℕ, zero, suc, ◌+◌, ◌*◌, ◌^◌, ◌<◌, ◌≤◌, ◌⊎◌, inl, inr, true, false, ℤ, pos, negsuc, ◌+ℤ◌, ◌*ℤ◌, neg_ℤ, unsigned_abs, [], ◌∷◌, refl, sym, ◌∙◌, ap, subst, subst₂, arith, mul-pos, mul-le-mul_right, mul-le-mul_left, le_trans}
use Rattle.std.proofs.lemmas.Bool.{both_ways}
use Rattle.mpc_exact.specs.Rational.{ℚ, frac, int, ◌+ℚ◌, ◌*ℚ◌, neg_ℚ, inv_ℚ, upside_down}
use Rattle.mpc_exact.proofs.Rational.{same_frac, frac-mul, frac-neg}
use Rattle.mpc_exact.proofs.School.{frac_inv}
use Rattle.mpc_exact.proofs.IntRing.{int_reads, by_ring_ℤ}
use Rattle.mpc_frac.specs.Fits.{FitsFrac, FitsSum}
use Rattle.mpc_space.specs.Total.{total}
use Rattle.mpc_space.proofs.Total.{total-zero, total-suc}
use Rattle.mpc_rows.specs.LinearSystem.{LinearSystem}
use Rattle.mpc_rows.specs.Run.{Position, goes_on, count, rest, turn, entering_row}
use Rattle.mpc_rows.specs.RunWidth.{ValueFits, ValuesFit, EnteringFits, EntryFits, RowFits, RowsFit, PositionFits}
use Rattle.mpc_whole.specs.Norms.{Over}
use Rattle.mpc_runs.specs.WholeNumbers.{turned}
use Rattle.mpc_runs.proofs.Pivot.{entering-at_leaving, entering-other}
use Rattle.mpc_runs.proofs.Turn.{Goes, turn-at}
use Rattle.mpc_runs.proofs.WholeFits.{fits_over, fits_sum_over}
use Rattle.mpc_runs.proofs.WholeSums.{abs-negated, abs_turned, abs_some, ratio_is, product_at_most, abs-sum, frac_sum, zero_over}

inverse_of : (q : ℤ) (d : ℕ) → upside_down q d ≡ frac (turned q (pos d)) (unsigned_abs q)
inverse_of (pos n) d = refl
inverse_of (negsuc n) d = refl

pub inverse_is : (q : ℤ) (d : ℕ) → 0 < d → q ≢ pos 0 → inv_ℚ (frac q d) ≡ frac (turned q (pos d)) (unsigned_abs q)
inverse_is q d h some = frac_inv q d some h ∙ inverse_of q d

pub over_not_zero : {d m : ℕ} {x : ℚ} → 0 < d → (o : Over d m x) → x ≢ int (pos 0) → o.at ≢ pos 0
over_not_zero {d} some o h e = h (o.is ∙ ap (λ z. frac z d) e ∙ zero_over d some)

over_fits : {d m : ℕ} {x : ℚ} → 0 < d → d < 2 ^ 127 → Over d m x → m < 2 ^ 127 → FitsFrac x
over_fits {d} {m} some top o k = subst (λ z. FitsFrac z) (sym o.is) (fits_over o.at d some (let s = o.size in omega arith) top)

over_sum_fits : {d m k : ℕ} {x y : ℚ} → 0 < d → d < 2 ^ 127 → Over d m x → Over d k y → m + k < 2 ^ 127 → FitsSum x y
over_sum_fits {d} {m} {k} some top o q h = subst₂ (λ u v. FitsSum u v) (sym o.is) (sym q.is) (fits_sum_over o.at q.at d some (let s = o.size in let t = q.size in omega arith) top)

product_room : (n y r : ℕ) → n * r ≤ 2 ^ 126 → y < n → y * r + r < 2 ^ 127
product_room n y r h k = let e : suc y * r ≤ n * r = mul-le-mul_right r k in omega arith

one_room : (n y r : ℕ) → n * r ≤ 2 ^ 126 → y < n → r < 2 ^ 127
one_room n y r h k = let e : suc y * r ≤ n * r = mul-le-mul_right r k in omega arith

top_room : (d top : ℕ) → 0 < d → d * top ≤ 2 ^ 125 → top < 2 ^ 127
top_room d top some h = let e : 1 * top ≤ d * top = mul-le-mul_right top some in omega arith

-- what divides a number with a quotient is no more than it
part_within : (g k : ℕ) → 0 < g * k → k ≤ g * k
part_within zero k h = absurd (omega arith)
part_within (suc g) k h = let e : 1 * k ≤ suc g * k = mul-le-mul_right k (omega arith) in omega arith

right_some : (g k : ℕ) → 0 < g * k → 0 < k
right_some g zero h = absurd (omega arith)
right_some g (suc k) h = omega arith

expanded : (z m d : ℤ) → z *ℤ (d *ℤ m) ≡ (z *ℤ m) *ℤ d
expanded z m d = by_ring_ℤ (z ∷ m ∷ d ∷ []) (search int_reads depth 30) (search int_reads depth 30) tt

-- the scales are apart: what two rows' denominators share goes out of their quotient
shared_out : (k g u w z : ℤ) → (k *ℤ (g *ℤ u)) *ℤ (w *ℤ z) ≡ (k *ℤ u) *ℤ ((g *ℤ w) *ℤ z)
shared_out k g u w z = by_ring_ℤ (k ∷ g ∷ u ∷ w ∷ z ∷ []) (search int_reads depth 30) (search int_reads depth 30) tt

shared_out_negative : (k g u w z : ℤ) → (k *ℤ neg_ℤ (g *ℤ u)) *ℤ (w *ℤ z) ≡ (k *ℤ neg_ℤ u) *ℤ ((g *ℤ w) *ℤ z)
shared_out_negative k g u w z = by_ring_ℤ (k ∷ g ∷ u ∷ w ∷ z ∷ []) (search int_reads depth 30) (search int_reads depth 30) tt

turned_out : (q k : ℤ) (g u w z : ℕ) → (k *ℤ turned q (pos (g * u))) *ℤ pos (w * z) ≡ (k *ℤ turned q (pos u)) *ℤ pos ((g * w) * z)
turned_out (pos n) k g u w z = shared_out k (pos g) (pos u) (pos w) (pos z)
turned_out (negsuc n) k g u w z = shared_out_negative k (pos g) (pos u) (pos w) (pos z)

-- the numbers of the row of x over a denominator: of the products of a top with the one in the column of e, and of a size with all others, two have
-- a sum that fits
pub record HasRowRoom (n : ℕ) (p : Position) (e top size d x : ℕ) : Type 0 where
  pub factor : ℕ
  pub factors : Over d factor (p.coefficient x e)
  pub factor_room : factor * top ≤ 2 ^ 125
  pub most : ℕ
  pub entries : (y : ℕ) → y < n → (y ≡ e → ⊥) → Over d most (p.coefficient x y)
  pub room : most * size ≤ 2 ^ 125
  pub den_room : d * size ≤ 2 ^ 125

-- what is formed of the row of x fits, and so does the new row of e
pub record HasFittingRow (n : ℕ) (p : Position) (l e x : ℕ) : Type 0 where
  pub entering : EnteringFits n p l e
  pub row : RowFits n p l e x

-- where l leaves and e enters: the number of row l in the column of e, over a denominator of its own, is at most a size, and no other one is above a
-- top, nor is the part of that denominator which it shares with no other row's
pub record HasPivotSizes (s : LinearSystem) (p : Position) (d : ℕ → ℕ) (l e : ℕ) : Type 0 where
  pub size : ℕ
  pub den : ℕ
  pub den_some : 0 < den
  pub pivot : Over den size (p.coefficient l e)
  pub top : ℕ
  pub row : (y : ℕ) → y < count s → (y ≡ e → ⊥) → Over den top (p.coefficient l y)
  pub shared : ℕ
  pub part : ℕ → ℕ
  pub parts : (x : ℕ) → d x ≡ shared * part x
  pub left : ℕ
  pub split : den ≡ shared * left
  pub own : left ≤ top

-- there are such sizes, and each row has room for products with them, or fits
pub record HasPivotRoom (s : LinearSystem) (p : Position) (d : ℕ → ℕ) (l e : ℕ) : Type 0 where
  pub sizes : HasPivotSizes s p d l e
  pub rows : (x : ℕ) → x < count s → p.is_basic x ≡ true → HasRowRoom (count s) p e sizes.top sizes.size (d x) x ⊎ HasFittingRow (count s) p l e x

module _ (s : LinearSystem) (p : Position) (d : ℕ → ℕ) (some : (x : ℕ) → x < count s → 0 < d x) where
  -- ---- the value of x
  module _ (m : ℕ) (room : count s * m ≤ 2 ^ 126) (x : ℕ) (x_in : x < count s) (d_top : d x < 2 ^ 127) where
    -- r says where the nonbasic variables stand
    module _ (r : ℕ → ℚ) (products : (y : ℕ) → y < count s → Over (d x) m (p.coefficient x y *ℚ r y)) where
      sum_over : (y : ℕ) → y ≤ count s → Over (d x) (y * m) (total y (λ z. p.coefficient x z *ℚ r z))
      sum_over zero h = record { at = pos 0; is = total-zero (λ z. p.coefficient x z *ℚ r z) ∙ sym (zero_over (d x) (some x x_in)); size = omega arith }
      sum_over (suc y) h =
          let o = sum_over y (omega arith) in
          let q = products y h in
          record {
            at = o.at +ℤ q.at;
            is = total-suc y (λ z. p.coefficient x z *ℚ r z) ∙ (λ i. o.is i +ℚ q.is i) ∙ frac_sum o.at q.at (d x) (some x x_in);
            size = let a = abs-sum o.at q.at in let k = o.size in let l = q.size in omega arith;
          }

      product_fits : (y : ℕ) → y < count s → FitsFrac (p.coefficient x y *ℚ r y)
      product_fits y h = over_fits (some x x_in) d_top (products y h) (one_room (count s) y m room h)

      sum_fits : (y : ℕ) → y < count s → FitsSum (total y (λ z. p.coefficient x z *ℚ r z)) (p.coefficient x y *ℚ r y)
      sum_fits y h = over_sum_fits (some x x_in) d_top (sum_over y (omega arith)) (products y h) (product_room (count s) y m room h)

    pub judged_value : ((y : ℕ) → y < count s → Over (d x) m (p.coefficient x y *ℚ (rest s y).first)) → ((y : ℕ) → y < count s → Over (d x) m (p.coefficient x y *ℚ (rest s y).second)) → ValueFits s (count s) p x
    judged_value firsts seconds = record {
      terms = λ y k free. record {
        first_product = product_fits (λ z. (rest s z).first) firsts y k;
        first_sum = sum_fits (λ z. (rest s z).first) firsts y k;
        second_product = product_fits (λ z. (rest s z).second) seconds y k;
        second_sum = sum_fits (λ z. (rest s z).second) seconds y k;
      };
    }

  -- ---- a pivot
  module _ (l e : ℕ) (g : Goes s p l e) (o : HasPivotSizes s p d l e) where
    q : ℤ
    q = o.pivot.at

    q_some : q ≢ pos 0
    unfolding q
    q_some = over_not_zero o.den_some o.pivot g.eligible.some

    size : ℕ
    size = unsigned_abs q

    size_some : 0 < size
    unfolding size
    size_some = abs_some q q_some

    size_small : size ≤ o.size
    unfolding size q
    size_small = o.pivot.size

    times_size : (x : ℚ) (m : Over o.den o.top x) → x *ℚ inv_ℚ (p.coefficient l e) ≡ frac (turned q m.at) size
    unfolding size q
    times_size x m = (λ i. m.is i *ℚ inv_ℚ (o.pivot.is i)) ∙ ratio_is m.at q o.den o.den_some q_some

    -- the new row of the entering variable
    own : (y : ℕ) → y < count s → (y ≡ e → ⊥) → Over size o.top (neg_ℚ (p.coefficient l y) *ℚ inv_ℚ (p.coefficient l e))
    own y h apart =
        let z = o.row y h apart in
        let m : Over o.den o.top (neg_ℚ (p.coefficient l y)) = record { at = neg_ℤ z.at; is = ap neg_ℚ z.is ∙ frac-neg z.at o.den o.den_some; size = subst (λ n. n ≤ o.top) (sym (abs-negated z.at)) z.size } in
        record { at = turned q m.at; is = times_size (neg_ℚ (p.coefficient l y)) m; size = subst (λ n. n ≤ o.top) (sym (abs_turned q m.at)) m.size }

    -- the row of l has a number in that column too
    module _ (r : HasRowRoom (count s) p e o.top o.size (d l) l) where
      size_top : size < 2 ^ 127
      size_top = let h : o.size < 2 ^ 127 = top_room (d l) o.size (some l g.leaves.below) r.den_room in (let k = size_small in omega arith)

      factor_some : 0 < r.factor
      factor_some = le_trans (abs_some r.factors.at (over_not_zero (some l g.leaves.below) r.factors g.eligible.some)) r.factors.size

      top_small : o.top < 2 ^ 127
      top_small = top_room r.factor o.top factor_some r.factor_room

    entering_by : HasRowRoom (count s) p e o.top o.size (d l) l ⊎ HasFittingRow (count s) p l e l → EnteringFits (count s) p l e
    entering_by (inl r) = record { quotients = λ y h free apart. over_fits size_some (size_top r) (own y h apart) (top_small r) }
    entering_by (inr f) = f.entering

    not_leaving : (y : ℕ) → p.is_basic y ≡ false → y ≡ l → ⊥
    not_leaving y free h = both_ways (p.is_basic l) (subst (λ z. p.is_basic z ≡ false) h free) g.leaves.violated.basic

    own_entry : (y : ℕ) → y < count s → p.is_basic y ≡ false → (y ≡ e → ⊥) → Over size o.top (entering_row p l e y)
    own_entry y h free apart = subst (Over size o.top) (sym (entering-other p l e y (not_leaving y free) apart)) (own y h apart)

    over_both : ℕ → ℕ
    over_both x = d x * size

    both_some : (x : ℕ) → x < count s → 0 < over_both x
    unfolding over_both
    both_some x h = mul-pos (some x h) size_some

    module _ (x : ℕ) (x_in : x < count s) (r : HasRowRoom (count s) p e o.top o.size (d x) x) where
      both_top : over_both x < 2 ^ 127
      unfolding over_both
      both_top = let m : d x * size ≤ 2 ^ 125 = le_trans (mul-le-mul_left (d x) size_small) r.den_room in omega arith

      change_room : r.factor * o.top < 2 ^ 127
      change_room = let h = r.factor_room in omega arith

      k_over : Over (d x) r.factor (p.coefficient x e)
      k_over = r.factors

      -- c_xe / c_le = (n_xe d) / (d_x |n_le|), where d is the denominator of row l, out of which goes what d and d_x share
      inverse_over : inv_ℚ (p.coefficient l e) ≡ frac (turned q (pos o.den)) size
      unfolding size q
      inverse_over = ap inv_ℚ o.pivot.is ∙ inverse_is q o.den o.den_some q_some

      parts_some : 0 < o.shared * o.part x
      parts_some = subst (λ n. 0 < n) (o.parts x) (some x x_in)

      part_some : 0 < o.part x
      part_some = right_some o.shared (o.part x) parts_some

      part_below : o.part x * size ≤ d x * size
      part_below = mul-le-mul_right size (subst (λ n. o.part x ≤ n) (sym (o.parts x)) (part_within o.shared (o.part x) parts_some))

      without_shared : frac (k_over.at *ℤ turned q (pos o.den)) (d x * size) ≡ frac (k_over.at *ℤ turned q (pos o.left)) (o.part x * size)
      without_shared =
          same_frac (k_over.at *ℤ turned q (pos o.den)) (d x * size) (k_over.at *ℤ turned q (pos o.left)) (o.part x * size) (mul-pos (some x x_in) size_some) (mul-pos part_some size_some)
          (subst₂ (λ u w. (k_over.at *ℤ turned q (pos u)) *ℤ pos (o.part x * size) ≡ (k_over.at *ℤ turned q (pos o.left)) *ℤ pos (w * size)) (sym o.split) (sym (o.parts x)) (turned_out q k_over.at o.shared o.left (o.part x) size))

      pub leaving_fits : FitsFrac (p.coefficient x e *ℚ entering_row p l e l)
      unfolding over_both
      leaving_fits =
          let c : Over (o.part x * size) (r.factor * o.top) (p.coefficient x e *ℚ entering_row p l e l) =
          record {
            at = k_over.at *ℤ turned q (pos o.left);
            is = ap (λ u. p.coefficient x e *ℚ u) (entering-at_leaving p l e) ∙ (λ i. k_over.is i *ℚ inverse_over i) ∙ frac-mul k_over.at (d x) (turned q (pos o.den)) size (some x x_in) size_some ∙ without_shared;
            size = product_at_most k_over.at (turned q (pos o.left)) r.factor o.top k_over.size (subst (λ n. n ≤ o.top) (sym (abs_turned q (pos o.left))) o.own);
          }
          in
          over_fits (mul-pos part_some size_some) (let h = both_top in let b = part_below in omega arith) c change_room

      module _ (y : ℕ) (y_in : y < count s) (free : p.is_basic y ≡ false) (apart : y ≡ e → ⊥) where
        change : Over (over_both x) (r.factor * o.top) (p.coefficient x e *ℚ entering_row p l e y)
        unfolding over_both
        change =
            let m = own_entry y y_in free apart in
            record {
              at = k_over.at *ℤ m.at;
              is = (λ i. k_over.is i *ℚ m.is i) ∙ frac-mul k_over.at (d x) m.at size (some x x_in) size_some;
              size = product_at_most k_over.at m.at r.factor o.top k_over.size m.size;
            }

        old : Over (over_both x) (r.most * o.size) (p.coefficient x y)
        unfolding over_both
        old =
            let m = r.entries y y_in apart in
            record {
              at = m.at *ℤ pos size;
              is = m.is ∙ same_frac m.at (d x) (m.at *ℤ pos size) (d x * size) (some x x_in) (mul-pos (some x x_in) size_some) (expanded m.at (pos size) (pos (d x)));
              size = product_at_most m.at (pos size) r.most o.size m.size size_small;
            }

        pub entry_fits : EntryFits p l e x y
        entry_fits = record {
          product = over_fits (both_some x x_in) both_top change change_room;
          sum = over_sum_fits (both_some x x_in) both_top old change (let h = r.room in let c = r.factor_room in omega arith);
        }

    pub row_by : (x : ℕ) → x < count s → HasRowRoom (count s) p e o.top o.size (d x) x ⊎ HasFittingRow (count s) p l e x → RowFits (count s) p l e x
    row_by x h (inl r) = record { leaving = leaving_fits x h r; entries = λ y k free m. entry_fits x h r y k free m }
    row_by x h (inr f) = f.row

  module _ (l e : ℕ) (g : Goes s p l e) (o : HasPivotRoom s p d l e) where
    judged_entering : EnteringFits (count s) p l e
    judged_entering = entering_by l e g o.sizes (o.rows l g.leaves.below g.leaves.violated.basic)

    judged_rows : RowsFit (count s) p l e
    judged_rows = record { rows = λ x h basic apart other. row_by l e g o.sizes x h (o.rows x h basic) }

  pub judged_fit : ValuesFit s (count s) p → ((l e : ℕ) → turn s p ≡ goes_on l e → HasPivotRoom s p d l e) → PositionFits s p
  judged_fit values pivots = record {
    values = values;
    entering = λ l e h. judged_entering l e (turn-at s p (goes_on l e) h) (pivots l e h);
    rows = λ l e h. judged_rows l e (turn-at s p (goes_on l e) h) (pivots l e h);
  }

  -- all numbers and denominators at most 2^62
  pub norms_fit : ((x : ℕ) → x < count s → d x ≤ 2 ^ 62) → ((x y : ℕ) → x < count s → y < count s → Over (d x) (2 ^ 62) (p.coefficient x y))
      → (m : ℕ) → count s * m ≤ 2 ^ 126 → ((x y : ℕ) → x < count s → y < count s → Over (d x) m (p.coefficient x y *ℚ (rest s y).first)) → ((x y : ℕ) → x < count s → y < count s → Over (d x) m (p.coefficient x y *ℚ (rest s y).second)) → PositionFits s p
  norms_fit small entries m room firsts seconds =
      judged_fit (record { values = λ x h basic. judged_value m room x h (let t = small x h in omega arith) (λ y. firsts x y h) (λ y. seconds x y h) })
      (λ l e h. let g = turn-at s p (goes_on l e) h in by l e g.leaves.below g.below)
    where
      by : (l e : ℕ) → l < count s → e < count s → HasPivotRoom s p d l e
      by l e below entered = record {
        sizes = record {
          size = 2 ^ 62;
          den = d l;
          den_some = some l below;
          pivot = entries l e below entered;
          top = 2 ^ 62;
          row = λ y k apart. entries l y below k;
          shared = 1;
          part = d;
          parts = λ x. omega arith;
          left = d l;
          split = omega arith;
          own = small l below;
        };
        rows = λ x k basic. inl (record {
          factor = 2 ^ 62;
          factors = entries x e k entered;
          factor_room = omega arith;
          most = 2 ^ 62;
          entries = λ y h apart. entries x y k h;
          room = omega arith;
          den_room = let t = small x k in omega arith;
        });
      }
