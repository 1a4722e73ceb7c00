-- What the code's words read.
use Rattle.std.proofs.Common.{◌≡◌, ℕ, ◌+◌, ◌-◌, ◌<◌, ◌≤◌, Bool, ◌&&◌, ◌||◌, true, false, cond, List, length, ℤ, pos, negsuc, refl, sym, ◌∙◌, ap, arith, le-ltb, ltb-true, ltb-false}
use Rattle.std.proofs.lemmas.Bool.{cond-true, cond-false, both_ways}
use Rattle.mpc_exact.specs.Rational.{int, frac}
use Rattle.mpc_exact.proofs.IntRing.{int_mul_cancel}
use Rattle.mpc_exact.proofs.Rational.{frac_same}
use Rattle.mpc_space.specs.Total.{unit}
use Rattle.mpc_rows.specs.declared.systems.Row.{Row}
use Rattle.mpc_rows.specs.LinearSystem.{LinearSystem, row_at, entry}
use Rattle.mpc_rows.specs.Run.{count, is_unknown, bound, rest, opening}
use Rattle.mpc_scaled.specs.Scaled.{whole_at, scale_at, IsWholeSystem}
use Rattle.mpc_runs.proofs.LeftSides.{bound-first}

pub or_then : (a b x : Bool) → x ≡ a → x ≡ true → x ≡ (a || b)
or_then true b x e t = e
or_then false b x e t = absurd (both_ways x e t)

pub or_and : (a b c x y z : Bool) → y ≡ a → y ≡ false → x ≡ b → x ≡ true → z ≡ c → z ≡ (a || (b && c))
or_and true b c x y z e f g h k = absurd (both_ways y f e)
or_and false true c x y z e f g h k = k
or_and false false c x y z e f g h k = absurd (both_ways x g h)

pub or_else : (a b c x y : Bool) → y ≡ a → y ≡ false → x ≡ b → x ≡ false → x ≡ (a || (b && c))
or_else true b c x y e f g h = absurd (both_ways y f e)
or_else false true c x y e f g h = absurd (both_ways x h g)
or_else false false c x y e f g h = h

module _ (s : LinearSystem) (x : ℕ) (r : Row) (e : r ≡ row_at s (x - s.width)) where
  pub bound_first : r.b ≡ (bound s x).first
  unfolding bound
  bound_first = ap (λ (z : Row). z.b) e

  pub bound_second : cond r.strict (int (negsuc 0)) (int (pos 0)) ≡ (bound s x).second
  unfolding bound
  bound_second = ap (λ (z : Row). cond z.strict (int (negsuc 0)) (int (pos 0))) e

pub width_is : (s : LinearSystem) → s.width ≡ s.width
width_is s = refl

pub count_is : (s : LinearSystem) → count s ≡ s.width + length s.rows
count_is s = refl

module _ (s : LinearSystem) (x : ℕ) where
  pub from_unknown : is_unknown s x ≡ false → s.width ≤ x
  from_unknown h = ltb-false x s.width h

  pub unknown_below : is_unknown s x ≡ true → x < s.width
  unknown_below h = ltb-true x s.width h

  pub rest_unknown : is_unknown s x ≡ true → rest s x ≡ record { first = int (pos 0); second = int (pos 0) }
  unfolding rest
  rest_unknown h = cond-true (is_unknown s x) _ _ h

  pub rest_bound : is_unknown s x ≡ false → rest s x ≡ bound s x
  unfolding rest
  rest_bound h = cond-false (is_unknown s x) _ _ h

  pub opening_unknown : (y : ℕ) → is_unknown s x ≡ true → (opening s).coefficient x y ≡ unit x y
  unfolding opening
  opening_unknown y h = cond-true (is_unknown s x) _ _ h

  pub opening_side : (y : ℕ) → is_unknown s x ≡ false → is_unknown s y ≡ true → (opening s).coefficient x y ≡ entry s (x - s.width) y
  unfolding opening
  opening_side y h k = cond-false (is_unknown s x) _ _ h ∙ cond-true (is_unknown s y) _ _ k

  pub opening_none : (y : ℕ) → is_unknown s x ≡ false → is_unknown s y ≡ false → (opening s).coefficient x y ≡ int (pos 0)
  unfolding opening
  opening_none y h k = cond-false (is_unknown s x) _ _ h ∙ cond-false (is_unknown s y) _ _ k

pub within : {u w i h n : ℕ} → u ≡ w → i < h → n ≡ w + h → u + i < n
within {u} {w} {i} {h} {n} e l k = omega arith

-- ---- in whole numbers
-- the right side of a row, over its scale, is where its side stands
pub right_side : (s : LinearSystem) (k : List ℕ) (a b : List ℤ) → IsWholeSystem s k a b → (y : ℕ) → y < count s → s.width ≤ y → (rest s y).first ≡ frac (whole_at b (y - s.width)) (scale_at k y)
right_side s k a b w y h l =
    let q : s.width + (y - s.width) ≡ y = omega arith in
    ap (λ z. z.first) (rest_bound s y (le-ltb y s.width l)) ∙ ap (λ z. (bound s z).first) (sym q) ∙ bound-first s (y - s.width) ∙ w.sides.sides (y - s.width) (omega arith)
    ∙ ap (λ z. frac (whole_at b (y - s.width)) (scale_at k z)) q

-- so it is the numerator of that
pub is_right_side : (s : LinearSystem) (k : List ℕ) (a b : List ℤ) → IsWholeSystem s k a b → (y : ℕ) → y < count s → s.width ≤ y → (x : ℤ) → (rest s y).first ≡ frac x (scale_at k y) → whole_at b (y - s.width) ≡ x
is_right_side s k a b w y h l x e =
    let some : 0 < scale_at k y = w.scales.some y h in
    int_mul_cancel (scale_at k y) some (frac_same (whole_at b (y - s.width)) (scale_at k y) x (scale_at k y) some some (sym (right_side s k a b w y h l) ∙ e))
