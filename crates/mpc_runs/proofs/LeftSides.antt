-- The rows of the opening are the left sides of the system.
use Rattle.std.proofs.Common.{◌≡◌, ℕ, ◌+◌, ◌-◌, ◌<◌, ◌≤◌, false, cond, pos, negsuc, [], ◌∷◌, sym, ◌∙◌, ap, subst, arith, ◌⊎◌, inl, inr, lt-ltb, le-ltb}
use Rattle.std.proofs.lemmas.Bool.{cond-true, cond-false, cases_eq, cases_lt}
use Rattle.mpc_exact.specs.Rational.{ℚ, int, ◌+ℚ◌, ◌*ℚ◌}
use Rattle.mpc_exact.proofs.RationalRing.{reads, by_ring}
use Rattle.mpc_space.specs.Total.{total, unit}
use Rattle.mpc_rows.specs.LinearSystem.{LinearSystem, row_at, height, entry}
use Rattle.mpc_rows.specs.NumberedSystems.{left_side}
use Rattle.mpc_rows.specs.Run.{count, is_unknown, bound, opening}
use Rattle.mpc_space.proofs.Total.{unit-same, unit-other, total-same, total-zeros, total-unit, total-split}
use Rattle.mpc_runs.proofs.TableauRows.{Meets, row_value, opening_row, opening_rest, opening_known}

pub is_side : (s : LinearSystem) (i : ℕ) → is_unknown s (s.width + i) ≡ false
is_side s i = le-ltb (s.width + i) s.width (omega arith)

pub back : (s : LinearSystem) (i : ℕ) → s.width + i - s.width ≡ i
back s i = omega arith

pub bound-first : (s : LinearSystem) (i : ℕ) → (bound s (s.width + i)).first ≡ (row_at s i).b
unfolding bound
bound-first s i = ap (λ z. (row_at s z).b) (back s i)

pub bound-second : (s : LinearSystem) (i : ℕ) → (bound s (s.width + i)).second ≡ cond (row_at s i).strict (int (negsuc 0)) (int (pos 0))
unfolding bound
bound-second s i = ap (λ z. cond (row_at s z).strict (int (negsuc 0)) (int (pos 0))) (back s i)

zero_left : (x : ℚ) → int (pos 0) *ℚ x ≡ int (pos 0)
zero_left x = by_ring (x ∷ []) (search reads depth 30) (search reads depth 30) tt

plus_zero : (x : ℚ) → x +ℚ int (pos 0) ≡ x
plus_zero x = by_ring (x ∷ []) (search reads depth 30) (search reads depth 30) tt

-- the row of s_i at first
pub opening_sum : (s : LinearSystem) (x : ℕ → ℚ) (i : ℕ) → row_value (count s) (opening s) x (s.width + i) ≡ left_side s i x
opening_sum s x i =
    total-split s.width (height s) (λ y. (opening s).coefficient (s.width + i) y *ℚ x y)
    ∙ (λ k.
    total-same s.width (λ y. (opening s).coefficient (s.width + i) y *ℚ x y) (λ j. entry s i j *ℚ x j)
    (λ j h. ap (λ c. c *ℚ x j) (opening_row s (s.width + i) j (is_side s i) (lt-ltb j s.width h) ∙ ap (λ z. entry s z j) (back s i))) k
    +ℚ total-zeros (height s) (λ z. (opening s).coefficient (s.width + i) (s.width + z) *ℚ x (s.width + z))
    (λ z h. ap (λ c. c *ℚ x (s.width + z)) (opening_rest s (s.width + i) (s.width + z) (is_side s i) (is_side s z)) ∙ zero_left (x (s.width + z))) k)
    ∙ plus_zero (left_side s i x)

-- values that meet the opening's rows
pub side_value : (s : LinearSystem) (x : ℕ → ℚ) → Meets (count s) (opening s) x → (i : ℕ) → i < height s → x (s.width + i) ≡ left_side s i x
side_value s x h i b = h.at (s.width + i) (omega arith) ∙ opening_sum s x i

-- ---- a point v with the left sides at v
unfoldable pub with_sides : LinearSystem → (ℕ → ℚ) → ℕ → ℚ
with_sides s v y = cond (is_unknown s y) (v y) (left_side s (y - s.width) v)

pub with_sides-unknown : (s : LinearSystem) (v : ℕ → ℚ) (y : ℕ) → y < s.width → with_sides s v y ≡ v y
unfolding with_sides
with_sides-unknown s v y h = cond-true (is_unknown s y) _ _ (lt-ltb y s.width h)

pub with_sides-side : (s : LinearSystem) (v : ℕ → ℚ) (i : ℕ) → with_sides s v (s.width + i) ≡ left_side s i v
unfolding with_sides
with_sides-side s v i = cond-false (is_unknown s (s.width + i)) _ _ (is_side s i) ∙ ap (λ z. left_side s z v) (back s i)

meets_at : (s : LinearSystem) (v : ℕ → ℚ) (y : ℕ) → y < count s → (y < s.width) ⊎ (s.width ≤ y) → with_sides s v y ≡ row_value (count s) (opening s) (with_sides s v) y
meets_at s v y h (inl k) =
    sym (total-same (count s) (λ z. (opening s).coefficient y z *ℚ with_sides s v z) (λ z. unit y z *ℚ with_sides s v z) (λ z l. ap (λ c. c *ℚ with_sides s v z) (opening_known s y z (lt-ltb y s.width k)))
    ∙ total-unit (count s) y (with_sides s v) h)
meets_at s v y h (inr k) =
    let e : s.width + (y - s.width) ≡ y = omega arith in
    subst (λ z. with_sides s v z ≡ row_value (count s) (opening s) (with_sides s v) z) e
    (with_sides-side s v (y - s.width) ∙ sym (opening_sum s (with_sides s v) (y - s.width) ∙ total-same s.width (λ j. entry s (y - s.width) j *ℚ with_sides s v j) (λ j. entry s (y - s.width) j *ℚ v j) (λ j l. ap (λ u. entry s (y - s.width) j *ℚ u) (with_sides-unknown s v j l))))

pub with_sides-meet : (s : LinearSystem) (v : ℕ → ℚ) → Meets (count s) (opening s) (with_sides s v)
with_sides-meet s v = record { at = λ y h. meets_at s v y h (cases_lt y s.width) }

-- a sum over all variables, where a coefficient is 0 on each v
pub side_sum : (s : LinearSystem) (c x : ℕ → ℚ) → ((j : ℕ) → j < s.width → c j *ℚ x j ≡ int (pos 0)) → total (count s) (λ y. c y *ℚ x y) ≡ total (height s) (λ i. c (s.width + i) *ℚ x (s.width + i))
side_sum s c x h =
    total-split s.width (height s) (λ y. c y *ℚ x y)
    ∙ ap (λ u. u +ℚ total (height s) (λ i. c (s.width + i) *ℚ x (s.width + i))) (total-zeros s.width (λ y. c y *ℚ x y) h)
    ∙ by_ring (total (height s) (λ i. c (s.width + i) *ℚ x (s.width + i)) ∷ []) (search reads depth 30) (search reads depth 30) tt

-- the unit vector of l among the sides
pub side_unit : (s : LinearSystem) (l : ℕ) (f : ℕ → ℚ) → l < height s → total (height s) (λ i. unit (s.width + l) (s.width + i) *ℚ f i) ≡ f l
side_unit s l f h = total-same (height s) (λ i. unit (s.width + l) (s.width + i) *ℚ f i) (λ i. unit l i *ℚ f i) (λ i k. ap (λ c. c *ℚ f i) (shift i (cases_eq l i))) ∙ total-unit (height s) l f h
  where
    shift : (i : ℕ) → (l ≡ i) ⊎ (l ≡ i → ⊥) → unit (s.width + l) (s.width + i) ≡ unit l i
    shift i (inl e) = unit-same (s.width + l) (s.width + i) (ap (λ z. s.width + z) e) ∙ sym (unit-same l i e)
    shift i (inr e) = unit-other (s.width + l) (s.width + i) (λ f. e (omega arith)) ∙ sym (unit-other l i e)
