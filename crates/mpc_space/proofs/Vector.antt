-- The laws of vectors and their dots, with no condition on lengths.
use Rattle.std.proofs.Common.{◌≡◌, ℕ, zero, suc, ◌+◌, ◌<◌, List, [], ◌∷◌, ◌++◌, length, pos, negsuc, refl, sym, ◌∙◌, ap, arith}
use Rattle.mpc_exact.specs.Rational.{ℚ, int, ◌+ℚ◌, ◌-ℚ◌, ◌*ℚ◌, ◌≤ℚ◌, IsNonneg, IsPositive}
use Rattle.mpc_exact.proofs.Rational.{*ℚ_comm, +ℚ_comm, +ℚ_assoc, +ℚ_zero, *ℚ_assoc, *ℚ-+ℚ}
use Rattle.mpc_exact.proofs.RationalRing.{reads, by_ring}
use Rattle.mpc_exact.proofs.RationalOrder.{nonneg_int, nonneg-add, nonneg-mul, nonneg_square, positive-add, gap, by_le}
use Rattle.mpc_exact.proofs.OrderTheorems.{positive_square, positive-add_right}
use Rattle.mpc_exact.proofs.RationalField.{ℚ_discrete}
use Rattle.mpc_space.specs.Vector.{zeros, dot, vec_add, vec_scale, vec_sub, IsZero, AllNonneg, AllAtMost}

-- ---- dots
pub dot_comm : (xs ys : List ℚ) → dot xs ys ≡ dot ys xs
dot_comm [] [] = refl
dot_comm [] (y ∷ ys) = refl
dot_comm (x ∷ xs) [] = refl
dot_comm (x ∷ xs) (y ∷ ys) = λ i. *ℚ_comm x y i +ℚ dot_comm xs ys i

pub dot-add : (xs ys zs : List ℚ) → dot (vec_add xs ys) zs ≡ dot xs zs +ℚ dot ys zs
dot-add [] ys zs = by_ring (dot ys zs ∷ []) (search reads depth 30) (search reads depth 30) tt
dot-add (x ∷ xs) [] zs = sym (+ℚ_zero (dot (x ∷ xs) zs))
dot-add (x ∷ xs) (y ∷ ys) [] = by_ring [] (search reads depth 30) (search reads depth 30) tt
dot-add (x ∷ xs) (y ∷ ys) (z ∷ zs) =
    ap (λ u. (x +ℚ y) *ℚ z +ℚ u) (dot-add xs ys zs) ∙ by_ring (x ∷ y ∷ z ∷ dot xs zs ∷ dot ys zs ∷ []) (search reads depth 30) (search reads depth 30) tt

pub dot-scale : (c : ℚ) (xs ys : List ℚ) → dot (vec_scale c xs) ys ≡ c *ℚ dot xs ys
dot-scale c [] ys = by_ring (c ∷ []) (search reads depth 30) (search reads depth 30) tt
dot-scale c (x ∷ xs) [] = by_ring (c ∷ []) (search reads depth 30) (search reads depth 30) tt
dot-scale c (x ∷ xs) (y ∷ ys) =
    ap (λ u. (c *ℚ x) *ℚ y +ℚ u) (dot-scale c xs ys) ∙ by_ring (c ∷ x ∷ y ∷ dot xs ys ∷ []) (search reads depth 30) (search reads depth 30) tt

pub dot-add_right : (xs ys zs : List ℚ) → dot zs (vec_add xs ys) ≡ dot zs xs +ℚ dot zs ys
dot-add_right xs ys zs = dot_comm zs (vec_add xs ys) ∙ dot-add xs ys zs ∙ (λ i. dot_comm xs zs i +ℚ dot_comm ys zs i)

pub dot-scale_right : (c : ℚ) (xs ys : List ℚ) → dot ys (vec_scale c xs) ≡ c *ℚ dot ys xs
dot-scale_right c xs ys = dot_comm ys (vec_scale c xs) ∙ dot-scale c xs ys ∙ ap (λ u. c *ℚ u) (dot_comm xs ys)

pub dot-sub_right : (xs ys zs : List ℚ) → dot zs (vec_sub xs ys) ≡ dot zs xs -ℚ dot zs ys
dot-sub_right xs ys zs =
    dot-add_right xs (vec_scale (int (negsuc 0)) ys) zs ∙ ap (λ u. dot zs xs +ℚ u) (dot-scale_right (int (negsuc 0)) ys zs)
    ∙ by_ring (dot zs xs ∷ dot zs ys ∷ []) (search reads depth 30) (search reads depth 30) tt

pub dot-sub : (xs ys zs : List ℚ) → dot (vec_sub xs ys) zs ≡ dot xs zs -ℚ dot ys zs
dot-sub xs ys zs = dot_comm (vec_sub xs ys) zs ∙ dot-sub_right xs ys zs ∙ λ i. dot_comm zs xs i -ℚ dot_comm zs ys i

pub dot-append : (xs ys zs ws : List ℚ) → length xs ≡ length zs → dot (xs ++ ys) (zs ++ ws) ≡ dot xs zs +ℚ dot ys ws
dot-append [] ys [] ws e = by_ring (dot ys ws ∷ []) (search reads depth 30) (search reads depth 30) tt
dot-append [] ys (z ∷ zs) ws e = absurd (omega arith)
dot-append (x ∷ xs) ys [] ws e = absurd (omega arith)
dot-append (x ∷ xs) ys (z ∷ zs) ws e = ap (λ u. x *ℚ z +ℚ u) (dot-append xs ys zs ws (omega arith)) ∙ sym (+ℚ_assoc (x *ℚ z) (dot xs zs) (dot ys ws))

-- zeros at the end change no dot
pub dot-padded : (xs ys : List ℚ) (n : ℕ) → dot (xs ++ zeros n) ys ≡ dot xs ys
dot-padded [] ys zero = refl
dot-padded [] [] (suc n) = refl
dot-padded [] (y ∷ ys) (suc n) = ap (λ u. int (pos 0) *ℚ y +ℚ u) (dot-padded [] ys n) ∙ by_ring (y ∷ []) (search reads depth 30) (search reads depth 30) tt
dot-padded (x ∷ xs) [] n = refl
dot-padded (x ∷ xs) (y ∷ ys) n = ap (λ u. x *ℚ y +ℚ u) (dot-padded xs ys n)

pub dot_self-nonneg : (xs : List ℚ) → IsNonneg (dot xs xs)
dot_self-nonneg [] = nonneg_int 0
dot_self-nonneg (x ∷ xs) = nonneg-add (nonneg_square x) (dot_self-nonneg xs)

pub dot_self-positive : (xs : List ℚ) → ¬ IsZero xs → IsPositive (dot xs xs)
dot_self-positive [] h = absurd (h tt)
dot_self-positive (x ∷ xs) h = by (ℚ_discrete x (int (pos 0))) (dot_self-positive xs)
  where
    by : Dec (x ≡ int (pos 0)) → (¬ IsZero xs → IsPositive (dot xs xs)) → IsPositive (x *ℚ x +ℚ dot xs xs)
    by (yes p) ih = positive-add_right (nonneg_square x) (ih (λ k. h (p, k)))
    by (no p) ih = positive-add (positive_square x p) (dot_self-nonneg xs)

-- ---- sums and multiples
pub vec_add_comm : (xs ys : List ℚ) → vec_add xs ys ≡ vec_add ys xs
vec_add_comm [] [] = refl
vec_add_comm [] (y ∷ ys) = refl
vec_add_comm (x ∷ xs) [] = refl
vec_add_comm (x ∷ xs) (y ∷ ys) = λ i. +ℚ_comm x y i ∷ vec_add_comm xs ys i

pub vec_add_assoc : (xs ys zs : List ℚ) → vec_add (vec_add xs ys) zs ≡ vec_add xs (vec_add ys zs)
vec_add_assoc [] ys zs = refl
vec_add_assoc (x ∷ xs) [] zs = refl
vec_add_assoc (x ∷ xs) (y ∷ ys) [] = refl
vec_add_assoc (x ∷ xs) (y ∷ ys) (z ∷ zs) = λ i. +ℚ_assoc x y z i ∷ vec_add_assoc xs ys zs i

pub vec_add_nil : (xs : List ℚ) → vec_add xs [] ≡ xs
vec_add_nil [] = refl
vec_add_nil (x ∷ xs) = refl

pub vec_scale-add : (c : ℚ) (xs ys : List ℚ) → vec_scale c (vec_add xs ys) ≡ vec_add (vec_scale c xs) (vec_scale c ys)
vec_scale-add c [] ys = refl
vec_scale-add c (x ∷ xs) [] = refl
vec_scale-add c (x ∷ xs) (y ∷ ys) = λ i. *ℚ-+ℚ c x y i ∷ vec_scale-add c xs ys i

pub vec_scale-scale : (c d : ℚ) (xs : List ℚ) → vec_scale c (vec_scale d xs) ≡ vec_scale (c *ℚ d) xs
vec_scale-scale c d [] = refl
vec_scale-scale c d (x ∷ xs) = λ i. sym (*ℚ_assoc c d x) i ∷ vec_scale-scale c d xs i

spread : (c d x : ℚ) → c *ℚ x +ℚ d *ℚ x ≡ (c +ℚ d) *ℚ x
spread c d x = by_ring (c ∷ d ∷ x ∷ []) (search reads depth 30) (search reads depth 30) tt

pub add-vec_scale : (c d : ℚ) (xs : List ℚ) → vec_add (vec_scale c xs) (vec_scale d xs) ≡ vec_scale (c +ℚ d) xs
add-vec_scale c d [] = refl
add-vec_scale c d (x ∷ xs) = λ i. spread c d x i ∷ add-vec_scale c d xs i

-- ---- weights that are not negative keep the order
pub dot-at_most : (ws xs ys : List ℚ) → AllNonneg ws → AllAtMost xs ys → dot ws xs ≤ℚ dot ws ys
dot-at_most [] xs ys h k = by_le [] (nonneg_int 0) (search reads depth 30) (search reads depth 30) tt
dot-at_most (w ∷ ws) [] [] h k = by_le [] (nonneg_int 0) (search reads depth 30) (search reads depth 30) tt
dot-at_most (w ∷ ws) [] (y ∷ ys) h k = absurd k
dot-at_most (w ∷ ws) (x ∷ xs) [] h k = absurd k
dot-at_most (w ∷ ws) (x ∷ xs) (y ∷ ys) h k =
    by_le (w ∷ x ∷ y ∷ dot ws xs ∷ dot ws ys ∷ []) (nonneg-add (nonneg-mul h.0 (gap k.0)) (gap (dot-at_most ws xs ys h.1 k.1))) (search reads depth 30) (search reads depth 30) tt
