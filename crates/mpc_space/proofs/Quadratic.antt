-- Quadratic forms: sums, differences, multiples.
use Rattle.std.proofs.Common.{◌≡◌, ◌≤◌, List, [], ◌∷◌, pos, negsuc, ◌∙◌, ap}
use Rattle.mpc_exact.specs.Rational.{ℚ, int, ◌+ℚ◌, ◌-ℚ◌, ◌*ℚ◌}
use Rattle.mpc_exact.proofs.RationalRing.{reads, by_ring}
use Rattle.mpc_space.specs.Vector.{dot, vec_add, vec_scale, vec_sub, mat_vec, IsSymmetric, quadratic, mat_add, outer}
use Rattle.mpc_space.proofs.Vector.{dot_comm, dot-add, dot-scale, dot-add_right, dot-scale_right}
use Rattle.mpc_space.proofs.Matrix.{mat_vec-add, mat_vec-scale, symmetric_swap, mat_vec-mat_add, mat_vec-outer}

-- q(x + y) = q x + 2 x' M y + q y
pub quadratic-add : (m : List (List ℚ)) → IsSymmetric m → (xs ys : List ℚ) → quadratic m (vec_add xs ys) ≡ quadratic m xs +ℚ int (pos 2) *ℚ dot xs (mat_vec m ys) +ℚ quadratic m ys
quadratic-add m s xs ys =
    let a = dot xs (mat_vec m xs) in
    let b = dot xs (mat_vec m ys) in
    let c = dot ys (mat_vec m xs) in
    let d = dot ys (mat_vec m ys) in
    let same : c ≡ b = dot_comm ys (mat_vec m xs) ∙ symmetric_swap m s xs ys in
    ap (dot (vec_add xs ys)) (mat_vec-add m xs ys) ∙ dot-add_right (mat_vec m xs) (mat_vec m ys) (vec_add xs ys)
    ∙ (λ i. dot-add xs ys (mat_vec m xs) i +ℚ dot-add xs ys (mat_vec m ys) i)
    ∙ ap (λ u. (a +ℚ u) +ℚ (b +ℚ d)) same
    ∙ by_ring (a ∷ b ∷ d ∷ []) (search reads depth 30) (search reads depth 30) tt

pub quadratic-scale : (m : List (List ℚ)) (c : ℚ) (xs : List ℚ) → quadratic m (vec_scale c xs) ≡ (c *ℚ c) *ℚ quadratic m xs
quadratic-scale m c xs =
    ap (dot (vec_scale c xs)) (mat_vec-scale m c xs) ∙ dot-scale c xs (vec_scale c (mat_vec m xs)) ∙ ap (λ u. c *ℚ u) (dot-scale_right c (mat_vec m xs) xs)
    ∙ by_ring (c ∷ quadratic m xs ∷ []) (search reads depth 30) (search reads depth 30) tt

-- q(x - y) = q x - 2 x' M y + q y
pub quadratic-sub : (m : List (List ℚ)) → IsSymmetric m → (xs ys : List ℚ) → quadratic m (vec_sub xs ys) ≡ quadratic m xs -ℚ int (pos 2) *ℚ dot xs (mat_vec m ys) +ℚ quadratic m ys
quadratic-sub m s xs ys =
    let k = int (negsuc 0) in
    quadratic-add m s xs (vec_scale k ys)
    ∙ (λ i. quadratic m xs +ℚ int (pos 2) *ℚ dot xs (mat_vec-scale m k ys i) +ℚ quadratic-scale m k ys i)
    ∙ ap (λ u. quadratic m xs +ℚ int (pos 2) *ℚ u +ℚ (k *ℚ k) *ℚ quadratic m ys) (dot-scale_right k (mat_vec m ys) xs)
    ∙ by_ring (quadratic m xs ∷ dot xs (mat_vec m ys) ∷ quadratic m ys ∷ []) (search reads depth 30) (search reads depth 30) tt

pub quadratic-mat_add : (m n : List (List ℚ)) (xs : List ℚ) → quadratic (mat_add m n) xs ≡ quadratic m xs +ℚ quadratic n xs
quadratic-mat_add m n xs = ap (dot xs) (mat_vec-mat_add m n xs) ∙ dot-add_right (mat_vec m xs) (mat_vec n xs) xs

pub quadratic-outer : (ys zs xs : List ℚ) → quadratic (outer ys zs) xs ≡ dot zs xs *ℚ dot ys xs
quadratic-outer ys zs xs = ap (dot xs) (mat_vec-outer ys zs xs) ∙ dot-scale_right (dot zs xs) ys xs ∙ ap (λ u. dot zs xs *ℚ u) (dot_comm xs ys)
