-- Systems of equations: a step of elimination keeps their solutions.
use Rattle.std.proofs.Common.{◌≡◌, ◌≢◌, ℕ, zero, suc, List, [], ◌∷◌, length, set, get_or, pos, refl, sym, ◌∙◌, ap, arith}
use Rattle.std.proofs.lemmas.List.{get_or-set_other}
use Rattle.mpc_exact.specs.Rational.{ℚ, int, ◌+ℚ◌, ◌*ℚ◌, neg_ℚ}
use Rattle.mpc_exact.proofs.RationalRing.{reads, by_ring, by_equations}
use Rattle.mpc_exact.proofs.RationalField.{*ℚ_cancel}
use Rattle.mpc_space.specs.Vector.{coordinate, dot, vec_add, vec_scale, mat_vec}
use Rattle.mpc_space.proofs.Vector.{dot-add, dot-scale}
use Rattle.mpc_space.proofs.Matrix.{coordinate-mat_vec, length-mat_vec}

-- a row put in place of row i
pub mat_vec-set : (rows : List (List ℚ)) (i : ℕ) (row xs : List ℚ) → mat_vec (set rows i row) xs ≡ set (mat_vec rows xs) i (dot row xs)
mat_vec-set [] i row xs = refl
mat_vec-set (r ∷ rows) zero row xs = refl
mat_vec-set (r ∷ rows) (suc i) row xs = ap (λ zs. dot r xs ∷ zs) (mat_vec-set rows i row xs)

-- row i times k
pub solution-scaled : (rows : List (List ℚ)) (rhs xs : List ℚ) (i : ℕ) (k : ℚ) → mat_vec rows xs ≡ rhs → mat_vec (set rows i (vec_scale k (get_or rows i []))) xs ≡ set rhs i (k *ℚ coordinate rhs i)
solution-scaled rows rhs xs i k e =
    mat_vec-set rows i (vec_scale k (get_or rows i [])) xs
    ∙ (λ j. set (e j) i ((dot-scale k (get_or rows i []) xs ∙ ap (λ u. k *ℚ u) (sym (coordinate-mat_vec rows xs i) ∙ ap (λ zs. coordinate zs i) e)) j))

-- row i with k times row j added
pub solution-added : (rows : List (List ℚ)) (rhs xs : List ℚ) (i j : ℕ) (k : ℚ) → mat_vec rows xs ≡ rhs →
    mat_vec (set rows i (vec_add (get_or rows i []) (vec_scale k (get_or rows j [])))) xs ≡ set rhs i (coordinate rhs i +ℚ k *ℚ coordinate rhs j)
solution-added rows rhs xs i j k e =
    mat_vec-set rows i (vec_add (get_or rows i []) (vec_scale k (get_or rows j []))) xs
    ∙ (λ l. set (e l) i ((dot-add (get_or rows i []) (vec_scale k (get_or rows j [])) xs
    ∙ (λ m. (sym (coordinate-mat_vec rows xs i) ∙ ap (λ zs. coordinate zs i) e) m +ℚ (dot-scale k (get_or rows j []) xs ∙ ap (λ u. k *ℚ u) (sym (coordinate-mat_vec rows xs j) ∙ ap (λ zs. coordinate zs j) e)) m)) l))

-- ---- and back
set_cancel : (us vs : List ℚ) (i : ℕ) (a b : ℚ) → length us ≡ length vs → (a ≡ b → coordinate us i ≡ coordinate vs i) → set us i a ≡ set vs i b → us ≡ vs
set_cancel [] [] i a b l h e = refl
set_cancel [] (v ∷ vs) i a b l h e = absurd (omega arith)
set_cancel (u ∷ us) [] i a b l h e = absurd (omega arith)
set_cancel (u ∷ us) (v ∷ vs) zero a b l h e = let first : a ≡ b = cc in let rest : us ≡ vs = cc in λ k. h first k ∷ rest k
set_cancel (u ∷ us) (v ∷ vs) (suc i) a b l h e = let first : u ≡ v = cc in let rest : set us i a ≡ set vs i b = cc in λ k. first k ∷ set_cancel us vs i a b (omega arith) h rest k

pub solution-unscaled : (rows : List (List ℚ)) (rhs xs : List ℚ) (i : ℕ) (k : ℚ) → length rhs ≡ length rows → k ≢ int (pos 0) →
    mat_vec (set rows i (vec_scale k (get_or rows i []))) xs ≡ set rhs i (k *ℚ coordinate rhs i) → mat_vec rows xs ≡ rhs
solution-unscaled rows rhs xs i k l some e =
    set_cancel (mat_vec rows xs) rhs i (dot (vec_scale k (get_or rows i [])) xs) (k *ℚ coordinate rhs i) (length-mat_vec rows xs ∙ sym l)
    (λ f. coordinate-mat_vec rows xs i ∙ *ℚ_cancel some (sym (dot-scale k (get_or rows i []) xs) ∙ f))
    (sym (mat_vec-set rows i (vec_scale k (get_or rows i [])) xs) ∙ e)

taken_away : (k a b c d : ℚ) → a +ℚ k *ℚ b ≡ c +ℚ k *ℚ d → b ≡ d → a ≡ c
taken_away k a b c d e f = by_equations (int (pos 1)) (neg_ℚ k) e f (by_ring (k ∷ a ∷ b ∷ c ∷ d ∷ []) (search reads depth 30) (search reads depth 30) tt)

pub solution-unadded : (rows : List (List ℚ)) (rhs xs : List ℚ) (i j : ℕ) (k : ℚ) → length rhs ≡ length rows → j ≢ i →
    mat_vec (set rows i (vec_add (get_or rows i []) (vec_scale k (get_or rows j [])))) xs ≡ set rhs i (coordinate rhs i +ℚ k *ℚ coordinate rhs j) → mat_vec rows xs ≡ rhs
solution-unadded rows rhs xs i j k l apart e =
    let row : List ℚ = vec_add (get_or rows i []) (vec_scale k (get_or rows j [])) in
    let same : set (mat_vec rows xs) i (dot row xs) ≡ set rhs i (coordinate rhs i +ℚ k *ℚ coordinate rhs j) = sym (mat_vec-set rows i row xs) ∙ e in
    let other : coordinate (mat_vec rows xs) j ≡ coordinate rhs j =
    sym (get_or-set_other (mat_vec rows xs) i j (dot row xs) (int (pos 0)) apart) ∙ ap (λ zs. coordinate zs j) same ∙ get_or-set_other rhs i j (coordinate rhs i +ℚ k *ℚ coordinate rhs j) (int (pos 0)) apart in
    set_cancel (mat_vec rows xs) rhs i (dot row xs) (coordinate rhs i +ℚ k *ℚ coordinate rhs j) (length-mat_vec rows xs ∙ sym l)
    (λ f. taken_away k (coordinate (mat_vec rows xs) i) (coordinate (mat_vec rows xs) j) (coordinate rhs i) (coordinate rhs j)
    ((λ m. coordinate-mat_vec rows xs i m +ℚ k *ℚ coordinate-mat_vec rows xs j m) ∙ (λ m. dot (get_or rows i []) xs +ℚ sym (dot-scale k (get_or rows j []) xs) m) ∙ sym (dot-add (get_or rows i []) (vec_scale k (get_or rows j [])) xs) ∙ f)
    other)
    same
