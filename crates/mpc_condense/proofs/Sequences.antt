-- Sums of which only one block of terms counts, and sequences written one move after the other.
use Rattle.std.proofs.Common.{◌≡◌, ℕ, zero, suc, ◌+◌, ◌*◌, ◌<◌, ◌≤◌, List, [], ◌∷◌, ◌++◌, length, get_or, All, pos, ◌∙◌, ap, arith}
use Rattle.std.proofs.lemmas.List.{get_or-append-add, get_or_append_left, length-append}
use Rattle.mpc_exact.specs.Rational.{ℚ, int, ◌+ℚ◌}
use Rattle.mpc_exact.proofs.RationalRing.{reads, by_ring}
use Rattle.mpc_space.specs.Vector.{coordinate}
use Rattle.mpc_space.specs.Total.{total}
use Rattle.mpc_space.proofs.Total.{total-zeros, total-split}
use Rattle.mpc_condense.specs.Condensed.{stacked}
use Rattle.mpc_rows.specs.ActiveSets.{extended}

-- only the terms from d to d + p count
pub total-block : (d p r : ℕ) (f : ℕ → ℚ) → ((j : ℕ) → j < d → f j ≡ int (pos 0)) → ((j : ℕ) → d + p ≤ j → f j ≡ int (pos 0)) → total (d + (p + r)) f ≡ total p (λ q. f (d + q))
total-block d p r f before behind =
    total-split d (p + r) f
    ∙ (λ i. total-zeros d f before i +ℚ total-split p r (λ q. f (d + q)) i)
    ∙ ap (λ u. int (pos 0) +ℚ (total p (λ q. f (d + q)) +ℚ u)) (total-zeros r (λ q. f (d + (p + q))) (λ q l. behind (d + (p + q)) (omega arith)))
    ∙ by_ring (total p (λ q. f (d + q)) ∷ []) (search reads depth 30) (search reads depth 30) tt

pub stacked-at : (p : ℕ) (v : List (List ℚ)) (k q : ℕ) → All (λ u. length u ≡ p) v → k < length v → q < p → coordinate (stacked v) (p * k + q) ≡ coordinate (get_or v k []) q
stacked-at p [] k q h l m = absurd (omega arith)
stacked-at p (u ∷ v) zero q h l m =
    let e : length u ≡ p = h 0 [] (omega arith) in
    let i : p * 0 + q ≡ q = omega arith in
    ap (coordinate (u ++ stacked v)) i ∙ get_or_append_left u (stacked v) (int (pos 0)) q (omega (arith, e))
stacked-at p (u ∷ v) (suc k) q h l m =
    let e : length u ≡ p = h 0 [] (omega arith) in
    let i : p * suc k + q ≡ length u + (p * k + q) = omega (arith, e) in
    ap (coordinate (u ++ stacked v)) i ∙ get_or-append-add u (stacked v) (p * k + q) (int (pos 0))
    ∙ stacked-at p v k q (λ i d r. h (suc i) d (omega arith)) (omega arith) m

pub length-stacked : (p : ℕ) (v : List (List ℚ)) → All (λ u. length u ≡ p) v → length (stacked v) ≡ p * length v
length-stacked p [] h = omega arith
length-stacked p (u ∷ v) h = length-append u (stacked v) ∙ (λ i. h 0 [] (omega arith) i + length-stacked p v (λ i d r. h (suc i) d (omega arith)) i) ∙ (let e : p + p * length v ≡ p * suc (length v) = omega arith in e)

-- the factors of the columns
abbrev pub factors : List ℚ → List (List ℚ) → ℕ → ℚ
factors t v j = coordinate (extended t ++ stacked v) j

pub factors-head : (t : List ℚ) (v : List (List ℚ)) (j : ℕ) → j < length t + 1 → factors t v j ≡ coordinate (extended t) j
factors-head t v j l = get_or_append_left (extended t) (stacked v) (int (pos 0)) j (omega arith)

pub factors-tail : (t : List ℚ) (v : List (List ℚ)) (n j : ℕ) → length t ≡ n → factors t v (n + 1 + j) ≡ coordinate (stacked v) j
factors-tail t v n j e =
    let i : n + 1 + j ≡ length (extended t) + j = omega arith in
    ap (factors t v) i ∙ get_or-append-add (extended t) (stacked v) j (int (pos 0))
