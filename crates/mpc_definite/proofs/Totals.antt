-- More on sums over the numbers below n.
use Rattle.std.proofs.Common.{◌≡◌, ℕ, zero, suc, ◌<◌, pos, [], ◌∷◌, sym, ◌∙◌, arith, ◌⊎◌, inl, inr}
use Rattle.std.proofs.lemmas.Bool.{cases_eq}
use Rattle.mpc_exact.specs.Rational.{ℚ, int, ◌+ℚ◌, ◌*ℚ◌}
use Rattle.mpc_exact.proofs.RationalRing.{reads, by_ring}
use Rattle.mpc_space.specs.Total.{total, unit}
use Rattle.mpc_space.proofs.Total.{total-zeros, total-same, total-unit}

-- a sum of which one term alone isn't 0
pub total-single : (n x : ℕ) (f : ℕ → ℚ) → x < n → ((i : ℕ) → i < n → (i ≡ x → ⊥) → f i ≡ int (pos 0)) → total n f ≡ f x
unfolding total
total-single zero x f h others = absurd (omega arith)
total-single (suc n) x f h others = by (cases_eq x n) (total-single n x f)
  where
    by : ((x ≡ n) ⊎ (x ≡ n → ⊥)) → (x < n → ((i : ℕ) → i < n → (i ≡ x → ⊥) → f i ≡ int (pos 0)) → total n f ≡ f x) → total n f +ℚ f n ≡ f x
    by (inl e) r = (λ i. total-zeros n f (λ k l. others k (omega arith) (λ q. omega arith)) i +ℚ f (sym e i)) ∙ by_ring (f x ∷ []) (search reads depth 30) (search reads depth 30) tt
    by (inr e) r = (λ i. r (omega arith) (λ k l q. others k (omega arith) q) i +ℚ others n (omega arith) (λ q. e (sym q)) i) ∙ by_ring (f x ∷ []) (search reads depth 30) (search reads depth 30) tt

pub total-unit_right : (n x : ℕ) (f : ℕ → ℚ) → x < n → total n (λ i. f i *ℚ unit x i) ≡ f x
total-unit_right n x f l =
    total-same n (λ i. f i *ℚ unit x i) (λ i. unit x i *ℚ f i) (λ i q. by_ring (f i ∷ unit x i ∷ []) (search reads depth 30) (search reads depth 30) tt) ∙ total-unit n x f l
