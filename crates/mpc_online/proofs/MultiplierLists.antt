-- The multiplier of a row among the members, as a search finds it.
use Rattle.std.proofs.Common.{◌≡◌, ℕ, zero, suc, ◌+◌, ◌-◌, ◌<◌, ◌==◌, List, [], ◌∷◌, length, get_or, pos, refl, ◌∙◌, ap, arith, eq-eqb, ne_eqb}
use Rattle.std.proofs.lemmas.Bool.{cond-true, cond-false}
use Rattle.mpc_exact.specs.Rational.{ℚ, int}
use Rattle.mpc_space.specs.Vector.{coordinate}
use Rattle.mpc_online.specs.Positions.{member_multiplier}

pub multiplier_at : (s : List ℕ) (e : List ℚ) (i k : ℕ) → length e ≡ length s → k < length s → get_or s k 0 ≡ i → ((j : ℕ) → j < k → get_or s j 0 ≡ i → ⊥) → member_multiplier s e i ≡ coordinate e k
multiplier_at [] e i k l h is before = absurd (omega arith)
multiplier_at (j ∷ s) [] i k l h is before = absurd (omega arith)
multiplier_at (j ∷ s) (x ∷ e) i zero l h is before = cond-true (j == i) x (member_multiplier s e i) (eq-eqb j i is)
multiplier_at (j ∷ s) (x ∷ e) i (suc k) l h is before =
    cond-false (j == i) x (member_multiplier s e i) (ne_eqb j i (before 0 (omega arith)))
    ∙ multiplier_at s e i k (omega arith) (omega arith) is (λ m b. before (suc m) (omega arith))

pub multiplier_none : (s : List ℕ) (e : List ℚ) (i : ℕ) → length e ≡ length s → ((j : ℕ) → j < length s → get_or s j 0 ≡ i → ⊥) → member_multiplier s e i ≡ int (pos 0)
multiplier_none [] e i l none_is = refl
multiplier_none (j ∷ s) [] i l none_is = refl
multiplier_none (j ∷ s) (x ∷ e) i l none_is =
    cond-false (j == i) x (member_multiplier s e i) (ne_eqb j i (none_is 0 (omega arith)))
    ∙ multiplier_none s e i (omega arith) (λ m b. none_is (suc m) (omega arith))

pub member_is : (k r : ℕ) (s : List ℕ) → r ≡ get_or s (k + 1 - 1) 0 → r ≡ get_or s k 0
member_is k r s e = let place : k + 1 - 1 ≡ k = omega arith in e ∙ ap (λ j. get_or s j 0) place
