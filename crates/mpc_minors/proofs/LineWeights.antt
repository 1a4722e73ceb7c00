-- Rows with their minors as weights: on the left they add up to 0 (Cramer's rule).
use Rattle.std.proofs.Common.{◌≡◌, ℕ, zero, suc, ◌<◌, List, [], ◌∷◌, ℤ, pos, ◌+ℤ◌, ◌-ℤ◌, ◌*ℤ◌, ◌<ℤ◌, ◌≤ℤ◌, ◌∙◌, ◌⊎◌, arith}
use Rattle.mpc_exact.proofs.IntRing.{int_reads, by_ring_ℤ}
use Rattle.mpc_runs.specs.WholeNumbers.{whole_total}
use Rattle.mpc_scaled.specs.Scaled.{whole_at}
use Rattle.mpc_minors.specs.Lines.{line_number, HaveNoPoint}
use Rattle.mpc_minors.specs.LineMinors.{pair_at, triple_at}
use Rattle.mpc_minors.proofs.LineSums.{refuted}
use Rattle.mpc_minors.proofs.LineNumbers.{IsBetween}

abbrev AreOpposite : ℤ → ℤ → ℤ → Type 0
AreOpposite least greatest sum = ((pos 0 ≤ℤ least) × (sum <ℤ pos 0)) ⊎ ((greatest ≤ℤ pos 0) × (pos 0 <ℤ sum))

two_first : (a0 b0 a1 b1 a2 b2 : ℤ) → pos 0 +ℤ (a1 *ℤ b2 -ℤ b1 *ℤ a2) *ℤ a0 +ℤ (a2 *ℤ b0 -ℤ b2 *ℤ a0) *ℤ a1 +ℤ (a0 *ℤ b1 -ℤ b0 *ℤ a1) *ℤ a2 ≡ pos 0
two_first a0 b0 a1 b1 a2 b2 = by_ring_ℤ (a0 ∷ b0 ∷ a1 ∷ b1 ∷ a2 ∷ b2 ∷ []) (search int_reads depth 30) (search int_reads depth 30) tt

two_second : (a0 b0 a1 b1 a2 b2 : ℤ) → pos 0 +ℤ (a1 *ℤ b2 -ℤ b1 *ℤ a2) *ℤ b0 +ℤ (a2 *ℤ b0 -ℤ b2 *ℤ a0) *ℤ b1 +ℤ (a0 *ℤ b1 -ℤ b0 *ℤ a1) *ℤ b2 ≡ pos 0
two_second a0 b0 a1 b1 a2 b2 = by_ring_ℤ (a0 ∷ b0 ∷ a1 ∷ b1 ∷ a2 ∷ b2 ∷ []) (search int_reads depth 30) (search int_reads depth 30) tt

three_first : (a0 b0 c0 a1 b1 c1 a2 b2 c2 a3 b3 c3 : ℤ) → pos 0 +ℤ (c1 *ℤ (a2 *ℤ b3 -ℤ b2 *ℤ a3) +ℤ c2 *ℤ (a3 *ℤ b1 -ℤ b3 *ℤ a1) +ℤ c3 *ℤ (a1 *ℤ b2 -ℤ b1 *ℤ a2)) *ℤ a0 +ℤ (c0 *ℤ (a3 *ℤ b2 -ℤ b3 *ℤ a2) +ℤ c3 *ℤ (a2 *ℤ b0 -ℤ b2 *ℤ a0) +ℤ c2 *ℤ (a0 *ℤ b3 -ℤ b0 *ℤ a3)) *ℤ a1 +ℤ (c0 *ℤ (a1 *ℤ b3 -ℤ b1 *ℤ a3) +ℤ c1 *ℤ (a3 *ℤ b0 -ℤ b3 *ℤ a0) +ℤ c3 *ℤ (a0 *ℤ b1 -ℤ b0 *ℤ a1)) *ℤ a2 +ℤ (c0 *ℤ (a2 *ℤ b1 -ℤ b2 *ℤ a1) +ℤ c2 *ℤ (a1 *ℤ b0 -ℤ b1 *ℤ a0) +ℤ c1 *ℤ (a0 *ℤ b2 -ℤ b0 *ℤ a2)) *ℤ a3 ≡ pos 0
three_first a0 b0 c0 a1 b1 c1 a2 b2 c2 a3 b3 c3 = by_ring_ℤ (a0 ∷ b0 ∷ c0 ∷ a1 ∷ b1 ∷ c1 ∷ a2 ∷ b2 ∷ c2 ∷ a3 ∷ b3 ∷ c3 ∷ []) (search int_reads depth 30 fits 100000) (search int_reads depth 30) tt

three_second : (a0 b0 c0 a1 b1 c1 a2 b2 c2 a3 b3 c3 : ℤ) → pos 0 +ℤ (c1 *ℤ (a2 *ℤ b3 -ℤ b2 *ℤ a3) +ℤ c2 *ℤ (a3 *ℤ b1 -ℤ b3 *ℤ a1) +ℤ c3 *ℤ (a1 *ℤ b2 -ℤ b1 *ℤ a2)) *ℤ b0 +ℤ (c0 *ℤ (a3 *ℤ b2 -ℤ b3 *ℤ a2) +ℤ c3 *ℤ (a2 *ℤ b0 -ℤ b2 *ℤ a0) +ℤ c2 *ℤ (a0 *ℤ b3 -ℤ b0 *ℤ a3)) *ℤ b1 +ℤ (c0 *ℤ (a1 *ℤ b3 -ℤ b1 *ℤ a3) +ℤ c1 *ℤ (a3 *ℤ b0 -ℤ b3 *ℤ a0) +ℤ c3 *ℤ (a0 *ℤ b1 -ℤ b0 *ℤ a1)) *ℤ b2 +ℤ (c0 *ℤ (a2 *ℤ b1 -ℤ b2 *ℤ a1) +ℤ c2 *ℤ (a1 *ℤ b0 -ℤ b1 *ℤ a0) +ℤ c1 *ℤ (a0 *ℤ b2 -ℤ b0 *ℤ a2)) *ℤ b3 ≡ pos 0
three_second a0 b0 c0 a1 b1 c1 a2 b2 c2 a3 b3 c3 = by_ring_ℤ (a0 ∷ b0 ∷ c0 ∷ a1 ∷ b1 ∷ c1 ∷ a2 ∷ b2 ∷ c2 ∷ a3 ∷ b3 ∷ c3 ∷ []) (search int_reads depth 30 fits 100000) (search int_reads depth 30) tt

three_third : (a0 b0 c0 a1 b1 c1 a2 b2 c2 a3 b3 c3 : ℤ) → pos 0 +ℤ (c1 *ℤ (a2 *ℤ b3 -ℤ b2 *ℤ a3) +ℤ c2 *ℤ (a3 *ℤ b1 -ℤ b3 *ℤ a1) +ℤ c3 *ℤ (a1 *ℤ b2 -ℤ b1 *ℤ a2)) *ℤ c0 +ℤ (c0 *ℤ (a3 *ℤ b2 -ℤ b3 *ℤ a2) +ℤ c3 *ℤ (a2 *ℤ b0 -ℤ b2 *ℤ a0) +ℤ c2 *ℤ (a0 *ℤ b3 -ℤ b0 *ℤ a3)) *ℤ c1 +ℤ (c0 *ℤ (a1 *ℤ b3 -ℤ b1 *ℤ a3) +ℤ c1 *ℤ (a3 *ℤ b0 -ℤ b3 *ℤ a0) +ℤ c3 *ℤ (a0 *ℤ b1 -ℤ b0 *ℤ a1)) *ℤ c2 +ℤ (c0 *ℤ (a2 *ℤ b1 -ℤ b2 *ℤ a1) +ℤ c2 *ℤ (a1 *ℤ b0 -ℤ b1 *ℤ a0) +ℤ c1 *ℤ (a0 *ℤ b2 -ℤ b0 *ℤ a2)) *ℤ c3 ≡ pos 0
three_third a0 b0 c0 a1 b1 c1 a2 b2 c2 a3 b3 c3 = by_ring_ℤ (a0 ∷ b0 ∷ c0 ∷ a1 ∷ b1 ∷ c1 ∷ a2 ∷ b2 ∷ c2 ∷ a3 ∷ b3 ∷ c3 ∷ []) (search int_reads depth 30 fits 100000) (search int_reads depth 30) tt

module _ (lines : List ℤ) where
  abbrev at : ℕ → ℤ
  at k = whole_at lines k

  module _ (y₀ y₁ y₂ least greatest sum : ℤ) (e₀ : y₀ ≡ pair_at 3 lines 1 2) (e₁ : y₁ ≡ pair_at 3 lines 2 0) (e₂ : y₂ ≡ pair_at 3 lines 0 1) where
    abbrev two_weights : ℕ → ℤ
    two_weights i = whole_at (y₀ ∷ y₁ ∷ y₂ ∷ []) i

    two_columns : (j : ℕ) → j < 2 → whole_total 3 (λ i. two_weights i *ℤ line_number 2 lines i j) ≡ pos 0
    unfolding whole_total
    two_columns zero h = (λ k. pos 0 +ℤ e₀ k *ℤ at 0 +ℤ e₁ k *ℤ at 3 +ℤ e₂ k *ℤ at 6) ∙ two_first (at 0) (at 1) (at 3) (at 4) (at 6) (at 7)
    two_columns (suc zero) h = (λ k. pos 0 +ℤ e₀ k *ℤ at 1 +ℤ e₁ k *ℤ at 4 +ℤ e₂ k *ℤ at 7) ∙ two_second (at 0) (at 1) (at 3) (at 4) (at 6) (at 7)
    two_columns (suc (suc j)) h = absurd (omega arith)

    pub two_refuted : IsBetween least greatest y₀ → IsBetween least greatest y₁ → IsBetween least greatest y₂
        → sum ≡ pos 0 +ℤ y₀ *ℤ at 2 +ℤ y₁ *ℤ at 5 +ℤ y₂ *ℤ at 8 → AreOpposite least greatest sum → HaveNoPoint 2 lines
    unfolding whole_total
    two_refuted b₀ b₁ b₂ e opposite = refuted 2 lines two_weights least greatest sum two_columns between e opposite
      where
        between : (i : ℕ) → i < 3 → IsBetween least greatest (two_weights i)
        between zero h = b₀
        between (suc zero) h = b₁
        between (suc (suc zero)) h = b₂
        between (suc (suc (suc i))) h = absurd (omega arith)

  module _ (y₀ y₁ y₂ y₃ least greatest sum : ℤ) (e₀ : y₀ ≡ triple_at lines 1 2 3) (e₁ : y₁ ≡ triple_at lines 0 3 2) (e₂ : y₂ ≡ triple_at lines 0 1 3) (e₃ : y₃ ≡ triple_at lines 0 2 1) where
    abbrev three_weights : ℕ → ℤ
    three_weights i = whole_at (y₀ ∷ y₁ ∷ y₂ ∷ y₃ ∷ []) i

    three_columns : (j : ℕ) → j < 3 → whole_total 4 (λ i. three_weights i *ℤ line_number 3 lines i j) ≡ pos 0
    unfolding whole_total
    three_columns zero h = (λ k. pos 0 +ℤ e₀ k *ℤ at 0 +ℤ e₁ k *ℤ at 4 +ℤ e₂ k *ℤ at 8 +ℤ e₃ k *ℤ at 12) ∙ three_first (at 0) (at 1) (at 2) (at 4) (at 5) (at 6) (at 8) (at 9) (at 10) (at 12) (at 13) (at 14)
    three_columns (suc zero) h = (λ k. pos 0 +ℤ e₀ k *ℤ at 1 +ℤ e₁ k *ℤ at 5 +ℤ e₂ k *ℤ at 9 +ℤ e₃ k *ℤ at 13) ∙ three_second (at 0) (at 1) (at 2) (at 4) (at 5) (at 6) (at 8) (at 9) (at 10) (at 12) (at 13) (at 14)
    three_columns (suc (suc zero)) h = (λ k. pos 0 +ℤ e₀ k *ℤ at 2 +ℤ e₁ k *ℤ at 6 +ℤ e₂ k *ℤ at 10 +ℤ e₃ k *ℤ at 14) ∙ three_third (at 0) (at 1) (at 2) (at 4) (at 5) (at 6) (at 8) (at 9) (at 10) (at 12) (at 13) (at 14)
    three_columns (suc (suc (suc j))) h = absurd (omega arith)

    pub three_refuted : IsBetween least greatest y₀ → IsBetween least greatest y₁ → IsBetween least greatest y₂ → IsBetween least greatest y₃
        → sum ≡ pos 0 +ℤ y₀ *ℤ at 3 +ℤ y₁ *ℤ at 7 +ℤ y₂ *ℤ at 11 +ℤ y₃ *ℤ at 15 → AreOpposite least greatest sum → HaveNoPoint 3 lines
    unfolding whole_total
    three_refuted b₀ b₁ b₂ b₃ e opposite = refuted 3 lines three_weights least greatest sum three_columns between e opposite
      where
        between : (i : ℕ) → i < 4 → IsBetween least greatest (three_weights i)
        between zero h = b₀
        between (suc zero) h = b₁
        between (suc (suc zero)) h = b₂
        between (suc (suc (suc zero))) h = b₃
        between (suc (suc (suc (suc i)))) h = absurd (omega arith)
