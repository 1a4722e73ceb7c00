-- The tests of rows one after another, until one isn't met.
use Rattle.std.proofs.Common.{◌≡◌, ℕ, ◌+◌, ◌<◌, ◌≤◌, List, [], ◌∷◌, pos, Result, MatchResult, sym, subst, arith, ⊎_elim, None}
use Rattle.std.proofs.lemmas.Bool.{cases_eq, cases_lt}
use Rattle.mpc_exact.specs.Rational.{ℚ, int, ◌+ℚ◌, ◌-ℚ◌, neg_ℚ, IsPositive}
use Rattle.mpc_exact.proofs.RationalRing.{reads, by_ring}
use Rattle.mpc_exact.proofs.RationalOrder.{strict_gap, from_strict_gap}
use Rattle.mpc_frac.specs.Fits.{FitsSum}
use Rattle.mpc_frac.specs.declared.Wide.{Wide}
use Rattle.mpc_space.specs.Matrix.{height}
use Rattle.mpc_space.proofs.Outcomes.{fits_as}
use Rattle.mpc_linear.specs.Dot.{DotFits}
use Rattle.mpc_rows.specs.ActiveSets.{row_of}
use Rattle.mpc_rows.specs.declared.programs.Qp.{Qp}
use Rattle.mpc_online.specs.StateRows.{level, side, IsViolated, IsFirstOutside, IsFirstViolated}
use Rattle.mpc_online.specs.Widths.{TestFits, TestsFit}

pub nothing_more : (x : ℚ) → int (pos 0) +ℚ x ≡ x
nothing_more x = by_ring (x ∷ []) (search reads depth 30) (search reads depth 30) tt

module _ (qp : Qp) (b z : List ℚ) where
  -- the rows below i are met, and their tests fit
  pub record AreMet (i : ℕ) : Type 0 where
    pub met : (j : ℕ) → 1 ≤ j → j < i → ¬ IsViolated qp b z j
    pub fit : (j : ℕ) → 1 ≤ j → j < i → TestFits qp b z j

  pub met_none : AreMet 1
  met_none = record { met = λ j h l. absurd (omega arith); fit = λ j h l. absurd (omega arith) }

  pub is_violated : (i : ℕ) (a : ℚ) → a ≡ level qp z i -ℚ side b i → IsPositive a → IsViolated qp b z i
  is_violated i a e h = record { above = from_strict_gap (subst IsPositive e h) }

  pub is_positive : (i : ℕ) (a : ℚ) → a ≡ level qp z i -ℚ side b i → IsViolated qp b z i → IsPositive a
  is_positive i a e v = subst IsPositive (sym e) (strict_gap v.above)

  pub met_more : (i : ℕ) → ¬ IsViolated qp b z i → TestFits qp b z i → AreMet i → AreMet (i + 1)
  met_more i h f m = record {
    met = λ j from to. ⊎_elim (λ q v. h (subst (IsViolated qp b z) q v)) (λ q. m.met j from (omega arith)) (cases_eq j i);
    fit = λ j from to. ⊎_elim (λ q. subst (TestFits qp b z) (sym q) f) (λ q. m.fit j from (omega arith)) (cases_eq j i);
  }

  pub found_first : (i : ℕ) → IsViolated qp b z i → 1 ≤ i → i ≤ height qp.g → AreMet i → IsFirstOutside qp b z i
  found_first i v from to m = record { from_one = from; to_last = to; violated = v; before = m.met }

  pub found_fits : (i : ℕ) → IsViolated qp b z i → 1 ≤ i → TestFits qp b z i → AreMet i → TestsFit qp b z
  found_fits i v from f m j one last none_before = ⊎_elim (λ l. m.fit j one l) (λ l. ⊎_elim (λ q. subst (TestFits qp b z) (sym q) f) (λ q. absurd (none_before i from (omega arith) v)) (cases_eq j i)) (cases_lt j i)

  pub met_all : (i : ℕ) → height qp.g < i → AreMet i → IsFirstViolated qp b z None
  met_all i l m j from to = m.met j from (omega arith)

  pub all_fit : (i : ℕ) → height qp.g < i → AreMet i → TestsFit qp b z
  all_fit i l m j from to h = m.fit j from (omega arith)

  pub found_wide : (i : ℕ) → 1 ≤ i → i ≤ height qp.g → ¬ TestFits qp b z i → AreMet i → ¬ TestsFit qp b z
  found_wide i from to h m f = h (f i from to m.met)

module _ (qp : Qp) (b z : List ℚ) (i : ℕ) where
  pub test_fits : (l s : ℚ) → l ≡ level qp z i → s ≡ side b i → DotFits (row_of qp.g.rows i) z → (r : Result ℚ Wide) → MatchResult r (λ _. FitsSum l (neg_ℚ s)) (λ _. ¬ FitsSum l (neg_ℚ s)) → MatchResult r (λ _. TestFits qp b z i) (λ _. ¬ TestFits qp b z i)
  test_fits l s e f d r h = fits_as r (FitsSum l (neg_ℚ s)) (TestFits qp b z i)
      (λ k. record { product = d; difference = subst (λ u. FitsSum u (neg_ℚ (side b i))) e (subst (λ u. FitsSum l (neg_ℚ u)) f k) })
      (λ k. subst (λ u. FitsSum u (neg_ℚ s)) (sym e) (subst (λ u. FitsSum (level qp z i) (neg_ℚ u)) (sym f) k.difference)) h

  pub test_wide : (row : List ℚ) → row ≡ row_of qp.g.rows i → ¬ DotFits row z → ¬ TestFits qp b z i
  test_wide row e h f = h (subst (λ r. DotFits r z) (sym e) f.product)
