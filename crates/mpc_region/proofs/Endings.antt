-- A run of the elimination ends in one way only.
use Rattle.std.proofs.Common.{◌≡◌, ℕ, Some, None, sym, ◌∙◌, ap, subst, arith, ⊎_elim}
use Rattle.std.proofs.lemmas.Bool.{cases_eq, cases_lt}
use Rattle.mpc_space.specs.Matrix.{RationalMatrix}
use Rattle.mpc_linear.specs.Elimination.{Table, exchanged, eliminated, pivot_row, ColumnFits, ColumnDone, ColumnsDone, EndsDependent, EndsWide}
use Rattle.mpc_linear.specs.Solution.{FitsTo, IsWideColumn}
use Rattle.mpc_linear.specs.declared.elimination.Solved.{Solved}
use Rattle.mpc_linear.specs.declared.elimination.Solved.TheVariants.{Unique, Dependent}

some_none : (p : ℕ) → Some p ≡ None → ⊥
some_none p e = cc

same_some : (p q : ℕ) → Some p ≡ Some q → p ≡ q
same_some p q e = cc

module _ (n width : ℕ) (t : Table) where
  -- a column that is done is not the wide one
  not_wide : (c p : ℕ) → ColumnDone n width t c p → (d : ℕ) → d ≡ c → EndsWide n width t d → ⊥
  not_wide c p done d e w =
      w.wide (subst (λ k. ColumnFits n width k (exchanged k w.pivot (eliminated n t k))) (sym e)
      (subst (λ q. ColumnFits n width c (exchanged c q (eliminated n t c)))
      (same_some p w.pivot (sym done.pivot ∙ ap (λ k. pivot_row n (eliminated n t k) k) (sym e) ∙ w.has_pivot)) done.fits))

  done-not_wide : (c : ℕ) → ColumnsDone n width t n → EndsWide n width t c → ⊥
  done-not_wide c done w = let d = done c w.below in not_wide c d.0 d.1 c (λ i. c) w

  dependent-not_wide : (c d : ℕ) → EndsDependent n width t c → EndsWide n width t d → ⊥
  dependent-not_wide c d k w =
      ⊎_elim
      (λ l. let e = k.before d l in not_wide d e.0 e.1 d (λ i. d) w)
      (λ l. ⊎_elim
      (λ e. some_none w.pivot (sym w.has_pivot ∙ ap (λ i. pivot_row n (eliminated n t i) i) e ∙ k.no_pivot))
      (λ e. let q = w.before c (omega arith) in some_none q.0 (sym q.1.pivot ∙ k.no_pivot))
      (cases_eq d c))
      (cases_lt d c)

pub fits-not_wide : (m rhs : RationalMatrix) (solved : Solved) → FitsTo m rhs solved → (column : ℕ) → ¬ IsWideColumn m rhs column
fits-not_wide m rhs (Unique x) h column w = done-not_wide _ _ _ w.0 h w.2
fits-not_wide m rhs (Dependent c) h column w = dependent-not_wide _ _ _ h.0 w.0 h.2 w.2
