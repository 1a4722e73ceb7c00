-- A run of the elimination, column by column.
use Rattle.std.proofs.Common.{◌≡◌, ℕ, ◌+◌, ◌<◌, Option, Some, None, sym, ◌∙◌, ap, subst, arith, ⊎_elim, add-one}
use Rattle.std.proofs.lemmas.Bool.{cases_eq}
use Rattle.mpc_linear.specs.Elimination.{Table, exchanged, reduced, eliminated, pivot_row, ColumnFits, ColumnDone, ColumnsDone, EndsDependent, EndsWide}
use Rattle.mpc_linear.specs.Stored.{SameFrom}
use Rattle.mpc_linear.proofs.Solutions.{eliminated-suc, eliminated-zero}
use Rattle.mpc_linear.proofs.Agreement.{pivot_same, exchanged_same, reduced_same, fits_same, same_back}

pub same_start : (n w : ℕ) (t : Table) → SameFrom n w 0 t (eliminated n t 0)
same_start n w t i j hi l m = ap (λ s. s i j) (sym (eliminated-zero n t))

-- the stored table t is that of the run from first, after c columns
module _ (n w : ℕ) (first t : Table) (c : ℕ) (hc : c < n) (hw : c < w) (before : ColumnsDone n w first c) (same : SameFrom n w c t (eliminated n first c)) where
  abbrev s : Table
  s = eliminated n first c

  pivot_is : (o : Option ℕ) → o ≡ pivot_row n t c → pivot_row n s c ≡ o
  pivot_is o e = sym (e ∙ pivot_same n w c t s (omega arith) hw same)

  pub ends_dependent : None ≡ pivot_row n t c → EndsDependent n w first c
  ends_dependent e = record { before = before; below = hc; no_pivot = pivot_is None e }

  module _ (p : ℕ) (hp : p < n) (e : Some p ≡ pivot_row n t c) where
    exchange : SameFrom n w c (exchanged c p t) (exchanged c p s)
    exchange = exchanged_same n w c p t s hc hp hw same

    pub ends_wide : (ColumnFits n w c (exchanged c p t) → ⊥) → EndsWide n w first c
    ends_wide h = record {
      before = before;
      below = hc;
      pivot = p;
      has_pivot = pivot_is (Some p) e;
      wide = λ f. h (fits_same n w c (exchanged c p t) (exchanged c p s) hc hw exchange f);
    }

    pub column_more : ColumnFits n w c (exchanged c p t) → ColumnsDone n w first (c + 1)
    column_more f k l = ⊎_elim
        (λ q. subst (λ k. (p : ℕ) × ColumnDone n w first k p) (sym q)
        (p, record { pivot = pivot_is (Some p) e; fits = fits_same n w c (exchanged c p s) (exchanged c p t) hc hw (same_back n w c (exchanged c p t) (exchanged c p s) exchange) f }))
        (λ q. before k (omega arith))
        (cases_eq k c)

    pub table_more : (r : Table) → SameFrom n w (c + 1) r (reduced c (exchanged c p t)) → SameFrom n w (c + 1) r (eliminated n first (c + 1))
    table_more r h i j hi l m =
        h i j hi l m ∙ reduced_same n w c (exchanged c p t) (exchanged c p s) hc hw exchange i j hi (omega arith) m
        ∙ ap (λ u. u i j) (sym (eliminated-suc n first c p (pivot_is (Some p) e)) ∙ ap (eliminated n first) (sym (add-one c)))
