-- The rows of a law, formed one after another.
use Rattle.std.proofs.Common.{◌≡◌, ℕ, ◌+◌, ◌-◌, ◌<◌, ◌≤◌, List, [], ◌∷◌, ◌++◌, length, get_or, pos, sym, ◌∙◌, ap, subst, arith, ⊎_elim}
use Rattle.std.proofs.lemmas.Bool.{cases_eq}
use Rattle.std.proofs.lemmas.List.{length-append, get_or_append_left}
use Rattle.std.proofs.lemmas.List.Elements.{All-from_get_or}
use Rattle.std.proofs.Math.Seq.{get_or-append_seam}
use Rattle.mpc_space.specs.Matrix.{height}
use Rattle.mpc_linear.specs.declared.integers.RowInt.{RowInt}
use Rattle.mpc_rows.specs.declared.programs.Qp.{Qp}
use Rattle.mpc_rows.specs.declared.laws.Law.{Law}
use Rattle.mpc_rows.specs.LawRows.{IsLawRow, LawRowFits}
use Rattle.mpc_rows.specs.SetRuns.{LawRowsFit}
use Rattle.mpc_rows.specs.Verdicts.{IsFirstWideRow}
use Rattle.mpc_systems.specs.Writing.{IsOfSize, AreOfSize}

abbrev pub no_row : RowInt
no_row = record { a = []; b = pos 0 }

-- the first k rows of a law
pub record AreFirstRows (qp : Qp) (law : Law) (k : ℕ) (rows : List RowInt) : Type 0 where
  pub count : length rows ≡ k
  pub each : (j : ℕ) → j < k → IsLawRow qp law (j + 1) (get_or rows j no_row)
  pub sizes : (j : ℕ) → j < k → IsOfSize (length qp.counts) (get_or rows j no_row)
  pub fits : LawRowsFit qp law k

module _ (qp : Qp) (law : Law) where
  -- row i is the next
  module _ (i : ℕ) (from_one : 1 ≤ i) (rows : List RowInt) (before : AreFirstRows qp law (i - 1) rows) where
    pub first_more : (new : List RowInt) (row : RowInt) → new ≡ rows ++ row ∷ [] → IsLawRow qp law i row → IsOfSize (length qp.counts) row → LawRowFits qp law i → AreFirstRows qp law i new
    first_more new row e is_row size fits = subst (AreFirstRows qp law i) (sym e) (record {
      count = length-append rows (row ∷ []) ∙ omega (arith, before.count);
      each = λ j h. ⊎_elim
          (λ q. subst (λ r. IsLawRow qp law (j + 1) r) (sym (last j q)) (subst (λ k. IsLawRow qp law k row) (omega arith) is_row))
          (λ q. subst (λ r. IsLawRow qp law (j + 1) r) (sym (earlier j (omega arith))) (before.each j (omega arith)))
          (cases_eq j (i - 1));
      sizes = λ j h. ⊎_elim
          (λ q. subst (IsOfSize (length qp.counts)) (sym (last j q)) size)
          (λ q. subst (IsOfSize (length qp.counts)) (sym (earlier j (omega arith))) (before.sizes j (omega arith)))
          (cases_eq j (i - 1));
      fits = λ k h l. ⊎_elim (λ q. subst (LawRowFits qp law) (sym q) fits) (λ q. before.fits k h (omega arith)) (cases_eq k i);
    })
      where
        last : (j : ℕ) → j ≡ i - 1 → get_or (rows ++ row ∷ []) j no_row ≡ row
        last j q = ap (λ k. get_or (rows ++ row ∷ []) k no_row) (q ∙ sym before.count) ∙ get_or-append_seam rows row [] no_row

        earlier : (j : ℕ) → j < i - 1 → get_or (rows ++ row ∷ []) j no_row ≡ get_or rows j no_row
        earlier j q = get_or_append_left rows (row ∷ []) no_row j (omega (arith, before.count))

  module _ (k : ℕ) (all : k ≡ height qp.g) (rows : List RowInt) (first : AreFirstRows qp law k rows) where
    pub first_sizes : AreOfSize (length qp.counts) rows
    first_sizes = record { each = All-from_get_or (IsOfSize (length qp.counts)) rows no_row (λ j h. first.sizes j (omega (arith, first.count))) }

pub never_wide : (qp : Qp) (law : Law) (i : ℕ) → LawRowsFit qp law (height qp.g) → IsFirstWideRow qp i law → ⊥
never_wide qp law i fits w = w.here (fits i w.from_one w.to_last)
