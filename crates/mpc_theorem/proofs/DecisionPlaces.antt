-- The runs that decide a set are those that its verdicts speak of.
use Rattle.std.proofs.Common.{◌≡◌, ℕ, inl, inr, false, List, refl, sym, subst, arith}
use Rattle.mpc_space.specs.Matrix.{height}
use Rattle.mpc_rows.specs.declared.programs.Qp.{Qp}
use Rattle.mpc_rows.specs.declared.laws.Law.{Law}
use Rattle.mpc_rows.specs.declared.places.Place.{Place}
use Rattle.mpc_rows.specs.declared.verdicts.Verdict.{Verdict}
use Rattle.mpc_rows.specs.declared.verdicts.Verdict.TheVariants.{Dependent, Unreachable, Hollow, Region, Wide}
use Rattle.mpc_rows.specs.Candidates.{IsVerdict}
use Rattle.mpc_rows.specs.LawRows.{LawRowFits}
use Rattle.mpc_rows.specs.Laws.{HasLawWith}
use Rattle.mpc_rows.specs.Verdicts.{RunsFit, IsRight, IsFirstWideRow, IsFirstWide}
use Rattle.mpc_claim.specs.Board.{is_wide}
use Rattle.mpc_theorem.specs.Firsts.{IsFirstOf, numbered}
use Rattle.mpc_theorem.specs.DecisionRuns.{SetFits, IsWideRun, wide_law, wide_reach, wide_row, wide_region}
use Rattle.mpc_theorem.proofs.FirstLemmas.{to_number, of_number}

-- ---- a set that is decided
pub to_set_fits : (qp : Qp) (s : List ℕ) (verdict : Verdict) → IsRight qp s verdict → is_wide verdict ≡ false → SetFits qp s
to_set_fits qp s Dependent h e = (Dependent, h.0, h.1)
to_set_fits qp s Unreachable h e = (Unreachable, h.0, h.1)
to_set_fits qp s Hollow h e = (Hollow, h.0, h.1)
to_set_fits qp s (Region law) h e = (Region law, h.0, h.1)
to_set_fits qp s (Wide place) h e = absurd cc

pub of_set_fits : (qp : Qp) (s : List ℕ) → SetFits qp s → (verdict : Verdict) × IsRight qp s verdict × (is_wide verdict ≡ false)
of_set_fits qp s h = by h.0 h.1 h.2
  where
    by : (verdict : Verdict) → IsVerdict qp s verdict → RunsFit qp s verdict → (other : Verdict) × IsRight qp s other × (is_wide other ≡ false)
    by Dependent is fit = (Dependent, (is, fit), refl)
    by Unreachable is fit = (Unreachable, (is, fit), refl)
    by Hollow is fit = (Hollow, (is, fit), refl)
    by (Region law) is fit = (Region law, (is, fit), refl)
    by (Wide place) is fit = absurd is

-- ---- the first run that is too wide
module _ (qp : Qp) (s : List ℕ) where
  to_first_row : (i : ℕ) (law : Law) → IsFirstWideRow qp i law → IsFirstOf (LawRowFits qp law) (numbered (λ k. k) 1 (height qp.g)) i
  to_first_row i law w = of_number (LawRowFits qp law) (λ k. k) 1 (height qp.g) i (record {
    number = i;
    low = w.from_one;
    high = omega (arith, w.to_last);
    is = refl;
    before = λ k low high. w.before k low (omega (arith, high));
    here = w.here;
  })

  of_first_row : (i : ℕ) (law : Law) → IsFirstOf (LawRowFits qp law) (numbered (λ k. k) 1 (height qp.g)) i → IsFirstWideRow qp i law
  of_first_row i law h =
      let f = to_number (LawRowFits qp law) (λ k. k) 1 (height qp.g) i h in
      subst (λ k. IsFirstWideRow qp k law) (sym f.is) (record {
        from_one = f.low;
        to_last = omega (arith, f.high);
        before = λ k low high. f.before k low (omega (arith, high, f.low));
        here = f.here;
      })

  weaker : (P Q : Law → Type 0) → ((law : Law) → P law → Q law) → HasLawWith qp s P → HasLawWith qp s Q
  weaker P Q f h = record { law = h.law; of_set = h.of_set; is_law = h.is_law; holds = f h.law h.holds }

  pub to_wide_run : (place : Place) → IsFirstWide qp s place → IsWideRun qp s place
  to_wide_run place (inl (e, wide)) = subst (IsWideRun qp s) (sym e) (wide_law wide)
  to_wide_run place (inr (inl (e, fits, independent, wide))) = subst (IsWideRun qp s) (sym e) (wide_reach fits independent wide)
  to_wide_run place (inr (inr (inl (i, e, fits, grows, has)))) = subst (IsWideRun qp s) (sym e) (wide_row i fits grows (weaker _ _ (to_first_row i) has))
  to_wide_run place (inr (inr (inr (e, fits, grows, has)))) = subst (IsWideRun qp s) (sym e) (wide_region fits grows (weaker _ _ (λ law w. (w.before, w.here)) has))

  pub of_wide_run : (place : Place) → IsWideRun qp s place → IsFirstWide qp s place
  of_wide_run place (wide_law wide) = inl (refl, wide)
  of_wide_run place (wide_reach fits independent wide) = inr (inl (refl, fits, independent, wide))
  of_wide_run place (wide_row i fits grows has) = inr (inr (inl (i, refl, fits, grows, weaker _ _ (of_first_row i) has)))
  of_wide_run place (wide_region fits grows has) = inr (inr (inr (refl, fits, grows, weaker _ _ (λ law w. record { before = w.0; here = w.1 }) has)))
