-- On a set at most one verdict is right: the runs of a set come in one order, and each verdict names the first of them that ends the search.
use Rattle.std.proofs.Common.{◌≡◌, ℕ, zero, suc, ◌<◌, List, refl, sym, ◌∙◌, ap, subst, arith, ⊎_elim, inl, inr}
use Rattle.std.proofs.lemmas.Bool.{cases_lt}
use Rattle.mpc_space.specs.Matrix.{height}
use Rattle.mpc_space.specs.Definite.{IsDefinite}
use Rattle.mpc_rows.specs.declared.programs.Qp.{Qp}
use Rattle.mpc_rows.specs.declared.laws.Law.{Law}
use Rattle.mpc_rows.specs.declared.places.Place.{Place}
use Rattle.mpc_rows.specs.declared.places.Place.TheVariants.{Law as LawRun, Reach, Border, Region as RegionRun}
use Rattle.mpc_rows.specs.declared.verdicts.Verdict.{Verdict}
use Rattle.mpc_rows.specs.declared.verdicts.Verdict.TheVariants.{Dependent, Unreachable, Hollow, Region, Wide}
use Rattle.mpc_rows.specs.RunWidth.{RunFits}
use Rattle.mpc_rows.specs.ActiveSets.{IsIndependentSet, IsReachable}
use Rattle.mpc_rows.specs.Laws.{IsLaw, HasRegion, HasLawWith}
use Rattle.mpc_rows.specs.SetRuns.{LawFits, reach_system, LawRowsFit, RegionFits}
use Rattle.mpc_rows.specs.Verdicts.{AllFit, IsFirstWideRow, IsWideRegion, IsWideLaw, IsWideReach, IsWideBorder, IsWideInRegion, IsFirstWide, IsRight}
use Rattle.mpc_rows.specs.LawTheorems.{LawTheorems}

module _ (laws : LawTheorems) (qp : Qp) (definite : IsDefinite qp.h.rows) (s : List ℕ) where
  -- so of every law of the set
  abbrev EachLaw : (Law → Type 0) → Type 0
  EachLaw P = (law : Law) → law.set ≡ s → IsLaw qp law → P law

  -- what is asked of the set, one after the other
  abbrev Passes : ℕ → Type 0
  Passes zero = LawFits qp s
  Passes (suc zero) = IsIndependentSet qp s
  Passes (suc (suc zero)) = RunFits (reach_system qp s)
  Passes (suc (suc (suc zero))) = IsReachable qp s
  Passes (suc (suc (suc (suc zero)))) = EachLaw (λ law. LawRowsFit qp law (height qp.g))
  Passes (suc (suc (suc (suc (suc zero))))) = EachLaw (RegionFits qp)
  Passes (suc (suc (suc (suc (suc (suc zero)))))) = EachLaw (HasRegion qp)
  Passes (suc (suc (suc (suc (suc (suc (suc n))))))) = ⊥

  record WideRow (v : Verdict) : Type 0 where
    row : ℕ
    is : v ≡ Wide (Border s row)
    law : HasLawWith qp s (IsFirstWideRow qp row)

  record HasItsLaw (v : Verdict) : Type 0 where
    law : Law
    is : v ≡ Region law
    of_set : law.set ≡ s
    is_law : IsLaw qp law

  -- the verdict where this is the first that fails, the last where nothing does
  abbrev Names : Verdict → ℕ → Type 0
  Names v zero = v ≡ Wide (LawRun s)
  Names v (suc zero) = v ≡ Dependent
  Names v (suc (suc zero)) = v ≡ Wide (Reach s)
  Names v (suc (suc (suc zero))) = v ≡ Unreachable
  Names v (suc (suc (suc (suc zero)))) = WideRow v
  Names v (suc (suc (suc (suc (suc zero))))) = v ≡ Wide (RegionRun s)
  Names v (suc (suc (suc (suc (suc (suc zero)))))) = v ≡ Hollow
  Names v (suc (suc (suc (suc (suc (suc (suc zero))))))) = HasItsLaw v
  Names v (suc (suc (suc (suc (suc (suc (suc (suc n)))))))) = ⊥

  record Outcome (v : Verdict) : Type 0 where
    stage : ℕ
    passed : (j : ℕ) → j < stage → Passes j
    failed : Passes stage → ⊥
    named : Names v stage

  -- ---- the first stages
  one_passed : Passes 0 → (j : ℕ) → j < 1 → Passes j
  one_passed a zero l = a
  one_passed a (suc j) l = absurd (omega (arith, l))

  two_passed : Passes 0 → Passes 1 → (j : ℕ) → j < 2 → Passes j
  two_passed a b zero l = a
  two_passed a b (suc zero) l = b
  two_passed a b (suc (suc j)) l = absurd (omega (arith, l))

  three_passed : Passes 0 → Passes 1 → Passes 2 → (j : ℕ) → j < 3 → Passes j
  three_passed a b c zero l = a
  three_passed a b c (suc zero) l = b
  three_passed a b c (suc (suc zero)) l = c
  three_passed a b c (suc (suc (suc j))) l = absurd (omega (arith, l))

  four_passed : Passes 0 → Passes 1 → Passes 2 → Passes 3 → (j : ℕ) → j < 4 → Passes j
  four_passed a b c d zero l = a
  four_passed a b c d (suc zero) l = b
  four_passed a b c d (suc (suc zero)) l = c
  four_passed a b c d (suc (suc (suc zero))) l = d
  four_passed a b c d (suc (suc (suc (suc j)))) l = absurd (omega (arith, l))

  more_passed : (n : ℕ) → ((j : ℕ) → j < n → Passes j) → Passes n → (j : ℕ) → j < suc n → Passes j
  more_passed n before here j l = ⊎_elim (λ less. before j less) (λ least. subst Passes (omega (arith, l, least)) here) (cases_lt j n)

  -- what holds of a law of an independent set holds of every one
  each : (P : Law → Type 0) → IsIndependentSet qp s → HasLawWith qp s P → EachLaw P
  each P i h law e is = subst P (laws.law_unique qp definite h.law law h.is_law is (h.of_set ∙ sym e) (subst (IsIndependentSet qp) (sym h.of_set) i)) h.holds

  not_each : (P Q : Law → Type 0) → ((law : Law) → P law → Q law → ⊥) → HasLawWith qp s P → EachLaw Q → ⊥
  not_each P Q f h k = f h.law h.holds (k h.law h.of_set h.is_law)

  rows_fail : (row : ℕ) (law : Law) → IsFirstWideRow qp row law → LawRowsFit qp law (height qp.g) → ⊥
  rows_fail row law w fit = w.here (fit row w.from_one w.to_last)

  of_wide_law : (place : Place) → IsWideLaw qp s place → Outcome (Wide place)
  of_wide_law place w = record { stage = 0; passed = λ j l. absurd (omega (arith, l)); failed = w.1; named = ap Wide w.0 }

  of_wide_reach : (place : Place) → IsWideReach qp s place → Outcome (Wide place)
  of_wide_reach place w = record { stage = 2; passed = two_passed w.1 w.2; failed = w.3; named = ap Wide w.0 }

  of_wide_border : (place : Place) → IsWideBorder qp s place → Outcome (Wide place)
  of_wide_border place w = record {
    stage = 4;
    passed = four_passed w.2.law w.3.independent w.2.reach w.3.reachable;
    failed = not_each (IsFirstWideRow qp w.0) (λ law. LawRowsFit qp law (height qp.g)) (rows_fail w.0) w.4;
    named = record { row = w.0; is = ap Wide w.1; law = w.4 };
  }

  of_wide_region : (place : Place) → IsWideInRegion qp s place → Outcome (Wide place)
  of_wide_region place w = record {
    stage = 5;
    passed = more_passed 4 (four_passed w.1.law w.2.independent w.1.reach w.2.reachable)
        (each (λ law. LawRowsFit qp law (height qp.g)) w.2.independent (record { law = w.3.law; of_set = w.3.of_set; is_law = w.3.is_law; holds = w.3.holds.before }));
    failed = not_each (IsWideRegion qp) (RegionFits qp) (λ law h fit. h.here fit) w.3;
    named = ap Wide w.0;
  }

  of_wide : (place : Place) → IsFirstWide qp s place → Outcome (Wide place)
  of_wide place (inl w) = of_wide_law place w
  of_wide place (inr (inl w)) = of_wide_reach place w
  of_wide place (inr (inr (inl w))) = of_wide_border place w
  of_wide place (inr (inr (inr w))) = of_wide_region place w

  of_right : (v : Verdict) → IsRight qp s v → Outcome v
  of_right Dependent r = record { stage = 1; passed = one_passed r.1; failed = r.0; named = refl }
  of_right Unreachable r = record { stage = 3; passed = three_passed r.1.law r.0.0 r.1.reach; failed = r.0.1; named = refl }
  of_right Hollow r =
      let i = r.0.0.independent in
      let all : HasLawWith qp s (AllFit qp) = r.1.1 in
      record {
        stage = 6;
        passed = more_passed 5
            (more_passed 4 (four_passed r.1.0.law i r.1.0.reach r.0.0.reachable)
            (each (λ law. LawRowsFit qp law (height qp.g)) i (record { law = all.law; of_set = all.of_set; is_law = all.is_law; holds = all.holds.rows })))
            (each (RegionFits qp) i (record { law = all.law; of_set = all.of_set; is_law = all.is_law; holds = all.holds.region }));
        failed = not_each (λ law. HasRegion qp law → ⊥) (HasRegion qp) (λ law h k. h k) r.0.1;
        named = refl;
      }
  of_right (Region law) r =
      let i = r.0.0.independent in
      let e = r.0.1 in
      let is = r.0.2 in
      record {
        stage = 7;
        passed = more_passed 6
            (more_passed 5
            (more_passed 4 (four_passed r.1.0.law i r.1.0.reach r.0.0.reachable)
            (each (λ law. LawRowsFit qp law (height qp.g)) i (record { law = law; of_set = e; is_law = is; holds = r.1.1.rows })))
            (each (RegionFits qp) i (record { law = law; of_set = e; is_law = is; holds = r.1.1.region })))
            (each (HasRegion qp) i (record { law = law; of_set = e; is_law = is; holds = r.0.3 }));
        failed = λ none. none;
        named = record { law = law; is = refl; of_set = e; is_law = is };
      }
  of_right (Wide place) r = of_wide place r

  -- ---- one stage, one verdict
  first_row : (m n : ℕ) (law : Law) → IsFirstWideRow qp m law → IsFirstWideRow qp n law → m < n → ⊥
  first_row m n law a b l = a.here (b.before m a.from_one (omega (arith, l)))

  same_first : (m n : ℕ) (law : Law) → IsFirstWideRow qp m law → IsFirstWideRow qp n law → m ≡ n
  same_first m n law a b = ⊎_elim (λ l. absurd (first_row m n law a b l)) (λ p. ⊎_elim (λ l. absurd (first_row n m law b a l)) (λ q. omega (arith, p, q)) (cases_lt n m)) (cases_lt m n)

  same_row : (v w : Verdict) → IsIndependentSet qp s → WideRow v → WideRow w → v ≡ w
  same_row v w i a b =
      let moved : IsFirstWideRow qp a.row b.law.law = each (IsFirstWideRow qp a.row) i a.law b.law.law b.law.of_set b.law.is_law in
      a.is ∙ ap (λ n. Wide (Border s n)) (same_first a.row b.row b.law.law moved b.law.holds) ∙ sym b.is

  same_law : (v w : Verdict) → IsIndependentSet qp s → HasItsLaw v → HasItsLaw w → v ≡ w
  same_law v w i a b = a.is ∙ ap Region (laws.law_unique qp definite a.law b.law a.is_law b.is_law (a.of_set ∙ sym b.of_set) (subst (IsIndependentSet qp) (sym a.of_set) i)) ∙ sym b.is

  same_named : (n : ℕ) (v w : Verdict) → ((j : ℕ) → j < n → Passes j) → Names v n → Names w n → v ≡ w
  same_named zero v w p a b = a ∙ sym b
  same_named (suc zero) v w p a b = a ∙ sym b
  same_named (suc (suc zero)) v w p a b = a ∙ sym b
  same_named (suc (suc (suc zero))) v w p a b = a ∙ sym b
  same_named (suc (suc (suc (suc zero)))) v w p a b = same_row v w (p 1 (omega arith)) a b
  same_named (suc (suc (suc (suc (suc zero))))) v w p a b = a ∙ sym b
  same_named (suc (suc (suc (suc (suc (suc zero)))))) v w p a b = a ∙ sym b
  same_named (suc (suc (suc (suc (suc (suc (suc zero))))))) v w p a b = same_law v w (p 1 (omega arith)) a b
  same_named (suc (suc (suc (suc (suc (suc (suc (suc n)))))))) v w p a b = absurd a

  same_outcome : (v w : Verdict) → Outcome v → Outcome w → v ≡ w
  same_outcome v w a b =
      ⊎_elim (λ l. absurd (a.failed (b.passed a.stage l)))
      (λ p. ⊎_elim (λ l. absurd (b.failed (a.passed b.stage l))) (λ q. same_named b.stage v w b.passed (subst (Names v) (omega (arith, p, q)) a.named) b.named) (cases_lt b.stage a.stage))
      (cases_lt a.stage b.stage)

  pub one_right : (v w : Verdict) → IsRight qp s v → IsRight qp s w → v ≡ w
  one_right v w a b = same_outcome v w (of_right v a) (of_right w b)
