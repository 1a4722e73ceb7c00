-- What is asked of a plant, one thing after the other, and with which outcome it fails: of all outcomes one is that of the plant.
use Rattle.std.proofs.Common.{◌≡◌, ℕ, zero, suc, ◌<◌, ◌⊎◌, inl, inr, List, refl, sym, ◌∙◌, ap, subst, arith, ⊎_elim}
use Rattle.std.proofs.lemmas.Bool.{cases_lt, false≢true}
use Rattle.mpc_space.specs.Definite.{IsDefinite}
use Rattle.mpc_sets.specs.SetOrder.{IsBefore}
use Rattle.mpc_plant.specs.declared.plants.Plant.{Plant}
use Rattle.mpc_rows.specs.declared.programs.Qp.{Qp}
use Rattle.mpc_rows.specs.declared.laws.Law.{Law}
use Rattle.mpc_rows.specs.declared.trees.Node.{Node}
use Rattle.mpc_rows.specs.declared.verdicts.Verdict.{Verdict}
use Rattle.mpc_rows.specs.declared.verdicts.Verdict.TheVariants.{Wide}
use Rattle.mpc_rows.specs.declared.places.Place.{Place}
use Rattle.mpc_rows.specs.Verdicts.{IsRight}
use Rattle.mpc_rows.specs.Candidates.{IsTable}
use Rattle.mpc_claim.specs.Board.{is_wide}
use Rattle.mpc_claim.specs.Answers.{IsFirstBad}
use Rattle.mpc_condense.specs.Condensed.{IsCondensed}
use Rattle.mpc_tree.specs.Trees.{whole_box}
use Rattle.mpc_tree.specs.Certified.{IsCertified, AreLaws}
use Rattle.mpc_tree.specs.WideRuns.{IsFirstWide as IsFirstWideRun}
use Rattle.mpc_controller.specs.Parts.{Parts}
use Rattle.mpc_controller.specs.Bounds.{KeepBounds, IsFirstBroken}
use Rattle.mpc_check.specs.Findings.{Finding, refused, too_wide as found_wide, not_definite as found_not_definite}
use Rattle.mpc_check.specs.Acceptance.{Accepts, IsFound}
use Rattle.mpc_condense.specs.Convex.{HasProgram, PivotsPass, IsConvexProgram}
use Rattle.mpc_synthesis.specs.Programs.{IsDecided, HasVerdicts}
use Rattle.mpc_synthesis.specs.Controllers.{IsSealed, IsController, OneController}
use Rattle.mpc_condense.specs.Refusals.{IsNotDefiniteAt, IsFirstWidePlace}
use Rattle.mpc_condense.specs.Outcomes.{not_definite as of_pivot, too_wide as of_place, convex}
use Rattle.mpc_synthesis.specs.Refusals.{Extent, verdicts, controller, BuildsController, FirstWide, wide_program, wide_set, wide_tree, wide_bound, wide_check}
use Rattle.mpc_synthesis.specs.Outcomes.{Outcome, not_definite, too_wide, complete, IsComplete, IsOutcome, OneOutcome}
use Rattle.mpc_synthesis.proofs.Given.{Given}
use Rattle.mpc_synthesis.proofs.Firsts.{FailsFirst, one_first}

-- the laws of a table
laws_of_table : (qp : Qp) (laws : List Law) → IsTable qp laws → AreLaws qp laws
laws_of_table qp laws table law at = (table.are_laws law at).verdict.2

place_in : Place → Verdict → Place
place_in other (Wide place) = place
place_in other v = other

same_place : (p q : Place) → Wide p ≡ Wide q → p ≡ q
unfolding place_in
same_place p q e = ap (place_in p) e

place_of : Place → Finding → Place
place_of other (refused spot) = other
place_of other (found_wide place) = place
place_of other (found_not_definite step) = other

same_found : (p q : Place) → found_wide p ≡ found_wide q → p ≡ q
unfolding place_of
same_found p q e = ap (place_of p) e

-- ---- the tests, in their order
abbrev pub EachProgram : Plant → (Qp → Type 0) → Type 0
EachProgram plant P = (qp : Qp) → IsCondensed qp plant → P qp

pub record OfProgram (plant : Plant) (P : Qp → Type 0) : Type 0 where
  pub qp : Qp
  pub condensed : IsCondensed qp plant
  pub holds : P qp

abbrev pub Decides : Qp → Type 0
Decides qp = IsDefinite qp.h.rows × IsDecided qp

abbrev pub Trees : Extent → Qp → Type 0
Trees extent qp = BuildsController extent → (laws : List Law) → IsTable qp laws → (nodes : List Node) × IsCertified qp laws whole_box nodes

abbrev pub Bounds : Extent → Plant → Qp → Type 0
Bounds extent plant qp = BuildsController extent → (laws : List Law) (nodes : List Node) → IsTable qp laws → IsCertified qp laws whole_box nodes → KeepBounds plant laws nodes

abbrev pub Checks : Extent → Plant → Qp → Type 0
Checks extent plant qp = BuildsController extent → (parts : Parts) → IsSealed plant qp parts → Accepts parts

abbrev pub Stage : Extent → Plant → ℕ → Type 0
Stage extent plant zero = (qp : Qp) × IsConvexProgram plant qp
Stage extent plant (suc zero) = EachProgram plant Decides
Stage extent plant (suc (suc zero)) = EachProgram plant (Trees extent)
Stage extent plant (suc (suc (suc zero))) = EachProgram plant (Bounds extent plant)
Stage extent plant (suc (suc (suc (suc zero)))) = EachProgram plant (Checks extent plant)
Stage extent plant (suc (suc (suc (suc (suc n))))) = ⊥

abbrev pub ProgramFails : Plant → Outcome → Type 0
ProgramFails plant s = ((j : ℕ) × IsNotDefiniteAt plant j × (s ≡ not_definite j)) ⊎ ((place : Place) × IsFirstWidePlace plant place × (s ≡ too_wide place))

abbrev pub SetFails : Outcome → Qp → Type 0
SetFails s qp = IsDefinite qp.h.rows × ((place : Place) × IsFirstBad qp (Wide place) × (s ≡ too_wide place))

abbrev pub TreeFails : Extent → Outcome → Qp → Type 0
TreeFails extent s qp = BuildsController extent × (laws : List Law) × (place : Place) × IsTable qp laws × IsFirstWideRun qp laws whole_box 1 place × (s ≡ too_wide place)

abbrev pub BoundFails : Extent → Plant → Outcome → Qp → Type 0
BoundFails extent plant s qp =
    BuildsController extent × (laws : List Law) × (nodes : List Node) × (place : Place) × IsTable qp laws × IsCertified qp laws whole_box nodes × IsFirstBroken plant laws nodes place × (s ≡ too_wide place)

pub record CheckFails (extent : Extent) (plant : Plant) (s : Outcome) (qp : Qp) : Type 0 where
  pub builds : BuildsController extent
  pub parts : Parts
  pub place : Place
  pub is_sealed : IsSealed plant qp parts
  pub found : IsFound parts (found_wide place)
  pub is : s ≡ too_wide place

abbrev pub Fails : Extent → Plant → Outcome → ℕ → Type 0
Fails extent plant s zero = ProgramFails plant s
Fails extent plant s (suc zero) = OfProgram plant (SetFails s)
Fails extent plant s (suc (suc zero)) = OfProgram plant (TreeFails extent s)
Fails extent plant s (suc (suc (suc zero))) = OfProgram plant (BoundFails extent plant s)
Fails extent plant s (suc (suc (suc (suc zero)))) = OfProgram plant (CheckFails extent plant s)
Fails extent plant s (suc (suc (suc (suc (suc zero))))) = s ≡ complete
Fails extent plant s (suc (suc (suc (suc (suc (suc n)))))) = ⊥

abbrev First : Extent → Plant → Outcome → Type 0
First extent plant s = FailsFirst (Stage extent plant) (Fails extent plant) s

module _ (given : Given) where
  -- ---- numbers of candidates
  no_bad : (qp : Qp) → IsDefinite qp.h.rows → IsDecided qp → (v : Verdict) → IsFirstBad qp v → ⊥
  no_bad qp d decided v bad =
      let good = decided bad.set bad.candidate in
      false≢true (sym good.2 ∙ ap is_wide (given.one_verdict qp d bad.set good.0 v good.1 bad.right) ∙ bad.wide)

  not_before : (qp : Qp) → IsDefinite qp.h.rows → (v w : Verdict) (a : IsFirstBad qp v) (b : IsFirstBad qp w) → IsBefore a.set b.set → ⊥
  not_before qp d v w a b before =
      let good = b.before a.set a.candidate before in
      false≢true (sym good.2 ∙ ap is_wide (given.one_verdict qp d a.set good.0 v good.1 a.right) ∙ a.wide)

  one_bad : (qp : Qp) → IsDefinite qp.h.rows → (v w : Verdict) → IsFirstBad qp v → IsFirstBad qp w → v ≡ w
  one_bad qp d v w a b =
      ⊎_elim (λ e. given.one_verdict qp d b.set v w (subst (λ s. IsRight qp s v) e a.right) b.right)
      (λ apart. ⊎_elim (λ l. absurd (not_before qp d v w a b l)) (λ l. absurd (not_before qp d w v b a l)) apart) (given.order_of_sets.total a.set b.set)

  -- ---- one table, one tree, one sealed controller
  one_program : (plant : Plant) (p q : Qp) → IsCondensed p plant → IsCondensed q plant → p ≡ q
  one_program plant p q a b = given.one_program plant p q a b

  one_nodes : (qp : Qp) (laws : List Law) (one other : List Node) → IsTable qp laws → IsCertified qp laws whole_box one → IsCertified qp laws whole_box other → one ≡ other
  one_nodes qp laws one other table a b = given.one_tree qp laws (laws_of_table qp laws table) whole_box one other a b

  pub one_sealed : (plant : Plant) (p q : Qp) (one other : Parts) → IsSealed plant p one → IsSealed plant q other → one ≡ other
  one_sealed plant p q one other a b =
      let programs : q ≡ p = one_program plant q p b.has_tree.verdicts.has_program.condensed a.has_tree.verdicts.has_program.condensed in
      let table : IsTable p other.laws = subst (λ r. IsTable r other.laws) programs b.has_tree.table in
      let laws : one.laws ≡ other.laws = given.one_table p one.laws other.laws a.has_tree.table table in
      let mine : IsCertified p other.laws whole_box one.tree = subst (λ l. IsCertified p l whole_box one.tree) laws a.has_tree.certified in
      let their : IsCertified p other.laws whole_box other.tree = subst (λ r. IsCertified r other.laws whole_box other.tree) programs b.has_tree.certified in
      let trees : one.tree ≡ other.tree = one_nodes p other.laws one.tree other.tree table mine their in
      λ i. record { plant = (a.plant_is ∙ sym b.plant_is) i; laws = laws i; tree = trees i }

  pub one_controller : OneController
  one_controller plant p q one other a b = one_sealed plant p q one other a.is_sealed b.is_sealed

  -- ---- a test that is passed doesn't fail
  program_passes : (plant : Plant) (s : Outcome) (qp : Qp) → IsConvexProgram plant qp → ProgramFails plant s → ⊥
  program_passes plant s qp p (inl f) = (let e = given.one_program_outcome plant convex (of_pivot f.0) (qp, p) f.1 in absurd (cc))
  program_passes plant s qp p (inr f) = (let e = given.one_program_outcome plant convex (of_place f.0) (qp, p) f.1 in absurd (cc))

  tree_passes : (extent : Extent) (s : Outcome) (qp : Qp) → Trees extent qp → TreeFails extent s qp → ⊥
  tree_passes extent s qp p f =
      let t = p f.0 f.1 f.3 in
      given.fits_not_wide qp f.1 (laws_of_table qp f.1 f.3) whole_box t.0 1 f.2 (given.fitting qp f.1 whole_box t.0 t.1) f.4

  clash : (extent : Extent) (plant : Plant) (s : Outcome) (n : ℕ) → Stage extent plant n → Fails extent plant s n → ⊥
  clash extent plant s zero p f = program_passes plant s p.0 p.1 f
  clash extent plant s (suc zero) p f = (let q = p f.qp f.condensed in no_bad f.qp q.0 q.1 (Wide f.holds.1.0) f.holds.1.1)
  clash extent plant s (suc (suc zero)) p f = tree_passes extent s f.qp (p f.qp f.condensed) f.holds
  clash extent plant s (suc (suc (suc zero))) p f = (let h = f.holds in given.none_broken plant h.1 h.2 h.3 (p f.qp f.condensed h.0 h.1 h.2 h.4 h.5) h.6)
  clash extent plant s (suc (suc (suc (suc zero)))) p f = (let h = f.holds in given.nothing_found h.parts (found_wide h.place) (p f.qp f.condensed h.builds h.parts h.is_sealed) h.found)
  clash extent plant s (suc (suc (suc (suc (suc n))))) p f = p

  -- ---- and one that fails does so with one outcome
  at_one : (plant : Plant) (P Q : Qp → Type 0) (A : Type 0) → ((qp : Qp) → P qp → Q qp → A) → OfProgram plant P → OfProgram plant Q → A
  at_one plant P Q A f v w = f w.qp (subst P (one_program plant v.qp w.qp v.condensed w.condensed) v.holds) w.holds

  one_refusal : (plant : Plant) (s t : Outcome) → ProgramFails plant s → ProgramFails plant t → s ≡ t
  one_refusal plant s t (inl v) (inl w) = (let e = given.one_program_outcome plant (of_pivot v.0) (of_pivot w.0) v.1 w.1 in let same : v.0 ≡ w.0 = cc in v.2 ∙ ap not_definite same ∙ sym w.2)
  one_refusal plant s t (inl v) (inr w) = (let e = given.one_program_outcome plant (of_pivot v.0) (of_place w.0) v.1 w.1 in absurd (cc))
  one_refusal plant s t (inr v) (inl w) = (let e = given.one_program_outcome plant (of_place v.0) (of_pivot w.0) v.1 w.1 in absurd (cc))
  one_refusal plant s t (inr v) (inr w) = (let e = given.one_program_outcome plant (of_place v.0) (of_place w.0) v.1 w.1 in let same : v.0 ≡ w.0 = cc in v.2 ∙ ap too_wide same ∙ sym w.2)

  one_set : (s t : Outcome) (qp : Qp) → SetFails s qp → SetFails t qp → s ≡ t
  one_set s t qp v w = v.1.2 ∙ ap too_wide (same_place v.1.0 w.1.0 (one_bad qp v.0 (Wide v.1.0) (Wide w.1.0) v.1.1 w.1.1)) ∙ sym w.1.2

  one_tree_place : (extent : Extent) (s t : Outcome) (qp : Qp) → TreeFails extent s qp → TreeFails extent t qp → s ≡ t
  one_tree_place extent s t qp v w =
      let mine : IsFirstWideRun qp w.1 whole_box 1 v.2 = subst (λ laws. IsFirstWideRun qp laws whole_box 1 v.2) (given.one_table qp v.1 w.1 v.3 w.3) v.4 in
      v.5 ∙ ap too_wide (given.one_first_wide qp w.1 (laws_of_table qp w.1 w.3) whole_box 1 v.2 w.2 mine w.4) ∙ sym w.5

  one_bound : (extent : Extent) (plant : Plant) (s t : Outcome) (qp : Qp) → BoundFails extent plant s qp → BoundFails extent plant t qp → s ≡ t
  one_bound extent plant s t qp v w =
      let table : v.1 ≡ w.1 = given.one_table qp v.1 w.1 v.4 w.4 in
      let certified : IsCertified qp w.1 whole_box v.2 = subst (λ laws. IsCertified qp laws whole_box v.2) table v.5 in
      let nodes : v.2 ≡ w.2 = one_nodes qp w.1 v.2 w.2 w.4 certified w.5 in
      let mine : IsFirstBroken plant w.1 w.2 v.3 = subst (λ n. IsFirstBroken plant w.1 n v.3) nodes (subst (λ laws. IsFirstBroken plant laws v.2 v.3) table v.6) in
      v.7 ∙ ap too_wide (given.one_broken plant w.1 w.2 v.3 w.3 mine w.6) ∙ sym w.7

  one_check : (extent : Extent) (plant : Plant) (s t : Outcome) (qp : Qp) → CheckFails extent plant s qp → CheckFails extent plant t qp → s ≡ t
  one_check extent plant s t qp v w =
      let mine : IsFound w.parts (found_wide v.place) = subst (λ parts. IsFound parts (found_wide v.place)) (one_sealed plant qp qp v.parts w.parts v.is_sealed w.is_sealed) v.found in
      v.is ∙ ap too_wide (same_found v.place w.place (given.one_finding w.parts (found_wide v.place) (found_wide w.place) mine w.found)) ∙ sym w.is

  one_failure : (extent : Extent) (plant : Plant) (s t : Outcome) (n : ℕ) → Fails extent plant s n → Fails extent plant t n → s ≡ t
  one_failure extent plant s t zero f g = one_refusal plant s t f g
  one_failure extent plant s t (suc zero) f g = at_one plant (SetFails s) (SetFails t) (s ≡ t) (λ qp v w. one_set s t qp v w) f g
  one_failure extent plant s t (suc (suc zero)) f g = at_one plant (TreeFails extent s) (TreeFails extent t) (s ≡ t) (λ qp v w. one_tree_place extent s t qp v w) f g
  one_failure extent plant s t (suc (suc (suc zero))) f g = at_one plant (BoundFails extent plant s) (BoundFails extent plant t) (s ≡ t) (λ qp v w. one_bound extent plant s t qp v w) f g
  one_failure extent plant s t (suc (suc (suc (suc zero)))) f g = at_one plant (CheckFails extent plant s) (CheckFails extent plant t) (s ≡ t) (λ qp v w. one_check extent plant s t qp v w) f g
  one_failure extent plant s t (suc (suc (suc (suc (suc zero))))) f g = f ∙ sym g
  one_failure extent plant s t (suc (suc (suc (suc (suc (suc n)))))) f g = absurd f

  -- ---- each cause is the first test that fails
  each : (plant : Plant) (P : Qp → Type 0) (qp : Qp) → IsCondensed qp plant → P qp → EachProgram plant P
  each plant P qp condensed holds = λ two other. subst P (one_program plant qp two condensed other) holds

  definite_by : (plant : Plant) (qp : Qp) → HasProgram plant qp → PivotsPass qp → IsDefinite qp.h.rows
  definite_by plant qp h p = given.definite_by_pivots qp.h.rows h.condensed.h_symmetric p.positive

  decides : (plant : Plant) (qp : Qp) → HasVerdicts plant qp → Decides qp
  decides plant qp v = (definite_by plant qp v.has_program v.pivots, v.decided)

  more_passed : (extent : Extent) (plant : Plant) (k : ℕ) → ((j : ℕ) → j < k → Stage extent plant j) → Stage extent plant k → (j : ℕ) → j < suc k → Stage extent plant j
  more_passed extent plant k before here j l = ⊎_elim (λ less. before j less) (λ least. let e : k ≡ j = omega (arith, l, least) in subst (Stage extent plant) e here) (cases_lt j k)

  module _ (extent : Extent) (plant : Plant) where
    one_passed : (qp : Qp) → HasProgram plant qp → PivotsPass qp → (j : ℕ) → j < 1 → Stage extent plant j
    one_passed qp h p = more_passed extent plant 0 (λ j l. absurd (omega (arith, l))) (qp, record { has_program = h; pivots = p; definite = definite_by plant qp h p })

    two_passed : (qp : Qp) → HasVerdicts plant qp → (j : ℕ) → j < 2 → Stage extent plant j
    two_passed qp v = more_passed extent plant 1 (one_passed qp v.has_program v.pivots) (each plant Decides qp v.has_program.condensed (decides plant qp v))

    three_passed : (qp : Qp) → HasVerdicts plant qp → Trees extent qp → (j : ℕ) → j < 3 → Stage extent plant j
    three_passed qp v t = more_passed extent plant 2 (two_passed qp v) (each plant (Trees extent) qp v.has_program.condensed t)

    four_passed : (qp : Qp) → HasVerdicts plant qp → Trees extent qp → Bounds extent plant qp → (j : ℕ) → j < 4 → Stage extent plant j
    four_passed qp v t b = more_passed extent plant 3 (three_passed qp v t) (each plant (Bounds extent plant) qp v.has_program.condensed b)

    five_passed : (qp : Qp) → HasVerdicts plant qp → Trees extent qp → Bounds extent plant qp → Checks extent plant qp → (j : ℕ) → j < 5 → Stage extent plant j
    five_passed qp v t b k = more_passed extent plant 4 (four_passed qp v t b) (each plant (Checks extent plant) qp v.has_program.condensed k)

  -- ---- the table and its tree
  module _ (qp : Qp) (laws : List Law) (nodes : List Node) (table : IsTable qp laws) (certified : IsCertified qp laws whole_box nodes) where
    has_trees : (extent : Extent) → Trees extent qp
    has_trees extent builds other t = (nodes, subst (λ l. IsCertified qp l whole_box nodes) (given.one_table qp laws other table t) certified)

    keeps_bounds : (extent : Extent) (plant : Plant) → KeepBounds plant laws nodes → Bounds extent plant qp
    keeps_bounds extent plant kept builds other tree t c =
        let same : other ≡ laws = given.one_table qp other laws t table in
        let mine : IsCertified qp laws whole_box tree = subst (λ l. IsCertified qp l whole_box tree) same c in
        let trees : tree ≡ nodes = one_nodes qp laws tree nodes table mine certified in
        subst (λ n. KeepBounds plant other n) (sym trees) (subst (λ l. KeepBounds plant l nodes) (sym same) kept)

  sealed_passed : (extent : Extent) (plant : Plant) (qp : Qp) (parts : Parts) → IsSealed plant qp parts → (j : ℕ) → j < 4 → Stage extent plant j
  sealed_passed extent plant qp parts is =
      four_passed extent plant qp is.has_tree.verdicts (has_trees qp parts.laws parts.tree is.has_tree.table is.has_tree.certified extent)
      (keeps_bounds qp parts.laws parts.tree is.has_tree.table is.has_tree.certified extent plant is.fits.bounds)

  wide_first : (extent : Extent) (plant : Plant) (place : Place) → FirstWide plant extent place → First extent plant (too_wide place)
  wide_first _ plant _ (wide_program extent place w) = record { place = 0; passed = λ j l. absurd (omega (arith, l)); fails = inr (place, w, refl) }
  wide_first _ plant _ (wide_set extent qp place h p bad) =
      record { place = 1; passed = one_passed extent plant qp h p; fails = record { qp = qp; condensed = h.condensed; holds = (definite_by plant qp h p, (place, bad, refl)) } }
  wide_first _ plant _ (wide_tree extent qp laws place builds v table w) =
      record { place = 2; passed = two_passed extent plant qp v; fails = record { qp = qp; condensed = v.has_program.condensed; holds = (builds, laws, place, table, w, refl) } }
  wide_first _ plant _ (wide_bound extent qp laws nodes place builds h w) = record {
    place = 3;
    passed = three_passed extent plant qp h.verdicts (has_trees qp laws nodes h.table h.certified extent);
    fails = record { qp = qp; condensed = h.verdicts.has_program.condensed; holds = (builds, laws, nodes, place, h.table, h.certified, w, refl) };
  }
  wide_first _ plant _ (wide_check extent qp parts place builds is w) = record {
    place = 4;
    passed = sealed_passed extent plant qp parts is;
    fails = record { qp = qp; condensed = is.has_tree.verdicts.has_program.condensed; holds = record { builds = builds; parts = parts; place = place; is_sealed = is; found = w; is = refl } };
  }

  accepts_all : (extent : Extent) (plant : Plant) (qp : Qp) (parts : Parts) → IsController plant qp parts → Checks extent plant qp
  accepts_all extent plant qp parts is builds other sealed = subst Accepts (one_sealed plant qp qp parts other is.is_sealed sealed) is.accepted

  built_first : (extent : Extent) (plant : Plant) (qp : Qp) (parts : Parts) → IsController plant qp parts → First extent plant complete
  built_first extent plant qp parts is = record {
    place = 5;
    passed = more_passed extent plant 4 (sealed_passed extent plant qp parts is.is_sealed) (each plant (Checks extent plant) qp is.is_sealed.has_tree.verdicts.has_program.condensed (accepts_all extent plant qp parts is));
    fails = refl;
  }

  complete_first : (extent : Extent) (plant : Plant) → IsComplete extent plant → First extent plant complete
  complete_first verdicts plant a = record { place = 5; passed = five_passed verdicts plant a.0 a.1 (λ builds. absurd builds) (λ builds. absurd builds) (λ builds. absurd builds); fails = refl }
  complete_first controller plant a = built_first controller plant a.0 a.1.0 a.1.1

  outcome_first : (extent : Extent) (plant : Plant) (s : Outcome) → IsOutcome extent plant s → First extent plant s
  outcome_first extent plant (not_definite pivot) h = record { place = 0; passed = λ j l. absurd (omega (arith, l)); fails = inl (pivot, h, refl) }
  outcome_first extent plant (too_wide place) h = wide_first extent plant place h
  outcome_first extent plant complete h = complete_first extent plant h

  pub one_outcome : OneOutcome
  one_outcome extent plant s t a b =
      one_first (Stage extent plant) (Fails extent plant) (λ s n p f. clash extent plant s n p f) (λ s t n f g. one_failure extent plant s t n f g) s t (outcome_first extent plant s a) (outcome_first extent plant t b)
