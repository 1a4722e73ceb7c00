-- A table has few laws: their sets are different, and of few of the program's rows.
use Rattle.std.proofs.Common.{◌≡◌, ◌≢◌, ℕ, ◌*◌, ◌≤◌, ◌⊎◌, true, false, nat_le, List, [], ◌∷◌, length, map, get_or, inl, inr, sym, subst, arith, All, AllPairs}
use Rattle.std.specs.Prelude.{Contains}
use Rattle.std.proofs.lemmas.List.{length-map}
use Rattle.std.proofs.lemmas.List.Elements.{All-map}
use Rattle.std.proofs.lemmas.Bool.{cases_Bool, cond-false, leb-true}
use Rattle.mpc_space.specs.Matrix.{height}
use Rattle.mpc_sets.specs.RowSet.{RisesWithin, IsSetOfRows}
use Rattle.mpc_sets.specs.SetOrder.{IsBefore, IsInOrder}
use Rattle.mpc_sets.specs.SetTheorems.{CountTheorems, OrderTheorems}
use Rattle.mpc_rows.specs.declared.programs.Qp.{Qp}
use Rattle.mpc_rows.specs.declared.laws.Law.{Law}
use Rattle.mpc_rows.specs.Laws.{HasLawShape}
use Rattle.mpc_rows.specs.Candidates.{IsTable}
use Rattle.mpc_controller.specs.Parts.{row_count}
use Rattle.mpc_synthesis.specs.RightReplies.{TableIsSmall, TableOfFourIsSmall, PlantTableIsSmall}
use Rattle.mpc_synthesis.proofs.ElementLemmas.{all_contained}

-- what is so of each law of a table
pub table_shape : (qp : Qp) (laws : List Law) → IsTable qp laws → (law : Law) → Contains laws law → HasLawShape qp law
table_shape qp laws t law c = (t.are_laws law c).verdict.2.shape

rises_higher : (low high top : ℕ) (s : List ℕ) → high ≤ top → RisesWithin low high s → RisesWithin low top s
rises_higher low high top [] h r = tt
rises_higher low high top (i ∷ s) h r = (r.0, omega (arith, r.1), rises_higher i high top s h r.2)

module _ (counts : CountTheorems) (order : OrderTheorems) where
  different_in_order : (sets : List (List ℕ)) → IsInOrder sets → AllPairs (λ s t. s ≢ t) sets
  different_in_order sets h i j d p q e = order.irreflexive (get_or sets j d) (subst (λ s. IsBefore s (get_or sets j d)) e (h i j d p q))

  module _ (qp : Qp) (laws : List Law) (table : IsTable qp laws) where
    sets : List (List ℕ)
    sets = map (λ law. law.set) laws

    sets_differ : AllPairs (λ s t. s ≢ t) sets
    unfolding sets
    sets_differ = different_in_order sets table.in_order

    sets_small : (most : ℕ) → height qp.h ≤ most → All (λ s. length s ≤ most) sets
    unfolding sets
    sets_small most h =
        All-map (λ s. length s ≤ most) (λ law. law.set) laws
        (all_contained laws (λ law. length law.set ≤ most) (λ law c. (let few = (table_shape qp laws table law c).few in omega arith)))

    sets_within : (top : ℕ) → height qp.g ≤ top → All (IsSetOfRows top) sets
    unfolding sets
    sets_within top h =
        All-map (IsSetOfRows top) (λ law. law.set) laws
        (all_contained laws (λ law. IsSetOfRows top law.set) (λ law c. record { rises = rises_higher 0 (height qp.g) top law.set h (table_shape qp laws table law c).set_of_rows.rises }))

    length_sets : length sets ≡ length laws
    unfolding sets
    length_sets = length-map laws (λ law. law.set)

    of_forty : height qp.g ≤ 40 → length laws ≤ 4598479
    of_forty h = subst (λ n. n ≤ 4598479) length_sets (counts.six_of_forty sets sets_differ (sets_within 40 h) (sets_small 6 qp.is_program.few_unknowns))

    of_four : height qp.h ≤ 4 → length laws ≤ 523686
    of_four h = subst (λ n. n ≤ 523686) length_sets (counts.four_of_sixty sets sets_differ (sets_within 60 qp.is_program.few_rows) (sets_small 4 h))

  pub laws_of_forty : TableIsSmall
  laws_of_forty qp laws table h = of_forty qp laws table h

  pub laws_of_four : TableOfFourIsSmall
  laws_of_four qp laws table h = of_four qp laws table h

  pub laws_of_plant : PlantTableIsSmall
  laws_of_plant plant qp laws condensed table = by (cases_Bool (nat_le (plant.p * plant.horizon) 4))
    where
      by : (nat_le (plant.p * plant.horizon) 4 ≡ true) ⊎ (nat_le (plant.p * plant.horizon) 4 ≡ false) → length laws ≤ 4598479
      by (inl e) = let few = of_four qp laws table (subst (λ n. n ≤ 4) (sym condensed.unknowns_are) (leb-true (plant.p * plant.horizon) 4 e)) in omega arith
      by (inr e) =
          of_forty qp laws table
          (subst (λ n. n ≤ 40) (sym condensed.rows_are) (subst (λ limit. row_count plant ≤ limit) (cond-false (nat_le (plant.p * plant.horizon) 4) 60 40 e) plant.is_plant.rows_few))
