-- A table has few laws: their sets are different, and of at most six of at most sixty rows.
use Rattle.std.proofs.Common.{◌≡◌, ◌≢◌, ℕ, ◌^◌, ◌<◌, ◌≤◌, ◌⊎◌, ⊎_elim, List, [], ◌∷◌, length, map, get_or, sym, ◌∙◌, subst, arith, All, AllPairs}
use Rattle.std.specs.Prelude.{Contains}
use Rattle.std.specs.Cmp.{tied_itself}
use Rattle.std.specs.declared.cmp.Ordering.TheVariants.{Less, Equal}
use Rattle.std.proofs.lemmas.List.{length-map}
use Rattle.std.proofs.lemmas.List.Elements.{All-weaker, All-contains_itself, All-map}
use Rattle.mpc_space.specs.Matrix.{height}
use Rattle.mpc_sets.specs.RowSet.{RisesWithin, IsSetOfRows}
use Rattle.mpc_sets.specs.SetOrder.{set_cmp, set_cmp-total, IsBefore, IsInOrder}
use Rattle.mpc_sets.specs.SetTheorems.{CountTheorems}
use Rattle.mpc_rows.specs.declared.programs.Qp.{Qp}
use Rattle.mpc_rows.specs.declared.laws.Law.{Law}
use Rattle.mpc_rows.specs.Laws.{HasLawShape}
use Rattle.mpc_rows.specs.Candidates.{IsTable}

-- sets in order are different
not_before_itself : (s t : List ℕ) → IsBefore s t → s ≢ t
not_before_itself s t h e =
    let same : set_cmp s t ≡ Equal = subst (λ u. set_cmp s u ≡ Equal) e (tied_itself set_cmp-total s) in
    let clash : Less ≡ Equal = sym h ∙ same in
    cc

different_in_order : (sets : List (List ℕ)) → IsInOrder sets → AllPairs (λ s t. s ≢ t) sets
different_in_order sets h i j d p q = not_before_itself (get_or sets i d) (get_or sets j d) (h i j d p q)

rises_higher : (low high top : ℕ) (s : List ℕ) → high ≤ top → RisesWithin low high s → RisesWithin low top s
rises_higher low high top [] h r = tt
rises_higher low high top (i ∷ s) h r = (r.0, omega (arith, r.1), rises_higher i high top s h r.2)

-- what is so of each law of a table
pub table_shape : (qp : Qp) (laws : List Law) → IsTable qp laws → (law : Law) → Contains laws law → HasLawShape qp law
table_shape qp laws t law c = (t.are_laws law c).verdict.2.shape

pub all_laws : (laws : List Law) (P : Law → Type 0) → ((law : Law) → Contains laws law → P law) → All P laws
all_laws laws P h = All-weaker (Contains laws) P h laws (All-contains_itself laws)

module _ (counts : CountTheorems) (qp : Qp) (laws : List Law) (table : IsTable qp laws) where
  sets : List (List ℕ)
  sets = map (λ law. law.set) laws

  six_members : (law : Law) → Contains laws law → length law.set ≤ 6
  six_members law c = let few = (table_shape qp laws table law c).few in let most = qp.is_program.few_unknowns in omega arith

  four_members : height qp.h ≤ 4 → (law : Law) → Contains laws law → length law.set ≤ 4
  four_members h law c = let few = (table_shape qp laws table law c).few in omega arith

  sets_differ : AllPairs (λ s t. s ≢ t) sets
  unfolding sets
  sets_differ = different_in_order sets table.in_order

  sets_small : (most : ℕ) → ((law : Law) → Contains laws law → length law.set ≤ most) → All (λ s. length s ≤ most) sets
  unfolding sets
  sets_small most h = All-map (λ s. length s ≤ most) (λ law. law.set) laws (all_laws laws (λ law. length law.set ≤ most) h)

  sets_within : (top : ℕ) → height qp.g ≤ top → All (IsSetOfRows top) sets
  unfolding sets
  sets_within top h =
      All-map (IsSetOfRows top) (λ law. law.set) laws
      (all_laws laws (λ law. IsSetOfRows top law.set) (λ law c. record { rises = rises_higher 0 (height qp.g) top law.set h (table_shape qp laws table law c).set_of_rows.rises }))

  length_sets : length sets ≡ length laws
  unfolding sets
  length_sets = length-map laws (λ law. law.set)

  pub laws_of_forty : height qp.g ≤ 40 → length laws ≤ 4598479
  laws_of_forty h = subst (λ n. n ≤ 4598479) length_sets (counts.six_of_forty sets sets_differ (sets_within 40 h) (sets_small 6 six_members))

  pub laws_of_four : height qp.h ≤ 4 → length laws ≤ 523686
  laws_of_four h = subst (λ n. n ≤ 523686) length_sets (counts.four_of_sixty sets sets_differ (sets_within 60 qp.is_program.few_rows) (sets_small 4 (four_members h)))

  pub few_laws : (height qp.g ≤ 40) ⊎ (height qp.h ≤ 4) → length laws ≤ 4598479
  few_laws h = ⊎_elim laws_of_forty (λ k. let few = laws_of_four k in omega arith) h

  pub laws_of_sixty : length laws ≤ 56049058
  laws_of_sixty = subst (λ n. n ≤ 56049058) length_sets (counts.six_of_sixty sets sets_differ (sets_within 60 qp.is_program.few_rows) (sets_small 6 six_members))

  pub laws_numbered : length laws < 2 ^ 32
  laws_numbered = let few = laws_of_sixty in omega arith
