-- One bound is the first that is broken, and none is where all are kept.
use Rattle.std.proofs.Common.{◌≡◌, ℕ, ◌+◌, ◌<◌, List, take, Some, sym, ◌∙◌, ap, subst, inl, inr, arith, length, slice_get, All}
use Rattle.std.proofs.lemmas.Bool.{cases_order}
use Rattle.std.proofs.lemmas.List.{get_or-take, length-take}
use Rattle.std.proofs.lemmas.Option.{slice_get_within, get_or_from_slice_get}
use Rattle.mpc_plant.specs.declared.plants.Plant.{Plant}
use Rattle.mpc_rows.specs.declared.laws.Law.{Law as LawOfSet}
use Rattle.mpc_rows.specs.declared.trees.Node.{Node}
use Rattle.mpc_rows.specs.declared.places.Place.{Place}
use Rattle.mpc_rows.specs.declared.places.Place.TheVariants.{LawBound, NodeBound}
use Rattle.mpc_controller.specs.Parts.{limits_of}
use Rattle.mpc_controller.specs.Bounds.{InputsFit, LawFits, NodeFits, KeepBounds, IsFirstWideForm, IsWideInput, IsFirstWideNode, IsFirstBroken}
use Rattle.mpc_controller.specs.OneBound.{OneFirstBroken, KeptNotBroken}
use Rattle.mpc_controller.proofs.BoundLemmas.{all_at}

fits_before : {X : Type 0} (P : X → Type 0) (xs : List X) (i j : ℕ) (x : X) → slice_get xs i ≡ Some x → i < j → All P (take j xs) → P x
fits_before P xs i j x is below all =
    let within : i < length xs = slice_get_within xs i x is in
    let inside : i < length (take j xs) = omega (arith, length-take j xs) in
    subst P (get_or-take j xs i x below ∙ get_or_from_slice_get xs i x x is) (all i x inside)

-- one place is the first of those at which P fails
one_place : {X : Type 0} (P : X → Type 0) (xs : List X) (i j : ℕ) (x y : X) → slice_get xs i ≡ Some x → slice_get xs j ≡ Some y → All P (take i xs) → All P (take j xs) → (P x → ⊥) → (P y → ⊥) → i ≡ j
one_place P xs i j x y is js before before' wide wide' =
    elim (cases_order i j) [
      | inl e ↦ e
      | inr (inl below) ↦ absurd (wide (fits_before P xs i j x is below before'))
      | inr (inr above) ↦ absurd (wide' (fits_before P xs j i y js above before))
    ]

one_at : {X : Type 0} (xs : List X) (i j : ℕ) (x y : X) → slice_get xs i ≡ Some x → slice_get xs j ≡ Some y → i ≡ j → x ≡ y
one_at xs i j x y is js e = let same = ap (slice_get xs) e in cc

-- ---- inputs of a law
wide_form : (counts : List ℕ) (law : LawOfSet) (inputs input : ℕ) → IsFirstWideForm counts law inputs input → InputsFit counts law inputs → ⊥
wide_form counts law inputs input w fit = w.here (fit w.index w.is_input)

one_form : (counts : List ℕ) (law : LawOfSet) (inputs i j : ℕ) → IsFirstWideForm counts law inputs i → IsFirstWideForm counts law inputs j → i ≡ j
one_form counts law inputs i j w v = elim (cases_order w.index v.index) [
  | inl e ↦ w.input_is ∙ ap (λ k. k + 1) e ∙ sym v.input_is
  | inr (inl below) ↦ absurd (w.here (v.inputs_before w.index below))
  | inr (inr above) ↦ absurd (v.here (w.inputs_before v.index above))
]

module _ (plant : Plant) (laws : List LawOfSet) (tree : List Node) where
  law_wide : (number input : ℕ) (w : IsWideInput plant laws number input) → LawFits plant w.law → ⊥
  law_wide number input w = wide_form (limits_of plant) w.law plant.p input w.first

  laws_wide : (number input : ℕ) → IsWideInput plant laws number input → All (LawFits plant) laws → ⊥
  laws_wide number input w all = law_wide number input w (all_at (LawFits plant) laws w.place w.law w.law_at all)

  one_law : (number input number' input' : ℕ) (w : IsWideInput plant laws number input) (v : IsWideInput plant laws number' input') → w.place ≡ v.place
  one_law number input number' input' w v =
      one_place (LawFits plant) laws w.place v.place w.law v.law w.law_at v.law_at w.laws_before v.laws_before (law_wide number input w) (law_wide number' input' v)

  one_input : (number input number' input' : ℕ) → IsWideInput plant laws number input → IsWideInput plant laws number' input' → LawBound number input ≡ LawBound number' input'
  one_input number input number' input' w v = λ k. LawBound (numbers k) (inputs k)
    where
      places : w.place ≡ v.place
      places = one_law number input number' input' w v

      numbers : number ≡ number'
      numbers = w.number_is ∙ ap (λ k. k + 1) places ∙ sym v.number_is

      law : w.law ≡ v.law
      law = one_at laws w.place v.place w.law v.law w.law_at v.law_at places

      inputs : input ≡ input'
      inputs = one_form (limits_of plant) v.law plant.p input input' (subst (λ l. IsFirstWideForm (limits_of plant) l plant.p input) law w.first) v.first

  nodes_wide : (number : ℕ) → IsFirstWideNode (limits_of plant) tree number → All (NodeFits (limits_of plant)) tree → ⊥
  nodes_wide number w all = w.here (all_at (NodeFits (limits_of plant)) tree w.place w.node w.node_at all)

  one_node : (number number' : ℕ) → IsFirstWideNode (limits_of plant) tree number → IsFirstWideNode (limits_of plant) tree number' → NodeBound number ≡ NodeBound number'
  one_node number number' w v =
      let places = one_place (NodeFits (limits_of plant)) tree w.place v.place w.node v.node w.node_at v.node_at w.nodes_before v.nodes_before w.here v.here in
      ap NodeBound (w.number_is ∙ ap (λ k. k + 1) places ∙ sym v.number_is)

  one_broken : (p q : Place) → IsFirstBroken plant laws tree p → IsFirstBroken plant laws tree q → p ≡ q
  one_broken p q (inl (law, input, is, wide)) (inl (law', input', is', wide')) = is ∙ one_input law input law' input' wide wide' ∙ sym is'
  one_broken p q (inl (law, input, is, wide)) (inr (node, is', wide')) = absurd (laws_wide law input wide wide'.laws_fit)
  one_broken p q (inr (node, is, wide)) (inl (law, input, is', wide')) = absurd (laws_wide law input wide' wide.laws_fit)
  one_broken p q (inr (node, is, wide)) (inr (node', is', wide')) = is ∙ one_node node node' wide.first wide'.first ∙ sym is'

  not_broken : (p : Place) → KeepBounds plant laws tree → IsFirstBroken plant laws tree p → ⊥
  not_broken p kept (inl (law, input, is, wide)) = laws_wide law input wide kept.laws_fit
  not_broken p kept (inr (node, is, wide)) = nodes_wide node wide.first kept.nodes_fit

pub one_first_broken : OneFirstBroken
one_first_broken plant laws tree = one_broken plant laws tree

pub kept_not_broken : KeptNotBroken
kept_not_broken plant laws tree = not_broken plant laws tree
