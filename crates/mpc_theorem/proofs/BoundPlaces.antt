-- The places of the bounds in order are those that a controller's seal speaks of.
use Rattle.std.proofs.Common.{◌≡◌, ℕ, zero, suc, ◌+◌, ◌-◌, ◌<◌, ◌≤◌, ◌⊎◌, inl, inr, List, [], ◌∷◌, length, take, slice_get, Some, refl, sym, ◌∙◌, subst, arith}
use Rattle.std.specs.Prelude.{All, flat_map}
use Rattle.std.proofs.lemmas.Bool.{cases_order}
use Rattle.std.proofs.lemmas.Option.{slice_get_within}
use Rattle.std.proofs.lemmas.List.Elements.{All-nil, All-cons, All-head, All-tail, All-append}
use Rattle.mpc_plant.specs.declared.plants.Plant.{Plant}
use Rattle.mpc_rows.specs.declared.laws.Law.{Law}
use Rattle.mpc_rows.specs.declared.trees.Node.{Node}
use Rattle.mpc_rows.specs.declared.places.Place.{Place}
use Rattle.mpc_rows.specs.declared.places.Place.TheVariants.{LawBound, NodeBound}
use Rattle.mpc_controller.specs.Parts.{limits_of}
use Rattle.mpc_controller.specs.Bounds.{FormFits, first_move_form, LawFits, NodeFits, IsFirstWideForm, IsWideInput, IsBrokenLaw, IsBrokenNode, IsFirstBroken}
use Rattle.mpc_theorem.specs.Firsts.{IsFirstOf, numbered}
use Rattle.mpc_theorem.specs.Bounds.{bound_places, BoundFits}
use Rattle.mpc_theorem.proofs.FirstLemmas.{first_left, first_right, first_parts, all_left, all_right, each_numbered, numbered_each, IsFirstNumber, to_number, of_number, all_at, at_all}
use Rattle.mpc_theorem.proofs.RowPlaces.{some_at, same_some}

-- ---- stretches of places, one for each number
module _ {A : Type 0} (passes : A → Type 0) (f : ℕ → List A) where
  abbrev blocks : ℕ → ℕ → List A
  blocks from count = flat_map f (numbered (λ k. k) from count)

  record IsFirstBlock (from count : ℕ) (a : A) : Type 0 where
    number : ℕ
    low : from ≤ number
    high : number < from + count
    before : (k : ℕ) → from ≤ k → k < number → All passes (f k)
    here : IsFirstOf passes (f number) a

  to_block : (from count : ℕ) (a : A) → IsFirstOf passes (blocks from count) a → IsFirstBlock from count a
  to_block from zero a h = absurd h
  to_block from (suc count) a h = by (to_block (suc from) count a) (first_parts passes (f from) (blocks (suc from) count) a h)
    where
      before : All passes (f from) → (later : IsFirstBlock (suc from) count a) (k : ℕ) → from ≤ k → k < later.number → All passes (f k)
      before all later k low high = cases (cases_order from k)
        where
          cases : (from ≡ k) ⊎ ((from < k) ⊎ (k < from)) → All passes (f k)
          cases (inl e) = subst (λ i. All passes (f i)) e all
          cases (inr (inl l)) = later.before k l high
          cases (inr (inr l)) = absurd (omega (arith, low, l))

      by : (IsFirstOf passes (blocks (suc from) count) a → IsFirstBlock (suc from) count a) → IsFirstOf passes (f from) a ⊎ (All passes (f from) × IsFirstOf passes (blocks (suc from) count) a) → IsFirstBlock from (suc count) a
      by next (inl here) = record { number = from; low = omega arith; high = omega arith; before = λ k low high. absurd (omega (arith, low, high)); here = here }
      by next (inr h) =
          let later = next h.1 in
          record { number = later.number; low = omega (arith, later.low); high = omega (arith, later.high); before = before h.0 later; here = later.here }

  of_block : (from count : ℕ) (a : A) → IsFirstBlock from count a → IsFirstOf passes (blocks from count) a
  of_block from zero a h = absurd (omega (arith, h.low, h.high))
  of_block from (suc count) a h =
      by (λ l. of_block (suc from) count a (record { number = h.number; low = l; high = omega (arith, h.high); before = λ k low high. h.before k (omega (arith, low)) high; here = h.here })) (cases_order from h.number)
    where
      by : (from < h.number → IsFirstOf passes (blocks (suc from) count) a) → (from ≡ h.number) ⊎ ((from < h.number) ⊎ (h.number < from)) → IsFirstOf passes (blocks from (suc count)) a
      by later (inl e) = first_left passes (f from) (blocks (suc from) count) a (subst (λ i. IsFirstOf passes (f i) a) (sym e) h.here)
      by later (inr (inl l)) = first_right passes (f from) (blocks (suc from) count) a (h.before from (omega arith) l) (later l)
      by later (inr (inr l)) = absurd (let low = h.low in omega (arith, low, l))

  each_block : (from count k : ℕ) → All passes (blocks from count) → from ≤ k → k < from + count → All passes (f k)
  each_block from zero k h low high = absurd (omega (arith, low, high))
  each_block from (suc count) k h low high = by (λ l. each_block (suc from) count k (all_right passes (f from) (blocks (suc from) count) h) l (omega (arith, high))) (cases_order from k)
    where
      by : (from < k → All passes (f k)) → (from ≡ k) ⊎ ((from < k) ⊎ (k < from)) → All passes (f k)
      by later (inl e) = subst (λ i. All passes (f i)) e (all_left passes (f from) (blocks (suc from) count) h)
      by later (inr (inl l)) = later l
      by later (inr (inr l)) = absurd (omega (arith, low, l))

  block_each : (from count : ℕ) → ((k : ℕ) → from ≤ k → k < from + count → All passes (f k)) → All passes (blocks from count)
  block_each from zero h = All-nil passes
  block_each from (suc count) h = All-append passes (f from) (blocks (suc from) count) (h from (omega arith) (omega arith)) (block_each (suc from) count (λ k low high. h k (omega (arith, low)) (omega (arith, high))))

-- ---- what holds of all before a place of a list
module _ {X : Type 0} (P : X → Type 0) where
  before_take : (xs : List X) (n : ℕ) → ((k : ℕ) (x : X) → k < n → slice_get xs k ≡ Some x → P x) → All P (take n xs)
  before_take xs zero h = All-nil P
  before_take [] (suc n) h = All-nil P
  before_take (x ∷ xs) (suc n) h = All-cons P x (take n xs) (h 0 x (omega arith) refl) (before_take xs n (λ k y l e. h (suc k) y (omega (arith, l)) e))

  take_before : (xs : List X) (n k : ℕ) (x : X) → All P (take n xs) → k < n → slice_get xs k ≡ Some x → P x
  take_before xs zero k x h l e = absurd (omega (arith, l))
  take_before [] (suc n) k x h l e = absurd cc
  take_before (y ∷ xs) (suc n) zero x h l e = subst P (same_some e) (All-head P y (take n xs) h)
  take_before (y ∷ xs) (suc n) (suc k) x h l e = take_before xs n k x (All-tail P y (take n xs) h) (omega (arith, l)) e

-- ---- the bounds
back : (m : ℕ) → suc m - 1 ≡ m
back m = omega arith

module _ (plant : Plant) (laws : List Law) (nodes : List Node) where
  abbrev Fits : Place → Type 0
  Fits = BoundFits plant laws nodes

  abbrev inputs : ℕ → List Place
  inputs law = numbered (LawBound law) 1 plant.p

  abbrev law_places : List Place
  law_places = blocks Fits inputs 1 (length laws)

  abbrev node_places : List Place
  node_places = numbered NodeBound 1 (length nodes)

  form_fits : (law : Law) (i k : ℕ) → i ≡ k → FormFits (limits_of plant) (first_move_form law i) → FormFits (limits_of plant) (first_move_form law k)
  form_fits law i k e = subst (λ m. FormFits (limits_of plant) (first_move_form law m)) e

  at_law : (k m : ℕ) (law : Law) → k ≡ m → slice_get laws k ≡ Some law → slice_get laws m ≡ Some law
  at_law k m law e = subst (λ i. slice_get laws i ≡ Some law) e

  at_node : (k m : ℕ) (node : Node) → k ≡ m → slice_get nodes k ≡ Some node → slice_get nodes m ≡ Some node
  at_node k m node e = subst (λ i. slice_get nodes i ≡ Some node) e

  -- a law's places and its forms
  law_fits : (k : ℕ) (law : Law) → slice_get laws k ≡ Some law → All Fits (inputs (suc k)) → LawFits plant law
  law_fits k law e h i l = form_fits law (suc i - 1) i (back i) (each_numbered Fits (LawBound (suc k)) 1 plant.p (suc i) h (omega arith) (omega (arith, l)) law (at_law k (suc k - 1) law (sym (back k)) e))

  fit_law : (number : ℕ) → ((law : Law) → slice_get laws (number - 1) ≡ Some law → LawFits plant law) → All Fits (inputs number)
  fit_law number h = numbered_each Fits (LawBound number) 1 plant.p (λ i low high law e. h law e (i - 1) (omega (arith, low, high)))

  laws_fit : All Fits law_places → All (LawFits plant) laws
  laws_fit h = all_at (LawFits plant) laws (λ k law e. law_fits k law e (each_block Fits inputs 1 (length laws) (suc k) h (omega arith) (let l = slice_get_within laws k law e in omega (arith, l))))

  fit_theorems : All (LawFits plant) laws → All Fits law_places
  fit_theorems h = block_each Fits inputs 1 (length laws) (λ k low high. fit_law k (λ law e. at_all (LawFits plant) laws (k - 1) law h e))

  -- a law's input
  wide_form : (number input : ℕ) (law : Law) → slice_get laws (number - 1) ≡ Some law → (place : Place) (f : IsFirstNumber Fits (LawBound number) 1 plant.p place) → IsFirstWideForm (limits_of plant) law plant.p f.number
  wide_form number input law e place f = record {
    index = f.number - 1;
    input_is = omega (arith, f.low);
    is_input = omega (arith, f.low, f.high);
    inputs_before = λ i l. form_fits law (suc i - 1) i (back i) (f.before (suc i) (omega arith) (omega (arith, l)) law e);
    here = λ fits. f.here (λ other o. subst (λ x. FormFits (limits_of plant) (first_move_form x (f.number - 1))) (same_some (sym e ∙ o)) fits);
  }

  wide_input : (place : Place) → (b : IsFirstBlock Fits inputs 1 (length laws) place) → IsBrokenLaw plant laws place
  wide_input place b =
      let law = some_at laws (b.number - 1) (omega (arith, b.low, b.high)) in
      let f = to_number Fits (LawBound b.number) 1 plant.p place b.here in (
        b.number,
        f.number,
        f.is,
        record {
          place = b.number - 1;
          law = law.0;
          number_is = omega (arith, b.low);
          law_at = law.1;
          laws_before = before_take (LawFits plant) laws (b.number - 1) (λ k other l e. law_fits k other e (b.before (suc k) (omega arith) (omega (arith, l))));
          first = wide_form b.number f.number law.0 law.1 place f;
        },
      )

  wide_node : (place : Place) → All Fits law_places → IsFirstNumber Fits NodeBound 1 (length nodes) place → IsBrokenNode plant laws nodes place
  wide_node place h f =
      let node = some_at nodes (f.number - 1) (omega (arith, f.low, f.high)) in (
        f.number,
        f.is,
        record {
          laws_fit = laws_fit h;
          first = record {
            place = f.number - 1;
            node = node.0;
            number_is = omega (arith, f.low);
            node_at = node.1;
            nodes_before = before_take (NodeFits (limits_of plant)) nodes (f.number - 1) (λ k other l e. f.before (suc k) (omega arith) (omega (arith, l)) other (at_node k (suc k - 1) other (sym (back k)) e));
            here = λ fits. f.here (λ other o. subst (NodeFits (limits_of plant)) (same_some (sym node.1 ∙ o)) fits);
          };
        },
      )

  pub to_first_broken : (place : Place) → IsFirstOf (BoundFits plant laws nodes) (bound_places plant laws nodes) place → IsFirstBroken plant laws nodes place
  to_first_broken place h = by (first_parts Fits law_places node_places place h)
    where
      by : IsFirstOf Fits law_places place ⊎ (All Fits law_places × IsFirstOf Fits node_places place) → IsFirstBroken plant laws nodes place
      by (inl f) = inl (wide_input place (to_block Fits inputs 1 (length laws) place f))
      by (inr f) = inr (wide_node place f.0 (to_number Fits NodeBound 1 (length nodes) place f.1))

  -- and back
  first_input : (number input : ℕ) (place : Place) → place ≡ LawBound number input → (w : IsWideInput plant laws number input) → IsFirstOf Fits (inputs number) place
  first_input number input place e w =
      let first = w.first in
      let there = at_law w.place (number - 1) w.law (let n = w.number_is in omega (arith, n)) w.law_at in
      of_number Fits (LawBound number) 1 plant.p place (record {
        number = input;
        low = omega (arith, first.input_is);
        high = omega (arith, first.input_is, first.is_input);
        is = e;
        before = λ i low high law o. subst (λ x. FormFits (limits_of plant) (first_move_form x (i - 1))) (same_some (sym there ∙ o)) (first.inputs_before (i - 1) (let n = first.input_is in omega (arith, n, low, high)));
        here = λ fits. first.here (form_fits w.law (input - 1) first.index (let n = first.input_is in omega (arith, n)) (fits w.law there));
      })

  pub of_first_broken : (place : Place) → IsFirstBroken plant laws nodes place → IsFirstOf (BoundFits plant laws nodes) (bound_places plant laws nodes) place
  of_first_broken place (inl (number, input, e, w)) =
      let n = w.number_is in
      let within = slice_get_within laws w.place w.law w.law_at in
      first_left Fits law_places node_places place (of_block Fits inputs 1 (length laws) place (record {
        number = number;
        low = omega (arith, n);
        high = omega (arith, n, within);
        before = λ k low high. fit_law k (λ law o. take_before (LawFits plant) laws w.place (k - 1) law w.laws_before (omega (arith, n, low, high)) o);
        here = first_input number input place e w;
      }))
  of_first_broken place (inr (number, e, w)) =
      let first = w.first in
      let n = first.number_is in
      let within = slice_get_within nodes first.place first.node first.node_at in
      first_right Fits law_places node_places place (fit_theorems w.laws_fit) (of_number Fits NodeBound 1 (length nodes) place (record {
        number = number;
        low = omega (arith, n);
        high = omega (arith, n, within);
        is = e;
        before = λ k low high node o. take_before (NodeFits (limits_of plant)) nodes first.place (k - 1) node first.nodes_before (omega (arith, n, low, high)) o;
        here = λ fits. first.here (fits first.node (at_node first.place (number - 1) first.node (omega (arith, n)) first.node_at));
      }))
