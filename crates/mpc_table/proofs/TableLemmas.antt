-- Laws' forms, row by row and law by law.
use Rattle.std.proofs.Common.{◌≡◌, ℕ, zero, suc, ◌+◌, ◌*◌, ◌<◌, ◌≤◌, Bool, true, false, eqb, List, [], ◌∷◌, ◌++◌, length, get_or, take, map, Some, refl, sym, ◌∙◌, ap, subst, arith, append_assoc}
use Rattle.std.specs.Prelude.{All, slice_get, MatchBool}
use Rattle.std.specs.List.{join_with_byte}
use Rattle.std.proofs.lemmas.List.{take_more, get_or-map, get_or-take, length-map, length-append}
use Rattle.std.proofs.lemmas.List.Elements.{All-append, All-cons, All-nil}
use Rattle.std.proofs.lemmas.Option.{slice_get_within, get_or_from_slice_get}
use Rattle.std.proofs.lemmas.Bool.Decides.{nat_tests}
use Rattle.std.proofs.Math.Nat.{mul-le-mul_left}
use Rattle.mpc_exact.specs.Rational.{ℚ}
use Rattle.mpc_space.specs.Vector.{dot}
use Rattle.mpc_space.specs.Matrix.{height}
use Rattle.mpc_frac.specs.Text.{text_of}
use Rattle.mpc_linear.specs.declared.integers.IntAffine.{IntAffine}
use Rattle.mpc_plant.specs.declared.lists.Coordinate.{Coordinate}
use Rattle.mpc_plant.specs.declared.plants.Plant.{Plant}
use Rattle.mpc_plant.specs.Trajectory.{point_of}
use Rattle.mpc_rows.specs.ActiveSets.{extended}
use Rattle.mpc_rows.specs.declared.laws.Law.{Law}
use Rattle.mpc_rows.specs.declared.trees.Node.{Node}
use Rattle.mpc_controller.specs.Parts.{limits_of, IsLawFor}
use Rattle.mpc_table.specs.Steps.{Action, step_of, steps_of}
use Rattle.mpc_table.specs.Forms.{affine_value, affine_values, IsBounded, IsFormOf, AreFormsOf, AreUpTo}
use Rattle.mpc_table.specs.Lookup.{AreInputForms, AreLawForms}
use Rattle.mpc_table.proofs.AffineLemmas.{bounded_at}
use Rattle.mpc_table.proofs.FormLemmas.{first_text, next_text, text_at, texts_length}

-- ---- shapes of a law for a plant
pub law_inputs : (plant : Plant) (law : Law) → IsLawFor plant law → plant.p ≤ height law.moves
law_inputs plant law h =
    let steps : 1 ≤ plant.horizon = plant.is_plant.steps.from_low in
    let more : plant.p * 1 ≤ plant.p * plant.horizon = mul-le-mul_left plant.p steps in
    omega (arith, more, h.moves_shape.rows_are)

pub law_columns : (plant : Plant) (law : Law) (counts : List ℕ) → counts ≡ limits_of plant → IsLawFor plant law → law.moves.columns ≡ length counts + 1
law_columns plant law counts is h =
    let size : length counts ≡ plant.n = ap length is ∙ length-map plant.grid (λ (axis : Coordinate). axis.count) ∙ plant.is_plant.grid_size in
    omega (arith, size, h.moves_shape.columns_are)

-- ---- one more form, law or step
pub input_forms_more : (counts : List ℕ) (i : ℕ) (forms new : List IntAffine) (form : IntAffine) → new ≡ forms ++ form ∷ [] → AreInputForms counts i forms → IsBounded counts form → AreInputForms counts (i + 1) new
input_forms_more counts i forms new form e h b = record {
  size = (let s : length new ≡ length forms + 1 = ap length e ∙ length-append forms (form ∷ []) in omega (arith, s, h.size));
  bounded = subst (All (IsBounded counts)) (sym e) (All-append (IsBounded counts) forms (form ∷ []) h.bounded (All-cons (IsBounded counts) form [] b (All-nil (IsBounded counts))));
}

law_forms_push : (p : ℕ) (laws : List Law) (all : List (List IntAffine)) (law : Law) (forms : List IntAffine) → AreLawForms p laws all → AreFormsOf (take p law.moves.rows) forms → AreLawForms p (laws ++ law ∷ []) (all ++ forms ∷ [])
law_forms_push p [] [] law forms h k = (k, tt)
law_forms_push p [] (f ∷ fs) law forms h k = absurd h
law_forms_push p (l ∷ ls) [] law forms h k = absurd h
law_forms_push p (l ∷ ls) (f ∷ fs) law forms h k = (h.0, law_forms_push p ls fs law forms h.1 k)

pub law_forms_next : (p : ℕ) (laws : List Law) (j : ℕ) (law : Law) (all new : List (List IntAffine)) (forms : List IntAffine) → slice_get laws j ≡ Some law → new ≡ all ++ forms ∷ [] → AreLawForms p (take j laws) all → AreFormsOf (take p law.moves.rows) forms → AreLawForms p (take (j + 1) laws) new
law_forms_next p laws j law all new forms at e h k =
    let front : take (j + 1) laws ≡ take j laws ++ law ∷ [] = take_more laws j law (slice_get_within laws j law at) ∙ ap (λ l. take j laws ++ l ∷ []) (get_or_from_slice_get laws j law law at) in
    subst (λ ls. AreLawForms p ls new) (sym front) (subst (AreLawForms p (take j laws ++ law ∷ [])) (sym e) (law_forms_push p (take j laws) all law forms h k))

pub input_forms_next : (counts : List ℕ) (p : ℕ) (all new : List (List IntAffine)) (forms : List IntAffine) → new ≡ all ++ forms ∷ [] → All (AreInputForms counts p) all → AreInputForms counts p forms → All (AreInputForms counts p) new
input_forms_next counts p all new forms e h k = subst (All (AreInputForms counts p)) (sym e) (All-append (AreInputForms counts p) all (forms ∷ []) h (All-cons (AreInputForms counts p) forms [] k (All-nil (AreInputForms counts p))))

pub steps_next : (nodes : List Node) (k : ℕ) (node : Node) (old new : List Action) (done : Action) → slice_get nodes k ≡ Some node → old ≡ take k (steps_of nodes) → new ≡ old ++ done ∷ [] → done ≡ step_of node → new ≡ take (k + 1) (steps_of nodes)
steps_next nodes k node old new done at before pushed is =
    let inside : k < length nodes = slice_get_within nodes k node at in
    let within : k < length (steps_of nodes) = omega (arith, length-map nodes step_of) in
    let value : get_or (steps_of nodes) k done ≡ done = get_or-map step_of nodes k node done inside ∙ ap step_of (get_or_from_slice_get nodes k node node at) ∙ sym is in
    pushed ∙ (λ z. before z ++ sym value z ∷ []) ∙ sym (take_more (steps_of nodes) k done within)

-- ---- one law's forms among all
pub law_forms_length : (p : ℕ) (laws : List Law) (all : List (List IntAffine)) → AreLawForms p laws all → length all ≡ length laws
law_forms_length p [] [] h = refl
law_forms_length p [] (f ∷ fs) h = absurd h
law_forms_length p (l ∷ ls) [] h = absurd h
law_forms_length p (l ∷ ls) (f ∷ fs) h = ap suc (law_forms_length p ls fs h.1)

pub law_forms_at : (p : ℕ) (laws : List Law) (all : List (List IntAffine)) (j : ℕ) (law : Law) (d : List IntAffine) → AreLawForms p laws all → slice_get laws j ≡ Some law → AreFormsOf (take p law.moves.rows) (get_or all j d)
law_forms_at p [] all j law d h at = absurd cc
law_forms_at p (l ∷ ls) [] j law d h at = absurd h
law_forms_at p (l ∷ ls) (f ∷ fs) zero law d h at = let same : l ≡ law = cc in subst (λ (x : Law). AreFormsOf (take p x.moves.rows) f) same h.0
law_forms_at p (l ∷ ls) (f ∷ fs) (suc j) law d h at = law_forms_at p ls fs j law d h.1 at

forms_at : (rows : List (List ℚ)) (forms : List IntAffine) (i : ℕ) (form : IntAffine) → AreFormsOf rows forms → i < length forms → IsFormOf (get_or rows i []) (get_or forms i form)
forms_at [] [] i form h lt = absurd (omega arith)
forms_at [] (f ∷ fs) i form h lt = absurd h
forms_at (r ∷ rs) [] i form h lt = absurd (omega arith)
forms_at (r ∷ rs) (f ∷ fs) zero form h lt = h.0
forms_at (r ∷ rs) (f ∷ fs) (suc i) form h lt = forms_at rs fs i form h.1 (omega arith)

-- ---- what the code reads
module _ (limits counts : List ℕ) (p : ℕ) (all : List (List IntAffine)) (ok : All (AreInputForms limits p) all) (up : AreUpTo counts limits) (j : ℕ) (inside : j < length all) (forms : List IntAffine) (read : forms ≡ get_or all j forms) where
  pub read_forms : AreInputForms limits p forms
  read_forms = subst (AreInputForms limits p) (sym read) (ok j forms inside)

  pub all_bounded : All (IsBounded counts) forms
  all_bounded i d lt = bounded_at (get_or forms i d) counts limits (read_forms.bounded i d lt) up

  pub form_bounded : (i : ℕ) (form : IntAffine) → i < p → form ≡ get_or forms i form → IsBounded counts form
  form_bounded i form lt is = subst (IsBounded counts) (sym is) (all_bounded i form (omega (arith, read_forms.size)))

  pub form_value : (laws : List Law) (law : Law) (i : ℕ) (form : IntAffine) → AreLawForms p laws all → slice_get laws j ≡ Some law → i < p → form ≡ get_or forms i form → affine_value form counts ≡ dot (get_or law.moves.rows i []) (extended (point_of counts))
  form_value laws law i form are at lt is =
      let of_law : AreFormsOf (take p law.moves.rows) forms = subst (AreFormsOf (take p law.moves.rows)) (sym read) (law_forms_at p laws all j law forms are at) in
      let here : IsFormOf (get_or (take p law.moves.rows) i []) form = subst (IsFormOf (get_or (take p law.moves.rows) i [])) (sym is) (forms_at (take p law.moves.rows) forms i form of_law (omega (arith, read_forms.size))) in
      here.value counts ∙ ap (λ row. dot row (extended (point_of counts))) (get_or-take p law.moves.rows i [] lt)

-- ---- the text of one more value
values_by : (b : Bool) (forms : List IntAffine) (ts : List ℕ) (i : ℕ) (form : IntAffine) (old text new : List ℕ) (v : ℚ) → eqb i 0 ≡ b → i < length forms → form ≡ get_or forms i form → text ≡ old ++ join_with_byte 32 (take i (map text_of (affine_values forms ts)))
    → MatchBool b (new ≡ text ++ text_of v) (new ≡ text ++ 32 ∷ text_of v) → v ≡ affine_value form ts → new ≡ old ++ join_with_byte 32 (take (i + 1) (map text_of (affine_values forms ts)))
values_by true forms ts i form old text new v test lt is before added value =
    let none : i ≡ 0 = grind (arith, nat_tests) in
    let texts = map text_of (affine_values forms ts) in
    let first : text ≡ old ++ join_with_byte 32 (take 0 texts) = subst (λ k. text ≡ old ++ join_with_byte 32 (take k texts)) none before in
    let here : text_of v ≡ get_or texts 0 old = ap text_of value ∙ text_at forms ts i form old lt is ∙ ap (λ k. get_or texts k old) none in
    subst (λ k. new ≡ old ++ join_with_byte 32 (take (k + 1) texts)) (sym none) (first_text texts old old text new (text_of v) (omega (arith, texts_length forms ts)) first added here)
values_by false forms ts i form old text new v test lt is before added value =
    let some : 0 < i = grind (arith, nat_tests) in
    let texts = map text_of (affine_values forms ts) in
    let here : text_of v ≡ get_or texts i old = ap text_of value ∙ text_at forms ts i form old lt is in
    next_text texts i old old text (text ++ 32 ∷ []) new (text_of v) some (omega (arith, texts_length forms ts)) before refl (added ∙ sym (append_assoc text (32 ∷ []) (text_of v))) here

pub values_next : (forms : List IntAffine) (ts : List ℕ) (i : ℕ) (form : IntAffine) (old text new : List ℕ) (v : ℚ) → i < length forms → form ≡ get_or forms i form → text ≡ old ++ join_with_byte 32 (take i (map text_of (affine_values forms ts)))
    → MatchBool (eqb i 0) (new ≡ text ++ text_of v) (new ≡ text ++ 32 ∷ text_of v) → v ≡ affine_value form ts → new ≡ old ++ join_with_byte 32 (take (i + 1) (map text_of (affine_values forms ts)))
values_next forms ts i form old text new v lt is before added value = values_by (eqb i 0) forms ts i form old text new v refl lt is before added value
