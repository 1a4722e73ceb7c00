-- The forms of a law that is read by its number.
use Rattle.std.proofs.Common.{◌≡◌, ℕ, ◌-◌, ◌<◌, ◌≤◌, List, [], length, get_or, Some, sym, ◌∙◌, arith}
use Rattle.std.specs.Prelude.{All, slice_get}
use Rattle.std.proofs.lemmas.List.{length-map}
use Rattle.mpc_space.specs.Vector.{dot}
use Rattle.mpc_linear.specs.declared.integers.IntAffine.{IntAffine}
use Rattle.mpc_plant.specs.Trajectory.{point_of}
use Rattle.mpc_rows.specs.ActiveSets.{extended}
use Rattle.mpc_rows.specs.declared.laws.Law.{Law}
use Rattle.mpc_table.specs.Forms.{affine_value, IsBounded, AreUpTo}
use Rattle.mpc_table.specs.Lookup.{AreInputForms, AreLawForms}
use Rattle.mpc_table.specs.SharedForms.{form_at, forms_at, all_forms_at, AreBelow}
use Rattle.mpc_table.proofs.TableLemmas.{read_forms, all_bounded, form_bounded, form_value}
use Rattle.mpc_table.proofs.SharedFormLemmas.{form_read, places_read, law_below}

pub law_inside : (forms : List IntAffine) (laws : List (List ℕ)) (law : ℕ) → 1 ≤ law → law ≤ length (all_forms_at forms laws) → law - 1 < length laws
law_inside forms laws law first last = let size : length (all_forms_at forms laws) ≡ length laws = length-map laws (forms_at forms) in omega arith

module _ (limits counts : List ℕ) (p : ℕ) (forms : List IntAffine) (laws : List (List ℕ)) (ok : All (AreInputForms limits p) (all_forms_at forms laws)) (named : All (AreBelow (length forms)) laws) (up : AreUpTo counts limits) (law : ℕ) (first : 1 ≤ law) (last : law ≤ length (all_forms_at forms laws)) (places : List ℕ) (read : places ≡ get_or laws (law - 1) places) where
  in_all : law - 1 < length (all_forms_at forms laws)
  in_all = omega arith

  pub law_read : forms_at forms places ≡ get_or (all_forms_at forms laws) (law - 1) (forms_at forms places)
  law_read = places_read forms laws (law - 1) places (law_inside forms laws law first last) read

  pub places_below : AreBelow (length forms) places
  places_below = law_below (length forms) laws (law - 1) places named (law_inside forms laws law first last) read

  pub places_size : length places ≡ p
  places_size = sym (length-map places (form_at forms)) ∙ (read_forms limits counts p (all_forms_at forms laws) ok up (law - 1) in_all (forms_at forms places) law_read).size

  pub law_bounded : All (IsBounded counts) (forms_at forms places)
  law_bounded = all_bounded limits counts p (all_forms_at forms laws) ok up (law - 1) in_all (forms_at forms places) law_read

  module _ (input : ℕ) (from_one : 1 ≤ input) (to_last : input ≤ p) where
    pub input_inside : input - 1 < length places
    input_inside = let size = places_size in omega arith

    pub place_inside : get_or places (input - 1) 0 < length forms
    place_inside = places_below (input - 1) 0 input_inside

    module _ (form : IntAffine) (got : form ≡ get_or forms (get_or places (input - 1) 0) form) where
      is_form : form ≡ get_or (forms_at forms places) (input - 1) form
      is_form = form_read forms places (input - 1) form places_below input_inside got

      pub input_bounded : IsBounded counts form
      input_bounded = form_bounded limits counts p (all_forms_at forms laws) ok up (law - 1) in_all (forms_at forms places) law_read (input - 1) form (omega arith) is_form

      pub input_value : (sets : List Law) (of_set : Law) → AreLawForms p sets (all_forms_at forms laws) → slice_get sets (law - 1) ≡ Some of_set → affine_value form counts ≡ dot (get_or of_set.moves.rows (input - 1) []) (extended (point_of counts))
      input_value sets of_set are at = form_value limits counts p (all_forms_at forms laws) ok up (law - 1) in_all (forms_at forms places) law_read sets of_set (input - 1) form are at (omega arith) is_form
