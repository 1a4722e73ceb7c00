-- The first moves of laws, as forms of which equal ones are kept once and named by their places.
use Rattle.std.specs.Prelude.{◌≡◌, ℕ, ◌<◌, ℤ, pos, List, [], ◌∷◌, ◌++◌, length, map, All, slice_index_or}
use Rattle.mpc_exact.specs.Rational.{ℚ}
use Rattle.mpc_linear.specs.declared.integers.IntAffine.{IntAffine}
use Rattle.mpc_rows.specs.declared.laws.Law.{Law}
use Rattle.mpc_table.specs.declared.places.Places.{Places}
use Rattle.mpc_table.specs.Places.{AreDifferent, ArePlaces}
use Rattle.mpc_table.specs.Forms.{AreFormsOf}
use Rattle.mpc_table.specs.Lookup.{AreInputForms, AreLawForms}

-- a form's numbers, its denominator first
abbrev pub form_line : IntAffine → List ℤ
form_line form = form.den ∷ form.k

-- the form at a place
abbrev pub form_at : List IntAffine → ℕ → IntAffine
form_at forms place = slice_index_or forms place (record { den = pos 0; k = [] })

abbrev pub forms_at : List IntAffine → List ℕ → List IntAffine
forms_at forms places = map (form_at forms) places

abbrev pub all_forms_at : List IntAffine → List (List ℕ) → List (List IntAffine)
all_forms_at forms laws = map (forms_at forms) laws

-- each place is below a bound
abbrev pub AreBelow : ℕ → List ℕ → Type 0
AreBelow bound places = All (λ place. place < bound) places

-- the places of the forms of a law's first rows, one for each input, for which the forms grow
pub record AreFormPlaces (counts : List ℕ) (rows : List (List ℚ)) (inputs : ℕ) (old new : List IntAffine) (lines : Places) (places : List ℕ) : Type 0 where
  pub behind : List IntAffine
  pub grown : new ≡ old ++ behind
  pub lines_are : ArePlaces lines (map form_line new)
  pub below : AreBelow (length new) places
  pub forms_are : AreFormsOf rows (forms_at new places)
  pub bounded : AreInputForms counts inputs (forms_at new places)

-- the places of the forms of these laws
pub record AreLawPlaces (counts : List ℕ) (inputs : ℕ) (laws : List Law) (forms : List IntAffine) (places : List (List ℕ)) : Type 0 where
  pub below : All (AreBelow (length forms)) places
  pub forms_are : AreLawForms inputs laws (all_forms_at forms places)
  pub bounded : All (AreInputForms counts inputs) (all_forms_at forms places)
  pub different : AreDifferent (map form_line forms)
