-- Forms that are kept once, and are named by their places.
use Rattle.std.proofs.Common.{◌≡◌, ℕ, ◌+◌, ◌<◌, ◌≤◌, pos, List, [], ◌∷◌, ◌++◌, length, get_or, take, map, Some, refl, sym, ◌∙◌, ap, subst, arith, append_assoc}
use Rattle.std.specs.Prelude.{All, slice_get}
use Rattle.std.proofs.lemmas.List.{append-nil, map-append, length-append, get_or-map, get_or_append_left, get_or_default, take_all}
use Rattle.std.proofs.lemmas.List.Elements.{All-append, All-cons, All-nil, All-weaker}
use Rattle.mpc_exact.specs.Rational.{ℚ}
use Rattle.mpc_linear.specs.declared.integers.IntAffine.{IntAffine}
use Rattle.mpc_rows.specs.declared.laws.Law.{Law}
use Rattle.mpc_table.specs.declared.places.Places.{Places}
use Rattle.mpc_table.specs.Places.{ArePlaces, IsKept}
use Rattle.mpc_table.specs.Forms.{IsBounded, IsFormOf}
use Rattle.mpc_table.specs.Lookup.{AreInputForms, AreLawForms}
use Rattle.mpc_table.specs.SharedForms.{form_line, form_at, forms_at, all_forms_at, AreBelow, AreFormPlaces, AreLawPlaces}
use Rattle.mpc_table.proofs.ElementLemmas.{same_map}
use Rattle.mpc_table.proofs.FormLemmas.{forms_next}
use Rattle.mpc_table.proofs.TableLemmas.{input_forms_more, law_forms_next, input_forms_next}

pub exact_form : (x y : IntAffine) → form_line x ≡ form_line y → x ≡ y
exact_form x y e =
    let first : x.den ≡ y.den = cc in
    let others : x.k ≡ y.k = cc in
    λ i. record { den = first i; k = others i }

-- ---- more forms behind those that are named
form_kept : (forms behind : List IntAffine) (place : ℕ) → place < length forms → form_at (forms ++ behind) place ≡ form_at forms place
form_kept forms behind place within = get_or_append_left forms behind (record { den = pos 0; k = [] }) place within

forms_kept : (forms behind : List IntAffine) (places : List ℕ) → AreBelow (length forms) places → forms_at (forms ++ behind) places ≡ forms_at forms places
forms_kept forms behind places below = same_map (λ place. place < length forms) (form_at (forms ++ behind)) (form_at forms) (form_kept forms behind) places below

all_forms_kept : (forms behind : List IntAffine) (laws : List (List ℕ)) → All (AreBelow (length forms)) laws → all_forms_at (forms ++ behind) laws ≡ all_forms_at forms laws
all_forms_kept forms behind laws below = same_map (AreBelow (length forms)) (forms_at (forms ++ behind)) (forms_at forms) (forms_kept forms behind) laws below

below_more : (few many : ℕ) → few ≤ many → (places : List ℕ) → AreBelow few places → AreBelow many places
below_more few many le places below = All-weaker (λ place. place < few) (λ place. place < many) (λ place h. omega (arith, h)) places below

grown_size : (old behind new : List IntAffine) → new ≡ old ++ behind → length old ≤ length new
grown_size old behind new grown = let size : length new ≡ length old + length behind = ap length grown ∙ length-append old behind in omega arith

-- ---- the forms of one law: one more row
pub forms_none : (counts : List ℕ) (rows : List (List ℚ)) (forms : List IntAffine) (lines : Places) → ArePlaces lines (map form_line forms) → AreFormPlaces counts (take 0 rows) 0 forms forms lines []
forms_none counts rows forms lines are = record {
  behind = [];
  grown = sym (append-nil forms);
  lines_are = are;
  below = All-nil (λ place. place < length forms);
  forms_are = tt;
  bounded = record { size = refl; bounded = All-nil (IsBounded counts) };
}

pub form_places_next : (counts : List ℕ) (rows : List (List ℚ)) (i : ℕ) (row : List ℚ) (form : IntAffine) (old now new : List IntAffine) (before lines : Places) (few places : List ℕ) (place : ℕ)
    → i < length rows → row ≡ get_or rows i [] → IsFormOf row form → IsBounded counts form → places ≡ few ++ place ∷ [] → AreFormPlaces counts (take i rows) i old now before few → IsKept form_line form now new lines place
    → AreFormPlaces counts (take (i + 1) rows) (i + 1) old new lines places
form_places_next counts rows i row form old now new before lines few places place inside is of_row bounded pushed so_far kept =
    let wider : length now ≤ length new = grown_size now kept.behind new kept.grown in
    let same : forms_at new few ≡ forms_at now few = ap (λ fs. forms_at fs few) kept.grown ∙ forms_kept now kept.behind few so_far.below in
    let more : forms_at new places ≡ forms_at now few ++ form ∷ [] = ap (forms_at new) pushed ∙ map-append (form_at new) few (place ∷ []) ∙ (λ z. same z ++ kept.item_is (record { den = pos 0; k = [] }) z ∷ []) in
    record {
      behind = so_far.behind ++ kept.behind;
      grown = kept.grown ∙ ap (λ fs. fs ++ kept.behind) so_far.grown ∙ append_assoc old so_far.behind kept.behind;
      lines_are = kept.places_are;
      below = subst (AreBelow (length new)) (sym pushed) (All-append (λ p. p < length new) few (place ∷ []) (below_more (length now) (length new) wider few so_far.below) (All-cons (λ p. p < length new) place [] kept.inside (All-nil (λ p. p < length new))));
      forms_are = forms_next rows i (forms_at now few) (forms_at new places) row form inside is more so_far.forms_are of_row;
      bounded = input_forms_more counts i (forms_at now few) (forms_at new places) form more so_far.bounded bounded;
    }

-- ---- the forms of all laws: one more law
pub record AreLawsTo (counts : List ℕ) (inputs : ℕ) (laws : List Law) (forms : List IntAffine) (lines : Places) (places : List (List ℕ)) : Type 0 where
  pub below : All (AreBelow (length forms)) places
  pub forms_are : AreLawForms inputs laws (all_forms_at forms places)
  pub bounded : All (AreInputForms counts inputs) (all_forms_at forms places)
  pub lines_are : ArePlaces lines (map form_line forms)

pub laws_none : (counts : List ℕ) (inputs : ℕ) (laws : List Law) (lines : Places) → ArePlaces lines [] → AreLawsTo counts inputs (take 0 laws) [] lines []
laws_none counts inputs laws lines are = record { below = All-nil (AreBelow 0); forms_are = tt; bounded = All-nil (AreInputForms counts inputs); lines_are = are }

pub laws_next : (counts : List ℕ) (inputs : ℕ) (laws : List Law) (j : ℕ) (law : Law) (now new : List IntAffine) (before lines : Places) (few all : List (List ℕ)) (places : List ℕ)
    → slice_get laws j ≡ Some law → all ≡ few ++ places ∷ [] → AreLawsTo counts inputs (take j laws) now before few → AreFormPlaces counts (take inputs law.moves.rows) inputs now new lines places → AreLawsTo counts inputs (take (j + 1) laws) new lines all
laws_next counts inputs laws j law now new before lines few all places at pushed so_far one =
    let wider : length now ≤ length new = grown_size now one.behind new one.grown in
    let same : all_forms_at new few ≡ all_forms_at now few = ap (λ fs. all_forms_at fs few) one.grown ∙ all_forms_kept now one.behind few so_far.below in
    let more : all_forms_at new all ≡ all_forms_at now few ++ forms_at new places ∷ [] = ap (all_forms_at new) pushed ∙ map-append (forms_at new) few (places ∷ []) ∙ ap (λ fs. fs ++ forms_at new places ∷ []) same in
    record {
      below = subst (All (AreBelow (length new))) (sym pushed) (All-append (AreBelow (length new)) few (places ∷ []) (All-weaker (AreBelow (length now)) (AreBelow (length new)) (below_more (length now) (length new) wider) few so_far.below) (All-cons (AreBelow (length new)) places [] one.below (All-nil (AreBelow (length new)))));
      forms_are = law_forms_next inputs laws j law (all_forms_at now few) (all_forms_at new all) (forms_at new places) at more so_far.forms_are one.forms_are;
      bounded = input_forms_next counts inputs (all_forms_at now few) (all_forms_at new all) (forms_at new places) more so_far.bounded one.bounded;
      lines_are = one.lines_are;
    }

pub laws_all : (counts : List ℕ) (inputs : ℕ) (laws : List Law) (j : ℕ) (forms : List IntAffine) (lines : Places) (places : List (List ℕ)) → AreLawsTo counts inputs (take j laws) forms lines places → length laws ≤ j → AreLawPlaces counts inputs laws forms places
laws_all counts inputs laws j forms lines places h last = record {
  below = h.below;
  forms_are = subst (λ ls. AreLawForms inputs ls (all_forms_at forms places)) (take_all j laws last) h.forms_are;
  bounded = h.bounded;
  different = h.lines_are.different;
}

-- ---- what the code reads
pub place_below : (bound : ℕ) (places : List ℕ) (i : ℕ) → AreBelow bound places → i < length places → get_or places i 0 < bound
place_below bound places i below inside = below i 0 inside

pub form_read : (forms : List IntAffine) (places : List ℕ) (i : ℕ) (form : IntAffine) → AreBelow (length forms) places → i < length places → form ≡ get_or forms (get_or places i 0) form → form ≡ get_or (forms_at forms places) i form
form_read forms places i form below inside read =
    read ∙ get_or_default forms (get_or places i 0) form (record { den = pos 0; k = [] }) (below i 0 inside) ∙ sym (get_or-map (form_at forms) places i 0 form inside)

pub places_read : (forms : List IntAffine) (laws : List (List ℕ)) (j : ℕ) (places : List ℕ) → j < length laws → places ≡ get_or laws j places → forms_at forms places ≡ get_or (all_forms_at forms laws) j (forms_at forms places)
places_read forms laws j places inside read = ap (forms_at forms) read ∙ sym (get_or-map (forms_at forms) laws j places (forms_at forms places) inside)

pub law_below : (bound : ℕ) (laws : List (List ℕ)) (j : ℕ) (places : List ℕ) → All (AreBelow bound) laws → j < length laws → places ≡ get_or laws j places → AreBelow bound places
law_below bound laws j places below inside read = subst (AreBelow bound) (sym read) (below j places inside)
