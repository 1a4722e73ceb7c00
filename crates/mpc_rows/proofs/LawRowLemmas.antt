-- The forms of a law's rows, coefficient by coefficient.
use Rattle.std.proofs.Common.{◌≡◌, ℕ, zero, suc, ◌+◌, ◌-◌, ◌<◌, ◌≤◌, true, false, List, [], ◌∷◌, ◌++◌, length, get_or, pos, negsuc, refl, sym, ◌∙◌, ap, subst, arith, ◌⊎◌, inl, inr}
use Rattle.std.proofs.lemmas.Bool.{cond-true, cond-false, cases_eq, cases_Bool}
use Rattle.std.proofs.lemmas.List.{get_or_append_left, length-append}
use Rattle.std.proofs.Math.Seq.{get_or-append_seam}
use Rattle.std.proofs.lemmas.List.Elements.{All-get_or}
use Rattle.mpc_exact.specs.Rational.{ℚ, int, ◌+ℚ◌, ◌*ℚ◌, neg_ℚ}
use Rattle.mpc_exact.proofs.RationalRing.{reads, by_ring}
use Rattle.mpc_space.specs.Vector.{coordinate, column, dot, vec_scale}
use Rattle.mpc_space.specs.Matrix.{height, entry}
use Rattle.mpc_space.proofs.Entries.{coordinate-scale, coordinate-listed, length-scale, length-listed, same_entries}
use Rattle.mpc_space.proofs.Matrix.{length-column, coordinate-column}
use Rattle.mpc_linear.specs.Dot.{TermFits}
use Rattle.mpc_linear.specs.SumTheorems.{SumTheorems, IsSumSoFar, StandAt}
use Rattle.mpc_rows.specs.declared.programs.Qp.{Qp}
use Rattle.mpc_rows.specs.declared.laws.Law.{Law}
use Rattle.mpc_rows.specs.ActiveSets.{row_of}
use Rattle.mpc_rows.specs.Laws.{HasLawShape}
use Rattle.mpc_rows.specs.LawRows.{is_member, place_of, excess_form, law_form, law_sides, CoefficientFits, SidesFit, FormFits}
use Rattle.mpc_rows.proofs.LawLemmas.{coordinate-later}
use Rattle.mpc_rows.proofs.JointLemmas.{length-later}

-- the sum that forms a coefficient, as far as it has gone
abbrev pub Excess : Qp → Law → ℕ → ℕ → ℕ → ℚ → Type 0
Excess qp law i j k sum = IsSumSoFar (neg_ℚ (coordinate (row_of qp.w.rows i) j)) (row_of qp.g.rows i) (column law.moves.rows j) k sum

module _ (laws : SumTheorems) (qp : Qp) (law : Law) (i j : ℕ) (shape : HasLawShape qp law) (from_one : 1 ≤ i) (to_last : i ≤ height qp.g) where
  row_size : length (row_of qp.g.rows i) ≡ qp.g.columns
  row_size = All-get_or (λ row. length row ≡ qp.g.columns) qp.g.rows (i - 1) [] (omega arith) qp.is_program.g_shape.rectangular

  column_size : length (column law.moves.rows j) ≡ qp.g.columns
  column_size = length-column law.moves.rows j ∙ shape.moves_shape.rows_are ∙ sym qp.is_program.g_shape.columns_are

  module _ (k : ℕ) (sum x y : ℚ) (h : k < qp.g.columns) (ex : x ≡ entry qp.g (i - 1) k) (ey : y ≡ entry law.moves k j) (goes : Excess qp law i j k sum) where
    in_row : k < length (row_of qp.g.rows i)
    in_row = subst (λ n. k < n) (sym row_size) h

    in_column : k < length (column law.moves.rows j)
    in_column = subst (λ n. k < n) (sym column_size) h

    stand : StandAt (row_of qp.g.rows i) (column law.moves.rows j) k x y
    stand = record { within_left = in_row; within_right = in_column; left = ex; right = ey ∙ sym (coordinate-column law.moves.rows k j) }

    pub excess_more : (next : ℚ) → next ≡ sum +ℚ x *ℚ y → TermFits sum x y → Excess qp law i j (k + 1) next
    excess_more next e t = laws.more (neg_ℚ (coordinate (row_of qp.w.rows i) j)) (row_of qp.g.rows i) (column law.moves.rows j) k sum x y next stand goes e t

    pub excess_wide : is_member i law.set ≡ false → (TermFits sum x y → ⊥) → CoefficientFits qp law i j → ⊥
    excess_wide outside t fits =
        laws.wide (neg_ℚ (coordinate (row_of qp.w.rows i) j)) (row_of qp.g.rows i) (column law.moves.rows j) k sum x y stand goes t (fits outside)

  module _ (k : ℕ) (sum : ℚ) (h : qp.g.columns ≤ k) (goes : Excess qp law i j k sum) where
    over : length (row_of qp.g.rows i) ≤ k
    over = subst (λ n. n ≤ k) (sym row_size) h

    pub excess_value : j < law.moves.columns → sum ≡ coordinate (excess_form qp law i) j
    excess_value l =
        laws.value (neg_ℚ (coordinate (row_of qp.w.rows i) j)) (row_of qp.g.rows i) (column law.moves.rows j) k sum over goes
        ∙ sym (coordinate-listed (length qp.counts + 1) (λ m. neg_ℚ (coordinate (row_of qp.w.rows i) m) +ℚ dot (row_of qp.g.rows i) (column law.moves.rows m)) j (subst (λ n. j < n) shape.moves_shape.columns_are l))

    pub excess_fits : CoefficientFits qp law i j
    excess_fits outside = laws.fits (neg_ℚ (coordinate (row_of qp.w.rows i) j)) (row_of qp.g.rows i) (column law.moves.rows j) k sum over goes

-- ---- the form of a row
pub form_outside : (qp : Qp) (law : Law) (i : ℕ) → is_member i law.set ≡ false → law_form qp law i ≡ excess_form qp law i
unfolding law_form
form_outside qp law i e = cond-false (is_member i law.set) (vec_scale (int (negsuc 0)) (get_or law.mults.rows (place_of i law.set) [])) (excess_form qp law i) e

pub form_member : (qp : Qp) (law : Law) (i : ℕ) → is_member i law.set ≡ true → law_form qp law i ≡ vec_scale (int (negsuc 0)) (get_or law.mults.rows (place_of i law.set) [])
unfolding law_form
form_member qp law i e = cond-true (is_member i law.set) (vec_scale (int (negsuc 0)) (get_or law.mults.rows (place_of i law.set) [])) (excess_form qp law i) e

pub member_coefficient : (qp : Qp) (law : Law) (i j k : ℕ) (x : ℚ) → is_member i law.set ≡ true → k ≡ place_of i law.set → x ≡ neg_ℚ (entry law.mults k j) → x ≡ coordinate (law_form qp law i) j
member_coefficient qp law i j k x e p h =
    h ∙ turned (entry law.mults k j) ∙ sym (coordinate-scale (int (negsuc 0)) (get_or law.mults.rows k []) j)
    ∙ ap (λ m. coordinate (vec_scale (int (negsuc 0)) (get_or law.mults.rows m [])) j) p ∙ sym (ap (λ f. coordinate f j) (form_member qp law i e))
  where
    turned : (y : ℚ) → neg_ℚ y ≡ int (negsuc 0) *ℚ y
    turned y = by_ring (y ∷ []) (search reads depth 30) (search reads depth 30) tt

module _ (qp : Qp) (law : Law) (i : ℕ) (shape : HasLawShape qp law) where
  pub form_size : ((is_member i law.set ≡ true) → place_of i law.set < length law.set) → length (law_form qp law i) ≡ length qp.counts + 1
  form_size within = by (cases_Bool (is_member i law.set))
    where
      by : (is_member i law.set ≡ true) ⊎ (is_member i law.set ≡ false) → length (law_form qp law i) ≡ length qp.counts + 1
      by (inl e) =
          let below : place_of i law.set < length law.mults.rows = subst (λ n. place_of i law.set < n) (sym shape.mults_shape.rows_are) (within e) in
          ap length (form_member qp law i e) ∙ length-scale (int (negsuc 0)) (get_or law.mults.rows (place_of i law.set) [])
          ∙ All-get_or (λ row. length row ≡ law.mults.columns) law.mults.rows (place_of i law.set) [] below shape.mults_shape.rectangular ∙ shape.mults_shape.columns_are
      by (inr e) = ap length (form_outside qp law i e) ∙ length-listed (length qp.counts + 1) (λ m. neg_ℚ (coordinate (row_of qp.w.rows i) m) +ℚ dot (row_of qp.g.rows i) (column law.moves.rows m))

-- ---- the coefficients on t, as far as they have been formed
pub record SidesSo (qp : Qp) (law : Law) (i j : ℕ) (v : List ℚ) : Type 0 where
  pub count : length v + 1 ≡ j
  pub entries : (k : ℕ) → k < length v → coordinate v k ≡ coordinate (law_form qp law i) (suc k)
  pub fits : (k : ℕ) → 1 ≤ k → k < j → CoefficientFits qp law i k

pub sides_none : (qp : Qp) (law : Law) (i : ℕ) → SidesSo qp law i 1 []
sides_none qp law i = record { count = refl; entries = λ k h. absurd (omega arith); fits = λ k h l. absurd (omega arith) }

module _ (qp : Qp) (law : Law) (i j : ℕ) (v : List ℚ) (so : SidesSo qp law i j v) where
  pub sides_more : (x : ℚ) → x ≡ coordinate (law_form qp law i) j → CoefficientFits qp law i j → SidesSo qp law i (j + 1) (v ++ x ∷ [])
  sides_more x e f = record { count = omega (arith, length-append v (x ∷ []), so.count); entries = λ k h. by k (cases_eq k (length v)) (omega (arith, length-append v (x ∷ []))); fits = λ k h l. fit k h (cases_eq k j) l }
    where
      by : (k : ℕ) → (k ≡ length v) ⊎ (k ≡ length v → ⊥) → k ≤ length v → coordinate (v ++ x ∷ []) k ≡ coordinate (law_form qp law i) (suc k)
      by k (inl f) h =
          let place : j ≡ suc k = omega (arith, so.count) in
          ap (coordinate (v ++ x ∷ [])) f ∙ get_or-append_seam v x [] (int (pos 0)) ∙ e ∙ ap (coordinate (law_form qp law i)) place
      by k (inr f) h = get_or_append_left v (x ∷ []) (int (pos 0)) k (omega arith) ∙ so.entries k (omega arith)

      fit : (k : ℕ) → 1 ≤ k → (k ≡ j) ⊎ (k ≡ j → ⊥) → k < j + 1 → CoefficientFits qp law i k
      fit k h (inl g) l = subst (CoefficientFits qp law i) (sym g) f
      fit k h (inr g) l = so.fits k h (omega arith)

  pub sides_value : length qp.counts + 1 ≤ j → j ≤ length qp.counts + 1 → length (law_form qp law i) ≡ length qp.counts + 1 → v ≡ law_sides qp law i
  sides_value h l size =
      same_entries v (law_sides qp law i) (let all : length (law_sides qp law i) ≡ length qp.counts = length-later (law_form qp law i) (length qp.counts) size in omega (arith, so.count))
      (λ k m. so.entries k m ∙ sym (coordinate-later (law_form qp law i) k))

  pub sides_fit : length qp.counts + 1 ≤ j → SidesFit qp law i
  sides_fit h k l m = so.fits k l (omega arith)

-- the constant and the coefficients on t are all coefficients
pub form_fits : (qp : Qp) (law : Law) (i : ℕ) → CoefficientFits qp law i 0 → SidesFit qp law i → FormFits qp law i
form_fits qp law i first rest outside zero h = first outside
form_fits qp law i first rest outside (suc j) h = rest (suc j) (omega arith) h outside

pub first_fits : (qp : Qp) (law : Law) (i : ℕ) → FormFits qp law i → CoefficientFits qp law i 0
first_fits qp law i f outside = f outside 0 (omega arith)

pub rest_fits : (qp : Qp) (law : Law) (i : ℕ) → FormFits qp law i → SidesFit qp law i
rest_fits qp law i f j h l outside = f outside j l
