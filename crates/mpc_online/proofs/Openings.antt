-- The forms of the first point, stage by stage.
use Rattle.std.proofs.Common.{◌≡◌, ℕ, zero, suc, ◌+◌, ◌<◌, ◌≤◌, List, [], ◌∷◌, length, get_or, pos, Option, Some, IfSome, refl, sym, ◌∙◌, ap, subst, subst₂, arith, ⊎_elim}
use Rattle.std.proofs.lemmas.Bool.{cases_eq}
use Rattle.mpc_exact.specs.Rational.{ℚ, int, ◌*ℚ◌, neg_ℚ}
use Rattle.mpc_exact.proofs.School.{natural_le}
use Rattle.mpc_exact.proofs.RationalRing.{reads, by_ring}
use Rattle.mpc_space.specs.Vector.{coordinate, dot, mat_vec}
use Rattle.mpc_space.specs.Matrix.{RationalMatrix, height, entry}
use Rattle.mpc_space.specs.Total.{total}
use Rattle.mpc_space.proofs.Total.{total-same, total-scale}
use Rattle.mpc_space.proofs.Entries.{same_entries, length-listed, coordinate-listed, dot-total_within}
use Rattle.mpc_space.proofs.Matrix.{entry-tabled, height-tabled, rectangular-tabled, length-mat_vec, coordinate-mat_vec}
use Rattle.mpc_linear.specs.Elimination.{Table}
use Rattle.mpc_linear.specs.Shape.{HasShape}
use Rattle.mpc_linear.specs.declared.elimination.Solved.TheVariants.{Unique}
use Rattle.mpc_rows.specs.declared.programs.Qp.{Qp}
use Rattle.mpc_rows.specs.ActiveSets.{extended, IsInBox}
use Rattle.mpc_rows.specs.SetRuns.{law_entry, law_matrix}
use Rattle.mpc_bordered.specs.declared.kept.Kept.{Kept}
use Rattle.mpc_bordered.specs.Fronts.{front}
use Rattle.mpc_bordered.specs.Stages.{widened, IsStage, ColumnForms, combined, ChangeFits, IsCombined, CombinedAnswers}
use Rattle.mpc_online.specs.StateRows.{point_of}
use Rattle.mpc_online.specs.Positions.{right_matrix, opening_side, upper_part}
use Rattle.mpc_online.specs.Shared.{shared_entry, shared_table, IsKeptOf}
use Rattle.mpc_online.specs.Openings.{AreCountsTo, AreExtendedCounts, AreOpeningForms}
use Rattle.mpc_online.proofs.Endings.{fits-not_wide}
use Rattle.mpc_online.proofs.Solved.{matrix_height, matrix_columns}
use Rattle.mpc_online.proofs.SharedParts.{below}

-- ---- extended counts
counts_size : (most counts : List ℕ) → IsInBox most (point_of counts) → length (point_of counts) ≡ length most
counts_size [] [] h = refl
counts_size [] (n ∷ counts) h = absurd h
counts_size (m ∷ most) [] h = absurd h
counts_size (m ∷ most) (n ∷ counts) h = ap suc (counts_size most counts h.2)

counts_at : (most counts : List ℕ) → IsInBox most (point_of counts) → (k : ℕ) → k < length most → (n : ℕ) × (n ≤ get_or most k 0) × (coordinate (point_of counts) k ≡ int (pos n))
counts_at [] counts h k l = absurd (omega arith)
counts_at (m ∷ most) [] h k l = absurd h
counts_at (m ∷ most) (n ∷ counts) h zero l = (n, (natural_le n m).0 h.1, refl)
counts_at (m ∷ most) (n ∷ counts) h (suc k) l = counts_at most counts h.2 k (omega arith)

pub counts_to : (qp : Qp) (most : List ℕ) (c : List ℚ) → most ≡ 1 ∷ qp.counts → AreExtendedCounts qp c → AreCountsTo most c
counts_to qp most c e h = subst₂ AreCountsTo (sym e) (sym h.is) (record { size = ap suc (counts_size qp.counts h.counts h.in_box); at = there })
  where
    there : (k : ℕ) → k < length (1 ∷ qp.counts) → (n : ℕ) × (n ≤ get_or (1 ∷ qp.counts) k 0) × (coordinate (extended (point_of h.counts)) k ≡ int (pos n))
    there zero l = (1, omega arith, refl)
    there (suc k) l = counts_at qp.counts h.counts h.in_box k (omega arith)

-- ---- what is found, by the matrix
pub forms_are : (qp : Qp) (o : Option RationalMatrix) (forms : RationalMatrix) → o ≡ Some forms → IfSome o (AreOpeningForms qp) → AreOpeningForms qp forms
forms_are qp o forms e h = subst (λ o. IfSome o (AreOpeningForms qp)) e h

-- ---- the forms after some columns
abbrev pub opposite : Qp → Table
opposite qp i j = neg_ℚ (entry qp.f i j)

pub record IsOpeningStage (qp : Qp) (k : Kept) (c : ℕ) (s : RationalMatrix) : Type 0 where
  pub stage : IsStage (entry k.table) k.front (opposite qp) qp.f.columns c s
  pub forms : (j : ℕ) → j < c → ColumnForms (entry k.table) k.front j
  pub changes : (x : List ℚ) → AreExtendedCounts qp x → (j i : ℕ) → j < c → i < k.front
      → ChangeFits (combined (entry k.table) k.front (opposite qp) qp.f.columns (coordinate x) j i) (combined (entry k.table) k.front (opposite qp) qp.f.columns (coordinate x) (suc j) i)

module _ (qp : Qp) (k : Kept) (kept : IsKeptOf qp k) where
  abbrev t : Table
  t = entry k.table

  abbrev u : ℕ
  u = k.front

  abbrev q : ℕ
  q = qp.f.columns

  abbrev number : List ℚ → ℕ → ℕ → ℚ
  number x c i = combined t u (opposite qp) q (coordinate x) c i

  pub row_is : (c : ℕ) (s : RationalMatrix) → IsStage t u (opposite qp) q c s → (x : List ℚ) (i : ℕ) → i < u → dot (get_or s.rows i []) x ≡ number x c i
  row_is c s h x i hi =
      dot-total_within q (get_or s.rows i []) x (let e = h.shape.rectangular i [] (omega (arith, hi, h.shape.rows_are)) in omega (arith, e, h.shape.columns_are))
      ∙ total-same q (λ j. coordinate (get_or s.rows i []) j *ℚ coordinate x j) (λ j. front (widened t u (opposite qp)) c i (u + j) *ℚ coordinate x j)
      (λ j l. ap (λ v. v *ℚ coordinate x j) (h.entries i j hi l).value)

  stage_none : (s : RationalMatrix) → IsStage t u (opposite qp) q 0 s → IsOpeningStage qp k 0 s
  stage_none s h = record { stage = h; forms = λ j l. absurd (omega arith); changes = λ x a j i l. absurd (omega arith) }

  pub stage_more : (c : ℕ) (s next : RationalMatrix) → IsStage t u (opposite qp) q (suc c) next → ColumnForms t u c
      → ((x : List ℚ) → AreExtendedCounts qp x → (i : ℕ) → i < height s → ChangeFits (dot (get_or s.rows i []) x) (dot (get_or next.rows i []) x))
      → IsOpeningStage qp k c s → IsOpeningStage qp k (c + 1) next
  stage_more c s next h f g before =
      let e : suc c ≡ c + 1 = omega arith in
      record {
        stage = subst (λ c. IsStage t u (opposite qp) q c next) e h;
        forms = λ j l. ⊎_elim (λ a. subst (ColumnForms t u) (sym a) f) (λ a. before.forms j (omega arith)) (cases_eq j c);
        changes = λ x a j i l hi. ⊎_elim
            (λ b. subst (λ j. ChangeFits (number x j i) (number x (suc j) i)) (sym b)
            (subst₂ ChangeFits (row_is c s before.stage x i hi) (row_is (suc c) next h x i hi) (g x a i (omega (arith, hi, before.stage.shape.rows_are)))))
            (λ b. before.changes x a j i (omega arith) hi)
            (cases_eq j c);
      }

  pub first_is : (s : RationalMatrix) → ((t : Table) → IsStage t (height qp.f) (opposite qp) q 0 s) → IsOpeningStage qp k 0 s
  first_is s h = stage_none s (subst (λ u. IsStage t u (opposite qp) q 0 s) (qp.is_program.f_shape.rows_are ∙ sym kept.front) (h t))

  next_is : (c : ℕ) (s next : RationalMatrix) → ((f : Table) → IsStage t u f s.columns c s → IsStage t u f s.columns (suc c) next) → IsStage t u (opposite qp) q c s → IsStage t u (opposite qp) q (suc c) next
  next_is c s next h g =
      subst (λ w. IsStage t u (opposite qp) w (suc c) next) g.shape.columns_are
      (h (opposite qp) (subst (λ w. IsStage t u (opposite qp) w c s) (sym g.shape.columns_are) g))

  pub next_of : (c : ℕ) (s : RationalMatrix) (o : Option RationalMatrix) (next : RationalMatrix) → o ≡ Some next
      → IfSome o (λ n. (f : Table) → IsStage t u f s.columns c s → IsStage t u f s.columns (suc c) n) → IsStage t u (opposite qp) q c s → IsStage t u (opposite qp) q (suc c) next
  next_of c s o next e h = next_is c s next (subst (λ o. IfSome o (λ n. (f : Table) → IsStage t u f s.columns c s → IsStage t u f s.columns (suc c) n)) e h)

  pub column_of : (c : ℕ) (o : Option RationalMatrix) (next : RationalMatrix) → o ≡ Some next → IfSome o (λ _. ColumnForms t u c) → ColumnForms t u c
  column_of c o next e h = subst (λ o. IfSome o (λ _. ColumnForms t u c)) e h

  pub one_count_each : (most : List ℕ) → most ≡ 1 ∷ qp.counts → q ≡ length most
  one_count_each most e = qp.is_program.f_shape.columns_are ∙ (let a : length most ≡ suc (length qp.counts) = ap length e in omega arith)

  -- ---- the system
  table_entry : (i j : ℕ) → i < height qp.h → j < height qp.h → entry (shared_table qp) i j ≡ entry qp.h i j
  unfolding shared_table
  table_entry i j hi hj =
      entry-tabled (height qp.h + height qp.g) (height qp.h + height qp.g + height qp.g) (shared_entry qp) i j (omega arith) (omega arith)
      ∙ below i (height qp.h) _ _ hi ∙ below j (height qp.h) _ _ hj

  law_at : (i j : ℕ) → i < height qp.h → j < height qp.h → entry (law_matrix qp []) i j ≡ entry qp.h i j
  unfolding law_matrix
  law_at i j hi hj =
      entry-tabled (height qp.h + 0) (height qp.h + 0) (law_entry qp []) i j (omega arith) (omega arith)
      ∙ below i (height qp.h) _ _ hi ∙ below j (height qp.h) _ _ hj

  law_rectangular : Rattle.mpc_space.specs.Matrix.IsRectangular (law_matrix qp [])
  unfolding law_matrix
  law_rectangular = rectangular-tabled (height qp.h + 0) (height qp.h + 0) (law_entry qp [])

  opposite_total : (f z : ℕ → ℚ) → neg_ℚ (total q (λ j. f j *ℚ z j)) ≡ total q (λ j. neg_ℚ (f j) *ℚ z j)
  opposite_total f z =
      by_ring (total q (λ j. f j *ℚ z j) ∷ []) (search reads depth 30) (search reads depth 30) tt
      ∙ sym (total-scale q (neg_ℚ (int (pos 1))) (λ j. f j *ℚ z j))
      ∙ total-same q (λ j. neg_ℚ (int (pos 1)) *ℚ (f j *ℚ z j)) (λ j. neg_ℚ (f j) *ℚ z j) (λ j l. by_ring (f j ∷ z j ∷ []) (search reads depth 30) (search reads depth 30) tt)

  side_is : (x : List ℚ) (i : ℕ) → i < height qp.h → opening_side qp x i ≡ total q (λ j. opposite qp i j *ℚ coordinate x j)
  side_is x i hi =
      ap neg_ℚ (coordinate-mat_vec qp.f.rows x i
      ∙ dot-total_within q (get_or qp.f.rows i []) x (let e = qp.is_program.f_shape.rectangular i [] (omega (arith, hi, qp.is_program.f_shape.rows_are)) in omega (arith, e)))
      ∙ opposite_total (coordinate (get_or qp.f.rows i [])) (coordinate x)

  right_shape : (f : ℕ → ℚ) → HasShape (right_matrix qp [] f) u 1
  right_shape f = record { rows_are = height-tabled (height qp.h + 0) 1 (λ i j. f i) ∙ (let e : height qp.h + 0 ≡ u = omega (arith, kept.front) in e); columns_are = refl; rectangular = rectangular-tabled (height qp.h + 0) 1 (λ i j. f i) }

  right_at : (f : ℕ → ℚ) (i : ℕ) → i < height qp.h → entry (right_matrix qp [] f) i 0 ≡ f i
  right_at f i hi = entry-tabled (height qp.h + 0) 1 (λ i j. f i) i 0 (omega arith) (omega arith)

  module _ (s : RationalMatrix) (h : IsStage t u (opposite qp) q u s) (x : List ℚ) where
    abbrev z : List ℚ
    z = mat_vec s.rows x

    is_combined : IsCombined t u (opposite qp) q (coordinate x) (law_matrix qp []) (right_matrix qp [] (opening_side qp x)) (right_matrix qp [] (coordinate z))
    is_combined = record {
      shape = record {
        rows_are = matrix_height qp [] ∙ (let e : height qp.h + 0 ≡ u = omega (arith, kept.front) in e);
        columns_are = matrix_columns qp [] ∙ (let e : height qp.h + 0 ≡ u = omega (arith, kept.front) in e);
        rectangular = law_rectangular;
      };
      right_shape = right_shape (opening_side qp x);
      solution_shape = right_shape (coordinate z);
      entries = λ i j hi hj.
          let hi' : i < height qp.h = omega (arith, kept.front) in
          let hj' : j < height qp.h = omega (arith, kept.front) in
          law_at i j hi' hj' ∙ sym (table_entry i j hi' hj') ∙ ap (λ m. entry m i j) (sym kept.table);
      right_entries = λ i hi. let hi' : i < height qp.h = omega (arith, kept.front) in right_at (opening_side qp x) i hi' ∙ side_is x i hi';
      solution_entries = λ i hi. let hi' : i < height qp.h = omega (arith, kept.front) in right_at (coordinate z) i hi' ∙ coordinate-mat_vec s.rows x i ∙ row_is u s h x i hi;
    }

    point_is : z ≡ upper_part qp (right_matrix qp [] (coordinate z))
    point_is =
        let size : length z ≡ height qp.h = length-mat_vec s.rows x ∙ h.shape.rows_are ∙ kept.front in
        same_entries z (upper_part qp (right_matrix qp [] (coordinate z))) (size ∙ sym (length-listed (height qp.h) (λ i. entry (right_matrix qp [] (coordinate z)) i 0)))
        (λ i hi. let hi' : i < height qp.h = omega (arith, size) in sym (coordinate-listed (height qp.h) (λ i. entry (right_matrix qp [] (coordinate z)) i 0) i hi' ∙ right_at (coordinate z) i hi'))

  pub forms_found : CombinedAnswers → (c : ℕ) (s : RationalMatrix) → c ≡ u → IsOpeningStage qp k c s → AreOpeningForms qp s
  forms_found answers c s e h =
      let at : IsOpeningStage qp k u s = subst (λ c. IsOpeningStage qp k c s) e h in
      let found = λ (x : List ℚ) (a : AreExtendedCounts qp x). answers k (opposite qp) q (coordinate x) (law_matrix qp []) (right_matrix qp [] (opening_side qp x)) (right_matrix qp [] (coordinate (mat_vec s.rows x))) (is_combined s at.stage x) at.forms (at.changes x a) in
      record {
        shape = record { rows_are = at.stage.shape.rows_are ∙ kept.front; columns_are = at.stage.shape.columns_are; rectangular = at.stage.shape.rectangular };
        point = λ x a. record { solution = right_matrix qp [] (coordinate (mat_vec s.rows x)); solves = (found x a).0; is = point_is s at.stage x };
        fits = λ x a. fits-not_wide (law_matrix qp []) (right_matrix qp [] (opening_side qp x)) (Unique (right_matrix qp [] (coordinate (mat_vec s.rows x)))) (found x a).1;
      }
