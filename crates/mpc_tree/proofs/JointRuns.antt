-- The runs that are kept from one leaf without a law to the next.
use Rattle.std.proofs.Common.{◌≡◌, ℕ, ◌+◌, ◌≤◌, ◌++◌, List, [], ◌∷◌, length, map, pos, take, get_or, Option, Some, None, IfSome, refl, sym, ◌∙◌, ap, subst, arith, below_more}
use Rattle.std.proofs.lemmas.List.{append-nil, append_assoc, map-append, length-append, length-replicate, length-take-le, get_or_append_left, get_or_read, take-take, take-append-le, take_all}
use Rattle.std.proofs.Math.Seq.{get_or-append_seam}
use Rattle.mpc_exact.specs.Rational.{int}
use Rattle.mpc_space.specs.Matrix.{height}
use Rattle.mpc_space.specs.Vector.{zeros}
use Rattle.mpc_rows.specs.declared.programs.Qp.{Qp}
use Rattle.mpc_rows.specs.declared.systems.Row.{Row}
use Rattle.mpc_rows.specs.LinearSystem.{LinearSystem}
use Rattle.mpc_rows.specs.SetRuns.{box_rows, joint_rows}
use Rattle.mpc_beginnings.specs.Beginnings.{lengthened}
use Rattle.mpc_systems.specs.Systems.{joint_system}
use Rattle.mpc_systems.specs.Writing.{widened}
use Rattle.mpc_tree.specs.CellRuns.{IsRunWith}
use Rattle.mpc_tree.specs.Joints.{joint_width, joint_cell, IsJointRun, AreRunsOf}

-- ---- the systems
module _ (qp : Qp) (cell : List Row) where
  cell_width : (joint_cell qp cell).width ≡ joint_width qp
  unfolding joint_cell
  cell_width = refl

  cell_joined : lengthened (joint_cell qp cell) (joint_rows qp) ≡ joint_system qp cell
  unfolding joint_cell joint_system
  cell_joined = λ i. record { width = joint_width qp; rows = append_assoc (box_rows (joint_width qp) qp.counts) (map (widened (height qp.h)) cell) (joint_rows qp) i }

  narrower : (row : Row) → lengthened (joint_cell qp cell) (widened (height qp.h) row ∷ []) ≡ joint_cell qp (cell ++ row ∷ [])
  unfolding joint_cell
  narrower row =
      let w = widened (height qp.h) in
      let e : (box_rows (joint_width qp) qp.counts ++ map w cell) ++ w row ∷ [] ≡ box_rows (joint_width qp) qp.counts ++ map w (cell ++ row ∷ []) =
      append_assoc (box_rows (joint_width qp) qp.counts) (map w cell) (w row ∷ []) ∙ ap (λ rs. box_rows (joint_width qp) qp.counts ++ rs) (sym (map-append w cell (row ∷ []))) in
      λ i. record { width = joint_width qp; rows = e i }

  -- a run that is kept, and the program's rows behind it
  module _ (s : LinearSystem) (is : s ≡ joint_cell qp cell) where
    pub kept_width : s.width ≡ joint_width qp
    kept_width = ap (λ (z : LinearSystem). z.width) is ∙ cell_width

    module _ (t : LinearSystem) (own : t ≡ record { width = joint_width qp; rows = joint_rows qp }) where
      pub behind_width : t.width ≡ s.width
      behind_width = ap (λ (z : LinearSystem). z.width) own ∙ sym kept_width

      pub behind_rows : lengthened s t.rows ≡ joint_system qp cell
      behind_rows = ap (λ (z : LinearSystem). lengthened s z.rows) own ∙ ap (λ z. lengthened z (joint_rows qp)) is ∙ cell_joined

  -- one more row
  module _ (run : Option LinearSystem) (of_cell : IsJointRun qp cell run) (row : Row) (wide : Row) (w : wide ≡ widened (height qp.h) row) where
    wide_width : length row.a ≡ length qp.counts → length wide.a ≡ joint_width qp
    wide_width e = ap (λ (r : Row). length r.a) w ∙ length-append row.a (zeros (height qp.h)) ∙ ap (λ n. n + length (zeros (height qp.h))) e ∙ ap (λ n. length qp.counts + n) (length-replicate (height qp.h) (int (pos 0)))

    pub wide_fits : length row.a ≡ length qp.counts → IfSome run (λ s. length wide.a ≡ s.width)
    wide_fits e = by run of_cell
      where
        by : (run : Option LinearSystem) → IsJointRun qp cell run → IfSome run (λ s. length wide.a ≡ s.width)
        by None h = h
        by (Some s) h = wide_width e ∙ sym (kept_width s h)

    pub narrowed : (longer : Option LinearSystem) → IsRunWith run wide longer → IsJointRun qp (cell ++ row ∷ []) longer
    narrowed None h = h
    narrowed (Some s) h =
        let kept : h.0 ≡ joint_cell qp cell = subst (λ o. IsJointRun qp cell o) h.1 of_cell in
        h.2 ∙ ap (λ r. lengthened h.0 (r ∷ [])) w ∙ ap (λ z. lengthened z (widened (height qp.h) row ∷ [])) kept ∙ narrower row

-- the box alone
pub box_alone : (qp : Qp) (s : LinearSystem) → s.width ≡ joint_width qp → s.rows ≡ box_rows s.width qp.counts → s ≡ joint_cell qp []
unfolding joint_cell
box_alone qp s w e =
    let rows : s.rows ≡ box_rows (joint_width qp) qp.counts ++ [] = e ∙ ap (λ n. box_rows n qp.counts) w ∙ sym (append-nil _) in
    λ i. record { width = w i; rows = rows i }

-- ---- first rows
pub shared_front : (one other : List Row) (k n : ℕ) → k ≤ n → n ≤ length one → take n one ≡ take n other → take k one ≡ take (length (take k one)) other
shared_front one other k n l m e =
    let size : length (take k one) ≡ k = length-take-le k one (omega arith) in
    sym (take-take k n one l) ∙ ap (take k) e ∙ take-take k n other l ∙ sym (ap (λ j. take j other) size)

-- ---- the list of the runs
module _ (qp : Qp) (cell : List Row) (runs : List (Option LinearSystem)) (are : AreRunsOf qp cell runs) where
  -- the run of all rows
  pub last_run : length runs ≡ length cell + 1 → (run : Option LinearSystem) (k : ℕ) → k ≡ length cell → run ≡ get_or runs k run → IsJointRun qp cell run
  last_run e run k l is =
      let read : run ≡ get_or runs k None = get_or_read runs k run (omega arith) is None in
      subst (λ o. IsJointRun qp cell o) (sym read) (subst (λ c. IsJointRun qp c (get_or runs k None)) (take_all k cell (omega arith)) (are.each k (omega arith)))

  -- one more row, and then its run
  pub row_more : (row : Row) → AreRunsOf qp (cell ++ row ∷ []) runs
  row_more row = record {
    within = omega (arith, are.within, length-append cell (row ∷ []));
    each = λ k below.
        let inside : k ≤ length cell = omega (arith, are.within) in
        subst (λ c. IsJointRun qp c (get_or runs k None)) (sym (take-append-le k cell (row ∷ []) inside)) (are.each k below);
  }

  pub run_more : (run : Option LinearSystem) → length runs ≡ length cell → IsJointRun qp cell run → AreRunsOf qp cell (runs ++ run ∷ [])
  run_more run e h =
      let longer : length (runs ++ run ∷ []) ≡ length runs + 1 = length-append runs (run ∷ []) in
      let P : ℕ → Type 0 = λ k. IsJointRun qp (take k cell) (get_or (runs ++ run ∷ []) k None) in
      let here : P (length runs) = subst (λ o. IsJointRun qp (take (length runs) cell) o) (sym (get_or-append_seam runs run [] None)) (subst (λ c. IsJointRun qp c run) (sym (take_all (length runs) cell (omega arith))) h) in
      record {
        within = omega arith;
        each = λ k below. below_more P (length runs) (λ k l. subst (λ o. IsJointRun qp (take k cell) o) (sym (get_or_append_left runs (run ∷ []) None k l)) (are.each k l)) here k (omega arith);
      }
