-- The runs of a set's beginnings: the system of a set with one more member is that of the set with one more row.
use Rattle.std.proofs.Common.{◌≡◌, ℕ, suc, ◌+◌, ◌-◌, ◌*◌, ◌<◌, ◌≤◌, ◌++◌, List, [], ◌∷◌, length, get_or, take, map, Option, Some, None, Result, Ok, Err, IfOk, IfSome, refl, sym, ◌∙◌, ap, subst, subst₂, arith, ⊎_elim}
use Rattle.std.proofs.Math.Seq.{take-length, get_or-append_seam}
use Rattle.std.proofs.lemmas.Bool.{cases_lt}
use Rattle.std.proofs.lemmas.List.{append_assoc, map-append, take_more, take-take, length-append, length-map, length-take, get_or-take, get_or_append_left, get_or-append_right}
use Rattle.std.proofs.lemmas.List.FromFn.{length-range_with_len, get_or-map-range_with_len}
use Rattle.std.specs.List.{range_with_len}
use Rattle.mpc_space.specs.Matrix.{height}
use Rattle.mpc_rows.specs.declared.programs.Qp.{Qp}
use Rattle.mpc_rows.specs.declared.systems.Row.{Row}
use Rattle.mpc_frac.specs.declared.NoMemory.{NoMemory}
use Rattle.mpc_rows.specs.LinearSystem.{LinearSystem, height as rows_of, no_row, row_at}
use Rattle.mpc_rows.specs.SetRuns.{box_from, box_rows, joint_row, joint_rows, turned, reach_system}
use Rattle.mpc_beginnings.specs.Beginnings.{lengthened}
use Rattle.mpc_region.specs.Kept.{IsReachRun, AreReachRuns}

box-length : (width from : ℕ) (counts : List ℕ) → length (box_from width from counts) ≡ 2 * length counts
box-length width from [] = refl
box-length width from (count ∷ counts) = let e = box-length width (suc from) counts in omega arith

module _ (qp : Qp) where
  abbrev box : List Row
  box = box_rows (length qp.counts + height qp.h) qp.counts

  abbrev member_rows : List ℕ → List Row
  member_rows set = map (λ i. turned (joint_row qp i)) set

  pub reach_width : (set : List ℕ) → (reach_system qp set).width ≡ length qp.counts + height qp.h
  unfolding reach_system
  reach_width set = refl

  -- where the row of a member stands
  module _ (set : List ℕ) (i : ℕ) (from_one : 1 ≤ i) (to_last : i ≤ height qp.g) where
    abbrev place : ℕ
    place = 2 * length qp.counts + (i - 1)

    box_size : length box ≡ 2 * length qp.counts
    box_size = box-length (length qp.counts + height qp.h) 0 qp.counts

    joint_size : length (joint_rows qp) ≡ height qp.g
    joint_size = length-map (range_with_len 1 (height qp.g)) (joint_row qp) ∙ length-range_with_len 1 (height qp.g)

    place_within : place < rows_of (reach_system qp set)
    unfolding reach_system
    place_within =
        let a = length-append box (joint_rows qp ++ member_rows set) in
        let b = length-append (joint_rows qp) (member_rows set) in
        let c = box_size in
        let d = joint_size in
        omega arith

    place_row : row_at (reach_system qp set) place ≡ joint_row qp i
    unfolding reach_system
    place_row =
        get_or-append_right box (joint_rows qp ++ member_rows set) (2 * length qp.counts) place no_row box_size (omega arith)
        ∙ (let e : place - 2 * length qp.counts ≡ i - 1 = omega arith in ap (λ k. get_or (joint_rows qp ++ member_rows set) k no_row) e)
        ∙ get_or_append_left (joint_rows qp) (member_rows set) no_row (i - 1) (let d = joint_size in omega arith)
        ∙ get_or-map-range_with_len (joint_row qp) 1 (height qp.g) (i - 1) i no_row (omega arith) (omega arith)

  reach_longer : (set : List ℕ) (i : ℕ) → lengthened (reach_system qp set) (turned (joint_row qp i) ∷ []) ≡ reach_system qp (set ++ i ∷ [])
  unfolding reach_system
  reach_longer set i = λ t. record {
    width = length qp.counts + height qp.h;
    rows = (append_assoc box (joint_rows qp ++ member_rows set) (member_rows (i ∷ []))
        ∙ ap (λ z. box ++ z) (append_assoc (joint_rows qp) (member_rows set) (member_rows (i ∷ []))
        ∙ ap (λ z. joint_rows qp ++ z) (sym (map-append (λ i. turned (joint_row qp i)) set (i ∷ []))))) t;
  }

  module _ (set : List ℕ) where
    -- the run of one more member
    module _ (k : ℕ) (kept : Option LinearSystem) (before : LinearSystem) (there : kept ≡ Some before) (is : IsReachRun qp (take k set) kept) where
      before_is : before ≡ reach_system qp (take k set)
      before_is = subst (IsReachRun qp (take k set)) there is

      pub same_width : (width : ℕ) → width ≡ length qp.counts + height qp.h → width ≡ before.width
      same_width width w = w ∙ sym (ap (λ (s : LinearSystem). s.width) before_is ∙ reach_width (take k set))

      pub row_within : (i at : ℕ) → 1 ≤ i → i ≤ height qp.g → at ≡ 2 * length qp.counts + (i - 1) → at < rows_of before
      row_within i at a b e = subst (λ (s : LinearSystem). at < rows_of s) (sym before_is) (subst (λ p. p < rows_of (reach_system qp (take k set))) (sym e) (place_within (take k set) i a b))

      pub turned_row : (i at : ℕ) → 1 ≤ i → i ≤ height qp.g → at ≡ 2 * length qp.counts + (i - 1) → turned (row_at before at) ≡ turned (joint_row qp i)
      turned_row i at a b e = ap turned ((λ t. row_at (before_is t) (e t)) ∙ place_row (take k set) i a b)

      next_is : (i : ℕ) → k < length set → i ≡ get_or set k 0 → (row : Row) → row ≡ turned (joint_row qp i) → lengthened before (row ∷ []) ≡ reach_system qp (take (k + 1) set)
      next_is i l e row r =
          (λ t. lengthened (before_is t) (r t ∷ [])) ∙ reach_longer (take k set) i ∙ ap (λ j. reach_system qp (take k set ++ j ∷ [])) e
          ∙ ap (reach_system qp) (sym (take_more set k 0 l))

      pub reach_next : (i : ℕ) → k < length set → i ≡ get_or set k 0 → (row : Row) → row ≡ turned (joint_row qp i) → (r : Result (Option LinearSystem) NoMemory) → IfOk r (λ o. IfSome o (λ b. b ≡ lengthened before (row ∷ []))) → IfOk r (IsReachRun qp (take (k + 1) set))
      reach_next i l e row r (Ok (Some b)) h = h ∙ next_is i l e row r
      reach_next i l e row r (Ok None) h = h
      reach_next i l e row r (Err x) h = h

      pub reach_last : (i : ℕ) → suc k ≡ length set → i ≡ get_or set k 0 → (row : Row) → row ≡ turned (joint_row qp i) → lengthened before (row ∷ []) ≡ reach_system qp set
      reach_last i l e row r = next_is i (omega arith) e row r ∙ ap (reach_system qp) (let q : k + 1 ≡ length set = omega arith in ap (λ n. take n set) q ∙ take-length set)

    -- ---- the list of runs
    module _ (runs : List (Option LinearSystem)) (are : AreReachRuns qp set runs) where
      pub runs_shared : (other : List ℕ) (shared : ℕ) → shared ≤ length set → shared ≤ length other → take shared set ≡ take shared other → (new : List (Option LinearSystem)) → new ≡ take (shared + 1) runs → AreReachRuns qp other new
      runs_shared other shared in_one in_other alike new e = subst (AreReachRuns qp other) (sym e) (record { few = omega (arith, within); each = by })
        where
          within : length (take (shared + 1) runs) ≤ shared + 1
          within = rw length-take (omega arith)

          fewer : length (take (shared + 1) runs) ≤ length runs
          fewer = rw length-take (omega arith)

          by : (k : ℕ) → k < length (take (shared + 1) runs) → IsReachRun qp (take k other) (get_or (take (shared + 1) runs) k None)
          by k h =
              let l : k ≤ shared = omega (arith, within) in
              subst₂ (λ s o. IsReachRun qp s o)
              (sym (take-take k shared set l) ∙ ap (take k) alike ∙ take-take k shared other l)
              (sym (get_or-take (shared + 1) runs k None (omega arith)))
              (are.each k (omega (arith, fewer)))

      -- one more run
      pub runs_more : (run : Option LinearSystem) (new : List (Option LinearSystem)) → new ≡ runs ++ run ∷ [] → length runs ≤ length set → IsReachRun qp (take (length runs) set) run → AreReachRuns qp set new
      runs_more run new e room is = subst (AreReachRuns qp set) (sym e) (record { few = omega (arith, length-append runs (run ∷ [])); each = by })
        where
          by : (k : ℕ) → k < length (runs ++ run ∷ []) → IsReachRun qp (take k set) (get_or (runs ++ run ∷ []) k None)
          by k h = ⊎_elim
              (λ l. subst (IsReachRun qp (take k set)) (sym (get_or_append_left runs (run ∷ []) None k l)) (are.each k l))
              (λ l.
              let last : length runs ≡ k = omega (arith, length-append runs (run ∷ [])) in
              subst (λ k. IsReachRun qp (take k set) (get_or (runs ++ run ∷ []) k None)) last (subst (IsReachRun qp (take (length runs) set)) (sym (get_or-append_seam runs run [] None)) is))
              (cases_lt k (length runs))
