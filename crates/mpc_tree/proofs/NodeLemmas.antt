-- What is found at a node, from the ends of its runs.
use Rattle.std.proofs.Common.{◌≡◌, ℕ, ◌+◌, ◌<◌, ◌≤◌, pos, List, [], ◌∷◌, ◌++◌, length, get_or, refl, sym, ◌∙◌, ap, subst, arith, Contains, ◌⊎◌, inl, inr, ⊎_elim, Some, None, slice_get}
use Rattle.std.proofs.lemmas.Bool.{cases_eq}
use Rattle.std.proofs.lemmas.Option.{slice_get-get_or, slice_get_within, get_or_from_slice_get, slice_get_cases}
use Rattle.std.proofs.lemmas.List.{get_or_append_left, length-append}
use Rattle.std.proofs.Math.Seq.{get_or-append_seam}
use Rattle.std.proofs.lemmas.List.Elements.{All-from_get_or}
use Rattle.mpc_exact.specs.Rational.{ℚ}
use Rattle.mpc_linear.specs.declared.integers.RowInt.{RowInt}
use Rattle.mpc_rows.specs.declared.programs.Qp.{Qp}
use Rattle.mpc_rows.specs.declared.laws.Law.{Law}
use Rattle.mpc_rows.specs.declared.systems.Row.{Row}
use Rattle.mpc_rows.specs.LinearSystem.{MeetsRow}
use Rattle.mpc_rows.specs.RunWidth.{RunFits}
use Rattle.mpc_rows.specs.ActiveSets.{IsFeasible}
use Rattle.mpc_rows.specs.Laws.{IsInRegion}
use Rattle.mpc_rows.specs.LawRows.{whole_row}
use Rattle.mpc_simplex.specs.Answer.{HasPoint}
use Rattle.mpc_systems.specs.Writing.{HasBoxWidth}
use Rattle.mpc_tree.specs.Borders.{IsBorder, AreBorders}
use Rattle.mpc_tree.specs.Cells.{IsInCell, RegionMeets, LiesInRegion, FailsOn, NoneMeetsBefore, IsFirstToMeet, NoneFailsBefore}
use Rattle.mpc_tree.specs.Growth.{MeetsNext, IsMeeting}
use Rattle.mpc_tree.specs.LeafCerts.{IsCertOf, AreCertsOf}
use Rattle.mpc_tree.specs.NodeRuns.{MeetsFit, HoldsFit}
use Rattle.mpc_systems.specs.CellTheorems.{CellTheorems}
use Rattle.mpc_systems.specs.Systems.{meet_system, hold_system, joint_system}
use Rattle.mpc_tree.specs.WideRuns.{IsWideMeet, IsWideHold}
use Rattle.mpc_tree.proofs.CellPoints.{region_by_rows, region_meets, holds_unless, admitted}

some_one : {A : Type 0} {x y : A} → Some x ≡ Some y → x ≡ y
some_one e = cc

pub same_at : {A : Type 0} (xs : List A) (i j : ℕ) (x y : A) → i ≡ j → slice_get xs i ≡ Some x → slice_get xs j ≡ Some y → x ≡ y
same_at xs i j x y e h k = some_one (sym h ∙ ap (slice_get xs) e ∙ k)

there : {A : Type 0} (xs : List A) (i : ℕ) → i < length xs → (x : A) × (slice_get xs i ≡ Some x)
there {A = A} xs i h = by (slice_get_cases xs i).1
  where
    by : ((x : A) × (i < length xs) × (slice_get xs i ≡ Some x) × (get_or xs i x ≡ x)) ⊎ ((length xs ≤ i) × (slice_get xs i ≡ None)) → (x : A) × (slice_get xs i ≡ Some x)
    by (inl f) = (f.0, f.2)
    by (inr g) = let past : length xs ≤ i = g.0 in absurd (omega arith)

-- ---- the laws in turn
module _ (qp : Qp) (laws : List Law) (borders : List (List RowInt)) (are : AreBorders qp laws borders) (cell : List Row) (place : ℕ) (rows : List RowInt) (is : slice_get borders place ≡ Some rows) where
  inside : place < length laws
  inside = let within : place < length borders = slice_get_within borders place rows is in omega (arith, are.one_each)

  pub law_of : (law : Law) × (slice_get laws place ≡ Some law)
  law_of = there laws place inside

  pub border_of : (law : Law) → slice_get laws place ≡ Some law → IsBorder qp law rows
  border_of law h = are.each place law rows h is

  none_meets : CellTheorems → (¬ HasPoint (meet_system qp cell rows)) → (law : Law) → slice_get laws place ≡ Some law → ¬ RegionMeets qp cell law
  none_meets points h law k m = let border = border_of law k in h ((region_meets points qp law border.is_law rows border.of_law cell).0 m)

  pub meets_none : CellTheorems → NoneMeetsBefore qp laws cell place → (¬ HasPoint (meet_system qp cell rows)) → NoneMeetsBefore qp laws cell (place + 1)
  meets_none points before h i law l k = ⊎_elim
      (λ p. none_meets points h law (ap (slice_get laws) (sym p) ∙ k))
      (λ p. before i law (omega arith) k)
      (cases_eq i place)

  pub meets_fit : (next : ℕ) → MeetsFit qp laws (record { rows = cell; next = next }) place → RunFits (meet_system qp cell rows) → MeetsFit qp laws (record { rows = cell; next = next }) (place + 1)
  meets_fit next before h i law low l k = ⊎_elim
      (λ p.
      let here : slice_get laws place ≡ Some law = ap (slice_get laws) (sym p) ∙ k in
      record { rows = rows; of_law = (border_of law here).of_law; fits = h })
      (λ p. before i law low (omega arith) k)
      (cases_eq i place)

  pub meets_first : CellTheorems → NoneMeetsBefore qp laws cell place → HasPoint (meet_system qp cell rows) → (law : Law) × IsFirstToMeet qp laws cell place law
  meets_first points before h =
      let border = border_of law_of.0 law_of.1 in
      (law_of.0, record { is = law_of.1; meets = (region_meets points qp law_of.0 border.is_law rows border.of_law cell).1 h; before = before })

  pub meets_known : MeetsNext qp laws (record { rows = cell; next = place }) → NoneMeetsBefore qp laws cell place → RunFits (meet_system qp cell rows) → IsMeeting qp laws (record { rows = cell; next = place }) place
  meets_known m before h = record {
    law = m.law;
    first = record { is = m.is; meets = m.meets; before = before };
    fits = meets_fit place (λ i law low l k. absurd (omega arith)) h;
  }

  pub meets_wide : (next : ℕ) → next ≤ place → NoneMeetsBefore qp laws cell place → MeetsFit qp laws (record { rows = cell; next = next }) place → (¬ RunFits (meet_system qp cell rows)) → IsWideMeet qp laws (record { rows = cell; next = next }) (place + 1)
  meets_wide next reached none fit h = record {
    place = place;
    number_is = refl;
    reached = reached;
    law = law_of.0;
    is_law = law_of.1;
    none_before = none;
    before = fit;
    rows = rows;
    of_law = (border_of law_of.0 law_of.1).of_law;
    wide = h;
  }

-- ---- the rows in turn
module _ (qp : Qp) (cell : List Row) (rows : List RowInt) (place : ℕ) (row : RowInt) (is : slice_get rows place ≡ Some row) where
  pub fails_none : NoneFailsBefore qp rows cell place → (¬ FailsOn qp cell row) → NoneFailsBefore qp rows cell (place + 1)
  fails_none before h i other l k = ⊎_elim
      (λ p. subst (λ r. ¬ FailsOn qp cell r) (same_at rows place i row other (sym p) is k) h)
      (λ p. before i other (omega arith) k)
      (cases_eq i place)

  pub holds_fit : HoldsFit qp cell rows place → RunFits (hold_system qp cell row) → HoldsFit qp cell rows (place + 1)
  holds_fit before h i other l k = ⊎_elim
      (λ p. subst (λ r. RunFits (hold_system qp cell r)) (same_at rows place i row other (sym p) is k) h)
      (λ p. before i other (omega arith) k)
      (cases_eq i place)

  pub certs_more : (certs new : List (List (ℕ × ℚ))) (cert : List (ℕ × ℚ)) → AreCertsOf qp cell rows place certs → IsCertOf (hold_system qp cell row) cert → new ≡ certs ++ cert ∷ [] → AreCertsOf qp cell rows (place + 1) new
  certs_more certs new cert before h e = subst (AreCertsOf qp cell rows (place + 1)) (sym e) (record {
    one_each = length-append certs (cert ∷ []) ∙ ap (λ n. n + 1) before.one_each;
    each = λ i other l k. ⊎_elim
        (λ p. (
          cert,
          last i p,
          subst (λ r. IsCertOf (hold_system qp cell r) cert) (same_at rows place i row other (sym p) is k) h,
        ))
        (λ p.
        let old = before.each i other (omega arith) k in
        let within : i < length certs = slice_get_within certs i old.0 old.1 in
        (old.0, earlier i old.0 within old.1, old.2))
        (cases_eq i place);
  })
    where
      longer : length (certs ++ cert ∷ []) ≡ length certs + 1
      longer = length-append certs (cert ∷ [])

      last : (i : ℕ) → i ≡ place → slice_get (certs ++ cert ∷ []) i ≡ Some cert
      last i p =
          let at : i ≡ length certs = p ∙ sym before.one_each in
          slice_get-get_or (certs ++ cert ∷ []) i cert (omega (arith, longer)) ∙ ap Some (ap (λ j. get_or (certs ++ cert ∷ []) j cert) at ∙ get_or-append_seam certs cert [] cert)

      earlier : (i : ℕ) (old : List (ℕ × ℚ)) → i < length certs → slice_get certs i ≡ Some old → slice_get (certs ++ cert ∷ []) i ≡ Some old
      earlier i old within k =
          slice_get-get_or (certs ++ cert ∷ []) i cert (omega (arith, longer)) ∙ ap Some (get_or_append_left certs (cert ∷ []) cert i within ∙ get_or_from_slice_get certs i old cert k)

  pub holds_wide : NoneFailsBefore qp rows cell place → HoldsFit qp cell rows place → (¬ RunFits (hold_system qp cell row)) → IsWideHold qp cell rows (place + 1)
  holds_wide none fit h = record { place = place; number_is = refl; row = row; is_row = is; none_before = none; before = fit; wide = h }

-- where no row of a law fails on the cell, it lies in the region
pub lies_in : (points : CellTheorems) (qp : Qp) (law : Law) (rows : List RowInt) (cell : List Row) → IsBorder qp law rows → NoneFailsBefore qp rows cell (length rows) → LiesInRegion qp cell law
lies_in points qp law rows cell border none = record {
  each = λ t c. region_by_rows points qp law border.is_law rows border.of_law cell t c (All-from_get_or (λ row. MeetsRow t (whole_row row)) rows (record { a = []; b = pos 0 }) (λ k l. holds t c k l));
}
  where
    holds : (t : List ℚ) → IsInCell qp cell t → (k : ℕ) → k < length rows → MeetsRow t (whole_row (get_or rows k (record { a = []; b = pos 0 })))
    holds t c k l =
        holds_unless points (get_or rows k (record { a = []; b = pos 0 })) t (λ fails. none k (get_or rows k (record { a = []; b = pos 0 })) l (slice_get-get_or rows k (record { a = []; b = pos 0 }) l) (record { state = t; in_cell = c; fails = fails }))

-- ---- without a region
-- where the regions cover the admissible states, a cell that none of them meets has no admissible unknowns
module _ (qp : Qp) (laws : List Law) (cell : List Row) (none : NoneMeetsBefore qp laws cell (length laws)) where
  pub no_admissible : ((t z : List ℚ) → IsFeasible qp t z → (law : Law) × Contains laws law × IsInRegion qp law t) → (t z : List ℚ) → IsInCell qp cell t → ¬ IsFeasible qp t z
  no_admissible covers t z c f =
      let found = covers t z f in
      none found.1.0 found.0 found.1.1 (slice_get-get_or laws found.1.0 found.0 found.1.1 ∙ ap Some found.1.2) (record { state = t; in_cell = c; in_region = found.2 })

  pub no_joint : CellTheorems → ((t z : List ℚ) → IsFeasible qp t z → (law : Law) × Contains laws law × IsInRegion qp law t) → HasBoxWidth qp cell → ¬ HasPoint (joint_system qp cell)
  no_joint points covers wide p = let found = admitted points qp cell wide p in no_admissible covers found.0 found.1 found.2 found.3
