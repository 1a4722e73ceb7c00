-- Rows that are known to hold on a cell are left out at first, and their certificates are put before those of the further rows.
use Rattle.std.proofs.Common.{◌≡◌, ℕ, ◌+◌, ◌-◌, ◌<◌, ◌≤◌, List, [], ◌∷◌, ◌++◌, drop, length, get_or, refl, sym, ◌∙◌, ap, subst, arith, ◌⊎◌, inl, inr, Some, slice_get}
use Rattle.std.proofs.lemmas.Bool.{cases_order}
use Rattle.std.proofs.lemmas.Option.{slice_get-get_or, slice_get_within, get_or_from_slice_get}
use Rattle.std.proofs.lemmas.List.{get_or-drop, get_or_append_left, get_or-append-add, length-append, length-drop}
use Rattle.mpc_exact.specs.Rational.{ℚ}
use Rattle.mpc_space.specs.Matrix.{height}
use Rattle.mpc_linear.specs.declared.integers.RowInt.{RowInt}
use Rattle.mpc_rows.specs.declared.programs.Qp.{Qp}
use Rattle.mpc_rows.specs.declared.laws.Law.{Law}
use Rattle.mpc_rows.specs.declared.systems.Row.{Row}
use Rattle.mpc_systems.specs.Systems.{hold_system}
use Rattle.mpc_tree.specs.Borders.{AreBorders}
use Rattle.mpc_tree.specs.Cells.{NoneFailsBefore}
use Rattle.mpc_tree.specs.Growth.{NextFits, HoldFirst, IsLeftOutOf}
use Rattle.mpc_tree.specs.LeafCerts.{IsCertOf, AreCertsOf}
use Rattle.mpc_tree.specs.NodeRuns.{HoldsFit}
use Rattle.mpc_tree.specs.Trees.{Cell}
use Rattle.mpc_tree.proofs.NodeLemmas.{law_of, border_of, same_at, certs_more}

-- ---- which rows are left out
module _ (qp : Qp) (borders : List (List RowInt)) (cell : Cell) where
  pub held_left_out : (held : ℕ) → HoldFirst qp borders cell held → NextFits qp borders cell → IsLeftOutOf qp borders cell held
  held_left_out held h next rows is = record {
    within = h.within rows is;
    none = h.none rows is;
    fits = λ i row l k.
        let within : held ≤ length rows = h.within rows is in
        let fits : HoldsFit qp cell.rows rows (length rows) = subst (λ rs. HoldsFit qp cell.rows rs (length rs)) (same_at borders cell.next cell.next next.rows rows refl next.is_border is) next.holds in
        fits i row (omega arith) k;
  }

  pub none_left_out : IsLeftOutOf qp borders cell 0
  none_left_out rows is = record {
    within = omega arith;
    none = λ i row l k. absurd (omega arith);
    fits = λ i row l k. absurd (omega arith);
  }

  -- a law has as many rows as the program
  pub held_first : (laws : List Law) → AreBorders qp laws borders → (held : ℕ) → held ≤ height qp.g → ((rows : List RowInt) → slice_get borders cell.next ≡ Some rows → NoneFailsBefore qp rows cell.rows held) → HoldFirst qp borders cell held
  held_first laws are held few none = record {
    within = λ rows is.
        let law = law_of qp laws borders are cell.rows cell.next rows is in
        let border = border_of qp laws borders are cell.rows cell.next rows is law.0 law.1 in
        omega (arith, border.of_law.one_each);
    none = none;
  }

-- ---- lists
module _ {A : Type 0} (xs : List A) (first i : ℕ) (x : A) (behind : first ≤ i) (is : slice_get xs i ≡ Some x) where
  within_dropped : i - first < length (drop first xs)
  within_dropped = omega (arith, length-drop first xs, slice_get_within xs i x is)

  slice_get-dropped : slice_get (drop first xs) (i - first) ≡ Some x
  slice_get-dropped =
      let place : first + (i - first) ≡ i = omega arith in
      slice_get-get_or (drop first xs) (i - first) x within_dropped ∙ ap Some (get_or-drop first xs (i - first) x ∙ ap (λ j. get_or xs j x) place ∙ get_or_from_slice_get xs i x x is)

module _ {A : Type 0} (xs ys : List A) (i : ℕ) (x : A) where
  slice_get-front : slice_get xs i ≡ Some x → slice_get (xs ++ ys) i ≡ Some x
  slice_get-front is =
      let within : i < length xs = slice_get_within xs i x is in
      slice_get-get_or (xs ++ ys) i x (omega (arith, length-append xs ys)) ∙ ap Some (get_or_append_left xs ys x i within ∙ get_or_from_slice_get xs i x x is)

  slice_get-back : slice_get ys i ≡ Some x → slice_get (xs ++ ys) (length xs + i) ≡ Some x
  slice_get-back is =
      let within : i < length ys = slice_get_within ys i x is in
      slice_get-get_or (xs ++ ys) (length xs + i) x (omega (arith, length-append xs ys)) ∙ ap Some (get_or-append-add xs ys i x ∙ get_or_from_slice_get ys i x x is)

-- ---- certificates
module _ (qp : Qp) (cell : List Row) (rows : List RowInt) where
  pub no_certs : (certs : List (List (ℕ × ℚ))) → certs ≡ [] → AreCertsOf qp cell rows 0 certs
  no_certs certs e = subst (AreCertsOf qp cell rows 0) (sym e) (record { one_each = refl; each = λ i row l k. absurd (omega arith) })

  module _ (first : ℕ) where
    -- those of the rows behind the first so many
    pub further_none : AreCertsOf qp cell (drop first rows) (first - first) []
    further_none = record { one_each = omega arith; each = λ i row l k. absurd (omega arith) }

    pub further_more : (place : ℕ) (row : RowInt) → first ≤ place → slice_get rows place ≡ Some row → (certs new : List (List (ℕ × ℚ))) (cert : List (ℕ × ℚ)) → AreCertsOf qp cell (drop first rows) (place - first) certs → IsCertOf (hold_system qp cell row) cert → new ≡ certs ++ cert ∷ [] → AreCertsOf qp cell (drop first rows) (place + 1 - first) new
    further_more place row behind is certs new cert before h e =
        let count : place - first + 1 ≡ place + 1 - first = omega arith in
        subst (λ n. AreCertsOf qp cell (drop first rows) n new) count (certs_more qp cell (drop first rows) (place - first) row (slice_get-dropped rows first place row behind is) certs new cert before h e)

    -- the first ones before them
    pub certs_joined : (front back all : List (List (ℕ × ℚ))) → first ≤ length rows → AreCertsOf qp cell rows first front → AreCertsOf qp cell (drop first rows) (length rows - first) back → all ≡ front ++ back → AreCertsOf qp cell rows (length rows) all
    certs_joined front back all within f b e = subst (AreCertsOf qp cell rows (length rows)) (sym e) (record {
      one_each = omega (arith, length-append front back, f.one_each, b.one_each);
      each = λ i row l k. by i row l k (cases_order i first);
    })
      where
        at_front : (i : ℕ) (row : RowInt) → i < first → slice_get rows i ≡ Some row → (cert : List (ℕ × ℚ)) × (slice_get (front ++ back) i ≡ Some cert) × IsCertOf (hold_system qp cell row) cert
        at_front i row l k = let found = f.each i row l k in (found.0, slice_get-front front back i found.0 found.1, found.2)

        at_back : (i : ℕ) (row : RowInt) → first ≤ i → i < length rows → slice_get rows i ≡ Some row → (cert : List (ℕ × ℚ)) × (slice_get (front ++ back) i ≡ Some cert) × IsCertOf (hold_system qp cell row) cert
        at_back i row behind l k =
            let found = b.each (i - first) row (omega arith) (slice_get-dropped rows first i row behind k) in
            let place : length front + (i - first) ≡ i = omega (arith, f.one_each) in
            (found.0, subst (λ j. slice_get (front ++ back) j ≡ Some found.0) place (slice_get-back front back (i - first) found.0 found.1), found.2)

        by : (i : ℕ) (row : RowInt) → i < length rows → slice_get rows i ≡ Some row → (i ≡ first) ⊎ ((i < first) ⊎ (first < i)) → (cert : List (ℕ × ℚ)) × (slice_get (front ++ back) i ≡ Some cert) × IsCertOf (hold_system qp cell row) cert
        by i row l k (inl p) = at_back i row (omega arith) l k
        by i row l k (inr (inl p)) = at_front i row p k
        by i row l k (inr (inr p)) = at_back i row (omega arith) l k
