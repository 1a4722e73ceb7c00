-- Why the growth ends: a split leaves fewer rows of its law to fail on the yes side, and fewer laws to meet the no side.
use Rattle.std.proofs.Common.{◌≡◌, ℕ, suc, ◌+◌, ◌-◌, ◌*◌, ◌<◌, ◌≤◌, ◌^◌, List, [], ◌∷◌, ◌++◌, length, sum_by, sym, ◌∙◌, ap, subst, arith, lit<, ◌⊎◌, inl, inr, Option, slice_get}
use Rattle.std.proofs.lemmas.Bool.{cases_order}
use Rattle.std.proofs.lemmas.List.Sums.{sum_by-append}
use Rattle.std.proofs.Math.Nat.{one-le-pow, pow-le-pow_right, pow-suc, mul-le-mul_right}
use Rattle.mpc_space.specs.Matrix.{height}
use Rattle.mpc_linear.specs.declared.integers.RowInt.{RowInt}
use Rattle.mpc_rows.specs.declared.programs.Qp.{Qp}
use Rattle.mpc_rows.specs.declared.laws.Law.{Law}
use Rattle.mpc_rows.specs.declared.trees.Node.{Node}
use Rattle.mpc_rows.specs.LinearSystem.{LinearSystem}
use Rattle.mpc_rows.specs.LawRows.{broken_row}
use Rattle.mpc_tree.specs.declared.growth.OpenSide.{OpenSide}
use Rattle.mpc_tree.specs.Borders.{AreBorders}
use Rattle.mpc_tree.specs.Growth.{IsSplitAt}
use Rattle.mpc_tree.specs.Trees.{Cell}
use Rattle.mpc_tree.proofs.Dividing.{place_within, row_within, side, sides_read}
use Rattle.mpc_tree.proofs.Growing.{IsGrown}

-- how many rows of laws can still divide a cell: those of the laws from its next on, without the first ones of the next that hold
abbrev pub rank : ℕ → ℕ → ℕ → ℕ → ℕ
rank laws rows next held = (laws - next) * (rows + 1) - held

abbrev pub weight : ℕ → ℕ → OpenSide → ℕ
weight laws rows o = 3 ^ rank laws rows o.next 0

abbrev pub weights : ℕ → ℕ → ℕ → ℕ → List OpenSide → ℕ
weights laws rows next held stack = 3 ^ rank laws rows next held + sum_by (weight laws rows) stack

-- ---- ranks, where a and b laws are left
same_law : (b m h i : ℕ) → h ≤ i → i < m → (suc ((b + 1) * (m + 1) - (i + 1)) ≤ (b + 1) * (m + 1) - h) × (suc (b * (m + 1) - 0) ≤ (b + 1) * (m + 1) - h)
same_law b m h i l k = (omega arith, omega arith)

later_law : (a b m h i : ℕ) → b + 2 ≤ a → h ≤ m → i < m → (suc ((b + 1) * (m + 1) - (i + 1)) ≤ a * (m + 1) - h) × (suc (b * (m + 1) - 0) ≤ a * (m + 1) - h)
later_law a b m h i l k q =
    let more : (b + 2) * (m + 1) ≤ a * (m + 1) = mul-le-mul_right (m + 1) l in
    (omega arith, omega arith)

ranks : (laws m next place h i : ℕ) → next ≤ place → place < laws → h ≤ m → i < m → (next ≡ place → h ≤ i) → (suc (rank laws m place (i + 1)) ≤ rank laws m next h) × (suc (rank laws m (place + 1) 0) ≤ rank laws m next h)
ranks laws m next place h i low within few inside held = by (cases_order next place)
  where
    left : laws - place ≡ laws - (place + 1) + 1
    left = omega arith

    by : (next ≡ place) ⊎ ((next < place) ⊎ (place < next)) → (suc (rank laws m place (i + 1)) ≤ rank laws m next h) × (suc (rank laws m (place + 1) 0) ≤ rank laws m next h)
    by (inl e) =
        let now : laws - next ≡ laws - (place + 1) + 1 = omega arith in
        let r = same_law (laws - (place + 1)) m h i (held e) inside in (
          subst (λ a. suc (a * (m + 1) - (i + 1)) ≤ (laws - next) * (m + 1) - h) (sym left) (subst (λ a. suc ((laws - (place + 1) + 1) * (m + 1) - (i + 1)) ≤ a * (m + 1) - h) (sym now) r.0),
          subst (λ a. suc ((laws - (place + 1)) * (m + 1) - 0) ≤ a * (m + 1) - h) (sym now) r.1,
        )
    by (inr (inl l)) =
        let more : laws - (place + 1) + 2 ≤ laws - next = omega arith in
        let r = later_law (laws - next) (laws - (place + 1)) m h i more few inside in
        (subst (λ a. suc (a * (m + 1) - (i + 1)) ≤ (laws - next) * (m + 1) - h) (sym left) r.0, r.1)
    by (inr (inr l)) = absurd (omega arith)

-- ---- weights
third : (r q : ℕ) → suc r ≤ q → 3 ^ r * 3 ≤ 3 ^ q
third r q h = subst (λ n. n ≤ 3 ^ q) (pow-suc 3 r) (pow-le-pow_right (lit< tt) h)

some : (r : ℕ) → 1 ≤ 3 ^ r
some r = one-le-pow r 3 (lit< tt)

two_less : (a b r : ℕ) → suc a ≤ r → suc b ≤ r → 3 ^ a + 3 ^ b < 3 ^ r
two_less a b r h k =
    let first = third a r h in
    let second = third b r k in
    let positive = some a in
    let positive' = some b in
    omega arith

module _ (qp : Qp) (laws : List Law) where
  one_more : (stack : List OpenSide) (o : OpenSide) → sum_by (weight (length laws) (height qp.g)) (stack ++ o ∷ []) ≡ sum_by (weight (length laws) (height qp.g)) stack + weight (length laws) (height qp.g) o
  one_more stack o = sum_by-append (weight (length laws) (height qp.g)) stack (o ∷ []) ∙ ap (λ n. sum_by (weight (length laws) (height qp.g)) stack + n) (omega arith)

  module _ (borders : List (List RowInt)) (are : AreBorders qp laws borders) (cell : Cell) (place i : ℕ) (s : IsSplitAt qp laws borders cell place i) (root : Cell) (nodes : List Node) (stack : List OpenSide) (held : ℕ) (g : IsGrown qp laws root borders nodes cell stack held) where
    -- no law before the next meets the cell
    goes_on : cell.next ≤ place
    goes_on = by (cases_order cell.next place)
      where
        by : (cell.next ≡ place) ⊎ ((cell.next < place) ⊎ (place < cell.next)) → cell.next ≤ place
        by (inl e) = omega arith
        by (inr (inl l)) = omega arith
        by (inr (inr l)) = absurd (g.ready.none place s.divides.divides.law l s.divides.divides.first.is s.divides.divides.first.meets)

    -- and no row before the held ones fails
    past_held : cell.next ≡ place → held ≤ i
    past_held e = by (cases_order held i)
      where
        by : (held ≡ i) ⊎ ((held < i) ⊎ (i < held)) → held ≤ i
        by (inl p) = omega arith
        by (inr (inl l)) = omega arith
        by (inr (inr l)) = absurd (g.holds s.rows (ap (slice_get borders) e ∙ s.is_border) i s.row l s.is_row s.fails)

    pub smaller_split : (run : Option LinearSystem) → weights (length laws) (height qp.g) place (i + 1) (stack ++ side qp laws borders are cell place i s run ∷ []) < weights (length laws) (height qp.g) cell.next held stack
    smaller_split run =
        let r = ranks (length laws) (height qp.g) cell.next place held i goes_on (place_within qp laws borders are cell place i s) g.held_within (row_within qp laws borders are cell place i s) past_held in
        let less : 3 ^ rank (length laws) (height qp.g) place (i + 1) + 3 ^ rank (length laws) (height qp.g) (place + 1) 0 < 3 ^ rank (length laws) (height qp.g) cell.next held = two_less _ _ _ r.0 r.1 in
        let sum = one_more stack (side qp laws borders are cell place i s run) in
        omega arith

    pub smaller_at : (run : Option LinearSystem) (row : RowInt) → row ≡ s.row → (sides : List OpenSide) → sides ≡ stack ++ record { shared = length cell.rows; row = broken_row row; run = run; next = place + 1 } ∷ [] → weights (length laws) (height qp.g) place (i + 1) sides < weights (length laws) (height qp.g) cell.next held stack
    smaller_at run row e sides o = subst (λ x. weights (length laws) (height qp.g) place (i + 1) x < weights (length laws) (height qp.g) cell.next held stack) (sym (sides_read qp laws borders are cell place i s stack run row e sides o)) (smaller_split run)

  pub smaller_leaf : (next held : ℕ) (stack : List OpenSide) (o : OpenSide) → weights (length laws) (height qp.g) o.next 0 stack < weights (length laws) (height qp.g) next held (stack ++ o ∷ [])
  smaller_leaf next held stack o =
      let sum = one_more stack o in
      let positive = some (rank (length laws) (height qp.g) next held) in
      omega arith
