-- The growth of a tree: what is still to come, and why it ends.
use Rattle.std.proofs.Common.{◌≡◌, ℕ, ◌+◌, ◌≤◌, List, [], ◌∷◌, ◌++◌, length, take, reverse, refl, sym, ◌∙◌, ap, subst, subst₂, arith, ◌⊎◌, inl, inr, Option, Some, slice_get}
use Rattle.std.proofs.lemmas.List.{append-nil, append_assoc, length-append, reverse-append, take-append-le}
use Rattle.mpc_space.specs.Matrix.{height}
use Rattle.mpc_linear.specs.declared.integers.RowInt.{RowInt}
use Rattle.mpc_rows.specs.declared.programs.Qp.{Qp}
use Rattle.mpc_rows.specs.declared.laws.Law.{Law}
use Rattle.mpc_rows.specs.declared.systems.Row.{Row}
use Rattle.mpc_rows.specs.declared.places.Place.{Place}
use Rattle.mpc_rows.specs.declared.trees.Node.{Node}
use Rattle.mpc_rows.specs.LinearSystem.{LinearSystem}
use Rattle.mpc_tree.specs.declared.growth.OpenSide.{OpenSide}
use Rattle.mpc_tree.specs.declared.errors.TreeError.{TreeError}
use Rattle.mpc_tree.specs.declared.errors.TreeError.TheVariants.{Wide, NoMemory}
use Rattle.mpc_tree.specs.Causes.{IfWide}
use Rattle.mpc_tree.specs.CellRuns.{IsRunOf}
use Rattle.mpc_tree.specs.Cells.{NoneFailsBefore}
use Rattle.mpc_tree.specs.Growth.{IsReady, IsLeafAt, IsBuilt}
use Rattle.mpc_tree.specs.Trees.{Cell, leaf}
use Rattle.mpc_tree.specs.WideRuns.{IsWideAt, IsFirstWide, here}

-- ---- the stack, its top first
-- the cell of an open side
abbrev pub side_cell : List Row → OpenSide → Cell
side_cell path o = record { rows = take o.shared path ++ o.row ∷ []; next = o.next }

module _ (qp : Qp) (laws : List Law) where
  abbrev pub AreReady : List Row → List OpenSide → Type 0
  AreReady path [] = Unit {0}
  AreReady path (o ∷ os) = (o.shared ≤ length path) × IsReady qp laws (side_cell path o) × IsRunOf qp (take o.shared path ++ o.row ∷ []) o.run × AreReady (take o.shared path) os

  -- the nodes are the trees of the open sides, one after the other
  abbrev pub AreTrees : List Row → List OpenSide → List Node → Type 0
  AreTrees path [] nodes = nodes ≡ []
  AreTrees path (o ∷ os) nodes = (first : List Node) × (later : List Node) × (nodes ≡ first ++ later) × IsBuilt qp laws (side_cell path o) first × AreTrees (take o.shared path) os later

  -- the place is the first wide one among the open sides, whose first node has this number
  abbrev pub IsWideAmong : List Row → List OpenSide → ℕ → Place → Type 0
  IsWideAmong path [] number place = ⊥
  IsWideAmong path (o ∷ os) number place = IsFirstWide qp laws (side_cell path o) number place ⊎ ((first : List Node) × IsBuilt qp laws (side_cell path o) first × IsWideAmong (take o.shared path) os (number + length first) place)

  -- only the part of the path that the top shares counts
  shorter : (path : List Row) (r : Row) (o : OpenSide) → o.shared ≤ length path → take o.shared (path ++ r ∷ []) ≡ take o.shared path
  shorter path r o h = take-append-le o.shared path (r ∷ []) h

  pub ready_longer : (path : List Row) (r : Row) (os : List OpenSide) → AreReady path os → AreReady (path ++ r ∷ []) os
  ready_longer path r [] h = h
  ready_longer path r (o ∷ os) h = (
    omega (arith, h.0, length-append path (r ∷ [])),
    subst (λ p. IsReady qp laws (record { rows = p ++ o.row ∷ []; next = o.next })) (sym (shorter path r o h.0)) h.1,
    subst (λ p. IsRunOf qp (p ++ o.row ∷ []) o.run) (sym (shorter path r o h.0)) h.2,
    subst (λ p. AreReady p os) (sym (shorter path r o h.0)) h.3,
  )

  pub trees_shorter : (path : List Row) (r : Row) (os : List OpenSide) (nodes : List Node) → AreReady path os → AreTrees (path ++ r ∷ []) os nodes → AreTrees path os nodes
  trees_shorter path r [] nodes h t = t
  trees_shorter path r (o ∷ os) nodes h t =
      let e = shorter path r o h.0 in
      (t.0, t.1, t.2, subst (λ p. IsBuilt qp laws (record { rows = p ++ o.row ∷ []; next = o.next }) t.0) e t.3, subst (λ p. AreTrees p os t.1) e t.4)

  pub wide_shorter : (path : List Row) (r : Row) (os : List OpenSide) (number : ℕ) (place : Place) → AreReady path os → IsWideAmong (path ++ r ∷ []) os number place → IsWideAmong path os number place
  wide_shorter path r [] number place h w = w
  wide_shorter path r (o ∷ os) number place h (inl w) = inl (subst (λ p. IsFirstWide qp laws (record { rows = p ++ o.row ∷ []; next = o.next }) number place) (shorter path r o h.0) w)
  wide_shorter path r (o ∷ os) number place h (inr w) =
      let e = shorter path r o h.0 in
      inr (w.0, subst (λ p. IsBuilt qp laws (record { rows = p ++ o.row ∷ []; next = o.next }) w.0) e w.1, subst (λ p. IsWideAmong p os (number + length w.0) place) e w.2)

  -- ---- the state of the growth of the tree of a cell, the root
  module _ (root : Cell) where
    pub record IsGrown (borders : List (List RowInt)) (nodes : List Node) (cell : Cell) (stack : List OpenSide) (held : ℕ) : Type 0 where
      pub ready : IsReady qp laws cell
      pub held_within : held ≤ height qp.g
      pub holds : (rows : List RowInt) → slice_get borders cell.next ≡ Some rows → NoneFailsBefore qp rows cell.rows held
      pub sides : AreReady cell.rows (reverse stack)
      pub completes : (first later : List Node) → IsBuilt qp laws cell first → AreTrees cell.rows (reverse stack) later → IsBuilt qp laws root (nodes ++ (first ++ later))
      pub wide_here : (place : Place) → IsFirstWide qp laws cell (length nodes + 1) place → IsFirstWide qp laws root 1 place
      pub wide_later : (place : Place) (first : List Node) → IsBuilt qp laws cell first → IsWideAmong cell.rows (reverse stack) (length nodes + 1 + length first) place → IsFirstWide qp laws root 1 place

    pub grown_none : IsReady qp laws root → (borders : List (List RowInt)) → IsGrown borders [] root [] 0
    grown_none ready borders = record {
      ready = ready;
      held_within = omega arith;
      holds = λ rows is i row h. absurd (omega arith);
      sides = tt;
      completes = λ first later b t. subst (IsBuilt qp laws root) (sym (ap (λ l. first ++ l) t ∙ append-nil first)) b;
      wide_here = λ place w. w;
      wide_later = λ place first b w. absurd w;
    }

    -- ---- a leaf
    pub leaf_last : (borders : List (List RowInt)) (nodes new : List Node) (cell : Cell) (held : ℕ) (node : Node) → IsGrown borders nodes cell [] held → IsLeafAt qp laws cell node → new ≡ nodes ++ node ∷ [] → IsBuilt qp laws root new
    leaf_last borders nodes new cell held node g l e = subst (IsBuilt qp laws root) (sym (e ∙ ap (λ r. nodes ++ r) (sym (append-nil (node ∷ []))))) (g.completes (node ∷ []) [] (leaf cell node l) refl)

    reversed : (stack : List OpenSide) (o : OpenSide) → reverse (stack ++ o ∷ []) ≡ o ∷ reverse stack
    reversed stack o = reverse-append stack (o ∷ [])

    pub leaf_next : (borders : List (List RowInt)) (nodes : List Node) (cell : Cell) (rest : List OpenSide) (o : OpenSide) (held : ℕ) (node : Node) → IsGrown borders nodes cell (rest ++ o ∷ []) held → IsLeafAt qp laws cell node → IsGrown borders (nodes ++ node ∷ []) (side_cell cell.rows o) rest 0
    leaf_next borders nodes cell rest o held node g l = record {
      ready = sides.1;
      held_within = omega arith;
      holds = λ rows is i row h. absurd (omega arith);
      sides = ready_longer (take o.shared cell.rows) o.row (reverse rest) sides.3;
      completes = λ first later b t.
          let trees : AreTrees cell.rows (reverse (rest ++ o ∷ [])) (first ++ later) = subst (λ os. AreTrees cell.rows os (first ++ later)) (sym (reversed rest o)) (first, later, refl, b, trees_shorter (take o.shared cell.rows) o.row (reverse rest) later sides.3 t) in
          subst (IsBuilt qp laws root) (sym (append_assoc nodes (node ∷ []) (first ++ later))) (g.completes (node ∷ []) (first ++ later) (leaf cell node l) trees);
      wide_here = λ place w. g.wide_later place (node ∷ []) (leaf cell node l) (subst (λ os. IsWideAmong cell.rows os (length nodes + 1 + 1) place) (sym (reversed rest o)) (inl (subst (λ n. IsFirstWide qp laws (side_cell cell.rows o) n place) (omega (arith, length-append nodes (node ∷ []))) w)));
      wide_later = λ place first b w. g.wide_later place (node ∷ []) (leaf cell node l) (subst (λ os. IsWideAmong cell.rows os (length nodes + 1 + 1) place) (sym (reversed rest o)) (inr (first, b, wide_shorter (take o.shared cell.rows) o.row (reverse rest) (length nodes + 1 + 1 + length first) place sides.3 (subst (λ n. IsWideAmong (take o.shared cell.rows ++ o.row ∷ []) (reverse rest) n place) (omega (arith, length-append nodes (node ∷ []))) w))));
    }
      where
        sides : AreReady cell.rows (o ∷ reverse rest)
        sides = subst (AreReady cell.rows) (reversed rest o) g.sides

    -- ---- as the code has them
    pub next_at : (borders : List (List RowInt)) (nodes tree : List Node) (cell : Cell) (stack rest : List OpenSide) (o : OpenSide) (held : ℕ) (node : Node) (path : List Row) (next : ℕ) → IsGrown borders nodes cell stack held → IsLeafAt qp laws cell node → stack ≡ rest ++ o ∷ [] → tree ≡ nodes ++ node ∷ [] → path ≡ take o.shared cell.rows ++ o.row ∷ [] → next ≡ o.next → IsGrown borders tree (record { rows = path; next = next }) rest 0
    next_at borders nodes tree cell stack rest o held node path next g l s t p n =
        let own : IsGrown borders nodes cell (rest ++ o ∷ []) held = subst (λ x. IsGrown borders nodes cell x held) s g in
        subst (λ x. IsGrown borders x (record { rows = path; next = next }) rest 0) (sym t)
        (subst (λ x. IsGrown borders (nodes ++ node ∷ []) (record { rows = x; next = next }) rest 0) (sym p)
        (subst (λ x. IsGrown borders (nodes ++ node ∷ []) (record { rows = take o.shared cell.rows ++ o.row ∷ []; next = x }) rest 0) (sym n)
        (leaf_next borders nodes cell rest o held node own l)))

    pub last_at : (borders : List (List RowInt)) (nodes tree : List Node) (cell : Cell) (stack : List OpenSide) (held : ℕ) (node : Node) → IsGrown borders nodes cell stack held → IsLeafAt qp laws cell node → stack ≡ [] → tree ≡ nodes ++ node ∷ [] → IsBuilt qp laws root tree
    last_at borders nodes tree cell stack held node g l s t = leaf_last borders nodes tree cell held node (subst (λ x. IsGrown borders nodes cell x held) s g) l t

    -- the side on the top of the stack
    module _ (borders : List (List RowInt)) (nodes : List Node) (cell : Cell) (stack rest : List OpenSide) (o : OpenSide) (held : ℕ) (g : IsGrown borders nodes cell stack held) (top : stack ≡ rest ++ o ∷ []) where
      top_ready : AreReady cell.rows (o ∷ reverse rest)
      top_ready = subst (AreReady cell.rows) (reversed rest o) (subst (λ x. AreReady cell.rows (reverse x)) top g.sides)

      pub shared_within : o.shared ≤ length cell.rows
      shared_within = top_ready.0

      pub top_run : (path : List Row) (run : Option LinearSystem) → path ≡ take o.shared cell.rows ++ o.row ∷ [] → run ≡ o.run → IsRunOf qp path run
      top_run path run p r = subst₂ (IsRunOf qp) (sym p) (sym r) top_ready.2

    pub wide_at : (borders : List (List RowInt)) (nodes : List Node) (cell : Cell) (stack : List OpenSide) (held : ℕ) → IsGrown borders nodes cell stack held → (e : TreeError) → IfWide e (IsWideAt qp laws cell (length nodes + 1)) → IfWide e (IsFirstWide qp laws root 1)
    wide_at borders nodes cell stack held g (Wide place) h = g.wide_here place (here cell (length nodes + 1) place h)
    wide_at borders nodes cell stack held g NoMemory h = h
