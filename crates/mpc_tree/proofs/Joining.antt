-- The trees of pieces, one behind the other, and the place of a wide run in one of them among all nodes.
use Rattle.std.proofs.Common.{◌≡◌, ℕ, ◌+◌, List, [], ◌∷◌, ◌++◌, length, refl, sym, ◌∙◌, ap, subst, arith, inl, inr}
use Rattle.std.specs.Prelude.{All}
use Rattle.std.proofs.lemmas.List.{append-nil, append_assoc, length-append}
use Rattle.std.proofs.lemmas.List.Elements.{All-head, All-tail}
use Rattle.mpc_rows.specs.declared.programs.Qp.{Qp}
use Rattle.mpc_rows.specs.declared.laws.Law.{Law}
use Rattle.mpc_rows.specs.declared.places.Place.{Place}
use Rattle.mpc_rows.specs.declared.trees.Node.{Node}
use Rattle.mpc_tree.specs.declared.errors.TreeError.{TreeError}
use Rattle.mpc_tree.specs.declared.errors.TreeError.TheVariants.{Wide, NoMemory}
use Rattle.mpc_tree.specs.declared.frontier.Piece.{Piece}
use Rattle.mpc_tree.specs.declared.frontier.Piece.TheVariants.{Closed, Open, Refused}
use Rattle.mpc_rows.specs.declared.places.Place.TheVariants.{State, Cost, Row, Pivot, Law as OfLaw, Reach, Border, Region, Meet, Holds, Joint, LawBound, NodeBound, CheckLaw, CheckLeaf}
use Rattle.mpc_tree.specs.Causes.{IfWide}
use Rattle.mpc_tree.specs.Joins.{place_behind, IsWideBehind}
use Rattle.mpc_tree.specs.Growth.{cell_of}
use Rattle.mpc_tree.specs.Pieces.{IsOpen, IsOfPiece, IsWideIn, AreFilled, IsWideAmong}
use Rattle.mpc_tree.specs.Trees.{Cell, yes_side, no_side}
use Rattle.mpc_tree.specs.WideRuns.{IsWideAt, IsFirstWide, here, in_yes, in_no}

-- no nodes before
pub behind_none : (place : Place) → place_behind 0 place ≡ place
behind_none (Meet node law) = ap (λ n. Meet n law) (omega arith)
behind_none (Holds node law row) = ap (λ n. Holds n law row) (omega arith)
behind_none (Joint node) = ap (λ n. Joint n) (omega arith)
behind_none (State n) = refl
behind_none (Cost n) = refl
behind_none (Row n) = refl
behind_none (Pivot n) = refl
behind_none (OfLaw set) = refl
behind_none (Reach set) = refl
behind_none (Border set n) = refl
behind_none (Region set) = refl
behind_none (LawBound law n) = refl
behind_none (NodeBound n) = refl
behind_none (CheckLaw n) = refl
behind_none (CheckLeaf node n) = refl

-- ---- more nodes before a cell's
module _ (qp : Qp) (laws : List Law) where
  wide_behind : (before : ℕ) (cell : Cell) (number : ℕ) (place : Place) → IsWideAt qp laws cell number place → IsWideAt qp laws cell (number + before) (place_behind before place)
  wide_behind before cell number place (inl w) = inl (w.0, ap (place_behind before) w.1, w.2)
  wide_behind before cell number place (inr (inl w)) = inr (inl (w.0, w.1, ap (place_behind before) w.2, w.3))
  wide_behind before cell number place (inr (inr w)) = inr (inr (ap (place_behind before) w.0, w.1))

  pub first_behind : (before : ℕ) (cell : Cell) (number : ℕ) (place : Place) → IsFirstWide qp laws cell number place → IsFirstWide qp laws cell (number + before) (place_behind before place)
  first_behind before cell number place (here c n p w) = here c (n + before) (place_behind before p) (wide_behind before c n p w)
  first_behind before cell number place (in_yes c n at row p d w) = in_yes c (n + before) at row (place_behind before p) d
      (subst (λ k. IsFirstWide qp laws (yes_side c at row) k (place_behind before p)) (omega arith) (first_behind before (yes_side c at row) (n + 1) p w))
  first_behind before cell number place (in_no c n at row left p d t w) = in_no c (n + before) at row left (place_behind before p) d t
      (subst (λ k. IsFirstWide qp laws (no_side c at row) k (place_behind before p)) (omega arith) (first_behind before (no_side c at row) (n + 1 + length left) p w))

  -- what the place of a refusal says of the numbers of a whole tree
  wide_in_behind : (before : ℕ) (piece : Piece) (place : Place) → IsWideIn qp laws piece 1 place → IsWideIn qp laws piece (before + 1) (place_behind before place)
  wide_in_behind before (Closed own) place w = w
  wide_in_behind before (Open o) place w = subst (λ k. IsFirstWide qp laws (cell_of o) k (place_behind before place)) (omega arith) (first_behind before (cell_of o) 1 place w)
  wide_in_behind before (Refused own) place w =
      let none : w.0 ≡ 0 = omega (arith, w.1) in
      (before, refl, ap (place_behind before) (w.2 ∙ ap (λ k. place_behind k own) none ∙ behind_none own))

-- ---- the tree so far, before the pieces that are left
module _ (qp : Qp) (laws : List Law) where
  pub record IsJoined (pieces : List Piece) (tree : List Node) (rest : List Piece) : Type 0 where
    pub filled : (later : List Node) → AreFilled qp laws rest later → AreFilled qp laws pieces (tree ++ later)
    pub wide : (place : Place) → IsWideAmong qp laws rest (length tree + 1) place → IsWideAmong qp laws pieces 1 place
    pub ready : All (IsOpen qp laws) rest

  pub joined_none : (pieces : List Piece) (tree : List Node) (all : List Piece) → tree ≡ [] → all ≡ pieces → All (IsOpen qp laws) pieces → IsJoined pieces tree all
  joined_none pieces tree all t e o = subst (λ x. IsJoined pieces x all) (sym t) (subst (IsJoined pieces []) (sym e) (record { filled = λ later f. f; wide = λ place w. w; ready = o }))

  module _ (pieces : List Piece) (tree : List Node) (rest : List Piece) (piece : Piece) (left : List Piece) (j : IsJoined pieces tree rest) (e : rest ≡ piece ∷ left) where
    own : IsJoined pieces tree (piece ∷ left)
    own = subst (IsJoined pieces tree) e j

    pub piece_open : IsOpen qp laws piece
    piece_open = All-head (IsOpen qp laws) piece left own.ready

    pub joined_more : (nodes new : List Node) → IsOfPiece qp laws piece nodes → new ≡ tree ++ nodes → IsJoined pieces new left
    joined_more nodes new o n = subst (λ x. IsJoined pieces x left) (sym n) (record {
      filled = λ later f. subst (AreFilled qp laws pieces) (sym (append_assoc tree nodes later)) (own.filled (nodes ++ later) (nodes, later, refl, o, f));
      wide = λ place w. own.wide place (inr (nodes, o, subst (λ k. IsWideAmong qp laws left k place) (omega (arith, length-append tree nodes)) w));
      ready = All-tail (IsOpen qp laws) piece left own.ready;
    })

    pub refused_at : (error moved : TreeError) → IfWide error (IsWideIn qp laws piece 1) → IfWide moved (IsWideBehind (length tree) error) → IfWide moved (IsWideAmong qp laws pieces 1)
    refused_at error (Wide place) w b =
        let in_piece : IsWideIn qp laws piece 1 b.0 = subst (λ x. IfWide x (IsWideIn qp laws piece 1)) b.1 w in
        own.wide place (inl (subst (IsWideIn qp laws piece (length tree + 1)) (sym b.2) (wide_in_behind qp laws (length tree) piece b.0 in_piece)))
    refused_at error NoMemory w b = tt

  pub joined_all : (pieces : List Piece) (tree new : List Node) (rest : List Piece) → IsJoined pieces tree rest → rest ≡ [] → new ≡ tree → AreFilled qp laws pieces new
  joined_all pieces tree new rest j e n =
      let own : IsJoined pieces tree [] = subst (IsJoined pieces tree) e j in
      subst (AreFilled qp laws pieces) (append-nil tree ∙ sym n) (own.filled [] refl)

-- what an iterator over a list has left at its end
pub none_left : {A : Type 0} (xs : List A) → length xs ≡ 0 → xs ≡ []
none_left [] e = refl
none_left (x ∷ xs) e = absurd (omega (arith, e))
