-- The replies of a block.
use Rattle.std.proofs.Common.{◌≡◌, ℕ, zero, suc, ◌+◌, ◌-◌, ◌<◌, ◌≤◌, List, [], ◌∷◌, length, get_or, map, take, Some, None, refl, sym, ◌∙◌, ap, subst, arith}
use Rattle.std.specs.Prelude.{slice_get, slice_index, slice_range}
use Rattle.mpc_linear.specs.declared.integers.RowInt.{RowInt}
use Rattle.std.proofs.lemmas.List.{length-map, take_all}
use Rattle.mpc_exact.specs.Rational.{ℚ}
use Rattle.mpc_space.specs.Vector.{dot, mat_vec}
use Rattle.mpc_plant.specs.Reply.{move}
use Rattle.mpc_plant.specs.Trajectory.{point_of}
use Rattle.mpc_plant.specs.Limits.{IsFromTo}
use Rattle.mpc_plant.specs.declared.lists.Coordinate.{Coordinate}
use Rattle.mpc_rows.specs.ActiveSets.{extended}
use Rattle.mpc_rows.specs.declared.laws.Law.{Law as LawOfSet}
use Rattle.mpc_rows.specs.declared.trees.Node.{Node}
use Rattle.mpc_rows.specs.declared.trees.Node.TheVariants.{Split, Law, NoMove}
use Rattle.mpc_controller.specs.Parts.{Parts, limits_of, IsNodeFor, IsLawFor}
use Rattle.mpc_controller.specs.Replies.{first_outside, first_move, IsLawNumbered, RepliesAt, by_law, by_no_law}
use Rattle.mpc_table.specs.TableTheorems.{MovesEachInput}
use Rattle.mpc_table.specs.TableReplies.{IsMoveReply, IsInfeasibleReply}
use Rattle.mpc_block.specs.declared.replies.Move.{Move}
use Rattle.mpc_block.specs.declared.lines.Width.TheVariants.{Short}
use Rattle.mpc_block.specs.Walks.{Serves, FindsLeaf}
use Rattle.mpc_block.specs.BlockReplies.{value_of, BeginWith, IsMovesReply, IsNoMoveReply, IsBlockReply, Suits}
use Rattle.mpc_block.specs.declared.replies.BlockReply.{BlockReply}
use Rattle.mpc_block.specs.Block.{width_of, line_start, law_start, line_at}
use Rattle.mpc_block.proofs.SumLemmas.{none_outside}
use Rattle.mpc_block.proofs.LeafLemmas.{short_by_word}
use Rattle.mpc_block.proofs.BlockLemmas.{node_at, all_at}

law_at : (laws : List LawOfSet) (j : ℕ) → j < length laws → (law : LawOfSet) × (slice_get laws j ≡ Some law)
law_at [] j h = absurd (omega arith)
law_at (l ∷ ls) zero h = (l, refl)
law_at (l ∷ ls) (suc j) h = law_at ls j (omega arith)

values_from : (rows : List (List ℚ)) (moves : List Move) (x : List ℚ) → length moves ≤ length rows → ((i : ℕ) (d : Move) → i < length moves → value_of (get_or moves i d) ≡ dot (get_or rows i []) x) → map value_of moves ≡ take (length moves) (mat_vec rows x)
values_from rows [] x few h = refl
values_from [] (step ∷ moves) x few h = absurd (omega arith)
values_from (row ∷ rows) (step ∷ moves) x few h = λ i. h 0 step (omega arith) i ∷ values_from rows moves x (omega arith) (λ k d lt. h (suc k) d (omega arith)) i

module _ (words counts : List ℕ) (room : ℕ) (parts : Parts) (suits : Suits words counts room parts) (none : None ≡ first_outside (slice_range words 4 (4 + length counts)) counts) where
  limits_are : slice_range words 4 (4 + length counts) ≡ limits_of parts.plant
  limits_are = ap (λ n. slice_range words 4 (4 + n)) suits.one_each ∙ suits.block.limits

  pub inside_limits : first_outside (limits_of parts.plant) counts ≡ None
  inside_limits = ap (λ limits. first_outside limits counts) (sym limits_are) ∙ sym none

  pub serves : Serves words counts parts
  serves = record {
    block = suits.block;
    up_to = none_outside 1 (limits_of parts.plant) counts (suits.one_each ∙ sym (length-map parts.plant.grid (λ (axis : Coordinate). axis.count) ∙ parts.plant.is_plant.grid_size)) inside_limits;
  }

  module _ (node law start : ℕ) (finds : FindsLeaf words counts parts node law start) where
    there : (leaf : Node) × (slice_get parts.tree finds.place ≡ Some leaf)
    there = node_at parts.tree finds.place finds.inside

    fits : (leaf : Node) → slice_get parts.tree finds.place ≡ Some leaf → IsNodeFor parts.plant.n (length parts.laws) leaf
    fits leaf at = all_at (IsNodeFor parts.plant.n (length parts.laws)) parts.tree finds.place leaf at suits.block.controller.shapes.nodes_fit

    no_split : (row : RowInt) → slice_get parts.tree finds.place ≡ Some (Split row) → ⊥
    no_split row at =
        let line = suits.block.tree finds.place (Split row) at in
        let zero : slice_index (line_at words (width_of parts) finds.place) 0 ≡ 0 = finds.zero_is in
        let leads : slice_index (line_at words (width_of parts) finds.place) 0 ≡ line_start (width_of parts) (slice_index suits.block.sides finds.place) = line.side_is in
        omega arith

    infeasible_reply : law ≡ 0 → IsInfeasibleReply parts counts node
    infeasible_reply is_zero = by there.0 there.1
      where
        by : (leaf : Node) → slice_get parts.tree finds.place ≡ Some leaf → IsInfeasibleReply parts counts node
        by (Split row) at = absurd (no_split row at)
        by (Law number certs) at =
            let from : 1 ≤ number = (fits (Law number certs) at).from_low in
            let is : law ≡ number = finds.law_is ∙ (suits.block.tree finds.place (Law number certs) at).law_is in
            absurd (omega arith)
        by (NoMove cert) at = record {
          inside = inside_limits;
          place = finds.place;
          node_is = finds.node_is;
          cert = cert;
          ends = record { reached = finds.reached; node_at = at; is_leaf = tt };
        }

    move_reply : ¬ law ≡ 0 → IsMoveReply parts counts node law
    move_reply not_zero = by there.0 there.1
      where
        by : (leaf : Node) → slice_get parts.tree finds.place ≡ Some leaf → IsMoveReply parts counts node law
        by (Split row) at = absurd (no_split row at)
        by (NoMove cert) at = absurd (not_zero (finds.law_is ∙ (suits.block.tree finds.place (NoMove cert) at).law_is))
        by (Law number certs) at =
            let is : number ≡ law = sym (finds.law_is ∙ (suits.block.tree finds.place (Law number certs) at).law_is) in
            record {
              inside = inside_limits;
              place = finds.place;
              node_is = finds.node_is;
              certs = certs;
              ends = record { reached = finds.reached; node_at = at ∙ ap (λ k. Some (Law k certs)) is; is_leaf = tt };
            }

    pub named_law : ¬ law ≡ 0 → (of_set : LawOfSet) × IsLawNumbered parts.laws law of_set
    named_law not_zero = by there.0 there.1
      where
        by : (leaf : Node) → slice_get parts.tree finds.place ≡ Some leaf → (of_set : LawOfSet) × IsLawNumbered parts.laws law of_set
        by (Split row) at = absurd (no_split row at)
        by (NoMove cert) at = absurd (not_zero (finds.law_is ∙ (suits.block.tree finds.place (NoMove cert) at).law_is))
        by (Law number certs) at =
            let is : law ≡ number = finds.law_is ∙ (suits.block.tree finds.place (Law number certs) at).law_is in
            let range : IsFromTo 1 (length parts.laws) number = fits (Law number certs) at in
            let from : 1 ≤ number = range.from_low in
            let to : number ≤ length parts.laws = range.to_high in
            law_at parts.laws (law - 1) (omega arith)

    -- where the lines of the leaf's law begin
    pub law_begins : ¬ law ≡ 0 → (1 ≤ law) × (start ≡ law_start parts law)
    law_begins not_zero = by there.0 there.1
      where
        by : (leaf : Node) → slice_get parts.tree finds.place ≡ Some leaf → (1 ≤ law) × (start ≡ law_start parts law)
        by (Split row) at = absurd (no_split row at)
        by (NoMove cert) at = absurd (not_zero (finds.law_is ∙ (suits.block.tree finds.place (NoMove cert) at).law_is))
        by (Law number certs) at =
            let line = suits.block.tree finds.place (Law number certs) at in
            (omega arith, finds.start_is ∙ line.start_is ∙ ap (law_start parts) (sym (finds.law_is ∙ line.law_is)))

    pub no_move_reply : law ≡ 0 → IsNoMoveReply parts counts node
    no_move_reply is_zero = let leaf = infeasible_reply is_zero in record { leaf = leaf; answer = (inside_limits, by_no_law leaf.place leaf.cert leaf.ends) }

    pub moves_reply : ¬ law ≡ 0 → (moves : List Move) → length moves ≡ parts.plant.p → MovesEachInput → ((of_set : LawOfSet) → IsLawNumbered parts.laws law of_set → BeginWith of_set counts parts.plant.p moves) → IsMovesReply parts counts moves node law
    moves_reply not_zero moves size each_input are =
        let leaf = move_reply not_zero in
        let named = named_law not_zero in
        let begin : BeginWith named.0 counts parts.plant.p moves = are named.0 named.1 in
        let few : parts.plant.p ≤ length named.0.moves.rows = each_input parts.plant named.0 (all_at (IsLawFor parts.plant) parts.laws (law - 1) named.0 named.1 suits.block.controller.shapes.laws_fit) in
        let values : map value_of moves ≡ first_move parts.plant.p named.0 (point_of counts) =
        values_from named.0.moves.rows moves (extended (point_of counts)) (omega (arith, few, size)) (λ i d lt. (begin i d (omega (arith, lt, size))).value)
        ∙ ap (λ p. take p (mat_vec named.0.moves.rows (extended (point_of counts)))) size in
        record {
          leaf = leaf;
          positive = λ i d lt. (begin i d (omega (arith, lt, size))).positive;
          answer = (inside_limits, subst (λ u. RepliesAt parts (point_of counts) (move u)) (sym values) (by_law leaf.place law leaf.certs named.0 leaf.ends named.1));
        }

-- all counts, as many as they are
pub by_all : (words counts : List ℕ) (room k : ℕ) (moves : List Move) (reply : BlockReply) → length counts ≡ k → slice_index words 11 ≡ 1 → ((parts : Parts) → Suits words (take k counts) room parts → Short ≡ width_of parts → IsBlockReply parts (take k counts) moves reply)
    → (parts : Parts) → Suits words counts room parts → IsBlockReply parts counts moves reply
by_all words counts room k moves reply size one replies parts suits =
    let all : take k counts ≡ counts = take_all k counts (omega arith) in
    subst (λ t. IsBlockReply parts t moves reply) all (replies parts (subst (λ t. Suits words t room parts) (sym all) suits) (short_by_word (width_of parts) (sym suits.block.width ∙ one)))
