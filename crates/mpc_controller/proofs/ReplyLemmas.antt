-- A controller replies at each point: the walk ends at a leaf, and a leaf with a law names one of the controller's laws.
use Rattle.std.proofs.Common.{◌≡◌, ℕ, ◌-◌, ◌≤◌, inl, inr, List, length, subst, arith, Some, slice_get}
use Rattle.std.proofs.lemmas.Option.{slice_get_within, slice_get_cases, get_or_from_slice_get}
use Rattle.mpc_exact.specs.Rational.{ℚ}
use Rattle.mpc_plant.specs.Reply.{Reply, move, infeasible}
use Rattle.mpc_rows.specs.declared.laws.Law.{Law as LawOfSet}
use Rattle.mpc_rows.specs.declared.trees.Node.{Node}
use Rattle.mpc_rows.specs.declared.trees.Node.TheVariants.{Split, Law, NoMove}
use Rattle.mpc_controller.specs.Parts.{Parts, IsNodeFor}
use Rattle.mpc_controller.specs.Walk.{EndsAt}
use Rattle.mpc_controller.specs.OneLeaf.{EndsOnce}
use Rattle.mpc_controller.specs.Replies.{RepliesAt, by_law, by_no_law, first_move}
use Rattle.mpc_controller.specs.ReplyTheorems.{RepliesEverywhere}
use Rattle.mpc_controller.proofs.OneLeafLemmas.{ends_at_one_leaf}

module _ (parts : Parts) (t : List ℚ) (place : ℕ) where
  at_leaf : (leaf : Node) → IsNodeFor parts.plant.n (length parts.laws) leaf → EndsAt parts.tree t place leaf → (reply : Reply) × RepliesAt parts t reply
  at_leaf (Split row) fit ends = absurd ends.is_leaf
  at_leaf (NoMove cert) fit ends = (infeasible, by_no_law place cert ends)
  at_leaf (Law number certs) fit ends = (let found = at_number number fit.from_low fit.to_high in (move (first_move parts.plant.p found.0 t), by_law place number certs found.0 ends found.1))
    where
      at_number : (number : ℕ) → 1 ≤ number → number ≤ length parts.laws → (law : LawOfSet) × (slice_get parts.laws (number - 1) ≡ Some law)
      at_number number low high = elim (slice_get_cases parts.laws (number - 1)).1 [ inl inside ↦ (inside.0, inside.2) | inr past ↦ absurd (omega (arith, past.0, low, high)) ]

pub replies_everywhere : RepliesEverywhere
replies_everywhere parts is t =
    let ends : EndsOnce parts.tree t = ends_at_one_leaf parts.tree t is.shapes.complete in
    at_leaf parts t ends.place ends.leaf
    (subst (IsNodeFor parts.plant.n (length parts.laws)) (get_or_from_slice_get parts.tree ends.place ends.leaf ends.leaf ends.ends.node_at) (is.shapes.nodes_fit ends.place ends.leaf (slice_get_within parts.tree ends.place ends.leaf ends.ends.node_at)))
    ends.ends
