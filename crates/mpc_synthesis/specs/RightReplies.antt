-- What the tree of a plant's table answers, and which shapes its parts have.
use Rattle.std.specs.Prelude.{◌≡◌, ℕ, ◌≤◌, List, length, None, Contains}
use Rattle.mpc_exact.specs.Rational.{ℚ}
use Rattle.mpc_space.specs.Definite.{IsDefinite}
use Rattle.mpc_space.specs.Matrix.{height}
use Rattle.mpc_plant.specs.declared.plants.Plant.{Plant}
use Rattle.mpc_plant.specs.Reply.{Reply, IsRight}
use Rattle.mpc_plant.specs.Trajectory.{point_of}
use Rattle.mpc_rows.specs.declared.programs.Qp.{Qp}
use Rattle.mpc_rows.specs.declared.laws.Law.{Law}
use Rattle.mpc_rows.specs.declared.trees.Node.{Node}
use Rattle.mpc_rows.specs.ActiveSets.{IsInBox}
use Rattle.mpc_rows.specs.Candidates.{IsTable}
use Rattle.mpc_rows.specs.SetRuns.{LawRowsFit}
use Rattle.mpc_condense.specs.Condensed.{IsCondensed}
use Rattle.mpc_tree.specs.Trees.{IsTreeOf, whole_box}
use Rattle.mpc_tree.specs.Certified.{IsCertified}
use Rattle.mpc_controller.specs.Parts.{Parts, HaveShapes, limits_of}
use Rattle.mpc_controller.specs.Replies.{RepliesAt, first_outside}

-- at each point of the box, the tree's reply is right
abbrev pub RightReplies : Type 0
RightReplies =
    (qp : Qp) (parts : Parts) (t : List ℚ) (reply : Reply) → IsCondensed qp parts.plant → IsDefinite qp.h.rows → IsTable qp parts.laws → IsTreeOf qp parts.laws whole_box parts.tree
    → IsInBox qp.counts t → RepliesAt parts t reply → IsRight parts.plant t reply

-- the plant, the table and its tree with the certificates have the shapes of a controller's parts
abbrev pub PartsHaveShapes : Type 0
PartsHaveShapes =
    (qp : Qp) (plant : Plant) (laws : List Law) (nodes : List Node) → IsCondensed qp plant → IsTable qp laws → ((law : Law) → Contains laws law → LawRowsFit qp law (height qp.g)) → IsCertified qp laws whole_box nodes
    → HaveShapes plant laws nodes

-- no more laws than there are sets of at most six of forty rows
abbrev pub TableIsSmall : Type 0
TableIsSmall = (qp : Qp) (laws : List Law) → IsTable qp laws → height qp.g ≤ 40 → length laws ≤ 4598479

-- in four unknowns no more laws than there are sets of at most four of sixty rows
abbrev pub TableOfFourIsSmall : Type 0
TableOfFourIsSmall = (qp : Qp) (laws : List Law) → IsTable qp laws → height qp.h ≤ 4 → length laws ≤ 523686

-- and so of a plant's program
abbrev pub PlantTableIsSmall : Type 0
PlantTableIsSmall = (plant : Plant) (qp : Qp) (laws : List Law) → IsCondensed qp plant → IsTable qp laws → length laws ≤ 4598479

-- a program has one table
abbrev pub OneTable : Type 0
OneTable = (qp : Qp) (one two : List Law) → IsTable qp one → IsTable qp two → one ≡ two

-- counts of which none is above its limit are a point of the box
abbrev pub GridIsInBox : Type 0
GridIsInBox = (plant : Plant) (qp : Qp) (counts : List ℕ) → IsCondensed qp plant → length counts ≡ plant.n → first_outside (limits_of plant) counts ≡ None → IsInBox qp.counts (point_of counts)
