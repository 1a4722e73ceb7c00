-- What a check answers, from what its parts find.
use Rattle.std.proofs.Common.{◌≡◌, ℕ, List, [], ◌∷◌, length, Option, Some, None, Result, Ok, Err, inl, inr, sym, ◌∙◌, ap, subst, All}
use Rattle.std.specs.List.{AllByRecursion}
use Rattle.std.proofs.lemmas.List.{length-map}
use Rattle.std.proofs.lemmas.List.Elements.{All-from_recursion, recursion_from_All}
use Rattle.mpc_plant.specs.declared.lists.Coordinate.{Coordinate}
use Rattle.mpc_plant.specs.declared.plants.Plant.{Plant}
use Rattle.mpc_rows.specs.declared.programs.Qp.{Qp}
use Rattle.mpc_rows.specs.declared.laws.Law.{Law as LawOfSet}
use Rattle.mpc_rows.specs.declared.trees.Node.{Node}
use Rattle.mpc_rows.specs.declared.trees.Node.TheVariants.{Split, Law, NoMove}
use Rattle.mpc_rows.specs.Laws.{HasLawShape}
use Rattle.mpc_condense.specs.Condensed.{IsCondensed}
use Rattle.mpc_condense.specs.Convex.{HasProgram, IsConvexProgram}
use Rattle.mpc_condense.specs.Refusals.{IsProgramCause}
use Rattle.mpc_controller.specs.Parts.{Parts, IsLawFor, IsNodeFor, HaveShapes}
use Rattle.mpc_check.specs.declared.answers.Spot.{Spot}
use Rattle.mpc_condense.specs.declared.convex.ProgramError.{ProgramError}
use Rattle.mpc_condense.specs.declared.convex.ProgramError.TheVariants.{TooWide, NotDefinite, NoMemory}
use Rattle.mpc_check.specs.Findings.{refused, IsSearched}
use Rattle.mpc_check.specs.LawConditions.{LawsMet}
use Rattle.mpc_check.specs.LeafConditions.{TreeMet, TreeFinds}
use Rattle.mpc_check.specs.Acceptance.{BehindMet, BehindFinds, Accepts, IsFound, IsCause}
use Rattle.mpc_check.specs.Stretches.{HaveProgramShapes}
use Rattle.mpc_controller.specs.Ways.{HasSplitRow}
use Rattle.mpc_check.specs.LeafSystems.{NamesLaw}
use Rattle.mpc_check.proofs.Accepted.{law_shape}

-- ---- the shapes of a controller's parts, for the program of its plant
counts_size : (plant : Plant) (qp : Qp) → IsCondensed qp plant → length qp.counts ≡ plant.n
counts_size plant qp c = ap length c.counts_are ∙ length-map plant.grid (λ (axis : Coordinate). axis.count) ∙ plant.is_plant.grid_size

shaped : (plant : Plant) (qp : Qp) → IsCondensed qp plant → (laws : List LawOfSet) → AllByRecursion (IsLawFor plant) laws → AllByRecursion (HasLawShape qp) laws
shaped plant qp c [] h = tt
shaped plant qp c (law ∷ laws) h = (law_shape plant qp c law h.0, shaped plant qp c laws h.1)

pub laws_shaped : (plant : Plant) (qp : Qp) → IsCondensed qp plant → (laws : List LawOfSet) → All (IsLawFor plant) laws → All (HasLawShape qp) laws
laws_shaped plant qp c laws h = All-from_recursion (HasLawShape qp) laws (shaped plant qp c laws (recursion_from_All (IsLawFor plant) laws h))

named : (n laws : ℕ) (node : Node) → IsNodeFor n laws node → NamesLaw laws node
named n laws (Split row) h = tt
named n laws (Law law certs) h = h
named n laws (NoMove cert) h = tt

all_named : (n laws : ℕ) (nodes : List Node) → AllByRecursion (IsNodeFor n laws) nodes → AllByRecursion (NamesLaw laws) nodes
all_named n laws [] h = tt
all_named n laws (node ∷ nodes) h = (named n laws node h.0, all_named n laws nodes h.1)

pub laws_named : (n laws : ℕ) (nodes : List Node) → All (IsNodeFor n laws) nodes → All (NamesLaw laws) nodes
laws_named n laws nodes h = All-from_recursion (NamesLaw laws) nodes (all_named n laws nodes (recursion_from_All (IsNodeFor n laws) nodes h))

split : (n laws : ℕ) (node : Node) → IsNodeFor n laws node → HasSplitRow n node
split n laws (Split row) h = h
split n laws (Law law certs) h = tt
split n laws (NoMove cert) h = tt

all_split : (n laws : ℕ) (nodes : List Node) → AllByRecursion (IsNodeFor n laws) nodes → AllByRecursion (HasSplitRow n) nodes
all_split n laws [] h = tt
all_split n laws (node ∷ nodes) h = (split n laws node h.0, all_split n laws nodes h.1)

pub splits_shaped : (plant : Plant) (qp : Qp) → IsCondensed qp plant → (laws : ℕ) (nodes : List Node) → All (IsNodeFor plant.n laws) nodes → All (HasSplitRow (length qp.counts)) nodes
splits_shaped plant qp c laws nodes h =
    subst (λ n. All (HasSplitRow n) nodes) (sym (counts_size plant qp c)) (All-from_recursion (HasSplitRow plant.n) nodes (all_split plant.n laws nodes (recursion_from_All (IsNodeFor plant.n laws) nodes h)))

pub program_shapes : (parts : Parts) (qp : Qp) → HasProgram parts.plant qp → HaveShapes parts.plant parts.laws parts.tree → HaveProgramShapes qp parts.laws parts.tree
program_shapes parts qp program shapes = record {
  laws_fit = laws_shaped parts.plant qp program.condensed parts.laws shapes.laws_fit;
  complete = shapes.complete;
  named = laws_named parts.plant.n (length parts.laws) parts.tree shapes.nodes_fit;
  splits = splits_shaped parts.plant qp program.condensed (length parts.laws) parts.tree shapes.nodes_fit;
}

-- ---- answers
module _ (qp : Qp) (parts : Parts) where
  pub behind_tree : (r : Result (Option Spot) ProgramError) → LawsMet qp parts.laws → IsSearched (TreeMet qp parts.laws parts.tree) (TreeFinds qp parts.laws parts.tree) r → IsSearched (BehindMet qp parts) (BehindFinds qp parts) r
  behind_tree (Ok None) m s = record { laws = m; leaves = s }
  behind_tree (Ok (Some spot)) m s = inr (m, s)
  behind_tree (Err (TooWide place)) m s = inr (m, s)
  behind_tree (Err (NotDefinite j)) m s = inr (m, s)
  behind_tree (Err NoMemory) m s = tt

  module _ (program : IsConvexProgram parts.plant qp) where
    pub accepts_all : IsSearched (BehindMet qp parts) (BehindFinds qp parts) (Ok None) → Accepts parts
    accepts_all s = record { qp = qp; program = program; behind = s }

    pub refused_behind : (spot : Spot) → IsSearched (BehindMet qp parts) (BehindFinds qp parts) (Ok (Some spot)) → IsFound parts (refused spot)
    refused_behind spot s = inr (record { qp = qp; program = program; first = s })

    pub behind_cause : (e : ProgramError) → IsSearched (BehindMet qp parts) (BehindFinds qp parts) (Err e) → IsCause parts e
    behind_cause (TooWide place) s = inr (record { qp = qp; program = program; first = s })
    behind_cause (NotDefinite step) s = inr (record { qp = qp; program = program; first = s })
    behind_cause NoMemory s = tt

pub refused_cause : (parts : Parts) (e : ProgramError) → IsProgramCause parts.plant e → IsCause parts e
refused_cause parts (TooWide place) h = inl h
refused_cause parts (NotDefinite step) h = inl h
refused_cause parts NoMemory h = tt
