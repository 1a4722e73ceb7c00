-- Of what is compiled, nothing is found but numbers that are too wide.
use Rattle.std.proofs.Common.{◌≡◌, ℕ, ◌+◌, ◌<◌, ◌≤◌, inl, inr, List, length, Some, refl, sym, subst, arith}
use Rattle.std.specs.Prelude.{Contains, slice_get, slice_index}
use Rattle.std.proofs.lemmas.Option.{slice_get_within, get_or_from_slice_get}
use Rattle.mpc_space.specs.Matrix.{height}
use Rattle.mpc_rows.specs.declared.programs.Qp.{Qp}
use Rattle.mpc_rows.specs.declared.laws.Law.{Law as LawOfSet}
use Rattle.mpc_rows.specs.declared.systems.Row.{Row}
use Rattle.mpc_rows.specs.declared.trees.Node.{Node}
use Rattle.mpc_rows.specs.declared.trees.Node.TheVariants.{Split, Law, NoMove}
use Rattle.mpc_rows.specs.declared.places.Place.{Place}
use Rattle.mpc_rows.specs.declared.places.Place.TheVariants.{CheckLaw, CheckLeaf}
use Rattle.mpc_rows.specs.Laws.{IsLaw}
use Rattle.mpc_definite.specs.PivotTheorems.{DefiniteByPivots}
use Rattle.mpc_condense.specs.BestReplies.{OneProgram}
use Rattle.mpc_controller.specs.Parts.{Parts, row_count}
use Rattle.mpc_controller.specs.Walk.{IsLeaf}
use Rattle.mpc_controller.specs.PreorderTheorems.{JoinedSpell}
use Rattle.mpc_check.specs.declared.answers.Answer.TheVariants.{Accepted, Refused}
use Rattle.mpc_condense.specs.declared.convex.ProgramError.TheVariants.{TooWide, NotDefinite, NoMemory}
use Rattle.mpc_condense.specs.Convex.{IsConvexProgram}
use Rattle.mpc_check.specs.declared.answers.Spot.{Spot}
use Rattle.mpc_check.specs.declared.answers.Spot.TheVariants.{Stationary, Active, LeafRow, Leaf}
use Rattle.mpc_systems.specs.Systems.{joint_system}
use Rattle.mpc_check.specs.Certs.{CertFits, CertRefutes}
use Rattle.mpc_check.specs.Findings.{Finding, refused, too_wide, not_definite, IsUnmet}
use Rattle.mpc_check.specs.LawConditions.{GradientFits, IsStationaryAt, ActiveFits, IsActiveAt, LawMet, LawFinds, LawsFind, LawsMet, LawIsStationary, LawIsActive}
use Rattle.mpc_check.specs.LeafConditions.{RowFits, RowHolds, NodeMet, NodeFinds, TreeMet, TreeFinds}
use Rattle.mpc_controller.specs.Paths.{OnePath}
use Rattle.mpc_check.specs.Acceptance.{BehindFinds, NoProgramFinding}
use Rattle.mpc_synthesis.specs.Compiled.{IsCompiled, IsOfLawOrLeaf, IsOfWidth, LawFits, LawsFit, LeafFits, LeavesFit, OnlyWidthFound, NoRefusal, OnlyWidthErrs, FittingIsAccepted}
use Rattle.mpc_synthesis.proofs.LeavesHold.{NodeHolds, nodes_hold}

-- of a condition that holds
holding : (parts : Parts) (fits holds : Type 0) (spot : Spot) (place : Place) → IsOfLawOrLeaf parts place → holds → (f : Finding) → IsUnmet fits holds spot place f → IsOfWidth parts f
holding parts fits holds spot place p h (refused s) u = u.2 h
holding parts fits holds spot place p h (too_wide q) u = subst (IsOfLawOrLeaf parts) (sym u.0) p
holding parts fits holds spot place p h (not_definite j) u = u

contains_at : (laws : List LawOfSet) (place : ℕ) (law : LawOfSet) → slice_get laws place ≡ Some law → Contains laws law
contains_at laws place law at = (place, slice_get_within laws place law at, get_or_from_slice_get laws place law law at)

-- what is known of pivots, programs, laws, paths and trees
pub record Laws : Type 0 where
  definite : DefiniteByPivots
  one_program : OneProgram
  no_program_finding : NoProgramFinding
  stationary_at : LawIsStationary
  active_at : LawIsActive
  one_path : OnePath
  join : JoinedSpell

module _ (laws : Laws) (qp : Qp) (parts : Parts) (is : IsCompiled qp parts) where
  convex : IsConvexProgram parts.plant qp
  convex = record { has_program = is.program; pivots = is.pivots; definite = laws.definite qp.h.rows is.program.condensed.h_symmetric (λ m l. is.pivots.positive m l) }

  rows_are : height qp.g ≡ row_count parts.plant
  rows_are = is.program.condensed.rows_are

  of_law : (index : ℕ) → index < length parts.laws → IsOfLawOrLeaf parts (CheckLaw (index + 1))
  of_law index h = inl (record { index = index; within = h; is = refl })

  of_leaf : (index : ℕ) (node : Node) → slice_get parts.tree index ≡ Some node → IsLeaf node → (row : ℕ) → row ≤ row_count parts.plant → IsOfLawOrLeaf parts (CheckLeaf (index + 1) row)
  of_leaf index node at leaf row h = inr (record { index = index; node = node; at = at; is_leaf = leaf; row = row; within = h; is = refl })

  -- ---- laws
  law_at : (place : ℕ) (law : LawOfSet) → slice_get parts.laws place ≡ Some law → IsLaw qp law
  law_at place law at = (is.table.are_laws law (contains_at parts.laws place law at)).verdict.2

  law_found : (number : ℕ) (law : LawOfSet) → IsLaw qp law → IsOfLawOrLeaf parts (CheckLaw number) → (f : Finding) → LawFinds qp number law f → IsOfWidth parts f
  law_found number law l p f (inl a) =
      let r = a.place in
      let c = a.here.place in
      holding parts (GradientFits qp law r c) (IsStationaryAt qp law r c) (Stationary number (r + 1)) (CheckLaw number) p (laws.stationary_at qp law l r c a.here.within) f a.here.here
  law_found number law l p f (inr a) =
      let k = a.1.place in
      let i = slice_index law.set k in
      let c = a.1.here.place in
      holding parts (ActiveFits qp law i c) (IsActiveAt qp law i c) (Active number i) (CheckLaw number) p (laws.active_at qp law l k c a.1.within a.1.here.within) f a.1.here.here

  laws_found : (f : Finding) → LawsFind qp parts.laws f → IsOfWidth parts f
  laws_found f a = law_found (a.place + 1) a.here.law (law_at a.place a.here.law a.here.is) (of_law a.place a.within) f a.here.finds

  -- ---- leaves
  node_found : (path : List Row) (index : ℕ) (node : Node) → slice_get parts.tree index ≡ Some node → NodeHolds qp parts.laws path node → (f : Finding) → NodeFinds qp parts.laws path (index + 1) node f → IsOfWidth parts f
  node_found path index (Split row) at h f a = absurd a
  node_found path index (Law law_number certs) at h f a =
      let i = a.finds.place in
      let within : i < height qp.g = a.finds.within in
      holding parts (RowFits qp path a.law certs i) (RowHolds qp path a.law certs i) (LeafRow (index + 1) (i + 1)) (CheckLeaf (index + 1) (i + 1))
      (of_leaf index (Law law_number certs) at tt (i + 1) (omega (arith, rows_are))) (h a.law a.is i within) f a.finds.here
  node_found path index (NoMove cert) at h f a =
      holding parts (CertFits (joint_system qp path) cert) (CertRefutes (joint_system qp path) cert) (Leaf (index + 1)) (CheckLeaf (index + 1) 0)
      (of_leaf index (NoMove cert) at tt 0 (omega arith)) h f a

  tree_found : (f : Finding) → TreeFinds qp parts.laws parts.tree f → IsOfWidth parts f
  tree_found f a =
      let b = a.here in
      node_found b.path a.place b.node b.is (nodes_hold qp parts.laws laws.join laws.one_path parts.tree is.tree a.place b.path b.node b.leads b.is) f b.finds

  behind_found : (f : Finding) → BehindFinds qp parts f → IsOfWidth parts f
  behind_found f (inl a) = laws_found f a
  behind_found f (inr a) = tree_found f a.1

  -- ---- where all numbers fit
  law_met : (law : LawOfSet) → IsLaw qp law → LawFits qp law → LawMet qp law
  law_met law l fit = record {
    stationary = λ r below c within. record { fits_so = fit.gradients r c below within; holds_so = laws.stationary_at qp law l r c within };
    active = λ k below c within. record { fits_so = fit.members k c below within; holds_so = laws.active_at qp law l k c below within };
  }

  laws_met : LawsFit qp parts.laws → LawsMet qp parts.laws
  laws_met fit place below law at = law_met law (law_at place law at) (fit place law at)

  node_met : (path : List Row) (node : Node) → NodeHolds qp parts.laws path node → LeafFits qp parts.laws path node → NodeMet qp parts.laws path node
  node_met path (Split row) h fit = tt
  node_met path (Law number certs) h fit = λ law named i below. record { fits_so = fit law i named below; holds_so = h law named i below }
  node_met path (NoMove cert) h fit = record { fits_so = fit; holds_so = h }

  tree_met : LeavesFit qp parts.laws parts.tree → TreeMet qp parts.laws parts.tree
  tree_met fit place below path node leads at = node_met path node (nodes_hold qp parts.laws laws.join laws.one_path parts.tree is.tree place path node leads at) (fit place path node leads at)

-- ---- the laws
module _ (laws : Laws) where
  pub only_width : OnlyWidthFound
  only_width qp parts f is (inl a) = absurd (laws.no_program_finding parts.plant qp f (convex laws qp parts is) a)
  only_width qp parts f is (inr a) = behind_found laws qp parts is f (subst (λ (p : Qp). BehindFinds p parts f) (laws.one_program parts.plant a.qp qp a.program.has_program.condensed is.program.condensed) a.first)

  pub no_refusal : NoRefusal
  no_refusal qp parts Accepted is a = refl
  no_refusal qp parts (Refused spot) is a = absurd (only_width qp parts (refused spot) is a)

  pub only_width_errs : OnlyWidthErrs
  only_width_errs qp parts (TooWide place) is a = only_width qp parts (too_wide place) is a
  only_width_errs qp parts (NotDefinite step) is a = only_width qp parts (not_definite step) is a
  only_width_errs qp parts NoMemory is a = tt

  pub fitting_accepted : FittingIsAccepted
  fitting_accepted qp parts is fit leaves = record { qp = qp; program = convex laws qp parts is; behind = record { laws = laws_met laws qp parts is fit; leaves = tree_met laws qp parts is leaves } }

pub the_laws : DefiniteByPivots → OneProgram → NoProgramFinding → LawIsStationary → LawIsActive → OnePath → JoinedSpell → Laws
the_laws definite one_program none stationary active path join = record {
  definite = definite;
  one_program = one_program;
  no_program_finding = none;
  stationary_at = stationary;
  active_at = active;
  one_path = path;
  join = join;
}
