-- Of a controller at most one thing is found, and nothing where it is accepted.
use Rattle.std.proofs.Common.{◌≡◌, ℕ, ◌+◌, ◌-◌, inl, inr, List, length, Some, subst}
use Rattle.std.specs.Prelude.{slice_get, slice_index}
use Rattle.mpc_exact.specs.Rational.{ℚ}
use Rattle.mpc_space.specs.Matrix.{height}
use Rattle.mpc_plant.specs.declared.plants.Plant.{Plant}
use Rattle.mpc_rows.specs.declared.programs.Qp.{Qp}
use Rattle.mpc_rows.specs.declared.laws.Law.{Law as LawOfSet}
use Rattle.mpc_rows.specs.declared.systems.Row.{Row}
use Rattle.mpc_rows.specs.declared.places.Place.TheVariants.{CheckLaw, CheckLeaf}
use Rattle.mpc_rows.specs.declared.trees.Node.{Node}
use Rattle.mpc_rows.specs.declared.trees.Node.TheVariants.{Split, Law, NoMove}
use Rattle.mpc_condense.specs.BestReplies.{OneProgram}
use Rattle.mpc_condense.specs.Convex.{IsConvexProgram}
use Rattle.mpc_condense.specs.Outcomes.{not_definite as indefinite, too_wide as wide, convex, OneProgramOutcome}
use Rattle.mpc_controller.specs.Parts.{Parts}
use Rattle.mpc_check.specs.declared.answers.Spot.TheVariants.{Stationary, Active, LeafRow, Leaf}
use Rattle.mpc_systems.specs.Systems.{joint_system}
use Rattle.mpc_check.specs.Certs.{CertFits, CertRefutes}
use Rattle.mpc_check.specs.Findings.{Finding, refused, too_wide, not_definite}
use Rattle.mpc_check.specs.LawConditions.{GradientFits, IsStationaryAt, StationaryMet, StationaryFinds, LineMet, LineFinds, LinesMet, LinesFind, ActiveFits, IsActiveAt, ActiveMet, ActiveFinds, RowMet, RowFinds, MemberMet, MemberFinds, MembersMet, MembersFind, LawMet, LawFinds, LawAtMet, LawAtFinds, LawsMet, LawsFind}
use Rattle.mpc_check.specs.LeafConditions.{RowFits, RowHolds, LeafRowMet, LeafRowFinds, LawLeafMet, LawLeafFinds, NodeMet, NodeFinds, NodeAtMet, NodeAtFinds, TreeMet, TreeFinds}
use Rattle.mpc_check.specs.Acceptance.{ProgramFinds, BehindMet, BehindFinds, NothingFound, OneFinding, NoProgramFinding}
use Rattle.mpc_check.proofs.FindingLemmas.{IsSingle, single_condition, single_list, single_pair}
use Rattle.mpc_controller.specs.Paths.{OnePath}

-- ---- laws
module _ (qp : Qp) (number : ℕ) (law : LawOfSet) where
  single_line : (r : ℕ) → IsSingle (LineMet qp law r) (LineFinds qp number law r)
  single_line r = single_list (StationaryMet qp law r) (StationaryFinds qp number law r) (length qp.counts + 1) (λ c. single_condition (GradientFits qp law r c) (IsStationaryAt qp law r c) (Stationary number (r + 1)) (CheckLaw number))

  single_row : (i : ℕ) → IsSingle (RowMet qp law i) (RowFinds qp number law i)
  single_row i = single_list (ActiveMet qp law i) (ActiveFinds qp number law i) (length qp.counts + 1) (λ c. single_condition (ActiveFits qp law i c) (IsActiveAt qp law i c) (Active number i) (CheckLaw number))

  single_lines : IsSingle (LinesMet qp law) (LinesFind qp number law)
  single_lines = single_list (LineMet qp law) (LineFinds qp number law) (height qp.h) single_line

  single_members : IsSingle (MembersMet qp law) (MembersFind qp number law)
  single_members = single_list (MemberMet qp law) (MemberFinds qp number law) (length law.set) (λ k. single_row (slice_index law.set k))

  single_law : IsSingle (LawMet qp law) (LawFinds qp number law)
  single_law = single_pair (LinesMet qp law) (MembersMet qp law) (LinesFind qp number law) (MembersFind qp number law) single_lines single_members (LawMet qp law) (λ m. m.stationary) (λ m. m.active)

module _ (one_path : OnePath) where
  module _ (qp : Qp) (laws : List LawOfSet) where
    same_law : (place : ℕ) (law other : LawOfSet) → slice_get laws place ≡ Some law → slice_get laws place ≡ Some other → law ≡ other
    same_law place law other a b = cc

    one_law_at : (place : ℕ) (f g : Finding) → LawAtFinds qp laws place f → LawAtFinds qp laws place g → f ≡ g
    one_law_at place f g a b =
        (single_law qp (place + 1) b.law).one f g (subst (λ law. LawFinds qp (place + 1) law f) (same_law place a.law b.law a.is b.is) a.finds) b.finds

    single_law_at : (place : ℕ) → IsSingle (LawAtMet qp laws place) (LawAtFinds qp laws place)
    single_law_at place = record { not_met = λ f a m. (single_law qp (place + 1) a.law).not_met f a.finds (m a.law a.is); one = one_law_at place }

    pub single_laws : IsSingle (LawsMet qp laws) (LawsFind qp laws)
    single_laws = single_list (LawAtMet qp laws) (LawAtFinds qp laws) (length laws) single_law_at

    -- ---- leaves
    module _ (path : List Row) (number : ℕ) where
      single_law_leaf : (law : LawOfSet) (certs : List (List (ℕ × ℚ))) → IsSingle (LawLeafMet qp path law certs) (LawLeafFinds qp path number law certs)
      single_law_leaf law certs =
          single_list (LeafRowMet qp path law certs) (LeafRowFinds qp path number law certs) (height qp.g)
          (λ i. single_condition (RowFits qp path law certs i) (RowHolds qp path law certs i) (LeafRow number (i + 1)) (CheckLeaf number (i + 1)))

      node_met : (node : Node) (f : Finding) → NodeFinds qp laws path number node f → NodeMet qp laws path node → ⊥
      node_met (Split row) f a m = a
      node_met (Law law_number certs) f a m = (single_law_leaf a.law certs).not_met f a.finds (m a.law a.is)
      node_met (NoMove cert) f a m = (single_condition (CertFits (joint_system qp path) cert) (CertRefutes (joint_system qp path) cert) (Leaf number) (CheckLeaf number 0)).not_met f a m

      one_node : (node : Node) (f g : Finding) → NodeFinds qp laws path number node f → NodeFinds qp laws path number node g → f ≡ g
      one_node (Split row) f g a b = absurd a
      one_node (Law law_number certs) f g a b =
          (single_law_leaf b.law certs).one f g (subst (λ law. LawLeafFinds qp path number law certs f) (same_law (law_number - 1) a.law b.law a.is b.is) a.finds) b.finds
      one_node (NoMove cert) f g a b = (single_condition (CertFits (joint_system qp path) cert) (CertRefutes (joint_system qp path) cert) (Leaf number) (CheckLeaf number 0)).one f g a b

    module _ (nodes : List Node) where
      same_node : (place : ℕ) (node other : Node) → slice_get nodes place ≡ Some node → slice_get nodes place ≡ Some other → node ≡ other
      same_node place node other a b = cc

      one_node_at : (place : ℕ) (f g : Finding) → NodeAtFinds qp laws nodes place f → NodeAtFinds qp laws nodes place g → f ≡ g
      one_node_at place f g a b =
          one_node b.path (place + 1) b.node f g
          (subst (λ path. NodeFinds qp laws path (place + 1) b.node f) (one_path nodes place a.path a.leads b.path b.leads)
          (subst (λ node. NodeFinds qp laws a.path (place + 1) node f) (same_node place a.node b.node a.is b.is) a.finds)) b.finds

      single_node_at : (place : ℕ) → IsSingle (NodeAtMet qp laws nodes place) (NodeAtFinds qp laws nodes place)
      single_node_at place = record { not_met = λ f a m. node_met a.path (place + 1) a.node f a.finds (m a.path a.node a.leads a.is); one = one_node_at place }

      pub single_tree : IsSingle (TreeMet qp laws nodes) (TreeFinds qp laws nodes)
      single_tree = single_list (NodeAtMet qp laws nodes) (NodeAtFinds qp laws nodes) (length nodes) single_node_at

  -- ---- behind the program
  single_behind : (qp : Qp) (parts : Parts) → IsSingle (BehindMet qp parts) (BehindFinds qp parts)
  single_behind qp parts =
      single_pair (LawsMet qp parts.laws) (TreeMet qp parts.laws parts.tree) (LawsFind qp parts.laws) (TreeFinds qp parts.laws parts.tree)
      (single_laws qp parts.laws) (single_tree qp parts.laws parts.tree) (BehindMet qp parts) (λ m. m.laws) (λ m. m.leaves)

  -- ---- the program
  module _ (one_outcome : OneProgramOutcome) (plant : Plant) where
    program_met : (f : Finding) → ProgramFinds plant f → (qp : Qp) → IsConvexProgram plant qp → ⊥
    program_met (refused spot) a qp c = a
    program_met (too_wide place) a qp c = (let e = one_outcome plant (wide place) convex a (qp, c) in absurd (cc))
    program_met (not_definite step) a qp c = (let e = one_outcome plant (indefinite step) convex a (qp, c) in absurd (cc))

    one_program_finding : (f g : Finding) → ProgramFinds plant f → ProgramFinds plant g → f ≡ g
    one_program_finding (refused spot) g a b = absurd a
    one_program_finding (too_wide p) (refused spot) a b = absurd b
    one_program_finding (too_wide p) (too_wide q) a b = (let e = one_outcome plant (wide p) (wide q) a b in cc)
    one_program_finding (too_wide p) (not_definite k) a b = (let e = one_outcome plant (wide p) (indefinite k) a b in absurd (cc))
    one_program_finding (not_definite j) (refused spot) a b = absurd b
    one_program_finding (not_definite j) (too_wide q) a b = (let e = one_outcome plant (indefinite j) (wide q) a b in absurd (cc))
    one_program_finding (not_definite j) (not_definite k) a b = (let e = one_outcome plant (indefinite j) (indefinite k) a b in cc)

  -- ---- the controller
  behind_there : (parts : Parts) (f : Finding) (one two : Qp) → one ≡ two → BehindFinds one parts f → BehindFinds two parts f
  behind_there parts f one two e b = subst (λ qp. BehindFinds qp parts f) e b

  module _ (one_program : OneProgram) (one_outcome : OneProgramOutcome) where
    same : (plant : Plant) (one two : Qp) → IsConvexProgram plant one → IsConvexProgram plant two → one ≡ two
    same plant one two a b = one_program plant one two a.has_program.condensed b.has_program.condensed

    pub no_program_finding : NoProgramFinding
    no_program_finding plant qp f c a = program_met one_outcome plant f a qp c

    pub nothing_found : NothingFound
    nothing_found parts f a (inl p) = program_met one_outcome parts.plant f p a.qp a.program
    nothing_found parts f a (inr b) = (single_behind a.qp parts).not_met f (behind_there parts f b.qp a.qp (same parts.plant b.qp a.qp b.program a.program) b.first) a.behind

    pub one_finding : OneFinding
    one_finding parts f g (inl a) (inl b) = one_program_finding one_outcome parts.plant f g a b
    one_finding parts f g (inl a) (inr b) = absurd (program_met one_outcome parts.plant f a b.qp b.program)
    one_finding parts f g (inr a) (inl b) = absurd (program_met one_outcome parts.plant g b a.qp a.program)
    one_finding parts f g (inr a) (inr b) = (single_behind b.qp parts).one f g (behind_there parts f a.qp b.qp (same parts.plant a.qp b.qp a.program b.program) a.first) b.first
