-- What the checker finds of a plant's program, and why that is refused.
use Rattle.std.proofs.Common.{ℕ, ◌+◌, ◌⊎◌, inl, inr, List, length, slice_index}
use Rattle.mpc_space.specs.Matrix.{height}
use Rattle.mpc_rows.specs.declared.programs.Qp.{Qp}
use Rattle.mpc_rows.specs.declared.laws.Law.{Law}
use Rattle.mpc_rows.specs.declared.systems.Row.{Row}
use Rattle.mpc_rows.specs.declared.trees.Node.{Node}
use Rattle.mpc_rows.specs.declared.trees.Node.TheVariants.{Split, Law as LawLeaf, NoMove}
use Rattle.mpc_condense.specs.ProgramTheorems.{RowsWithin}
use Rattle.mpc_controller.specs.Parts.{Parts}
use Rattle.mpc_check.specs.Findings.{Finding, too_wide, not_definite as found_not_definite, IsFirstOf, IsFirstOfTwo}
use Rattle.mpc_check.specs.LawConditions.{StationaryMet, StationaryFinds, LineMet, LineFinds, ActiveMet, ActiveFinds, RowFinds, MemberMet, MemberFinds, LawFinds, LawAtMet, LawAtFinds, LawsMet, LawsFind}
use Rattle.mpc_check.specs.LeafConditions.{LeafRowMet, LeafRowFinds, NodeFinds, NodeAtMet, NodeAtFinds, TreeFinds}
use Rattle.mpc_check.specs.Acceptance.{FindsBehind, IsFound}
use Rattle.mpc_theorem.specs.Programs.{IsNotDefinite, IsWideProgram}
use Rattle.mpc_theorem.specs.CheckTheorems.{FindsNotDefinite, FindsTooWide}
use Rattle.mpc_theorem.proofs.StateRefusals.{plant_not_definite, solves_too_wide}

-- ---- nothing behind the program finds a pivot
first_of : (met : ℕ → Type 0) (finds : ℕ → Finding → Type 0) (count : ℕ) (finding : Finding) → ((k : ℕ) → finds k finding → ⊥) → IsFirstOf met finds count finding → ⊥
first_of met finds count finding none h = none h.place h.here

module _ (qp : Qp) (j : ℕ) where
  no_line : (number : ℕ) (law : Law) (r : ℕ) → LineFinds qp number law r (found_not_definite j) → ⊥
  no_line number law r h = first_of (StationaryMet qp law r) (StationaryFinds qp number law r) (length qp.counts + 1) (found_not_definite j) (λ k here. here) h

  no_row : (number : ℕ) (law : Law) (i : ℕ) → RowFinds qp number law i (found_not_definite j) → ⊥
  no_row number law i h = first_of (ActiveMet qp law i) (ActiveFinds qp number law i) (length qp.counts + 1) (found_not_definite j) (λ k here. here) h

  no_law : (number : ℕ) (law : Law) → LawFinds qp number law (found_not_definite j) → ⊥
  no_law number law (inl h) = first_of (LineMet qp law) (LineFinds qp number law) (height qp.h) (found_not_definite j) (no_line number law) h
  no_law number law (inr h) = first_of (MemberMet qp law) (MemberFinds qp number law) (length law.set) (found_not_definite j) (λ k here. no_row number law (slice_index law.set k) here) h.1

  no_laws : (laws : List Law) → LawsFind qp laws (found_not_definite j) → ⊥
  no_laws laws h = first_of (LawAtMet qp laws) (LawAtFinds qp laws) (length laws) (found_not_definite j) (λ k here. no_law (k + 1) here.law here.finds) h

  no_node : (laws : List Law) (path : List Row) (number : ℕ) (node : Node) → NodeFinds qp laws path number node (found_not_definite j) → ⊥
  no_node laws path number (Split row) h = h
  no_node laws path number (LawLeaf law_number certs) h =
      first_of (LeafRowMet qp path h.law certs) (LeafRowFinds qp path number h.law certs) (height qp.g) (found_not_definite j) (λ k here. here) h.finds
  no_node laws path number (NoMove cert) h = h

  no_tree : (laws : List Law) (nodes : List Node) → TreeFinds qp laws nodes (found_not_definite j) → ⊥
  no_tree laws nodes h = first_of (NodeAtMet qp laws nodes) (NodeAtFinds qp laws nodes) (length nodes) (found_not_definite j) (λ k here. no_node laws here.path (k + 1) here.node here.finds) h

no_pivot_behind : (parts : Parts) (j : ℕ) → FindsBehind parts (found_not_definite j) → ⊥
no_pivot_behind parts j h = by h.first
  where
    by : IsFirstOfTwo (LawsMet h.qp parts.laws) (LawsFind h.qp parts.laws) (TreeFinds h.qp parts.laws parts.tree) (found_not_definite j) → ⊥
    by (inl k) = no_laws h.qp j parts.laws k
    by (inr k) = no_tree h.qp j parts.laws parts.tree k.1

pub finds_not_definite : FindsNotDefinite
finds_not_definite parts j = (to, λ h. inl ((plant_not_definite parts.plant j).1 h))
  where
    to : IsFound parts (found_not_definite j) → IsNotDefinite parts.plant j
    to (inl h) = (plant_not_definite parts.plant j).0 h
    to (inr h) = absurd (no_pivot_behind parts j h)

pub finds_too_wide : RowsWithin → FindsTooWide
finds_too_wide within parts place = (to, of)
  where
    to : IsFound parts (too_wide place) → IsWideProgram parts.plant place ⊎ FindsBehind parts (too_wide place)
    to (inl h) = inl ((solves_too_wide within parts.plant place).0 h)
    to (inr h) = inr h

    of : IsWideProgram parts.plant place ⊎ FindsBehind parts (too_wide place) → IsFound parts (too_wide place)
    of (inl h) = inl ((solves_too_wide within parts.plant place).1 h)
    of (inr h) = inr h
