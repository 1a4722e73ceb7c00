-- Walks through a tree that is laid out in steps.
use Rattle.std.proofs.Common.{◌≡◌, ℕ, zero, suc, ◌+◌, ◌^◌, ◌<◌, ℤ, pos, ◌+ℤ◌, ◌*ℤ◌, ◌≤ℤ◌, unsigned_abs, Bool, List, [], ◌∷◌, length, get_or, map, Some, refl, sym, ◌∙◌, ap, subst, arith}
use Rattle.std.specs.Prelude.{slice_get, slice_index, ◌↔◌, IsTrue}
use Rattle.std.specs.Int.{w128}
use mir.Val.{to_z, of_z}
use Rattle.std.proofs.lemmas.Int.{ints}
use Rattle.std.proofs.lemmas.Option.{slice_get-get_or}
use Rattle.mpc_exact.specs.Rational.{int, ◌+ℚ◌, ◌≤ℚ◌}
use Rattle.mpc_exact.proofs.Rational.{int-add, int-mul}
use Rattle.mpc_exact.proofs.School.{int_le}
use Rattle.mpc_space.specs.Vector.{dot}
use Rattle.mpc_linear.specs.declared.integers.RowInt.{RowInt}
use Rattle.mpc_plant.specs.Trajectory.{point_of}
use Rattle.mpc_rows.specs.declared.trees.Node.{Node}
use Rattle.mpc_rows.specs.declared.trees.Node.TheVariants.{Split, Law, NoMove}
use Rattle.mpc_controller.specs.Bounds.{reach}
use Rattle.mpc_controller.specs.Walk.{Satisfies, yes_side, no_side}
use Rattle.mpc_table.specs.Steps.{Action, branch, apply, stop, step_of, steps_of, IsSafeBranch, LeadsTo, IsLast, IsLastAt}
use Rattle.mpc_table.specs.Forms.{weighed}
use Rattle.mpc_table.proofs.WholeNumbers.{read}

-- ---- a row at counts
pub dot_weighed : (ks : List ℤ) (ts : List ℕ) → dot (map int ks) (point_of ts) ≡ int (weighed ks ts)
dot_weighed [] ts = refl
dot_weighed (k ∷ ks) [] = refl
dot_weighed (k ∷ ks) (t ∷ ts) = (λ i. sym (int-mul k (pos t)) i +ℚ dot_weighed ks ts i) ∙ sym (int-add (k *ℤ pos t) (weighed ks ts))

pub satisfied : (row : RowInt) (ts : List ℕ) → weighed row.a ts ≤ℤ row.b → Satisfies row (point_of ts)
satisfied row ts h = record { at_most = subst (λ x. x ≤ℚ int row.b) (sym (dot_weighed row.a ts)) ((int_le (weighed row.a ts) row.b).1 h) }

pub at_most : (row : RowInt) (ts : List ℕ) → Satisfies row (point_of ts) → weighed row.a ts ≤ℤ row.b
at_most row ts h = (int_le (weighed row.a ts) row.b).0 (subst (λ x. x ≤ℚ int row.b) (dot_weighed row.a ts) h.at_most)

start_zero : (w : ℤ) → pos 0 +ℤ w ≡ w
start_zero w = omega (arith, ints)

pub satisfies_iff : (r : Bool) (z : ℤ) (row : RowInt) (a : List ℤ) (ts : List ℕ) → unsigned_abs z < 2 ^ 127 → unsigned_abs row.b + reach row.a ts < 2 ^ 127 → IsTrue r ↔ (to_z w128 (of_z w128 z) ≤ℤ to_z w128 (of_z w128 row.b)) → z ≡ pos 0 +ℤ weighed a ts → a ≡ row.a
    → IsTrue r ↔ Satisfies row (point_of ts)
satisfies_iff r z row a ts z_small within test is same =
    let value : to_z w128 (of_z w128 z) ≡ weighed row.a ts = read z z_small ∙ is ∙ start_zero (weighed a ts) ∙ ap (λ ks. weighed ks ts) same in
    let bound : to_z w128 (of_z w128 row.b) ≡ row.b = read row.b (omega arith) in
    (λ t. satisfied row ts (subst (λ w. w ≤ℤ row.b) value (subst (λ w. to_z w128 (of_z w128 z) ≤ℤ w) bound (test.0 t))), λ h. test.1 (subst (λ w. to_z w128 (of_z w128 z) ≤ℤ w) (sym bound) (subst (λ w. w ≤ℤ row.b) (sym value) (at_most row ts h))))

-- ---- steps and nodes
node_step : (node : Node) (row : RowInt) → step_of node ≡ branch row → node ≡ Split row
node_step (Split r) row e = let same : r ≡ row = cc in ap Split same
node_step (Law law certs) row e = absurd cc
node_step (NoMove cert) row e = absurd cc

pub step_node : (nodes : List Node) (place : ℕ) (done : Action) → slice_get (steps_of nodes) place ≡ Some done → (node : Node) × (slice_get nodes place ≡ Some node) × (step_of node ≡ done)
step_node [] place done e = absurd cc
step_node (node ∷ nodes) zero done e = (node, refl, cc)
step_node (node ∷ nodes) (suc place) done e = step_node nodes place done e

pub branch_node : (nodes : List Node) (place : ℕ) (row : RowInt) → slice_get (steps_of nodes) place ≡ Some (branch row) → slice_get nodes place ≡ Some (Split row)
branch_node nodes place row e = let n = step_node nodes place (branch row) e in n.1 ∙ ap Some (node_step n.0 row n.2)

-- what the code read at a place
pub read_at : (steps : List Action) (place : ℕ) (found : Action) (done : Action) → place < length steps → found ≡ get_or steps place found → found ≡ done → slice_get steps place ≡ Some done
read_at steps place found done inside read is = slice_get-get_or steps place found inside ∙ ap Some (sym read ∙ is)

pub last_at : (steps : List Action) (place : ℕ) (done : Action) → slice_get steps place ≡ Some done → IsLast done → IsLastAt steps place
last_at steps place done at is = record { step = done; step_at = at; is_last = is }

pub last_read : (steps : List Action) (place : ℕ) (found : Action) → place < length steps → found ≡ get_or steps place found → ((row : RowInt) → found ≡ branch row → ⊥) → IsLastAt steps place
last_read steps place (branch row) inside read other = absurd (other row refl)
last_read steps place (apply law) inside read other = last_at steps place (apply law) (read_at steps place (apply law) (apply law) inside read refl) tt
last_read steps place stop inside read other = last_at steps place stop (read_at steps place stop stop inside read refl) tt

-- ---- from a branch to the next place
module _ (steps : List Action) (sides counts : List ℕ) (place : ℕ) (row : RowInt) (at : slice_get steps place ≡ Some (branch row)) (safe : IsSafeBranch counts steps sides place row) where
  split_at : (nodes : List Node) → steps ≡ steps_of nodes → slice_get nodes place ≡ Some (Split row)
  split_at nodes is = branch_node nodes place row (subst (λ s. slice_get s place ≡ Some (branch row)) is at)

  pub to_yes_side : Satisfies row (point_of counts) → LeadsTo steps sides counts place (place + 1)
  to_yes_side h =
      let after : place < slice_index sides place = safe.after in
      let before : slice_index sides place < length steps = safe.before_end in
      record {
        forward = omega arith;
        inside = omega arith;
        walks = λ nodes is sides_are reached. yes_side place row reached (split_at nodes is) h;
      }

  pub to_no_side : ¬ Satisfies row (point_of counts) → LeadsTo steps sides counts place (slice_index sides place)
  to_no_side h = record {
    forward = safe.after;
    inside = safe.before_end;
    walks = λ nodes is sides_are reached. no_side place (slice_index sides place) row reached (split_at nodes is) h (sides_are.each place row (split_at nodes is));
  }
