-- The replies of a plant's table are right.
use Rattle.std.proofs.Common.{◌≡◌, ℕ, zero, suc, ◌-◌, ◌<◌, ◌≤◌, List, [], ◌∷◌, length, get_or, map, take, Some, None, pos, refl, sym, ◌∙◌, ap, subst, arith}
use Rattle.std.specs.Prelude.{All, slice_get}
use Rattle.std.proofs.lemmas.List.{length-map, get_or-map}
use Rattle.std.proofs.lemmas.Option.{slice_get_within, get_or_from_slice_get}
use Rattle.mpc_exact.specs.Rational.{ℚ, int}
use Rattle.mpc_space.specs.Vector.{dot, mat_vec}
use Rattle.mpc_bench.specs.declared.parts.Parts.{Parts as SentParts}
use Rattle.mpc_bench.specs.Parts.{value_of}
use Rattle.mpc_plant.specs.declared.plants.Plant.{Plant}
use Rattle.mpc_plant.specs.declared.lists.Coordinate.{Coordinate}
use Rattle.mpc_plant.specs.Reply.{Reply, move, infeasible, IsRight}
use Rattle.mpc_plant.specs.Trajectory.{IsWithin, point_of}
use Rattle.mpc_rows.specs.ActiveSets.{IsInBox, extended}
use Rattle.mpc_rows.specs.declared.programs.Qp.{Qp}
use Rattle.mpc_rows.specs.declared.laws.Law.{Law}
use Rattle.mpc_condense.specs.Condensed.{counts_of, IsCondensed}
use Rattle.mpc_controller.specs.Parts.{Parts, limits_of, IsLawFor, HaveShapes}
use Rattle.mpc_controller.specs.Bounds.{first_move_form}
use Rattle.mpc_controller.specs.Replies.{first_outside, IsLawNumbered, RepliesAt, by_law, by_no_law}
use Rattle.mpc_table.specs.Lookup.{Lookup, IsTableOf}
use Rattle.mpc_table.specs.TableReplies.{IsMoveReply, IsInfeasibleReply, CanMove}
use Rattle.mpc_table.specs.TableTheorems.{OneListEach, MovesEachInput}
use Rattle.mpc_synthesis.specs.RightReplies.{GridIsInBox}
use Rattle.mpc_synthesis.specs.Controllers.{IsController, ControllerIsRight}
use Rattle.mpc_bench.specs.declared.controllers.Sizes.{Sizes}
use Rattle.mpc_bench.specs.declared.replies.Answer.{Answer}
use Rattle.mpc_bench.specs.declared.replies.Answer.TheVariants.{Moved, Infeasible, Outside}
use Rattle.mpc_bench.specs.Answers.{no_parts, HaveSizes, HoldsFor, IsMoveOf, RepliesBy, IsRightAt, IsAnsweredFor}

-- ---- the numbers of a move
first_moves : (p : ℕ) (rows : List (List ℚ)) (x us : List ℚ) → length us ≡ p → p ≤ length rows → ((k : ℕ) → k < p → get_or us k (int (pos 0)) ≡ dot (get_or rows k []) x) → us ≡ take p (mat_vec rows x)
first_moves zero rows x [] size enough at = refl
first_moves zero rows x (u ∷ us) size enough at = absurd (omega (arith, size))
first_moves (suc p) rows x [] size enough at = absurd (omega (arith, size))
first_moves (suc p) [] x (u ∷ us) size enough at = absurd (omega (arith, enough))
first_moves (suc p) (row ∷ rows) x (u ∷ us) size enough at =
    λ i. at 0 (omega arith) i ∷ first_moves p rows x us (omega (arith, size)) (omega (arith, enough)) (λ k l. at (suc k) (omega (arith, l))) i

law_at : (laws : List Law) (j : ℕ) → j < length laws → (law : Law) × (slice_get laws j ≡ Some law)
law_at [] j h = absurd (omega arith)
law_at (l ∷ ls) zero h = (l, refl)
law_at (l ∷ ls) (suc j) h = law_at ls j (omega arith)

law_fits : (parts : Parts) (j : ℕ) (law : Law) → slice_get parts.laws j ≡ Some law → All (IsLawFor parts.plant) parts.laws → IsLawFor parts.plant law
law_fits parts j law at all = subst (IsLawFor parts.plant) (get_or_from_slice_get parts.laws j law law at) (all j law (slice_get_within parts.laws j law at))

-- the number is that of input k, counted from 0, by the law with this number
abbrev pub IsNumberOf : Lookup → List ℕ → ℕ → ℕ → ℚ → Type 0
IsNumberOf table counts number k u = (parts : Parts) (law : Law) → IsTableOf parts table → IsLawNumbered parts.laws number law → u ≡ dot (first_move_form law k) (extended (point_of counts))

pub is_move : OneListEach → MovesEachInput → (table : Lookup) (counts : List ℕ) (number : ℕ) (moves : List SentParts) → CanMove table counts number → length moves ≡ table.inputs → ((k : ℕ) → k < length moves → IsNumberOf table counts number k (value_of (get_or moves k no_parts)))
    → (parts : Parts) → HoldsFor parts table → IsMoveOf parts counts number (map value_of moves)
is_move one_list each table counts number moves can room at parts h =
    let size : length table.laws ≡ length parts.laws = one_list parts.plant.p parts.laws table.laws h.table_of.laws_are in
    let found = law_at parts.laws (number - 1) (omega (arith, can.from_first, can.to_last, size)) in
    let fits : IsLawFor parts.plant found.0 = law_fits parts (number - 1) found.0 found.1 h.shapes.laws_fit in
    let inputs : length moves ≡ parts.plant.p = room ∙ h.table_of.inputs_are in (
      found.0,
      found.1,
      first_moves parts.plant.p found.0.moves.rows (extended (point_of counts)) (map value_of moves) (length-map moves value_of ∙ inputs) (each parts.plant found.0 fits)
          (λ k l.
          let inside : k < length moves = subst (λ n. k < n) (sym inputs) l in
          get_or-map value_of moves k no_parts (int (pos 0)) inside ∙ at k inside parts found.0 h.table_of found.1),
    )

-- ---- replies by the tree
pub moved : (parts : Parts) (counts : List ℕ) (node number : ℕ) (moves : List ℚ) → IsMoveReply parts counts node number → IsMoveOf parts counts number moves → RepliesBy parts counts moves Moved
moved parts counts node number moves r m = (r.inside, subst (λ u. RepliesAt parts (point_of counts) (move u)) (sym m.2) (by_law r.place number r.certs m.0 r.ends m.1))

pub stood : (parts : Parts) (counts : List ℕ) (node : ℕ) (moves : List ℚ) → IsInfeasibleReply parts counts node → RepliesBy parts counts moves Infeasible
stood parts counts node moves r = (r.inside, by_no_law r.place r.cert r.ends)

pub past : (parts : Parts) (counts : List ℕ) (i : ℕ) (moves : List ℚ) → first_outside (limits_of parts.plant) counts ≡ Some i → RepliesBy parts counts moves Outside
past parts counts i moves e h = let a = e in let b = h in absurd cc

-- ---- and by the plant
within_grid : (grid : List Coordinate) (t : List ℚ) → IsInBox (counts_of grid) t → IsWithin grid t
within_grid [] [] h = h
within_grid [] (x ∷ t) h = absurd h
within_grid (axis ∷ grid) [] h = absurd h
within_grid (axis ∷ grid) (x ∷ t) h = (h.0, h.1, within_grid grid t h.2)

module _ (right : ControllerIsRight) (grid : GridIsInBox) (plant : Plant) (qp : Qp) (parts : Parts) (counts : List ℕ) (is : IsController plant qp parts) (size : length counts ≡ plant.n) where
  inside_of : first_outside (limits_of parts.plant) counts ≡ None → first_outside (limits_of plant) counts ≡ None
  inside_of h = ap (λ p. first_outside (limits_of p) counts) (sym is.is_sealed.plant_is) ∙ h

  right_at : (reply : Reply) → first_outside (limits_of parts.plant) counts ≡ None → RepliesAt parts (point_of counts) reply → IsRight plant (point_of counts) reply
  right_at reply h r =
      let condensed : IsCondensed qp plant = is.is_sealed.has_tree.verdicts.has_program.condensed in
      right plant qp parts (point_of counts) reply is (within_grid plant.grid (point_of counts) (subst (λ l. IsInBox l (point_of counts)) condensed.counts_are (grid plant qp counts condensed size (inside_of h)))) r

  right_reply : (moves : List ℚ) (answer : Answer) → RepliesBy parts counts moves answer → IsRightAt plant counts moves answer
  right_reply moves Moved h = (inside_of h.0, right_at (move moves) h.0 h.1)
  right_reply moves Infeasible h = (inside_of h.0, right_at infeasible h.0 h.1)
  right_reply moves Outside h = λ k. h (ap (λ p. first_outside (limits_of p) counts) is.is_sealed.plant_is ∙ k)

  -- what the controller's table replies
  pub answered : (table : Lookup) (sizes : Sizes) (moves : List ℚ) (answer : Answer) → IsTableOf parts table → HaveSizes sizes parts
      → ((p : Parts) → HoldsFor p table → RepliesBy p counts moves answer) → IsAnsweredFor plant counts sizes moves answer
  answered table sizes moves answer of_parts have replied = record {
    right = right_reply moves answer (replied parts (record { shapes = subst (λ p. HaveShapes p parts.laws parts.tree) (sym is.is_sealed.plant_is) is.is_sealed.fits.shapes; table_of = of_parts }));
    qp = qp;
    parts = parts;
    controller = is;
    sizes_are = have;
  }

-- ---- the sizes of a request
limits_size : (plant : Plant) → length (limits_of plant) ≡ plant.n
limits_size plant = length-map plant.grid (λ (axis : Coordinate). axis.count) ∙ plant.is_plant.grid_size

pub counts_size : (plant : Plant) (parts : Parts) (table : Lookup) (n : ℕ) → parts.plant ≡ plant → IsTableOf parts table → n ≡ plant.n → n ≡ length table.limits
counts_size plant parts table n is h e = e ∙ sym (limits_size plant) ∙ ap (λ p. length (limits_of p)) (sym is) ∙ ap length (sym h.limits_are)

pub inputs_size : (plant : Plant) (parts : Parts) (table : Lookup) (n : ℕ) → parts.plant ≡ plant → IsTableOf parts table → n ≡ plant.p → n ≡ table.inputs
inputs_size plant parts table n is h e = e ∙ ap (λ (p : Plant). p.p) (sym is) ∙ sym h.inputs_are
