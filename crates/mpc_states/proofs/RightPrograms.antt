-- What a program says is right.
use Rattle.std.proofs.Common.{◌≡◌, List, sym, ◌∙◌, length, ◌↔◌}
use Rattle.mpc_exact.specs.Rational.{ℚ}
use Rattle.mpc_plant.specs.Trajectory.{IsSequence, IsAdmissible, cost}
use Rattle.mpc_plant.specs.Reply.{move, infeasible}
use Rattle.mpc_rows.specs.ActiveSets.{extended, MeetsRows}
use Rattle.mpc_condense.specs.Condensed.{stacked, program_cost}
use Rattle.mpc_condense.specs.ProgramTheorems.{SameSequences}
use Rattle.mpc_tight.specs.Disturbed.{IsRobustlyAdmissible}
use Rattle.mpc_states.specs.StateTheorems.{ProgramIsRight, RobustProgramIsRight}
use Rattle.mpc_states.proofs.Replies.{point_length, no_sequence, sequence, is_sequence, is_admissible, dearer_sequence, first_move}

module _ (laws : SameSequences) where
  pub program_is_right : ProgramIsRight
  program_is_right plant qp t (move u) is in_box (z, least, e) =
      let size : length t ≡ plant.n = point_length plant qp.counts t is.counts_are in_box in
      let costs : (v : List (List ℚ)) → IsSequence plant v → cost plant t v ≡ program_cost qp (extended t) (stacked v) = λ v s. is.same_cost t v size s in
      let rows : (v : List (List ℚ)) → IsSequence plant v → MeetsRows qp t (stacked v) ↔ IsAdmissible plant t v = λ v s. ((laws plant qp t v is size s).1, (laws plant qp t v is size s).0) in (
        sequence plant qp t (IsAdmissible plant t) in_box is.unknowns_are costs rows z least,
        record {
          sequence = is_sequence plant qp t (IsAdmissible plant t) in_box is.unknowns_are costs rows z least;
          admissible = is_admissible plant qp t (IsAdmissible plant t) in_box is.unknowns_are costs rows z least;
          cheapest = λ v s a other. dearer_sequence plant qp t (IsAdmissible plant t) in_box is.unknowns_are costs rows z least v s a other;
        },
        first_move plant qp t (IsAdmissible plant t) in_box is.unknowns_are costs rows z least ∙ sym e,
      )
  program_is_right plant qp t infeasible is in_box empty =
      let size : length t ≡ plant.n = point_length plant qp.counts t is.counts_are in_box in
      let costs : (v : List (List ℚ)) → IsSequence plant v → cost plant t v ≡ program_cost qp (extended t) (stacked v) = λ v s. is.same_cost t v size s in
      let rows : (v : List (List ℚ)) → IsSequence plant v → MeetsRows qp t (stacked v) ↔ IsAdmissible plant t v = λ v s. ((laws plant qp t v is size s).1, (laws plant qp t v is size s).0) in
      λ v s a. no_sequence plant qp t (IsAdmissible plant t) in_box is.unknowns_are costs rows empty v s a

pub robust_program_is_right : RobustProgramIsRight
robust_program_is_right plant noise qp t (move u) is in_box (z, least, e) =
    let size : length t ≡ plant.n = point_length plant qp.counts t is.counts_are in_box in
    let costs : (v : List (List ℚ)) → IsSequence plant v → cost plant t v ≡ program_cost qp (extended t) (stacked v) = λ v s. is.same_cost t v size s in
    let rows : (v : List (List ℚ)) → IsSequence plant v → MeetsRows qp t (stacked v) ↔ IsRobustlyAdmissible plant noise t v = λ v s. is.same_sequences t v size s in (
      sequence plant qp t (IsRobustlyAdmissible plant noise t) in_box is.unknowns_are costs rows z least,
      record {
        sequence = is_sequence plant qp t (IsRobustlyAdmissible plant noise t) in_box is.unknowns_are costs rows z least;
        admissible = is_admissible plant qp t (IsRobustlyAdmissible plant noise t) in_box is.unknowns_are costs rows z least;
        cheapest = λ v s a other. dearer_sequence plant qp t (IsRobustlyAdmissible plant noise t) in_box is.unknowns_are costs rows z least v s a other;
      },
      first_move plant qp t (IsRobustlyAdmissible plant noise t) in_box is.unknowns_are costs rows z least ∙ sym e,
    )
robust_program_is_right plant noise qp t infeasible is in_box empty =
    let size : length t ≡ plant.n = point_length plant qp.counts t is.counts_are in_box in
    let costs : (v : List (List ℚ)) → IsSequence plant v → cost plant t v ≡ program_cost qp (extended t) (stacked v) = λ v s. is.same_cost t v size s in
    let rows : (v : List (List ℚ)) → IsSequence plant v → MeetsRows qp t (stacked v) ↔ IsRobustlyAdmissible plant noise t v = λ v s. is.same_sequences t v size s in
    λ v s a. no_sequence plant qp t (IsRobustlyAdmissible plant noise t) in_box is.unknowns_are costs rows empty v s a
