use Rattle.std.proofs.Common.{[], ◌∷◌, ℤ, pos, rules, refl, ap, ◌∙◌, w64}
use mir.Val.{SFits}
use Rattle.std.proofs.lemmas.Int.{to_z-of_z}
use Rattle.mpc_trace.specs.DrillPlant.{matrix, stage_rows}
use Rattle.mpc_trace.proofs.PlantLemmas.{is_plant}
use Rattle.mpc_trace.proofs.plants.drill_plant.Goals as goal

pub invariant_of-result : goal.invariant_of-result
invariant_of-result c = record {
  is_plant = is_plant c.in_ok-state_matrix.state_matrix c.in_ok-input_matrix.input_matrix c.in_ok-state_costs.state_costs c.in_ok-input_costs.input_costs c.in_ok-last.last c.in_ok-drift.drift c.in_ok-xgoal.xgoal c.in_ok-ugoal.ugoal c.in_ok-rows.rows c.in_ok-terminal.terminal c.in_ok-grid.grid _ _ _ _
      c.in_ok-state_matrix.ensures c.in_ok-input_matrix.ensures c.in_ok-state_costs.ensures c.in_ok-input_costs.ensures c.in_ok-last.ensures c.in_ok-drift.ensures c.in_ok-xgoal.ensures c.in_ok-ugoal.ensures c.in_ok-rows.ensures c.in_ok-terminal.ensures c.in_ok-grid.ensures;
}

pub returns : goal.returns
returns c = record {
  states = refl;
  inputs = refl;
  steps = refl;
  a_is = c.in_ok-state_matrix.ensures ∙ ap (λ (z : ℤ). matrix 2 ((pos 1 ∷ pos 1 ∷ []) ∷ (z ∷ pos 1 ∷ []) ∷ [])) (to_z-of_z w64 c.turn.result (let f : SFits w64 c.turn.result = search rules in f) ∙ c.turn.ensures);
  b_is = c.in_ok-input_matrix.ensures ∙ ap (λ (z : ℤ). matrix 1 ((z ∷ []) ∷ (pos 1 ∷ []) ∷ [])) (to_z-of_z w64 c.input.result (let f : SFits w64 c.input.result = search rules in f) ∙ c.input.ensures);
  q_is = c.in_ok-state_costs.ensures ∙ ap (λ (z : ℤ). matrix 2 ((z ∷ pos 0 ∷ []) ∷ (pos 0 ∷ pos 1 ∷ []) ∷ [])) (to_z-of_z w64 c.weight.result (let f : SFits w64 c.weight.result = search rules in f) ∙ c.weight.ensures);
  r_is = c.in_ok-input_costs.ensures;
  last_is = c.in_ok-last.ensures;
  drift_is = c.in_ok-drift.ensures;
  xgoal_is = c.in_ok-xgoal.ensures;
  ugoal_is = c.in_ok-ugoal.ensures;
  rows_are = c.in_ok-rows.ensures ∙ ap stage_rows (to_z-of_z w64 c.input_bound.result (let f : SFits w64 c.input_bound.result = search rules in f) ∙ c.input_bound.ensures);
  terminal_is = c.in_ok-terminal.ensures;
  grid_is = c.in_ok-grid.ensures;
}
