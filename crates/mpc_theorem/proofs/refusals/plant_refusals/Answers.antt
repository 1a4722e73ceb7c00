use Rattle.mpc_theorem.proofs.PlantRefusals.{plant_too_wide}
use Rattle.mpc_theorem.proofs.StateRefusals.{plant_not_definite}
use Rattle.mpc_theorem.proofs.refusals.plant_refusals.Goals as goal

pub returns-clause-not_definite : goal.returns-clause-not_definite
returns-clause-not_definite c = plant_not_definite

pub returns-clause-too_wide : goal.returns-clause-too_wide
returns-clause-too_wide c = plant_too_wide c.place_theorems.ensures.none c.place_theorems.ensures.rows c.one_program.ensures (record {
  points = c.cell_theorems.ensures;
  single = c.law_theorems.ensures;
  are_laws = c.table_theorems.ensures.are_laws;
  fits_not = c.one_tree.ensures.fits_not_wide;
})
