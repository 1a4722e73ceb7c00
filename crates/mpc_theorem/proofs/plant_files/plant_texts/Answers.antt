use Rattle.mpc_theorem.proofs.PlantFaults.{faults_are_first}
use Rattle.mpc_theorem.proofs.PlantTexts.{plant_texts, one_plant_text}
use Rattle.mpc_theorem.proofs.plant_files.plant_texts.Goals as goal

pub returns-clause-read : goal.returns-clause-read
returns-clause-read c = plant_texts

pub returns-clause-one : goal.returns-clause-one
returns-clause-one c = one_plant_text c.one_reading.ensures

pub returns-clause-faults : goal.returns-clause-faults
returns-clause-faults c = faults_are_first
