use Rattle.mpc_beginnings.proofs.SharedRun.{positions_agree, turns_agree, steps_longer, refuted_longer}
use Rattle.mpc_beginnings.proofs.LateRows.{appended_row}
use Rattle.mpc_beginnings.proofs.SharedFits.{fits_split, refuted_split}
use Rattle.mpc_beginnings.proofs.TurnedRows.{turned_fits}
use Rattle.mpc_beginnings.proofs.theorems.shared_beginning.Goals as goal

pub returns-clause-stand : goal.returns-clause-stand
returns-clause-stand c = positions_agree

pub returns-clause-turn : goal.returns-clause-turn
returns-clause-turn c = turns_agree

pub returns-clause-steps : goal.returns-clause-steps
returns-clause-steps c = steps_longer

pub returns-clause-refute : goal.returns-clause-refute
returns-clause-refute c = refuted_longer

pub returns-clause-form : goal.returns-clause-form
returns-clause-form c = λ s more k i y h b. appended_row s more k h i b y

pub returns-clause-fit : goal.returns-clause-fit
returns-clause-fit c = fits_split

pub returns-clause-fit_refuted : goal.returns-clause-fit_refuted
returns-clause-fit_refuted c = refuted_split

pub returns-clause-fit_turned : goal.returns-clause-fit_turned
returns-clause-fit_turned c = turned_fits c.fit_theorems.ensures
