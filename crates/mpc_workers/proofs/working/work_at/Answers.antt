use Rattle.mpc_workers.proofs.Rounds.{examiner_here}
use Rattle.mpc_workers.proofs.working.work_at.Goals as goal

pub turn_to-requires : goal.turn_to-requires
turn_to-requires g c = examiner_here c.args.worker.now.examiner c.args.pool.now.programs.now c.args.worker.now.program c.args.place c.args.qp.now c.requires.worker.examiner c.requires.within c.requires.program
