use Rattle.mpc_c.proofs.FileEnds.{unchecked, found}
use Rattle.mpc_c.proofs.files.accepted.Goals as goal

pub returns-in-Err-clause-refused : goal.returns-in-Err-clause-refused
returns-in-Err-clause-refused c = unchecked c.args.file.now c.in-Err.status c.in-Err.ensures.refused

pub returns-in-Err-accept-clause-refused : goal.returns-in-Err-accept-clause-refused
returns-in-Err-accept-clause-refused c = found c.args.file.now c.in-Ok.controller c.in-Ok.ensures.given c.in-Err-accept.status c.in-Err-accept.ensures.refused
