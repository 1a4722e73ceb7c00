use Rattle.mpc_files.specs.FileOutcomes.{fails}
use Rattle.mpc_c.proofs.FileEnds.{unread}
use Rattle.mpc_c.proofs.files.given.Goals as goal

pub returns-in-Err-Bad-clause-refused : goal.returns-in-Err-Bad-clause-refused
returns-in-Err-Bad-clause-refused c = unread c.args.file.now (fails c.in-Err-Bad.kind c.in-Err-Bad.number) (rw c.in-Err-Bad.field-0-is at c.in-Err-Bad.ensures.err) (λ d. absurd cc)
