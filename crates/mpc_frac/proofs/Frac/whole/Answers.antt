use Rattle.mpc_frac.proofs.FracParts.{one_coprime}
use Rattle.mpc_frac.proofs.Frac.whole.Goals as goal

pub lowest-requires-clause-coprime : goal.lowest-requires-clause-coprime
lowest-requires-clause-coprime c = one_coprime _
