use Rattle.mpc_tree.proofs.CertLists.{nonzero-is_cert}
use Rattle.mpc_tree.proofs.theorems.multipliers_are_cert.Goals as goal

pub returns : goal.returns
returns c = nonzero-is_cert
