use Rattle.mpc_rows.proofs.RefutedLemmas.{refuted-no_point, point_of_pairs}
use Rattle.mpc_rows.proofs.SystemSums.{pair_point_from, refutes_from}
use Rattle.mpc_rows.proofs.rules.system_theorems.Goals as goal

pub returns : goal.returns
returns c = record { refuted_has_no_point = refuted-no_point; point_of_pairs = point_of_pairs; pair_point_from = pair_point_from; refutes_from = refutes_from }
