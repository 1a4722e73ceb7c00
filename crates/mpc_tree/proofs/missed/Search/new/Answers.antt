use Rattle.mpc_tree.proofs.MissedLaws.{missed_none}
use Rattle.mpc_tree.proofs.missed.Search.new.Goals as goal

pub returns : goal.returns
returns c qp borders = record { missed = missed_none qp borders c.new-3.result.items c.args.laws c.in_ok-missed.missed c.in_ok-missed.ensures; joints = c.new-4.ensures qp }
