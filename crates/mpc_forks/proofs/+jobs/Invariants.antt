use Rattle.std.proofs.Common.{◌+◌, ◌*◌}
use Rattle.mpc_forks.proofs.+jobs.Given as goal

abbrev pub decreases-ours : goal.decreases-ours
decreases-ours g l = 2 * l.jobs.len + 1

abbrev pub decreases-run_jobs : goal.decreases-run_jobs
decreases-run_jobs g l = 2 * l.jobs.len
