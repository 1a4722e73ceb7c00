use Rattle.std.proofs.Common.{length, take, subst, sym, arith}
use Rattle.mpc_region.specs.Kept.{IsReachRun, AreReachRuns}
use Rattle.mpc_region.proofs.ReachRuns.{runs_more}
use Rattle.mpc_region.proofs.kept.push_run.Goals as goal

pub further_run-requires-clause-runs : goal.further_run-requires-clause-runs
further_run-requires-clause-runs c = subst (AreReachRuns c.args.qp.now c.args.kept.now.set) (sym c.deref.ensures.value) c.requires.kept.reaches

pub returns-clause-kept : goal.returns-clause-kept
returns-clause-kept c = record {
  reaches = runs_more c.args.qp.now c.args.kept.now.set c.args.kept.now.reaches.items c.requires.kept.reaches c.in_ok-run.run' c.push.new.self.items c.in-Ok.ensures.items (omega (arith, c.args.kept.now.reaches.ok.0))
      (subst (λ xs. IsReachRun c.args.qp.now (take (length xs) c.args.kept.now.set) c.in_ok-run.run') c.deref.ensures.value c.in_ok-run.ensures);
  states = c.requires.kept.states;
}
