use Rattle.std.proofs.Common.{◌≡◌, true, false}
use Rattle.mpc_check.proofs.CertLemmas.{decided_sums}
use Rattle.mpc_check.proofs.certs.is_refutation.Goals as goal

different : false ≡ true → ⊥
different e = cc

pub returns-in-Ok : goal.returns-in-Ok
returns-in-Ok c = decided_sums c.args.system.now c.args.multipliers.now c.args.place c.in-Ok.yes c.in-Ok.ensures.answer (λ k. different (c.in-Ok.ensures.wide.1 k))
