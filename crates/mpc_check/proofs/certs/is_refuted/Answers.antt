use Rattle.std.proofs.Common.{◌≡◌, true, false, sym, ◌∙◌, subst, arith}
use Rattle.mpc_rows.specs.LinearSystem.{height}
use Rattle.mpc_rows.specs.Refutation.{Refutes}
use Rattle.mpc_check.specs.Certs.{HasPositionsIn}
use Rattle.mpc_check.specs.Findings.{IsDecided}
use Rattle.mpc_check.specs.Picks.{weights}
use Rattle.mpc_check.specs.LeafSystems.{system_at}
use Rattle.mpc_check.proofs.CertLemmas.{system_count, decided_whole, SumsFitWhere, outside_fits, outside_fails}
use Rattle.mpc_check.proofs.certs.is_refuted.Goals as goal

pub returns-then-not-has_positions_in : goal.returns-then-not-has_positions_in
returns-then-not-has_positions_in c =
    let s = system_at c.args.qp.now c.args.cell.now.tree.now c.args.cell.now.way.now c.args.more c.args.last.now in
    let count = system_count c.args.qp.now c.args.cell.now.tree.now c.args.cell.now.way.now c.args.more c.args.last.now in
    let out : ¬ HasPositionsIn (height s) c.args.cert.now = λ w. different (sym c.if-not-has_positions_in.true ∙ c.has_positions_in.ensures.within.1 (subst (λ n. HasPositionsIn n c.args.cert.now) (omega (arith, count, c.len.ensures)) w)) in
    (outside_fits s c.args.cert.now out, outside_fails s c.args.cert.now out)
  where
    different : false ≡ true → ⊥
    different e = cc

pub named_system-requires-clause-positions : goal.named_system-requires-clause-positions
named_system-requires-clause-positions c =
    let count = system_count c.args.qp.now c.args.cell.now.tree.now c.args.cell.now.way.now c.args.more c.args.last.now in
    subst (λ n. HasPositionsIn n c.args.cert.now) (omega (arith, count, c.len.ensures)) (c.has_positions_in.ensures.within.0 c.if-not-has_positions_in.false)

pub returns : goal.returns
returns c =
    let s = system_at c.args.qp.now c.args.cell.now.tree.now c.args.cell.now.way.now c.args.more c.args.last.now in
    let count = system_count c.args.qp.now c.args.cell.now.tree.now c.args.cell.now.way.now c.args.more c.args.last.now in
    let within : HasPositionsIn (height s) c.args.cert.now = subst (λ n. HasPositionsIn n c.args.cert.now) (omega (arith, count, c.len.ensures)) (c.has_positions_in.ensures.within.0 c.if-not-has_positions_in.false) in
    decided_whole c.zero_theorems.ensures c.fit_theorems.ensures s c.args.cert.now c.has_positions_in.ensures.rises within c.args.place c.is_refutation.result
    (subst (λ t. IsDecided (SumsFitWhere t (weights c.args.cert.now)) (Refutes t (weights c.args.cert.now)) c.args.place c.is_refutation.result) c.in_ok-system.ensures
    (subst (λ m. IsDecided (SumsFitWhere c.in_ok-system.system m) (Refutes c.in_ok-system.system m) c.args.place c.is_refutation.result) c.in_ok-multipliers.ensures c.is_refutation.ensures))
