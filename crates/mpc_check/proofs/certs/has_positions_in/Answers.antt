use Rattle.std.proofs.Common.{◌≡◌, true, false, refl, sym, ◌∙◌, subst, arith}
use Rattle.std.proofs.lemmas.List.{take_all}
use Rattle.mpc_check.specs.Certs.{HasPositionsIn}
use Rattle.mpc_check.proofs.CertLemmas.{positions_more}
use Rattle.mpc_rows.specs.Certificates.{IsCert}
use Rattle.mpc_check.proofs.certs.has_positions_in.Goals as goal

pub loop-i-preserved : goal.loop-i-preserved
loop-i-preserved c =
    let rises : IsCert c.as_slice-entries.result.now = subst IsCert (sym c.as_slice-entries.ensures.value) c.as_slice-entries.ensures.rises in
    positions_more c.args.rows c.as_slice-entries.result.now rises c.loop-i.i c.index-entries-i.result c.loop-i-test.true (omega (arith, c.from.ensures, c.if-from-rows.false)) c.loop-i.invariant

pub returns-then-from-rows-clause-within : goal.returns-then-from-rows-clause-within
returns-then-from-rows-clause-within c = (
  λ t. absurd (different t),
  λ all. let last = (subst (HasPositionsIn c.args.rows) (sym c.as_slice-entries.ensures.value) all c.loop-i.i c.index-entries-i.result c.loop-i-test.true).to_last in absurd (omega (arith, c.from.ensures, c.if-from-rows.true)),
)
  where
    different : false ≡ true → ⊥
    different e = cc

pub returns-clause-within : goal.returns-clause-within
returns-clause-within c = (λ t. subst (HasPositionsIn c.args.rows) (take_all c.loop-i.i c.as_slice-entries.result.now c.loop-i-test.false ∙ c.as_slice-entries.ensures.value) c.loop-i.invariant, λ all. refl)
