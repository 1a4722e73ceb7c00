use Rattle.std.proofs.Common.{◌+◌, ◌-◌, Contains, refl, arith}
use Rattle.mpc_sets.specs.RowSet.{without_row}
use Rattle.mpc_sets.proofs.Search.{first_none, first_all, not_supported, supported_more}
use Rattle.mpc_sets.proofs.is_supported.Goals as goal

pub loop-position-init : goal.loop-position-init
loop-position-init c = first_none (λ row. Contains c.args.grown.now (without_row row c.args.joined)) c.args.beginning

pub returns-then-not-contains_set : goal.returns-then-not-contains_set
returns-then-not-contains_set c =
    not_supported c.args.grown.now c.args.beginning c.args.joined c.without.result (c.loop-position.position - 1) c.member.result c.contains_set.result
    c.contains_set.ensures c.without.ensures.value c.member.ensures.value (omega arith) c.if-not-contains_set.true

pub loop-position-preserved : goal.loop-position-preserved
loop-position-preserved c =
    supported_more c.args.grown.now c.args.beginning c.args.joined c.without.result (c.loop-position.position - 1) c.member.result c.contains_set.result
    c.contains_set.ensures c.without.ensures.value c.member.ensures.value (omega arith) (c.loop-position.position + 1 - 1) c.if-not-contains_set.false c.loop-position.invariant (omega arith)

pub returns : goal.returns
returns c = (λ _. first_all (λ row. Contains c.args.grown.now (without_row row c.args.joined)) c.args.beginning (c.loop-position.position - 1) (omega arith) c.loop-position.invariant, λ _. refl)
