use Rattle.std.proofs.Common.{sym, subst, arith, All}
use Rattle.mpc_check.specs.LeafSystems.{NamesLaw}
use Rattle.mpc_check.proofs.borders.named_laws.Goals as goal

pub index_mut-requires : goal.index_mut-requires
index_mut-requires c =
    let all : All (NamesLaw c.args.count) c.as_slice-node-items.result.now = subst (All (NamesLaw c.args.count)) (sym c.as_slice-node-items.ensures) c.requires in
    let here : NamesLaw c.args.count c.node-item.result = subst (NamesLaw c.args.count) (sym c.node-item.is) (all c.loop-node.node-index c.node-item.result c.loop-node-test.true) in
    let law = subst (NamesLaw c.args.count) c.in-Law.is here in
    omega (arith, law, c.loop-node.invariant)
