use Rattle.std.proofs.Common.{sym, subst}
use Rattle.mpc_writing.specs.PlaneNames.{IsNodeNumbered}
use Rattle.mpc_writing.specs.Names.{AreNames}
use Rattle.mpc_writing.proofs.PlaneLemmas.{leaf_numbered, bare_numbered, both_ok}
use Rattle.mpc_writing.proofs.tree_lines.write_node.Goals as goal

pub returns-in-Law-clause-numbered : goal.returns-in-Law-clause-numbered
returns-in-Law-clause-numbered c =
    both_ok c.write_leaf.result
    (λ text fits. λ plant planes good are. subst (λ n. IsNodeNumbered plant planes n c.args.out.now.items c.write_leaf.new.out.items (AreNames c.args.names.now)) (sym c.in-Law.is)
    (leaf_numbered plant planes c.in-Law.law c.in-Law.certs c.args.out.now.items c.write_leaf.new.out.items (AreNames c.args.names.now) are text fits))
    c.write_leaf.ensures.text c.write_leaf.ensures.fits

pub returns-in-NoMove-clause-numbered : goal.returns-in-NoMove-clause-numbered
returns-in-NoMove-clause-numbered c =
    both_ok c.write_bare_leaf.result
    (λ text fits. λ plant planes good are. subst (λ n. IsNodeNumbered plant planes n c.args.out.now.items c.write_bare_leaf.new.out.items (AreNames c.args.names.now)) (sym c.in-NoMove.is)
    (bare_numbered plant planes c.in-NoMove.cert c.args.out.now.items c.write_bare_leaf.new.out.items (AreNames c.args.names.now) are text fits))
    c.write_bare_leaf.ensures.text c.write_bare_leaf.ensures.fits
