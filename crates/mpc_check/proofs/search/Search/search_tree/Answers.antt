use Rattle.std.proofs.Common.{◌≤◌, length, sym, subst, arith}
use Rattle.mpc_check.specs.Findings.{IsSearched}
use Rattle.mpc_check.specs.LeafConditions.{NodeAtMet, NodeAtFinds, StretchMet, StretchFinds}
use Rattle.mpc_check.proofs.StretchLemmas.{whole_searched}
use Rattle.mpc_check.proofs.search.Search.search_tree.Goals as goal

pub search_stretch-requires-clause-stretch : goal.search_stretch-requires-clause-stretch
search_stretch-requires-clause-stretch g c = record { in_order = omega arith; inside = subst (λ n. n ≤ length c.args.tree.now) (sym c.len.ensures) (omega arith) }

pub returns : goal.returns
returns g c =
    let qp = c.args.qp.now in
    let laws = c.args.laws.now in
    let nodes = c.args.tree.now in
    whole_searched (NodeAtMet qp laws nodes) (NodeAtFinds qp laws nodes) (length nodes) c.search_stretch.result
    (subst (λ to. IsSearched (StretchMet qp laws nodes 0 to) (StretchFinds qp laws nodes 0 to) c.search_stretch.result) c.len.ensures c.search_stretch.ensures)
