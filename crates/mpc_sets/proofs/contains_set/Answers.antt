use Rattle.std.proofs.Common.{◌↔◌, IsTrue, Contains, sym, subst}
use Rattle.mpc_sets.proofs.Search.{found_by_search}
use Rattle.mpc_sets.proofs.contains_set.Goals as goal

pub returns : goal.returns
returns c = subst (λ b. IsTrue b ↔ Contains c.args.sets.now c.args.set) (sym c.is_ok.ensures.value) (found_by_search c.args.sets.now c.args.set c.binary_search.result c.requires c.binary_search.ensures.bound c.binary_search.ensures.position)
