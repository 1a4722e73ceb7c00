use Rattle.mpc_online.proofs.EvenRows.{AreMade, IsProduct}
use Rattle.mpc_online.proofs.evens.even_products.Given as goal

abbrev pub invariant-loop-index : goal.invariant-loop-index
invariant-loop-index l = AreMade (IsProduct l.matrix l.den l.counts l.count) l.numerators.items l.index
