use Rattle.std.proofs.Common.{◌+◌, sym, rules}
use Rattle.mpc_space.specs.Matrix.{entry}
use Rattle.mpc_region.proofs.matrices.part.Goals as goal

pub returns : goal.returns
returns c = rw (sym c.cols.ensures.value) (c.matrix_of.ensures (λ i j. entry c.args.solution.now (c.args.first + i) j) (λ i j h k x p. search rules))
