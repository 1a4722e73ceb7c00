use Rattle.std.proofs.Common.{arith}
use Rattle.mpc_linear.proofs.GridLemmas.{set_is, place_fits}
use Rattle.mpc_linear.proofs.matrices.Matrix.set.Goals as goal

pub index_mut-requires : goal.index_mut-requires
index_mut-requires c = omega (arith, c.self.inside.entries.ok.0, place_fits _ _ _ _ c.self.view_is c.args.row c.args.column c.self.invariant c.requires.row c.requires.column)

pub returns : goal.returns
returns c = set_is _ _ _ _ c.self.view_is c.args.row c.args.column c.args.value c.requires.row c.requires.column
