use Rattle.std.proofs.Common.{◌∙◌, pos, arith}
use Rattle.std.proofs.lemmas.List.{get_or_read}
use Rattle.mpc_exact.specs.Rational.{int}
use Rattle.mpc_linear.proofs.GridLemmas.{entry_is, place_fits}
use Rattle.mpc_linear.proofs.matrices.Matrix.get.Goals as goal

pub index-requires : goal.index-requires
index-requires c = omega (arith, c.self.inside.entries.ok.0, place_fits _ _ _ _ c.self.view_is c.args.row c.args.column c.self.invariant c.requires.row c.requires.column)

pub returns : goal.returns
returns c =
    get_or_read c.self.inside.entries.items _ _ (place_fits _ _ _ _ c.self.view_is c.args.row c.args.column c.self.invariant c.requires.row c.requires.column) c.index.ensures (int (pos 0))
    ∙ entry_is _ _ _ _ c.self.view_is c.args.row c.args.column c.requires.row c.requires.column
