use Rattle.std.proofs.Common.{◌∙◌, ◌*◌, ap, replicate}
use Rattle.mpc_linear.specs.Grid.{grid}
use Rattle.mpc_linear.proofs.GridLemmas.{grid-zeros}
use Rattle.mpc_linear.proofs.matrices.Matrix.zero.Goals as goal

pub returns : goal.returns
returns c =
    ap (grid c.args.rows c.args.cols) (c.in-Ok.ensures.items_if_clones_equal (λ y h. h) ∙ ap (replicate (c.args.rows * c.args.cols)) c.whole.ensures)
    ∙ grid-zeros c.args.rows c.args.cols
