use Rattle.std.proofs.Common.{◌∙◌, ◌+◌, ◌*◌, ◌≤◌, ap, sym, subst, length, take, drop}
use Rattle.mpc_linear.proofs.GridLemmas.{row_is, row_fits}
use Rattle.mpc_linear.proofs.matrices.Matrix.row.Goals as goal

pub part-requires : goal.part-requires
part-requires c =
    subst (λ xs. c.args.at_row * c.self.inside.cols + c.self.inside.cols ≤ length xs) (sym c.deref.ensures.value)
    (row_fits _ _ _ _ c.self.view_is c.args.at_row c.self.invariant c.requires)

pub returns : goal.returns
returns c =
    c.part.ensures ∙ ap (λ xs. take c.self.inside.cols (drop (c.args.at_row * c.self.inside.cols) xs)) c.deref.ensures.value
    ∙ row_is _ _ _ _ c.self.view_is c.args.at_row c.requires
