use Rattle.std.proofs.Common.{sym, subst}
use Rattle.mpc_synthesis.specs.Controllers.{HasTree}
use Rattle.mpc_synthesis.specs.Refusals.{controller, ExplainsSynthesisError, wide_bound}
use Rattle.mpc_synthesis.proofs.ControllerLemmas.{shapes, sealed_of, wide_tree_of}
use Rattle.mpc_synthesis.proofs.parts.sealed.Goals as goal

pub returns-in-Err-clause-refused : goal.returns-in-Err-clause-refused
returns-in-Err-clause-refused c =
    let t = c.requires.table in
    subst (ExplainsSynthesisError controller c.args.plant) (sym c.without_tree.ensures) (wide_tree_of c.args.plant c.args.table.program c.args.table.laws c.in-Err.error t.verdicts t.is_table (rw c.in-Err.is at c.requires.wide))

pub seal-requires : goal.seal-requires
seal-requires c =
    let t = c.requires.table in
    shapes c.tree_shapes.ensures c.args.table.program c.args.plant c.args.table.laws c.in-Ok.tree t.verdicts.has_program t.is_table t.rows_fit (rw c.in-Ok.is at c.requires.certified)

pub returns-in-Ok-seal-clause-parts : goal.returns-in-Ok-seal-clause-parts
returns-in-Ok-seal-clause-parts c =
    let t = c.requires.table in
    let certified = rw c.in-Ok.is at c.requires.certified in
    let tree : HasTree c.args.plant c.args.table.program c.args.table.laws c.in-Ok.tree = record { verdicts = t.verdicts; table = t.is_table; certified = certified } in
    let have = shapes c.tree_shapes.ensures c.args.table.program c.args.plant c.args.table.laws c.in-Ok.tree t.verdicts.has_program t.is_table t.rows_fit certified in
    sealed_of c.args.plant c.args.table.program c.args.table.laws c.in-Ok.tree c.in-Ok-seal.controller tree have c.in-Ok-seal.ensures.bounds c.in-Ok-seal.ensures.ok

pub returns-in-Err-Wide-clause-refused : goal.returns-in-Err-Wide-clause-refused
returns-in-Err-Wide-clause-refused c =
    let t = c.requires.table in
    let tree : HasTree c.args.plant c.args.table.program c.args.table.laws c.in-Ok.tree = record { verdicts = t.verdicts; table = t.is_table; certified = rw c.in-Ok.is at c.requires.certified } in
    wide_bound controller c.args.table.program c.args.table.laws c.in-Ok.tree c.in-Err-Wide.place tt tree (rw c.in-Err-Wide.field-0-is at c.in-Err-Wide.ensures.refused)
