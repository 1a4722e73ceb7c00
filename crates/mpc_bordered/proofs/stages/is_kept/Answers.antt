use Rattle.std.proofs.Common.{◌<◌, sym, subst, arith, ⊎_elim}
use Rattle.std.proofs.lemmas.Bool.{cases_eq}
use Rattle.mpc_space.specs.Matrix.{entry}
use Rattle.mpc_bordered.specs.Fronts.{front, EntryFits}
use Rattle.mpc_bordered.proofs.Combined.{column_forms}
use Rattle.mpc_bordered.proofs.stages.is_kept.Goals as goal

pub loop-row-preserved : goal.loop-row-preserved
loop-row-preserved c k i l m = ⊎_elim
    (λ e. subst (λ i. EntryFits k (front (entry c.args.kept.now.table) k) i c.args.pivot_column) (sym e) (column_forms (entry c.args.kept.now.table) c.args.kept.now.front c.args.pivot_column c.loop-row.row c.in-Some._number c.requires c.in-Some.ensures k l))
    (λ e. c.loop-row.invariant k i l (omega arith))
    (cases_eq i c.loop-row.row)

pub returns : goal.returns
returns c t k i l m = c.loop-row.invariant k i l (omega (arith, m, c.loop-row-test.false))
