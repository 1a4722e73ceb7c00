use Rattle.std.proofs.Common.{sym, ◌∙◌, not}
use Rattle.std.specs.Ordering.{is_eq}
use Rattle.mpc_exact.specs.Rational.{cmp_ℚ}
use Rattle.mpc_plant.specs.CheckedPlant.{differs}
use Rattle.mpc_plant.proofs.MatrixLemmas.{search_passes, search_finds}
use Rattle.mpc_plant.proofs.weights.difference_in_row.Goals as goal

pub returns-then-differ : goal.returns-then-differ
returns-then-differ c =
    sym (c.loop-column.invariant ∙ search_finds (differs c.args.matrix.now.rows c.args.row) c.loop-column.column c.args.size c.loop-column-test.true ((λ k. not (is_eq (cmp_ℚ (sym c.get.ensures k) (sym c.get-in-loop-column.ensures k)))) ∙ sym c.differ.ensures ∙ c.if-differ.true))

pub loop-column-preserved : goal.loop-column-preserved
loop-column-preserved c =
    c.loop-column.invariant ∙ search_passes (differs c.args.matrix.now.rows c.args.row) c.loop-column.column c.args.size c.loop-column-test.true ((λ k. not (is_eq (cmp_ℚ (sym c.get.ensures k) (sym c.get-in-loop-column.ensures k)))) ∙ sym c.differ.ensures ∙ c.if-differ.false)
