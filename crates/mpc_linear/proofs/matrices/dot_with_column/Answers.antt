use Rattle.std.proofs.Common.{◌≡◌, ◌∙◌, ◌+◌, ◌*◌, ◌<◌, get_or, length, sym, subst, pos, [], ◌∷◌}
use Rattle.std.proofs.lemmas.List.{get_or_read}
use Rattle.mpc_exact.specs.Rational.{int}
use Rattle.mpc_exact.proofs.RationalRing.{reads, by_ring}
use Rattle.mpc_space.specs.Vector.{dot, column}
use Rattle.mpc_linear.specs.Grid.{grid}
use Rattle.mpc_linear.proofs.GridLemmas.{place-below}
use Rattle.mpc_linear.specs.SumTheorems.{IsSumSoFar}
use Rattle.mpc_linear.proofs.DotLemmas.{goes_none, goes_more, goes_wide, goes_value, goes_fits}
use Rattle.mpc_linear.proofs.ProductLemmas.{column_entry, column_length}
use Rattle.mpc_linear.proofs.matrices.dot_with_column.Goals as goal
use Rattle.mpc_linear.proofs.matrices.dot_with_column.Goals.{After-index-entries-k}

pub loop-k-init : goal.loop-k-init
loop-k-init c = subst (λ s. IsSumSoFar (int (pos 0)) c.args.row.now (column (grid (length c.args.row.now) c.args.width c.args.entries.now).rows c.args.at_column) 0 s) (sym c.whole-sum.ensures) (goes_none _ _ _)

below : (c : After-index-entries-k) → c.loop-k.k < length (column (grid (length c.args.row.now) c.args.width c.args.entries.now).rows c.args.at_column)
below c = subst (λ n. c.loop-k.k < n) (sym (column_length (length c.args.row.now) c.args.width c.args.entries.now c.args.at_column)) c.loop-k-test.true

read : (c : After-index-entries-k) → c.index-entries-k.result ≡ get_or (column (grid (length c.args.row.now) c.args.width c.args.entries.now).rows c.args.at_column) c.loop-k.k c.index-entries-k.result
read c =
    get_or_read c.args.entries.now (c.loop-k.k * c.args.width + c.args.at_column) c.index-entries-k.result
    (subst (λ n. c.loop-k.k * c.args.width + c.args.at_column < n) (sym c.requires.size) (place-below (length c.args.row.now) c.args.width c.loop-k.k c.args.at_column c.loop-k-test.true c.requires.place))
    c.index-entries-k.is (int (pos 0))
    ∙ sym (column_entry (length c.args.row.now) c.args.width c.args.entries.now c.args.at_column c.loop-k.k c.index-entries-k.result c.loop-k-test.true c.requires.place)

pub loop-k-preserved : goal.loop-k-preserved
loop-k-preserved c =
    let d = (goal.at.loop-k-preserved c).After-index-entries-k in
    goes_more _ _ _ _ _ _ _ c.loop-k-test.true (below d) c.index-row-k.is (read d) c.loop-k.invariant _ c.in-Ok.ensures.value c.in-Ok.ensures.wide

pub returns-in-Err-clause-wide : goal.returns-in-Err-clause-wide
returns-in-Err-clause-wide c =
    let d = (goal.at.returns-in-Err-clause-wide c).After-index-entries-k in
    goes_wide _ _ _ _ _ _ _ c.loop-k-test.true (below d) c.index-row-k.is (read d) c.loop-k.invariant c.in-Err.ensures.wide

pub returns-clause-value : goal.returns-clause-value
returns-clause-value c =
    goes_value _ _ _ _ _ c.loop-k-test.false c.loop-k.invariant
    ∙ by_ring (dot c.args.row.now (column (grid (length c.args.row.now) c.args.width c.args.entries.now).rows c.args.at_column) ∷ []) (search reads depth 30) (search reads depth 30) tt

pub returns-clause-wide : goal.returns-clause-wide
returns-clause-wide c = goes_fits _ _ _ _ _ c.loop-k-test.false c.loop-k.invariant
