use Rattle.std.proofs.Common.{◌≡◌, ◌∙◌, subst, arith, le_refl}
use Rattle.mpc_exact.specs.Rational.{◌*ℚ◌, inv_ℚ}
use Rattle.mpc_frac.specs.Fits.{FitsFrac}
use Rattle.mpc_linear.specs.Stored.{stored}
use Rattle.mpc_linear.proofs.Places.{read_there}
use Rattle.mpc_linear.proofs.Steps.{dividing_more}
use Rattle.mpc_linear.proofs.elimination.divide_pivot_row.Goals as goal

pub loop-later-preserved : goal.loop-later-preserved
loop-later-preserved c =
    let t = stored c.args.width c.args.table.now in
    let pivot : c.index-table-column.result ≡ t c.args.column c.args.column = read_there c.args.rows c.args.width c.args.table.now c.requires.size c.args.column c.args.column c.index-table-column.result c.requires.row c.requires.column c.index-table-column.result c.index-table-column.is in
    let entry : c.index-table-place.result ≡ t c.args.column c.loop-later.later =
    read_there c.args.rows c.args.width c.loop-later.table (c.loop-later.auto.table ∙ c.requires.size) c.args.column c.loop-later.later c.index-table-column.result c.requires.row c.loop-later-test.true c.index-table-place.result c.index-table-place.is
    ∙ c.loop-later.invariant.rest c.loop-later.later (le_refl c.loop-later.later) c.loop-later-test.true
    in
    dividing_more c.args.rows c.args.width c.args.column c.loop-later.later t c.loop-later.table (c.loop-later.auto.table ∙ c.requires.size) c.requires.row c.loop-later-test.true (let l = c.loop-later.auto.later in omega arith) c.loop-later.invariant c.in-Ok.quotient
    (c.in-Ok.ensures.value ∙ (λ i. entry i *ℚ inv_ℚ (pivot i)))
    (subst FitsFrac (λ i. entry i *ℚ inv_ℚ (pivot i)) c.in-Ok.ensures.wide)
