use Rattle.std.proofs.Common.{◌≤◌, length, pos, ◌∙◌, arith}
use Rattle.mpc_exact.specs.Rational.{int}
use Rattle.mpc_space.specs.Vector.{column, dot}
use Rattle.mpc_space.proofs.Matrix.{length-column}
use Rattle.mpc_recur.proofs.RowLemmas.{entry_read, form_entry}
use Rattle.mpc_recur.proofs.SumLemmas.{sum_begins, sum_more, sum_wide, sum_value, sum_fits, from_zero}
use Rattle.mpc_recur.proofs.rows.dot_with_forms.Goals as goal

pub loop-k-init : goal.loop-k-init
loop-k-init c =
    let room : length c.args.coefficients.now ≤ length (column c.args.forms.now c.args.term) = omega (arith, length-column c.args.forms.now c.args.term, c.requires.sizes) in
    sum_begins c.sum_theorems.ensures (int (pos 0)) c.args.coefficients.now (column c.args.forms.now c.args.term) (length c.args.coefficients.now) (λ _. length c.args.coefficients.now) room _ c.whole-sum.ensures

pub loop-k-preserved : goal.loop-k-preserved
loop-k-preserved c =
    let room : length c.args.coefficients.now ≤ length (column c.args.forms.now c.args.term) = omega (arith, length-column c.args.forms.now c.args.term, c.requires.sizes) in
    sum_more c.sum_theorems.ensures (int (pos 0)) c.args.coefficients.now (column c.args.forms.now c.args.term) (length c.args.coefficients.now) (λ _. length c.args.coefficients.now) room
    c.loop-k.k c.loop-k.sum _ _ c.loop-k-test.true (entry_read c.args.coefficients.now c.loop-k.k _ c.loop-k-test.true c.index-coefficients-k.is)
    (form_entry c.args.forms.now c.loop-k.k c.args.term _ _ (omega (arith, c.loop-k-test.true, c.requires.sizes)) c.index-forms-k.is c.at.ensures) c.loop-k.invariant _ c.in-Ok.ensures.value c.in-Ok.ensures.wide

pub returns-in-Err-clause-wide : goal.returns-in-Err-clause-wide
returns-in-Err-clause-wide c =
    let room : length c.args.coefficients.now ≤ length (column c.args.forms.now c.args.term) = omega (arith, length-column c.args.forms.now c.args.term, c.requires.sizes) in
    sum_wide c.sum_theorems.ensures (int (pos 0)) c.args.coefficients.now (column c.args.forms.now c.args.term) (length c.args.coefficients.now) (λ _. length c.args.coefficients.now) room
    c.loop-k.k c.loop-k.sum _ _ c.loop-k-test.true (entry_read c.args.coefficients.now c.loop-k.k _ c.loop-k-test.true c.index-coefficients-k.is)
    (form_entry c.args.forms.now c.loop-k.k c.args.term _ _ (omega (arith, c.loop-k-test.true, c.requires.sizes)) c.index-forms-k.is c.at.ensures) c.loop-k.invariant c.in-Err.ensures.wide

pub returns-clause-value : goal.returns-clause-value
returns-clause-value c =
    let room : length c.args.coefficients.now ≤ length (column c.args.forms.now c.args.term) = omega (arith, length-column c.args.forms.now c.args.term, c.requires.sizes) in
    sum_value c.sum_theorems.ensures (int (pos 0)) c.args.coefficients.now (column c.args.forms.now c.args.term) (length c.args.coefficients.now) (λ _. length c.args.coefficients.now) room c.loop-k.k c.loop-k.sum c.loop-k-test.false c.loop-k.invariant
    ∙ from_zero (dot c.args.coefficients.now (column c.args.forms.now c.args.term))

pub returns-clause-wide : goal.returns-clause-wide
returns-clause-wide c =
    let room : length c.args.coefficients.now ≤ length (column c.args.forms.now c.args.term) = omega (arith, length-column c.args.forms.now c.args.term, c.requires.sizes) in
    sum_fits c.sum_theorems.ensures (int (pos 0)) c.args.coefficients.now (column c.args.forms.now c.args.term) (length c.args.coefficients.now) (λ _. length c.args.coefficients.now) room c.loop-k.k c.loop-k.sum c.loop-k-test.false c.loop-k.invariant
