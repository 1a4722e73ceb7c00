use Rattle.std.proofs.Common.{◌≡◌, ℕ, ◌+◌, length, subst, sym, ◌∙◌, ap, arith, rules, IfOk}
use Rattle.mpc_exact.specs.Rational.{ℚ, frac}
use Rattle.mpc_space.specs.Matrix.{height, tabled}
use Rattle.mpc_sweep.specs.Numbers.{number}
use Rattle.mpc_sweep.specs.Sweeps.{swept}
use Rattle.mpc_region.specs.Shared.{shared_entry}
use Rattle.mpc_region.specs.Sweeps.{sweeps_of, rights, swept_law}
use Rattle.mpc_region.proofs.rows.table_moves.Goals as goal

pub returns : goal.returns
unfolding swept_law
returns c =
    let t = c.args.table.now in
    let qp = c.args.qp.now in
    let f : ℕ → ℕ → ℚ = λ i j. swept (shared_entry qp) (sweeps_of qp c.args.set) i (rights qp + j) in
    let columns : c.cols.result ≡ length qp.counts + 1 = c.cols.ensures.value ∙ qp.is_program.f_shape.columns_are in
    let first : c.rows-unknowns.result + c.rows.result ≡ rights qp = omega (arith, c.rows-unknowns.ensures.value, c.rows.ensures.value) in
    subst (λ n. IfOk c.matrix_of.result (λ m. m ≡ tabled (height qp.h) n f)) columns
    (subst (λ n. IfOk c.matrix_of.result (λ m. m ≡ tabled n c.cols.result f)) c.rows-unknowns.ensures.value
    (c.matrix_of.ensures f (λ i j h k x p.
    let read : x ≡ frac (number t i (c.rows-unknowns.result + c.rows.result + j)) t.den = search rules in
    read ∙ ap (λ n. frac (number t i (n + j)) t.den) first ∙ sym (c.requires.table.entries i (rights qp + j) (omega (arith, h, c.rows-unknowns.ensures.value)) (omega arith) (omega (arith, k, columns))))))
