use Rattle.std.proofs.Common.{◌≡◌, ℕ, ◌+◌, ◌-◌, length, get_or, subst, ◌∙◌, rules, IfOk}
use Rattle.mpc_exact.specs.Rational.{ℚ}
use Rattle.mpc_space.specs.Matrix.{height, tabled}
use Rattle.mpc_sweep.specs.Sweeps.{swept}
use Rattle.mpc_region.specs.Shared.{shared_entry}
use Rattle.mpc_region.specs.Sweeps.{sweeps_of, rights, swept_law}
use Rattle.mpc_region.proofs.rows.table_mults.Goals as goal

pub returns : goal.returns
unfolding swept_law
returns c =
    let qp = c.args.qp.now in
    let s = c.args.set in
    let f : ℕ → ℕ → ℚ = λ k j. swept (shared_entry qp) (sweeps_of qp s) (height qp.h + (get_or s k 0 - 1)) (rights qp + j) in
    let columns : c.cols.result ≡ length qp.counts + 1 = c.cols.ensures.value ∙ qp.is_program.f_shape.columns_are in
    subst (λ n. IfOk c.matrix_of.result (λ m. m ≡ tabled (length s) n f)) columns
    (subst (λ n. IfOk c.matrix_of.result (λ m. m ≡ tabled n c.cols.result f)) c.size.ensures.value (c.matrix_of.ensures f (λ i j h k x p. search rules)))
