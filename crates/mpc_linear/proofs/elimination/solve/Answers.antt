use Rattle.std.proofs.Common.{◌≡◌, ◌∙◌, ◌+◌, None, sym, ap, subst, length, drop, arith}
use Rattle.std.proofs.lemmas.List.{take_at}
use Rattle.std.proofs.lemmas.Result.{err_from_is_err_and}
use Rattle.mpc_space.specs.Matrix.{height}
use Rattle.mpc_linear.specs.Elimination.{augmented}
use Rattle.mpc_linear.specs.Solution.{IsOnlySolution, IsWideColumn}
use Rattle.mpc_linear.specs.Stored.{stored, SameFrom, EndsAt, ShowsSolution}
use Rattle.mpc_linear.proofs.Outcomes.{IfWide-weaker}
use Rattle.mpc_linear.proofs.Answered.{unique_answer, unique_fits, dependent_fits, dependent_answer, wide_answer}
use Rattle.mpc_linear.proofs.elimination.solve.Goals as goal
use Rattle.mpc_linear.proofs.elimination.solve.Goals.{After-eliminate}

table : (c : After-eliminate) → SameFrom (height c.args.matrix.now) (c.args.matrix.now.columns + c.args.rhs.now.columns) 0 (stored (c.args.matrix.now.columns + c.args.rhs.now.columns) c.deref_mut.result.now) (augmented c.args.matrix.now c.args.rhs.now)
table c = subst (λ xs. SameFrom (height c.args.matrix.now) (c.args.matrix.now.columns + c.args.rhs.now.columns) 0 (stored (c.args.matrix.now.columns + c.args.rhs.now.columns) xs) (augmented c.args.matrix.now c.args.rhs.now)) (sym c.deref_mut.ensures.value) c.in_ok-table.ensures.table

size : (c : After-eliminate) → c.rows-rows.result ≡ c.args.matrix.now.columns
size c = c.rows-rows.ensures.value ∙ c.requires.square

pub returns-in_err-dependent-clause-wide : goal.returns-in_err-dependent-clause-wide
returns-in_err-dependent-clause-wide c =
    let p = err_from_is_err_and c.from_residual-in_err-dependent.result c.from_residual-in_err-dependent.ensures.1 in
    let d = (goal.at.returns-in_err-dependent-clause-wide c).After-eliminate in
    rw (p.1, p.2) (IfWide-weaker _ _ (λ column. IsWideColumn c.args.matrix.now c.args.rhs.now column)
    (wide_answer c.args.matrix.now c.args.rhs.now c.rows-rows.ensures.rectangular c.cols-cols.ensures.rectangular c.requires.square c.requires.rows c.deref_mut.result.now (table d) c.rows-rows.result c.cols-cols.result (size d) c.cols-cols.ensures.value)
    c.in_err-dependent.ensures.wide)

pub returns-in_default-clause-answer : goal.returns-in_default-clause-answer
returns-in_default-clause-answer c =
    let d = (goal.at.returns-in_default-clause-answer c).After-eliminate in
    let W = c.rows-rows.result + c.cols-cols.result in
    let kept : length c.eliminate.new.table ≡ c.in_ok-table.table.len = omega (arith, c.eliminate.auto.table, ap length c.deref_mut.ensures.value, c.in_ok-table.table.ok.0) in
    let after : c.deref.result.now ≡ c.eliminate.new.table = c.deref.ensures.value ∙ take_at c.eliminate.new.table (drop (length c.eliminate.new.table) c.in_ok-table.table.items) c.in_ok-table.table.len kept in
    subst (λ x. IsOnlySolution c.args.matrix.now c.args.rhs.now x) (sym c.in_ok-x.ensures)
    (unique_answer c.args.matrix.now c.args.rhs.now c.rows-rows.ensures.rectangular c.cols-cols.ensures.rectangular c.requires.square c.requires.rows c.deref_mut.result.now (table d) c.rows-rows.result c.cols-cols.result (size d) c.cols-cols.ensures.value
    c.deref.result.now (subst (EndsAt c.rows-rows.result (c.rows-rows.result + c.cols-cols.result) (stored (c.rows-rows.result + c.cols-cols.result) c.deref_mut.result.now)) c.in_default.is c.in_ok-dependent.ensures.ok)
    (subst (λ ys. ShowsSolution c.rows-rows.result W (stored W c.deref_mut.result.now) (stored W ys) None) (sym after)
    (subst (λ o. ShowsSolution c.rows-rows.result W (stored W c.deref_mut.result.now) (stored W c.eliminate.new.table) o) c.in_default.is c.in_ok-dependent.ensures.solution)))

pub returns-in_default-clause-fits : goal.returns-in_default-clause-fits
returns-in_default-clause-fits c =
    let d = (goal.at.returns-in_default-clause-fits c).After-eliminate in
    unique_fits c.args.matrix.now c.args.rhs.now c.rows-rows.ensures.rectangular c.cols-cols.ensures.rectangular c.requires.square c.requires.rows c.deref_mut.result.now (table d) c.rows-rows.result c.cols-cols.result (size d) c.cols-cols.ensures.value
    (subst (EndsAt c.rows-rows.result (c.rows-rows.result + c.cols-cols.result) (stored (c.rows-rows.result + c.cols-cols.result) c.deref_mut.result.now)) c.in_default.is c.in_ok-dependent.ensures.ok)

pub returns-clause-answer : goal.returns-clause-answer
returns-clause-answer c =
    let d = (goal.at.returns-clause-answer c).After-eliminate in
    dependent_answer c.args.matrix.now c.args.rhs.now c.rows-rows.ensures.rectangular c.cols-cols.ensures.rectangular c.requires.square c.requires.rows c.deref_mut.result.now (table d) c.rows-rows.result c.cols-cols.result (size d) c.cols-cols.ensures.value
    c.in-Some.column (subst (EndsAt c.rows-rows.result (c.rows-rows.result + c.cols-cols.result) (stored (c.rows-rows.result + c.cols-cols.result) c.deref_mut.result.now)) c.in-Some.is c.in_ok-dependent.ensures.ok)

pub returns-clause-fits : goal.returns-clause-fits
returns-clause-fits c =
    let d = (goal.at.returns-clause-fits c).After-eliminate in
    dependent_fits c.args.matrix.now c.args.rhs.now c.rows-rows.ensures.rectangular c.cols-cols.ensures.rectangular c.requires.square c.requires.rows c.deref_mut.result.now (table d) c.rows-rows.result c.cols-cols.result (size d) c.cols-cols.ensures.value
    c.in-Some.column (subst (EndsAt c.rows-rows.result (c.rows-rows.result + c.cols-cols.result) (stored (c.rows-rows.result + c.cols-cols.result) c.deref_mut.result.now)) c.in-Some.is c.in_ok-dependent.ensures.ok)
