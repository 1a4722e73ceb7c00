use Rattle.std.proofs.Common.{◌+◌, ℕ, IfSome, length, subst}
use Rattle.mpc_space.specs.Matrix.{RationalMatrix, entry}
use Rattle.mpc_linear.specs.Solution.{IsWideColumn}
use Rattle.mpc_bordered.specs.Parts.{part, IsPart, PicksTable}
use Rattle.mpc_bordered.proofs.Solving.{answers, fits, wide}
use Rattle.mpc_bordered.proofs.Outcomes.{IfWide-weaker}
use Rattle.mpc_bordered.proofs.solutions.solve_part.Goals as goal
use Rattle.mpc_bordered.proofs.solutions.solve_part.Goals.{After-solve}

module _ (c : After-solve) where
  abbrev u : ℕ
  u = c.args.kept.now.front

  abbrev n : ℕ
  n = u + length c.args.rows.now

  left : PicksTable (part (entry c.args.kept.now.table) u c.args.rows.now c.args.rights.now) u 0 n n c.in-Some.matrix
  left = subst (λ o. IfSome o (PicksTable (part (entry c.args.kept.now.table) u c.args.rows.now c.args.rights.now) u 0 n n)) c.in-Some.is c.in_ok-matrix.ensures

  right : PicksTable (part (entry c.args.kept.now.table) u c.args.rows.now c.args.rights.now) u n n (length c.args.rights.now) c.in-Some-2.rhs
  right = subst (λ o. IfSome o (PicksTable (part (entry c.args.kept.now.table) u c.args.rows.now c.args.rights.now) u n n (length c.args.rights.now))) c.in-Some-2.is c.in_ok-rhs.ensures

pub returns-in-Ok-clause-answer : goal.returns-in-Ok-clause-answer
returns-in-Ok-clause-answer c m rhs is =
    let d = (goal.at.returns-in-Ok-clause-answer c).After-solve in
    let k = c.args.kept.now in
    answers k.table k.front c.args.rows.now c.args.rights.now c.requires.places k.kept.rows_enough k.kept.columns_enough k.kept.pivots c.in-Some.matrix c.in-Some-2.rhs (left d) (right d) m rhs is c.in-Ok.solved c.in-Ok.ensures.answer

pub returns-in-Ok-clause-fits : goal.returns-in-Ok-clause-fits
returns-in-Ok-clause-fits c m rhs is =
    let d = (goal.at.returns-in-Ok-clause-fits c).After-solve in
    let k = c.args.kept.now in
    fits k.table k.front c.args.rows.now c.args.rights.now c.requires.places k.kept.rows_enough k.kept.columns_enough k.kept.pivots c.in-Some.matrix c.in-Some-2.rhs (left d) (right d) m rhs is c.in-Ok.solved c.in-Ok.ensures.fits

pub returns-clause-wide : goal.returns-clause-wide
returns-clause-wide c =
    let d = (goal.at.returns-clause-wide c).After-solve in
    let k = c.args.kept.now in
    IfWide-weaker _ _ (λ column. (m rhs : RationalMatrix) → IsPart k.table k.front c.args.rows.now c.args.rights.now m rhs → IsWideColumn m rhs column)
    (λ column h m rhs is. wide k.table k.front c.args.rows.now c.args.rights.now c.requires.places k.kept.rows_enough k.kept.columns_enough k.kept.pivots c.in-Some.matrix c.in-Some-2.rhs (left d) (right d) m rhs is column h)
    c.in-Err.ensures.wide
