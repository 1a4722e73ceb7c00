-- The end of an elimination answers for the system.
use Rattle.mpc_space.specs.Matrix.{RationalMatrix}
use Rattle.mpc_linear.specs.Solution.{IsAnswer, FitsTo}
use Rattle.mpc_linear.specs.declared.elimination.Solved.{Solved}
use Rattle.mpc_linear.specs.declared.elimination.Solved.TheVariants.{Unique, Dependent}
use Rattle.mpc_linear.specs.EliminationTheorems.{IsSquareSystem, IfReadOff, EliminationAnswers}
use Rattle.mpc_linear.proofs.Theorem.{unique, dependent, not_only}

answers : (m rhs : RationalMatrix) (s : Solved) → IsSquareSystem m rhs → FitsTo m rhs s → IfReadOff m rhs s → IsAnswer m rhs s
answers m rhs (Unique x) q f r = unique m rhs q.rectangular q.right_rectangular q.square q.rows f x r.shape r.entries
answers m rhs (Dependent column) q f r =
    let d = dependent m rhs q.rectangular q.right_rectangular q.square q.rows f.0 f.2 in
    (f.0, f.1, d, λ some x. not_only m rhs q.rectangular q.right_rectangular q.square q.rows f.0 d some x)

pub elimination_answers : EliminationAnswers
elimination_answers = answers
