use Rattle.std.proofs.Common.{◌≡◌, ◌∙◌, ◌<◌, sym, subst, length, arith}
use Rattle.mpc_runs.proofs.Answered.{pair_found}
use Rattle.mpc_simplex.proofs.run.point.Goals as goal
use Rattle.mpc_simplex.proofs.run.point.Goals.{After-loop-unknown}

all : (c : After-loop-unknown) → c.loop-unknown.unknown ≡ c.args.system.now.width
all c = let a = c.loop-unknown.auto in let k = c.loop-unknown-test.false in let e = c.unknowns-unknown-end.ensures in omega arith

size : (c : After-loop-unknown) → length c.loop-unknown.values ≡ c.args.system.now.width
size c = (let q : length c.loop-unknown.values ≡ length c.args.values.now = c.loop-unknown.auto.values in q) ∙ c.requires.room

pub returns-clause-values : goal.returns-clause-values
returns-clause-values c = record {
  size = size c;
  at = λ i h. pair_found c.loop-unknown.values i _ (subst (λ m. i < m) (sym (size c)) h) (c.loop-unknown.invariant i (subst (λ m. i < m) (sym (all c)) h));
}
