use Rattle.std.proofs.Common.{◌≡◌, ◌∙◌, ◌<◌, sym, subst, length, arith}
use Rattle.mpc_simplex.proofs.run.multipliers.Goals as goal
use Rattle.mpc_simplex.proofs.run.multipliers.Goals.{After-loop-row}

all : (c : After-loop-row) → c.loop-row.row ≡ length c.args.system.now.rows
all c = let h = c.height-row-end.ensures in let a = c.loop-row.auto in let k = c.loop-row-test.false in omega arith

pub returns : goal.returns
returns c = record {
  size = (let q : length c.loop-row.list ≡ length c.args.list.now = c.loop-row.auto.list in q) ∙ c.requires.room;
  at = λ i h. c.loop-row.invariant i (subst (λ m. i < m) (sym (all c)) h);
}
