use Rattle.std.proofs.Common.{◌≡◌, ◌<◌, ◌∙◌, sym, subst, length, arith, pos}
use Rattle.mpc_exact.specs.Rational.{int}
use Rattle.mpc_bench.specs.Parts.{value_of}
use Rattle.mpc_bench.specs.Sent.{no_parts}
use Rattle.mpc_bench.proofs.Passed.{passed}
use Rattle.mpc_bench.proofs.passing.put_multipliers.Goals as goal
use Rattle.mpc_bench.proofs.passing.put_multipliers.Goals.{After-loop-i}

all : (c : After-loop-i) → c.loop-i.i ≡ length c.args.found.now
all c = let h = c.len-i-end.ensures in let a = c.loop-i.auto in let k = c.loop-i-test.false in omega arith

pub returns : goal.returns
returns c =
    passed value_of c.loop-i.out c.args.found.now no_parts (int (pos 0))
    ((let q : length c.loop-i.out ≡ length c.args.out.now = c.loop-i.auto.out in q) ∙ sym c.requires)
    (λ k h. c.loop-i.invariant k (subst (λ n. k < n) (sym (all c)) h))
