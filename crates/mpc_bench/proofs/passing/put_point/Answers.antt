use Rattle.std.proofs.Common.{◌≡◌, ◌<◌, ◌∙◌, sym, subst, length, get_or, arith}
use Rattle.std.proofs.lemmas.Option.{get_or_from_slice_get}
use Rattle.mpc_bench.specs.Sent.{no_pair, pair_of}
use Rattle.mpc_bench.proofs.Passed.{passed}
use Rattle.mpc_bench.proofs.passing.put_point.Goals as goal
use Rattle.mpc_bench.proofs.passing.put_point.Goals.{After-loop-j}

all : (c : After-loop-j) → c.loop-j.j ≡ length c.args.found.now
all c = let h = c.len-j-end.ensures in let a = c.loop-j.auto in let k = c.loop-j-test.false in omega arith

pub returns : goal.returns
returns c =
    passed pair_of c.loop-j.out c.args.found.now no_pair (pair_of no_pair)
    ((let q : length c.loop-j.out ≡ length c.args.out.now = c.loop-j.auto.out in q) ∙ sym c.requires)
    (λ k h. sym (get_or_from_slice_get c.args.found.now k (pair_of (get_or c.loop-j.out k no_pair)) (pair_of no_pair)
    (c.loop-j.invariant k (subst (λ n. k < n) (sym (all c)) h))))
