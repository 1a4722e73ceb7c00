use Rattle.std.proofs.Common.{⊎_elim, inl, inr, arith, ◌∙◌, nat_cmp, mul_comm, ◌%◌}
use Rattle.mpc_frac.proofs.FracCmp.{by_whole, by_rest, rests}
use Rattle.mpc_frac.proofs.compare.Goals as goal

pub returns-then-left_whole-right_whole : goal.returns-then-left_whole-right_whole
returns-then-left_whole-right_whole c =
    c.cmp.ensures ∙ by_whole c.turns.left_num c.turns.left_den c.turns.right_num c.turns.right_den c.turns.invariant.b_some c.turns.invariant.d_some c.if-left_whole-right_whole.true ∙ c.turns.invariant.same

pub returns-then-left_rest-eq0 : goal.returns-then-left_rest-eq0
returns-then-left_rest-eq0 c =
    c.cmp-then-left_rest-eq0.ensures ∙ rests (c.turns.left_num % c.turns.left_den) (c.turns.right_num % c.turns.right_den) c.turns.left_den c.turns.right_den c.turns.invariant.b_some c.turns.invariant.d_some (⊎_elim inl (λ w. inr w.1) c.then-left_rest-eq0.either)
    ∙ by_rest c.turns.left_num c.turns.left_den c.turns.right_num c.turns.right_den c.if-left_whole-right_whole.false ∙ c.turns.invariant.same

pub turns-preserved : goal.turns-preserved
turns-preserved c = record {
  b_some = omega arith;
  d_some = omega arith;
  same = (λ i. nat_cmp (mul_comm c.turns.right_den (c.turns.left_num % c.turns.left_den) i) (mul_comm c.turns.left_den (c.turns.right_num % c.turns.right_den) i)) ∙ by_rest c.turns.left_num c.turns.left_den c.turns.right_num c.turns.right_den c.if-left_whole-right_whole.false ∙ c.turns.invariant.same;
}
