use Rattle.std.proofs.Common.{refl, [], ◌∷◌, arith, ap, length, length-append}
use Rattle.mpc_beginnings.proofs.Pushed.{pushed_below}
use Rattle.mpc_beginnings.proofs.lists.put_unknowns.Goals as goal

pub loop-variable-preserved : goal.loop-variable-preserved
loop-variable-preserved c = record {
  each = let e = ap length c.in_ok-push.ensures.items in let h = c.loop-variable.invariant.each in omega (arith, e, length-append c.loop-variable.nonbasic.items (c.loop-variable.variable ∷ []));
  at = pushed_below (λ x. x) c.loop-variable.nonbasic.items c.loop-variable.variable 0 c.loop-variable.variable c.loop-variable.invariant.each c.loop-variable.invariant.at refl c.push.new.self.items c.in_ok-push.ensures.items;
}
