use Rattle.std.proofs.Common.{◌≡◌, ◌++◌, ◌∷◌, [], sym, subst, rules, arith}
use Rattle.mpc_table.specs.SharedSteps.{AreStepsTo}
use Rattle.mpc_table.proofs.SharedLemmas.{shared_next, shared_none, shared_all}
use Rattle.mpc_table.proofs.steps.all_steps.Goals as goal

pub loop-k-init : goal.loop-k-init
loop-k-init c =
    let none : c.new-rows.result.items ≡ [] = search rules in
    let first : c.new-steps.result.items ≡ [] = search rules in
    subst (λ rows. AreStepsTo c.args.tree.now 0 rows c.new-places.result c.new-steps.result.items) (sym none)
    (subst (AreStepsTo c.args.tree.now 0 [] c.new-places.result) (sym first) (shared_none c.args.tree.now c.new-places.result c.new-places.ensures))

pub loop-k-preserved : goal.loop-k-preserved
loop-k-preserved c =
    let pushed : c.push.new.self.items ≡ c.loop-k.steps.items ++ c.in_ok-step.step ∷ [] = search rules in
    shared_next c.args.tree.now c.loop-k.k c.at.result.now _ _ _ _ _ _ c.in_ok-step.step c.at.ensures pushed c.loop-k.invariant c.in_ok-step.ensures.step

pub returns : goal.returns
returns c = shared_all c.args.tree.now c.loop-k.k c.loop-k.rows.items c.loop-k.places c.loop-k.steps.items c.loop-k.invariant (omega arith)
