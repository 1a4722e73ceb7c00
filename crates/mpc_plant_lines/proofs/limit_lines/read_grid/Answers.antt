use Rattle.std.proofs.Common.{◌+◌, length, ap, ◌∙◌}
use Rattle.std.proofs.lemmas.List.{length_push}
use Rattle.mpc_grammar.specs.PlantGrammar.{plain_rule, IsAxis}
use Rattle.mpc_plant_lines.proofs.LimitLemmas.{none_so_far, one_further}
use Rattle.mpc_plant_lines.proofs.limit_lines.read_grid.Goals as goal

pub loop-init : goal.loop-init
loop-init c = record {
  so_far = none_so_far (plain_rule IsAxis) c.args.sizes.now.states c.args.lines.now c.new-axes.result c.new-axes.ensures;
  so_many = ap length c.new-axes.ensures;
}

pub loop-preserved : goal.loop-preserved
loop-preserved c = record {
  so_far = one_further (plain_rule IsAxis) c.args.sizes.now.states c.args.lines.now c.loop.lines c.read_axis.new.lines c.loop.axes c.push.new.self c.in_ok-axis.axis c.loop.counter c.loop.invariant.so_far c.loop.invariant.so_many c.loop-test.true c.in_ok-axis.ensures
      c.in_ok-push.ensures.ok;
  so_many = ap length c.in_ok-push.ensures.ok ∙ length_push c.loop.axes c.in_ok-axis.axis ∙ ap (λ n. n + 1) c.loop.invariant.so_many;
}
