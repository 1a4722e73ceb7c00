use Rattle.std.proofs.Common.{◌+◌, length, ap, ◌∙◌}
use Rattle.std.proofs.lemmas.List.{length_push}
use Rattle.mpc_grammar.specs.PlantGrammar.{plain_rule, IsRow}
use Rattle.mpc_plant_lines.proofs.LimitLemmas.{none_so_far, one_further}
use Rattle.mpc_plant_lines.proofs.limit_lines.read_row_lines.Goals as goal

pub loop-init : goal.loop-init
loop-init c = record {
  so_far = none_so_far (plain_rule (IsRow c.args.name.now c.args.states c.args.inputs)) c.args.count c.args.lines.now c.new-rows.result c.new-rows.ensures;
  so_many = ap length c.new-rows.ensures;
}

pub loop-preserved : goal.loop-preserved
loop-preserved c = record {
  so_far = one_further (plain_rule (IsRow c.args.name.now c.args.states c.args.inputs)) c.args.count c.args.lines.now c.loop.lines c.read_row.new.lines c.loop.rows c.push.new.self c.in_ok-row.row c.loop.counter c.loop.invariant.so_far c.loop.invariant.so_many c.loop-test.true c.in_ok-row.ensures
      c.in_ok-push.ensures.ok;
  so_many = ap length c.in_ok-push.ensures.ok ∙ length_push c.loop.rows c.in_ok-row.row ∙ ap (λ n. n + 1) c.loop.invariant.so_many;
}
