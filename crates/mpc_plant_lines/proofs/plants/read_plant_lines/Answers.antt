use Rattle.std.proofs.Common.{refl}
use Rattle.std.proofs.lemmas.Result.{err_from_is_err_and}
use Rattle.mpc_plant_lines.proofs.PlantShapes.{weights_fail, offsets_fail, limits_fail, plant_is, plant_reads}
use Rattle.mpc_plant_lines.proofs.plants.read_plant_lines.Goals as goal

pub returns-in_err-weights : goal.returns-in_err-weights
returns-in_err-weights c =
    let same = err_from_is_err_and c.from_residual-in_err-weights.result c.from_residual-in_err-weights.ensures.1 in
    rw (same.1, same.2)
    (weights_fail c.args.version c.in_ok-sizes.sizes c.args.lines.now c.read_sizes.new.lines c.read_dynamics.new.lines c.in_ok-dynamics.dynamics c.in_ok-sizes.ensures c.in_ok-dynamics.ensures c.read_weights.new.lines c.read_weights.new.lines c.in_err-weights.field-0.0
    c.in_err-weights.ensures)

pub returns-in_err-offsets : goal.returns-in_err-offsets
returns-in_err-offsets c =
    let same = err_from_is_err_and c.from_residual-in_err-offsets.result c.from_residual-in_err-offsets.ensures.1 in
    rw (same.1, same.2)
    (offsets_fail c.args.version c.in_ok-sizes.sizes c.args.lines.now c.read_sizes.new.lines c.read_dynamics.new.lines c.in_ok-dynamics.dynamics c.in_ok-sizes.ensures c.in_ok-dynamics.ensures c.read_weights.new.lines c.in_ok-weights.weights c.in_ok-weights.ensures
    c.read_offsets.new.lines c.read_offsets.new.lines c.in_err-offsets.field-0.0 c.in_err-offsets.ensures)

pub returns-in_err-limits : goal.returns-in_err-limits
returns-in_err-limits c =
    let same = err_from_is_err_and c.from_residual-in_err-limits.result c.from_residual-in_err-limits.ensures.1 in
    rw (same.1, same.2)
    (limits_fail c.args.version c.in_ok-sizes.sizes c.args.lines.now c.read_sizes.new.lines c.read_dynamics.new.lines c.in_ok-dynamics.dynamics c.in_ok-sizes.ensures c.in_ok-dynamics.ensures c.read_weights.new.lines c.in_ok-weights.weights c.in_ok-weights.ensures
    c.read_offsets.new.lines c.read_limits.new.lines c.read_limits.new.lines c.in_ok-offsets.offsets c.in_err-limits.field-0.0 c.in_ok-offsets.ensures c.in_err-limits.ensures)

pub invariant_of-result : goal.invariant_of-result
invariant_of-result c = record {
  is_plant = plant_is c.args.version c.in_ok-sizes.sizes c.in_ok-dynamics.dynamics c.in_ok-weights.weights c.in_ok-offsets.offsets c.in_ok-limits.limits c.args.lines.now c.read_sizes.new.lines c.read_dynamics.new.lines c.read_weights.new.lines c.read_offsets.new.lines
      c.read_limits.new.lines c.in_ok-sizes.ensures c.in_ok-dynamics.ensures c.in_ok-weights.ensures c.in_ok-offsets.ensures c.in_ok-limits.ensures;
}

pub returns : goal.returns
returns c =
    plant_reads c.args.version c.in_ok-sizes.sizes c.args.lines.now c.read_sizes.new.lines c.read_dynamics.new.lines c.in_ok-dynamics.dynamics c.in_ok-sizes.ensures c.in_ok-dynamics.ensures c.read_weights.new.lines c.in_ok-weights.weights c.in_ok-weights.ensures
    c.read_offsets.new.lines c.read_limits.new.lines c.in_ok-offsets.offsets c.in_ok-limits.limits _ c.in_ok-offsets.ensures c.in_ok-limits.ensures
    (record { n = refl; p = refl; horizon = refl; a = refl; b = refl; q = refl; r = refl; last = refl; drift = refl; xgoal = refl; ugoal = refl; rows = refl; terminal = refl; grid = refl })
