use Rattle.std.proofs.Common.{length, map}
use Rattle.mpc_bench.specs.Parts.{value_of}
use Rattle.mpc_bench.proofs.Replied.{counts_size, inputs_size, answered}
use Rattle.mpc_bench.proofs.runs.reply_of.Goals as goal

pub replies-requires-clause-counts : goal.replies-requires-clause-counts
replies-requires-clause-counts c =
    counts_size c.args.plant c.in-Ok.controller c.in-Ok-of.table (length c.args.counts.now) c.in-Ok.ensures.controller.1.is_sealed.plant_is c.in-Ok-of.ensures c.requires.counts

pub replies-requires-clause-room : goal.replies-requires-clause-room
replies-requires-clause-room c =
    inputs_size c.args.plant c.in-Ok.controller c.in-Ok-of.table (length c.args.moves.now) c.in-Ok.ensures.controller.1.is_sealed.plant_is c.in-Ok-of.ensures c.requires.room

pub returns-clause-answered : goal.returns-clause-answered
returns-clause-answered c =
    let is = c.in-Ok.ensures.controller in
    answered c.right_controller.ensures.right c.grid_points.ensures c.args.plant is.0 c.in-Ok.controller c.args.counts.now is.1 c.requires.counts c.in-Ok-of.table _ (map value_of c.replies.new.moves) c.replies.result c.in-Ok-of.ensures c.in-Ok.ensures.sizes c.replies.ensures
