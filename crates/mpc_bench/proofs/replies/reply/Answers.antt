use Rattle.std.proofs.Common.{map}
use Rattle.mpc_bench.specs.Parts.{value_of}
use Rattle.mpc_bench.proofs.Replied.{moved, stood}
use Rattle.mpc_bench.proofs.replies.reply.Goals as goal

pub returns-in-Move : goal.returns-in-Move
returns-in-Move c = λ parts h. moved parts c.args.counts.now c.in-Move.node c.in-Move.law (map value_of c.put_moves.new.moves) (c.in-Move.ensures.reply parts h.table_of) (c.put_moves.ensures parts h)

pub returns-in-Infeasible : goal.returns-in-Infeasible
returns-in-Infeasible c = λ parts h. stood parts c.args.counts.now c.in-Infeasible.node (map value_of c.args.moves.now) (c.in-Infeasible.ensures.reply parts h.table_of)
