use Rattle.std.proofs.Common.{◌≡◌, length, take, drop, sym, ◌∙◌, ap, subst, arith}
use Rattle.std.proofs.lemmas.List.{get_or_append_left, take_all}
use Rattle.mpc_block.specs.BlockReplies.{IsMoveOf}
use Rattle.mpc_block.proofs.replies.write_moves.Goals as goal

pub returns-in-1-clause-written : goal.returns-in-1-clause-written
returns-in-1-clause-written c = λ parts of_set law s width_is size from numbered start_is.
    let whole : length (take 1 c.args.moves.now) ≡ parts.plant.p = ap length (take_all 1 c.args.moves.now (omega (arith, c.in-1.is))) ∙ size in
    let one = c.write_all.ensures.written parts of_set law s width_is whole from numbered start_is in (
      one.0,
      λ input d lt.
          subst (IsMoveOf of_set c.args.counts.now input) (sym (get_or_append_left c.write_all.new.moves (drop 1 c.args.moves.now) d input (omega (arith, lt, whole, c.write_all.auto.moves)))) (one.1 input d lt),
    )
