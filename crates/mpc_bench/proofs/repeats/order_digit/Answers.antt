use Rattle.std.proofs.Common.{◌∙◌, ap, to_z, of_z}
use Rattle.std.specs.Int.{w32, w128}
use Rattle.mpc_bench.specs.Orders.{code_of}
use Rattle.mpc_bench.specs.Digests.{low_of}
use Rattle.mpc_bench.proofs.DigestLemmas.{code_read, order_found}
use Rattle.mpc_bench.proofs.repeats.order_digit.Goals as goal

pub returns : goal.returns
returns c = order_found c.args.left.now c.args.right.now c.low.result
    (c.low.ensures ∙ ap (λ z. low_of (to_z w128 (of_z w128 (to_z w32 (of_z w32 z))))) c.order_code.ensures ∙ ap low_of (code_read c.cmp.result)
    ∙ ap (λ o. low_of (code_of o)) c.cmp.ensures)
