use Rattle.std.proofs.Common.{◌+◌, ◌∙◌, ap, arith}
use Rattle.mpc_turn.specs.Known.{Known}
use Rattle.mpc_workers.specs.declared.seats.Post.{Post}
use Rattle.mpc_workers.proofs.Hands.{split_off}
use Rattle.mpc_workers.proofs.seats.split_post.Goals as goal

pub split_pass-requires-clause-turn : goal.split_pass-requires-clause-turn
split_pass-requires-clause-turn c = ap (λ (p : Post). p.pass.turn) c.requires.first

pub split_pass-requires-clause-first : goal.split_pass-requires-clause-first
split_pass-requires-clause-first c = ap (λ (p : Post). p.pass.first) c.requires.first

pub split_pass-requires-clause-room : goal.split_pass-requires-clause-room
split_pass-requires-clause-room c = let lent = ap (λ (p : Post). p.pass.lent) c.requires.first in omega (arith, lent, c.requires.few)

pub returns-clause-first : goal.returns-clause-first
returns-clause-first c =
    ap (λ (k : Known). record c.args.first.now { pass = k }) c.split_pass.ensures.kept ∙ ap (λ (p : Post). record p { pass = record p.pass { lent = p.pass.lent + 1 } }) c.requires.first

pub returns-clause-post : goal.returns-clause-post
returns-clause-post c =
    split_off c.args.turn.now c.args._qp.now c.args.before (c.args.before + 1) c.args.first.now.pass c.split_pass.result c.post_of.result (ap (λ (p : Post). p.pass) c.requires.first) c.split_pass.ensures.given c.post_of.ensures
