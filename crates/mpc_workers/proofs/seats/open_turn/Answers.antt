use Rattle.std.proofs.Common.{◌∙◌, ap}
use Rattle.mpc_turn.specs.Known.{first_pass}
use Rattle.mpc_workers.specs.Posts.{post_with}
use Rattle.mpc_workers.proofs.seats.open_turn.Goals as goal

pub returns : goal.returns
returns c = record {
  turn = c.in_ok-turn.turn;
  first = c.post_of.result;
  turns = c.in-Ok.ensures.items;
  firsts = c.in-Ok-push.ensures.items;
  opening_is = c.post_of.ensures ∙ ap post_with (c.in_ok-turn.ensures ∙ ap (first_pass c.in_ok-turn.turn) c.in_ok-registry.ensures);
}
