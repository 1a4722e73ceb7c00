use Rattle.std.proofs.Common.{◌∙◌, ap, refl}
use Rattle.std.specs.List.{insert}
use Rattle.mpc_online.specs.Positions.{joined}
use Rattle.mpc_online.specs.Answers.{position_of}
use Rattle.mpc_online.proofs.Moved.{same_position}
use Rattle.mpc_online.proofs.moves.row_joined.Goals as goal

pub returns : goal.returns
returns c =
    same_position _ (joined (position_of c.args.it)) refl c.with-it.ensures.value
    (c.in_ok-insert.ensures.items ∙ ap (λ k. insert c.args.it.multipliers.items k c.args.it.weight) c.place_of-place.ensures.value) refl refl
