use Rattle.std.proofs.Common.{◌≡◌, ◌+◌, ◌-◌, get_or, ◌∙◌, ap, refl, arith}
use Rattle.mpc_sets.specs.RowSet.{without_row}
use Rattle.mpc_online.specs.Positions.{without_place}
use Rattle.mpc_online.specs.Answers.{position_of}
use Rattle.mpc_online.proofs.Moved.{same_position}
use Rattle.mpc_online.proofs.moves.dropped.Goals as goal

pub returns : goal.returns
returns c =
    let place : c.args.place + 1 - 1 ≡ c.args.place = omega arith in
    same_position _ (without_place (position_of c.args.it) c.args.place) refl
    (c.without-it.ensures.value ∙ ap (λ r. without_row r c.args.it.set) (c.member-row.ensures.value ∙ ap (λ k. get_or c.args.it.set k 0) place))
    c.remove-gone.ensures.items refl refl
