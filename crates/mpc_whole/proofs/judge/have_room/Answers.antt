use Rattle.std.proofs.Common.{◌*◌, ◌≤◌, ◌^◌, arith, subst, le_refl, unsigned_abs}
use Rattle.mpc_rows.specs.Run.{count}
use Rattle.mpc_scaled.specs.Scaled.{scale_at}
use Rattle.mpc_whole.proofs.Judges.{both_some, room_below, turned_round}
use Rattle.mpc_whole.proofs.judge.have_room.Goals as goal

pub returns : goal.returns
returns c =
    let s = c.args.system.now in
    let k = scale_at c.args.frame.now.scales.now c.args.variable in
    let n = c.args.frame.now.count in
    let most = c.args.most in
    let g = c.max-greater.result in
    let side = c.side_of-side.result in
    both_some c.are_products_within.result c.are_products_within.ensures.scaled c.are_products_within.ensures.sides (λ _ scaled beside.
    λ z h. record {
      entering = λ e. room_below (2 ^ 125) most k g (unsigned_abs z) c.args.by.top scaled h (let a = c.max-greater.ensures in let q = c.factor_at-factor.ensures.entering e in omega arith);
      other = λ e. room_below (2 ^ 125) most k g (unsigned_abs z) c.args.by.size scaled h (let a = c.max-greater.ensures in let q = c.factor_at-factor.ensures.other e in omega arith);
      first = λ right. subst (λ q. count s * (unsigned_abs z * q) ≤ 2 ^ 125) (c.side_of-side.ensures right)
          (subst (λ m. m * (unsigned_abs z * side) ≤ 2 ^ 125) c.requires.numbers.count (turned_round n _ _ (room_below (2 ^ 125) most side n (unsigned_abs z) n beside h (le_refl n))));
      second = subst (λ m. m * (unsigned_abs z * k) ≤ 2 ^ 125) c.requires.numbers.count (turned_round n _ _ (room_below (2 ^ 125) most k g (unsigned_abs z) n scaled h (let a = c.max-greater.ensures in omega arith)));
    })
