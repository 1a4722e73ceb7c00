use Rattle.std.proofs.Common.{◌≡◌, ◌*◌, ◌≤◌, ◌^◌, subst, arith, le_trans, mul-le-mul_left, mul-le-mul_right}
use Rattle.mpc_rows.specs.Run.{count}
use Rattle.mpc_whole.specs.Whole.{HasBounds}
use Rattle.mpc_scaled.specs.Scaled.{scale_at}
use Rattle.mpc_beginnings.proofs.Limits.{has_room, has_bounds, weaker}
use Rattle.mpc_beginnings.proofs.MildShared.{times_some}
use Rattle.mpc_beginnings.proofs.kept.limit_of.Goals as goal

pub returns : goal.returns
returns c =
    let s = c.args.system.now in
    let m = c.args.numbers.now in
    let k = m.scales.now in
    let from = c.args.from in
    let most = c.in_ok-most.most in
    let counted : c.in_ok-variables.variables ≡ count s = (let e = c.in_ok-variables.ensures in let u = c.unknowns-width.ensures in let h = c.height.ensures in omega arith) in
    let g : HasBounds s k m.a.now m.b.now most =
    has_bounds s k c.in_ok-variables.variables c.unknowns-width.result m.most_entry m.most_side m.most_scale most m.a.now m.b.now counted c.unknowns-width.ensures c.requires.numbers.entries c.requires.numbers.sides c.requires.numbers.scales c.requires.numbers.some_side c.in_ok-most.ensures.room c.in_ok-most.ensures.top c.in_ok-most.ensures.side_room
    in
    let own : from.own ≤ most = (let e = c.max.ensures in let l = c.if-max-most.false in omega arith) in
    let den : from.den ≤ c.max-dens.result = (let e = c.max-dens.ensures in omega arith) in
    let kept_den : from.greatest_den ≤ c.max-dens.result = (let e = c.max-dens.ensures in omega arith) in
    let top : c.max-dens.result * m.most_scale ≤ 2 ^ 62 = (let e = c.in_ok-scaled.ensures.1 in let h = c.if-scaled.false in omega arith) in
    record {
      bounds = g;
      room =
          has_room s.width m.most_entry most m.most_scale m.a.now c.requires.numbers.entries (subst (λ w. (w * (m.most_entry * most)) * m.most_scale ≤ 2 ^ 62) c.unknowns-width.ensures c.in_ok-most.ensures.room)
          c.in_ok-most.ensures.some c.requires.numbers.some_scale;
      top = let e = c.in_ok-most.ensures.top in let h : most ≤ m.most_scale * most = times_some m.most_scale most c.requires.numbers.some_scale in omega (arith, e, h);
      own_small = own;
      den_small = let h : c.max-dens.result ≤ m.most_scale * c.max-dens.result = times_some m.most_scale c.max-dens.result c.requires.numbers.some_scale in omega (arith, den, top, h);
      narrow = λ seats v small. c.position_theorems.ensures.narrow s k m.a.now m.b.now most g (count s) seats from.den v (weaker from.own most v small own)
          (λ x h. le_trans (le_trans (mul-le-mul_right (scale_at k x) den) (mul-le-mul_left c.max-dens.result (c.requires.numbers.scales x))) top);
      kept_small = let e = c.max.ensures in let l = c.if-max-most.false in omega arith;
      kept_den_small = le_trans (mul-le-mul_right m.most_scale kept_den) top;
    }
