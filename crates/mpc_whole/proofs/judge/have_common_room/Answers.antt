use Rattle.std.proofs.Common.{◌≡◌, ◌-◌, ◌*◌, ◌≤◌, ◌^◌, arith, subst, le_refl, unsigned_abs}
use Rattle.mpc_scaled.specs.Scaled.{whole_at, scale_at}
use Rattle.mpc_whole.proofs.Judges.{both_some, room_within, turned_round}
use Rattle.mpc_whole.proofs.judge.have_common_room.Goals as goal

pub returns : goal.returns
returns c =
    let s = c.args.system.now in
    let k = scale_at c.args.frame.now.scales.now in
    let b = c.args.frame.now.b.now in
    let n = c.args.frame.now.count in
    let sizes = c.requires.sizes in
    let most : c.in_ok-most.most ≡ c.args.own * c.args.frame.now.norm = c.in_ok-most.ensures.1 in
    both_some c.are_products_within.result c.are_products_within.ensures.scaled c.are_products_within.ensures.sides (λ _ scaled sides.
    λ y z h.
    let within : unsigned_abs z ≤ c.in_ok-most.most = omega arith in
    record {
      entering = λ _. room_within (2 ^ 125) _ _ _ (unsigned_abs z) (k y) c.args.by.top scaled within (sizes.scales y) (let a = c.max-factor.ensures in let q = c.max-greater.ensures in omega arith);
      other = λ _. room_within (2 ^ 125) _ _ _ (unsigned_abs z) (k y) c.args.by.size scaled within (sizes.scales y) (let a = c.max-factor.ensures in let q = c.max-greater.ensures in omega arith);
      first = λ _. subst (λ m. m * (unsigned_abs z * unsigned_abs (whole_at b (y - s.width))) ≤ 2 ^ 125) c.requires.numbers.count
          (turned_round n _ _ (room_within (2 ^ 125) _ _ _ (unsigned_abs z) (unsigned_abs (whole_at b (y - s.width))) n sides within (sizes.sides.each (y - s.width)) (le_refl n)));
      second = subst (λ m. m * (unsigned_abs z * k y) ≤ 2 ^ 125) c.requires.numbers.count
          (turned_round n _ _ (room_within (2 ^ 125) _ _ _ (unsigned_abs z) (k y) n scaled within (sizes.scales y) (let q = c.max-greater.ensures in omega arith)));
    })
