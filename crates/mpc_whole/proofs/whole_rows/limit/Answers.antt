use Rattle.std.proofs.Common.{◌*◌, ◌≤◌, arith, mul-le-mul_right}
use Rattle.std.proofs.lemmas.Option.{IfSome_then}
use Rattle.mpc_whole.proofs.whole_rows.limit.Goals as goal

pub returns-clause-room : goal.returns-clause-room
returns-clause-room c = IfSome_then c.share.result c.share.ensures.room
    (λ most r.
    let h : c.args.width * c.args.most_entry ≤ c.max.result = (let e = c.max.ensures in omega arith) in
    let m : (c.args.width * c.args.most_entry) * (c.args.most_scale * most) ≤ c.max.result * (c.args.most_scale * most) = mul-le-mul_right (c.args.most_scale * most) h in
    omega arith)

pub returns-clause-top : goal.returns-clause-top
returns-clause-top c = IfSome_then c.share.result c.share.ensures.room
    (λ most r.
    let h : 1 ≤ c.max.result = (let e = c.max.ensures in omega arith) in
    let g : 1 * c.args.most_scale ≤ c.max.result * c.args.most_scale = mul-le-mul_right c.args.most_scale h in
    let m : (1 * c.args.most_scale) * most ≤ (c.max.result * c.args.most_scale) * most = mul-le-mul_right most g in
    omega arith)

pub returns-clause-side_room : goal.returns-clause-side_room
returns-clause-side_room c = IfSome_then c.share.result c.share.ensures.some (λ most s. (let h = c.if-sides.false in omega arith))
