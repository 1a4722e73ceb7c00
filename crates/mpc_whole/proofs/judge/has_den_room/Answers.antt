use Rattle.std.proofs.Common.{◌*◌, ◌≤◌, ◌^◌, ℕ, arith, subst, le_refl}
use Rattle.std.proofs.lemmas.Option.{IfSome_then}
use Rattle.mpc_scaled.specs.Scaled.{scale_at}
use Rattle.mpc_whole.proofs.Judges.{room_within}
use Rattle.mpc_whole.proofs.judge.has_den_room.Goals as goal
use Rattle.mpc_whole.proofs.judge.has_den_room.Goals.{In_ok-room}

with_all : (c : In_ok-room) → c.in_ok-room.room ≤ 2 ^ 125 → (x t : ℕ) → t ≤ c.max.result → (c.args.den * scale_at c.args.frame.now.scales.now x) * t ≤ 2 ^ 125
with_all c w x t h =
    let all : (c.args.den * c.args.frame.now.most_scale) * c.max.result ≤ 2 ^ 125 = subst (λ m. m * c.max.result ≤ 2 ^ 125) c.in_ok-scaled.ensures.1 (subst (λ m. m ≤ 2 ^ 125) c.in_ok-room.ensures.1 w) in
    room_within (2 ^ 125) c.args.den c.args.frame.now.most_scale c.max.result c.args.den _ t all (le_refl c.args.den) (c.requires.scales x) h

pub returns-clause-each : goal.returns-clause-each
returns-clause-each c =
    let at = (goal.at.returns-clause-each c).In_ok-room in
    IfSome_then c.within_room.result c.within_room.ensures (λ _ w. λ x. with_all at w x c.args.by.size (let a = c.max.ensures in omega arith))

pub returns-clause-whole : goal.returns-clause-whole
returns-clause-whole c =
    let at = (goal.at.returns-clause-whole c).In_ok-room in
    IfSome_then c.within_room.result c.within_room.ensures (λ _ w. λ x. let all = with_all at w x 1 (let a = c.max.ensures in omega arith) in omega arith)
