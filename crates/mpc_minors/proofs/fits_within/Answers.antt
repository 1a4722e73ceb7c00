use Rattle.std.proofs.Common.{◌≤◌, ℕ, sym, subst, arith, le_trans, mul-le-mul_right}
use Rattle.mpc_rows.specs.LinearSystem.{LinearSystem}
use Rattle.mpc_rows.specs.Run.{count}
use Rattle.mpc_minors.specs.SmallRows.{HasSmallRows}
use Rattle.mpc_minors.specs.Sizes.{LeaveRoom}
use Rattle.mpc_minors.proofs.SmallLists.{rows_fit}
use Rattle.mpc_minors.proofs.fits_within.Goals as goal

greater : (entry side most_entry most_side : ℕ) (s : LinearSystem) → entry ≤ most_entry → side ≤ most_side → HasSmallRows entry side s → HasSmallRows most_entry most_side s
greater entry side most_entry most_side s h g r = record {
  entries = λ i j l m. let n = r.entries i j l m in record { z = n.z; is = n.is; small = le_trans n.small h };
  sides = λ i l. let n = r.sides i l in record { z = n.z; is = n.is; small = le_trans n.small g };
}

fewer : (width most variables entry side : ℕ) → most ≤ variables → LeaveRoom width variables entry side 1 → LeaveRoom width most entry side 1
fewer width most variables entry side h r = record { some = r.some; few = r.few; determinants = r.determinants; sides = le_trans (mul-le-mul_right side h) r.sides }

pub returns : goal.returns
returns c h s wide few small =
    let entry = c.max.result in
    let side = c.max-2.result in
    let room : LeaveRoom s.width c.in-Some.variables entry side 1 = subst (λ n. LeaveRoom n c.in-Some.variables entry side 1) (sym wide) (c.leave_room.ensures h) in
    rows_fit entry side s (greater c.args.entry c.args.side entry side s (omega arith) (omega arith) small) c.position_theorems.ensures (omega arith) (omega arith)
    (fewer s.width (count s) c.in-Some.variables entry side (omega arith) room)
