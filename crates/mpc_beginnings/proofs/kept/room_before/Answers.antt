use Rattle.std.proofs.Common.{◌*◌, ◌^◌, ◌≤◌, below_more, subst, arith}
use Rattle.mpc_runs.specs.WholeNumbers.{HasRoom}
use Rattle.mpc_beginnings.specs.RunLists.{weight_of}
use Rattle.mpc_beginnings.specs.Kept.{IsLightRow}
use Rattle.mpc_beginnings.proofs.kept.room_before.Goals as goal

pub returns-in-Some-clause-before : goal.returns-in-Some-clause-before
returns-in-Some-clause-before c = record {
  known = let h = c.if-from.false in omega arith;
  rows = λ i h b. c.in-Some.ensures i b;
}

pub loop-row-preserved : goal.loop-row-preserved
loop-row-preserved c =
    below_more (λ i. c.args.first ≤ i → IsLightRow c.args.system.now c.args.numbers.now (weight_of c.args.lists.now c.args.from.product) c.args.from i) c.loop-row.row c.loop-row.invariant (λ h. c.in_ok-is_light.ensures)

pub loop-row-init : goal.loop-row-init
loop-row-init c = λ i b h. absurd (omega arith)

pub returns-clause-before : goal.returns-clause-before
returns-clause-before c = record {
  known = let h = c.if-from.false in omega arith;
  rows = λ i h b. c.loop-row.invariant i (let t = c.loop-row-test.false in omega arith) h;
}

pub are_all_light-requires-clause-few : goal.are_all_light-requires-clause-few
are_all_light-requires-clause-few c = let e = c.in_ok-variables.ensures in let u = c.unknowns-width.ensures in let h = c.height.ensures in let l = c.if-variables-gt-MOST_VARIABLES.false in omega arith

pub is_light-requires-clause-few : goal.is_light-requires-clause-few
is_light-requires-clause-few c = let e = c.in_ok-variables.ensures in let u = c.unknowns-width.ensures in let h = c.height.ensures in let l = c.if-variables-gt-MOST_VARIABLES.false in omega arith

pub are_all_light-requires-clause-norm : goal.are_all_light-requires-clause-norm
are_all_light-requires-clause-norm c = subst (λ w. w * c.args.numbers.now.most_entry ≤ c.in_ok-norm.norm) c.unknowns-width.ensures c.in_ok-norm.ensures.norm

pub is_light-requires-clause-row : goal.is_light-requires-clause-row
is_light-requires-clause-row c = let t = c.loop-row-test.true in omega arith

pub are_all_light-requires-clause-numbers : goal.are_all_light-requires-clause-numbers
are_all_light-requires-clause-numbers c = c.requires

pub is_light-requires-clause-numbers : goal.is_light-requires-clause-numbers
is_light-requires-clause-numbers c = c.requires

pub returns-in-Some-clause-room : goal.returns-in-Some-clause-room
returns-in-Some-clause-room c = subst (λ w. HasRoom w (2 ^ 62) c.args.numbers.now.a.now) c.unknowns-width.ensures c.in_ok-norm.ensures.room

pub returns-clause-room : goal.returns-clause-room
returns-clause-room c = subst (λ w. HasRoom w (2 ^ 62) c.args.numbers.now.a.now) c.unknowns-width.ensures c.in_ok-norm.ensures.room
