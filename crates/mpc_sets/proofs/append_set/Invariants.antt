use Rattle.std.proofs.Common.{◌+◌, ◌-◌, ◌*◌, ◌≤◌, vec_len, vec_capacity}
use Rattle.mpc_sets.proofs.SetTexts.{HoldsMembers}
use Rattle.mpc_sets.proofs.append_set.Given as goal

abbrev pub invariant-loop-position : goal.invariant-loop-position
invariant-loop-position l = record {
  text : HoldsMembers l.set (l.position - 1) l.fn.out.items l.out.items;
  room : vec_len l.out + (3 * (l.position-end - l.position) + 1) ≤ vec_capacity l.out;
}
