use Rattle.std.proofs.Common.{◌≡◌, take}
use Rattle.mpc_tree.specs.Joints.{AreJoints, HasRunForEach}
use Rattle.mpc_tree.proofs.joints.Joints.go_on.Given as goal

abbrev pub invariant-loop-place : goal.invariant-loop-place
invariant-loop-place l = record {
  joints : AreJoints l.qp l.self;
  runs : HasRunForEach l.self;
  first : l.self.cell.items ≡ take l.place l.cell;
}
