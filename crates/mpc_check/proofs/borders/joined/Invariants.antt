use Rattle.std.proofs.Common.{◌≡◌, ◌++◌, List, length}
use Rattle.std.specs.Global.{Vec}
use Rattle.std.specs.Vec.Iter.{into_iter_items, into_iter_len}
use Rattle.mpc_check.specs.Borders.{AreJoined}
use Rattle.mpc_check.specs.declared.borders.Formed.{Formed}
use Rattle.mpc_check.proofs.borders.joined.Given as goal

abbrev pub invariant-loop-part : goal.invariant-loop-part
invariant-loop-part l = record {
  joined : (rest : List (Vec Formed)) → AreJoined (into_iter_items l.part-iterator) rest → AreJoined l.fn.parts.items (l.borders.items ++ rest);
  count : into_iter_len l.part-iterator ≡ length (into_iter_items l.part-iterator);
}
