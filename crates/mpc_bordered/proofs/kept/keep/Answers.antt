use Rattle.std.proofs.Common.{refl}
use Rattle.mpc_bordered.proofs.Pivots.{kept_with}
use Rattle.mpc_bordered.proofs.kept.keep.Goals as goal

pub invariant_of-result : goal.invariant_of-result
invariant_of-result c = record {
  kept = kept_with c.args.table c.args.front c.in_ok-entries.entries.items c.deref.result.now c.rows.result c.requires.rows c.requires.columns c.in_ok-entries.ensures.size c.in_ok-entries.ensures.formed c.deref.ensures.value c.rows.ensures.value
      (c.if-not-has_pivots.ensures refl);
}
