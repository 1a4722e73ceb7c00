use Rattle.std.proofs.Common.{◌≡◌, length, map, take, All}
use Rattle.mpc_recur.specs.Forms.{substituted, SubstitutedFits}
use Rattle.mpc_controller.specs.Ways.{turn_row}
use Rattle.mpc_recur.proofs.met.Met.follow.Given as goal

abbrev pub invariant-loop-k : goal.invariant-loop-k
invariant-loop-k l = record {
  forms : l.self.forms.items ≡ l.fn.self.forms.items;
  width : l.self.rows.width ≡ length l.fn.self.forms.items;
  rows : l.self.rows.rows ≡ map (substituted (length l.fn.self.forms.items) l.fn.self.forms.items) (map (turn_row l.tree) (take l.k l.way));
  fits : All (SubstitutedFits (length l.fn.self.forms.items) l.fn.self.forms.items) (map (turn_row l.tree) (take l.k l.way));
}
