use Rattle.std.proofs.Common.{◌≡◌, ℕ, ◌+◌, ◌<◌, pos, get_or, length}
use Rattle.std.specs.Prelude.{slice_index}
use Rattle.mpc_block.specs.declared.lines.Width.TheVariants.{Short}
use Rattle.mpc_block.specs.Words.{number_at}
use Rattle.mpc_block.proofs.lines.short_line.Given as goal

abbrev pub invariant-loop-i : goal.invariant-loop-i
invariant-loop-i l = record {
  size : length l.line ≡ 6;
  first : slice_index l.line 0 ≡ l.first;
  lead : number_at Short l.line 1 ≡ l.lead;
  others : (k : ℕ) → k < l.i → number_at Short l.line (2 + k) ≡ get_or l.others k (pos 0);
}
