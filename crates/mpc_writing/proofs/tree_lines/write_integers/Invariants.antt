use Rattle.std.proofs.Common.{◌≡◌, ◌++◌, take, map, length}
use Rattle.std.specs.Fmt.{signed_decimal}
use Rattle.mpc_words.specs.Words.{behind_blanks}
use Rattle.mpc_writing.proofs.tree_lines.write_integers.Given as goal

abbrev pub invariant-loop-integer : goal.invariant-loop-integer
invariant-loop-integer l = record {
  text : l.out.items ≡ l.initial.out.items ++ behind_blanks (map signed_decimal (take l.integer-index l.integers));
  kept : take (length l.fn.out.items) l.out.items ≡ l.fn.out.items;
}
