use Rattle.std.proofs.Common.{◌≡◌, ◌++◌, take, length}
use Rattle.std.specs.List.{flat_map}
use Rattle.mpc_words.specs.Words.{behind_blanks}
use Rattle.mpc_grammar.specs.Lines.{pair_words}
use Rattle.mpc_grammar.specs.WrittenFits.{CertFits}
use Rattle.mpc_writing.proofs.tree_lines.write_pairs.Given as goal

abbrev pub invariant-loop-i : goal.invariant-loop-i
invariant-loop-i l = record {
  text : l.out.items ≡ l.initial.out.items ++ behind_blanks (flat_map pair_words (take l.i l.cert));
  fits : CertFits (take l.i l.cert);
  kept : take (length l.fn.out.items) l.out.items ≡ l.fn.out.items;
}
