use Rattle.std.proofs.Common.{◌≡◌, ◌++◌, take, length}
use Rattle.std.specs.Prelude.{All}
use Rattle.mpc_grammar.specs.WrittenFits.{CertFits}
use Rattle.mpc_writing.specs.PlaneNames.{certs_text}
use Rattle.mpc_writing.proofs.tree_lines.write_leaf.Given as goal

abbrev pub invariant-loop-i : goal.invariant-loop-i
invariant-loop-i l = record {
  text : l.out.items ≡ l.initial.out.items ++ certs_text (take l.i l.certs);
  fits : All CertFits (take l.i l.certs);
  kept : take (length l.fn.out.items) l.out.items ≡ l.fn.out.items;
}
