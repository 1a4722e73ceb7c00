use Rattle.std.proofs.Common.{refl, arith}
use Rattle.mpc_grammar.specs.Reading.{one_line}
use Rattle.mpc_grammar.specs.PlantGrammar.{plain_rule}
use Rattle.mpc_grammar.specs.TreeGrammar.{IsWord, written_tree}
use Rattle.mpc_file.specs.Unsealed.{unsealed}
use Rattle.mpc_grammar.specs.FileGrammar.{written}
use Rattle.mpc_file.proofs.LawShapes.{written_good}
use Rattle.mpc_file.proofs.FileShapes.{written_parts}
use Rattle.mpc_file.proofs.WholeReading.{passed_on, tree_fails, tree_read, end_fails}
use Rattle.mpc_file.proofs.reading.read_written.Goals as goal

pub read_written_tree-requires : goal.read_written_tree-requires
read_written_tree-requires c = omega (arith, c.len.ensures, (written_good c.args.plant.now c.args.lines.now c.in_ok-laws.laws c.read_written_laws.new.lines c.in_ok-laws.ensures).few)

pub returns-in_err-tree : goal.returns-in_err-tree
returns-in_err-tree c =
    passed_on (written_tree c.args.plant.now c.len.result) (unsealed c.args.plant.now (written c.args.plant.now)) c.read_written_laws.new.lines c.read_written_tree.new.lines c.args.lines.now c.read_written_tree.new.lines c.from_residual-in_err-tree.result c.in_err-tree.field-0.0
    (tree_fails c.args.plant.now c.args.lines.now c.read_written_laws.new.lines c.in_ok-laws.laws c.in_ok-laws.ensures c.len.result c.len.ensures) c.in_err-tree.ensures c.from_residual-in_err-tree.ensures.1

pub returns-in_err-read_word : goal.returns-in_err-read_word
returns-in_err-read_word c =
    passed_on (one_line (plain_rule (IsWord (Rattle.std.specs.Prelude.codes "end")))) (unsealed c.args.plant.now (written c.args.plant.now)) c.read_written_tree.new.lines c.read_word.new.lines c.args.lines.now c.read_word.new.lines c.from_residual-in_err-read_word.result c.in_err-read_word.field-0.0
    (end_fails c.args.plant.now c.args.lines.now c.read_written_laws.new.lines c.in_ok-laws.laws c.in_ok-laws.ensures c.len.result c.len.ensures c.read_written_tree.new.lines c.in_ok-tree.tree c.in_ok-tree.ensures) c.in_err-read_word.ensures c.from_residual-in_err-read_word.ensures.1

pub returns : goal.returns
returns c = (
  (
    c.in_ok-laws.laws,
    (
      c.read_written_laws.new.lines,
      (
        c.in_ok-laws.ensures,
        (
          c.in_ok-tree.tree,
          (
            c.read_written_tree.new.lines,
            (
              tree_read c.args.plant.now c.args.lines.now c.read_written_laws.new.lines c.in_ok-laws.laws c.in_ok-laws.ensures c.len.result c.len.ensures c.read_written_tree.new.lines c.in_ok-tree.tree c.in_ok-tree.ensures,
              (tt, (c.read_word.new.lines, (c.in_ok-read_word.ensures, (refl, refl)))),
            ),
          ),
        ),
      ),
    ),
  ),
  written_parts c.preorder_theorems.ensures.split c.preorder_theorems.ensures.leaf c.args.plant.now c.args.lines.now c.read_written_laws.new.lines c.read_written_tree.new.lines c.in_ok-laws.laws c.in_ok-tree.tree c.in_ok-laws.ensures
      (tree_read c.args.plant.now c.args.lines.now c.read_written_laws.new.lines c.in_ok-laws.laws c.in_ok-laws.ensures c.len.result c.len.ensures c.read_written_tree.new.lines c.in_ok-tree.tree c.in_ok-tree.ensures),
)
