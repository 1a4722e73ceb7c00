use Rattle.std.specs.Prelude.{codes}
use Rattle.std.proofs.Common.{◌≡◌, nat_lt, cond, subst}
use Rattle.mpc_grammar.specs.PlantGrammar.{IsNumber}
use Rattle.mpc_grammar.specs.TreeGrammar.{IsNext}
use Rattle.mpc_law_lines.specs.PlaneReading.{IsNoSplit}
use Rattle.mpc_law_lines.proofs.NamedReading.{named_split_reads, named_leaf_reads, named_leaf_error, next_used, same_used}
use Rattle.mpc_law_lines.proofs.named_trees.read_named_node.Goals.{then-used-named, else-used-named}
use Rattle.mpc_law_lines.proofs.named_trees.read_named_node.Goals as goal

pub returns-in_err-node-in-NoSplit : goal.returns-in_err-node-in-NoSplit
returns-in_err-node-in-NoSplit c =
    named_leaf_error c.args.plant.now c.args.laws c.args.planes.now c.args.used c.args.depth c.args.lines.now c.take.new.self c.in_ok-line.line.now c.number-number.result c.number-number.ensures c.in_ok-line.ensures.taken
    (subst (λ n. IsNoSplit n c.args.used c.in_ok-line.line.now) c.len.ensures c.in-NoSplit.ensures) c.read_leaf.new.lines c.from_residual-in_err-node-in-NoSplit.result c.in_err-node-in-NoSplit.field-0.0 c.in_err-node-in-NoSplit.ensures c.from_residual-in_err-node-in-NoSplit.ensures.1

pub returns-after-used-named : goal.returns-after-used-named
returns-after-used-named c =
    let most : c.if-used-named.used_then ≡ cond (nat_lt c.args.used c.in-Plane.named) c.in-Plane.named c.args.used =
    elim c.if-used-named.branch [
      | then-used-named w ↦ next_used c.args.used c.in-Plane.named c.if-used-named.used_then w.if-used-named.true w.used_then-is
      | else-used-named w ↦ same_used c.args.used c.in-Plane.named c.if-used-named.used_then w.if-used-named.false w.used_then-is
    ] in
    named_split_reads c.args.plant.now c.args.laws c.args.planes.now c.args.used c.args.depth c.args.lines.now c.take.new.self c.in_ok-line.line.now c.number-number.result c.number-number.ensures c.in_ok-line.ensures.taken
    c.in-Plane.named c.in_ok-row-in-Plane.row c.if-used-named.used_then (subst (λ n. IsNumber (codes "split") (IsNext n c.args.used) c.in_ok-line.line.now c.in-Plane.named) c.len.ensures c.in-Plane.ensures) c.in_ok-row-in-Plane.ensures most

pub returns-in_ok-node-in-NoSplit : goal.returns-in_ok-node-in-NoSplit
returns-in_ok-node-in-NoSplit c =
    named_leaf_reads c.args.plant.now c.args.laws c.args.planes.now c.args.used c.args.depth c.args.lines.now c.take.new.self c.in_ok-line.line.now c.number-number.result c.number-number.ensures c.in_ok-line.ensures.taken
    (subst (λ n. IsNoSplit n c.args.used c.in_ok-line.line.now) c.len.ensures c.in-NoSplit.ensures) c.read_leaf.new.lines c.in_ok-node-in-NoSplit.node c.in_ok-node-in-NoSplit.ensures
