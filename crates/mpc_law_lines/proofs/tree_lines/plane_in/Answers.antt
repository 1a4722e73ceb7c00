use Rattle.std.proofs.Common.{List, ℤ}
use Rattle.mpc_grammar.specs.Spelling.{AreIntegers}
use Rattle.mpc_grammar.specs.Outcomes.{at_some}
use Rattle.mpc_law_lines.proofs.FoundPlanes.{row_found, plane_found}
use Rattle.mpc_law_lines.proofs.tree_lines.plane_in.Goals as goal

pub returns : goal.returns
returns c =
    let are = at_some ((zs : List ℤ) → ¬ AreIntegers c.args.name.now c.args.text.now zs) (AreIntegers c.args.name.now c.args.text.now) c.in_ok-integers.field-0 c.in-Some.integers c.in-Some.is c.in_ok-integers.ensures in
    plane_found c.args.name.now c.args.text.now c.args.counts.now c.in_ok-row.row c.plane_of.result (row_found c.args.name.now c.args.text.now _ c.in-Some.integers c.as_slice.result.now c.in_ok-row.row are c.as_slice.ensures c.in_ok-row.ensures.row c.in_ok-row.ensures.size) c.plane_of.ensures
