use Rattle.std.proofs.Common.{List, ℕ, map, subst}
use Rattle.std.proofs.lemmas.Result.{on_ok_weaker}
use Rattle.mpc_writing.specs.Names.{AreNames, IsNamed}
use Rattle.mpc_writing.specs.PlaneNames.{plane_line}
use Rattle.mpc_writing.proofs.PlaneLemmas.{split_numbered}
use Rattle.mpc_writing.proofs.tree_lines.write_split.Goals as goal

pub returns-clause-numbered : goal.returns-clause-numbered
returns-clause-numbered c =
    let named : (lines : List (List ℕ)) → AreNames c.args.names.now lines → IsNamed lines (plane_line c.args.row.now) c.in_ok-number.number (AreNames c.number.new.self) =
    λ lines h. subst (λ t. IsNamed lines t c.in_ok-number.number (AreNames c.number.new.self)) c.in_ok-text.ensures (c.in_ok-number.ensures.named lines h) in
    on_ok_weaker c.write_count_line.result
    (λ added. λ plant planes good are. split_numbered c.one_integers.ensures plant planes c.args.row.now c.in_ok-number.number c.args.out.now.items c.write_count_line.new.out.items (AreNames c.args.names.now) (AreNames c.number.new.self) good are (named (map plane_line planes) are.names_are) added)
    c.write_count_line.ensures.text
