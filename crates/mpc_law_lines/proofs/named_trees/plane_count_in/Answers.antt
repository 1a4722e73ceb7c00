use Rattle.mpc_law_lines.proofs.named_trees.plane_count_in.Goals.{else-count-lt1000000000000000000-via-then-count-lt1000000000000000000+else-used-all, else-count-lt1000000000000000000-via-else-count-lt1000000000000000000}
use Rattle.mpc_law_lines.proofs.PlaneLists.{too_long}
use Rattle.mpc_law_lines.proofs.named_trees.plane_count_in.Goals as goal

pub returns-else-count-lt1000000000000000000 : goal.returns-else-count-lt1000000000000000000
returns-else-count-lt1000000000000000000 c = λ count is.
    elim c.else-count-lt1000000000000000000.branch [
      | else-count-lt1000000000000000000-via-then-count-lt1000000000000000000+else-used-all w ↦ w.if-used-all.false is.all_used
      | else-count-lt1000000000000000000-via-else-count-lt1000000000000000000 w ↦
          too_long c.one_number.ensures.count c.args.text.now c.in-Small.count count c.in-Small.ensures.count c.in-Small.ensures.number.1 w.if-count-lt1000000000000000000.false is.stated.spelled is.stated.allowed
    ]
