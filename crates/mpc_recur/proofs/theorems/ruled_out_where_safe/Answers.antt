use Rattle.mpc_recur.proofs.StepLemmas.{Known, away_not_safe}
use Rattle.mpc_recur.proofs.SafetyLemmas.{ruled_out_where_safe, found_leads}
use Rattle.mpc_recur.proofs.theorems.ruled_out_where_safe.Goals as goal

pub returns-clause-ruled_out : goal.returns-clause-ruled_out
returns-clause-ruled_out c =
    let known : Known = record { broken_points = c.cell_theorems.ensures.broken_points; box_meets = c.region_theorems.ensures.box_meets; one_leaf = c.one_leaf.ensures; everywhere = c.replies_everywhere.ensures } in
    λ parts is. ruled_out_where_safe known parts is

pub returns-clause-leads : goal.returns-clause-leads
returns-clause-leads c =
    let known : Known = record { broken_points = c.cell_theorems.ensures.broken_points; box_meets = c.region_theorems.ensures.box_meets; one_leaf = c.one_leaf.ensures; everywhere = c.replies_everywhere.ensures } in
    λ parts one pairs is found. found_leads known parts is one pairs found

pub returns-clause-not_safe : goal.returns-clause-not_safe
returns-clause-not_safe c =
    let known : Known = record { broken_points = c.cell_theorems.ensures.broken_points; box_meets = c.region_theorems.ensures.box_meets; one_leaf = c.one_leaf.ensures; everywhere = c.replies_everywhere.ensures } in
    λ parts one pairs is leads safe. away_not_safe known parts is one pairs leads safe
