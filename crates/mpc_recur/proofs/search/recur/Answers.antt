use Rattle.mpc_recur.proofs.search.recur.Goals as goal

pub returns-in-Ok-clause-answer : goal.returns-in-Ok-clause-answer
returns-in-Ok-clause-answer c =
    let both = (c.ruled_out_where_safe.ensures.ruled_out c.args.controller.now c.plant.ensures.controller).0 c.in-Ok.ensures in
    record { safe = both.0; ruled_out = c.in-Ok.ensures; fits = both.1 }

pub returns-in-Err-Reached-clause-answer : goal.returns-in-Err-Reached-clause-answer
returns-in-Err-Reached-clause-answer c =
    let found = rw c.in-Err-Reached.field-0-is at c.in-Err-Reached.ensures in
    let leads = c.ruled_out_where_safe.ensures.leads c.args.controller.now c.in-Err-Reached.one c.in-Err-Reached.point c.plant.ensures.controller found in
    record { first = found; leads = leads; not_safe = c.ruled_out_where_safe.ensures.not_safe c.args.controller.now c.in-Err-Reached.one c.in-Err-Reached.point c.plant.ensures.controller leads }
