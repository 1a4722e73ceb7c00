use Rattle.mpc_simplex.proofs.Misses.{meeting_point, meeting_missed}
use Rattle.mpc_simplex.proofs.beginnings.Beginning.meeting.Goals as goal

pub returns-clause-point : goal.returns-clause-point
returns-clause-point c = meeting_point c.system_theorems.ensures c.self.inside.run c.args.self.now c.self.view_is c.self.invariant c.args.rows.now c.requires.width c.has_width.ensures c.in_ok-found.found c.in_ok-found.ensures.meeting

pub returns-clause-missed : goal.returns-clause-missed
returns-clause-missed c = meeting_missed c.system_theorems.ensures c.self.inside.run c.args.self.now c.self.view_is c.self.invariant c.args.rows.now c.requires.width c.has_width.ensures c.in_ok-found.found c.in_ok-found.ensures.meeting
