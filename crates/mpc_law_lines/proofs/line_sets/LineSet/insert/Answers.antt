use Rattle.std.proofs.Common.{inl, sym}
use Rattle.mpc_law_lines.proofs.LineSetLemmas.{new_iff, lines_iff, all_right}
use Rattle.mpc_law_lines.proofs.line_sets.LineSet.insert.Goals as goal

pub returns-clause-new : goal.returns-clause-new
returns-clause-new c = new_iff (c.digest.result, c.args.line) c.self.inside.lines.keys c.args.self.now c.in-Ok.added c.digest.ensures c.self.invariant (sym c.self.view_is) c.in-Ok.ensures.added

pub returns-clause-lines : goal.returns-clause-lines
returns-clause-lines c = lines_iff (c.digest.result, c.args.line) c.self.inside.lines.keys c.insert.new.self.keys c.args.self.now (sym c.self.view_is) c.in-Ok.ensures.keys

pub returns-clause-kept : goal.returns-clause-kept
returns-clause-kept c = λ other held. (lines_iff (c.digest.result, c.args.line) c.self.inside.lines.keys c.insert.new.self.keys c.args.self.now (sym c.self.view_is) c.in-Ok.ensures.keys other).1 (inl held)

pub invariant_of-self-2 : goal.invariant_of-self-2
invariant_of-self-2 c = all_right (c.digest.result, c.args.line) c.self.inside.lines.keys c.insert.new.self.keys c.digest.ensures c.self.invariant c.in-Ok.ensures.keys
