use Rattle.std.proofs.Common.{◌∙◌, sym, ap}
use Rattle.mpc_exact.specs.Pair.{Pair}
use Rattle.mpc_runs.proofs.Read.{rest_unknown, rest_bound}
use Rattle.mpc_simplex.proofs.sides.rest.Goals as goal

pub returns-then-is_unknown-clause-first : goal.returns-then-is_unknown-clause-first
returns-then-is_unknown-clause-first c = c.zero.ensures ∙ sym (ap (λ (z : Pair). z.first) (rest_unknown c.args.system.now c.args.variable (sym c.is_unknown.ensures ∙ c.if-is_unknown.true)))

pub returns-then-is_unknown-clause-second : goal.returns-then-is_unknown-clause-second
returns-then-is_unknown-clause-second c = c.zero-then-is_unknown.ensures ∙ sym (ap (λ (z : Pair). z.second) (rest_unknown c.args.system.now c.args.variable (sym c.is_unknown.ensures ∙ c.if-is_unknown.true)))

pub returns-else-is_unknown-clause-first : goal.returns-else-is_unknown-clause-first
returns-else-is_unknown-clause-first c = c.bound.ensures.first ∙ sym (ap (λ (z : Pair). z.first) (rest_bound c.args.system.now c.args.variable (sym c.is_unknown.ensures ∙ c.if-is_unknown.false)))

pub returns-else-is_unknown-clause-second : goal.returns-else-is_unknown-clause-second
returns-else-is_unknown-clause-second c = c.bound.ensures.second ∙ sym (ap (λ (z : Pair). z.second) (rest_bound c.args.system.now c.args.variable (sym c.is_unknown.ensures ∙ c.if-is_unknown.false)))
