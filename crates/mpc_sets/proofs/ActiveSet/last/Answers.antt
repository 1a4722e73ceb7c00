use Rattle.std.proofs.Common.{subst}
use Rattle.mpc_sets.specs.RowSet.{IsSetOfRows}
use Rattle.mpc_sets.proofs.Masks.{members_of-is_set, leading_within, last_is, last_within}
use Rattle.mpc_sets.proofs.ActiveSet.last.Goals as goal

pub overflow_sub-result : goal.overflow_sub-result
overflow_sub-result c = leading_within c.self.inside.mask c.args.self c.self.invariant c.self.view_is c.requires

pub returns-clause-value : goal.returns-clause-value
returns-clause-value c = last_is c.self.inside.mask c.args.self c.self.invariant c.self.view_is c.requires

pub returns-clause-within : goal.returns-clause-within
returns-clause-within c = last_within c.self.inside.mask c.args.self c.self.invariant c.self.view_is c.requires

pub returns-clause-is_set : goal.returns-clause-is_set
returns-clause-is_set c = subst (IsSetOfRows 60) c.self.view_is (members_of-is_set c.self.inside.mask c.self.invariant)
