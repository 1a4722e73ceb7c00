use Rattle.std.proofs.Common.{◌≤◌, sym, ◌∙◌, ap, subst, length}
use Rattle.mpc_sets.specs.RowSet.{IsSetOfRows}
use Rattle.mpc_sets.proofs.Masks.{length-members_of, members_of-is_set, length_within}
use Rattle.mpc_sets.proofs.ActiveSet.size.Goals as goal

pub returns-clause-value : goal.returns-clause-value
returns-clause-value c = length-members_of c.self.inside.mask c.self.invariant ∙ ap length c.self.view_is

pub returns-clause-is_set : goal.returns-clause-is_set
returns-clause-is_set c = subst (IsSetOfRows 60) c.self.view_is (members_of-is_set c.self.inside.mask c.self.invariant)

pub returns-clause-within : goal.returns-clause-within
returns-clause-within c = subst (λ n. n ≤ 60) (sym (returns-clause-value c)) (length_within c.args.self (returns-clause-is_set c))
