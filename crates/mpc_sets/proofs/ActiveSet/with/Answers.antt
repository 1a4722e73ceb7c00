use Rattle.std.proofs.Common.{◌∙◌, ap}
use Rattle.mpc_sets.specs.RowSet.{with_row}
use Rattle.mpc_sets.proofs.Masks.{members_of-is_set, IsMask-set, members_of-set}
use Rattle.mpc_sets.proofs.ActiveSet.with.Goals as goal

pub invariant_of-result : goal.invariant_of-result
invariant_of-result c = IsMask-set c.self.inside.mask c.args.row c.self.invariant c.requires.from_one c.requires.to_last

pub returns-clause-value : goal.returns-clause-value
returns-clause-value c = members_of-set c.self.inside.mask c.args.row c.self.invariant c.requires.from_one c.requires.to_last ∙ ap (with_row c.args.row) c.self.view_is

pub returns-clause-is_set : goal.returns-clause-is_set
returns-clause-is_set c = members_of-is_set _ (IsMask-set c.self.inside.mask c.args.row c.self.invariant c.requires.from_one c.requires.to_last)
