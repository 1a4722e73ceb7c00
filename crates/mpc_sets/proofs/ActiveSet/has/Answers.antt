use Rattle.std.proofs.Common.{subst}
use Rattle.mpc_sets.specs.RowSet.{IsSetOfRows}
use Rattle.mpc_sets.proofs.Masks.{members_of-is_set, bit_tells_member}
use Rattle.mpc_sets.proofs.ActiveSet.has.Goals as goal

pub returns-clause-member : goal.returns-clause-member
returns-clause-member c = bit_tells_member c.self.inside.mask c.args.row c.args.self c.requires.to_last c.self.view_is

pub returns-clause-is_set : goal.returns-clause-is_set
returns-clause-is_set c = subst (IsSetOfRows 60) c.self.view_is (members_of-is_set c.self.inside.mask c.self.invariant)
