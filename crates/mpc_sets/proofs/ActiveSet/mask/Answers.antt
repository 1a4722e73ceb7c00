use Rattle.std.proofs.Common.{◌∙◌, sym, ap, subst}
use Rattle.mpc_sets.specs.RowSet.{IsSetOfRows}
use Rattle.mpc_sets.specs.SetMask.{mask_of, mask_of-members_of}
use Rattle.mpc_sets.proofs.Masks.{members_of-is_set}
use Rattle.mpc_sets.proofs.ActiveSet.mask.Goals as goal

pub returns-clause-value : goal.returns-clause-value
returns-clause-value c = sym (mask_of-members_of c.self.inside.mask c.self.invariant) ∙ ap mask_of c.self.view_is

pub returns-clause-is_set : goal.returns-clause-is_set
returns-clause-is_set c = subst (IsSetOfRows 60) c.self.view_is (members_of-is_set c.self.inside.mask c.self.invariant)
