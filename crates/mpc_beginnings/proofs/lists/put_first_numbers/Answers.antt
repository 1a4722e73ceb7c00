use Rattle.std.proofs.Common.{◌∙◌}
use Rattle.mpc_beginnings.proofs.lists.put_first_numbers.Goals as goal

pub put_units-requires-clause-square : goal.put_units-requires-clause-square
put_units-requires-clause-square c = rw c.deref_mut.ensures.value (c.in_ok-put_zeros.ensures.size ∙ c.requires)

pub put_units-requires-clause-zeros : goal.put_units-requires-clause-zeros
put_units-requires-clause-zeros c = rw c.deref_mut.ensures.value c.in_ok-put_zeros.ensures.zero
