use Rattle.mpc_space.proofs.Entries.{dot-total}
use Rattle.mpc_space.proofs.Vector.{dot_comm, dot-add, dot-scale, dot-sub, dot_self-positive, dot-at_most}
use Rattle.mpc_space.proofs.dot_theorems.Goals as goal

pub returns-clause-entries : goal.returns-clause-entries
returns-clause-entries c = dot-total

pub returns-clause-symmetric : goal.returns-clause-symmetric
returns-clause-symmetric c = dot_comm

pub returns-clause-sums : goal.returns-clause-sums
returns-clause-sums c = dot-add

pub returns-clause-multiples : goal.returns-clause-multiples
returns-clause-multiples c = dot-scale

pub returns-clause-differences : goal.returns-clause-differences
returns-clause-differences c = dot-sub

pub returns-clause-square_is_positive : goal.returns-clause-square_is_positive
returns-clause-square_is_positive c = dot_self-positive

pub returns-clause-weighted : goal.returns-clause-weighted
returns-clause-weighted c = dot-at_most
