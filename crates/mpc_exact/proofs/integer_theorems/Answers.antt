use Rattle.mpc_exact.proofs.Rational.{int-add, int-mul}
use Rattle.mpc_exact.proofs.School.{int_same, int_le, int_lt, int-sub, quotient_is, quotient_zero}
use Rattle.mpc_exact.proofs.integer_theorems.Goals as goal

pub returns-clause-equal : goal.returns-clause-equal
returns-clause-equal c = int_same

pub returns-clause-at_most : goal.returns-clause-at_most
returns-clause-at_most c = int_le

pub returns-clause-below : goal.returns-clause-below
returns-clause-below c = int_lt

pub returns-clause-sum : goal.returns-clause-sum
returns-clause-sum c = int-add

pub returns-clause-difference : goal.returns-clause-difference
returns-clause-difference c = int-sub

pub returns-clause-product : goal.returns-clause-product
returns-clause-product c = int-mul

pub returns-clause-divided : goal.returns-clause-divided
returns-clause-divided c = quotient_is

pub returns-clause-divided_by_zero : goal.returns-clause-divided_by_zero
returns-clause-divided_by_zero c = quotient_zero
