use Rattle.mpc_exact.specs.Rational.{frac_self, denom_positive, parts_coprime}
use Rattle.mpc_exact.proofs.Rational.{same_frac, frac_same, frac-add, frac-mul, frac-neg}
use Rattle.mpc_exact.proofs.RationalOrder.{le_frac, frac_le, lt_frac, frac_lt}
use Rattle.mpc_exact.proofs.School.{frac-sub, frac-div_positive, frac-div_negative, /ℚ_zero}
use Rattle.mpc_exact.proofs.school_rules.Goals as goal

pub returns-clause-in_lowest_terms : goal.returns-clause-in_lowest_terms
returns-clause-in_lowest_terms c = λ x. (frac_self x, denom_positive x, parts_coprime x)

pub returns-clause-equal : goal.returns-clause-equal
returns-clause-equal c = λ a k b d p q. (frac_same a b k d p q, same_frac a b k d p q)

pub returns-clause-at_most : goal.returns-clause-at_most
returns-clause-at_most c = λ a k b d p q. (frac_le a b k d p q, le_frac a b k d p q)

pub returns-clause-below : goal.returns-clause-below
returns-clause-below c = λ a k b d p q. (frac_lt a b k d p q, lt_frac a b k d p q)

pub returns-clause-sum : goal.returns-clause-sum
returns-clause-sum c = λ a k b d. frac-add a b k d

pub returns-clause-difference : goal.returns-clause-difference
returns-clause-difference c = λ a k b d. frac-sub a b k d

pub returns-clause-negative : goal.returns-clause-negative
returns-clause-negative c = frac-neg

pub returns-clause-product : goal.returns-clause-product
returns-clause-product c = λ a k b d. frac-mul a b k d

pub returns-clause-quotient_by_positive : goal.returns-clause-quotient_by_positive
returns-clause-quotient_by_positive c = frac-div_positive

pub returns-clause-quotient_by_negative : goal.returns-clause-quotient_by_negative
returns-clause-quotient_by_negative c = frac-div_negative

pub returns-clause-quotient_by_zero : goal.returns-clause-quotient_by_zero
returns-clause-quotient_by_zero c = /ℚ_zero
