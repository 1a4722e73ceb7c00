use Rattle.mpc_simplex.proofs.Decided.{decided-point, decided-has_point, decided-refuted, decided-no_point}
use Rattle.mpc_simplex.proofs.decide_in_fractions.Goals as goal

pub returns-clause-point : goal.returns-clause-point
returns-clause-point c = decided-point c.system_theorems.ensures _ _ _ c.system.view_is c.system.invariant c.fraction_end.result c.fraction_end.ensures.end

pub returns-clause-has_point : goal.returns-clause-has_point
returns-clause-has_point c = decided-has_point c.system_theorems.ensures _ _ _ c.system.view_is c.system.invariant c.fraction_end.result c.fraction_end.ensures.end

pub returns-clause-refuted : goal.returns-clause-refuted
returns-clause-refuted c = decided-refuted c.system_theorems.ensures _ _ _ c.system.view_is c.system.invariant c.fraction_end.result c.fraction_end.ensures.end

pub returns-clause-no_point : goal.returns-clause-no_point
returns-clause-no_point c = decided-no_point c.system_theorems.ensures _ _ _ c.system.view_is c.system.invariant c.fraction_end.result c.fraction_end.ensures.end
