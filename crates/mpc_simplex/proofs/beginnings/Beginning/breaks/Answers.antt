use Rattle.std.proofs.Common.{◌≡◌, rules, Some}
use Rattle.mpc_beginnings.specs.declared.kept.Broken.TheVariants.{Point, Refuted}
use Rattle.mpc_simplex.proofs.BrokenRuns.{run_wide, broken_point, unbroken_refuted, unbroken_no_point}
use Rattle.mpc_simplex.proofs.beginnings.Beginning.breaks.Goals as goal

pub invariant_of-result : goal.invariant_of-result
invariant_of-result c =
    let q : c.in_ok-run.field-0 ≡ Some (Point c.in-Some-Point.run') = first_of (cc, search rules) in
    run_wide c.system_theorems.ensures c.self.inside.run c.args.self.now c.self.view_is c.self.invariant c.args.row.now c.requires.width c.in_ok-run.field-0 c.in_ok-run.ensures.end c.in-Some-Point.run' q

pub returns-in-Some-Point-clause-point : goal.returns-in-Some-Point-clause-point
returns-in-Some-Point-clause-point c =
    let q : c.in_ok-run.field-0 ≡ Some (Point c.in-Some-Point.run') = first_of (cc, search rules) in
    broken_point c.system_theorems.ensures c.self.inside.run c.args.self.now c.self.view_is c.self.invariant c.args.row.now c.requires.width c.in_ok-run.field-0 c.in_ok-run.ensures.end c.in-Some-Point.run' q

pub returns-in-Some-Refuted-clause-refuted : goal.returns-in-Some-Refuted-clause-refuted
returns-in-Some-Refuted-clause-refuted c =
    let q : c.in_ok-run.field-0 ≡ Some (Refuted c.in-Some-Refuted.multipliers) = first_of (cc, search rules) in
    unbroken_refuted c.system_theorems.ensures c.self.inside.run c.args.self.now c.self.view_is c.self.invariant c.args.row.now c.requires.width c.in_ok-run.field-0 c.in_ok-run.ensures.end c.in-Some-Refuted.multipliers q

pub returns-in-Some-Refuted-clause-no_point : goal.returns-in-Some-Refuted-clause-no_point
returns-in-Some-Refuted-clause-no_point c =
    let q : c.in_ok-run.field-0 ≡ Some (Refuted c.in-Some-Refuted.multipliers) = first_of (cc, search rules) in
    unbroken_no_point c.system_theorems.ensures c.self.inside.run c.args.self.now c.self.view_is c.self.invariant c.args.row.now c.requires.width c.in_ok-run.field-0 c.in_ok-run.ensures.end c.in-Some-Refuted.multipliers q
