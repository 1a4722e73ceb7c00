use Rattle.std.proofs.Common.{◌≡◌, rules, pos, get_or, sym, subst, subst₂, length, to_z, of_z, arith, inl, inr, FitsSigned}
use Rattle.std.specs.Int.{w64}
use Rattle.std.proofs.lemmas.Int.{to_z-of_z}
use Rattle.std.proofs.lemmas.Option.{IfSome_then}
use Rattle.mpc_whole.specs.Moved.{AreMoved}
use Rattle.mpc_whole.specs.Running.{IsPivot, AreParts}
use Rattle.mpc_runs.proofs.WholeWidths.{read_small}
use Rattle.mpc_whole.proofs.whole_values.follow.Goals as goal

pub move_values-requires-clause-pivot : goal.move_values-requires-clause-pivot
move_values-requires-clause-pivot c = subst (λ w. IsPivot w c.args.frame.now.a.now c.args.numbers.now c.args.pivot.side c.args.pivot.column c.args.pivot.by.den c.args.pivot.size) (sym c.requires.parts.first_size) c.requires.pivot

pub move_values-requires-clause-parts : goal.move_values-requires-clause-parts
move_values-requires-clause-parts c = subst (λ w. AreParts w c.args.firsts.now c.args.seconds.now) (sym c.requires.parts.first_size) c.requires.parts

pub returns-in-Some-clause-values : goal.returns-in-Some-clause-values
returns-in-Some-clause-values c =
    let f : FitsSigned w64 (get_or c.args.frame.now.b.now c.args.pivot.side (pos 0)) = search rules in
    let step : to_z w64 (of_z w64 c.step_of-step.result) ≡ c.step_of-step.result = read_small _ (let h = c.step_of-step.ensures.small in omega arith) in
    λ seats seated columns. inl (
      c.step_of-step.result,
      c.step_of-step.ensures.value,
      subst₂ (λ w h. AreMoved w c.args.frame.now.a.now c.args.pivot.side (get_or c.args.frame.now.b.now c.args.pivot.side (pos 0)) h c.args.numbers.now c.args.pivot.column c.args.pivot.by.den c.args.pivot.size c.args.firsts.now c.args.seconds.now c.move_values.new.firsts c.move_values.new.seconds) c.requires.parts.first_size step
          (subst (λ g. AreMoved (length c.args.firsts.now) c.args.frame.now.a.now c.args.pivot.side g (to_z w64 (of_z w64 c.step_of-step.result)) c.args.numbers.now c.args.pivot.column c.args.pivot.by.den c.args.pivot.size c.args.firsts.now c.args.seconds.now c.move_values.new.firsts c.move_values.new.seconds) (to_z-of_z w64 _ f) c.in-Some.ensures.moved),
    )

pub returns-in-Some-clause-parts : goal.returns-in-Some-clause-parts
returns-in-Some-clause-parts c = subst (λ w. AreParts w c.move_values.new.firsts c.move_values.new.seconds) c.requires.parts.first_size c.in-Some.ensures.parts

pub returns-clause-values : goal.returns-clause-values
returns-clause-values c = IfSome_then c.stand.result c.stand.ensures.values (λ u formed. λ seats seated columns. inr (formed seats seated columns))

pub returns-clause-parts : goal.returns-clause-parts
returns-clause-parts c = c.stand.ensures.parts
