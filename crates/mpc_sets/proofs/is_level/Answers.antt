use Rattle.std.proofs.Common.{◌≡◌, ◌+◌, ◌-◌, ◌<◌, ◌≤◌, sym, ◌∙◌, arith}
use Rattle.std.proofs.lemmas.Bool.{false≢true}
use Rattle.mpc_sets.proofs.Levels.{level_up_to_one, level_up_to_more, level_from_all, no_level, before_from_test, test_from_before}
use Rattle.mpc_sets.proofs.is_level.Goals as goal
use Rattle.mpc_sets.proofs.is_level.Goals.{then-size-via-then-size, then-size-via-else-size+then-ge}

pub loop-i-init : goal.loop-i-init
loop-i-init c = level_up_to_one c.args.sets.now

pub returns-then-size : goal.returns-then-size
returns-then-size c = (
  λ t. absurd (false≢true t),
  λ level.
      let at = no_level c.args.sets.now c.loop-i.i c.index-sets-i.result c.index-sets-i-in-loop-i.result (omega arith) (omega arith) c.index-sets-i.is c.index-sets-i-in-loop-i.is level in
      elim c.then-size.branch [
        | then-size-via-then-size w ↦ absurd (w.if-size.true (c.size.ensures.value ∙ at.1 ∙ sym c.size-in-loop-i.ensures.value))
        | then-size-via-else-size+then-ge w ↦ absurd (false≢true (sym (w.ge.ensures ∙ test_from_before c.index-sets-i.result c.index-sets-i-in-loop-i.result at.0) ∙ w.if-ge.true))
      ],
)

pub loop-i-preserved : goal.loop-i-preserved
loop-i-preserved c =
    level_up_to_more c.args.sets.now c.loop-i.i c.index-sets-i.result c.index-sets-i-in-loop-i.result (omega arith) (omega arith) c.index-sets-i.is c.index-sets-i-in-loop-i.is
    (before_from_test c.index-sets-i.result c.index-sets-i-in-loop-i.result (sym c.ge.ensures ∙ c.if-ge.false)) (sym c.size.ensures.value ∙ c.if-size.false ∙ c.size-in-loop-i.ensures.value) c.loop-i.invariant

pub returns : goal.returns
returns c = (λ _. level_from_all c.args.sets.now c.loop-i.i (omega arith) c.loop-i.invariant, λ _. Rattle.std.proofs.Common.refl)
