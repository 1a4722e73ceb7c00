use Rattle.std.proofs.Common.{sym, ◌∙◌}
use Rattle.std.proofs.lemmas.Bool.{true≢false}
use Rattle.mpc_plant.proofs.KeyLemmas.{other_turn, other_found}
use Rattle.mpc_plant.proofs.Names.{texts}
use Rattle.mpc_plant.proofs.values.other_key.Goals as goal

pub returns-then-not-is_among : goal.returns-then-not-is_among
returns-then-not-is_among c =
    other_found (texts c.args.names.now) c.args.members.now.entries _ _ _ c.as_str.result.now c.loop-key.invariant c.in-Some.ensures.steps c.as_str.ensures.value
    (λ h. true≢false (sym (c.is_among.ensures.1 h) ∙ c.if-not-is_among.true))

pub loop-key-preserved : goal.loop-key-preserved
loop-key-preserved c =
    other_turn (texts c.args.names.now) c.args.members.now.entries _ _ _ c.as_str.result.now c.loop-key.invariant c.in-Some.ensures.steps c.as_str.ensures.value
    (c.is_among.ensures.0 c.if-not-is_among.false)
