use Rattle.std.proofs.Common.{◌∙◌, ap}
use Rattle.mpc_turn.specs.Known.{Known}
use Rattle.mpc_workers.proofs.Hands.{same_calls}
use Rattle.mpc_workers.proofs.working.claim.Goals as goal

pub taken-requires-clause-answered : goal.taken-requires-clause-answered
taken-requires-clause-answered g c = record {
  before = c.args.post.now.pass;
  pass = c.requires.post.pass;
  kept = c.requires.post.kept;
  claimed = c.claim_as-answer.ensures;
}

pub returns-clause-calls : goal.returns-clause-calls
returns-clause-calls g c = λ none.
    ap (λ (k : Known). k.calls) c.taken.ensures.pass ∙ same_calls c.args.post.now.pass c.claim_as-answer.new.pass c.claim_as-answer.result c.claim_as-answer.ensures (c.taken.ensures.no_job none)
