use Rattle.std.proofs.Common.{◌∙◌, sym}
use Rattle.mpc_claim.proofs.moves.play_abandonment.Goals as goal

pub abandon-requires : goal.abandon-requires
abandon-requires c = c.requires c.in-Some.ticket (sym c.take.ensures.value ∙ c.in-Some.is)
