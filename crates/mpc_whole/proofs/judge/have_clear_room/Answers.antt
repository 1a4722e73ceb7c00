use Rattle.std.proofs.Common.{arith}
use Rattle.std.proofs.lemmas.Option.{IfSome_then}
use Rattle.mpc_whole.proofs.judge.have_clear_room.Goals as goal

pub returns : goal.returns
returns c = let e = c.in_ok-most.ensures.1 in IfSome_then c.have_room.result c.have_room.ensures (λ _ room. λ z h. room z (omega (arith, h)))
