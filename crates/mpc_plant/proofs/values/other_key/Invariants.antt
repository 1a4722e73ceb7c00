use Rattle.std.proofs.Common.{◌≡◌, map}
use Rattle.serde_json.specs.View.{members_view}
use Rattle.mpc_plant.specs.Keys.{first_other}
use Rattle.mpc_plant.proofs.values.other_key.Given as goal

abbrev pub invariant-loop-key : goal.invariant-loop-key
invariant-loop-key l = first_other (map (λ n. n.now) l.names) (members_view l.members.entries) ≡ first_other (map (λ n. n.now) l.names) (members_view l.key-iterator)
