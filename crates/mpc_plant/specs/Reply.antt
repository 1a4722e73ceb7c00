-- What a controller answers at a state, and which answer is right.
use Rattle.std.specs.Prelude.{◌≡◌, List}
use Rattle.mpc_exact.specs.Rational.{ℚ}
use Rattle.mpc_plant.specs.declared.plants.Plant.{Plant}
use Rattle.mpc_plant.specs.Trajectory.{IsSequence, IsAdmissible, IsBest, move_at}

-- the move to make now, or that no sequence of moves is admissible
pub data Reply : Type 0 where
  move : List ℚ → Reply
  infeasible : Reply

-- the first move of the best sequence, and infeasible only where no sequence is admissible
abbrev pub IsRight : Plant → List ℚ → Reply → Type 0
IsRight plant t (move u) = (v : List (List ℚ)) × IsBest plant t v × (move_at v 0 ≡ u)
IsRight plant t infeasible = (v : List (List ℚ)) → IsSequence plant v → ¬ IsAdmissible plant t v

-- at each list t at most one reply is right
abbrev pub OneRightReply : Type 0
OneRightReply = (plant : Plant) (t : List ℚ) (r s : Reply) → IsRight plant t r → IsRight plant t s → r ≡ s
