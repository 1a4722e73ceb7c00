-- How many sets a worker holds.
use Rattle.std.specs.Prelude.{◌≡◌, ℕ, List, ◌++◌}
use Rattle.mpc_claim.specs.declared.events.Event.{Event}
use Rattle.mpc_claim.specs.History.{MayEnd}

-- Each worker holds one set at a time: after each beginning of the history, two sets that a worker has claimed and neither delivered nor given
-- up are the same. So between two claims of one worker stands the end of the first one's set.
pub record HoldOneSet (history : List Event) : Type 0 where
  pub one : (past more : List Event) → history ≡ past ++ more → (worker : ℕ) (s t : List ℕ) → MayEnd past worker s → MayEnd past worker t → s ≡ t
