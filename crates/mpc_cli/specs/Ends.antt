-- The status that an outcome brings, and what is written at it.
use Rattle.std.specs.Prelude.{◌≡◌, ◌≢◌, List, ℕ}
use Rattle.mpc_status.specs.declared.status.Status.{Status}
use Rattle.mpc_status.specs.declared.status.Status.TheVariants.{Done}
use Rattle.mpc_status.specs.StatusText.{line_of}

-- an outcome comes, and the status is the one that is given to it
pub record ComesOf {O : Type 0} (comes : O → Type 0) (status_of : O → Status) (status : Status) : Type 0 where
  pub outcome : O
  pub came : comes outcome
  pub status_is : status ≡ status_of outcome

-- the output where the status is Done, and the status's line otherwise
pub record IsTextAt (IsOutput : List ℕ → Type 0) (status : Status) (text : List ℕ) : Type 0 where
  pub output : status ≡ Done → IsOutput text
  pub line : status ≢ Done → text ≡ line_of status
