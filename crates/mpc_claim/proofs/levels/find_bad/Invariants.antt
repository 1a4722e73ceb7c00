use Rattle.std.proofs.Common.{◌≡◌, ℕ, ◌<◌, ◌≤◌, false}
use Rattle.mpc_claim.specs.Board.{at}
use Rattle.mpc_claim.specs.Books.{is_bad}
use Rattle.mpc_claim.specs.Entries.{seen}
use Rattle.mpc_claim.proofs.levels.find_bad.Given as goal

abbrev pub invariant-loop-place : goal.invariant-loop-place
invariant-loop-place l = (i : ℕ) → l.from ≤ i → i < l.place → is_bad (at (seen l.verdicts l.entries) i).slot ≡ false
