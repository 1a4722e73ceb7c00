-- The calls of a pass.
use Rattle.std.specs.Prelude.{◌≡◌, ℕ, ◌+◌, ◌≤◌, List, [], ◌∷◌, true, false, All}
use Rattle.mpc_claim.specs.History.{is_claim, is_drop}
use Rattle.mpc_turn.specs.Views.{Call}

-- no set was given up in these calls
abbrev pub GivesNoneUp : List Call → Type 0
GivesNoneUp calls = All (λ (c : Call). is_drop c.1.kind ≡ false) calls

-- claims, each followed by the end of its set
abbrev pub TakesTurns : List Call → Type 0
TakesTurns [] = Unit {0}
TakesTurns (claim ∷ []) = ⊥
TakesTurns (claim ∷ end ∷ rest) = (is_claim claim.1.kind ≡ true) × (is_claim end.1.kind ≡ false) × (end.1.set ≡ claim.1.set) × TakesTurns rest

-- their positions rise from this one on
abbrev pub Rise : ℕ → List Call → Type 0
Rise from [] = Unit {0}
Rise from (c ∷ cs) = (from ≤ c.0) × Rise (c.0 + 1) cs
