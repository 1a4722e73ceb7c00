-- The first place that doesn't pass, of places in order.
use Rattle.std.specs.Prelude.{◌≡◌, ℕ, zero, suc, ◌⊎◌, List, [], ◌∷◌}

-- of a list, this is the first that doesn't pass: those before it do
abbrev pub IsFirstOf : {A : Type 0} → (A → Type 0) → List A → A → Type 0
IsFirstOf passes [] first = ⊥
IsFirstOf passes (a ∷ rest) first = ((first ≡ a) × ¬ passes a) ⊎ (passes a × IsFirstOf passes rest first)

-- so many places of one kind, numbered from this number on
abbrev pub numbered : {A : Type 0} → (ℕ → A) → ℕ → ℕ → List A
numbered place from zero = []
numbered place from (suc count) = place from ∷ numbered place (suc from) count
