-- Texts that grow by one piece for each element of a list, when all elements are written.
use Rattle.std.proofs.Common.{◌≡◌, ℕ, ◌≤◌, ◌++◌, List, length, take, subst}
use Rattle.std.specs.Prelude.{All}
use Rattle.std.proofs.lemmas.List.{take_all}

pub whole_text : {X : Type 0} (text : List X → List ℕ) (xs : List X) (i : ℕ) (old new : List ℕ) → length xs ≤ i → new ≡ old ++ text (take i xs) → new ≡ old ++ text xs
whole_text text xs i old new done e = subst (λ ys. new ≡ old ++ text ys) (take_all i xs done) e

pub whole_list : {X : Type 0} (P : X → Type 0) (xs : List X) (i : ℕ) → length xs ≤ i → All P (take i xs) → All P xs
whole_list P xs i done held = subst (All P) (take_all i xs done) held
