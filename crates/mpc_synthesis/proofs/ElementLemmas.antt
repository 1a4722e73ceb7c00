-- What is so of each element of a list.
use Rattle.std.proofs.Common.{List, [], ◌∷◌, ◌++◌}
use Rattle.std.specs.Prelude.{All, Contains}
use Rattle.std.proofs.lemmas.List.Elements.{All-nil, All-cons, All-head, All-tail, All-weaker, All-contains_itself}

-- of each element of two lists
pub All-split : {X : Type 0} (P : X → Type 0) (xs ys : List X) → All P (xs ++ ys) → All P xs × All P ys
All-split P [] ys h = (All-nil P, h)
All-split P (x ∷ xs) ys h = let (first, second) = All-split P xs ys (All-tail P x (xs ++ ys) h) in (All-cons P x xs (All-head P x (xs ++ ys) h) first, second)

-- of each element that the list contains
pub all_contained : {X : Type 0} (xs : List X) (P : X → Type 0) → ((x : X) → Contains xs x → P x) → All P xs
all_contained xs P h = All-weaker (Contains xs) P h xs (All-contains_itself xs)
