-- Searches for the first bound that is broken.
use Rattle.std.proofs.Common.{◌≡◌, ℕ, ◌+◌, ◌<◌, ◌≤◌, List, [], ◌∷◌, ◌++◌, length, get_or, take, map, Some, sym, ◌∙◌, ap, subst, arith}
use Rattle.std.specs.Prelude.{All, slice_get}
use Rattle.std.proofs.lemmas.List.{take_more, take_all, get_or-map, length-map}
use Rattle.std.proofs.lemmas.List.Elements.{All-more}
use Rattle.std.proofs.lemmas.Option.{slice_get_within, get_or_from_slice_get}

-- one more element, which the code has read at i
pub all_next : {X : Type 0} (P : X → Type 0) (xs : List X) (i : ℕ) (x : X) → slice_get xs i ≡ Some x → All P (take i xs) → P x → All P (take (i + 1) xs)
all_next P xs i x is before here = All-more P xs i x (slice_get_within xs i x is) before (subst P (sym (get_or_from_slice_get xs i x x is)) here)

pub all_at : {X : Type 0} (P : X → Type 0) (xs : List X) (i : ℕ) (x : X) → slice_get xs i ≡ Some x → All P xs → P x
all_at P xs i x is all = subst P (get_or_from_slice_get xs i x x is) (all i x (slice_get_within xs i x is))

pub mapped_next : {X : Type 0} (f : X → ℕ) (xs : List X) (i : ℕ) (x : X) (old new : List ℕ) → slice_get xs i ≡ Some x → old ≡ take i (map f xs) → new ≡ old ++ f x ∷ [] → new ≡ take (i + 1) (map f xs)
mapped_next f xs i x old new is before pushed =
    let inside : i < length xs = slice_get_within xs i x is in
    let within : i < length (map f xs) = omega (arith, length-map xs f) in
    let value : get_or (map f xs) i 0 ≡ f x = get_or-map f xs i x 0 inside ∙ ap f (get_or_from_slice_get xs i x x is) in
    pushed ∙ (λ z. before z ++ sym value z ∷ []) ∙ sym (take_more (map f xs) i 0 within)

pub all_done : {X : Type 0} (P : X → Type 0) (xs : List X) (i : ℕ) → length xs ≤ i → All P (take i xs) → All P xs
all_done P xs i h all = subst (All P) (take_all i xs h) all
