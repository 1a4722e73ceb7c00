-- What a list has once one more is pushed.
use Rattle.std.proofs.Common.{◌≡◌, ℕ, ◌+◌, ◌<◌, List, [], ◌∷◌, ◌++◌, length, get_or, ◌∙◌, arith, below_more}
use Rattle.std.proofs.lemmas.List.{get_or_append_left, get_or_push}

pub pushed_below : {A : Type 0} (f : ℕ → A) (xs : List A) (y d : A) (i : ℕ) → length xs ≡ i → ((x : ℕ) → x < i → get_or xs x d ≡ f x) → y ≡ f i → (new : List A) → new ≡ xs ++ y ∷ [] → (x : ℕ) → x < i + 1 → get_or new x d ≡ f x
pushed_below f xs y d i each z e new now =
    below_more (λ x. get_or new x d ≡ f x) i (λ x l. rw now (get_or_append_left xs (y ∷ []) d x (omega arith) ∙ z x l)) (rw now (get_or_push xs y d i each ∙ e))
