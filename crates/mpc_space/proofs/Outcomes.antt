-- Facts of a result, and of the numbers below another, carried along.
use Rattle.std.proofs.Common.{◌≡◌, ◌∙◌, ℕ, ◌+◌, ◌<◌, Result, Ok, Err, IfOk, MatchResult, sym, subst, arith, ⊎_elim}
use Rattle.std.proofs.lemmas.Bool.{cases_eq}

-- the value, under another name
pub value_as : {T E : Type 0} (r : Result T E) (a b : T) → a ≡ b → IfOk r (λ v. v ≡ a) → IfOk r (λ v. v ≡ b)
value_as (Ok v) a b e h = h ∙ e
value_as (Err x) a b e h = h

-- when a result is Ok, by a fact that is as good
pub fits_as : {T E : Type 0} (r : Result T E) (P Q : Type 0) → (P → Q) → (Q → P) → MatchResult r (λ _. P) (λ _. ¬ P) → MatchResult r (λ _. Q) (λ _. ¬ Q)
fits_as (Ok v) P Q f g h = f h
fits_as (Err x) P Q f g h = λ q. h (g q)

-- what holds of each number below j, and of j
pub below_next : (P : ℕ → Type 0) (j : ℕ) → ((k : ℕ) → k < j → P k) → P j → (k : ℕ) → k < j + 1 → P k
below_next P j h p k l = ⊎_elim (λ q. subst P (sym q) p) (λ q. h k (omega arith)) (cases_eq k j)
