-- Facts that are carried along: from one result to another, and from the numbers below one to the next.
use Rattle.std.proofs.Common.{◌≡◌, ◌∙◌, ℕ, zero, suc, ◌+◌, ◌<◌, ◌⊎◌, inl, inr, ⊎_elim, refl, sym, ap, subst, arith, Result, Ok, Err, IfOk}
use Rattle.mpc_linear.specs.declared.errors.LinearError.{LinearError}
use Rattle.mpc_linear.specs.declared.errors.LinearError.TheVariants.{Wide, NoMemory}
use Rattle.mpc_linear.specs.Answers.{IfWide}

pub value_as : {T E : Type 0} (r : Result T E) (a b : T) → a ≡ b → IfOk r (λ v. v ≡ a) → IfOk r (λ v. v ≡ b)
value_as (Ok v) a b e h = h ∙ e
value_as (Err x) a b e h = h

pub IfWide-weaker : (e : LinearError) (P Q : ℕ → Type 0) → ((step : ℕ) → P step → Q step) → IfWide e P → IfWide e Q
IfWide-weaker (Wide step) P Q f h = f step h
IfWide-weaker NoMemory P Q f h = h

last_or_below : (k j : ℕ) → k < j + 1 → (k ≡ j) ⊎ (k < j)
last_or_below zero zero h = inl refl
last_or_below zero (suc j) h = inr (omega arith)
last_or_below (suc k) zero h = absurd (omega arith)
last_or_below (suc k) (suc j) h = ⊎_elim (λ e. inl (ap suc e)) (λ l. inr (omega arith)) (last_or_below k j (omega arith))

-- what holds of each number below j and of j
pub below_next : (P : ℕ → Type 0) (j : ℕ) → ((k : ℕ) → k < j → P k) → P j → (k : ℕ) → k < j + 1 → P k
below_next P j h p k l = ⊎_elim (λ e. subst P (sym e) p) (λ below. h k below) (last_or_below k j l)
