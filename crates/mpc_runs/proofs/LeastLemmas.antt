-- The least number below n that passes a test.
use Rattle.std.proofs.Common.{◌≡◌, ℕ, zero, suc, ◌<◌, Bool, true, false, cond, Option, Some, None, refl, sym, subst, arith, ⊎_elim}
use Rattle.std.proofs.lemmas.Bool.{cases_eq}
use Rattle.mpc_rows.specs.Least.{least, or_at}

pub record IsLeast (test : ℕ → Bool) (n x : ℕ) : Type 0 where
  pub below : x < n
  pub passes : test x ≡ true
  pub before : (k : ℕ) → k < x → test k ≡ false

least_none_at : (test : ℕ → Bool) (n : ℕ) → ((k : ℕ) → k < n → test k ≡ false) → test n ≡ false → (k : ℕ) → k < suc n → test k ≡ false
least_none_at test n h e k l = ⊎_elim (λ p. subst (λ z. test z ≡ false) (sym p) e) (λ p. h k (omega arith)) (cases_eq k n)

abbrev pub LeastIs : (ℕ → Bool) → ℕ → Option ℕ → Type 0
LeastIs test n None = (k : ℕ) → k < n → test k ≡ false
LeastIs test n (Some x) = IsLeast test n x

least_at : (test : ℕ → Bool) (n : ℕ) (b : Bool) → ((k : ℕ) → k < n → test k ≡ false) → test n ≡ b → LeastIs test (suc n) (cond b (Some n) None)
least_at test n true h e = record { below = omega arith; passes = e; before = h }
least_at test n false h e = least_none_at test n h e

least_step : (test : ℕ → Bool) (n : ℕ) (o : Option ℕ) → LeastIs test n o → LeastIs test (suc n) (or_at o (test n) n)
least_step test n (Some x) h = record { below = omega arith; passes = h.passes; before = h.before }
least_step test n None h = least_at test n (test n) h refl

pub least-is : (test : ℕ → Bool) (n : ℕ) → LeastIs test n (least test n)
unfolding least
least-is test zero = λ k l. absurd (omega arith)
least-is test (suc n) = least_step test n (least test n) (least-is test n)
