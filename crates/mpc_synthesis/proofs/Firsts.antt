-- Of tests in their order one is the first that fails, and what it fails with is the same.
use Rattle.std.proofs.Common.{◌≡◌, ℕ, ◌<◌, subst, arith, ⊎_elim}
use Rattle.std.proofs.lemmas.Bool.{cases_lt}

-- all tests before a place are passed, and this one fails with s
pub record FailsFirst {S : Type 0} (Stage : ℕ → Type 0) (Fails : S → ℕ → Type 0) (s : S) : Type 0 where
  pub place : ℕ
  pub passed : (j : ℕ) → j < place → Stage j
  pub fails : Fails s place

pub one_first : {S : Type 0} (Stage : ℕ → Type 0) (Fails : S → ℕ → Type 0) → ((s : S) (n : ℕ) → Stage n → Fails s n → ⊥) → ((s t : S) (n : ℕ) → Fails s n → Fails t n → s ≡ t)
    → (s t : S) → FailsFirst Stage Fails s → FailsFirst Stage Fails t → s ≡ t
one_first Stage Fails clash one s t f g =
    ⊎_elim (λ l. absurd (clash s f.place (g.passed f.place l) f.fails))
    (λ p. ⊎_elim (λ l. absurd (clash t g.place (f.passed g.place l) g.fails)) (λ q. one s t g.place (subst (Fails s) (omega (arith, p, q)) f.fails) g.fails) (cases_lt g.place f.place))
    (cases_lt f.place g.place)
