-- Sums of products that are formed modulo 2^64, and fit 64 bits.
use Rattle.std.proofs.Common.{◌≡◌, ℕ, ◌+◌, ◌^◌, ◌≤◌, ℤ, pos, ◌+ℤ◌, unsigned_abs, sym, ◌∙◌, ap, arith, lit<}
use Rattle.std.specs.Int.{w64, int_wrap}
use Rattle.std.proofs.lemmas.Int.{fits_signed_from_abs, int_wrap_fits, int_wrap-add_left}
use Rattle.mpc_runs.specs.WholeNumbers.{whole_total}
use Rattle.mpc_runs.proofs.WholeSums.{whole_total-zero, whole_total-next}

pub first_wrapped : (f : ℕ → ℤ) → pos 0 ≡ int_wrap w64 (whole_total 0 f)
first_wrapped f = sym (ap (int_wrap w64) (whole_total-zero f) ∙ int_wrap_fits w64 (pos 0) (fits_signed_from_abs w64 (pos 0) (lit< tt)))

-- the code's sum, one product on
pub next_wrapped : (j : ℕ) (f : ℕ → ℤ) (old term new : ℤ) → old ≡ int_wrap w64 (whole_total j f) → term ≡ f j → new ≡ int_wrap w64 (old +ℤ term) → new ≡ int_wrap w64 (whole_total (j + 1) f)
next_wrapped j f old term new e t n =
    n ∙ (λ i. int_wrap w64 (e i +ℤ t i)) ∙ int_wrap-add_left w64 (whole_total j f) (f j) ∙ ap (int_wrap w64) (sym (whole_total-next j f))

-- the whole sum fits, so it is not wrapped
pub unwrapped : (j width : ℕ) (f : ℕ → ℤ) (sum : ℤ) → sum ≡ int_wrap w64 (whole_total j f) → j ≡ width → unsigned_abs (whole_total width f) ≤ 2 ^ 62 → sum ≡ whole_total width f
unwrapped j width f sum s e h =
    s ∙ ap (λ n. int_wrap w64 (whole_total n f)) e ∙ int_wrap_fits w64 (whole_total width f) (fits_signed_from_abs w64 (whole_total width f) (omega arith))

-- four products, one after the other
pub four_wrapped : (width : ℕ) (f : ℕ → ℤ) (t₁ t₂ t₃ t₄ s₁ s₂ s₃ s₄ : ℤ) → width ≡ 4 → unsigned_abs (whole_total width f) ≤ 2 ^ 62 → t₁ ≡ f 0 → t₂ ≡ f 1 → t₃ ≡ f 2 → t₄ ≡ f 3
    → s₁ ≡ int_wrap w64 (pos 0 +ℤ t₁) → s₂ ≡ int_wrap w64 (s₁ +ℤ t₂) → s₃ ≡ int_wrap w64 (s₂ +ℤ t₃) → s₄ ≡ int_wrap w64 (s₃ +ℤ t₄) → s₄ ≡ whole_total width f
four_wrapped width f t₁ t₂ t₃ t₄ s₁ s₂ s₃ s₄ four fits e₁ e₂ e₃ e₄ n₁ n₂ n₃ n₄ =
    let w₁ = next_wrapped 0 f (pos 0) t₁ s₁ (first_wrapped f) e₁ n₁ in
    let w₂ = next_wrapped 1 f s₁ t₂ s₂ w₁ e₂ n₂ in
    let w₃ = next_wrapped 2 f s₂ t₃ s₃ w₂ e₃ n₃ in
    unwrapped 4 width f s₄ (next_wrapped 3 f s₃ t₄ s₄ w₃ e₄ n₄) (sym four) fits
