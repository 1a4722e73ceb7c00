-- Places in a table that is stored row by row.
use Rattle.std.proofs.Common.{◌≡◌, ℕ, ◌+◌, ◌*◌, ◌/◌, ◌%◌, ◌<◌, List, length, get_or, set, pos, sym, ◌∙◌, ap, subst, arith, get_or-set_same, get_or-set_other}
use Rattle.std.proofs.lemmas.Nat.{div-mul-add, mod-mul-add}
use Rattle.std.proofs.lemmas.List.{get_or_read}
use Rattle.mpc_exact.specs.Rational.{ℚ, int}
use Rattle.mpc_linear.specs.Stored.{stored}

pub same_row : (w i j k l : ℕ) → j < w → l < w → i * w + j ≡ k * w + l → i ≡ k
same_row w i j k l hj hl e = sym (div-mul-add i w j hj) ∙ ap (λ p. p / w) e ∙ div-mul-add k w l hl

pub same_column : (w i j k l : ℕ) → j < w → l < w → i * w + j ≡ k * w + l → j ≡ l
same_column w i j k l hj hl e = sym (mod-mul-add i w j hj) ∙ ap (λ p. p % w) e ∙ mod-mul-add k w l hl

pub place_below : (n w i j : ℕ) → i < n → j < w → i * w + j < n * w
place_below n w i j h k = grind arith

-- ---- a write at row i and column j
module _ (n w : ℕ) (xs : List ℚ) (size : length xs ≡ n * w) (i j : ℕ) (v : ℚ) (hi : i < n) (hj : j < w) where
  pub written_there : stored w (set xs (i * w + j) v) i j ≡ v
  written_there = get_or-set_same xs (i * w + j) v (int (pos 0)) (subst (λ m. i * w + j < m) (sym size) (place_below n w i j hi hj))

  pub written_else : (k l : ℕ) → l < w → (k ≡ i → l ≡ j → ⊥) → stored w (set xs (i * w + j) v) k l ≡ stored w xs k l
  written_else k l hl h = get_or-set_other xs (i * w + j) (k * w + l) v (int (pos 0)) (λ e. h (same_row w k l i j hl hj e) (same_column w k l i j hl hj e))

  pub read_there : (x : ℚ) → x ≡ get_or xs (i * w + j) x → x ≡ stored w xs i j
  read_there x e = get_or_read xs (i * w + j) x (subst (λ m. i * w + j < m) (sym size) (place_below n w i j hi hj)) e (int (pos 0))
