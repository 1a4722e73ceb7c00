-- The entries of the shared table.
use Rattle.std.proofs.Common.{◌≡◌, ℕ, ◌+◌, ◌-◌, ◌<◌, ◌≤◌, cond, nat_lt, pos, refl, sym, ◌∙◌, ap, arith}
use Rattle.std.proofs.lemmas.Bool.{cond_below, cond_above}
use Rattle.mpc_exact.specs.Rational.{int, neg_ℚ}
use Rattle.mpc_space.specs.Matrix.{height, entry}
use Rattle.mpc_space.proofs.Matrix.{entry-tabled, height-tabled}
use Rattle.mpc_rows.specs.declared.programs.Qp.{Qp}
use Rattle.mpc_region.specs.Shared.{shared_entry, shared_table}
use Rattle.mpc_region.specs.Sweeps.{rights, all_columns}

-- ---- a condition on numbers, by its case
pub below : {A : Type 0} (x y : ℕ) (a b : A) → x < y → cond (nat_lt x y) a b ≡ a
below x y a b l = sym (cond_below x y a b l)

pub above : {A : Type 0} (x y : ℕ) (a b : A) → y ≤ x → cond (nat_lt x y) a b ≡ b
above x y a b l = sym (cond_above x y a b b l refl)

module _ (qp : Qp) where
  abbrev n : ℕ
  n = height qp.h

  abbrev g : ℕ
  g = height qp.g

  -- ---- the table
  pub shared_height : height (shared_table qp) ≡ rights qp
  unfolding shared_table
  shared_height = height-tabled (rights qp) (all_columns qp) (shared_entry qp)

  pub shared_columns : (shared_table qp).columns ≡ all_columns qp
  unfolding shared_table
  shared_columns = refl

  pub shared_at : (i j : ℕ) → i < rights qp → j < all_columns qp → entry (shared_table qp) i j ≡ shared_entry qp i j
  unfolding shared_table
  shared_at i j hi hj = entry-tabled (rights qp) (all_columns qp) (shared_entry qp) i j hi hj

  -- ---- its parts
  pub hessian : (i j : ℕ) → i < n → j < n → shared_entry qp i j ≡ entry qp.h i j
  hessian i j hi hj = below i n _ _ hi ∙ below j n _ _ hj

  pub member_column : (i k : ℕ) → i < n → 1 ≤ k → k ≤ g → shared_entry qp i (n + (k - 1)) ≡ entry qp.g (k - 1) i
  member_column i k hi a b =
      below i n _ _ hi ∙ above (n + (k - 1)) n _ _ (omega arith) ∙ below (n + (k - 1)) (n + g) _ _ (omega arith)
      ∙ (let e : n + (k - 1) - n ≡ k - 1 = omega arith in ap (λ k. entry qp.g k i) e)

  pub right_column : (i j : ℕ) → i < n → shared_entry qp i (rights qp + j) ≡ neg_ℚ (entry qp.f i j)
  right_column i j hi =
      below i n _ _ hi ∙ above (n + g + j) n _ _ (omega arith) ∙ above (n + g + j) (n + g) _ _ (omega arith)
      ∙ (let e : n + g + j - n - g ≡ j = omega arith in ap (λ k. neg_ℚ (entry qp.f i k)) e)

  pub member_line : (k j : ℕ) → j < n → shared_entry qp (n + (k - 1)) j ≡ entry qp.g (k - 1) j
  member_line k j hj =
      above (n + (k - 1)) n _ _ (omega arith) ∙ below j n _ _ hj ∙ (let e : n + (k - 1) - n ≡ k - 1 = omega arith in ap (λ k. entry qp.g k j) e)

  pub corner : (i j : ℕ) → n ≤ i → n ≤ j → j < n + g → shared_entry qp i j ≡ int (pos 0)
  corner i j hi hj b = above i n _ _ hi ∙ above j n _ _ hj ∙ below j (n + g) _ _ b

  pub right_line : (k j : ℕ) → shared_entry qp (n + (k - 1)) (rights qp + j) ≡ entry qp.w (k - 1) j
  right_line k j =
      above (n + (k - 1)) n _ _ (omega arith) ∙ above (n + g + j) n _ _ (omega arith) ∙ above (n + g + j) (n + g) _ _ (omega arith)
      ∙ (let e : n + (k - 1) - n ≡ k - 1 = omega arith in let f : n + g + j - n - g ≡ j = omega arith in (λ m. entry qp.w (e m) (f m)))
