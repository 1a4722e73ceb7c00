-- Lists of whole numbers, row by row.
use Rattle.std.proofs.Common.{◌≡◌, ℕ, ◌+◌, ◌*◌, ◌/◌, ◌%◌, ◌<◌, ◌≤◌, List, map, length, ℤ, pos, unsigned_abs, sym, ◌∙◌, subst, arith}
use Rattle.std.proofs.Math.Nat.{div-lt_iff_lt-mul, mod-lt}
use Rattle.std.proofs.lemmas.Nat.{div-mul-add, mod-mul-add, mul-add-lt}
use Rattle.std.specs.List.{range_with_len}
use Rattle.std.proofs.lemmas.List.FromFn.{get_or-map-range_with_len, length-map-range_with_len}
use Rattle.mpc_scaled.specs.Scaled.{whole_at, whole_cell, IsSmall}
use Rattle.mpc_runs.proofs.WholeLists.{small_within}

module _ (width height : ℕ) (f : ℕ → ℕ → ℤ) where
  abbrev nth : ℕ → ℤ
  nth n = f (n / width) (n % width)

  pub cells : List ℤ
  cells = map nth (range_with_len 0 (height * width))

  pub cells-size : length cells ≡ height * width
  unfolding cells
  cells-size = length-map-range_with_len nth 0 (height * width)

  at : (n : ℕ) → n < height * width → whole_at cells n ≡ nth n
  unfolding cells
  at n h = get_or-map-range_with_len nth 0 (height * width) n n (pos 0) h (omega arith)

  pub cells-at : (i j : ℕ) → i < height → j < width → whole_cell width cells i j ≡ f i j
  cells-at i j h l =
      at (i * width + j) (let e = mul-add-lt i width j height h l in omega arith)
      ∙ (λ t. f (div-mul-add i width j l t) (mod-mul-add i width j l t))

  pub cells-small : (most : ℕ) → 0 < width → ((i j : ℕ) → i < height → j < width → unsigned_abs (f i j) ≤ most) → IsSmall most cells
  cells-small most some h =
      small_within cells most (height * width) (let e = cells-size in omega arith)
      (λ n l. subst (λ z. unsigned_abs z ≤ most) (sym (at n l)) (h (n / width) (n % width) ((div-lt_iff_lt-mul some).1 l) (mod-lt n some)))
