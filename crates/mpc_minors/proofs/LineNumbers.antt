-- The sizes of small coefficients, right sides and minors of rows, and products that are read back from 64 bits.
use Rattle.std.proofs.Common.{◌≡◌, ℕ, ◌+◌, ◌*◌, ◌^◌, ◌<◌, ◌≤◌, List, ℤ, ◌+ℤ◌, ◌-ℤ◌, ◌*ℤ◌, ◌≤ℤ◌, unsigned_abs, sym, ◌∙◌, subst, subst₂, arith, le_trans, to_z, of_z, add-zero, cond, eqb, true, false}
use Rattle.std.specs.Int.{w64, w128}
use lib.Signed.{mag}
use Rattle.std.proofs.lemmas.Int.{ints}
use Rattle.mpc_scaled.specs.Scaled.{whole_at}
use Rattle.mpc_runs.proofs.WholeSums.{product_at_most, abs-sum}
use Rattle.mpc_runs.proofs.WholeWidths.{read_small, read_bound, back64, back128}
use Rattle.mpc_minors.specs.Lines.{AreSmallLines, most_coefficient}

abs-difference : (u v : ℤ) → unsigned_abs (u -ℤ v) ≤ unsigned_abs u + unsigned_abs v
abs-difference u v = omega (arith, ints)

-- ---- sizes
pub crossed-size : (m : ℕ) (a b c d z : ℤ) → unsigned_abs a ≤ m → unsigned_abs b ≤ m → unsigned_abs c ≤ m → unsigned_abs d ≤ m → z ≡ a *ℤ d -ℤ b *ℤ c → unsigned_abs z ≤ 2 * (m * m)
crossed-size m a b c d z ha hb hc hd e =
    let l = product_at_most a d m m ha hd in
    let r = product_at_most b c m m hb hc in
    subst (λ u. unsigned_abs u ≤ 2 * (m * m)) (sym e) (le_trans (abs-difference (a *ℤ d) (b *ℤ c)) (omega arith))

pub expanded-size : (m n : ℕ) (a b c x y z r : ℤ) → unsigned_abs a ≤ m → unsigned_abs b ≤ m → unsigned_abs c ≤ m → unsigned_abs x ≤ n → unsigned_abs y ≤ n → unsigned_abs z ≤ n
    → r ≡ a *ℤ x +ℤ b *ℤ y +ℤ c *ℤ z → unsigned_abs r ≤ 3 * (m * n)
expanded-size m n a b c x y z r ha hb hc hx hy hz e =
    let p = product_at_most a x m n ha hx in
    let q = product_at_most b y m n hb hy in
    let s = product_at_most c z m n hc hz in
    let t = abs-sum (a *ℤ x) (b *ℤ y) in
    subst (λ u. unsigned_abs u ≤ 3 * (m * n)) (sym e) (le_trans (abs-sum (a *ℤ x +ℤ b *ℤ y) (c *ℤ z)) (omega arith))

-- ---- numbers that are read back
abbrev pub read : ℤ → ℤ
read z = to_z w64 (of_z w64 z)

pub product_read : (m n : ℕ) (a b : ℤ) → unsigned_abs a ≤ m → unsigned_abs b ≤ n → m ≤ 2 ^ 62 → n ≤ 2 ^ 62 → m * n ≤ 2 ^ 62 → read (read a *ℤ read b) ≡ a *ℤ b
product_read m n a b ha hb hm hn hmn =
    (λ i. read (read_small a (le_trans ha hm) i *ℤ read_small b (le_trans hb hn) i)) ∙ read_small (a *ℤ b) (le_trans (product_at_most a b m n ha hb) hmn)

-- a sum and one number more, times its weight
pub next_sum : (before sum weight side result : ℤ) → result ≡ before +ℤ read weight *ℤ read side → before ≡ sum → mag weight < 2 ^ 63 → unsigned_abs side ≤ 2 ^ 56 → mag result < 2 ^ 127
    → to_z w128 (of_z w128 result) ≡ sum +ℤ weight *ℤ side
next_sum before sum weight side result e b fits small room = back128 result room ∙ e ∙ (λ i. b i +ℤ back64 weight fits i *ℤ read_small side (le_trans small (omega arith)) i)

-- ---- numbers between others
abbrev pub IsBetween : ℤ → ℤ → ℤ → Type 0
IsBetween least greatest y = (least ≤ℤ y) × (y ≤ℤ greatest)

pub between : (least greatest y : ℤ) → mag y < 2 ^ 63 → least ≤ℤ read y → read y ≤ℤ greatest → IsBetween least greatest y
between least greatest y fits h k = subst (IsBetween least greatest) (back64 y fits) (h, k)

wider : (l g least greatest y : ℤ) → least ≤ℤ l → g ≤ℤ greatest → IsBetween l g y → IsBetween least greatest y
wider l g least greatest y h k b = let low = b.0 in let high = b.1 in (omega (arith, ints), omega (arith, ints))

module _ (l g : ℤ) (l_fits : mag l < 2 ^ 63) (g_fits : mag g < 2 ^ 63) where
  pub still_between : (least greatest : ℤ) → least ≤ℤ read l → read g ≤ℤ greatest → (y : ℤ) → IsBetween l g y → IsBetween least greatest y
  still_between least greatest h k y = wider l g least greatest y (subst (λ u. least ≤ℤ u) (back64 l l_fits) h) (subst (λ u. u ≤ℤ greatest) (back64 g g_fits) k)

  pub read_between : (y : ℤ) → IsBetween l g y → IsBetween (read l) (read g) y
  read_between y = subst₂ (λ u v. IsBetween u v y) (sym (back64 l l_fits)) (sym (back64 g g_fits))

-- ---- the numbers of rows
most-bound : (width : ℕ) → most_coefficient width ≤ 2 ^ 62
most-bound width = elim (eqb width 2) as (λ b. cond b (2 ^ 30) (2 ^ 19) ≤ 2 ^ 62) [ true ↦ omega arith | false ↦ omega arith ]

module _ (width : ℕ) (lines : List ℤ) (small : AreSmallLines width lines) (i : ℕ) (h : i < width + 1) where
  pub number_small : (j : ℕ) → j < width → unsigned_abs (read (whole_at lines (i * (width + 1) + j))) ≤ most_coefficient width
  number_small j l = read_bound (whole_at lines (i * (width + 1) + j)) (most_coefficient width) (small.coefficients i j h l) (most-bound width)

  pub first_small : 0 < width → unsigned_abs (read (whole_at lines (i * (width + 1)))) ≤ most_coefficient width
  first_small l = subst (λ k. unsigned_abs (read (whole_at lines k)) ≤ most_coefficient width) (add-zero (i * (width + 1))) (number_small 0 l)

  pub side_small : unsigned_abs (read (whole_at lines (i * (width + 1) + width))) ≤ 2 ^ 56
  side_small = read_bound (whole_at lines (i * (width + 1) + width)) (2 ^ 56) (small.sides i h) (omega arith)

module _ (width : ℕ) (lines : List ℤ) (small : AreSmallLines width lines) (i k : ℕ) (h : i < width + 1) (l : k < width + 1) (more : 1 < width) where
  abbrev at : ℕ → ℤ
  at n = read (whole_at lines n)

  -- of a minor of two rows and the first two unknowns
  pub pair-size : (z : ℤ) → z ≡ at (i * (width + 1)) *ℤ at (k * (width + 1) + 1) -ℤ at (i * (width + 1) + 1) *ℤ at (k * (width + 1)) → unsigned_abs z ≤ 2 * (most_coefficient width * most_coefficient width)
  pair-size z e =
      crossed-size (most_coefficient width) (at (i * (width + 1))) (at (i * (width + 1) + 1)) (at (k * (width + 1))) (at (k * (width + 1) + 1)) z
      (first_small width lines small i h (omega arith)) (number_small width lines small i h 1 more) (first_small width lines small k l (omega arith)) (number_small width lines small k l 1 more) e
