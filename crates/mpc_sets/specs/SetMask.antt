-- A set of rows as a mask, whose bit i tells whether the row i is a member.
use Rattle.std.specs.Prelude.{◌≡◌, ℕ, zero, suc, ◌+◌, ◌*◌, ◌/◌, ◌%◌, ◌^◌, ◌<◌, Bool, true, false, cond, List, [], ◌∷◌, sum_by, ◌==◌}
use Rattle.std.proofs.Common.{refl, sym, ap, ◌∙◌, arith}
use Rattle.std.proofs.Math.Nat.{pow-suc}
use Rattle.std.proofs.lemmas.Bool.{eqb-true, eqb-false}
use Rattle.std.proofs.lemmas.List.Sums.{sum_by-cons}

-- the places of the ones among the digits of n, of which there are d, the lowest at `first`
unfoldable pub ones_from : ℕ → ℕ → ℕ → List ℕ
ones_from zero first n = []
ones_from (suc d) first n = cond (n % 2 == 1) (first ∷ ones_from d (suc first) (n / 2)) (ones_from d (suc first) (n / 2))

-- the rows whose bits are set
unfoldable pub members_of : ℕ → List ℕ
members_of mask = ones_from 61 0 mask

-- the mask of these rows
abbrev pub mask_of : List ℕ → ℕ
mask_of s = sum_by (λ i. 2 ^ i) s

-- no bit but those of the rows 1 to 60
pub record IsMask (mask : ℕ) : Type 0 where
  pub fits : mask < 2 ^ 61
  pub from_one : mask % 2 ≡ 0

-- ---- a mask is the mask of its members
scaled : (n half x y m : ℕ) → n ≡ half * 2 + 1 → y ≡ x * 2 → m ≡ half * y → x + m ≡ n * x
scaled n half x y m e f g = ap (λ k. x + k) (g ∙ ap (λ k. half * k) f) ∙ omega arith ∙ ap (λ k. k * x) (sym e)

scaled_even : (n half x y m : ℕ) → n ≡ half * 2 → y ≡ x * 2 → m ≡ half * y → m ≡ n * x
scaled_even n half x y m e f g = g ∙ ap (λ k. half * k) f ∙ omega arith ∙ ap (λ k. k * x) (sym e)

mask_of-step : (n first : ℕ) (rest : List ℕ) (b : Bool) → (n % 2 == 1) ≡ b → mask_of rest ≡ n / 2 * 2 ^ suc first → mask_of (cond b (first ∷ rest) rest) ≡ n * 2 ^ first
mask_of-step n first rest true e h = let one = eqb-true _ _ e in sum_by-cons (λ i. 2 ^ i) first rest ∙ scaled n (n / 2) (2 ^ first) (2 ^ suc first) (mask_of rest) (omega (arith, one)) (pow-suc 2 first) h
mask_of-step n first rest false e h = let none = eqb-false _ _ e in scaled_even n (n / 2) (2 ^ first) (2 ^ suc first) (mask_of rest) (omega (arith, none)) (pow-suc 2 first) h

mask_of-ones_from : (d first n : ℕ) → n < 2 ^ d → mask_of (ones_from d first n) ≡ n * 2 ^ first
unfolding ones_from
mask_of-ones_from zero first n h = let none : n ≡ 0 = omega arith in let zero_times : 0 ≡ 0 * 2 ^ first = omega arith in zero_times ∙ ap (λ k. k * 2 ^ first) (sym none)
mask_of-ones_from (suc d) first n h = mask_of-step n first (ones_from d (suc first) (n / 2)) (n % 2 == 1) refl (mask_of-ones_from d (suc first) (n / 2) (omega (arith, pow-suc 2 d)))

pub mask_of-members_of : (n : ℕ) → IsMask n → mask_of (members_of n) ≡ n
unfolding members_of
mask_of-members_of n h = mask_of-ones_from 61 0 n h.fits ∙ omega arith
