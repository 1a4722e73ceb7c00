-- The greatest common divisor of the numbers of a row of a table, number by number, and what is left without it.
use Rattle.std.proofs.Common.{◌≡◌, ℕ, zero, suc, ◌+◌, ◌*◌, ◌/◌, ◌%◌, ◌^◌, ◌<◌, ◌≤◌, ℤ, pos, negsuc, ◌+ℤ◌, ◌*ℤ◌, neg_ℤ, int_div, unsigned_abs, to_z, of_z, refl, sym, ◌∙◌, ap, subst, arith, ⊎_elim, zero-lt-suc, le_trans, mul-le-mul_left, mul-le-mul_right}
use Rattle.std.specs.Int.{◌∣◌, w64, w128}
use Rattle.std.proofs.lemmas.Bool.{cases_eq}
use Rattle.std.proofs.lemmas.Int.{ints, unsigned_abs-mul, fits_signed_from_abs, to_z-of_z}
use Rattle.std.proofs.lemmas.Nat.Gcd.{dvd_trans, dvd-zero, IsGcd-from_mod, IsGcd-swap, same_from_IsGcd}
use Rattle.std.proofs.Math.Nat.{one-dvd}
use native.Mathlib.Nat.{le_of_dvd}
use Rattle.mpc_exact.specs.Gcd.{gcd, gcd_is, gcd-divides_left, gcd-divides_right, gcd_greatest, gcd_comm, gcd_zero}
use Rattle.mpc_space.proofs.Words.{read_back}
use Rattle.mpc_runs.specs.WholeNumbers.{turned}
use Rattle.mpc_region.specs.SweptRows.{DividesEach, IsSharedBy}

-- ---- sizes of integers
pub abs_negated : (a : ℤ) → unsigned_abs (neg_ℤ a) ≡ unsigned_abs a
abs_negated (pos zero) = refl
abs_negated (pos (suc n)) = refl
abs_negated (negsuc n) = refl

pub abs_product : (u v : ℤ) (m n : ℕ) → unsigned_abs u ≤ m → unsigned_abs v ≤ n → unsigned_abs (u *ℤ v) ≤ m * n
abs_product u v m n h k =
    subst (λ z. z ≤ m * n) (sym (unsigned_abs-mul u v)) (le_trans (mul-le-mul_right (unsigned_abs v) h) (mul-le-mul_left m k))

pub abs_sum : (u v : ℤ) → unsigned_abs (u +ℤ v) ≤ unsigned_abs u + unsigned_abs v
abs_sum u v = omega (arith, ints)

pub read_short : (z : ℤ) → unsigned_abs z ≤ 2 ^ 62 → to_z w64 (of_z w64 z) ≡ z
read_short z h = to_z-of_z w64 z (fits_signed_from_abs w64 z (omega arith))

-- ---- number by number
pub shared_none : (f : ℕ → ℤ) → IsSharedBy f 0 0
shared_none f = record { divides = record { each = λ j h. absurd (omega arith) }; greatest = λ n h. dvd-zero n }

fewer : (n : ℕ) (f : ℕ → ℤ) (k count : ℕ) → k ≤ count → DividesEach n f count → DividesEach n f k
fewer n f k count h d = record { each = λ j l. d.each j (omega arith) }

pub shared_more : (f : ℕ → ℤ) (k g size g' : ℕ) → size ≡ unsigned_abs (f k) → g' ≡ gcd g size → IsSharedBy f k g → IsSharedBy f (k + 1) g'
shared_more f k g size g' e q s = subst (IsSharedBy f (k + 1)) (sym (q ∙ ap (gcd g) e)) (record {
  divides = record {
    each = λ j h. ⊎_elim
        (λ p. subst (λ i. gcd g (unsigned_abs (f k)) ∣ unsigned_abs (f i)) (sym p) (gcd-divides_right g (unsigned_abs (f k))))
        (λ p. dvd_trans (gcd g (unsigned_abs (f k))) (gcd-divides_left g (unsigned_abs (f k))) (s.divides.each j (omega arith)))
        (cases_eq j k);
  };
  greatest = λ n d. gcd_greatest g (unsigned_abs (f k)) n (s.greatest n (fewer n f k (k + 1) (omega arith) d)) (d.each k (omega arith));
})

-- where 1 is that of the first, it is that of all
pub shared_one : (f : ℕ → ℤ) (k count g one : ℕ) → k ≤ count → g ≡ 1 → one ≡ 1 → IsSharedBy f k g → IsSharedBy f count one
shared_one f k count g one h e q s = subst (IsSharedBy f count) (sym q) (record {
  divides = record { each = λ j l. one-dvd (unsigned_abs (f j)) };
  greatest = λ n d. subst (λ m. n ∣ m) e (s.greatest n (fewer n f k count h d));
})

pub gcd_at_most : (a b m : ℕ) → a ≤ m → b ≤ m → gcd a b ≤ m
gcd_at_most zero b m ha hb = subst (λ n. n ≤ m) (sym (gcd_comm zero b ∙ gcd_zero b)) hb
gcd_at_most (suc a) b m ha hb = let l : gcd (suc a) b ≤ suc a = le_of_dvd (zero-lt-suc a) (gcd-divides_left (suc a) b) in omega arith

-- the first number before the others
pub shared_first : (f others : ℕ → ℤ) (count g size g' : ℕ) → ((j : ℕ) → others j ≡ f (suc j)) → size ≡ unsigned_abs (f 0) → g' ≡ gcd g size → IsSharedBy others count g → IsSharedBy f (count + 1) g'
shared_first f others count g size g' o e q s = subst (IsSharedBy f (count + 1)) (sym (q ∙ ap (gcd g) e)) (record {
  divides = record { each = at };
  greatest = λ n d. gcd_greatest g (unsigned_abs (f 0)) n
      (s.greatest n (record { each = λ j h. subst (λ z. n ∣ unsigned_abs z) (sym (o j)) (d.each (suc j) (omega arith)) }))
      (d.each 0 (omega arith));
})
  where
    at : (j : ℕ) → j < count + 1 → gcd g (unsigned_abs (f 0)) ∣ unsigned_abs (f j)
    at zero h = gcd-divides_right g (unsigned_abs (f 0))
    at (suc j) h =
        dvd_trans (gcd g (unsigned_abs (f 0))) (gcd-divides_left g (unsigned_abs (f 0))) (subst (λ z. g ∣ unsigned_abs z) (o j) (s.divides.each j (omega arith)))

-- ---- two numbers
-- what a number shares with what is left of the other
pub gcd_rest : (shared size rest : ℕ) → rest ≡ size % shared → gcd rest shared ≡ gcd shared size
gcd_rest shared size rest e =
    let g = gcd (size % shared) shared in
    ap (λ r. gcd r shared) e
    ∙ same_from_IsGcd shared size g (gcd shared size)
    (IsGcd-swap size shared g (IsGcd-from_mod size shared g (IsGcd-swap (size % shared) shared g (gcd_is (size % shared) shared))))
    (gcd_is shared size)

pub gcd_right : (a b : ℕ) → 0 < b → gcd a b ≤ b
gcd_right a b h = le_of_dvd h (gcd-divides_right a b)

pub gcd_none : (a b : ℕ) → a ≡ 0 → gcd a b ≡ b
gcd_none a b e = ap (λ n. gcd n b) e ∙ gcd_comm 0 b ∙ gcd_zero b

pub shared_small : (g size g' m : ℕ) (z : ℤ) → size ≡ unsigned_abs z → unsigned_abs z ≤ m → g' ≡ gcd g size → g ≤ m → g' ≤ m
shared_small g size g' m z e h q k = subst (λ n. n ≤ m) (sym q) (gcd_at_most g size m k (subst (λ n. n ≤ m) (sym e) h))

-- the size of a quotient, with the sign
pub turned_quotient : (z : ℤ) (by : ℕ) → turned z (pos (unsigned_abs z / by)) ≡ int_div z (pos by)
turned_quotient (pos a) by = refl
turned_quotient (negsuc a) by = refl

-- what the code reads of a number of the table
module _ (z number : ℤ) (e : z ≡ number) (h : unsigned_abs number ≤ 2 ^ 62) where
  pub read_number : to_z w64 (of_z w64 z) ≡ number
  read_number = read_short z (subst (λ y. unsigned_abs y ≤ 2 ^ 62) (sym e) h) ∙ e

  pub read_size : (size : ℕ) → size ≡ unsigned_abs (to_z w64 (of_z w64 z)) → size ≡ unsigned_abs number
  read_size size q = q ∙ ap unsigned_abs read_number

-- what the code reads of a number in twice the width
pub read_wide : (z : ℤ) → unsigned_abs z ≤ 2 ^ 62 → to_z w128 (of_z w128 (to_z w64 (of_z w64 z))) ≡ z
read_wide z h = ap (λ y. to_z w128 (of_z w128 y)) (read_short z h) ∙ read_back z (omega arith)
