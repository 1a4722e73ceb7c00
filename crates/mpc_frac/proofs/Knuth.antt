-- A sum over the least common denominator: only what the two denominators share can cancel.
use Rattle.std.proofs.Common.{◌≡◌, ℕ, ◌+◌, ◌-◌, ◌*◌, ◌/◌, ℤ, pos, ◌+ℤ◌, ◌*ℤ◌, unsigned_abs, ◌⊎◌, ⊎_elim, sym, ◌∙◌, ap, subst, arith}
use Rattle.std.specs.Int.{◌∣◌}
use Rattle.std.proofs.lemmas.Int.{ints, unsigned_abs-mul}
use Rattle.std.proofs.lemmas.Nat.Gcd.{dvd_trans, dvd_refl}
use Rattle.std.proofs.Math.Nat.{mul-div_cancel', mul-div_assoc, mul_comm, mul_assoc, dvd-mul_left, dvd-add, dvd-sub, eq-one_of_dvd-one}
use Rattle.mpc_exact.specs.Gcd.{gcd, gcd_is, gcd_comm, gcd-divides_left, gcd-divides_right, gcd-parts, coprime_divisors, coprime-mul}
use Rattle.mpc_exact.specs.Rational.{ℚ, denom_positive, parts_coprime}
use Rattle.mpc_frac.specs.Fits.{common, left_of_sum, right_of_sum, denom_of_sum}
use Rattle.mpc_frac.proofs.Binary.{gcd-strip}

-- ---- a divisor of a sum and of one part divides the other part
sizes : (u v : ℤ) → ((unsigned_abs u ≡ unsigned_abs (u +ℤ v) + unsigned_abs v) ⊎ (unsigned_abs u ≡ unsigned_abs (u +ℤ v) - unsigned_abs v)) ⊎ (unsigned_abs u ≡ unsigned_abs v - unsigned_abs (u +ℤ v))
sizes u v = grind (arith, ints)

part_divides : (u v : ℤ) (e : ℕ) → e ∣ unsigned_abs (u +ℤ v) → e ∣ unsigned_abs v → e ∣ unsigned_abs u
part_divides u v e h k = ⊎_elim
    (λ s. ⊎_elim (λ p. subst (λ n. e ∣ n) (sym p) (dvd-add e h k)) (λ p. subst (λ n. e ∣ n) (sym p) (dvd-sub e h k)) s)
    (λ p. subst (λ n. e ∣ n) (sym p) (dvd-sub e k h)) (sizes u v)

-- a sum a q + c p has nothing in common with p, where neither a nor q has
apart : (a c : ℤ) (p q : ℕ) → gcd (unsigned_abs a) p ≡ 1 → gcd q p ≡ 1 → gcd (unsigned_abs (a *ℤ pos q +ℤ c *ℤ pos p)) p ≡ 1
apart a c p q ap_one qp_one =
    let t = unsigned_abs (a *ℤ pos q +ℤ c *ℤ pos p) in
    let e = gcd t p in
    let of_p : e ∣ p = gcd-divides_right t p in
    let of_second : e ∣ unsigned_abs (c *ℤ pos p) = subst (λ n. e ∣ n) (sym (unsigned_abs-mul c (pos p))) (dvd_trans e of_p (dvd-mul_left p (unsigned_abs c))) in
    let of_first : e ∣ unsigned_abs a * q = subst (λ n. e ∣ n) (unsigned_abs-mul a (pos q)) (part_divides (a *ℤ pos q) (c *ℤ pos p) e (gcd-divides_left t p) of_second) in
    let one : gcd (unsigned_abs a * q) p ≡ 1 = gcd_comm (unsigned_abs a * q) p ∙ coprime-mul p (unsigned_abs a) q (gcd_comm p (unsigned_abs a) ∙ ap_one) (gcd_comm p q ∙ qp_one) in
    eq-one_of_dvd-one (subst (λ n. e ∣ n) one ((gcd_is (unsigned_abs a * q) p).2 e of_first of_p))

module _ (x y : ℚ) where
  abbrev g : ℕ
  g = common x y

  abbrev p : ℕ
  p = x.denom / g

  abbrev q : ℕ
  q = y.denom / g

  abbrev t : ℕ
  t = unsigned_abs (left_of_sum x y +ℤ right_of_sum x y)

  p_is : g * p ≡ x.denom
  p_is = mul-div_cancel' g (gcd-divides_left x.denom y.denom)

  q_is : g * q ≡ y.denom
  q_is = mul-div_cancel' g (gcd-divides_right x.denom y.denom)

  pq : gcd p q ≡ 1
  pq = gcd-parts x.denom y.denom (denom_positive y)

  of_left : p ∣ x.denom
  of_left = subst (λ n. p ∣ n) p_is (dvd-mul_left p g)

  of_right : q ∣ y.denom
  of_right = subst (λ n. q ∣ n) q_is (dvd-mul_left q g)

  apart_left : gcd t p ≡ 1
  apart_left = apart x.numer y.numer p q (coprime_divisors (unsigned_abs x.numer) x.denom (unsigned_abs x.numer) p (parts_coprime x) (dvd_refl (unsigned_abs x.numer)) of_left) (gcd_comm q p ∙ pq)

  apart_right : gcd t q ≡ 1
  apart_right = ap (λ z. gcd (unsigned_abs z) q) (turned (left_of_sum x y) (right_of_sum x y))
      ∙ apart y.numer x.numer q p (coprime_divisors (unsigned_abs y.numer) y.denom (unsigned_abs y.numer) q (parts_coprime y) (dvd_refl (unsigned_abs y.numer)) of_right) pq
    where
      turned : (u v : ℤ) → u +ℤ v ≡ v +ℤ u
      turned u v = omega (arith, ints)

  grouped : denom_of_sum x y ≡ (p * q) * g
  grouped = ap (λ n. n * q) (sym p_is) ∙ ap (λ n. n * q) (mul_comm g p) ∙ mul_assoc p g q ∙ ap (λ n. p * n) (mul_comm g q) ∙ sym (mul_assoc p q g)

  pub shared_is : gcd t (denom_of_sum x y) ≡ gcd t (common x y)
  shared_is = ap (gcd t) grouped ∙ gcd-strip t (p * q) g (coprime-mul t p q apart_left apart_right)

-- a divisor of the first factor
pub divided_first : (b q h : ℕ) → h ∣ b → (b / h) * q ≡ b * q / h
divided_first b q h k = mul_comm (b / h) q ∙ sym (mul-div_assoc h q k) ∙ ap (λ n. n / h) (mul_comm q b)
