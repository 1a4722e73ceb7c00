-- The ring solver at the fractions. `by_ring (x ∷ y ∷ []) (search reads depth 30) (search reads depth 30) tt` proves an equation
-- between two polynomials in x and y, the atoms of the list: any terms of type ℚ.
use Rattle.std.proofs.Common.{◌≡◌, List, T, ℤ}
use Rattle.mpc_exact.specs.Rational.{ℚ, frac, ◌+ℚ◌, ◌*ℚ◌, neg_ℚ}
use Rattle.mpc_exact.proofs.Ring.{Read, Among, first, later, read_var, read_lit, read_add, read_mul, read_neg, by_reading, agree, from_one, from_two}
use Rattle.mpc_exact.proofs.Rational.{rational_ring}

module _ {xs : List ℚ} where
  abbrev pub rat_var : {x : ℚ} → Among xs x → Read rational_ring xs x
  rat_var p = read_var rational_ring p

  abbrev pub rat_lit : (n : ℤ) → Read rational_ring xs (frac n 1)
  rat_lit n = read_lit rational_ring n

  abbrev pub rat_add : {x y : ℚ} → Read rational_ring xs x → Read rational_ring xs y → Read rational_ring xs (x +ℚ y)
  rat_add r s = read_add rational_ring r s

  abbrev pub rat_mul : {x y : ℚ} → Read rational_ring xs x → Read rational_ring xs y → Read rational_ring xs (x *ℚ y)
  rat_mul r s = read_mul rational_ring r s

  abbrev pub rat_neg : {x : ℚ} → Read rational_ring xs x → Read rational_ring xs (neg_ℚ x)
  rat_neg r = read_neg rational_ring r

pub ruleset reads = (first, later, rat_add, rat_mul, rat_neg, rat_lit, rat_var)

pub by_ring : (xs : List ℚ) {x y : ℚ} (r : Read rational_ring xs x) (s : Read rational_ring xs y) → T (agree r.as_expr s.as_expr) → x ≡ y
by_ring xs r s t = by_reading rational_ring r s t

-- l ≡ r from s ≡ t, by l + k t ≡ r + k s
pub by_equation : {l r s t : ℚ} (k : ℚ) → s ≡ t → l +ℚ k *ℚ t ≡ r +ℚ k *ℚ s → l ≡ r
by_equation k e h = from_one rational_ring k e h

pub by_equations : {l r s t u v : ℚ} (k m : ℚ) → s ≡ t → u ≡ v → l +ℚ k *ℚ t +ℚ m *ℚ v ≡ r +ℚ k *ℚ s +ℚ m *ℚ u → l ≡ r
by_equations k m e f h = from_two rational_ring k m e f h
