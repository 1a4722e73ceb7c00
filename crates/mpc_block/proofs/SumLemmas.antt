-- Sums of whole numbers times counts, and rows at counts.
use Rattle.std.proofs.Common.{◌≡◌, ℕ, suc, ◌+◌, ◌-◌, ◌*◌, ◌^◌, ◌<◌, ◌≤◌, ℤ, pos, ◌*ℤ◌, ◌≤ℤ◌, unsigned_abs, List, [], ◌∷◌, Bool, true, false, cond, ltb, Some, None, length, map, take, refl, sym, ◌∙◌, ap, subst, arith}
use Rattle.std.specs.Prelude.{slice_range}
use Rattle.std.specs.Prelude.{T}
use Rattle.std.specs.Int.{w128}
use Rattle.std.specs.Int.Signed.{le_z, le_z_yes}
use mir.Val.{to_z, of_z}
use Rattle.std.proofs.lemmas.Int.{fits_signed_from_abs, to_z-of_z}
use Rattle.std.proofs.lemmas.Bool.Decides.{nat_tests}
use Rattle.std.proofs.Math.Nat.{mul-le-mul_left}
use Rattle.mpc_exact.specs.Rational.{int, ◌+ℚ◌, ◌≤ℚ◌}
use Rattle.mpc_exact.proofs.Rational.{int-add, int-mul}
use Rattle.mpc_exact.proofs.School.{int_le}
use Rattle.mpc_space.specs.Vector.{dot}
use Rattle.mpc_linear.specs.declared.integers.RowInt.{RowInt}
use Rattle.mpc_plant.specs.Trajectory.{point_of}
use Rattle.mpc_controller.specs.Bounds.{reach}
use Rattle.mpc_controller.specs.Replies.{outside_from}
use Rattle.mpc_controller.specs.Walk.{Satisfies}
use Rattle.mpc_table.specs.Forms.{weighed, AreUpTo}

-- a number of the code, as read back from its bits
pub read : (z : ℤ) → unsigned_abs z < 2 ^ 127 → to_z w128 (of_z w128 z) ≡ z
read z h = to_z-of_z w128 z (fits_signed_from_abs w128 z h)

-- ---- counts up to limits
pub reach_mono : (ks : List ℤ) (ss ts : List ℕ) → AreUpTo ss ts → reach ks ss ≤ reach ks ts
reach_mono [] ss ts h = omega arith
reach_mono (k ∷ ks) [] [] h = omega arith
reach_mono (k ∷ ks) [] (t ∷ ts) h = absurd h
reach_mono (k ∷ ks) (s ∷ ss) [] h = absurd h
reach_mono (k ∷ ks) (s ∷ ss) (t ∷ ts) h = let m : unsigned_abs k * s ≤ unsigned_abs k * t = mul-le-mul_left (unsigned_abs k) h.0 in omega (arith, m, reach_mono ks ss ts h.1)

pub up_to_length : (ss ts : List ℕ) → AreUpTo ss ts → length ss ≡ length ts
up_to_length [] [] h = refl
up_to_length [] (t ∷ ts) h = absurd h
up_to_length (s ∷ ss) [] h = absurd h
up_to_length (s ∷ ss) (t ∷ ts) h = ap suc (up_to_length ss ts h.1)

pub none_outside : (i : ℕ) (limits counts : List ℕ) → length counts ≡ length limits → outside_from i limits counts ≡ None → AreUpTo counts limits
none_outside i [] [] e h = tt
none_outside i [] (c ∷ cs) e h = absurd (omega arith)
none_outside i (l ∷ ls) [] e h = absurd (omega arith)
none_outside i (l ∷ ls) (c ∷ cs) e h = by (ltb l c) refl h (λ k. none_outside (i + 1) ls cs (omega arith) k)
  where
    by : (b : Bool) → ltb l c ≡ b → cond b (Some i) (outside_from (i + 1) ls cs) ≡ None → (outside_from (i + 1) ls cs ≡ None → AreUpTo cs ls) → AreUpTo (c ∷ cs) (l ∷ ls)
    by true t k later = absurd cc
    by false t k later = (at_most t, later k)
      where
        at_most : ltb l c ≡ false → c ≤ l
        at_most t = grind (arith, nat_tests)

-- ---- a row at counts
dot_weighed : (ks : List ℤ) (ts : List ℕ) → dot (map int ks) (point_of ts) ≡ int (weighed ks ts)
dot_weighed [] ts = refl
dot_weighed (k ∷ ks) [] = refl
dot_weighed (k ∷ ks) (t ∷ ts) = (λ i. sym (int-mul k (pos t)) i +ℚ dot_weighed ks ts i) ∙ sym (int-add (k *ℤ pos t) (weighed ks ts))

pub satisfied : (row : RowInt) (ts : List ℕ) → weighed row.a ts ≤ℤ row.b → Satisfies row (point_of ts)
satisfied row ts h = record { at_most = subst (λ x. x ≤ℚ int row.b) (sym (dot_weighed row.a ts)) ((int_le (weighed row.a ts) row.b).1 h) }

pub at_most : (row : RowInt) (ts : List ℕ) → Satisfies row (point_of ts) → weighed row.a ts ≤ℤ row.b
at_most row ts h = (int_le (weighed row.a ts) row.b).0 (subst (λ x. x ≤ℚ int row.b) (dot_weighed row.a ts) h.at_most)

-- ---- numbers of a line: the first, and those behind it
pub behind : (x : ℤ) (rest : List ℤ) (n : ℕ) → slice_range (x ∷ rest) 1 (1 + n) ≡ take n rest
behind x rest n = let e : 1 + n - 1 ≡ n = omega arith in ap (λ k. take k rest) e

pub first_of_taken : (x : ℤ) (rest : List ℤ) (n : ℕ) → take (n + 1) (x ∷ rest) ≡ x ∷ take n rest
first_of_taken x rest n = let e : n + 1 ≡ suc n = omega arith in ap (λ k. take k (x ∷ rest)) e

-- ---- what a comparison found
pub found_le : (a b : ℤ) → le_z a b ≡ true → a ≤ℤ b
found_le a b e = le_z_yes (subst T (sym e) tt)

pub found_gt : (a b : ℤ) → le_z a b ≡ false → ¬ a ≤ℤ b
found_gt a b e h = subst T e h.le
