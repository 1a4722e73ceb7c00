-- Sums of products with counts, over one denominator, whose sizes show that each operation on the way to them fits.
use Rattle.std.proofs.Common.{◌≡◌, ℕ, zero, suc, ◌+◌, ◌*◌, ◌^◌, ◌<◌, ◌≤◌, List, [], ◌∷◌, length, get_or, ℤ, pos, ◌+ℤ◌, ◌*ℤ◌, neg_ℤ, unsigned_abs, to_z, of_z, sym, ◌∙◌, ap, subst, subst₂, arith, lit<}
use Rattle.std.specs.Int.{w128}
use Rattle.std.proofs.lemmas.Int.{ints, fits_signed_from_abs, to_z-of_z}
use Rattle.mpc_exact.specs.Rational.{ℚ, frac, int, ◌+ℚ◌, ◌-ℚ◌, ◌*ℚ◌, neg_ℚ}
use Rattle.mpc_exact.proofs.Rational.{frac-mul, frac-neg}
use Rattle.mpc_exact.proofs.School.{quotient_positive}
use Rattle.mpc_frac.specs.Fits.{FitsFrac, FitsSum}
use Rattle.mpc_space.specs.Vector.{coordinate, dot}
use Rattle.mpc_linear.specs.SumTheorems.{SumTheorems, IsSumSoFar}
use Rattle.mpc_bordered.specs.Stages.{ChangeFits}
use Rattle.mpc_wholes.specs.OverTheorems.{OverTheorems}
use Rattle.mpc_online.specs.Openings.{AreCountsTo, IsSmallSum}
use Rattle.mpc_online.proofs.Quotients.{over_one}
use Rattle.mpc_online.proofs.RowTests.{nothing_more}
use Rattle.mpc_online.proofs.WholeDots.{abs-add, zero_over, product_at_most}

-- the sum of the first k products is a number of at most this size over the denominator
pub record IsSmallSoFar (all : ℕ) (xs c : List ℚ) (k t : ℕ) : Type 0 where
  pub numerator : ℤ
  pub size : unsigned_abs numerator ≤ t
  pub so_far : IsSumSoFar (int (pos 0)) xs c k (frac numerator all)

-- a small number is read back as it is
pub read_small : (z : ℤ) → unsigned_abs z ≤ 2 ^ 124 → to_z w128 (of_z w128 z) ≡ z
read_small z h = to_z-of_z w128 z (fits_signed_from_abs w128 z (omega (arith, h)))

-- what an index reads
pub count_read : (xs : List ℕ) (i x : ℕ) → i < length xs → x ≡ get_or xs i x → x ≡ get_or xs i 0
count_read [] i x h e = absurd (omega arith)
count_read (y ∷ xs) zero x h e = e
count_read (y ∷ xs) (suc i) x h e = count_read xs i x (omega arith) e

module _ (over : OverTheorems) (all : ℕ) (some : 0 < all) (few : all ≤ 2 ^ 124) where
  all_small : all < 2 ^ 127
  all_small = omega (arith, few)

  term_is : (z : ℤ) (n : ℕ) → frac z all *ℚ int (pos n) ≡ frac (z *ℤ pos n) all
  term_is z n =
      ap (λ v. frac z all *ℚ v) (sym (over_one (pos n)) ∙ quotient_positive (pos n) 1 (lit< tt)) ∙ frac-mul z all (pos n) 1 some (lit< tt)
      ∙ (let e : all * 1 ≡ all = omega arith in ap (frac (z *ℤ pos n)) e)

  module _ (laws : SumTheorems) (xs c : List ℚ) where
    pub small_none : IsSmallSoFar all xs c 0 0
    small_none = record { numerator = pos 0; size = omega arith; so_far = subst (IsSumSoFar (int (pos 0)) xs c 0) (sym (zero_over all some)) (laws.none (int (pos 0)) xs c) }

    pub small_more : (most : List ℕ) → AreCountsTo most c → length xs ≡ length most → (k t next count : ℕ) (z : ℤ) (x : ℚ) → k < length xs → x ≡ coordinate xs k → x ≡ frac z all
        → count ≡ get_or most k 0 → next ≡ t + unsigned_abs z * count → next ≤ 2 ^ 124 → IsSmallSoFar all xs c k t → IsSmallSoFar all xs c (k + 1) next
    small_more most counts sizes k t next count z x h at is e sum bound g =
        let there = counts.at k (omega (arith, h, sizes)) in
        let n = there.0 in
        let p = z *ℤ pos n in
        let p_size : unsigned_abs p ≤ unsigned_abs z * count = product_at_most z (pos n) (unsigned_abs z) count (omega arith) (subst (λ m. n ≤ m) (sym e) there.1) in
        let a_size = g.size in
        let room : unsigned_abs g.numerator + unsigned_abs p ≤ next = omega (arith, p_size, a_size, sum) in
        record {
          numerator = g.numerator +ℤ p;
          size = omega (arith, room, abs-add g.numerator p);
          so_far = laws.more (int (pos 0)) xs c k (frac g.numerator all) (frac z all) (int (pos n)) (frac (g.numerator +ℤ p) all)
              (record { within_left = h; within_right = omega (arith, h, sizes, counts.size); left = sym is ∙ at; right = sym there.2 }) g.so_far
              (sym (over.sum g.numerator p all some) ∙ ap (λ v. frac g.numerator all +ℚ v) (sym (term_is z n)))
              (record {
                product = subst FitsFrac (sym (term_is z n)) (over.one p all some (omega (arith, room, bound)) all_small);
                sum = subst (FitsSum (frac g.numerator all)) (sym (term_is z n)) (over.both g.numerator p all some (omega (arith, room, bound)) all_small);
              });
        }

    pub small_all : (k t : ℕ) → length xs ≤ k → t ≤ 2 ^ 124 → IsSmallSoFar all xs c k t → IsSmallSum all xs c
    small_all k t l bound g = record {
      numerator = g.numerator;
      size = omega (arith, g.size, bound);
      is = sym (laws.value (int (pos 0)) xs c k (frac g.numerator all) l g.so_far ∙ nothing_more (dot xs c));
      fits = laws.fits (int (pos 0)) xs c k (frac g.numerator all) l g.so_far;
    }

  abs_neg : (z : ℤ) → unsigned_abs (neg_ℤ z) ≡ unsigned_abs z
  abs_neg z = omega (arith, ints)

  pub change_small : (old new c : List ℚ) → IsSmallSum all old c → IsSmallSum all new c → ChangeFits (dot old c) (dot new c)
  change_small old new c g h =
      let a = g.numerator in
      let b = h.numerator in
      let a_size = g.size in
      let b_size = h.size in
      let less = a +ℤ neg_ℤ b in
      let less_size : unsigned_abs less ≤ unsigned_abs a + unsigned_abs b = omega (arith, abs-add a (neg_ℤ b), abs_neg b) in
      let less_is : frac less all ≡ dot old c -ℚ dot new c =
      sym (over.sum a (neg_ℤ b) all some) ∙ (λ m. sym g.is m +ℚ (sym (frac-neg b all some) ∙ ap neg_ℚ (sym h.is)) m)
      in
      record {
        quotient = subst FitsFrac (sym h.is) (over.one b all some (omega (arith, b_size)) all_small);
        product = subst FitsFrac less_is (over.one less all some (omega (arith, less_size, a_size, b_size)) all_small);
        difference = subst₂ FitsSum (sym g.is) (sym (frac-neg less all some) ∙ ap neg_ℚ less_is)
            (over.both a (neg_ℤ less) all some (omega (arith, less_size, a_size, b_size, abs_neg less)) all_small);
      }
