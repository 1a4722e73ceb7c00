-- The integers are a commutative ring.
use Rattle.std.proofs.Common.{◌≡◌, ℤ, pos, negsuc, ◌+ℤ◌, ◌*ℤ◌, neg_ℤ, refl, arith, ap, ◌+◌, ◌*◌}
use Rattle.std.proofs.Common.{◌<◌, ◌≤◌, ◌≤ℤ◌, ◌<ℤ◌, mul-le-mul_right, le_of_mul-le-mul_right, lt_of_mul-lt-mul_right, mul-lt-mul_of_pos_right}
use borrow.Author.Differences.{up, down, product_is, sum_is_lem, same_in, same_out, le_out, at_most_in, lt_out, below_in}
use native.Mathlib.Nat.{eq_of_mul-eq-mul_right}
use Rattle.std.proofs.Math.IntN.{+ℤ_comm, +ℤ_assoc, +ℤ_idr, +ℤ_invr, *ℤ_comm}
use Rattle.std.proofs.lemmas.Int.{ints}
use Rattle.std.proofs.Common.{List, ℕ, T}
use Rattle.mpc_exact.proofs.Ring.{Ring, Read, Among, first, later, read_var, read_lit, read_add, read_mul, read_neg, by_reading, agree}

up-mul : (a b : ℤ) → up (a *ℤ b) ≡ up a * up b + down a * down b
up-mul a b = (product_is a b).0

down-mul : (a b : ℤ) → down (a *ℤ b) ≡ up a * down b + down a * up b
down-mul a b = (product_is a b).1

pub *ℤ_assoc : (a b c : ℤ) → (a *ℤ b) *ℤ c ≡ a *ℤ (b *ℤ c)
*ℤ_assoc a b c = same_in _ _ (simp (up-mul, down-mul) (omega arith))

pub *ℤ-one : (a : ℤ) → a *ℤ pos 1 ≡ a
*ℤ-one a = omega (arith, ints)

pub *ℤ-+ℤ : (a b c : ℤ) → a *ℤ (b +ℤ c) ≡ (a *ℤ b) +ℤ (a *ℤ c)
*ℤ-+ℤ a b c = omega (arith, ints, ap (λ n. up a * n) (sum_is_lem b c), ap (λ n. down a * n) (sum_is_lem b c))

abbrev pub int_ring : Ring
int_ring = record {
  Carrier = ℤ;
  lit = λ z. z;
  add = ◌+ℤ◌;
  mul = ◌*ℤ◌;
  neg = neg_ℤ;
  add_comm = +ℤ_comm;
  add_assoc = +ℤ_assoc;
  add_zero = +ℤ_idr;
  add_neg = +ℤ_invr;
  mul_comm = *ℤ_comm;
  mul_assoc = *ℤ_assoc;
  mul_one = *ℤ-one;
  mul-add = *ℤ-+ℤ;
  lit-add = λ m n. refl;
  lit-mul = λ m n. refl;
}

-- ---- the solver that reads the equation itself: `by_ring_ℤ (a ∷ b ∷ []) (search int_reads depth 30) (search int_reads depth 30) tt`
module _ {xs : List ℤ} where
  abbrev pub int_var : {x : ℤ} → Among xs x → Read int_ring xs x
  int_var p = read_var int_ring p

  abbrev pub int_lit : (n : ℕ) → Read int_ring xs (pos n)
  int_lit n = read_lit int_ring (pos n)

  abbrev pub int_neg_lit : (n : ℕ) → Read int_ring xs (negsuc n)
  int_neg_lit n = read_lit int_ring (negsuc n)

  abbrev pub int_add : {x y : ℤ} → Read int_ring xs x → Read int_ring xs y → Read int_ring xs (x +ℤ y)
  int_add r s = read_add int_ring r s

  abbrev pub int_mul : {x y : ℤ} → Read int_ring xs x → Read int_ring xs y → Read int_ring xs (x *ℤ y)
  int_mul r s = read_mul int_ring r s

  abbrev pub int_neg : {x : ℤ} → Read int_ring xs x → Read int_ring xs (neg_ℤ x)
  int_neg r = read_neg int_ring r

pub by_ring_ℤ : (xs : List ℤ) {x y : ℤ} (r : Read int_ring xs x) (s : Read int_ring xs y) → T (agree r.as_expr s.as_expr) → x ≡ y
by_ring_ℤ xs r s t = by_reading int_ring r s t

pub ruleset int_reads = (first, later, int_add, int_mul, int_neg, int_var, int_lit, int_neg_lit)

-- ---- orders and cancelling
pub int_mul-le : {x y : ℤ} (k : ℕ) → x ≤ℤ y → (x *ℤ pos k) ≤ℤ (y *ℤ pos k)
int_mul-le {x} {y} k h = omega (arith, ints, mul-le-mul_right k (le_out x y h))

pub int_le_of_mul : {x y : ℤ} (k : ℕ) → 0 < k → (x *ℤ pos k) ≤ℤ (y *ℤ pos k) → x ≤ℤ y
int_le_of_mul {x} {y} k some h =
    let l : (up x + down y) * k ≤ (up y + down x) * k = omega (arith, ints) in
    let m : up x + down y ≤ up y + down x = le_of_mul-le-mul_right l some in
    omega (arith, ints)

pub int_mul_cancel : {x y : ℤ} (k : ℕ) → 0 < k → x *ℤ pos k ≡ y *ℤ pos k → x ≡ y
int_mul_cancel {x} {y} k some e =
    let l : (up x + down y) * k ≡ (up y + down x) * k = omega (arith, ints) in
    let m : up x + down y ≡ up y + down x = eq_of_mul-eq-mul_right k some _ _ l in
    omega (arith, ints)

-- x ≤ y, where y - x is k times v - u and u ≤ v
pub int_le_by : {x y u v : ℤ} (k : ℕ) → u ≤ℤ v → x +ℤ (v *ℤ pos k) ≡ y +ℤ (u *ℤ pos k) → x ≤ℤ y
int_le_by {x} {y} {u} {v} k h e = let l = int_mul-le k h in omega (arith, same_out, le_out, at_most_in, sum_is_lem)

pub int_lt_of_mul : {x y : ℤ} (k : ℕ) → (x *ℤ pos k) <ℤ (y *ℤ pos k) → x <ℤ y
int_lt_of_mul {x} {y} k h =
    let l : (up x + down y) * k < (up y + down x) * k = omega (arith, ints) in
    let m : up x + down y < up y + down x = lt_of_mul-lt-mul_right k l in
    omega (arith, ints)

pub int_mul-lt : {x y : ℤ} (k : ℕ) → 0 < k → x <ℤ y → (x *ℤ pos k) <ℤ (y *ℤ pos k)
int_mul-lt {x} {y} k some h = omega (arith, ints, mul-lt-mul_of_pos_right (lt_out x y h) some)

pub int_lt_by : {x y u v : ℤ} (k : ℕ) → 0 < k → u <ℤ v → x +ℤ (v *ℤ pos k) ≡ y +ℤ (u *ℤ pos k) → x <ℤ y
int_lt_by {x} {y} {u} {v} k some h e = let l = int_mul-lt k some h in omega (arith, same_out, lt_out, below_in, sum_is_lem)
