-- What a weight is at least, so that a number in a column is weighed by it.
use Rattle.std.proofs.Common.{ℕ, ◌*◌, ◌≤◌, List, ℤ, arith, le_trans, mul-le-mul_left}
use Rattle.mpc_rows.specs.LinearSystem.{LinearSystem}
use Rattle.mpc_whole.specs.Judged.{IsWeighedAt}

-- a product with a scale and a factor is at most that with a weight
pub with_factor : (z k t f w m : ℕ) → f * k ≤ w → t ≤ f → z * w ≤ m → (z * k) * t ≤ m
with_factor z k t f w m h l q =
    let a : (z * k) * t ≤ (z * k) * f = mul-le-mul_left (z * k) l in
    let b : z * (f * k) ≤ z * w = mul-le-mul_left z h in
    omega arith

-- so is the product of a count with a number and a side
pub with_side : (z x t w m : ℕ) → x * t ≤ w → z * w ≤ m → t * (z * x) ≤ m
with_side z x t w m h q =
    let b : z * (x * t) ≤ z * w = mul-le-mul_left z h in
    omega arith

-- a greater weight serves too
pub weighs_more : (s : LinearSystem) (k : List ℕ) (e top size y : ℕ) (z : ℤ) (w m : ℕ) → IsWeighedAt s k e top size y z w → w ≤ m → IsWeighedAt s k e top size y z m
weighs_more s k e top size y z w m h l = record {
  entering = λ q. le_trans (h.entering q) l;
  other = λ q. le_trans (h.other q) l;
  first = λ side x q. le_trans (h.first side x q) l;
  second = le_trans h.second l;
}
