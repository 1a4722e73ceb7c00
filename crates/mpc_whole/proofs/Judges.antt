-- What a number may have, so that its products are within a room.
use Rattle.std.proofs.Common.{Option, Some, None, IfSome, ℕ, ◌*◌, ◌/◌, ◌<◌, ◌≤◌, arith, mul-le-mul_right, mul-le-mul_left, le_trans, le_refl}

-- an equal share of the room
pub shared_out : (r m k z t : ℕ) → 0 < m → 0 < k → t ≤ m → z ≤ (r / m) / k → (z * k) * t ≤ r
shared_out r m k z t hm hk l h =
    let a : z * k ≤ ((r / m) / k) * k = mul-le-mul_right k h in
    let b : k * ((r / m) / k) ≤ r / m = omega arith in
    let d : z * k ≤ r / m = omega arith in
    let e : (z * k) * t ≤ (z * k) * m = mul-le-mul_left (z * k) l in
    let f : (z * k) * m ≤ (r / m) * m = mul-le-mul_right m d in
    let g : m * (r / m) ≤ r = omega arith in
    omega arith

pub turned_round : (n a r : ℕ) → a * n ≤ r → n * a ≤ r
turned_round n a r h = omega arith

pub within_share : (r t m : ℕ) → 0 < t → m ≤ r / t → m * t ≤ r
within_share r t m h l =
    let a : m * t ≤ (r / t) * t = mul-le-mul_right t l in
    let b : t * (r / t) ≤ r = omega arith in
    omega arith

pub shared_side : (r n b q z : ℕ) → 0 < n → 0 < q → b ≤ q → z ≤ (r / n) / q → n * (z * b) ≤ r
shared_side r n b q z hn hq l h =
    let a : (z * q) * n ≤ r = shared_out r n q z n hn hq (omega arith) h in
    let d : z * b ≤ z * q = mul-le-mul_left z l in
    let e : (z * b) * n ≤ (z * q) * n = mul-le-mul_right n d in
    omega arith

-- what two clauses say of the value in a Some
pub both_some : {X : Type 0} (r : Option X) {P Q R : X → Type 0} → IfSome r P → IfSome r Q → ((x : X) → P x → Q x → R x) → IfSome r R
both_some None h k f = tt
both_some (Some x) h k f = f x h k

-- numbers that aren't above those with room have room too
pub room_within : (r m k g z s t : ℕ) → (m * k) * g ≤ r → z ≤ m → s ≤ k → t ≤ g → (z * s) * t ≤ r
room_within r m k g z s t h l q e = le_trans (mul-le-mul_left (z * s) e) (le_trans (mul-le-mul_right g (le_trans (mul-le-mul_left z q) (mul-le-mul_right k l))) h)

pub room_below : (r m k g z t : ℕ) → (m * k) * g ≤ r → z ≤ m → t ≤ g → (z * k) * t ≤ r
room_below r m k g z t h l e = room_within r m k g z k t h l (le_refl k) e
