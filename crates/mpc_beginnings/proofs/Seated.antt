-- Seats of further sides, one after another.
use Rattle.std.proofs.Common.{◌≡◌, ℕ, ◌+◌, ◌-◌, ◌≤◌, List, ◌++◌, [], ◌∷◌, subst, arith}
use Rattle.mpc_runs.specs.declared.variables.Seat.{Seat}
use Rattle.mpc_runs.specs.declared.variables.Seat.TheVariants.{Row}
use Rattle.mpc_runs.specs.Table.{IsSeated}
use Rattle.mpc_beginnings.specs.LongerSeats.{AreLongerSeats}
use Rattle.mpc_beginnings.proofs.LongerSeats.{seated_longer, none_longer, one_longer}

-- the first seats, and those of the sides in the rows below r
abbrev pub AreSeatedTo : (height r : ℕ) (first seats : List Seat) → Type 0
AreSeatedTo height r first seats = (w n : ℕ) → IsSeated height w n first → IsSeated r w (n + (r - height)) seats × AreLongerSeats n first seats

pub one_more : (height r : ℕ) (first seats : List Seat) → height ≤ r → AreSeatedTo height r first seats → AreSeatedTo height (r + 1) first (seats ++ Row r ∷ [])
one_more height r first seats h z w n i =
    let old = z w n i in
    let e : (n + (r - height)) + 1 ≡ n + ((r + 1) - height) = omega arith in (
      subst (λ m. IsSeated (r + 1) w m (seats ++ Row r ∷ [])) e (seated_longer r w (n + (r - height)) seats old.0),
      one_longer n first r w (n + (r - height)) seats old.0 (omega arith) old.1,
    )

pub none_more : (height : ℕ) (first : List Seat) → AreSeatedTo height height first first
none_more height first w n i =
    let e : n ≡ n + (height - height) = omega arith in
    (subst (λ m. IsSeated height w m first) e i, none_longer n first i.each)

-- all further sides
pub all_seated : (height longer r : ℕ) (first seats : List Seat) → r ≡ longer → AreSeatedTo height r first seats → AreSeatedTo height longer first seats
all_seated height longer r first seats e z = subst (λ q. AreSeatedTo height q first seats) e z
