-- The lists of a kept run of either width, and where further sides come behind.
use Rattle.std.proofs.Common.{◌≡◌, ℕ, ◌+◌, ◌-◌, List, true, false, cond, refl, ap, subst}
use Rattle.mpc_runs.specs.declared.variables.Seat.{Seat}
use Rattle.mpc_runs.specs.Table.{IsSeated}
use Rattle.mpc_whole.specs.Lists.{Listed, of_short, of_wide, weights_of}
use Rattle.mpc_beginnings.specs.declared.lists.KeptLists.{KeptLists}
use Rattle.mpc_beginnings.specs.LongerSeats.{AreLongerSeats}
use Rattle.mpc_beginnings.specs.RunLists.{lists_of, weight_of, AreLonger}

pub wide_of : (l : KeptLists) → l.is_wide ≡ true → lists_of l ≡ of_wide l.wide
wide_of l e = ap (λ b. cond b (of_wide l.wide) (of_short l.short)) e

pub short_of : (l : KeptLists) → l.is_wide ≡ false → lists_of l ≡ of_short l.short
short_of l e = ap (λ b. cond b (of_wide l.wide) (of_short l.short)) e

pub wide_weight : (l : KeptLists) (product j : ℕ) → l.is_wide ≡ true → weight_of l product j ≡ weights_of l.wide j
wide_weight l product j e = ap (λ b. cond b (weights_of l.wide j) product) e

pub short_weight : (l : KeptLists) (product j : ℕ) → l.is_wide ≡ false → weight_of l product j ≡ product
short_weight l product j e = ap (λ b. cond b (weights_of l.wide j) product) e

-- further seats alone make them longer
pub seats_pushed : (height longer : ℕ) (old now : Listed) (seats : List Seat) → now ≡ old
    → ((w n : ℕ) → IsSeated height w n now.seats → IsSeated longer w (n + (longer - height)) seats)
    → ((w n : ℕ) → IsSeated height w n now.seats → AreLongerSeats n now.seats seats)
    → AreLonger height longer old (record { seats = seats; nonbasic = now.nonbasic; numbers = now.numbers; firsts = now.firsts; seconds = now.seconds })
seats_pushed height longer old now seats e seated grown =
    subst (λ (t : Listed). AreLonger height longer t (record { seats = seats; nonbasic = now.nonbasic; numbers = now.numbers; firsts = now.firsts; seconds = now.seconds })) e
    (record { seated = seated; grown = grown; nonbasic = refl; numbers = refl; firsts = refl; seconds = refl })
