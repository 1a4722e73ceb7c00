-- What isn't refuted by a test holds: the bounds on a controller's numbers can be decided.
use Rattle.std.proofs.Common.{ℕ, ◌<◌, ◌^◌, List, get_or, arith, pos, unsigned_abs}
use Rattle.std.specs.Prelude.{All}
use Rattle.std.proofs.lemmas.List.Elements.{All-from_get_or, All-get_or}
use Rattle.std.proofs.Math.Nat.{lt_of_not-le}
use Rattle.mpc_exact.specs.Rational.{ℚ, int}
use Rattle.mpc_exact.specs.Denominator.{common_denom}
use Rattle.mpc_linear.specs.declared.integers.RowInt.{RowInt}
use Rattle.mpc_linear.specs.Whole.{scaled}
use Rattle.mpc_controller.specs.Bounds.{FormFits, SplitFits}

below : (m n : ℕ) → ¬ (¬ (m < n)) → m < n
below m n h = lt_of_not-le (λ le. h (λ lt. omega (arith, le, lt)))

pub all_stable : {X : Type 0} (P : X → Type 0) (d : X) → ((x : X) → ¬ (¬ P x) → P x) → (xs : List X) → ¬ (¬ All P xs) → All P xs
all_stable {X} P d each xs h = All-from_get_or P xs d (λ i within. each (get_or xs i d) (λ no. h (λ all. no (All-get_or P xs i d within all))))

pub form_stable : (counts : List ℕ) (form : List ℚ) → ¬ (¬ FormFits counts form) → FormFits counts form
form_stable counts form h =
    record {
      whole = record {
        denom = below (common_denom form) (2 ^ 127) (λ no. h (λ (f : FormFits counts form). no f.whole.denom));
        numers = all_stable (λ x. unsigned_abs (scaled (common_denom form) x) < 2 ^ 127) (int (pos 0)) (λ x. below (unsigned_abs (scaled (common_denom form) x)) (2 ^ 127)) form (λ no. h (λ (f : FormFits counts form). no f.whole.numers));
      };
      reach_fits = below _ (2 ^ 127) (λ no. h (λ (f : FormFits counts form). no f.reach_fits));
    }

pub split_stable : (counts : List ℕ) (row : RowInt) → ¬ (¬ SplitFits counts row) → SplitFits counts row
split_stable counts row h = record { reach_fits = below _ (2 ^ 127) (λ no. h (λ (f : SplitFits counts row). no f.reach_fits)) }
