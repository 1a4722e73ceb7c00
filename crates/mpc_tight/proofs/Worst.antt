-- The disturbance that adds the most to a row: at each step the noise with the signs of the row that is carried to the end.
use Rattle.std.proofs.Common.{◌≡◌, ℕ, zero, suc, ◌-◌, ◌<◌, ◌≤◌, Bool, true, false, cond, List, [], ◌∷◌, length, get_or, pos, refl, sym, ◌∙◌, ap, arith}
use Rattle.std.specs.List.{AllByRecursion}
use Rattle.std.proofs.lemmas.List.Elements.{All-from_recursion}
use Rattle.mpc_exact.specs.Rational.{ℚ, int, abs_ℚ, neg_ℚ, le_ℚ, ◌+ℚ◌, ◌*ℚ◌, ◌≤ℚ◌, IsNonneg}
use Rattle.mpc_exact.proofs.RationalRing.{reads, by_ring}
use Rattle.mpc_exact.proofs.RationalOrder.{≤ℚ_of_<}
use Rattle.mpc_exact.proofs.OrderTheorems.{le_ℚ-true, le_ℚ-false, ≤ℚ_of_≡}
use Rattle.mpc_exact.proofs.Absolute.{abs-same, abs-negated, abs_neg}
use Rattle.mpc_space.specs.Vector.{dot, AllNonneg, AllAtMost}
use Rattle.mpc_plant.specs.declared.plants.Plant.{Plant}
use Rattle.mpc_tight.specs.Disturbed.{sizes, disturbance_at, IsDisturbance}
use Rattle.mpc_tight.specs.Tightening.{carried, tightening}
use Rattle.mpc_tight.proofs.Spread.{added, tightening_first}

-- w with the sign of x
pub pick : ℚ → ℚ → ℚ
pick x w = cond (le_ℚ (int (pos 0)) x) w (neg_ℚ w)

pick_product : (x w : ℚ) → x *ℚ pick x w ≡ abs_ℚ x *ℚ w
unfolding pick
pick_product x w = by (le_ℚ (int (pos 0)) x) refl
  where
    by : (b : Bool) → le_ℚ (int (pos 0)) x ≡ b → x *ℚ cond b w (neg_ℚ w) ≡ abs_ℚ x *ℚ w
    by true e = ap (λ z. z *ℚ w) (sym (abs-same x (le_ℚ-true e)))
    by false e = by_ring (x ∷ w ∷ []) (search reads depth 30) (search reads depth 30) tt ∙ ap (λ z. z *ℚ w) (sym (abs-negated x (≤ℚ_of_< (le_ℚ-false e))))

pick_within : (x w : ℚ) → IsNonneg w → abs_ℚ (pick x w) ≤ℚ w
unfolding pick
pick_within x w h = by (le_ℚ (int (pos 0)) x)
  where
    by : (b : Bool) → abs_ℚ (cond b w (neg_ℚ w)) ≤ℚ w
    by true = ≤ℚ_of_≡ (abs-same w h)
    by false = ≤ℚ_of_≡ (abs_neg w ∙ abs-same w h)

-- the noise with the signs of a row
abbrev pub worst : List ℚ → List ℚ → List ℚ
worst [] noise = noise
worst (x ∷ a) [] = []
worst (x ∷ a) (w ∷ noise) = pick x w ∷ worst a noise

pub worst_dot : (a noise : List ℚ) → dot a (worst a noise) ≡ dot (sizes a) noise
worst_dot [] noise = refl
worst_dot (x ∷ a) [] = refl
worst_dot (x ∷ a) (w ∷ noise) = λ i. pick_product x w i +ℚ worst_dot a noise i

pub worst_within : (a noise : List ℚ) → AllNonneg noise → AllAtMost (sizes (worst a noise)) noise
worst_within [] [] h = tt
worst_within [] (w ∷ noise) h = (≤ℚ_of_≡ (abs-same w h.0), worst_within [] noise h.1)
worst_within (x ∷ a) [] h = tt
worst_within (x ∷ a) (w ∷ noise) h = (pick_within x w h.0, worst_within a noise h.1)

-- ---- one list a step
abbrev listing : ℕ → (ℕ → List ℚ) → List (List ℚ)
listing zero f = []
listing (suc n) f = f 0 ∷ listing n (λ i. f (suc i))

listing_length : (n : ℕ) (f : ℕ → List ℚ) → length (listing n f) ≡ n
listing_length zero f = refl
listing_length (suc n) f = ap suc (listing_length n (λ i. f (suc i)))

listing_at : (n : ℕ) (f : ℕ → List ℚ) (i : ℕ) → i < n → get_or (listing n f) i [] ≡ f i
listing_at zero f i h = absurd (omega arith)
listing_at (suc n) f zero h = refl
listing_at (suc n) f (suc i) h = listing_at n (λ j. f (suc j)) i (omega arith)

listing_all : (P : List ℚ → Type 0) (n : ℕ) (f : ℕ → List ℚ) → ((i : ℕ) → P (f i)) → AllByRecursion P (listing n f)
listing_all P zero f h = tt
listing_all P (suc n) f h = (h 0, listing_all P n (λ i. f (suc i)) (λ i. h (suc i)))

module _ (plant : Plant) (noise : List ℚ) (nonneg : AllNonneg noise) (a : List ℚ) (k : ℕ) where
  pub step : ℕ → List ℚ
  step i = worst (carried plant a (k - suc i)) noise

  -- the worst disturbance for the row at step k
  abbrev pub worst_steps : List (List ℚ)
  worst_steps = listing plant.horizon step

  pub is_disturbance : IsDisturbance plant noise worst_steps
  unfolding step
  is_disturbance = record {
    steps = listing_length plant.horizon step;
    within = All-from_recursion (λ d. AllAtMost (sizes d) noise) worst_steps
        (listing_all (λ d. AllAtMost (sizes d) noise) plant.horizon step (λ i. worst_within (carried plant a (k - suc i)) noise nonneg));
  }

  added_from : (m : ℕ) → m ≤ k → k ≤ plant.horizon → added plant worst_steps (carried plant a (k - m)) m ≡ tightening plant noise (carried plant a (k - m)) m
  unfolding step
  added_from zero l h = refl
  added_from (suc m) l h =
      let c = carried plant a (k - suc m) in
      let back : suc (k - suc m) ≡ k - m = omega arith in
      let at : disturbance_at worst_steps m ≡ worst c noise = listing_at plant.horizon step m (omega arith) in
      (λ i. (ap (λ j. added plant worst_steps (carried plant a j) m) back ∙ added_from m (omega arith) h ∙ ap (λ j. tightening plant noise (carried plant a j) m) (sym back)) i
      +ℚ (ap (dot c) at ∙ worst_dot c noise) i)
      ∙ sym (tightening_first plant noise c m)

  pub added_worst : k ≤ plant.horizon → added plant worst_steps a k ≡ tightening plant noise a k
  added_worst h =
      let none : k - k ≡ 0 = omega arith in
      ap (λ j. added plant worst_steps (carried plant a j) k) (sym none) ∙ added_from k (omega arith) h ∙ ap (λ j. tightening plant noise (carried plant a j) k) none
