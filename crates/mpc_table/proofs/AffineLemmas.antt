-- Sums of integers times counts, and affine forms over a common denominator.
use Rattle.std.proofs.Common.{◌≡◌, ◌≢◌, ℕ, suc, ◌+◌, ◌*◌, ◌<◌, ◌≤◌, ℤ, pos, ◌+ℤ◌, ◌*ℤ◌, ◌<ℤ◌, unsigned_abs, List, [], ◌∷◌, length, get_or, drop, map, refl, sym, ◌∙◌, ap, subst, arith, add-one, drop-cons}
use Rattle.std.proofs.lemmas.Int.{ints, unsigned_abs-mul}
use Rattle.std.proofs.Math.Nat.{mul-le-mul_left}
use Rattle.mpc_exact.specs.Rational.{ℚ, int, ◌+ℚ◌, ◌*ℚ◌, quotient}
use Rattle.mpc_exact.specs.Denominator.{common_denom, IsCommonDenom}
use Rattle.mpc_exact.proofs.Denominator.{common_denom_is, common_denom-positive, over_multiple}
use Rattle.mpc_exact.proofs.Rational.{int-add, int-mul}
use Rattle.mpc_exact.proofs.RationalRing.{by_ring, reads}
use Rattle.mpc_exact.proofs.RationalField.{*ℚ_cancel}
use Rattle.mpc_exact.proofs.School.{quotient_is, quotient_positive, int_not_zero}
use Rattle.mpc_space.specs.Vector.{dot}
use Rattle.mpc_plant.specs.Trajectory.{point_of}
use Rattle.mpc_controller.specs.Bounds.{reach}
use Rattle.mpc_table.specs.Forms.{weighed, AreUpTo, IsBounded, IsFormOf}
use Rattle.mpc_linear.specs.declared.integers.IntAffine.{IntAffine}
use Rattle.mpc_linear.specs.Whole.{scaled}

-- ---- one more term
next_drop : {A : Type 0} (xs : List A) (i : ℕ) (d : A) → i < length xs → drop i xs ≡ get_or xs i d ∷ drop (i + 1) xs
next_drop xs i d h = rw (add-one, drop-cons xs i d) refl

pub weighed_drop : (ks : List ℤ) (ts : List ℕ) (i : ℕ) (d : ℤ) (e : ℕ) → i < length ks → i < length ts → weighed (drop i ks) (drop i ts) ≡ get_or ks i d *ℤ pos (get_or ts i e) +ℤ weighed (drop (i + 1) ks) (drop (i + 1) ts)
weighed_drop ks ts i d e h k = λ z. weighed (next_drop ks i d h z) (next_drop ts i e k z)

pub reach_drop : (ks : List ℤ) (ts : List ℕ) (i : ℕ) (d : ℤ) (e : ℕ) → i < length ks → i < length ts → reach (drop i ks) (drop i ts) ≡ unsigned_abs (get_or ks i d) * get_or ts i e + reach (drop (i + 1) ks) (drop (i + 1) ts)
reach_drop ks ts i d e h k = λ z. reach (next_drop ks i d h z) (next_drop ts i e k z)

abs_sum : (x y : ℤ) → unsigned_abs (x +ℤ y) ≤ unsigned_abs x + unsigned_abs y
abs_sum x y = omega (arith, ints)

regroup : (next sum p w total : ℤ) → sum +ℤ (p +ℤ w) ≡ total → next ≡ sum +ℤ p → next +ℤ w ≡ total
regroup next sum p w total h k = omega (arith, ints)

-- what the loop keeps, after one more term
pub sum_step : (ks : List ℤ) (ts : List ℕ) (i : ℕ) (d : ℤ) (e : ℕ) (total sum next : ℤ) (limit : ℕ) → i < length ks → length ks ≡ length ts
    → sum +ℤ weighed (drop i ks) (drop i ts) ≡ total → next ≡ sum +ℤ (get_or ks i d *ℤ pos (get_or ts i e)) → next +ℤ weighed (drop (i + 1) ks) (drop (i + 1) ts) ≡ total
sum_step ks ts i d e total sum next limit h s inv is =
    regroup next sum (get_or ks i d *ℤ pos (get_or ts i e)) (weighed (drop (i + 1) ks) (drop (i + 1) ts)) total
    (ap (λ w. sum +ℤ w) (sym (weighed_drop ks ts i d e h (omega arith))) ∙ inv) is

pub term_fits : (ks : List ℤ) (ts : List ℕ) (i : ℕ) (d : ℤ) (e : ℕ) (sum : ℤ) (limit : ℕ) → i < length ks → length ks ≡ length ts
    → unsigned_abs sum + reach (drop i ks) (drop i ts) < limit → unsigned_abs sum + unsigned_abs (get_or ks i d) * get_or ts i e < limit
term_fits ks ts i d e sum limit h s inv = omega (arith, reach_drop ks ts i d e h (omega arith))

pub reach_step : (ks : List ℤ) (ts : List ℕ) (i : ℕ) (d : ℤ) (e : ℕ) (sum next : ℤ) (limit : ℕ) → i < length ks → length ks ≡ length ts
    → unsigned_abs sum + reach (drop i ks) (drop i ts) < limit → next ≡ sum +ℤ (get_or ks i d *ℤ pos (get_or ts i e)) → unsigned_abs next + reach (drop (i + 1) ks) (drop (i + 1) ts) < limit
reach_step ks ts i d e sum next limit h s inv is =
    let p = get_or ks i d *ℤ pos (get_or ts i e) in
    let size : unsigned_abs p ≡ unsigned_abs (get_or ks i d) * get_or ts i e = unsigned_abs-mul (get_or ks i d) (pos (get_or ts i e)) in
    let at : unsigned_abs next ≤ unsigned_abs sum + unsigned_abs p = subst (λ n. unsigned_abs n ≤ unsigned_abs sum + unsigned_abs p) (sym is) (abs_sum sum p) in
    omega (arith, reach_drop ks ts i d e h (omega arith), size, at)

-- ---- smaller counts reach less far
pub reach_mono : (ks : List ℤ) (ss ts : List ℕ) → AreUpTo ss ts → reach ks ss ≤ reach ks ts
reach_mono [] ss ts h = omega arith
reach_mono (k ∷ ks) [] [] h = omega arith
reach_mono (k ∷ ks) [] (t ∷ ts) h = absurd h
reach_mono (k ∷ ks) (s ∷ ss) [] h = absurd h
reach_mono (k ∷ ks) (s ∷ ss) (t ∷ ts) h = let m : unsigned_abs k * s ≤ unsigned_abs k * t = mul-le-mul_left (unsigned_abs k) h.0 in omega (arith, m, reach_mono ks ss ts h.1)

pub up_to_length : (ss ts : List ℕ) → AreUpTo ss ts → length ss ≡ length ts
up_to_length [] [] h = refl
up_to_length [] (t ∷ ts) h = absurd h
up_to_length (s ∷ ss) [] h = absurd h
up_to_length (s ∷ ss) (t ∷ ts) h = ap suc (up_to_length ss ts h.1)

pub bounded_at : (form : IntAffine) (counts limits : List ℕ) → IsBounded limits form → AreUpTo counts limits → IsBounded counts form
bounded_at form counts limits b h = record {
  size = omega (arith, b.size, up_to_length counts limits h);
  positive = b.positive;
  den_fits = b.den_fits;
  reach_fits = (let m : reach form.k (1 ∷ counts) ≤ reach form.k (1 ∷ limits) = reach_mono form.k (1 ∷ counts) (1 ∷ limits) (omega arith, h) in omega (arith, m, b.reach_fits));
}

-- ---- the values of a form over a common denominator
spread : (d k t r s : ℚ) → d *ℚ (k *ℚ t +ℚ s) ≡ (d *ℚ k) *ℚ t +ℚ d *ℚ s
spread d k t r s = by_ring (d ∷ k ∷ t ∷ s ∷ []) (search reads depth 30) (search reads depth 30) tt

nothing : (d : ℚ) → d *ℚ int (pos 0) ≡ int (pos 0)
nothing d = by_ring (d ∷ []) (search reads depth 30) (search reads depth 30) tt

scaled_dot : (den : ℤ) (ks : List ℤ) (ts : List ℕ) → den ≢ pos 0 → int den *ℚ dot (map (λ z. quotient z den) ks) (point_of ts) ≡ int (weighed ks ts)
scaled_dot den [] ts h = nothing (int den)
scaled_dot den (k ∷ ks) [] h = nothing (int den)
scaled_dot den (k ∷ ks) (t ∷ ts) h =
    spread (int den) (quotient k den) (int (pos t)) (int (pos 0)) (dot (map (λ z. quotient z den) ks) (point_of ts))
    ∙ (λ i. quotient_is k den h i *ℚ int (pos t) +ℚ scaled_dot den ks ts h i)
    ∙ ap (λ u. u +ℚ int (weighed ks ts)) (sym (int-mul k (pos t)))
    ∙ sym (int-add (k *ℤ pos t) (weighed ks ts))

pub form_values : (row : List ℚ) (form : IntAffine) → pos 0 <ℤ form.den → map (λ z. quotient z form.den) form.k ≡ row → IsFormOf row form
form_values row form p is =
    let apart : form.den ≢ pos 0 = omega (arith, ints) in
    record {
      value = λ ts. *ℚ_cancel (int_not_zero form.den apart)
          (quotient_is (weighed form.k (1 ∷ ts)) form.den apart ∙ sym (scaled_dot form.den form.k (1 ∷ ts) apart) ∙ ap (λ r. int form.den *ℚ dot r (point_of (1 ∷ ts))) is);
    }

over_each : (all : ℕ) (row : List ℚ) → 0 < all → IsCommonDenom all row → map (λ z. quotient z (pos all)) (map (scaled all) row) ≡ row
over_each all [] some h = refl
over_each all (x ∷ xs) some h = λ i. (quotient_positive (scaled all x) all some ∙ over_multiple x all some h.0) i ∷ over_each all xs some h.1 i

pub least_form : (row : List ℚ) → IsFormOf row (record { den = pos (common_denom row); k = map (scaled (common_denom row)) row })
least_form row = let some = common_denom-positive row in form_values row _ (positive (common_denom row) some) (over_each (common_denom row) row some (common_denom_is row))
  where
    positive : (n : ℕ) → 0 < n → pos 0 <ℤ pos n
    positive n h = omega (arith, ints)
