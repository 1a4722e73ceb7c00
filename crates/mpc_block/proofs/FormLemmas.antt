-- Affine forms over their least common denominators.
use Rattle.std.proofs.Common.{◌≡◌, ℕ, zero, suc, ◌+◌, ◌-◌, ◌*◌, ◌/◌, ◌<◌, ◌≤◌, ℤ, pos, unsigned_abs, List, [], ◌∷◌, ◌++◌, length, get_or, map, take, sym, ◌∙◌, ap, subst, arith}
use Rattle.std.specs.Prelude.{All, slice_range}
use Rattle.std.proofs.lemmas.List.{length-map, map_more, take_more}
use native.Mathlib.Nat.{le_of_dvd}
use Rattle.mpc_exact.specs.Gcd.{gcd, lcm}
use Rattle.mpc_exact.specs.Rational.{ℚ}
use Rattle.mpc_exact.specs.Denominator.{common_denom, IsCommonDenom}
use Rattle.mpc_exact.proofs.Denominator.{common_denom_is, common_denom_least, common_denom-positive, common_denom-last}
use Rattle.mpc_linear.specs.Whole.{scaled}
use Rattle.mpc_controller.specs.Bounds.{reach}
use Rattle.mpc_block.specs.declared.lines.Width.{Width}
use Rattle.mpc_block.specs.Words.{number_at, numbers_in}
use Rattle.mpc_block.specs.Block.{whole, form_in}
use Rattle.mpc_block.proofs.SumLemmas.{first_of_taken}

-- ---- the least multiple, from the divisor that was found
pub lcm_from : (a b g : ℕ) → g ≡ gcd a b → a / g * b ≡ lcm a b
unfolding lcm
lcm_from a b g e = ap (λ d. a / d * b) e

-- ---- a least common denominator and the numerators, fraction by fraction
common_prefix : (n k : ℕ) (form : List ℚ) → IsCommonDenom n form → IsCommonDenom n (take k form)
common_prefix n zero form h = tt
common_prefix n (suc k) [] h = tt
common_prefix n (suc k) (x ∷ xs) h = (h.0, common_prefix n k xs h.1)

pub prefix_below : (form : List ℚ) (k : ℕ) → common_denom (take k form) ≤ common_denom form
prefix_below form k = le_of_dvd (common_denom-positive form) (common_denom_least (common_denom form) (take k form) (common_prefix (common_denom form) k form (common_denom_is form)))

pub next_denom : (form : List ℚ) (k all den : ℕ) (x : ℚ) → k < length form → all ≡ common_denom (take k form) → x ≡ get_or form k x → den ≡ x.denom → lcm all den ≡ common_denom (take (k + 1) form)
next_denom form k all den x lt all_is x_is den_is =
    (λ i. lcm (all_is i) (den_is i)) ∙ sym (common_denom-last (take k form) x) ∙ ap (λ y. common_denom (take k form ++ y ∷ [])) x_is ∙ ap common_denom (sym (take_more form k x lt))

pub next_number : (all : ℕ) (form : List ℚ) (k : ℕ) (x : ℚ) (zs : List ℤ) (z : ℤ) → k < length form → x ≡ get_or form k x → zs ≡ map (scaled all) (take k form) → z ≡ scaled all x → zs ++ z ∷ [] ≡ map (scaled all) (take (k + 1) form)
next_number all form k x zs z lt x_is zs_are z_is = (λ i. zs_are i ++ (z_is ∙ ap (scaled all) x_is) i ∷ []) ∙ sym (map_more (scaled all) form k x lt)

-- ---- the numerators in an array: the first, and those behind it
pub parts_are : (form : List ℚ) (k : List ℤ) → length k ≡ 5 → 1 ≤ length form → take (length form) k ≡ (whole form).k → get_or k 0 (pos 0) ∷ slice_range k 1 (length form) ≡ (whole form).k
parts_are form [] size some is = absurd (omega arith)
parts_are form (z ∷ zs) size some is =
    let count : length form - 1 + 1 ≡ length form = omega arith in
    sym (first_of_taken z zs (length form - 1)) ∙ ap (λ n. take n (z ∷ zs)) count ∙ is

module _ (form : List ℚ) (lead : ℤ) (others : List ℤ) (are : lead ∷ others ≡ (whole form).k) where
  pub others_count : length others + 1 ≡ length form
  others_count = let e : length (lead ∷ others) ≡ length form = ap length are ∙ length-map form (scaled (common_denom form)) in omega (arith, e)

  pub whole_reach : (spans : List ℕ) → unsigned_abs lead + reach others spans ≡ reach (whole form).k (1 ∷ spans)
  whole_reach spans = let e : reach (lead ∷ others) (1 ∷ spans) ≡ reach (whole form).k (1 ∷ spans) = ap (λ k. reach k (1 ∷ spans)) are in omega (arith, e)

  pub others_small : (most : ℕ) → All (λ z. unsigned_abs z < most) (whole form).k → All (λ z. unsigned_abs z < most) others
  others_small most small i d lt = subst (All (λ z. unsigned_abs z < most)) (sym are) small (suc i) d (omega arith)

  -- ---- the line of a form that was written
  pub form_read : (width : Width) (line : List ℕ) → number_at width line 0 ≡ pos (common_denom form) → take (length others + 1) (numbers_in width line) ≡ lead ∷ others → (n : ℕ) → length form ≡ n + 1 → form_in width n line ≡ whole form
  form_read width line den numbers n size =
      let count : n + 1 ≡ length others + 1 = omega (arith, others_count) in
      λ i. record { den = den i; k = (ap (λ m. take m (numbers_in width line)) count ∙ numbers ∙ are) i }
