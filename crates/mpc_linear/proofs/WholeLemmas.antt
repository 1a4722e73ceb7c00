-- Common denominators, and the numerators over them.
use Rattle.std.proofs.Common.{◌≡◌, ℕ, zero, suc, ◌+◌, ◌*◌, ◌/◌, ◌^◌, ◌<◌, ◌≤◌, List, [], ◌∷◌, ◌++◌, length, get_or, take, map, ℤ, pos, ◌<ℤ◌, unsigned_abs, refl, sym, ◌∙◌, ap, subst, subst₂, arith, ⊎_elim}
use Rattle.std.proofs.lemmas.Bool.{cases_eq}
use Rattle.std.proofs.lemmas.List.{take_more, map_more, take_all}
use native.Mathlib.Nat.{le_of_dvd}
use Rattle.mpc_exact.specs.Gcd.{gcd, lcm}
use Rattle.mpc_exact.specs.Rational.{ℚ, quotient, denom_positive}
use Rattle.mpc_exact.specs.Denominator.{common_denom, IsCommonDenom}
use Rattle.mpc_exact.proofs.School.{quotient_positive}
use Rattle.mpc_exact.proofs.Denominator.{common_denom_is, common_denom_least, common_denom-positive, common_denom-last, over_multiple}
use Rattle.mpc_linear.specs.Whole.{scaled, ScaledFit, WholeFits, IsLeastForm}

-- ---- the least common multiple, from the divisor that was found
pub lcm_from : (a b g : ℕ) → g ≡ gcd a b → a / g * b ≡ lcm a b
unfolding lcm
lcm_from a b g e = ap (λ d. a / d * b) e

pub lcm_found : (a b g m : ℕ) → g ≡ gcd a b → m ≡ a / g * b → m ≡ lcm a b
lcm_found a b g m e h = h ∙ lcm_from a b g e

above : (m n k : ℕ) → n ≤ m → m ≡ k → n ≤ k
above m n k h e = subst (λ x. n ≤ x) e h

-- ---- a least common denominator, fraction by fraction
common_prefix : (n k : ℕ) (c : List ℚ) → IsCommonDenom n c → IsCommonDenom n (take k c)
common_prefix n zero c h = tt
common_prefix n (suc k) [] h = tt
common_prefix n (suc k) (x ∷ xs) h = (h.0, common_prefix n k xs h.1)

prefix_below : (k : ℕ) (c : List ℚ) → common_denom (take k c) ≤ common_denom c
prefix_below k c = le_of_dvd (common_denom-positive c) (common_denom_least (common_denom c) (take k c) (common_prefix (common_denom c) k c (common_denom_is c)))

module _ (c : List ℚ) (k all : ℕ) (x : ℚ) (d : ℕ) (h : k < length c) (e : all ≡ common_denom (take k c)) (r : x ≡ get_or c k x) (q : d ≡ x.denom) where
  next_denom : lcm all d ≡ common_denom (take (k + 1) c)
  next_denom =
      (λ i. lcm (e i) (q i)) ∙ sym (common_denom-last (take k c) x) ∙ ap (λ y. common_denom (take k c ++ (y ∷ []))) r ∙ ap common_denom (sym (take_more c k x h))

  pub denom_more : (m : ℕ) → m ≡ lcm all d → m ≡ common_denom (take (k + 1) c)
  denom_more m f = f ∙ next_denom

  pub denom_wide : (n : ℕ) → n ≤ lcm all d → n ≤ common_denom c
  denom_wide n w = let l = prefix_below (k + 1) c in let v = above (lcm all d) n (common_denom (take (k + 1) c)) w next_denom in omega arith

pub denom_all : (c : List ℚ) (k all : ℕ) → length c ≤ k → all ≡ common_denom (take k c) → all ≡ common_denom c
denom_all c k all h e = e ∙ ap common_denom (take_all k c h)

pub denom-positive : (c : List ℚ) (all : ℕ) → all ≡ common_denom c → 0 < all
denom-positive c all e = subst (λ n. 0 < n) (sym e) (common_denom-positive c)

pub denom-from : (x : ℚ) (d : ℕ) → d ≡ x.denom → 0 < d
denom-from x d e = subst (λ n. 0 < n) (sym e) (denom_positive x)

-- ---- the numerators, one by one
module _ (all : ℕ) (c : List ℚ) (k : ℕ) (x : ℚ) (h : k < length c) (r : x ≡ get_or c k x) where
  pub numerators_more : (zs ws : List ℤ) (z : ℤ) → zs ≡ map (scaled all) (take k c) → ws ≡ zs ++ (z ∷ []) → z ≡ scaled all x → ws ≡ map (scaled all) (take (k + 1) c)
  numerators_more zs ws z e f g = f ∙ (λ i. e i ++ ((g ∙ ap (scaled all) r) i ∷ [])) ∙ sym (map_more (scaled all) c k x h)

  read_at : (d : ℚ) → x ≡ get_or c k d
  read_at d = r ∙ same_at c k x d h
    where
      same_at : (xs : List ℚ) (k : ℕ) (d e : ℚ) → k < length xs → get_or xs k d ≡ get_or xs k e
      same_at [] k d e h = absurd (omega arith)
      same_at (y ∷ ys) zero d e h = refl
      same_at (y ∷ ys) (suc k) d e h = same_at ys k d e (omega arith)

  pub fit_more : (z : ℤ) → z ≡ scaled all x → unsigned_abs z < 2 ^ 127 → ((j : ℕ) (d : ℚ) → j < k → unsigned_abs (scaled all (get_or c j d)) < 2 ^ 127) → (j : ℕ) (d : ℚ) → j < k + 1 → unsigned_abs (scaled all (get_or c j d)) < 2 ^ 127
  fit_more z e f b j d l =
      ⊎_elim
      (λ q. subst (λ i. unsigned_abs (scaled all (get_or c i d)) < 2 ^ 127) (sym q) (subst (λ y. unsigned_abs y < 2 ^ 127) (e ∙ ap (scaled all) (read_at d)) f))
      (λ q. b j d (omega arith))
      (cases_eq j k)

  pub fit_wide : 2 ^ 127 ≤ unsigned_abs (scaled all x) → ScaledFit all c → ⊥
  fit_wide w f = clash (unsigned_abs (scaled all x)) (2 ^ 127) w (subst (λ y. unsigned_abs (scaled all y) < 2 ^ 127) (sym r) (f k x h))
    where
      clash : (m n : ℕ) → n ≤ m → m < n → ⊥
      clash m n a b = omega arith

-- ---- the form
form_same : (all : ℕ) (c : List ℚ) → 0 < all → IsCommonDenom all c → map (λ z. quotient z (pos all)) (map (scaled all) c) ≡ c
form_same all [] p h = refl
form_same all (x ∷ xs) p h = λ i. (quotient_positive (scaled all x) all p ∙ over_multiple x all p h.0) i ∷ form_same all xs p h.1 i

form_least : (c : List ℚ) → IsLeastForm c (pos (common_denom c)) (map (scaled (common_denom c)) c)
form_least c = record {
  positive = positive_pos (common_denom c) (common_denom-positive c);
  same = form_same (common_denom c) c (common_denom-positive c) (common_denom_is c);
  common = common_denom_is c;
  divides = λ n h. common_denom_least n c h;
  least = λ n some h. le_of_dvd some (common_denom_least n c h);
}
  where
    positive_pos : (n : ℕ) → 0 < n → pos 0 <ℤ pos n
    positive_pos n h = omega (arith, Rattle.std.proofs.lemmas.Int.ints)

pub form_is : (c : List ℚ) (den : ℤ) (k : List ℤ) → den ≡ pos (common_denom c) → k ≡ map (scaled (common_denom c)) c → IsLeastForm c den k
form_is c den k e f = subst₂ (λ d j. IsLeastForm c d j) (sym e) (sym f) (form_least c)

pub fits_from : (c : List ℚ) (all : ℕ) → all ≡ common_denom c → all < 2 ^ 127 → ScaledFit all c → WholeFits c
fits_from c all e h f = record { denom = subst (λ n. n < 2 ^ 127) e h; numers = subst (λ n. ScaledFit n c) e f }
