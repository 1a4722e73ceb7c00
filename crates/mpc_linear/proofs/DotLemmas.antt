-- A dot, term by term.
use Rattle.std.proofs.Common.{◌≡◌, ℕ, ◌+◌, ◌<◌, ◌≤◌, List, [], ◌∷◌, length, get_or, drop, refl, sym, ◌∙◌, ap, subst, subst₂}
use Rattle.std.proofs.lemmas.List.{drop_more, drop_all}
use Rattle.mpc_exact.specs.Rational.{ℚ, ◌+ℚ◌, ◌*ℚ◌}
use Rattle.mpc_exact.proofs.RationalRing.{reads, by_ring}
use Rattle.mpc_space.specs.Vector.{dot}
use Rattle.mpc_linear.specs.Dot.{TermFits, SumFits}
use Rattle.mpc_linear.specs.SumTheorems.{IsSumSoFar}

pub goes_none : (start : ℚ) (xs ys : List ℚ) → IsSumSoFar start xs ys 0 start
goes_none start xs ys = record { value = refl; ahead = λ h. h; back = λ h. h }

module _ (start : ℚ) (xs ys : List ℚ) (k : ℕ) (sum x y : ℚ) (kx : k < length xs) (ky : k < length ys) (ex : x ≡ get_or xs k x) (ey : y ≡ get_or ys k y) (g : IsSumSoFar start xs ys k sum) where
  front : drop k xs ≡ x ∷ drop (k + 1) xs
  front = drop_more xs k x kx ∙ ap (λ z. z ∷ drop (k + 1) xs) (sym ex)

  behind : drop k ys ≡ y ∷ drop (k + 1) ys
  behind = drop_more ys k y ky ∙ ap (λ z. z ∷ drop (k + 1) ys) (sym ey)

  pub goes_more : (next : ℚ) → next ≡ sum +ℚ x *ℚ y → TermFits sum x y → IsSumSoFar start xs ys (k + 1) next
  goes_more next e t = record {
    value =
        (λ i. e i +ℚ dot (drop (k + 1) xs) (drop (k + 1) ys))
        ∙ by_ring (sum ∷ x ∷ y ∷ dot (drop (k + 1) xs) (drop (k + 1) ys) ∷ []) (search reads depth 30) (search reads depth 30) tt
        ∙ (λ i. sum +ℚ dot (sym front i) (sym behind i)) ∙ g.value;
    ahead = λ h. g.ahead (subst₂ (λ us vs. SumFits sum us vs) (sym front) (sym behind) (t, subst (λ z. SumFits z (drop (k + 1) xs) (drop (k + 1) ys)) e h));
    back = λ h. subst (λ z. SumFits z (drop (k + 1) xs) (drop (k + 1) ys)) (sym e) (subst₂ (λ us vs. SumFits sum us vs) front behind (g.back h)).1;
  }

  pub goes_wide : (TermFits sum x y → ⊥) → SumFits start xs ys → ⊥
  goes_wide w h = w (subst₂ (λ us vs. SumFits sum us vs) front behind (g.back h)).0

module _ (start : ℚ) (xs ys : List ℚ) (k : ℕ) (sum : ℚ) (kx : length xs ≤ k) (g : IsSumSoFar start xs ys k sum) where
  pub goes_value : sum ≡ start +ℚ dot xs ys
  goes_value =
      by_ring (sum ∷ []) (search reads depth 30) (search reads depth 30) tt
      ∙ ap (λ us. sum +ℚ dot us (drop k ys)) (sym (drop_all k xs kx)) ∙ g.value

  pub goes_fits : SumFits start xs ys
  goes_fits = g.ahead (subst (λ us. SumFits sum us (drop k ys)) (sym (drop_all k xs kx)) tt)
