-- Lists that are built entry by entry.
use Rattle.std.proofs.Common.{◌≡◌, ℕ, ◌+◌, ◌<◌, true, false, eqb, List, [], ◌∷◌, ◌++◌, slice_get, Some, length, get_or, pos, sym, ◌∙◌, ap, subst, arith, ◌⊎◌, inl, inr, eq-eqb, ne_eqb}
use Rattle.std.proofs.lemmas.Bool.{cond-true, cond-false, cases_eq}
use Rattle.std.proofs.lemmas.List.{get_or_push, get_or_append_left}
use Rattle.std.proofs.lemmas.Option.{slice_get-get_or}
use Rattle.mpc_exact.specs.Pair.{Pair}
use Rattle.mpc_exact.specs.Rational.{ℚ, int, neg_ℚ}
use Rattle.mpc_rows.specs.LinearSystem.{LinearSystem}
use Rattle.mpc_rows.specs.Run.{Position, multiplier}

-- one more entry at the end
pub pushed : {X Y : Type 0} (g : X → Y) (xs : List X) (d v : X) (i : ℕ) (f : ℕ → Y) → length xs ≡ i → ((j : ℕ) → j < i → g (get_or xs j d) ≡ f j) → g v ≡ f i → (j : ℕ) → j < i + 1 → g (get_or (xs ++ v ∷ []) j d) ≡ f j
pushed g xs d v i f e h k j l = by (cases_eq j i)
  where
    by : (j ≡ i) ⊎ (j ≡ i → ⊥) → g (get_or (xs ++ v ∷ []) j d) ≡ f j
    by (inl q) = ap g (get_or_push xs v d j (e ∙ sym q)) ∙ k ∙ ap f (sym q)
    by (inr q) = ap g (get_or_append_left xs (v ∷ []) d j (omega arith)) ∙ h j (omega arith)

-- ---- the multipliers
module _ (s : LinearSystem) (p : Position) (l i x : ℕ) (e : x ≡ s.width + i) where
  pub multiplier_own : x ≡ l → int (pos 1) ≡ multiplier s p l i
  unfolding multiplier
  multiplier_own h = sym (cond-true (eqb (s.width + i) l) _ _ (eq-eqb (s.width + i) l (sym e ∙ h)))

  pub multiplier_basic : (x ≡ l → ⊥) → p.is_basic x ≡ true → int (pos 0) ≡ multiplier s p l i
  unfolding multiplier
  multiplier_basic h b = sym (cond-false (eqb (s.width + i) l) _ _ (ne_eqb (s.width + i) l (λ q. h (e ∙ q))) ∙ cond-true (p.is_basic (s.width + i)) _ _ (subst (λ z. p.is_basic z ≡ true) e b))

  pub multiplier_free : (x ≡ l → ⊥) → p.is_basic x ≡ false → neg_ℚ (p.coefficient l x) ≡ multiplier s p l i
  unfolding multiplier
  multiplier_free h b =
      ap (λ z. neg_ℚ (p.coefficient l z)) e
      ∙ sym (cond-false (eqb (s.width + i) l) _ _ (ne_eqb (s.width + i) l (λ q. h (e ∙ q))) ∙ cond-false (p.is_basic (s.width + i)) _ _ (subst (λ z. p.is_basic z ≡ false) e b))

-- ---- pairs, entry by entry
abbrev pub no_pair : ℚ × ℚ
no_pair = (int (pos 0), int (pos 0))

abbrev pub pair_of : ℚ × ℚ → Pair
pair_of q = record { first = q.0; second = q.1 }

abbrev pub pair_in : List (ℚ × ℚ) → ℕ → Pair
pair_in v j = pair_of (get_or v j no_pair)

pub pair_found : (v : List (ℚ × ℚ)) (j : ℕ) (p : Pair) → j < length v → pair_in v j ≡ p → (q : ℚ × ℚ) × (slice_get v j ≡ Some q) × (q.0 ≡ p.first) × (q.1 ≡ p.second)
pair_found v j p h e = (get_or v j no_pair, slice_get-get_or v j no_pair h, ap (λ (z : Pair). z.first) e, ap (λ (z : Pair). z.second) e)
