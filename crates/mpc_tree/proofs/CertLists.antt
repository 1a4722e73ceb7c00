-- Certificates are made from multipliers one after the other.
use Rattle.std.proofs.Common.{◌≡◌, ℕ, suc, ◌+◌, ◌<◌, List, [], ◌∷◌, ◌++◌, cond, true, false, ◌⊎◌, inl, inr, length, get_or, take, pos, refl, sym, ◌∙◌, ap, subst, arith}
use Rattle.std.proofs.lemmas.Bool.{cond-true, cond-false, cases_Bool, and_parts, and_from}
use Rattle.std.proofs.lemmas.List.{append-nil, take_more, length-append, length-take-le}
use Rattle.mpc_exact.specs.Rational.{ℚ, int}
use Rattle.mpc_rows.specs.Certificates.{RisesFrom, IsCert}
use Rattle.mpc_rows.specs.Run.{is_zero}
use Rattle.mpc_exact.specs.Rational.{le_ℚ}
use Rattle.mpc_exact.proofs.OrderTheorems.{le_ℚ-true, le_ℚ-false}
use Rattle.mpc_exact.proofs.RationalOrder.{≤ℚ_antisymm, <ℚ_irrefl}
use Rattle.mpc_tree.specs.LeafCerts.{nonzero_from}

pub false_true : false ≡ true → ⊥
false_true e = cc

-- ---- the test for 0
is_zero-true : (c : ℚ) → is_zero c ≡ true → c ≡ int (pos 0)
is_zero-true c h = let m = and_parts (le_ℚ c (int (pos 0))) (le_ℚ (int (pos 0)) c) h in ≤ℚ_antisymm (le_ℚ-true m.0) (le_ℚ-true m.1)

zero-is_zero : (c : ℚ) → c ≡ int (pos 0) → is_zero c ≡ true
zero-is_zero c e = ap is_zero e ∙ and_from _ _ passes passes
  where
    passes : le_ℚ (int (pos 0)) (int (pos 0)) ≡ true
    passes =
        elim (cases_Bool (le_ℚ (int (pos 0)) (int (pos 0)))) [ inl t ↦ t | inr f ↦ absurd (<ℚ_irrefl (le_ℚ-false {x = int (pos 0)} {y = int (pos 0)} f)) ]

-- ---- the positions of the multipliers that aren't 0 rise
rises : (last p : ℕ) (ms : List ℚ) → last < p → RisesFrom last (nonzero_from p ms)
rises last p [] h = tt
rises last p (m ∷ ms) h = by (cases_Bool (is_zero m)) (rises last (p + 1) ms (omega arith)) (rises p (p + 1) ms (omega arith))
  where
    true_false : true ≡ false → ⊥
    true_false e = cc

    by : (is_zero m ≡ true) ⊎ (is_zero m ≡ false) → RisesFrom last (nonzero_from (p + 1) ms) → RisesFrom p (nonzero_from (p + 1) ms) → RisesFrom last (cond (is_zero m) (nonzero_from (p + 1) ms) ((p, m) ∷ nonzero_from (p + 1) ms))
    by (inl e) skip take = subst (RisesFrom last) (sym (cond-true (is_zero m) (nonzero_from (p + 1) ms) ((p, m) ∷ nonzero_from (p + 1) ms) e)) skip
    by (inr e) skip take =
        subst (RisesFrom last) (sym (cond-false (is_zero m) (nonzero_from (p + 1) ms) ((p, m) ∷ nonzero_from (p + 1) ms) e))
        (h, (λ z. true_false (sym (zero-is_zero m z) ∙ e)), take)

pub nonzero-is_cert : (ms : List ℚ) → IsCert (nonzero_from 1 ms)
nonzero-is_cert ms = record { rises = rises 0 1 ms (omega arith) }

-- one more
one : ℕ → ℚ → List (ℕ × ℚ)
one p m = cond (is_zero m) [] ((p, m) ∷ [])

nonzero-append : (p : ℕ) (ms : List ℚ) (m : ℚ) → nonzero_from p (ms ++ m ∷ []) ≡ nonzero_from p ms ++ one (p + length ms) m
unfolding one
nonzero-append p [] m = ap (λ q. cond (is_zero m) [] ((q, m) ∷ [])) (omega arith)
nonzero-append p (x ∷ ms) m = by (cases_Bool (is_zero x)) (nonzero-append (p + 1) ms m ∙ ap (λ q. nonzero_from (p + 1) ms ++ one q m) (omega arith))
  where
    by : (is_zero x ≡ true) ⊎ (is_zero x ≡ false) → nonzero_from (p + 1) (ms ++ m ∷ []) ≡ nonzero_from (p + 1) ms ++ one (p + suc (length ms)) m → cond (is_zero x) (nonzero_from (p + 1) (ms ++ m ∷ [])) ((p, x) ∷ nonzero_from (p + 1) (ms ++ m ∷ [])) ≡ cond (is_zero x) (nonzero_from (p + 1) ms) ((p, x) ∷ nonzero_from (p + 1) ms) ++ one (p + suc (length ms)) m
    by (inl e) step =
        subst (λ b. cond b (nonzero_from (p + 1) (ms ++ m ∷ [])) ((p, x) ∷ nonzero_from (p + 1) (ms ++ m ∷ [])) ≡ cond b (nonzero_from (p + 1) ms) ((p, x) ∷ nonzero_from (p + 1) ms) ++ one (p + suc (length ms)) m) (sym e) step
    by (inr e) step =
        subst (λ b. cond b (nonzero_from (p + 1) (ms ++ m ∷ [])) ((p, x) ∷ nonzero_from (p + 1) (ms ++ m ∷ [])) ≡ cond b (nonzero_from (p + 1) ms) ((p, x) ∷ nonzero_from (p + 1) ms) ++ one (p + suc (length ms)) m) (sym e) (ap (λ r. (p, x) ∷ r) step)

module _ (ms : List ℚ) (i : ℕ) (m : ℚ) (within : i < length ms) (is : m ≡ get_or ms i (int (pos 0))) where
  more : nonzero_from 1 (take (i + 1) ms) ≡ nonzero_from 1 (take i ms) ++ one (i + 1) m
  more =
      ap (nonzero_from 1) (take_more ms i (int (pos 0)) within ∙ ap (λ x. take i ms ++ x ∷ []) (sym is)) ∙ nonzero-append 1 (take i ms) m
      ∙ ap (λ q. nonzero_from 1 (take i ms) ++ one q m) (omega (arith, length-take-le i ms (omega arith)))

  pub more_of_zero : (cert : List (ℕ × ℚ)) → cert ≡ nonzero_from 1 (take i ms) → m ≡ int (pos 0) → cert ≡ nonzero_from 1 (take (i + 1) ms)
  unfolding one
  more_of_zero cert e z = e ∙ sym (append-nil (nonzero_from 1 (take i ms))) ∙ sym (more ∙ ap (λ r. nonzero_from 1 (take i ms) ++ r) (cond-true (is_zero m) [] ((i + 1, m) ∷ []) (zero-is_zero m z)))

  pub more_of_nonzero : (cert new : List (ℕ × ℚ)) → cert ≡ nonzero_from 1 (take i ms) → (¬ (m ≡ int (pos 0))) → new ≡ cert ++ (i + 1, m) ∷ [] → new ≡ nonzero_from 1 (take (i + 1) ms)
  unfolding one
  more_of_nonzero cert new e z k = k ∙ ap (λ r. r ++ (i + 1, m) ∷ []) e ∙ sym (more ∙ ap (λ r. nonzero_from 1 (take i ms) ++ r) (cond-false (is_zero m) [] ((i + 1, m) ∷ []) (not_zero z)))
    where
      not_zero : (¬ (m ≡ int (pos 0))) → is_zero m ≡ false
      not_zero z = by (cases_Bool (is_zero m))
        where
          by : (is_zero m ≡ true) ⊎ (is_zero m ≡ false) → is_zero m ≡ false
          by (inl e) = absurd (z (is_zero-true m e))
          by (inr e) = e

  pub cert_grows : (cert : List (ℕ × ℚ)) → cert ≡ nonzero_from 1 (take i ms) → (¬ (m ≡ int (pos 0))) → IsCert (cert ++ (i + 1, m) ∷ [])
  cert_grows cert e z = subst IsCert (sym (more_of_nonzero cert (cert ++ (i + 1, m) ∷ []) e z refl)) (nonzero-is_cert (take (i + 1) ms))

  -- ---- how many there are
  pub count_of_zero : (count : ℕ) → count ≡ length (nonzero_from 1 (take i ms)) → m ≡ int (pos 0) → count ≡ length (nonzero_from 1 (take (i + 1) ms))
  count_of_zero count e z = e ∙ ap length (more_of_zero (nonzero_from 1 (take i ms)) refl z)

  pub count_of_nonzero : (count new : ℕ) → count ≡ length (nonzero_from 1 (take i ms)) → (¬ (m ≡ int (pos 0))) → new ≡ count + 1 → new ≡ length (nonzero_from 1 (take (i + 1) ms))
  count_of_nonzero count new e z k =
      let cert = nonzero_from 1 (take i ms) in
      k ∙ ap (λ n. n + 1) e ∙ sym (length-append cert ((i + 1, m) ∷ [])) ∙ ap length (more_of_nonzero cert (cert ++ (i + 1, m) ∷ []) refl z refl)
