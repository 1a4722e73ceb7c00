-- The multipliers that a certificate names are those that it was made from, so it refutes its system.
use Rattle.std.proofs.Common.{◌≡◌, ℕ, zero, suc, ◌+◌, ◌<◌, ◌≤◌, ◌⊎◌, inl, inr, Bool, true, false, cond, List, [], ◌∷◌, length, pos, refl, sym, ◌∙◌, ap, subst, arith}
use Rattle.std.specs.Prelude.{T, eqb}
use Rattle.std.proofs.lemmas.Bool.{cond-true, cond-false, and_parts}
use Rattle.std.proofs.lemmas.Bool.Decides.{eqb_tells}
use Rattle.std.proofs.lemmas.List.FromFn.{get_or-map-range_with_len, length-map-range_with_len}
use Rattle.std.proofs.lemmas.List.Elements.{All-nil, All-cons}
use Rattle.mpc_exact.specs.Rational.{ℚ, int, le_ℚ}
use Rattle.mpc_exact.proofs.RationalOrder.{≤ℚ_antisymm}
use Rattle.mpc_exact.proofs.RationalField.{le_ℚ_is}
use Rattle.mpc_space.specs.Vector.{coordinate}
use Rattle.mpc_space.proofs.Entries.{same_entries}
use Rattle.mpc_rows.specs.LinearSystem.{LinearSystem, height}
use Rattle.mpc_rows.specs.Refutation.{Refutes}
use Rattle.mpc_rows.specs.Run.{is_zero}
use Rattle.mpc_tree.specs.LeafCerts.{nonzero_from, IsCertOf}
use Rattle.mpc_check.specs.Certs.{named_at, multipliers_of, IsPositionIn, HasPositionsIn, CertRefutes}

-- ---- the first multiplier
is_zero-true : (c : ℚ) → is_zero c ≡ true → c ≡ int (pos 0)
is_zero-true c h =
    let m = and_parts (le_ℚ c (int (pos 0))) (le_ℚ (int (pos 0)) c) h in
    ≤ℚ_antisymm ((le_ℚ_is c (int (pos 0))).0 (passes _ m.0)) ((le_ℚ_is (int (pos 0)) c).0 (passes _ m.1))
  where
    passes : (b : Bool) → b ≡ true → T b
    passes b e = subst T (sym e) tt

abbrev put_first : Bool → ℕ → ℚ → List (ℕ × ℚ) → List (ℕ × ℚ)
put_first drop p m cert = cond drop cert ((p, m) ∷ cert)

other_test : (q p : ℕ) → (q ≡ p → ⊥) → eqb q p ≡ false
other_test q p h = by (eqb_tells q p)
  where
    by : ((eqb q p ≡ true) × (q ≡ p)) ⊎ ((eqb q p ≡ false) × (q ≡ p → ⊥)) → eqb q p ≡ false
    by (inl t) = absurd (h t.1)
    by (inr f) = f.0

own_test : (p : ℕ) → eqb p p ≡ true
own_test p = by (eqb_tells p p)
  where
    by : ((eqb p p ≡ true) × (p ≡ p)) ⊎ ((eqb p p ≡ false) × (p ≡ p → ⊥)) → eqb p p ≡ true
    by (inl t) = t.0
    by (inr f) = absurd (f.1 refl)

others_named : (drop : Bool) (p : ℕ) (m : ℚ) (cert : List (ℕ × ℚ)) (q : ℕ) → (q ≡ p → ⊥) → named_at (put_first drop p m cert) q ≡ named_at cert q
others_named true p m cert q h = refl
others_named false p m cert q h = cond-false (eqb q p) m (named_at cert q) (other_test q p h)

own_named : (drop : Bool) (p : ℕ) (m : ℚ) (cert : List (ℕ × ℚ)) → (drop ≡ true → m ≡ int (pos 0)) → named_at cert p ≡ int (pos 0) → named_at (put_first drop p m cert) p ≡ m
own_named true p m cert z before = before ∙ sym (z refl)
own_named false p m cert z before = cond-true (eqb p p) m (named_at cert p) (own_test p)

first_position : (rows : ℕ) (drop : Bool) (p : ℕ) (m : ℚ) (cert : List (ℕ × ℚ)) → 1 ≤ p → p ≤ rows → HasPositionsIn rows cert → HasPositionsIn rows (put_first drop p m cert)
first_position rows true p m cert low high later = later
first_position rows false p m cert low high later = All-cons (IsPositionIn rows) (p, m) cert (record { from_one = low; to_last = high }) later

-- ---- all multipliers, which begin at a position
none_before : (p q : ℕ) (ms : List ℚ) → q < p → named_at (nonzero_from p ms) q ≡ int (pos 0)
none_before p q [] h = refl
none_before p q (m ∷ ms) h = others_named (is_zero m) p m (nonzero_from (p + 1) ms) q (λ e. absurd (omega arith)) ∙ none_before (p + 1) q ms (omega arith)

named_are : (p i : ℕ) (ms : List ℚ) → i < length ms → named_at (nonzero_from p ms) (p + i) ≡ coordinate ms i
named_are p i [] h = absurd (omega arith)
named_are p zero (m ∷ ms) h =
    let here : p + 0 ≡ p = omega arith in
    ap (named_at (nonzero_from p (m ∷ ms))) here ∙ own_named (is_zero m) p m (nonzero_from (p + 1) ms) (is_zero-true m) (none_before (p + 1) p ms (omega arith))
named_are p (suc i) (m ∷ ms) h =
    let there : p + suc i ≡ p + 1 + i = omega arith in
    others_named (is_zero m) p m (nonzero_from (p + 1) ms) (p + suc i) (λ e. absurd (omega arith)) ∙ ap (named_at (nonzero_from (p + 1) ms)) there ∙ named_are (p + 1) i ms (omega arith)

positions_from : (rows p : ℕ) (ms : List ℚ) → 1 ≤ p → p + length ms ≤ rows + 1 → HasPositionsIn rows (nonzero_from p ms)
positions_from rows p [] low high = All-nil (IsPositionIn rows)
positions_from rows p (m ∷ ms) low high = first_position rows (is_zero m) p m (nonzero_from (p + 1) ms) low (omega (arith, high)) (positions_from rows (p + 1) ms (omega arith) (omega (arith, high)))

-- ---- the certificate of a system
same_multipliers : (rows : ℕ) (ms : List ℚ) → length ms ≡ rows → multipliers_of rows (nonzero_from 1 ms) ≡ ms
same_multipliers rows ms e =
    let size : length (multipliers_of rows (nonzero_from 1 ms)) ≡ rows = length-map-range_with_len (named_at (nonzero_from 1 ms)) 1 rows in
    same_entries (multipliers_of rows (nonzero_from 1 ms)) ms (size ∙ sym e)
    (λ i h. get_or-map-range_with_len (named_at (nonzero_from 1 ms)) 1 rows i (1 + i) (int (pos 0)) (omega arith) (omega arith) ∙ named_are 1 i ms (omega arith))

of_multipliers : (s : LinearSystem) (ms : List ℚ) → length ms ≡ height s → Refutes s ms → CertRefutes s (nonzero_from 1 ms)
of_multipliers s ms e r = record {
  within = positions_from (height s) 1 ms (omega arith) (omega arith);
  refutes = subst (Refutes s) (sym (same_multipliers (height s) ms e)) r;
}

pub cert_refutes : (s : LinearSystem) (cert : List (ℕ × ℚ)) → IsCertOf s cert → CertRefutes s cert
cert_refutes s cert h = subst (CertRefutes s) (sym h.is) (of_multipliers s h.multipliers h.ends.multipliers.size h.refutes)
