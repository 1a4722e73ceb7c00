-- Rows whose multiplier is 0 count for nothing: a certificate refutes a system exactly where its own rows and multipliers do.
use Rattle.std.proofs.Common.{◌≡◌, ℕ, zero, suc, ◌+◌, ◌-◌, ◌<◌, ◌≤◌, ◌⊎◌, inl, inr, ◌↔◌, eqb, true, false, List, [], ◌∷◌, length, get_or, map, pos, refl, sym, ◌∙◌, ap, subst, arith, ⊎_elim, Some}
use Rattle.std.specs.Prelude.{slice_get}
use Rattle.std.specs.List.{range_with_len, AllByRecursion}
use Rattle.std.proofs.lemmas.Bool.{cases_eq, cond-true, cond-false}
use Rattle.std.proofs.lemmas.Bool.Decides.{eqb_tells}
use Rattle.std.proofs.lemmas.List.Elements.{recursion_from_All}
use Rattle.mpc_exact.specs.Rational.{ℚ, int, ◌+ℚ◌, ◌*ℚ◌, ◌<ℚ◌}
use Rattle.mpc_exact.proofs.RationalRing.{reads, by_ring}
use Rattle.mpc_exact.proofs.RationalOrder.{<ℚ_irrefl}
use Rattle.mpc_exact.proofs.OrderTheorems.{≤ℚ_of_≡}
use Rattle.mpc_frac.specs.Fits.{FitsFrac}
use Rattle.mpc_frac.specs.FitTheorems.{FitTheorems}
use Rattle.mpc_space.specs.Vector.{coordinate, dot, AllNonneg}
use Rattle.mpc_linear.specs.Dot.{SumFits}
use Rattle.mpc_linear.specs.ZeroTheorems.{ZeroTheorems}
use Rattle.mpc_rows.specs.declared.systems.Row.{Row}
use Rattle.mpc_rows.specs.LinearSystem.{LinearSystem, height, no_row}
use Rattle.mpc_rows.specs.Certificates.{RisesFrom, IsCert}
use Rattle.mpc_rows.specs.Refutation.{right_sides, WeighsStrict, Refutes, SumsFit}
use Rattle.mpc_check.specs.Certs.{named_at, multipliers_of, IsPositionIn, HasPositionsIn}
use Rattle.mpc_check.specs.Picks.{picked_rows, weights, picked_system}

-- ---- lists without some rows of multiplier 0
abbrev nought : ℚ
nought = int (pos 0)

data Thins : List ℚ → List Row → List ℚ → List Row → Type 0 where
  none : Thins [] [] [] []
  skip : (r : Row) (ms : List ℚ) (rows : List Row) (ws : List ℚ) (picked : List Row) → Thins ms rows ws picked → Thins (int (pos 0) ∷ ms) (r ∷ rows) ws picked
  keep : (m : ℚ) (r : Row) (ms : List ℚ) (rows : List Row) (ws : List ℚ) (picked : List Row) → Thins ms rows ws picked → Thins (m ∷ ms) (r ∷ rows) (m ∷ ws) (r ∷ picked)

-- a product with 0
no_product : (y : ℚ) → nought *ℚ y ≡ nought
no_product y = by_ring (y ∷ []) (search reads depth 30) (search reads depth 30) tt

same_added : (s y : ℚ) → s ≡ s +ℚ nought *ℚ y
same_added s y = by_ring (s ∷ y ∷ []) (search reads depth 30) (search reads depth 30) tt

zero_term : (y d : ℚ) → nought *ℚ y +ℚ d ≡ d
zero_term y d = by_ring (y ∷ d ∷ []) (search reads depth 30) (search reads depth 30) tt

thin_dot : (f : Row → ℚ) (ms : List ℚ) (rows : List Row) (ws : List ℚ) (picked : List Row) → Thins ms rows ws picked → dot ms (map f rows) ≡ dot ws (map f picked)
thin_dot f _ _ _ _ none = refl
thin_dot f _ _ _ _ (skip r ms rows ws picked h) = zero_term (f r) (dot ms (map f rows)) ∙ thin_dot f ms rows ws picked h
thin_dot f _ _ _ _ (keep m r ms rows ws picked h) = ap (λ d. m *ℚ f r +ℚ d) (thin_dot f ms rows ws picked h)

thin_fits : (f : Row → ℚ) (s : ℚ) (ms : List ℚ) (rows : List Row) (ws : List ℚ) (picked : List Row) → Thins ms rows ws picked → SumFits s ms (map f rows) → SumFits s ws (map f picked)
thin_fits f s _ _ _ _ none k = tt
thin_fits f s _ _ _ _ (skip r ms rows ws picked h) k =
    thin_fits f s ms rows ws picked h (subst (λ x. SumFits x ms (map f rows)) (sym (same_added s (f r))) k.1)
thin_fits f s _ _ _ _ (keep m r ms rows ws picked h) k = (k.0, thin_fits f (s +ℚ m *ℚ f r) ms rows ws picked h k.1)

whole_fits : ZeroTheorems → FitTheorems → (f : Row → ℚ) (s : ℚ) → FitsFrac s → (ms : List ℚ) (rows : List Row) (ws : List ℚ) (picked : List Row) → Thins ms rows ws picked → SumFits s ws (map f picked) → SumFits s ms (map f rows)
whole_fits noughts fit f s e _ _ _ _ none k = tt
whole_fits noughts fit f s e _ _ _ _ (skip r ms rows ws picked h) k =
    (noughts.no_product_fits s nought (f r) e (no_product (f r)), subst (λ x. SumFits x ms (map f rows)) (same_added s (f r)) (whole_fits noughts fit f s e ms rows ws picked h k))
whole_fits noughts fit f s e _ _ _ _ (keep m r ms rows ws picked h) k = (k.0, whole_fits noughts fit f (s +ℚ m *ℚ f r) (fit.sum s (m *ℚ f r) k.0.sum) ms rows ws picked h k.1)

thin_nonneg : (ms : List ℚ) (rows : List Row) (ws : List ℚ) (picked : List Row) → Thins ms rows ws picked → AllNonneg ms → AllNonneg ws
thin_nonneg _ _ _ _ none k = tt
thin_nonneg _ _ _ _ (skip r ms rows ws picked h) k = thin_nonneg ms rows ws picked h k.1
thin_nonneg _ _ _ _ (keep m r ms rows ws picked h) k = (k.0, thin_nonneg ms rows ws picked h k.1)

whole_nonneg : (ms : List ℚ) (rows : List Row) (ws : List ℚ) (picked : List Row) → Thins ms rows ws picked → AllNonneg ws → AllNonneg ms
whole_nonneg _ _ _ _ none k = tt
whole_nonneg _ _ _ _ (skip r ms rows ws picked h) k = (≤ℚ_of_≡ refl, whole_nonneg ms rows ws picked h k)
whole_nonneg _ _ _ _ (keep m r ms rows ws picked h) k = (k.0, whole_nonneg ms rows ws picked h k.1)

later_strict : (ws : List ℚ) (picked : List Row) (m : ℚ) (r : Row) → WeighsStrict picked ws → WeighsStrict (r ∷ picked) (m ∷ ws)
later_strict ws picked m r w = record { place = suc w.place; row = w.row; is = w.is; strict = w.strict; positive = w.positive }

thin_strict : (ms : List ℚ) (rows : List Row) (ws : List ℚ) (picked : List Row) → Thins ms rows ws picked → (place : ℕ) (row : Row) → slice_get rows place ≡ Some row → row.strict ≡ true → nought <ℚ coordinate ms place → WeighsStrict picked ws
thin_strict _ _ _ _ none place row is s p = absurd cc
thin_strict _ _ _ _ (skip r ms rows ws picked h) zero row is s p = absurd (<ℚ_irrefl p)
thin_strict _ _ _ _ (skip r ms rows ws picked h) (suc place) row is s p = thin_strict ms rows ws picked h place row is s p
thin_strict _ _ _ _ (keep m r ms rows ws picked h) zero row is s p = record { place = 0; row = row; is = is; strict = s; positive = p }
thin_strict _ _ _ _ (keep m r ms rows ws picked h) (suc place) row is s p = later_strict ws picked m r (thin_strict ms rows ws picked h place row is s p)

whole_strict : (ms : List ℚ) (rows : List Row) (ws : List ℚ) (picked : List Row) → Thins ms rows ws picked → (place : ℕ) (row : Row) → slice_get picked place ≡ Some row → row.strict ≡ true → nought <ℚ coordinate ws place → WeighsStrict rows ms
whole_strict _ _ _ _ none place row is s p = absurd cc
whole_strict _ _ _ _ (skip r ms rows ws picked h) place row is s p = later_strict ms rows nought r (whole_strict ms rows ws picked h place row is s p)
whole_strict _ _ _ _ (keep m r ms rows ws picked h) zero row is s p = record { place = 0; row = row; is = is; strict = s; positive = p }
whole_strict _ _ _ _ (keep m r ms rows ws picked h) (suc place) row is s p = later_strict ms rows m r (whole_strict ms rows ws picked h place row is s p)

-- ---- a certificate's rows are so thinned
unnamed : (p : ℕ) (cert : List (ℕ × ℚ)) → RisesFrom p cert → (q : ℕ) → q ≤ p → named_at cert q ≡ nought
unnamed p [] h q l = refl
unnamed p (e ∷ cert) h q l = cond-false (eqb q e.0) e.1 (named_at cert q) (apart (eqb_tells q e.0)) ∙ unnamed e.0 cert h.2 q (let a = h.0 in omega arith)
  where
    apart : ((eqb q e.0 ≡ true) × (q ≡ e.0)) ⊎ ((eqb q e.0 ≡ false) × (q ≡ e.0 → ⊥)) → eqb q e.0 ≡ false
    apart (inl t) = absurd (let a = h.0 in let b = t.1 in omega arith)
    apart (inr f) = f.0

other_entry : (e : ℕ × ℚ) (cert : List (ℕ × ℚ)) (q : ℕ) → e.0 < q → named_at (e ∷ cert) q ≡ named_at cert q
other_entry e cert q l = cond-false (eqb q e.0) e.1 (named_at cert q) (apart (eqb_tells q e.0))
  where
    apart : ((eqb q e.0 ≡ true) × (q ≡ e.0)) ⊎ ((eqb q e.0 ≡ false) × (q ≡ e.0 → ⊥)) → eqb q e.0 ≡ false
    apart (inl t) = absurd (let b = t.1 in omega arith)
    apart (inr f) = f.0

own_entry : (e : ℕ × ℚ) (cert : List (ℕ × ℚ)) (q : ℕ) → e.0 ≡ q → named_at (e ∷ cert) q ≡ e.1
own_entry e cert q l = cond-true (eqb q e.0) e.1 (named_at cert q) (same (eqb_tells q e.0))
  where
    same : ((eqb q e.0 ≡ true) × (q ≡ e.0)) ⊎ ((eqb q e.0 ≡ false) × (q ≡ e.0 → ⊥)) → eqb q e.0 ≡ true
    same (inl t) = t.0
    same (inr f) = absurd (f.1 (sym l))

named_later : (e : ℕ × ℚ) (cert : List (ℕ × ℚ)) (p n : ℕ) → e.0 < p → map (named_at (e ∷ cert)) (range_with_len p n) ≡ map (named_at cert) (range_with_len p n)
named_later e cert p zero l = refl
named_later e cert p (suc n) l = λ i. other_entry e cert p l i ∷ named_later e cert (p + 1) n (omega arith) i

abbrev picks : List Row → ℕ → List (ℕ × ℚ) → List Row
picks rows p cert = map (λ entry. get_or rows (entry.0 - p) no_row) cert

shifted : (p : ℕ) (r : Row) (rows : List Row) (last : ℕ) (cert : List (ℕ × ℚ)) → RisesFrom last cert → p ≤ last → picks (r ∷ rows) p cert ≡ picks rows (p + 1) cert
shifted p r rows last [] h l = refl
shifted p r rows last (e ∷ cert) h l =
    let a = h.0 in
    let next : e.0 - p ≡ suc (e.0 - (p + 1)) = omega arith in
    λ i. get_or (r ∷ rows) (next i) no_row ∷ shifted p r rows e.0 cert h.2 (omega arith) i

abbrev UpTo : ℕ → List (ℕ × ℚ) → Type 0
UpTo last cert = AllByRecursion (λ e. e.0 ≤ last) cert

abbrev Thinned : ℕ → List Row → List (ℕ × ℚ) → Type 0
Thinned p rows cert = Thins (map (named_at cert) (range_with_len (p + 1) (length rows))) rows (weights cert) (picks rows (p + 1) cert)

up_to : (last last' : ℕ) (cert : List (ℕ × ℚ)) → last ≤ last' → UpTo last cert → UpTo last' cert
up_to last last' [] l b = tt
up_to last last' (e ∷ cert) l b = (let c = b.0 in omega arith, up_to last last' cert l b.1)

-- one more row in front
module _ (p : ℕ) (r : Row) (rows : List Row) (e : ℕ × ℚ) (cert : List (ℕ × ℚ)) (h : RisesFrom p (e ∷ cert)) (b : UpTo (p + length (r ∷ rows)) (e ∷ cert))
    (go : (entries : List (ℕ × ℚ)) → RisesFrom (p + 1) entries → UpTo (p + 1 + length rows) entries → Thinned (p + 1) rows entries) where
  end : p + length (r ∷ rows) ≤ p + 1 + length rows
  end = omega arith

  named : (e.0 ≡ p + 1) → Thinned p (r ∷ rows) (e ∷ cert)
  named q =
      let later : RisesFrom (p + 1) cert = subst (λ k. RisesFrom k cert) q h.2 in
      let rest : Thinned (p + 1) rows cert = go cert later (up_to (p + length (r ∷ rows)) (p + 1 + length rows) cert end b.1) in
      let head : e.0 - (p + 1) ≡ 0 = omega arith in
      subst (λ ms. Thins ms (r ∷ rows) (weights (e ∷ cert)) (picks (r ∷ rows) (p + 1) (e ∷ cert)))
      (λ i. sym (own_entry e cert (p + 1) q) i ∷ sym (named_later e cert (p + 1 + 1) (length rows) (omega arith)) i)
      (subst (λ ps. Thins (e.1 ∷ map (named_at cert) (range_with_len (p + 1 + 1) (length rows))) (r ∷ rows) (weights (e ∷ cert)) ps)
      (λ i. get_or (r ∷ rows) (sym head i) no_row ∷ sym (shifted (p + 1) r rows (p + 1) cert later (omega arith)) i)
      (keep e.1 r _ rows (weights cert) _ rest))

  skipped : (e.0 ≡ p + 1 → ⊥) → Thinned p (r ∷ rows) (e ∷ cert)
  skipped q =
      let a = h.0 in
      let above : p + 1 < e.0 = omega arith in
      let later : RisesFrom (p + 1) (e ∷ cert) = (above, h.1, h.2) in
      let rest : Thinned (p + 1) rows (e ∷ cert) = go (e ∷ cert) later (up_to (p + length (r ∷ rows)) (p + 1 + length rows) (e ∷ cert) end b) in
      subst (λ m. Thins (m ∷ map (named_at (e ∷ cert)) (range_with_len (p + 1 + 1) (length rows))) (r ∷ rows) (weights (e ∷ cert)) (picks (r ∷ rows) (p + 1) (e ∷ cert)))
      (sym (unnamed (p + 1) (e ∷ cert) later (p + 1) (omega arith)))
      (subst (λ ps. Thins (nought ∷ map (named_at (e ∷ cert)) (range_with_len (p + 1 + 1) (length rows))) (r ∷ rows) (weights (e ∷ cert)) ps)
      (sym (shifted (p + 1) r rows (p + 1) (e ∷ cert) later (omega arith)))
      (skip r _ rows (weights (e ∷ cert)) _ rest))

  thinned_first : Thinned p (r ∷ rows) (e ∷ cert)
  thinned_first = ⊎_elim named skipped (cases_eq e.0 (p + 1))

thinned : (p : ℕ) (rows : List Row) (cert : List (ℕ × ℚ)) → RisesFrom p cert → UpTo (p + length rows) cert → Thinned p rows cert
thinned p [] [] h b = none
thinned p [] (e ∷ cert) h b = absurd (let a = h.0 in let c = b.0 in omega arith)
thinned p (r ∷ rows) [] h b = skip r _ rows [] [] (thinned (p + 1) rows [] tt tt)
thinned p (r ∷ rows) (e ∷ cert) h b = thinned_first p r rows e cert h b (λ entries g c. thinned (p + 1) rows entries g c)

-- ---- the tests of a certificate
module _ (noughts : ZeroTheorems) (fit : FitTheorems) (s : LinearSystem) (cert : List (ℕ × ℚ)) (rises : IsCert cert) (within : HasPositionsIn (height s) cert) where
  abbrev ms : List ℚ
  ms = multipliers_of (height s) cert

  ends : (entries : List (ℕ × ℚ)) → AllByRecursion (IsPositionIn (height s)) entries → UpTo (height s) entries
  ends [] h = tt
  ends (e ∷ entries) h = (h.0.to_last, ends entries h.1)

  thin : Thins ms s.rows (weights cert) (picked_rows s.rows cert)
  thin = thinned 0 s.rows cert rises.rises (up_to (height s) (0 + height s) cert (omega arith) (ends cert (recursion_from_All (IsPositionIn (height s)) cert within)))

  dots : (f : Row → ℚ) → dot ms (map f s.rows) ≡ dot (weights cert) (map f (picked_rows s.rows cert))
  dots f = thin_dot f ms s.rows (weights cert) (picked_rows s.rows cert) thin

  pub picked_nonneg : AllNonneg (weights cert) ↔ AllNonneg ms
  picked_nonneg = (λ h. whole_nonneg ms s.rows (weights cert) (picked_rows s.rows cert) thin h, λ h. thin_nonneg ms s.rows (weights cert) (picked_rows s.rows cert) thin h)

  fits_both : (f : Row → ℚ) → SumFits nought (weights cert) (map f (picked_rows s.rows cert)) ↔ SumFits nought ms (map f s.rows)
  fits_both f = (λ h. whole_fits noughts fit f nought noughts.zero_fits ms s.rows (weights cert) (picked_rows s.rows cert) thin h, λ h. thin_fits f nought ms s.rows (weights cert) (picked_rows s.rows cert) thin h)

  pub picked_fits : SumsFit (picked_system s cert) (weights cert) ↔ SumsFit s ms
  picked_fits = (
    λ h. record { columns = record { on = λ j l. (fits_both (λ r. coordinate r.a j)).0 (h.columns.on j l) }; sides = (fits_both (λ r. r.b)).0 h.sides },
    λ h. record { columns = record { on = λ j l. (fits_both (λ r. coordinate r.a j)).1 (h.columns.on j l) }; sides = (fits_both (λ r. r.b)).1 h.sides },
  )

  strict_whole : WeighsStrict (picked_rows s.rows cert) (weights cert) → WeighsStrict s.rows ms
  strict_whole w = whole_strict ms s.rows (weights cert) (picked_rows s.rows cert) thin w.place w.row w.is w.strict w.positive

  strict_thin : WeighsStrict s.rows ms → WeighsStrict (picked_rows s.rows cert) (weights cert)
  strict_thin w = thin_strict ms s.rows (weights cert) (picked_rows s.rows cert) thin w.place w.row w.is w.strict w.positive

  side : dot ms (right_sides s.rows) ≡ dot (weights cert) (right_sides (picked_rows s.rows cert))
  side = dots (λ r. r.b)

  pub picked_refutes : Refutes (picked_system s cert) (weights cert) ↔ Refutes s ms
  picked_refutes = (
    λ h. record {
      nonneg = picked_nonneg.0 h.nonneg;
      left = record { on = λ j l. dots (λ r. coordinate r.a j) ∙ h.left.on j l };
      right = ⊎_elim (λ k. inl (subst (λ x. x <ℚ nought) (sym side) k)) (λ k. inr (side ∙ k.0, strict_whole k.1)) h.right;
    },
    λ h. record {
      nonneg = picked_nonneg.1 h.nonneg;
      left = record { on = λ j l. sym (dots (λ r. coordinate r.a j)) ∙ h.left.on j l };
      right = ⊎_elim (λ k. inl (subst (λ x. x <ℚ nought) side k)) (λ k. inr (sym side ∙ k.0, strict_thin k.1)) h.right;
    },
  )
