-- What one step makes of a number that is formed.
use Rattle.std.proofs.Common.{◌≡◌, ◌≢◌, ℕ, suc, ◌<◌, Option, Some, None, [], ◌∷◌, pos, refl, sym, ◌∙◌, ap, subst, subst₂, arith, ⊎_elim}
use Rattle.std.proofs.lemmas.Bool.{cases_eq}
use Rattle.mpc_exact.specs.Rational.{ℚ, int, ◌*ℚ◌, ◌-ℚ◌, ◌/ℚ◌, neg_ℚ, inv_ℚ}
use Rattle.mpc_exact.proofs.RationalRing.{reads, by_ring}
use Rattle.mpc_frac.specs.Fits.{FitsFrac, FitsSum}
use Rattle.mpc_linear.specs.Elimination.{Table}
use Rattle.mpc_linear.specs.Dot.{TakenFits}
use Rattle.mpc_bordered.specs.Fronts.{front, EntryFits}
use Rattle.mpc_bordered.specs.Kept.{IsFormed, IfFormed}
use Rattle.mpc_bordered.proofs.Agree.{reduced-pivot, reduced-other}
use Rattle.mpc_bordered.proofs.FrontLemmas.{front-zero, front-suc}

-- what is formed of an option, by the number
pub formed_of : (t : Table) (k i j : ℕ) (o : Option ℚ) (v : ℚ) → o ≡ Some v → IfFormed t k i j o → IsFormed t k i j v
formed_of t k i j o v e h = subst (IfFormed t k i j) e h

module _ (t : Table) (c i j : ℕ) where
  -- one column more
  before_more : EntryFits c (front t c) i j → ((k : ℕ) → k < c → EntryFits k (front t k) i j) → (k : ℕ) → k < suc c → EntryFits k (front t k) i j
  before_more h b k l = ⊎_elim (λ e. subst (λ k. EntryFits k (front t k) i j) (sym e) h) (λ e. b k (omega arith)) (cases_eq k c)

  -- a factor of 0
  still_fits : i ≢ c → front t c i c ≡ int (pos 0) → EntryFits c (front t c) i j
  still_fits apart z = record { quotient = λ e. absurd (apart e); product = λ _ some. absurd (some z); difference = λ _ some. absurd (some z) }

  still : (x y z : ℚ) → y ≡ int (pos 0) → x ≡ x -ℚ y *ℚ z
  still x y z e = by_ring (x ∷ z ∷ []) (search reads depth 30) (search reads depth 30) tt ∙ ap (λ u. x -ℚ u *ℚ z) (sym e)

  still_formed : i ≢ c → front t c i c ≡ int (pos 0) → (v : ℚ) → IsFormed t c i j v → IsFormed t (suc c) i j v
  still_formed apart z v h = record {
    value = h.value ∙ still (front t c i j) (front t c i c) (front t c c j /ℚ front t c c c) z ∙ sym (reduced-other c (front t c) i j apart) ∙ ap (λ s. s i j) (sym (front-suc t c));
    fits = h.fits;
    before = before_more (still_fits apart z) h.before;
  }

  pub formed_still : (f : ℚ) → i ≢ c → f ≡ int (pos 0) → IsFormed t c i c f → (x : Option ℚ) → IfFormed t c i j x → IfFormed t (suc c) i j x
  formed_still f apart z g None h = tt
  formed_still f apart z g (Some v) h = still_formed apart (sym g.value ∙ z) v h

  -- the factor times the quotient taken away
  pub formed_taken : (x f q v : ℚ) → i ≢ c → IsFormed t c i j x → IsFormed t c i c f → IsFormed t (suc c) c j q → v ≡ x -ℚ f *ℚ q → TakenFits x f q → FitsFrac v → IsFormed t (suc c) i j v
  formed_taken x f q v apart h g p e taken fits =
      let quotient_is : q ≡ front t c c j /ℚ front t c c c = p.value ∙ ap (λ s. s c j) (front-suc t c) ∙ reduced-pivot c (front t c) c j refl in
      record {
        value = e ∙ (λ m. h.value m -ℚ g.value m *ℚ quotient_is m) ∙ sym (reduced-other c (front t c) i j apart) ∙ ap (λ s. s i j) (sym (front-suc t c));
        fits = fits;
        before = before_more (record {
          quotient = λ e. absurd (apart e);
          product = λ _ some. subst₂ (λ u w. FitsFrac (u *ℚ w)) g.value quotient_is taken.product;
          difference = λ _ some. subst₂ (λ u w. FitsSum u (neg_ℚ w)) h.value (λ m. g.value m *ℚ quotient_is m) taken.difference;
        }) h.before;
      }

-- the pivot's row
pub formed_divided : (t : Table) (c j : ℕ) (x p v : ℚ) → IsFormed t c c j x → IsFormed t c c c p → v ≡ x *ℚ inv_ℚ p → FitsFrac (x *ℚ inv_ℚ p) → FitsFrac v → IsFormed t (suc c) c j v
formed_divided t c j x p v h g e f fits =
    let quotient_is : x *ℚ inv_ℚ p ≡ front t c c j /ℚ front t c c c = λ m. h.value m *ℚ inv_ℚ (g.value m) in
    record {
      value = e ∙ quotient_is ∙ sym (reduced-pivot c (front t c) c j refl) ∙ ap (λ s. s c j) (sym (front-suc t c));
      fits = fits;
      before = before_more t c c j (record { quotient = λ _. subst FitsFrac quotient_is f; product = λ apart _. absurd (apart refl); difference = λ apart _. absurd (apart refl) }) h.before;
    }

-- a number of the table
pub formed_first : (t : Table) (i j : ℕ) (v : ℚ) → v ≡ t i j → FitsFrac v → IsFormed t 0 i j v
formed_first t i j v e f = record { value = e ∙ ap (λ s. s i j) (sym (front-zero t)); fits = f; before = λ c l. absurd (omega arith) }
