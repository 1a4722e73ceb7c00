-- Certificates, entry by entry, and what the test of their own rows decides.
use Rattle.std.proofs.Common.{◌≡◌, ℕ, zero, suc, ◌+◌, ◌*◌, ◌<◌, ◌≤◌, ◌⊎◌, inl, inr, ◌↔◌, Bool, true, false, IsTrue, List, [], ◌∷◌, ◌++◌, length, get_or, map, take, Ok, Err, Result, refl, ◌∙◌, arith}
use Rattle.std.proofs.lemmas.Bool.{cases_lt}
use Rattle.std.proofs.lemmas.List.{length-append}
use Rattle.std.proofs.lemmas.List.Elements.{All-more}
use Rattle.mpc_exact.specs.Rational.{ℚ, ◌+ℚ◌, ◌*ℚ◌}
use Rattle.mpc_frac.specs.Fits.{FitsFrac, FitsSum}
use Rattle.mpc_frac.specs.FitTheorems.{FitTheorems}
use Rattle.mpc_space.specs.Vector.{AllNonneg}
use Rattle.mpc_linear.specs.Dot.{SumFits}
use Rattle.mpc_linear.specs.ZeroTheorems.{ZeroTheorems}
use Rattle.mpc_rows.specs.declared.places.Place.{Place}
use Rattle.mpc_rows.specs.declared.programs.Qp.{Qp}
use Rattle.mpc_rows.specs.declared.systems.Row.{Row}
use Rattle.mpc_rows.specs.declared.trees.Node.{Node}
use Rattle.mpc_rows.specs.LinearSystem.{LinearSystem, height}
use Rattle.mpc_rows.specs.Certificates.{RisesFrom, IsCert}
use Rattle.mpc_rows.specs.Refutation.{Refutes, SumsFit}
use Rattle.mpc_rows.specs.SetRuns.{box_rows}
use Rattle.mpc_condense.specs.declared.convex.ProgramError.{ProgramError}
use Rattle.mpc_condense.specs.declared.convex.ProgramError.TheVariants.{TooWide, NotDefinite, NoMemory}
use Rattle.mpc_controller.specs.declared.ways.Turn.{Turn}
use Rattle.mpc_check.specs.Certs.{IsPositionIn, HasPositionsIn, CertRefutes, CertFits}
use Rattle.mpc_check.specs.Findings.{IsDecided}
use Rattle.mpc_check.specs.Picks.{weights, picked_system}
use Rattle.mpc_systems.specs.Writing.{widened}
use Rattle.mpc_controller.specs.Ways.{way_rows}
use Rattle.mpc_check.specs.LeafSystems.{system_at}
use Rattle.mpc_check.proofs.RowPlaces.{box_count}
use Rattle.mpc_check.proofs.SplitRows.{way_count}
use Rattle.mpc_check.proofs.Thinning.{picked_nonneg, picked_fits, picked_refutes}

-- ---- positions
pub rises_above : (last : ℕ) (cert : List (ℕ × ℚ)) → RisesFrom last cert → (i : ℕ) (d : ℕ × ℚ) → i < length cert → last < (get_or cert i d).0
rises_above last [] h i d l = absurd (omega arith)
rises_above last (e ∷ cert) h zero d l = h.0
rises_above last (e ∷ cert) h (suc i) d l = let a = h.0 in let rest = rises_above e.0 cert h.2 i d (omega arith) in omega arith

pub positions_more : (rows : ℕ) (cert : List (ℕ × ℚ)) → IsCert cert → (i : ℕ) (d : ℕ × ℚ) → i < length cert → (get_or cert i d).0 ≤ rows → HasPositionsIn rows (take i cert) → HasPositionsIn rows (take (i + 1) cert)
positions_more rows cert rises i d h l before = All-more (IsPositionIn rows) cert i d h before (record { from_one = (let a = rises_above 0 cert rises.rises i d h in omega arith); to_last = l })

pub system_count : (qp : Qp) (nodes : List Node) (way : List Turn) (more : ℕ) (last : List Row) → height (system_at qp nodes way more last) ≡ 2 * length qp.counts + length way + length last
system_count qp nodes way more last =
    let box = box_rows (length qp.counts + more) qp.counts in
    let path = map (widened more) (way_rows nodes way) in
    length-append box (path ++ last) ∙ omega (arith, box_count (length qp.counts + more) 0 qp.counts, length-append path last, way_count nodes way more)

-- ---- numbers that fit unless they don't
stable_lt : (m n : ℕ) → (¬ ¬ (m < n)) → m < n
stable_lt m n h = by (cases_lt m n)
  where
    by : (m < n) ⊎ (n ≤ m) → m < n
    by (inl l) = l
    by (inr l) = absurd (h (λ k. absurd (omega arith)))

stable_frac : (x : ℚ) → (¬ ¬ FitsFrac x) → FitsFrac x
stable_frac x h = (stable_lt _ _ (λ k. h (λ f. k f.0)), stable_lt _ _ (λ k. h (λ f. k f.1)))

stable_sum : (x y : ℚ) → (¬ ¬ FitsSum x y) → FitsSum x y
stable_sum x y h = record {
  left = stable_lt _ _ (λ k. h (λ f. k f.left));
  right = stable_lt _ _ (λ k. h (λ f. k f.right));
  sum = stable_lt _ _ (λ k. h (λ f. k f.sum));
  denom = stable_lt _ _ (λ k. h (λ f. k f.denom));
}

stable_sums : (s : ℚ) (xs ys : List ℚ) → (¬ ¬ SumFits s xs ys) → SumFits s xs ys
stable_sums s [] ys h = tt
stable_sums s (x ∷ xs) [] h = tt
stable_sums s (x ∷ xs) (y ∷ ys) h =
    (record { product = stable_frac (x *ℚ y) (λ k. h (λ f. k f.0.product)); sum = stable_sum s (x *ℚ y) (λ k. h (λ f. k f.0.sum)) }, stable_sums (s +ℚ x *ℚ y) xs ys (λ k. h (λ f. k f.1)))

pub stable_fits : (s : LinearSystem) (m : List ℚ) → (¬ ¬ SumsFit s m) → SumsFit s m
stable_fits s m h = record { columns = record { on = λ j l. stable_sums _ m _ (λ k. h (λ f. k (f.columns.on j l))) }; sides = stable_sums _ m _ (λ k. h (λ f. k f.sides)) }

-- ---- what is decided
abbrev pub SumsFitWhere : LinearSystem → List ℚ → Type 0
SumsFitWhere s m = AllNonneg m → SumsFit s m

pub decided_sums : (s : LinearSystem) (m : List ℚ) (place : Place) (found : Bool) → IsTrue found ↔ Refutes s m → (¬ (AllNonneg m × (¬ SumsFit s m))) → IsDecided (SumsFitWhere s m) (Refutes s m) place (Ok found)
decided_sums s m place true r f = record { fits_so = λ n. stable_fits s m (λ k. f (n, k)); holds_so = r.0 refl }
decided_sums s m place false r f = (λ n. stable_fits s m (λ k. f (n, k)), λ c. different (r.1 c))
  where
    different : false ≡ true → ⊥
    different e = cc

module _ (noughts : ZeroTheorems) (fit : FitTheorems) (s : LinearSystem) (cert : List (ℕ × ℚ)) (rises : IsCert cert) (within : HasPositionsIn (height s) cert) where
  abbrev Fits : Type 0
  Fits = SumsFitWhere (picked_system s cert) (weights cert)

  fits_so : Fits → CertFits s cert
  fits_so f w n = (picked_fits noughts fit s cert rises within).0 (f ((picked_nonneg noughts fit s cert rises within).1 n))

  fits_back : CertFits s cert → Fits
  fits_back f n = (picked_fits noughts fit s cert rises within).1 (f within ((picked_nonneg noughts fit s cert rises within).0 n))

  pub decided_whole : (place : Place) (r : Result Bool ProgramError) → IsDecided Fits (Refutes (picked_system s cert) (weights cert)) place r → IsDecided (CertFits s cert) (CertRefutes s cert) place r
  decided_whole place (Ok true) d = record { fits_so = fits_so d.fits_so; holds_so = record { within = within; refutes = (picked_refutes noughts fit s cert rises within).0 d.holds_so } }
  decided_whole place (Ok false) d = (fits_so d.0, λ c. d.1 ((picked_refutes noughts fit s cert rises within).1 c.refutes))
  decided_whole place (Err (TooWide p)) d = (d.0, λ f. d.1 (fits_back f))
  decided_whole place (Err (NotDefinite j)) d = d
  decided_whole place (Err NoMemory) d = tt

-- where it names a row that the system doesn't have, no sum is formed, and it refutes nothing
pub outside_fits : (s : LinearSystem) (cert : List (ℕ × ℚ)) → (¬ HasPositionsIn (height s) cert) → CertFits s cert
outside_fits s cert out within nonneg = absurd (out within)

pub outside_fails : (s : LinearSystem) (cert : List (ℕ × ℚ)) → (¬ HasPositionsIn (height s) cert) → ¬ CertRefutes s cert
outside_fails s cert out r = out r.within
