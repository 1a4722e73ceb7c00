-- What is found of leaves, from what is decided of their certificates.
use Rattle.std.proofs.Common.{◌≡◌, ℕ, ◌+◌, Bool, true, false, List, [], ◌∷◌, length, map, Option, Some, None, Result, Ok, Err, refl, sym, subst, arith}
use Rattle.std.specs.Prelude.{slice_get}
use Rattle.std.proofs.lemmas.List.{append-nil}
use Rattle.mpc_exact.specs.Rational.{ℚ}
use Rattle.mpc_linear.specs.declared.integers.RowInt.{RowInt}
use Rattle.mpc_rows.specs.declared.places.Place.{Place}
use Rattle.mpc_rows.specs.declared.programs.Qp.{Qp}
use Rattle.mpc_rows.specs.declared.laws.Law.{Law as LawOfSet}
use Rattle.mpc_rows.specs.declared.systems.Row.{Row}
use Rattle.mpc_rows.specs.declared.trees.Node.{Node}
use Rattle.mpc_rows.specs.declared.trees.Node.TheVariants.{Law}
use Rattle.mpc_rows.specs.LinearSystem.{LinearSystem}
use Rattle.mpc_rows.specs.SetRuns.{joint_rows}
use Rattle.mpc_space.specs.Matrix.{height}
use Rattle.mpc_rows.specs.LawRows.{IsLawRow, LawRowFits, broken_row}
use Rattle.mpc_rows.specs.LawTheorems.{OneLawRow}
use Rattle.mpc_controller.specs.Replies.{IsLawNumbered}
use Rattle.mpc_check.specs.declared.answers.Spot.{Spot}
use Rattle.mpc_condense.specs.declared.convex.ProgramError.{ProgramError}
use Rattle.mpc_condense.specs.declared.convex.ProgramError.TheVariants.{TooWide, NotDefinite, NoMemory}
use Rattle.mpc_controller.specs.declared.ways.Turn.{Turn}
use Rattle.mpc_check.specs.Certs.{CertFits, CertRefutes}
use Rattle.mpc_check.specs.Findings.{Finding, refused, too_wide, not_definite, IsSearched, IsDecided}
use Rattle.mpc_check.specs.LeafConditions.{RowFits, RowHolds, LawLeafMet, LawLeafFinds, NodeMet, NodeFinds, NodeAtMet, NodeAtFinds}
use Rattle.mpc_systems.specs.Writing.{widened}
use Rattle.mpc_systems.specs.Systems.{cell_system, hold_system, joint_system}
use Rattle.mpc_controller.specs.Ways.{way_rows, IsWay}
use Rattle.mpc_check.specs.LeafSystems.{system_at}
use Rattle.mpc_controller.specs.Paths.{OnePath}
use Rattle.mpc_controller.specs.Ways.{PathOfWay}

-- ---- systems
pub widened-none : (rows : List Row) → map (widened 0) rows ≡ rows
widened-none [] = refl
widened-none (r ∷ rows) = λ i. record { a = append-nil r.a i; b = r.b; strict = r.strict } ∷ widened-none rows i

pub plain_system : (qp : Qp) (nodes : List Node) (way : List Turn) (row : RowInt) (last : List Row) → last ≡ broken_row row ∷ [] → system_at qp nodes way 0 last ≡ hold_system qp (way_rows nodes way) row
unfolding hold_system
plain_system qp nodes way row last e =
    let width : length qp.counts + 0 ≡ length qp.counts = omega arith in
    λ i. cell_system (width i) qp.counts (widened-none (way_rows nodes way) i) (e i)

pub whole_system : (qp : Qp) (nodes : List Node) (way : List Turn) (more : ℕ) (last : List Row) → more ≡ height qp.h → last ≡ joint_rows qp → system_at qp nodes way more last ≡ joint_system qp (way_rows nodes way)
unfolding joint_system
whole_system qp nodes way more last e f = λ i. system_at qp nodes way (e i) (f i)

pub decided_there : (s t : LinearSystem) → s ≡ t → (cert : List (ℕ × ℚ)) (place : Place) (r : Result Bool ProgramError) → IsDecided (CertFits s cert) (CertRefutes s cert) place r → IsDecided (CertFits t cert) (CertRefutes t cert) place r
decided_there s t e cert place r d = subst (λ u. IsDecided (CertFits u cert) (CertRefutes u cert) place r) e d

-- ---- a row of a leaf's law
module _ (law_row_unique : OneLawRow) (qp : Qp) (path : List Row) (law : LawOfSet) (certs : List (List (ℕ × ℚ))) (i : ℕ) (row : RowInt) (is_row : IsLawRow qp law (i + 1) row) (row_fits : LawRowFits qp law (i + 1)) (cert : List (ℕ × ℚ)) (is_cert : slice_get certs i ≡ Some cert) where
  same_cert : (other : List (ℕ × ℚ)) → slice_get certs i ≡ Some other → cert ≡ other
  same_cert other e = cc

  all_fit : CertFits (hold_system qp path row) cert → RowFits qp path law certs i
  all_fit f = record {
    row_fits = row_fits;
    sums_fit = λ r c ir ic. subst (λ x. CertFits (hold_system qp path x) c) (law_row_unique qp law (i + 1) row r is_row ir) (subst (CertFits (hold_system qp path row)) (same_cert c ic) f);
  }

  its_cert : RowHolds qp path law certs i → CertRefutes (hold_system qp path row) cert
  its_cert h = subst (CertRefutes (hold_system qp path row)) (sym (same_cert h.cert h.is_cert)) (subst (λ x. CertRefutes (hold_system qp path x) h.cert) (sym (law_row_unique qp law (i + 1) row h.row is_row h.is_row)) h.refutes)

  pub row_decided : (place : Place) (r : Result Bool ProgramError) → IsDecided (CertFits (hold_system qp path row) cert) (CertRefutes (hold_system qp path row) cert) place r → IsDecided (RowFits qp path law certs i) (RowHolds qp path law certs i) place r
  row_decided place (Ok true) d = record { fits_so = all_fit d.fits_so; holds_so = record { row = row; is_row = is_row; cert = cert; is_cert = is_cert; refutes = d.holds_so } }
  row_decided place (Ok false) d = (all_fit d.0, λ h. d.1 (its_cert h))
  row_decided place (Err (TooWide p)) d = (d.0, λ f. d.1 (f.sums_fit row cert is_row is_cert))
  row_decided place (Err (NotDefinite j)) d = d
  row_decided place (Err NoMemory) d = tt

-- ---- nodes
pub law_leaf : (qp : Qp) (laws : List LawOfSet) (path : List Row) (number law_number : ℕ) (certs : List (List (ℕ × ℚ))) (law : LawOfSet) → IsLawNumbered laws law_number law → (r : Result (Option Spot) ProgramError)
    → IsSearched (LawLeafMet qp path law certs) (LawLeafFinds qp path number law certs) r → IsSearched (NodeMet qp laws path (Law law_number certs)) (NodeFinds qp laws path number (Law law_number certs)) r
law_leaf qp laws path number law_number certs law is (Ok None) s = λ other e. subst (λ l. LawLeafMet qp path l certs) (same other e) s
  where
    same : (other : LawOfSet) → IsLawNumbered laws law_number other → law ≡ other
    same other e = cc
law_leaf qp laws path number law_number certs law is (Ok (Some spot)) s = record { law = law; is = is; finds = s }
law_leaf qp laws path number law_number certs law is (Err (TooWide place)) s = record { law = law; is = is; finds = s }
law_leaf qp laws path number law_number certs law is (Err (NotDefinite j)) s = record { law = law; is = is; finds = s }
law_leaf qp laws path number law_number certs law is (Err NoMemory) s = tt

module _ (one_path : OnePath) (path_of_way : PathOfWay) (qp : Qp) (laws : List LawOfSet) (nodes : List Node) (place : ℕ) (way : List Turn) (leads : IsWay nodes place way) (node : Node) (is : slice_get nodes place ≡ Some node) where
  abbrev path : List Row
  path = way_rows nodes way

  met_there : NodeMet qp laws path node → NodeAtMet qp laws nodes place
  met_there m other_path other to e = subst (λ p. NodeMet qp laws p other) (one_path nodes place path (path_of_way nodes place way leads) other_path to) (subst (NodeMet qp laws path) (same other e) m)
    where
      same : (other : Node) → slice_get nodes place ≡ Some other → node ≡ other
      same other e = cc

  found_there : (f : Finding) → NodeFinds qp laws path (place + 1) node f → NodeAtFinds qp laws nodes place f
  found_there f h = record { path = path; node = node; leads = path_of_way nodes place way leads; is = is; finds = h }

  pub node_there : (r : Result (Option Spot) ProgramError) → IsSearched (NodeMet qp laws path node) (NodeFinds qp laws path (place + 1) node) r → IsSearched (NodeAtMet qp laws nodes place) (NodeAtFinds qp laws nodes place) r
  node_there (Ok None) s = met_there s
  node_there (Ok (Some spot)) s = found_there (refused spot) s
  node_there (Err (TooWide p)) s = found_there (too_wide p) s
  node_there (Err (NotDefinite j)) s = found_there (not_definite j) s
  node_there (Err NoMemory) s = tt
