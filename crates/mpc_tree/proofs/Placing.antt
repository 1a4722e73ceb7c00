-- What stands at a node, from what is found there.
use Rattle.std.proofs.Common.{◌≡◌, ℕ, ◌+◌, ◌<◌, ◌≤◌, ◌^◌, List, [], ◌∷◌, ◌++◌, length, refl, inl, inr, arith, lit≤, Option, Some, slice_get}
use Rattle.mpc_exact.specs.Rational.{ℚ}
use Rattle.mpc_linear.specs.declared.integers.RowInt.{RowInt}
use Rattle.mpc_rows.specs.declared.programs.Qp.{Qp}
use Rattle.mpc_rows.specs.declared.laws.Law.{Law}
use Rattle.mpc_rows.specs.declared.places.Place.TheVariants.{Joint}
use Rattle.mpc_rows.specs.declared.trees.Node.TheVariants.{Law as LawLeaf, NoMove}
use Rattle.mpc_rows.specs.LinearSystem.{LinearSystem}
use Rattle.mpc_rows.specs.LawRows.{broken_row}
use Rattle.mpc_rows.specs.RunWidth.{RunFits}
use Rattle.mpc_tree.specs.declared.errors.TreeError.{TreeError}
use Rattle.mpc_tree.specs.declared.errors.TreeError.TheVariants.{Wide, NoMemory}
use Rattle.mpc_tree.specs.Borders.{IsBorder, AreBorders}
use Rattle.mpc_tree.specs.Causes.{IfWide}
use Rattle.mpc_tree.specs.CellRuns.{IsRunOf}
use Rattle.mpc_tree.specs.Growth.{IsMeeting, IsNoMeeting, IsFailing, AllHold, NamesWideRow, IsSplitAt, IsLeafAt}
use Rattle.mpc_tree.specs.LeafCerts.{IsCertOf}
use Rattle.mpc_systems.specs.CellTheorems.{CellTheorems}
use Rattle.mpc_systems.specs.Systems.{joint_system}
use Rattle.mpc_tree.specs.Trees.{Cell}
use Rattle.mpc_tree.specs.WideRuns.{IsWideAt}
use Rattle.mpc_tree.proofs.NodeLemmas.{border_of, lies_in}

module _ (qp : Qp) (laws : List Law) (borders : List (List RowInt)) (are : AreBorders qp laws borders) (cell : Cell) (place : ℕ) (m : IsMeeting qp laws cell place) (rows : List RowInt) (is : slice_get borders place ≡ Some rows) where
  pub met_border : IsBorder qp m.law rows
  met_border = border_of qp laws borders are cell.rows place rows is m.law m.first.is

  pub few_rows : length rows < 2 ^ 32
  few_rows = let wide : 61 ≤ 2 ^ 32 = lit≤ tt in omega (arith, met_border.of_law.one_each, qp.is_program.few_rows)

  split_at : (i : ℕ) → IsFailing qp cell.rows rows i → IsSplitAt qp laws borders cell place i
  split_at i f = record {
    rows = rows;
    is_border = is;
    row = f.row;
    is_row = f.is;
    fails = f.fails;
    before = f.before;
    divides = record {
      divides = record { law = m.law; first = m.first; fails = record { rows = rows; of_law = met_border.of_law; place = i; is = f.is; fails = f.fails; before = f.before } };
      fits = record { meets = m.fits; law = m.law; is_law = m.first.is; rows = rows; of_law = met_border.of_law; row_place = i; is_row = f.is; holds = f.fits };
    };
  }

  pub split_placed : (i : ℕ) (run : Option LinearSystem) → (f : IsFailing qp cell.rows rows i) × IsRunOf qp (cell.rows ++ broken_row f.row ∷ []) run → (s : IsSplitAt qp laws borders cell place i) × IsRunOf qp (cell.rows ++ broken_row s.row ∷ []) run
  unfolding split_at
  split_placed i run h = (split_at i h.0, h.1)

  pub law_placed : CellTheorems → (certs : List (List (ℕ × ℚ))) → AllHold qp cell.rows rows certs → IsLeafAt qp laws cell (LawLeaf (place + 1) certs)
  law_placed points certs h = record {
    ends = record {
      ends = record { place = place; number_is = refl; law = m.law; first = m.first; lies_in = lies_in points qp m.law rows cell.rows met_border h.none };
      fits = record { place = place; number_is = refl; meets = m.fits; law = m.law; is_law = m.first.is; rows = rows; of_law = met_border.of_law; holds = h.fits };
    };
    certs = record { place = place; number_is = refl; law = m.law; is = m.first.is; rows = rows; of_law = met_border.of_law; certs_are = h.certs_are };
  }

  pub row_wide : (node : ℕ) (e : TreeError) → IfWide e (NamesWideRow qp cell.rows rows node (place + 1)) → IfWide e (IsWideAt qp laws cell node)
  row_wide node (Wide at) h = inr (inl (place + 1, h.0, h.1, record { place = place; number_is = refl; law = m.law; first = m.first; before = m.fits; rows = rows; of_law = met_border.of_law; row = h.2 }))
  row_wide node NoMemory h = h

module _ (qp : Qp) (laws : List Law) (cell : Cell) (none : IsNoMeeting qp laws cell) where
  pub empty_placed : (cert : List (ℕ × ℚ)) → IsCertOf (joint_system qp cell.rows) cert → RunFits (joint_system qp cell.rows) → IsLeafAt qp laws cell (NoMove cert)
  empty_placed cert h fits = record {
    ends = record { ends = none.none; fits = record { meets = none.fits; joint = fits } };
    certs = h;
  }

  pub joint_wide : (node : ℕ) (e : TreeError) → IfWide e (λ place. (place ≡ Joint node) × (¬ RunFits (joint_system qp cell.rows))) → IfWide e (IsWideAt qp laws cell node)
  joint_wide node (Wide place) h = inr (inr (h.0, record { none = none.none; before = none.fits; wide = h.1 }))
  joint_wide node NoMemory h = h
