-- What is so of the tree that is built.
use Rattle.std.proofs.Common.{◌≡◌, List, [], length, subst, sym, arith, get_or, All, Result, Ok, Err, IfOk, IfErr, MatchResult}
use Rattle.std.proofs.lemmas.Result.{IfOk-weaker}
use Rattle.std.proofs.lemmas.List.Elements.{All-contains_itself, All-from_recursion}
use Rattle.mpc_space.specs.Definite.{IsDefinite}
use Rattle.mpc_rows.specs.declared.programs.Qp.{Qp}
use Rattle.mpc_rows.specs.declared.laws.Law.{Law}
use Rattle.mpc_rows.specs.declared.systems.Row.{Row}
use Rattle.mpc_rows.specs.declared.trees.Node.{Node}
use Rattle.mpc_rows.specs.declared.trees.Node.TheVariants.{Split, Law as LawLeaf, NoMove}
use Rattle.mpc_rows.specs.Candidates.{IsTable}
use Rattle.mpc_rows.specs.Laws.{IsLaw}
use Rattle.mpc_cover.specs.CoverTheorems.{TablesCover}
use Rattle.mpc_tree.specs.declared.errors.TreeError.{TreeError}
use Rattle.mpc_tree.specs.Causes.{IfWide}
use Rattle.mpc_tree.specs.Certified.{IsCertified}
use Rattle.mpc_tree.specs.Growth.{IsReady, RegionsCover, IsLeafAt, IsBuilt}
use Rattle.mpc_tree.specs.LeafCerts.{HasItsCerts}
use Rattle.mpc_tree.specs.NodeRuns.{DividesAndFits, EndsAndFits, IsFittingTree}
use Rattle.mpc_tree.specs.Trees.{Cell, whole_box, Divides, IsLeafOf, IsTreeOf, IsTreeWhere, IsRightlyEmpty, AnySplit}
use Rattle.mpc_tree.specs.WideRuns.{IsFirstWide}
use Rattle.mpc_tree.proofs.NodeLemmas.{no_admissible}
use Rattle.mpc_tree.proofs.TreeLemmas.{weakened}

pub laws_of_table : (qp : Qp) (laws : List Law) → IsTable qp laws → All (IsLaw qp) laws
laws_of_table qp laws table k d lt = (table.are_laws (get_or laws k d) (All-contains_itself laws k d lt)).verdict.2

pub table_covers : TablesCover → (qp : Qp) (laws : List Law) → IsDefinite qp.h.rows → IsTable qp laws → RegionsCover qp laws
table_covers cover qp laws definite table = record { covers = cover qp laws definite table }

module _ (qp : Qp) (laws : List Law) (nodes : List Node) where
  tree_of : IsBuilt qp laws whole_box nodes → IsTreeOf qp laws whole_box nodes
  tree_of b = weakened (DividesAndFits qp laws) (Divides qp laws) (IsLeafAt qp laws) (IsLeafOf qp laws) (λ c p r h. h.divides) (λ c n h. h.ends.ends) whole_box nodes b

  certs_of : IsBuilt qp laws whole_box nodes → IsTreeWhere AnySplit (HasItsCerts qp laws) whole_box nodes
  certs_of b = weakened (DividesAndFits qp laws) AnySplit (IsLeafAt qp laws) (HasItsCerts qp laws) (λ c p r h. tt) (λ c n h. h.certs) whole_box nodes b

  certified_of : IsBuilt qp laws whole_box nodes → IsCertified qp laws whole_box nodes
  certified_of b =
      weakened (DividesAndFits qp laws) (DividesAndFits qp laws) (IsLeafAt qp laws) (λ c node. EndsAndFits qp laws c node × HasItsCerts qp laws c node) (λ c p r h. h) (λ c n h. (h.ends, h.certs)) whole_box nodes b

  fitting_of : IsBuilt qp laws whole_box nodes → IsFittingTree qp laws whole_box nodes
  fitting_of b = weakened (DividesAndFits qp laws) (DividesAndFits qp laws) (IsLeafAt qp laws) (EndsAndFits qp laws) (λ c p r h. h) (λ c n h. h.ends) whole_box nodes b

  rightly_empty : RegionsCover qp laws → (cell : Cell) (node : Node) → IsLeafAt qp laws cell node → IsRightlyEmpty qp cell node
  rightly_empty covers cell (Split row) h = tt
  rightly_empty covers cell (LawLeaf number certs) h = tt
  rightly_empty covers cell (NoMove cert) h = no_admissible qp laws cell.rows h.ends.ends covers.covers

  empty_of : RegionsCover qp laws → IsBuilt qp laws whole_box nodes → IsTreeWhere AnySplit (IsRightlyEmpty qp) whole_box nodes
  empty_of covers b = weakened (DividesAndFits qp laws) AnySplit (IsLeafAt qp laws) (IsRightlyEmpty qp) (λ c p r h. tt) (rightly_empty covers) whole_box nodes b

module _ (qp : Qp) (laws : List Law) (rows : List Row) (empty : rows ≡ []) where
  -- the box is a cell without rows
  in_box : (P : Cell → Type 0) → P (record { rows = rows; next = 0 }) → P whole_box
  in_box P h = subst (λ x. P (record { rows = x; next = 0 })) empty h

  pub box_ready : IsReady qp laws (record { rows = rows; next = 0 })
  box_ready = subst (λ x. IsReady qp laws (record { rows = x; next = 0 })) (sym empty) (record {
    width = All-from_recursion (λ r. length r.a ≡ length qp.counts) [] tt;
    none = λ i law h. absurd (omega arith);
    within = omega arith;
  })

  module _ (r : Result (List Node) TreeError) (built : IfOk r (λ nodes. IsBuilt qp laws (record { rows = rows; next = 0 }) nodes)) where
    b : IfOk r (λ nodes. IsBuilt qp laws whole_box nodes)
    b = in_box (λ cell. IfOk r (IsBuilt qp laws cell)) built

    pub built_tree : IfOk r (λ nodes. IsTreeOf qp laws whole_box nodes)
    built_tree = IfOk-weaker r (λ nodes. IsBuilt qp laws whole_box nodes) (λ nodes. IsTreeOf qp laws whole_box nodes) (tree_of qp laws) b

    pub built_certs : IfOk r (λ nodes. IsTreeWhere AnySplit (HasItsCerts qp laws) whole_box nodes)
    built_certs = IfOk-weaker r (λ nodes. IsBuilt qp laws whole_box nodes) (λ nodes. IsTreeWhere AnySplit (HasItsCerts qp laws) whole_box nodes) (certs_of qp laws) b

    pub built_certified : IfOk r (λ nodes. IsCertified qp laws whole_box nodes)
    built_certified = IfOk-weaker r (λ nodes. IsBuilt qp laws whole_box nodes) (λ nodes. IsCertified qp laws whole_box nodes) (certified_of qp laws) b

    pub built_empty : RegionsCover qp laws → IfOk r (λ nodes. IsTreeWhere AnySplit (IsRightlyEmpty qp) whole_box nodes)
    built_empty covers = IfOk-weaker r (λ nodes. IsBuilt qp laws whole_box nodes) (λ nodes. IsTreeWhere AnySplit (IsRightlyEmpty qp) whole_box nodes) (λ nodes. empty_of qp laws nodes covers) b

    pub built_wide : IfErr r (λ e. IfWide e (IsFirstWide qp laws (record { rows = rows; next = 0 }) 1)) → MatchResult r (λ nodes. IsFittingTree qp laws whole_box nodes) (λ e. IfWide e (IsFirstWide qp laws whole_box 1))
    built_wide w = by r b (in_box (λ cell. IfErr r (λ e. IfWide e (IsFirstWide qp laws cell 1))) w)
      where
        by : (r : Result (List Node) TreeError) → IfOk r (λ nodes. IsBuilt qp laws whole_box nodes) → IfErr r (λ e. IfWide e (IsFirstWide qp laws whole_box 1)) → MatchResult r (λ nodes. IsFittingTree qp laws whole_box nodes) (λ e. IfWide e (IsFirstWide qp laws whole_box 1))
        by (Ok nodes) b w = fitting_of qp laws nodes b
        by (Err e) b w = w
