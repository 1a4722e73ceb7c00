-- What a whole text states has the shapes of a controller and keeps its bounds.
use Rattle.std.proofs.Common.{◌≡◌, ℕ, ◌-◌, List, [], length, map, sym, ap, subst, arith, nat_lt}
use Rattle.std.specs.Prelude.{All, codes}
use Rattle.std.proofs.lemmas.List.{length-map}
use Rattle.std.proofs.lemmas.List.Elements.{All-get_or}
use Rattle.mpc_exact.specs.Rational.{ℚ}
use Rattle.mpc_linear.specs.declared.integers.RowInt.{RowInt}
use Rattle.mpc_plant.specs.declared.plants.Plant.{Plant}
use Rattle.mpc_rows.specs.declared.laws.Law.{Law}
use Rattle.mpc_rows.specs.declared.trees.Node.{Node}
use Rattle.mpc_controller.specs.Parts.{Parts, limits_of, IsSplitRow}
use Rattle.mpc_controller.specs.PreorderTheorems.{SplitSpells, LeafSpells}
use Rattle.mpc_controller.specs.Bounds.{SplitFits, IsController}
use Rattle.mpc_grammar.specs.declared.versions.Version.{Version}
use Rattle.mpc_grammar.specs.declared.versions.Version.TheVariants.{One, Two, Three}
use Rattle.mpc_grammar.specs.Reading.{Cursor, one_line, ◌>>=◌}
use Rattle.mpc_grammar.specs.PlantGrammar.{plant as plant_grammar}
use Rattle.mpc_grammar.specs.LawGrammar.{NamedLaw, law_named, used_by, written_laws, forms, named_laws}
use Rattle.mpc_grammar.specs.TreeGrammar.{IsPlaneLine, NodeOver, written_split, plane_rule, planes, planes_used, named_split, plane_named, written_tree, named_tree, node_of}
use Rattle.mpc_grammar.specs.FileGrammar.{written, named, behind_plant}
use Rattle.mpc_grammar.specs.Outcomes.{all_items}
use Rattle.mpc_file.proofs.Stability.{split_stable}
use Rattle.mpc_file.proofs.LawShapes.{GoodLaws, written_good, named_good}
use Rattle.mpc_file.proofs.TreeShapes.{SplitsWell, GoodTree, good_tree}

-- ---- rows of splits
row_of_line : (name : List ℕ) (n : ℕ) (text : List ℕ) (row : RowInt) → IsPlaneLine name n text row → IsSplitRow n row
row_of_line name n text row h = record { size = h.row_is.size; some = h.plane.some; no_divisor = h.plane.no_divisor; small = h.row_is.small }

written_well : (plant : Plant) (laws : ℕ) → SplitsWell plant laws (λ row. row) (written_split plant)
written_well plant laws text row states in_bounds = (row_of_line (codes "split") plant.n text row states, split_stable (limits_of plant) row in_bounds)

record IsWell (plant : Plant) (row : RowInt) : Type 0 where
  split_row : IsSplitRow plant.n row
  fits : SplitFits (limits_of plant) row

planes_well : (plant : Plant) (all used : ℕ) (here : Cursor) (ps : List RowInt) (behind : Cursor) → (planes plant all used).Reads here ps behind → All (IsWell plant) ps
planes_well plant all used here ps behind (count, (b, (s, h))) =
    all_items RowInt (λ before. one_line (plane_rule plant before)) (λ before. nat_lt (length before) count) (IsWell plant)
    (λ before c x d more reads. record { split_row = row_of_line (codes "plane") plant.n reads.0 x reads.1.1.0.stated; fits = split_stable (limits_of plant) x reads.1.1.1 }) b ps behind h.0

named_well : (plant : Plant) (laws : ℕ) (ps : List RowInt) → All (IsWell plant) ps → (used : ℕ) → SplitsWell plant laws (plane_named ps) (named_split (length ps) used)
named_well plant laws ps each used text k states in_bounds =
    let w : IsWell plant (plane_named ps k) = All-get_or (IsWell plant) ps (k - 1) (record { a = []; b = Rattle.std.specs.Prelude.pos 0 }) (omega (arith, states.allowed.0, states.allowed.1)) each in
    (w.split_row, w.fits)

-- ---- the whole
together : (plant : Plant) (laws : List Law) (tree : List Node) → GoodLaws plant laws → GoodTree plant (length laws) tree → IsController plant laws tree
together plant laws tree ls ns =
    record {
      shapes = record { laws_few = ls.few; laws_fit = ls.shapes; nodes_fit = ns.nodes_fit; complete = ns.complete; certs_fit = ns.certs_fit };
      bounds = record { laws_fit = ls.bounds; nodes_fit = ns.bounds };
    }

pub IsControllerOf : Plant → Parts → Type 0
IsControllerOf plant parts = (parts.plant ≡ plant) × IsController parts.plant parts.laws parts.tree

module _ (spells_split : SplitSpells) (spells_leaf : LeafSpells) where
  pub written_parts : (plant : Plant) (here between behind : Cursor) (laws : List Law) (tree : List Node) → (written_laws plant).Reads here laws between → (written_tree plant (length laws)).Reads between tree behind → IsController plant laws tree
  written_parts plant here between behind laws tree l (u, (d, (t, (ns, (e, (n, is)))))) =
      let good_nodes : GoodTree plant (length laws) (map (node_of (λ row. row)) ns) = good_tree spells_split spells_leaf plant (length laws) (λ row. row) (λ before. written_split plant) (λ before. written_well plant (length laws)) d ns e n in
      let tree_is : tree ≡ map (node_of (λ row. row)) ns = is.0 in
      together plant laws tree (written_good plant here laws between l) (subst (GoodTree plant (length laws)) (sym tree_is) good_nodes)

  pub named_parts : (plant : Plant) (here b c d behind : Cursor) (fs : List (List ℚ)) (laws : List NamedLaw) (ps : List RowInt) (ns : List (NodeOver ℕ)) → (forms plant).Reads here fs b → (named_laws plant fs).Reads b laws c → (planes plant (length fs) (used_by laws)).Reads c ps d → (named_tree plant (length laws) ps).Reads d ns behind
      → IsController plant (map (law_named plant fs) laws) (map (node_of (plane_named ps)) ns)
  named_parts plant here b c d behind fs laws ps ns f l p (u, (h, (t, (nodes, (i, (n, is)))))) =
      let names = named_good plant here b fs laws c f l in
      let count : length (map (law_named plant fs) laws) ≡ length laws = length-map laws (law_named plant fs) in
      let good_nodes : GoodTree plant (length laws) (map (node_of (plane_named ps)) nodes) = good_tree spells_split spells_leaf plant (length laws) (plane_named ps) (λ before. named_split (length ps) (planes_used before)) (λ before. named_well plant (length laws) ps (planes_well plant (length fs) (used_by laws) c ps d p) (planes_used before)) h nodes i n in
      let tree_is : map (node_of (plane_named ps)) ns ≡ map (node_of (plane_named ps)) nodes = ap (map (node_of (plane_named ps))) is.0 in
      together plant (map (law_named plant fs) laws) (map (node_of (plane_named ps)) ns) names (subst (λ k. GoodTree plant k (map (node_of (plane_named ps)) ns)) (sym count) (subst (GoodTree plant (length laws)) (sym tree_is) good_nodes))

  written_is : (plant : Plant) (here : Cursor) (parts : Parts) (behind : Cursor) → (written plant).Reads here parts behind → IsController parts.plant parts.laws parts.tree
  written_is plant here parts behind (laws, (b, (l, (tree, (c, (t, (v, (f, (w, g))))))))) =
      subst (λ (p : Parts). IsController p.plant p.laws p.tree) (sym g.0) (written_parts plant here b c laws tree l t)

  named_is : (plant : Plant) (here : Cursor) (parts : Parts) (behind : Cursor) → (named plant).Reads here parts behind → IsController parts.plant parts.laws parts.tree
  named_is plant here parts behind (fs, (b, (f, (laws, (c, (l, (ps, (d, (p, (ns, (e, (t, (v, (j, (w, g))))))))))))))) =
      subst (λ (q : Parts). IsController q.plant q.laws q.tree) (sym g.0) (named_parts plant here b c d e fs laws ps ns f l p t)

  pub stated_is : (version : Version) (here : Cursor) (parts : Parts) (behind : Cursor) → (plant_grammar version >>= behind_plant version).Reads here parts behind → IsController parts.plant parts.laws parts.tree
  stated_is One here parts behind (plant, (b, (p, h))) = written_is plant b parts behind h
  stated_is Two here parts behind (plant, (b, (p, h))) = written_is plant b parts behind h
  stated_is Three here parts behind (plant, (b, (p, h))) = named_is plant b parts behind h
