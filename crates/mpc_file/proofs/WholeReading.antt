-- How a whole file is read and fails, part by part.
use Rattle.std.proofs.Common.{◌≡◌, ℕ, List, length, map, inl, inr, sym, ap, subst, Result, Ok, Err}
use Rattle.std.specs.Prelude.{IsErrAnd, codes}
use Rattle.mpc_exact.specs.Rational.{ℚ}
use Rattle.mpc_linear.specs.declared.integers.RowInt.{RowInt}
use Rattle.mpc_plant.specs.declared.plants.Plant.{Plant}
use Rattle.mpc_rows.specs.declared.laws.Law.{Law}
use Rattle.mpc_rows.specs.declared.trees.Node.{Node}
use Rattle.mpc_grammar.specs.declared.errors.FileKind.{FileKind}
use Rattle.mpc_grammar.specs.declared.errors.FileError.{FileError}
use Rattle.mpc_grammar.specs.Reading.{Cursor, Grammar, Outcome, one_line}
use Rattle.mpc_grammar.specs.PlantGrammar.{plain_rule, UsesAll}
use Rattle.mpc_grammar.specs.LawGrammar.{written_laws, forms, NamedLaw, named_laws, used_by}
use Rattle.mpc_grammar.specs.TreeGrammar.{IsWord, NodeOver, written_tree, planes, planes_used, named_tree, node_of, plane_named}
use Rattle.mpc_law_lines.specs.TreeReading.{named_tree_nodes}
use Rattle.mpc_grammar.specs.FileGrammar.{written, named}
use Rattle.mpc_grammar.specs.Outcomes.{error_from}

-- an error is passed on
pub passed_on : {X Y : Type 0} (first : Grammar X) (second : Grammar Y) (between behind start end : Cursor) (answer : Result Y FileError) (error : FileError)
    → ((kind : FileKind) (number : ℕ) → first.Fails between kind number → second.Fails start kind number) → Outcome first between behind (Err error) → IsErrAnd answer (λ e. e ≡ error) → Outcome second start end answer
passed_on first second between behind start end (Ok w) error move failed e = absurd e
passed_on first second between behind start end (Err told) error move failed e = subst (λ x. Outcome second start end (Err x)) (sym e) (error_from first second between behind start end error move failed)

-- ---- where forms and rows are written out
module _ (plant : Plant) (here b : Cursor) (laws : List Law) (read_laws : (written_laws plant).Reads here laws b) (count : ℕ) (count_is : count ≡ length laws) where
  pub tree_fails : (kind : FileKind) (number : ℕ) → (written_tree plant count).Fails b kind number → (written plant).Fails here kind number
  tree_fails kind number f = inr (laws, (b, (read_laws, inl (subst (λ n. (written_tree plant n).Fails b kind number) count_is f))))

  pub tree_read : (c : Cursor) (tree : List Node) → (written_tree plant count).Reads b tree c → (written_tree plant (length laws)).Reads b tree c
  tree_read c tree t = subst (λ n. (written_tree plant n).Reads b tree c) count_is t

  pub end_fails : (c : Cursor) (tree : List Node) → (written_tree plant count).Reads b tree c → (kind : FileKind) (number : ℕ) → (one_line (plain_rule (IsWord (codes "end")))).Fails c kind number → (written plant).Fails here kind number
  end_fails c tree t kind number f = inr (laws, (b, (read_laws, inr (tree, (c, (tree_read c tree t, inl f))))))

-- ---- where they are named
module _ (plant : Plant) (here b : Cursor) (fs : List (List ℚ)) (read_forms : (forms plant).Reads here fs b) where
  pub laws_fail : (kind : FileKind) (number : ℕ) → (named_laws plant fs).Fails b kind number → (named plant).Fails here kind number
  laws_fail kind number f = inr (fs, (b, (read_forms, inl f)))

  module _ (c : Cursor) (ls : List NamedLaw) (read_laws : (named_laws plant fs).Reads b ls c) (all used : ℕ) (all_is : all ≡ length fs) (used_is : used ≡ used_by ls) where
    pub planes_fail : (kind : FileKind) (number : ℕ) → (planes plant all used).Fails c kind number → (named plant).Fails here kind number
    planes_fail kind number f = inr (fs, (b, (read_forms, inr (ls, (c, (read_laws, inl (subst (λ n. (planes plant n (used_by ls)).Fails c kind number) all_is (subst (λ n. (planes plant all n).Fails c kind number) used_is f))))))))

    module _ (d : Cursor) (ps : List RowInt) (read_planes : (planes plant all used).Reads c ps d) (count : ℕ) (count_is : count ≡ length ls) where
      pub planes_read : (planes plant (length fs) (used_by ls)).Reads c ps d
      planes_read = subst (λ n. (planes plant n (used_by ls)).Reads c ps d) all_is (subst (λ n. (planes plant all n).Reads c ps d) used_is read_planes)

      pub nodes_fail : (kind : FileKind) (number : ℕ) → (named_tree plant count ps).Fails d kind number → (named plant).Fails here kind number
      nodes_fail kind number f = inr (fs, (b, (read_forms, inr (ls, (c, (read_laws, inr (ps, (d, (planes_read, inl (subst (λ n. (named_tree plant n ps).Fails d kind number) count_is f))))))))))

      module _ (e : Cursor) (ns : List (NodeOver ℕ)) (read_tree : (named_tree plant count ps).Reads d ns e) (most splits : ℕ) (most_is : most ≡ length ps) (splits_is : splits ≡ planes_used ns) where
        pub nodes_read : (named_tree plant (length ls) ps).Reads d ns e
        nodes_read = subst (λ n. (named_tree plant n ps).Reads d ns e) count_is read_tree

        end_is : (P : ℕ → ℕ → Type 0) → P most splits → P (length ps) (planes_used ns)
        end_is P h = subst (λ n. P n (planes_used ns)) most_is (subst (P most) splits_is h)

        pub last_fails : (kind : FileKind) (number : ℕ) → (one_line (plain_rule (UsesAll most splits (IsWord (codes "end"))))).Fails e kind number → (named plant).Fails here kind number
        last_fails kind number f =
            inr (fs, (b, (read_forms, inr (ls, (c, (read_laws, inr (ps, (d, (planes_read, inr (ns, (e, (nodes_read, inl (end_is (λ m n. (one_line (plain_rule (UsesAll m n (IsWord (codes "end"))))).Fails e kind number) f)))))))))))))

        pub last_read : (u : Unit {0}) (end : Cursor) → (one_line (plain_rule (UsesAll most splits (IsWord (codes "end"))))).Reads e u end → (one_line (plain_rule (UsesAll (length ps) (planes_used ns) (IsWord (codes "end"))))).Reads e u end
        last_read u end f = end_is (λ m n. (one_line (plain_rule (UsesAll m n (IsWord (codes "end"))))).Reads e u end) f

-- ---- the nodes with the rows of their splits
pub record NodesRead (plant : Plant) (count : ℕ) (ps : List RowInt) (d e : Cursor) (tree : List Node) (splits : ℕ) : Type 0 where
  pub ns : List (NodeOver ℕ)
  pub reads : (named_tree plant count ps).Reads d ns e
  pub tree_is : tree ≡ map (node_of (plane_named ps)) ns
  pub splits_is : splits ≡ planes_used ns

pub nodes_of : (plant : Plant) (count : ℕ) (ps : List RowInt) (d e : Cursor) (tree : List Node) (splits : ℕ) → (named_tree_nodes plant count ps).Reads d (tree, splits) e → NodesRead plant count ps d e tree splits
nodes_of plant count ps d e tree splits (ns, (m, (r, (p, q)))) =
    record { ns = ns; reads = subst (λ x. (named_tree plant count ps).Reads d ns x) (sym q) r; tree_is = ap (λ z. z.0) p; splits_is = ap (λ z. z.1) p }

pub none_behind : (plant : Plant) (count : ℕ) (ps : List RowInt) (d : Cursor) (kind : FileKind) (number : ℕ) → (named_tree_nodes plant count ps).Fails d kind number → (named_tree plant count ps).Fails d kind number
none_behind plant count ps d kind number (inl f) = f
none_behind plant count ps d kind number (inr (ns, (m, (r, h)))) = absurd h
