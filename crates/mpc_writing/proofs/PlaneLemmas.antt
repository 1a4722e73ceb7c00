-- Planes that are named by their numbers: one node more.
use Rattle.std.proofs.Common.{◌≡◌, pos, ℕ, ◌+◌, ◌-◌, ◌^◌, ◌<◌, ◌≤◌, List, [], ◌∷◌, ◌++◌, length, map, refl, sym, ◌∙◌, ap, subst, append_assoc, arith, length-append}
use Rattle.std.specs.Prelude.{All, fold, slice_index_or, codes, Result, Ok, Err, OnOk}
use Rattle.std.specs.List.{flat_map}
use Rattle.std.specs.Global.{Vec}
use Rattle.std.proofs.lemmas.List.{append-nil, map-append, length-map}
use Rattle.std.proofs.lemmas.List.Elements.{All-nil, All-push}
use Rattle.std.proofs.Math.ListN.{get_or-append}
use Rattle.mpc_exact.specs.Rational.{ℚ}
use Rattle.mpc_linear.specs.declared.integers.RowInt.{RowInt}
use Rattle.mpc_plant.specs.declared.plants.Plant.{Plant}
use Rattle.mpc_rows.specs.declared.trees.Node.{Node}
use Rattle.mpc_rows.specs.declared.trees.Node.TheVariants.{Split, Law as LawLeaf, NoMove}
use Rattle.mpc_grammar.specs.Lines.{count_line}
use Rattle.mpc_grammar.specs.LineTheorems.{WordTheorems, OneIntegers}
use Rattle.mpc_grammar.specs.TreeGrammar.{NodeOver, used_with, plane_named, node_of}
use Rattle.mpc_grammar.specs.TreeGrammar.NodeOver.{split_node, law_node, no_move_node}
use Rattle.mpc_writing.specs.Writing.{ended, text_of_lines}
use Rattle.mpc_writing.specs.Names.{AreNames, IsNamed}
use Rattle.mpc_grammar.specs.WrittenFits.{CertFits}
use Rattle.mpc_writing.specs.PlaneNames.{plane_line, IsGoodPlane, IsGoodNode, ArePlanes, CertsFit, leaf_text, bare_leaf_text, node_text, NamesInOrder, PlanesInOrder, IsNodeNumbered, AreNodesNumbered, IsTreeWritten}
use Rattle.mpc_writing.specs.declared.names.Names.{Names}
use Rattle.std.proofs.lemmas.List.{same_from_push}
use Rattle.mpc_writing.proofs.GrownTexts.{pieces-push}
use Rattle.mpc_writing.proofs.TreePrints.{planes_few}
use Rattle.mpc_writing.proofs.StepLemmas.{IsItemStep, item_step}

one_plane : OneIntegers → (plant : Plant) (x y : RowInt) → IsGoodPlane plant x → IsGoodPlane plant y → plane_line x ≡ plane_line y → x ≡ y
one_plane one plant x y good other e =
    let same : x.a ++ x.b ∷ [] ≡ y.a ++ y.b ∷ [] = one (codes "plane") (x.a ++ x.b ∷ []) (y.a ++ y.b ∷ []) good.is_row.small other.is_row.small e in
    let both = same_from_push x.a y.a x.b y.b same in
    λ i. record { a = both.0 i; b = both.1 i }

-- ---- a node
pub split_numbered : OneIntegers → (plant : Plant) (planes : List RowInt) (row : RowInt) (k : ℕ) (old new : List ℕ) (names next : List (List ℕ) → Type 0) → IsGoodPlane plant row → ArePlanes plant names planes → IsNamed (map plane_line planes) (plane_line row) k next
    → new ≡ old ++ ended (count_line (codes "split") k) → IsNodeNumbered plant planes (Split row) old new next
split_numbered one plant planes row k old new names next good are named text =
    let step : IsItemStep plane_line (IsGoodPlane plant) (record { a = []; b = pos 0 }) planes row k next = item_step plane_line (IsGoodPlane plant) (record { a = []; b = pos 0 }) (one_plane one plant) planes row k next are.good good named in
    record {
      behind = step.more;
      all = planes ++ step.more;
      all_are = refl;
      named = split_node k;
      planes_are = record { names_are = step.names_are; good = step.good };
      node_is = ap Split step.item_is;
      text = text;
      in_order = (step.from_one, step.most, step.in_order);
      used = sym step.used;
      certs = tt;
    }

pub leaf_numbered : (plant : Plant) (planes : List RowInt) (law : ℕ) (certs : List (List (ℕ × ℚ))) (old new : List ℕ) (names : List (List ℕ) → Type 0) → ArePlanes plant names planes → new ≡ old ++ leaf_text law certs → All CertFits certs
    → IsNodeNumbered plant planes (LawLeaf law certs) old new names
leaf_numbered plant planes law certs old new names are text fits =
    record {
      behind = [];
      all = planes;
      all_are = sym (append-nil planes);
      named = law_node law certs;
      planes_are = are;
      node_is = refl;
      text = text;
      in_order = tt;
      used = refl;
      certs = fits;
    }

pub bare_numbered : (plant : Plant) (planes : List RowInt) (cert : List (ℕ × ℚ)) (old new : List ℕ) (names : List (List ℕ) → Type 0) → ArePlanes plant names planes → new ≡ old ++ bare_leaf_text cert → CertFits cert
    → IsNodeNumbered plant planes (NoMove cert) old new names
bare_numbered plant planes cert old new names are text fits =
    record {
      behind = [];
      all = planes;
      all_are = sym (append-nil planes);
      named = no_move_node cert;
      planes_are = are;
      node_is = refl;
      text = text;
      in_order = tt;
      used = refl;
      certs = fits;
    }

-- ---- all nodes
plane_front : (ps more : List RowInt) (k : ℕ) → 1 ≤ k → k ≤ length ps → plane_named (ps ++ more) k ≡ plane_named ps k
plane_front ps more k one most = get_or-append ps more (record { a = []; b = pos 0 }) (k - 1) (omega arith)

node_front : (ps more : List RowInt) (used : ℕ) (node : NodeOver ℕ) → NamesInOrder (length ps) used node → node_of (plane_named (ps ++ more)) node ≡ node_of (plane_named ps) node
node_front ps more used (split_node k) h = ap Split (plane_front ps more k h.0 h.1)
node_front ps more used (law_node j cs) h = refl
node_front ps more used (no_move_node c) h = refl

nodes_front : (ps more : List RowInt) (used : ℕ) (nodes : List (NodeOver ℕ)) → PlanesInOrder (length ps) used nodes → map (node_of (plane_named (ps ++ more))) nodes ≡ map (node_of (plane_named ps)) nodes
nodes_front ps more used [] h = refl
nodes_front ps more used (node ∷ nodes) h = λ i. node_front ps more used node h.0 i ∷ nodes_front ps more (used_with used node) nodes h.1 i

node_wider : (all wide used : ℕ) (node : NodeOver ℕ) → all ≤ wide → NamesInOrder all used node → NamesInOrder wide used node
node_wider all wide used (split_node k) most h = let within = h.1 in (h.0, omega arith, h.2)
node_wider all wide used (law_node j cs) most h = tt
node_wider all wide used (no_move_node c) most h = tt

nodes_wider : (all wide used : ℕ) (nodes : List (NodeOver ℕ)) → all ≤ wide → PlanesInOrder all used nodes → PlanesInOrder wide used nodes
nodes_wider all wide used [] most h = tt
nodes_wider all wide used (node ∷ nodes) most h = (node_wider all wide used node most h.0, nodes_wider all wide (used_with used node) nodes most h.1)

order_more : (all used : ℕ) (nodes : List (NodeOver ℕ)) (node : NodeOver ℕ) → PlanesInOrder all used nodes → NamesInOrder all (fold used_with used nodes) node → PlanesInOrder all used (nodes ++ node ∷ [])
order_more all used [] node h here = (here, tt)
order_more all used (n ∷ nodes) node h here = (h.0, order_more all (used_with used n) nodes node h.1 here)

fold_last : (used : ℕ) (nodes : List (NodeOver ℕ)) (node : NodeOver ℕ) → fold used_with used (nodes ++ node ∷ []) ≡ used_with (fold used_with used nodes) node
fold_last used [] node = refl
fold_last used (n ∷ nodes) node = fold_last (used_with used n) nodes node

pub nodes_none : (plant : Plant) (old : List ℕ) (names : List (List ℕ) → Type 0) → ArePlanes plant names [] → AreNodesNumbered plant [] old old names
nodes_none plant old names are = record { planes = []; named = []; planes_are = are; nodes_are = refl; text = sym (append-nil old); in_order = tt; used = refl; certs = All-nil CertsFit }

pub nodes_more : (plant : Plant) (nodes : List Node) (node : Node) (old mid new : List ℕ) (names next : List (List ℕ) → Type 0) → (a : AreNodesNumbered plant nodes old mid names) → IsNodeNumbered plant a.planes node mid new next → AreNodesNumbered plant (nodes ++ node ∷ []) old new next
nodes_more plant nodes node old mid new names next a l =
    let size : length l.all ≡ length a.planes + length l.behind = ap length l.all_are ∙ length-append a.planes l.behind in
    record {
      planes = l.all;
      named = a.named ++ l.named ∷ [];
      planes_are = l.planes_are;
      nodes_are = map-append (node_of (plane_named l.all)) a.named (l.named ∷ []) ∙ ap (λ t. t ++ node_of (plane_named l.all) l.named ∷ []) (ap (λ ps. map (node_of (plane_named ps)) a.named) l.all_are ∙ nodes_front a.planes l.behind 0 a.named a.in_order ∙ a.nodes_are) ∙ ap (λ n. nodes ++ n ∷ []) l.node_is;
      text = l.text ∙ ap (λ t. t ++ node_text l.named) a.text ∙ append_assoc old (flat_map node_text a.named) (node_text l.named) ∙ ap (λ t. old ++ t) (sym (pieces-push node_text a.named l.named));
      in_order = order_more (length l.all) 0 a.named l.named (nodes_wider (length a.planes) (length l.all) 0 a.named (omega arith) a.in_order) (subst (λ u. NamesInOrder (length l.all) u l.named) (sym a.used) l.in_order);
      used = fold_last 0 a.named l.named ∙ ap (λ u. used_with u l.named) a.used ∙ l.used;
      certs = All-push CertsFit a.named l.named a.certs l.certs;
    }

-- the planes then
pub planes_none : (plant : Plant) (old : List ℕ) (names : List (List ℕ) → Type 0) (are : ArePlanes plant names []) → (nodes_none plant old names are).planes ≡ []
unfolding nodes_none
planes_none plant old names are = refl

pub planes_more : (plant : Plant) (nodes : List Node) (node : Node) (old mid new : List ℕ) (names next : List (List ℕ) → Type 0) (a : AreNodesNumbered plant nodes old mid names) (l : IsNodeNumbered plant a.planes node mid new next)
    → (nodes_more plant nodes node old mid new names next a l).planes ≡ l.all
unfolding nodes_more
planes_more plant nodes node old mid new names next a l = refl

pub no_planes : (plant : Plant) (names : List (List ℕ) → Type 0) → names [] → ArePlanes plant names []
no_planes plant names are = record { names_are = are; good = All-nil (IsGoodPlane plant) }

pub good_at : (plant : Plant) (nodes : List Node) (k : ℕ) (node : Node) → All (IsGoodNode plant) nodes → (k < length nodes) → node ≡ slice_index_or nodes k node → IsGoodNode plant node
good_at plant nodes k node all inside is = subst (IsGoodNode plant) (sym is) (all k node inside)

text_two : (t0 t1 t2 t3 t4 a b c d : List ℕ) → t1 ≡ t0 ++ a → t2 ≡ t1 ++ b → t3 ≡ t2 ++ c → t4 ≡ t3 ++ d → t4 ≡ t0 ++ ((a ++ b) ++ (c ++ d))
text_two t0 t1 t2 t3 t4 a b c d h1 h2 h3 h4 = h4 ∙ ap (λ t. t ++ d) (h3 ∙ ap (λ t. t ++ c) (h2 ∙ ap (λ t. t ++ b) h1)) ∙ regroup t0 a b c d
  where
    regroup : (t0 a b c d : List ℕ) → (((t0 ++ a) ++ b) ++ c) ++ d ≡ t0 ++ ((a ++ b) ++ (c ++ d))
    regroup t0 a b c d = simp append_assoc

pub tree_written : WordTheorems → (plant : Plant) (nodes : List Node) (t0 t1 t2 t3 t4 text names_text : List ℕ) (count : ℕ) (names : Names) → AreNodesNumbered plant nodes [] text (AreNames names) → ((lines : List (List ℕ)) → AreNames names lines → count ≡ length lines) → names_text ≡ names.text.items → length names_text < 2 ^ 63
    → t1 ≡ t0 ++ ended (count_line (codes "planes") count) → t2 ≡ t1 ++ names_text → t3 ≡ t2 ++ ended (codes "tree") → t4 ≡ t3 ++ text → IsTreeWritten plant nodes t0 t4
tree_written words plant nodes t0 t1 t2 t3 t4 text names_text count names a counted names_are short h1 h2 h3 h4 =
    let are : AreNames names (map plane_line a.planes) = a.planes_are.names_are in
    let planes_count : count ≡ length a.planes = counted (map plane_line a.planes) are ∙ length-map a.planes plane_line in
    record {
      planes = a.planes;
      named = a.named;
      good = a.planes_are.good;
      different = are.different;
      few = planes_few words plant a.planes plant.is_plant.states.from_low a.planes_are.good (subst (λ t. length t < 2 ^ 63) (names_are ∙ are.text) short);
      nodes_are = a.nodes_are;
      in_order = a.in_order;
      used = a.used;
      certs = a.certs;
      text = text_two t0 t1 t2 t3 t4 (ended (count_line (codes "planes") (length a.planes))) (text_of_lines (map plane_line a.planes)) (ended (codes "tree")) (flat_map node_text a.named)
          (h1 ∙ ap (λ n. t0 ++ ended (count_line (codes "planes") n)) planes_count) (h2 ∙ ap (λ t. t1 ++ t) (names_are ∙ are.text)) h3 (h4 ∙ ap (λ t. t3 ++ t) a.text);
    }

-- a vector's bytes are fewer than 2^63
pub few_bytes : (v : Vec ℕ) → length v.items < 2 ^ 63
few_bytes v = let ok = v.ok in let small = v.small in omega arith

pub both_ok : {X E : Type 0} (r : Result X E) {A B C : Type 0} → (A → B → C) → OnOk r A → OnOk r B → OnOk r C
both_ok (Ok x) f a b = f a b
both_ok (Err e) f a b = tt
