-- Laws and trees whose forms and planes are named determine the bytes that they are read from, since these are named in the order of first use.
use Rattle.std.specs.Prelude.{is_some, slice_get, slice_index_or}
use Rattle.std.proofs.Common.{pos, codes, ◌≡◌, ℕ, ◌+◌, Bool, nat_lt, cond, List, [], ◌∷◌, ◌++◌, map, fold, flat_map, length, refl, sym, ap, subst, ◌∙◌, length-append, append-nil}
use Rattle.std.proofs.lemmas.List.{map-append, length-map}
use Rattle.std.proofs.lemmas.Grind.{flat_map-append}
use Rattle.mpc_exact.specs.Rational.{ℚ}
use Rattle.mpc_linear.specs.declared.integers.RowInt.{RowInt}
use Rattle.mpc_plant.specs.declared.plants.Plant.{Plant}
use Rattle.mpc_rows.specs.declared.laws.Law.{Law}
use Rattle.mpc_rows.specs.declared.trees.Node.{Node}
use Rattle.mpc_rows.specs.declared.trees.Node.TheVariants.{Split, Law as LawLeaf, NoMove}
use Rattle.mpc_controller.specs.Parts.{Parts}
use Rattle.mpc_grammar.specs.Reading.{Cursor, Grammar, one_line, give, ◌>>=◌, ReadsItems, no_item, one_more}
use Rattle.mpc_grammar.specs.PlantGrammar.{plain_rule, AreNumbers, UsesAll, StatesNew, IsNumber}
use Rattle.mpc_grammar.specs.LawGrammar.{forms, NameForms, used_behind, form_named, named_mults, NamedLaw, used_by, named_law, named_laws, law_named}
use Rattle.mpc_grammar.specs.TreeGrammar.{NodeLine, StatesNode, splits, names_law, has_none, NodeOver, split_node, law_node, no_move_node, node_behind, node_at, owed, plane_rule, planes, planes_used, used_with, named_split, plane_named, named_tree, IsWord, node_of, IsNext}
use Rattle.mpc_grammar.specs.FileGrammar.{parts_named, named}
use Rattle.mpc_file.proofs.LineNumbers.{same_front, same_back}
use Rattle.mpc_file.proofs.OneText.{HasOneText, Settles, text_plain, text_give, text_both, text_with}
use Rattle.mpc_file.proofs.PartText.{text_forms, text_named_laws, text_planes, text_named_tree}
use Rattle.mpc_file.proofs.NamedOnce.{names_append, used_append, AreDifferent, NamesAll, named_once, different_items}

-- ---- the numbers of laws
abbrev law_numbers : List NamedLaw → List ℕ
law_numbers laws = flat_map (λ (law : NamedLaw). law.moves ++ law.mults) laws

used_by_numbers : (used : ℕ) (laws : List NamedLaw) → fold (λ used law. used_behind (used_behind used law.moves) law.mults) used laws ≡ used_behind used (law_numbers laws)
used_by_numbers used [] = refl
used_by_numbers used (law ∷ laws) =
    used_by_numbers (used_behind (used_behind used law.moves) law.mults) laws ∙ ap (λ u. used_behind u (law_numbers laws)) (sym (used_append used law.moves law.mults))
    ∙ sym (used_append used (law.moves ++ law.mults) (law_numbers laws))

module _ (plant : Plant) (fs : List (List ℚ)) where
  mults_names : (set : List ℕ) (used : ℕ) (here : Cursor) (ls : List ℕ) (behind : Cursor) → (named_mults fs used set).Reads here ls behind → NameForms (length fs) used ls
  mults_names [] used here ls behind h = subst (NameForms (length fs) used) (sym h.0) tt
  mults_names (i ∷ set) used here ls behind (text, (taken, (states, over))) = states.name_forms

  law_names : (used : ℕ) (here : Cursor) (law : NamedLaw) (behind : Cursor) → (named_law plant fs used).Reads here law behind → NameForms (length fs) used (law.moves ++ law.mults)
  law_names used here law behind (set, (a, (set_line, (zs, (b, ((text, (taken, (states, over))), (ls, (c, (mults_read, (e, f)))))))))) =
      subst (λ (l : NamedLaw). NameForms (length fs) used (l.moves ++ l.mults)) (sym e)
      (names_append (length fs) used zs ls states.name_forms (mults_names set (used_behind used zs) b ls c mults_read))

  laws_names : (asks_more : List NamedLaw → Bool) (here : Cursor) (laws : List NamedLaw) (behind : Cursor) → ReadsItems NamedLaw (λ before. named_law plant fs (used_by before)) asks_more here laws behind → NameForms (length fs) 0 (law_numbers laws)
  laws_names asks_more here laws behind no_item = tt
  laws_names asks_more here laws behind (one_more before between law end reads more one) =
      let numbers : law_numbers (before ++ law ∷ []) ≡ law_numbers before ++ (law.moves ++ law.mults) =
      flat_map-append (λ (law : NamedLaw). law.moves ++ law.mults) before (law ∷ []) ∙ ap (λ ks. law_numbers before ++ ks) (append-nil (law.moves ++ law.mults)) in
      subst (NameForms (length fs) 0) (sym numbers)
      (names_append (length fs) 0 (law_numbers before) (law.moves ++ law.mults) (laws_names asks_more here before between reads)
      (subst (λ u. NameForms (length fs) u (law.moves ++ law.mults)) (used_by_numbers 0 before) (law_names (used_by before) between law end one)))

-- the rows of laws, one law behind another
abbrev law_rows : List Law → List (List ℚ)
law_rows laws = flat_map (λ (law : Law). law.moves.rows ++ law.mults.rows) laws

rows_named : (plant : Plant) (fs : List (List ℚ)) (laws : List NamedLaw) → law_rows (map (law_named plant fs) laws) ≡ map (form_named fs) (law_numbers laws)
rows_named plant fs [] = refl
rows_named plant fs (law ∷ laws) =
    (λ i. sym (map-append (form_named fs) law.moves law.mults) i ++ rows_named plant fs laws i) ∙ sym (map-append (form_named fs) (law.moves ++ law.mults) (law_numbers laws))

-- the laws are those that their numbers name
same_laws : (plant : Plant) (fs gs : List (List ℚ)) (laws others : List NamedLaw) → map (law_named plant fs) laws ≡ map (law_named plant gs) others → law_numbers laws ≡ law_numbers others → laws ≡ others
same_laws plant fs gs [] [] e f = refl
same_laws plant fs gs [] (o ∷ os) e f = absurd (cc)
same_laws plant fs gs (l ∷ ls) [] e f = absurd (cc)
same_laws plant fs gs (l ∷ ls) (o ∷ os) e f =
    let head : law_named plant fs l ≡ law_named plant gs o = cc in
    let tail : map (law_named plant fs) ls ≡ map (law_named plant gs) os = cc in
    let set : l.set ≡ o.set = ap (λ (law : Law). law.set) head in
    let moves_size : length l.moves ≡ length o.moves = sym (length-map l.moves (form_named fs)) ∙ ap (λ (law : Law). length law.moves.rows) head ∙ length-map o.moves (form_named gs) in
    let mults_size : length l.mults ≡ length o.mults = sym (length-map l.mults (form_named fs)) ∙ ap (λ (law : Law). length law.mults.rows) head ∙ length-map o.mults (form_named gs) in
    let size : length (l.moves ++ l.mults) ≡ length (o.moves ++ o.mults) = length-append l.moves l.mults ∙ (λ i. moves_size i + mults_size i) ∙ sym (length-append o.moves o.mults) in
    let front : l.moves ++ l.mults ≡ o.moves ++ o.mults = same_front (l.moves ++ l.mults) (law_numbers ls) (o.moves ++ o.mults) (law_numbers os) size f in
    let moves : l.moves ≡ o.moves = same_front l.moves l.mults o.moves o.mults moves_size front in
    let mults : l.mults ≡ o.mults = same_back l.moves l.mults o.moves o.mults moves_size front in
    let rest : ls ≡ os = same_laws plant fs gs ls os tail (same_back (l.moves ++ l.mults) (law_numbers ls) (o.moves ++ o.mults) (law_numbers os) size f) in
    λ i. record { set = set i; moves = moves i; mults = mults i } ∷ rest i

-- ---- the numbers of a tree's splits
abbrev number_of_node : NodeOver ℕ → List ℕ
number_of_node (split_node k) = k ∷ []
number_of_node (law_node j cs) = []
number_of_node (no_move_node c) = []

abbrev node_numbers : List (NodeOver ℕ) → List ℕ
node_numbers ns = flat_map number_of_node ns

planes_used_numbers : (used : ℕ) (ns : List (NodeOver ℕ)) → fold used_with used ns ≡ used_behind used (node_numbers ns)
planes_used_numbers used [] = refl
planes_used_numbers used (split_node k ∷ ns) = planes_used_numbers (cond (nat_lt used k) k used) ns
planes_used_numbers used (law_node j cs ∷ ns) = planes_used_numbers used ns
planes_used_numbers used (no_move_node c ∷ ns) = planes_used_numbers used ns

module _ (plant : Plant) (laws all : ℕ) where
  node_names : (used depth : ℕ) (text : List ℕ) (node : NodeLine ℕ) (here : Cursor) (x : NodeOver ℕ) (behind : Cursor) → StatesNode laws (IsNumber (codes "split") (IsNext all used)) text node → (node_behind plant depth node).Reads here x behind → NameForms all used (number_of_node x)
  node_names used depth text node here x behind (splits k h) r = subst (λ n. NameForms all used (number_of_node n)) (sym r.0) (h.allowed.0, h.allowed.1, h.allowed.2, tt)
  node_names used depth text node here x behind (names_law j e f) r = subst (λ n. NameForms all used (number_of_node n)) (sym r.1.1.1.0) tt
  node_names used depth text node here x behind (has_none e) r = subst (λ n. NameForms all used (number_of_node n)) (sym r.1.1.1.0) tt

  nodes_names : (here : Cursor) (ns : List (NodeOver ℕ)) (behind : Cursor)
      → ReadsItems (NodeOver ℕ) (λ before. node_at plant laws (named_split all (planes_used before)) (slice_index_or (owed before) 0 0)) (λ (before : List (NodeOver ℕ)). is_some (slice_get (owed before) 0)) here ns behind
      → NameForms all 0 (node_numbers ns)
  nodes_names here ns behind no_item = tt
  nodes_names here ns behind (one_more before between x end reads more (node, (at, ((text, (taken, (states, over))), rest)))) =
      let numbers : node_numbers (before ++ x ∷ []) ≡ node_numbers before ++ number_of_node x =
      flat_map-append number_of_node before (x ∷ []) ∙ ap (λ ks. node_numbers before ++ ks) (append-nil (number_of_node x)) in
      subst (NameForms all 0) (sym numbers)
      (names_append all 0 (node_numbers before) (number_of_node x) (nodes_names here before between reads)
      (subst (λ u. NameForms all u (number_of_node x)) (planes_used_numbers 0 before) (node_names (planes_used before) (slice_index_or (owed before) 0 0) text node at x end states rest)))

-- the rows of a tree's splits
abbrev row_of_node : Node → List RowInt
row_of_node (Split row) = row ∷ []
row_of_node (LawLeaf j cs) = []
row_of_node (NoMove c) = []

abbrev split_rows : List Node → List RowInt
split_rows ns = flat_map row_of_node ns

splits_named : (ps : List RowInt) (ns : List (NodeOver ℕ)) → split_rows (map (node_of (plane_named ps)) ns) ≡ map (plane_named ps) (node_numbers ns)
splits_named ps [] = refl
splits_named ps (split_node k ∷ ns) = ap (λ rows. plane_named ps k ∷ rows) (splits_named ps ns)
splits_named ps (law_node j cs ∷ ns) = splits_named ps ns
splits_named ps (no_move_node c ∷ ns) = splits_named ps ns

same_nodes : (ps qs : List RowInt) (ns os : List (NodeOver ℕ)) → map (node_of (plane_named ps)) ns ≡ map (node_of (plane_named qs)) os → node_numbers ns ≡ node_numbers os → ns ≡ os
same_nodes ps qs [] [] e f = refl
same_nodes ps qs [] (o ∷ os) e f = absurd (cc)
same_nodes ps qs (n ∷ ns) [] e f = absurd (cc)
same_nodes ps qs (split_node k ∷ ns) (split_node j ∷ os) e f =
    let tail : map (node_of (plane_named ps)) ns ≡ map (node_of (plane_named qs)) os = cc in
    let number : k ≡ j = cc in
    let others : node_numbers ns ≡ node_numbers os = cc in
    let rest : ns ≡ os = same_nodes ps qs ns os tail others in
    λ i. split_node (number i) ∷ rest i
same_nodes ps qs (split_node k ∷ ns) (law_node j cs ∷ os) e f = absurd (cc)
same_nodes ps qs (split_node k ∷ ns) (no_move_node c ∷ os) e f = absurd (cc)
same_nodes ps qs (law_node j cs ∷ ns) (split_node k ∷ os) e f = absurd (cc)
same_nodes ps qs (law_node j cs ∷ ns) (law_node k ds ∷ os) e f =
    let tail : map (node_of (plane_named ps)) ns ≡ map (node_of (plane_named qs)) os = cc in
    let law : j ≡ k = cc in
    let certs : cs ≡ ds = cc in
    let rest : ns ≡ os = same_nodes ps qs ns os tail f in
    λ i. law_node (law i) (certs i) ∷ rest i
same_nodes ps qs (law_node j cs ∷ ns) (no_move_node c ∷ os) e f = absurd (cc)
same_nodes ps qs (no_move_node c ∷ ns) (split_node k ∷ os) e f = absurd (cc)
same_nodes ps qs (no_move_node c ∷ ns) (law_node j cs ∷ os) e f = absurd (cc)
same_nodes ps qs (no_move_node c ∷ ns) (no_move_node d ∷ os) e f =
    let tail : map (node_of (plane_named ps)) ns ≡ map (node_of (plane_named qs)) os = cc in
    let cert : c ≡ d = cc in
    let rest : ns ≡ os = same_nodes ps qs ns os tail f in
    λ i. no_move_node (cert i) ∷ rest i

-- ---- the lines behind the forms, the laws, the planes and the tree
abbrev behind_tree : Plant → List (List ℚ) → List NamedLaw → List RowInt → List (NodeOver ℕ) → Grammar Parts
behind_tree plant fs laws ps ns = one_line (plain_rule (UsesAll (length ps) (planes_used ns) (IsWord (codes "end")))) >>= λ u. give (parts_named plant fs laws ps ns)

abbrev behind_planes : Plant → List (List ℚ) → List NamedLaw → List RowInt → Grammar Parts
behind_planes plant fs laws ps = named_tree plant (length laws) ps >>= behind_tree plant fs laws ps

abbrev behind_laws : Plant → List (List ℚ) → List NamedLaw → Grammar Parts
behind_laws plant fs laws = planes plant (length fs) (used_by laws) >>= behind_planes plant fs laws

abbrev behind_forms : Plant → List (List ℚ) → Grammar Parts
behind_forms plant fs = named_laws plant fs >>= behind_laws plant fs

-- ---- what is so of forms and laws that are read
forms_differ : (plant : Plant) (here : Cursor) (fs : List (List ℚ)) (behind : Cursor) → (forms plant).Reads here fs behind → AreDifferent [] fs
forms_differ plant here fs behind (count, (between, (count_line, (reads, none)))) =
    different_items [] (λ before. one_line (plain_rule (StatesNew before (AreNumbers (codes "form") (plant.n + 1))))) (λ (before : List (List ℚ)). nat_lt (length before) count)
    (λ before at x end h. h.1.1.0.new_one) between fs behind reads

record AreLaws (plant : Plant) (fs : List (List ℚ)) (laws : List NamedLaw) (y : Parts) : Type 0 where
  names : NamesAll [] fs (law_numbers laws)
  laws_are : y.laws ≡ map (law_named plant fs) laws

laws_told : (plant : Plant) (fs : List (List ℚ)) → AreDifferent [] fs → (here between behind : Cursor) (laws : List NamedLaw) (y : Parts) → (named_laws plant fs).Reads here laws between → (behind_laws plant fs laws).Reads between y behind → AreLaws plant fs laws y
laws_told plant fs differ here between behind laws y (count, (a, (law_line, (reads, none)))) (ps, (b, ((planes_count, (c, ((text, (taken, (states, over))), planes_read))), (ns, (e, (tree_read, (u, (f, (end_read, (is, at)))))))))) =
    record {
      names = record {
        different = differ;
        names = laws_names plant fs (λ (before : List NamedLaw). nat_lt (length before) count) a laws between reads;
        all = sym (used_by_numbers 0 laws) ∙ states.all_used;
      };
      laws_are = ap (λ (p : Parts). p.laws) is;
    }

one_naming : (plant : Plant) (fs gs : List (List ℚ)) (laws others : List NamedLaw) (y : Parts) → AreLaws plant fs laws y → AreLaws plant gs others y → (fs ≡ gs) × (laws ≡ others)
one_naming plant fs gs laws others y h k =
    let maps : map (law_named plant fs) laws ≡ map (law_named plant gs) others = sym h.laws_are ∙ k.laws_are in
    let rows : map (form_named fs) (law_numbers laws) ≡ map (form_named gs) (law_numbers others) = sym (rows_named plant fs laws) ∙ ap law_rows maps ∙ rows_named plant gs others in
    let one : (fs ≡ gs) × (law_numbers laws ≡ law_numbers others) = named_once [] fs gs (law_numbers laws) (law_numbers others) h.names k.names rows in
    (one.0, same_laws plant fs gs laws others maps one.1)

abbrev no_plane : RowInt
no_plane = record { a = []; b = pos 0 }

-- ---- what is so of planes and nodes that are read
planes_differ : (plant : Plant) (all used : ℕ) (here : Cursor) (ps : List RowInt) (behind : Cursor) → (planes plant all used).Reads here ps behind → AreDifferent no_plane ps
planes_differ plant all used here ps behind (count, (between, (count_line, (reads, none)))) =
    different_items no_plane (λ before. one_line (plane_rule plant before)) (λ (before : List RowInt). nat_lt (length before) count) (λ before at x end h. h.1.1.0.new_one) between ps behind reads

record AreNodes (ps : List RowInt) (ns : List (NodeOver ℕ)) (y : Parts) : Type 0 where
  names : NamesAll no_plane ps (node_numbers ns)
  nodes_are : y.tree ≡ map (node_of (plane_named ps)) ns

nodes_told : (plant : Plant) (fs : List (List ℚ)) (laws : List NamedLaw) (ps : List RowInt) → AreDifferent no_plane ps → (here between behind : Cursor) (ns : List (NodeOver ℕ)) (y : Parts) → (named_tree plant (length laws) ps).Reads here ns between → (behind_tree plant fs laws ps ns).Reads between y behind → AreNodes ps ns y
nodes_told plant fs laws ps differ here between behind ns y (u, (a, (tree_line, (ms, (b, ((reads, none), (same, at))))))) (v, (c, ((text, (taken, (states, over))), (is, to)))) =
    record {
      names = record {
        different = differ;
        names = subst (λ l. NameForms (length ps) 0 (node_numbers l)) (sym same) (nodes_names plant (length laws) (length ps) a ms b reads);
        all = sym (planes_used_numbers 0 ns) ∙ states.all_used;
      };
      nodes_are = ap (λ (p : Parts). p.tree) is;
    }

one_tree : (ps qs : List RowInt) (ns os : List (NodeOver ℕ)) (y : Parts) → AreNodes ps ns y → AreNodes qs os y → (ps ≡ qs) × (ns ≡ os)
one_tree ps qs ns os y h k =
    let maps : map (node_of (plane_named ps)) ns ≡ map (node_of (plane_named qs)) os = sym h.nodes_are ∙ k.nodes_are in
    let rows : map (plane_named ps) (node_numbers ns) ≡ map (plane_named qs) (node_numbers os) = sym (splits_named ps ns) ∙ ap split_rows maps ∙ splits_named qs os in
    let one : (ps ≡ qs) × (node_numbers ns ≡ node_numbers os) = named_once no_plane ps qs (node_numbers ns) (node_numbers os) h.names k.names rows in
    (one.0, same_nodes ps qs ns os maps one.1)

-- ---- the text
text_behind_tree : (plant : Plant) (fs : List (List ℚ)) (laws : List NamedLaw) (ps : List RowInt) (ns : List (NodeOver ℕ)) → HasOneText (behind_tree plant fs laws ps ns)
text_behind_tree plant fs laws ps ns =
    text_with _ _ (λ y. tt) (text_plain (UsesAll (length ps) (planes_used ns) (IsWord (codes "end"))) (λ line other x h k. h.stated ∙ sym k.stated)) (λ u. text_give (parts_named plant fs laws ps ns)) (λ here u y behind h. refl)

tree_settles : (plant : Plant) (fs : List (List ℚ)) (laws : List NamedLaw) (ps : List RowInt) → AreDifferent no_plane ps → Settles (named_tree plant (length laws) ps) (behind_tree plant fs laws ps)
tree_settles plant fs laws ps differ here there between at behind beyond ns os y h k l m =
    (one_tree ps ps ns os y (nodes_told plant fs laws ps differ here between behind ns y h k) (nodes_told plant fs laws ps differ there at beyond os y l m)).1

text_behind_planes : (plant : Plant) (fs : List (List ℚ)) (laws : List NamedLaw) (ps : List RowInt) → AreDifferent no_plane ps → HasOneText (behind_planes plant fs laws ps)
text_behind_planes plant fs laws ps differ =
    text_both (named_tree plant (length laws) ps) (behind_tree plant fs laws ps) (text_named_tree plant (length laws) ps) (λ ns here between h. text_behind_tree plant fs laws ps ns) (tree_settles plant fs laws ps differ)

planes_settle : (plant : Plant) (fs : List (List ℚ)) (laws : List NamedLaw) → Settles (planes plant (length fs) (used_by laws)) (behind_planes plant fs laws)
planes_settle plant fs laws here there between at behind beyond ps qs y h (ns, (a, (k, q))) l (os, (b, (m, r))) =
    (one_tree ps qs ns os y (nodes_told plant fs laws ps (planes_differ plant (length fs) (used_by laws) here ps between h) between a behind ns y k q)
    (nodes_told plant fs laws qs (planes_differ plant (length fs) (used_by laws) there qs at l) at b beyond os y m r)).0

text_behind_laws : (plant : Plant) (fs : List (List ℚ)) (laws : List NamedLaw) → HasOneText (behind_laws plant fs laws)
text_behind_laws plant fs laws =
    text_both (planes plant (length fs) (used_by laws)) (behind_planes plant fs laws) (text_planes plant (length fs) (used_by laws))
    (λ ps here between h. text_behind_planes plant fs laws ps (planes_differ plant (length fs) (used_by laws) here ps between h)) (planes_settle plant fs laws)

laws_settle : (plant : Plant) (fs : List (List ℚ)) → AreDifferent [] fs → Settles (named_laws plant fs) (behind_laws plant fs)
laws_settle plant fs differ here there between at behind beyond laws others y h k l m =
    (one_naming plant fs fs laws others y (laws_told plant fs differ here between behind laws y h k) (laws_told plant fs differ there at beyond others y l m)).1

text_behind_forms : (plant : Plant) (fs : List (List ℚ)) → AreDifferent [] fs → HasOneText (behind_forms plant fs)
text_behind_forms plant fs differ =
    text_both (named_laws plant fs) (behind_laws plant fs) (text_named_laws plant fs) (λ laws here between h. text_behind_laws plant fs laws) (laws_settle plant fs differ)

forms_settle : (plant : Plant) → Settles (forms plant) (behind_forms plant)
forms_settle plant here there between at behind beyond fs gs y h (laws, (a, (k, q))) l (others, (b, (m, r))) =
    (one_naming plant fs gs laws others y (laws_told plant fs (forms_differ plant here fs between h) between a behind laws y k q) (laws_told plant gs (forms_differ plant there gs at l) at b beyond others y m r)).0

pub text_named : (plant : Plant) → HasOneText (named plant)
text_named plant = text_both (forms plant) (behind_forms plant) (text_forms plant) (λ fs here between h. text_behind_forms plant fs (forms_differ plant here fs between h)) (forms_settle plant)
