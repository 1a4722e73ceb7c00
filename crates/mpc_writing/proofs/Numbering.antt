-- The different forms of any laws, and the different planes of any nodes, can be numbered in the order in which they come first.
use Rattle.std.proofs.Common.{◌≡◌, ◌≢◌, ℕ, zero, suc, ◌+◌, ◌-◌, ◌<◌, ◌≤◌, ◌⊎◌, inl, inr, Bool, true, false, cond, nat_lt, List, [], ◌∷◌, ◌++◌, length, map, get_or, refl, sym, ◌∙◌, ap, subst, append_assoc, arith, length-append}
use Rattle.std.specs.Prelude.{All, codes, decimal}
use Rattle.std.specs.Ordering.{nat_cmp, is_eq}
use Rattle.std.specs.Cmp.Lexicographic.{slice_cmp}
use Rattle.std.proofs.lemmas.List.{append-nil}
use Rattle.std.proofs.lemmas.List.Elements.{All-head, All-tail}
use Rattle.std.proofs.lemmas.Bool.{lt-ltb, le-ltb}
use Rattle.mpc_exact.specs.Rational.{ℚ}
use Rattle.mpc_linear.specs.declared.integers.RowInt.{RowInt}
use Rattle.mpc_plant.specs.declared.plants.Plant.{Plant}
use Rattle.mpc_rows.specs.declared.laws.Law.{Law}
use Rattle.mpc_rows.specs.declared.trees.Node.{Node}
use Rattle.mpc_rows.specs.declared.trees.Node.TheVariants.{Split, Law as LawLeaf, NoMove}
use Rattle.mpc_words.specs.Words.{line}
use Rattle.mpc_grammar.specs.Lines.{count_line}
use Rattle.mpc_grammar.specs.PlantGrammar.{AllFit}
use Rattle.mpc_grammar.specs.TreeGrammar.{NodeOver, used_with}
use Rattle.mpc_grammar.specs.TreeGrammar.NodeOver.{split_node, law_node, no_move_node}
use Rattle.mpc_grammar.specs.LineTheorems.{OneFractions, OneIntegers}
use Rattle.mpc_writing.specs.Writing.{ended}
use Rattle.mpc_writing.specs.Names.{IsNew, AreDifferent, IsNamed}
use Rattle.mpc_writing.specs.FormNames.{form_line, AreForms, AreNumbered, IsLawNumbered, AreLawsNumbered}
use Rattle.mpc_writing.specs.PlaneNames.{plane_line, IsGoodNode, ArePlanes, leaf_text, bare_leaf_text, NamesInOrder, IsNodeNumbered, AreNodesNumbered}
use Rattle.mpc_grammar.specs.Statable.{LawNumbersFit, NodeNumbersFit}
use Rattle.mpc_writing.proofs.NameLemmas.{same_bytes, other_bytes, number_more, number_last, different_none, different_more}
use Rattle.mpc_writing.proofs.FormNameLemmas.{numbered_none, numbered_more, law_without, law_with_mults, laws_none, laws_more, no_forms}
use Rattle.mpc_writing.proofs.PlaneLemmas.{split_numbered, leaf_numbered, bare_numbered, nodes_none, nodes_more, planes_none, planes_more, no_planes}

-- ---- a line is one of those that came, or new
either : {A B : Type 0} (b : Bool) → (b ≡ true → A) → (b ≡ false → B) → A ⊎ B
either true f g = inl (f refl)
either false f g = inr (g refl)

new_before : (first text : List ℕ) (lines : List (List ℕ)) → first ≢ text → IsNew lines text → IsNew (first ∷ lines) text
new_before first text lines other new zero inside = other
new_before first text lines other new (suc i) inside = new i (omega arith)

-- the place of a line among others, from 0
abbrev IsPlaced : List (List ℕ) → List ℕ → Type 0
IsPlaced lines text = (i : ℕ) × ((i < length lines) × (get_or lines i [] ≡ text))

placed : (lines : List (List ℕ)) (text : List ℕ) → IsPlaced lines text ⊎ IsNew lines text
placed [] text = inr (λ i inside. absurd (omega arith))
placed (first ∷ lines) text =
    elim (either (is_eq (slice_cmp nat_cmp first text)) (same_bytes first text) (other_bytes first text)) [
      | inl same ↦ inl (zero, (omega arith, same))
      | inr other ↦ elim (placed lines text) [
        | inl at ↦ inl (suc at.0, (omega (arith, at.1.0), at.1.1))
        | inr new ↦ inr (new_before first text lines other new)
      ]
    ]

named_line : (lines : List (List ℕ)) (text : List ℕ) → AreDifferent lines → (k : ℕ) × IsNamed lines text k AreDifferent
named_line lines text different =
    elim (placed lines text) [
      | inl at ↦ (at.0 + 1, old at.0 at.1.0 at.1.1)
      | inr new ↦ (
        length lines + 1,
        record {
          behind = text ∷ [];
          behind_is = inr refl;
          names_are = different_more lines text different new;
          number_of = number_last lines text;
          used = length-append lines (text ∷ []) ∙ ap (λ b. cond b (length lines + 1) (length lines)) (sym (lt-ltb (length lines) (length lines + 1) (omega arith)));
          in_order = omega arith;
        },
      )
    ]
  where
    old : (i : ℕ) → i < length lines → get_or lines i [] ≡ text → IsNamed lines text (i + 1) AreDifferent
    old i inside same =
        let back : i ≡ i + 1 - 1 = omega arith in
        record {
          behind = [];
          behind_is = inl refl;
          names_are = subst AreDifferent (sym (append-nil lines)) different;
          number_of = number_more lines [] text (i + 1) (record { from_one = omega arith; is_line = omega arith; line_is = subst (λ j. get_or lines j [] ≡ text) back same });
          used = ap length (append-nil lines) ∙ ap (λ b. cond b (i + 1) (length lines)) (sym (le-ltb (length lines) (i + 1) (omega arith)));
          in_order = omega arith;
        }

-- ---- the forms of laws
record SomeNumbered (forms rows : List (List ℚ)) (old : List ℕ) : Type 0 where
  text : List ℕ
  are : AreNumbered forms rows old text AreDifferent

record SomeLawNumbered (forms : List (List ℚ)) (law : Law) (old : List ℕ) : Type 0 where
  text : List ℕ
  are : IsLawNumbered forms law old text AreDifferent

pub record SomeLawsNumbered (laws : List Law) (old : List ℕ) : Type 0 where
  pub text : List ℕ
  pub are : AreLawsNumbered laws old text AreDifferent

none_or_some : (rows : List (List ℚ)) → (rows ≡ []) ⊎ (1 ≤ length rows)
none_or_some [] = inl refl
none_or_some (row ∷ rows) = inr (omega arith)

module _ (one : OneFractions) where
  rows_numbered : (forms rows rest : List (List ℚ)) (old mid : List ℕ) → All AllFit rest → AreNumbered forms rows old mid AreDifferent → SomeNumbered forms (rows ++ rest) old
  rows_numbered forms rows [] old mid fit n = record { text = mid; are = subst (λ rs. AreNumbered forms rs old mid AreDifferent) (sym (append-nil rows)) n }
  rows_numbered forms rows (row ∷ rest) old mid fit n =
      let named = named_line (map form_line n.all) (form_line row) n.forms_are.names_are in
      let next : AreNumbered forms (rows ++ row ∷ []) old (mid ++ 32 ∷ decimal named.0) AreDifferent =
      numbered_more one forms rows row named.0 old mid (mid ++ 32 ∷ decimal named.0) AreDifferent AreDifferent (All-head AllFit row rest fit) n named.1 refl in
      subst (λ rs. SomeNumbered forms rs old) (append_assoc rows (row ∷ []) rest) (rows_numbered forms (rows ++ row ∷ []) rest old (mid ++ 32 ∷ decimal named.0) (All-tail AllFit row rest fit) next)

  law_numbered : (forms : List (List ℚ)) (law : Law) (old : List ℕ) → AreForms AreDifferent forms → LawNumbersFit law → SomeLawNumbered forms law old
  law_numbered forms law old are fit =
      let set = old ++ ended (line (codes "law") (map decimal law.set)) in
      let name = set ++ codes "move" in
      let n = rows_numbered forms [] law.moves.rows name name fit.moves (numbered_none forms name AreDifferent are) in
      let mult = (n.text ++ codes "\n") ++ codes "mult" in
      let m = rows_numbered n.are.all [] law.mults.rows mult mult fit.mults (numbered_none n.are.all mult AreDifferent n.are.forms_are) in
      elim (none_or_some law.mults.rows) [
        | inl none ↦ record { text = n.text ++ codes "\n"; are = law_without forms law old set name n.text (n.text ++ codes "\n") AreDifferent refl refl n.are refl none }
        | inr some ↦
            record {
              text = m.text ++ codes "\n";
              are = law_with_mults forms law old set name n.text (n.text ++ codes "\n") mult m.text (m.text ++ codes "\n") AreDifferent AreDifferent refl refl n.are refl refl m.are refl some;
            }
      ]

  laws_from : (laws rest : List Law) (old mid : List ℕ) → All LawNumbersFit rest → AreLawsNumbered laws old mid AreDifferent → SomeLawsNumbered (laws ++ rest) old
  laws_from laws [] old mid fit a = record { text = mid; are = subst (λ ls. AreLawsNumbered ls old mid AreDifferent) (sym (append-nil laws)) a }
  laws_from laws (law ∷ rest) old mid fit a =
      let l = law_numbered a.forms law mid a.forms_are (All-head LawNumbersFit law rest fit) in
      subst (λ ls. SomeLawsNumbered ls old) (append_assoc laws (law ∷ []) rest)
      (laws_from (laws ++ law ∷ []) rest old l.text (All-tail LawNumbersFit law rest fit) (laws_more laws law old mid l.text AreDifferent AreDifferent a l.are))

  pub laws_numbered : (laws : List Law) → All LawNumbersFit laws → SomeLawsNumbered laws []
  laws_numbered laws fit = laws_from [] laws [] [] fit (laws_none [] AreDifferent (no_forms AreDifferent different_none))

-- ---- the planes of nodes
record SomeNodeNumbered (plant : Plant) (planes : List RowInt) (node : Node) (old : List ℕ) : Type 0 where
  text : List ℕ
  are : IsNodeNumbered plant planes node old text AreDifferent

pub record SomeNodesNumbered (plant : Plant) (nodes : List Node) (old : List ℕ) : Type 0 where
  pub text : List ℕ
  pub are : AreNodesNumbered plant nodes old text AreDifferent
  pub few : length are.planes ≤ length nodes

-- a node uses one plane more at most
one_more_at_most : (all used : ℕ) (node : NodeOver ℕ) → NamesInOrder all used node → used_with used node ≤ used + 1
one_more_at_most all used (split_node k) order = larger used k (nat_lt used k) order.2
  where
    larger : (used k : ℕ) (b : Bool) → k ≤ used + 1 → cond b k used ≤ used + 1
    larger used k true near = near
    larger used k false near = omega arith
one_more_at_most all used (law_node j cs) order = omega arith
one_more_at_most all used (no_move_node c) order = omega arith

module _ (one : OneIntegers) (plant : Plant) where
  node_numbered : (planes : List RowInt) (node : Node) (old : List ℕ) → ArePlanes plant AreDifferent planes → IsGoodNode plant node → NodeNumbersFit node → SomeNodeNumbered plant planes node old
  node_numbered planes (Split row) old are good fit =
      let named = named_line (map plane_line planes) (plane_line row) are.names_are in
      record {
        text = old ++ ended (count_line (codes "split") named.0);
        are = split_numbered one plant planes row named.0 old (old ++ ended (count_line (codes "split") named.0)) AreDifferent AreDifferent good are named.1 refl;
      }
  node_numbered planes (LawLeaf law certs) old are good fit = record { text = old ++ leaf_text law certs; are = leaf_numbered plant planes law certs old (old ++ leaf_text law certs) AreDifferent are refl fit }
  node_numbered planes (NoMove cert) old are good fit = record { text = old ++ bare_leaf_text cert; are = bare_numbered plant planes cert old (old ++ bare_leaf_text cert) AreDifferent are refl fit }

  nodes_from : (nodes rest : List Node) (old mid : List ℕ) → All (IsGoodNode plant) rest → All NodeNumbersFit rest → (a : AreNodesNumbered plant nodes old mid AreDifferent) → length a.planes ≤ length nodes → SomeNodesNumbered plant (nodes ++ rest) old
  nodes_from nodes [] old mid good fit a few = subst (λ ns. SomeNodesNumbered plant ns old) (sym (append-nil nodes)) (record { text = mid; are = a; few = few })
  nodes_from nodes (node ∷ rest) old mid good fit a few =
      let l = node_numbered a.planes node mid a.planes_are (All-head (IsGoodNode plant) node rest good) (All-head NodeNumbersFit node rest fit) in
      subst (λ ns. SomeNodesNumbered plant ns old) (append_assoc nodes (node ∷ []) rest)
      (nodes_from (nodes ++ node ∷ []) rest old l.text (All-tail (IsGoodNode plant) node rest good) (All-tail NodeNumbersFit node rest fit) (nodes_more plant nodes node old mid l.text AreDifferent AreDifferent a l.are)
      (let more : length l.are.all ≤ length a.planes + 1 = subst (λ u. u ≤ length a.planes + 1) l.are.used (one_more_at_most (length l.are.all) (length a.planes) l.are.named l.are.in_order) in
      let all = planes_more plant nodes node old mid l.text AreDifferent AreDifferent a l.are in
      omega (arith, length-append nodes (node ∷ []), ap length all)))

  pub nodes_numbered : (nodes : List Node) → All (IsGoodNode plant) nodes → All NodeNumbersFit nodes → SomeNodesNumbered plant nodes []
  nodes_numbered nodes good fit = nodes_from [] nodes [] [] good fit (nodes_none plant [] AreDifferent (no_planes plant AreDifferent different_none)) (omega (arith, ap length (planes_none plant [] AreDifferent (no_planes plant AreDifferent different_none))))
