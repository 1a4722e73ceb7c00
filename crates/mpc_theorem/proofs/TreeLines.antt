-- The lines of planes and of the nodes that name them, which tell the planes that the splits use.
use Rattle.std.specs.Prelude.{is_some, slice_get, slice_index_or}
use Rattle.mpc_rows.specs.declared.trees.Node.{Node}
use Rattle.std.proofs.Common.{◌<◌, ◌^◌, ◌≡◌, ℕ, ◌+◌, ◌-◌, ◌≤◌, nat_lt, ℤ, pos, List, [], ◌∷◌, ◌++◌, map, fold, length, take, drop, refl, sym, ap, subst, ◌∙◌, arith, codes}
use Rattle.std.specs.List.{flat_map}
use Rattle.std.proofs.lemmas.List.{length-map, get_or-map, take_all}
use Rattle.std.proofs.lemmas.List.Concat.{flat_map_single}
use Rattle.std.proofs.lemmas.List.Sums.{fold-append}
use Rattle.std.proofs.Math.Seq.{take-append_seam, drop-append_seam}
use Rattle.mpc_linear.specs.Whole.{AreSmall}
use Rattle.mpc_linear.specs.declared.integers.RowInt.{RowInt}
use Rattle.mpc_plant.specs.declared.plants.Plant.{Plant}
use Rattle.mpc_controller.specs.Parts.{row_count}
use Rattle.mpc_controller.specs.Certificates.{cell_rows}
use Rattle.mpc_grammar.specs.Reading.{Cursor, one_line, ReadsItems, LineRule}
use Rattle.mpc_grammar.specs.Lines.{count_line, cert_line}
use Rattle.mpc_grammar.specs.PlantGrammar.{plain_rule, UsesAll, IsNumber}
use Rattle.mpc_grammar.specs.TreeGrammar.{IsCertLine, NodeLine, StatesNode, node_rule, NodeOver, node_behind, node_at, owed, written_split, written_tree, IsWord, plane_rule, planes, used_with, planes_used, named_split, plane_named, named_tree, node_of, IsNext}
use Rattle.mpc_grammar.specs.TreeGrammar.NodeLine.{split_at, leaf_of, no_move}
use Rattle.mpc_grammar.specs.TreeGrammar.NodeOver.{split_node, law_node, no_move_node}
use Rattle.mpc_grammar.specs.TreeGrammar.StatesNode.{splits, names_law, has_none}
use Rattle.mpc_writing.specs.PlaneNames.{plane_line}
use Rattle.mpc_grammar.specs.LineTheorems.{OneIntegers}
use Rattle.mpc_theorem.specs.ControllerFile.{with_line, different, number_in, counted, split_lines, planes_of, node_lines, tree_lines, split_line, named_split_line}
use Rattle.mpc_theorem.proofs.Numbered.{line_at, AreDifferent, one_named, used_few, number_named}
use Rattle.mpc_theorem.proofs.Walks.{HasLines, lines_one, lines_plain, lines_then, lines_are, lines_items, lines_named, different_items, lines_so_many, so_many_items}
use Rattle.mpc_theorem.proofs.PlantLines.{lines_given}
use Rattle.mpc_theorem.proofs.LawLines.{flat_map-map}

-- ---- the planes
pub record IsPlaneOf (n : ℕ) (row : RowInt) : Type 0 where
  pub size : length row.a ≡ n
  pub small : AreSmall (row.a ++ row.b ∷ [])

same_plane : OneIntegers → (n : ℕ) (x y : RowInt) → IsPlaneOf n x → IsPlaneOf n y → plane_line x ≡ plane_line y → x ≡ y
same_plane one n x y h k e =
    let joined : x.a ++ x.b ∷ [] ≡ y.a ++ y.b ∷ [] = one (codes "plane") (x.a ++ x.b ∷ []) (y.a ++ y.b ∷ []) h.small k.small e in
    let sizes : length x.a ≡ length y.a = h.size ∙ sym k.size in
    let front : x.a ≡ y.a = sym (take-append_seam x.a (x.b ∷ [])) ∙ (λ i. take (sizes i) (joined i)) ∙ take-append_seam y.a (y.b ∷ []) in
    let back : ◌≡◌ {A = List ℤ} (x.b ∷ []) (y.b ∷ []) = sym (drop-append_seam x.a (x.b ∷ [])) ∙ (λ i. drop (sizes i) (joined i)) ∙ drop-append_seam y.a (y.b ∷ []) in
    let last : x.b ≡ y.b = cc in
    λ i. record { a = front i; b = last i }

pub lines_planes : OneIntegers → (v : Plant) (all used : ℕ) (here : Cursor) (ps : List RowInt) (behind : Cursor) → (planes v all used).Reads here ps behind → HasLines here (counted (codes "planes") (map plane_line ps)) behind × AreDifferent (map plane_line ps)
lines_planes one v all used here ps behind (count, (b, (first, reads))) =
    let item = λ (before : List RowInt). one_line (plane_rule v before) in
    let asks = λ (before : List RowInt). nat_lt (length before) count in
    let size : count ≡ length (map plane_line ps) = sym (so_many_items item count b ps behind reads) ∙ sym (length-map ps plane_line) in
    let text : HasLines b (flat_map (λ row. plane_line row ∷ []) ps) behind =
    lines_items item asks (λ row. plane_line row ∷ []) (λ before c x d h. lines_one (plane_rule v before) plane_line (λ l y k. k.stated.row_is.spelled) c x d h) b ps behind reads.0 in (
      lines_are here behind (count_line (codes "planes") count ∷ flat_map (λ row. plane_line row ∷ []) ps) (counted (codes "planes") (map plane_line ps))
          (λ i. count_line (codes "planes") (size i) ∷ flat_map_single plane_line ps i)
          (lines_then here (count_line (codes "planes") count ∷ []) b _ behind (lines_plain (UsesAll all used (IsNumber (codes "planes") (λ number. number < 10 ^ 18))) (count_line (codes "planes")) (λ l x h. h.stated.spelled) here count b first) text),
      (different_items item asks plane_line (IsPlaneOf v.n) (same_plane one v.n)
          (λ before c x d h. (record { size = h.1.1.0.stated.row_is.size; small = h.1.1.0.stated.row_is.small }, h.1.1.0.new_one)) b ps behind reads.0).1,
    )

-- ---- the nodes
module _ {Row : Type 0} where
  line_words : (Row → List ℕ) → NodeLine Row → List ℕ
  line_words word (split_at row) = word row
  line_words word (leaf_of j) = count_line (codes "leaf") j
  line_words word no_move = codes "none"

  over_lines : (Row → List ℕ) → NodeOver Row → List (List ℕ)
  over_lines word (split_node row) = word row ∷ []
  over_lines word (law_node j cs) = count_line (codes "leaf") j ∷ map cert_line cs
  over_lines word (no_move_node c) = codes "none" ∷ cert_line c ∷ []

  -- of a split something holds
  SplitIs : (Row → Type 0) → NodeOver Row → Type 0
  SplitIs P (split_node row) = P row
  SplitIs P (law_node j cs) = Unit {0}
  SplitIs P (no_move_node c) = Unit {0}

  module _ (v : Plant) (laws : ℕ) (split : LineRule Row) (word : Row → List ℕ) (spelled : (text : List ℕ) (row : Row) → split.States text row → text ≡ word row) where
    abbrev IsStated : Row → Type 0
    IsStated row = (text : List ℕ) × split.States text row

    states_words : (text : List ℕ) (line : NodeLine Row) → StatesNode laws split.States text line → text ≡ line_words word line
    unfolding line_words
    states_words text (split_at row) (splits _ h) = spelled text row h
    states_words text (leaf_of j) (names_law _ e h) = e
    states_words text no_move (has_none e) = e

    record IsNodeRead (here : Cursor) (x : NodeOver Row) (behind : Cursor) : Type 0 where
      text : HasLines here (over_lines word x) behind
      stated : SplitIs IsStated x

    behind_line : (depth : ℕ) (line : NodeLine Row) (text : List ℕ) (here between : Cursor) (x : NodeOver Row) (behind : Cursor) → StatesNode laws split.States text line → HasLines here (line_words word line ∷ []) between → (node_behind v depth line).Reads between x behind → IsNodeRead here x behind
    unfolding line_words over_lines SplitIs
    behind_line depth (split_at row) text here between x behind (splits _ is) h (e, at) = subst (λ y. IsNodeRead here y behind) (sym e) (record { text = lines_given here between behind (word row ∷ []) h at; stated = (text, is) })
    behind_line depth (leaf_of j) text here between x behind is h (cs, (c, (cert, (e, at)))) =
        subst (λ y. IsNodeRead here y behind) (sym e)
        (record {
          text = lines_given here c behind _ (lines_then here (count_line (codes "leaf") j ∷ []) between (map cert_line cs) c h
              (lines_so_many (row_count v) (plain_rule (IsCertLine (cell_rows v.n depth + 1))) cert_line (λ l y k. k.spelled) between cs c cert)) at;
          stated = tt;
        })
    behind_line depth no_move text here between x behind is h (cert, (c, (one, (e, at)))) =
        subst (λ y. IsNodeRead here y behind) (sym e)
        (record {
          text = lines_given here c behind _ (lines_then here (codes "none" ∷ []) between (cert_line cert ∷ []) c h (lines_plain (IsCertLine (cell_rows v.n depth + row_count v)) cert_line (λ l y k. k.spelled) between cert c one)) at;
          stated = tt;
        })

    node_read : (depth : ℕ) (here : Cursor) (x : NodeOver Row) (behind : Cursor) → (node_at v laws split depth).Reads here x behind → IsNodeRead here x behind
    node_read depth here x behind (line, (b, ((text, (taken, good)), rest))) =
        behind_line depth line text here b x behind good.0 (lines_one (node_rule laws split) (line_words word) states_words here line b (text, (taken, good))) rest

-- ---- splits whose rows are written out
written_same : (x : NodeOver RowInt) → over_lines split_line x ≡ node_lines split_line ((node_of (λ row. row)) x)
unfolding over_lines
written_same (split_node row) = refl
written_same (law_node j cs) = refl
written_same (no_move_node c) = refl

pub lines_written_tree : (v : Plant) (laws : ℕ) (here : Cursor) (tree : List Node) (behind : Cursor) → (written_tree v laws).Reads here tree behind → HasLines here (tree_lines split_line tree) behind
lines_written_tree v laws here tree behind (u, (b, (t, (read, (c, (n, (e, at))))))) =
    let item = λ (before : List (NodeOver RowInt)). node_at v laws (written_split v) (slice_index_or (owed before) 0 0) in
    let asks = λ (before : List (NodeOver RowInt)). is_some (slice_get (owed before) 0) in
    subst (λ xs. HasLines here (tree_lines split_line xs) behind) (sym e)
    (lines_given here c behind _
    (lines_are here c (codes "tree" ∷ flat_map (λ x. node_lines split_line ((node_of (λ row. row)) x)) read) _ (ap (λ l. codes "tree" ∷ l) (sym (flat_map-map (node_lines split_line) (node_of (λ row. row)) read)))
    (lines_then here (codes "tree" ∷ []) b _ c (lines_plain (IsWord (codes "tree")) (λ x. codes "tree") (λ l x h. h) here u b t)
    (lines_items item asks (λ x. node_lines split_line ((node_of (λ row. row)) x))
    (λ before f x g h. lines_are f g (over_lines split_line x) (node_lines split_line ((node_of (λ row. row)) x)) (written_same x)
    (node_read v laws (written_split v) split_line (λ text row k. k.row_is.spelled) (slice_index_or (owed before) 0 0) f x g h).text) b read c n.0))) at)

-- ---- splits whose planes are named
module _ (v : Plant) (laws : ℕ) (ps : List RowInt) (differ : AreDifferent (map plane_line ps)) where
  abbrev all : List (List ℕ)
  all = map plane_line ps

  all_size : length all ≡ length ps
  all_size = length-map ps plane_line

  named_line : (k : ℕ) → 1 ≤ k → k ≤ length ps → plane_line (plane_named ps k) ≡ line_at all (k - 1)
  named_line k from within = sym (get_or-map plane_line ps (k - 1) (record { a = []; b = pos 0 }) [] (omega (arith, from, within)))

  number : (k : ℕ) → 1 ≤ k → k ≤ length ps → k ≡ number_in all (plane_line (plane_named ps k))
  number k from within = sym (ap (number_in all) (named_line k from within) ∙ number_named all differ k from (subst (λ n. k ≤ n) (sym all_size) within))

  abbrev Names : ℕ → ℕ → Type 0
  Names used k = (text : List ℕ) × IsNumber (codes "split") (IsNext (length ps) used) text k

  named_same : (used : ℕ) (x : NodeOver ℕ) → SplitIs (Names used) x → over_lines (count_line (codes "split")) x ≡ node_lines (named_split_line all) (node_of (plane_named ps) x)
  unfolding over_lines SplitIs
  named_same used (split_node k) h = λ i. count_line (codes "split") (number k h.1.allowed.0 h.1.allowed.1 i) ∷ []
  named_same used (law_node j cs) h = refl
  named_same used (no_move_node c) h = refl

  node_named : (used : ℕ) (x : NodeOver ℕ) → used ≤ length all → SplitIs (Names used) x → (fold with_line (take used all) (split_lines (node_of (plane_named ps) x)) ≡ take (used_with used x) all) × (used_with used x ≤ length all)
  unfolding SplitIs
  node_named used (split_node k) few h =
      let within : k ≤ length all = subst (λ n. k ≤ n) (sym all_size) h.1.allowed.1 in
      (ap (with_line (take used all)) (named_line k h.1.allowed.0 h.1.allowed.1) ∙ one_named all differ used k few h.1.allowed.0 within h.1.allowed.2, used_few all differ used k few within)
  node_named used (law_node j cs) few h = (refl, few)
  node_named used (no_move_node c) few h = (refl, few)

  abbrev read_at : (used depth : ℕ) (here : Cursor) (x : NodeOver ℕ) (behind : Cursor) → (node_at v laws (named_split (length ps) used) depth).Reads here x behind → IsNodeRead v laws (named_split (length ps) used) (count_line (codes "split")) (λ text k h. h.spelled) here x behind
  read_at used depth here x behind h = node_read v laws (named_split (length ps) used) (count_line (codes "split")) (λ text k h. h.spelled) depth here x behind h

  used_push : (before : List (NodeOver ℕ)) (x : NodeOver ℕ) → planes_used (before ++ x ∷ []) ≡ used_with (planes_used before) x
  used_push before x = fold-append used_with 0 before (x ∷ [])

  -- where all planes are used
  pub lines_tree : (here : Cursor) (ns : List (NodeOver ℕ)) (behind : Cursor) → (named_tree v laws ps).Reads here ns behind → planes_used ns ≡ length ps
      → (planes_of (map (node_of (plane_named ps)) ns) ≡ all) × HasLines here (tree_lines (named_split_line all) (map (node_of (plane_named ps)) ns)) behind
  lines_tree here ns behind (u, (b, (t, (read, (c, (n, (e, at))))))) used =
      let item = λ (before : List (NodeOver ℕ)). node_at v laws (named_split (length ps) (planes_used before)) (slice_index_or (owed before) 0 0) in
      let asks = λ (before : List (NodeOver ℕ)). is_some (slice_get (owed before) 0) in
      let reads : ReadsItems (NodeOver ℕ) item asks b ns c = subst (λ xs. ReadsItems (NodeOver ℕ) item asks b xs c) (sym e) n.0 in
      let told = lines_named item asks all planes_used (λ x. split_lines (node_of (plane_named ps) x)) refl
      (λ before f x g few h. let this = node_named (planes_used before) x few (read_at (planes_used before) (slice_index_or (owed before) 0 0) f x g h).stated in
      (this.0 ∙ ap (λ k. take k all) (sym (used_push before x)), subst (λ k. k ≤ length all) (sym (used_push before x)) this.1)) b ns c reads in (
        ap different (flat_map-map split_lines (node_of (plane_named ps)) ns) ∙ told.0 ∙ take_all (planes_used ns) all (omega (arith, used, all_size)),
        lines_given here c behind _
            (lines_are here c (codes "tree" ∷ flat_map (λ x. node_lines (named_split_line all) (node_of (plane_named ps) x)) ns) _ (ap (λ l. codes "tree" ∷ l) (sym (flat_map-map (node_lines (named_split_line all)) (node_of (plane_named ps)) ns)))
            (lines_then here (codes "tree" ∷ []) b _ c (lines_plain (IsWord (codes "tree")) (λ x. codes "tree") (λ l x h. h) here u b t)
            (lines_items item asks (λ x. node_lines (named_split_line all) (node_of (plane_named ps) x))
            (λ before f x g h. let read_node = read_at (planes_used before) (slice_index_or (owed before) 0 0) f x g h in
            lines_are f g (over_lines (count_line (codes "split")) x) _ (named_same (planes_used before) x read_node.stated) read_node.text) b ns c reads))) at,
      )
