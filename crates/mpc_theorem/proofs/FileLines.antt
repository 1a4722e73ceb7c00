-- A text spells a controller in a version exactly where it is the controller's file in that version.
use Rattle.std.proofs.Common.{◌≡◌, ℕ, List, [], ◌∷◌, ◌++◌, length, map, sym, ap, subst, ◌∙◌, codes, append-nil}
use Rattle.mpc_plant.specs.declared.plants.Plant.{Plant}
use Rattle.mpc_controller.specs.Parts.{Parts}
use Rattle.mpc_grammar.specs.declared.versions.Version.{Version}
use Rattle.mpc_grammar.specs.declared.versions.Version.TheVariants.{One, Two, Three}
use Rattle.mpc_grammar.specs.Versions.{number_of}
use Rattle.mpc_grammar.specs.Reading.{Cursor}
use Rattle.mpc_grammar.specs.Lines.{count_line}
use Rattle.mpc_grammar.specs.LawGrammar.{used_by, law_named}
use Rattle.mpc_grammar.specs.TreeGrammar.{IsWord, planes_used, node_of, plane_named}
use Rattle.mpc_writing.specs.FormNames.{form_line}
use Rattle.mpc_writing.specs.PlaneNames.{plane_line}
use Rattle.mpc_grammar.specs.FileGrammar.{IsVersion, named, start, Spells, written, behind_plant}
use Rattle.mpc_grammar.specs.LineTheorems.{OneFractions, OneIntegers}
use Rattle.mpc_grammar.specs.TextTheorems.{EachText, StatedCanBe}
use Rattle.mpc_theorem.specs.ControllerFile.{counted, plant_lines, law_lines, named_law_lines, laws_lines, split_line, named_split_line, tree_lines, written_lines, named_lines, lines_behind, file_text}
use Rattle.mpc_theorem.specs.FileTheorems.{SpelledIsFile, FileIsSpelled}
use Rattle.mpc_theorem.proofs.Walks.{HasLines, lines_plain, lines_then, lines_are}
use Rattle.mpc_theorem.proofs.PlantLines.{lines_plant, lines_given}
use Rattle.mpc_theorem.proofs.LawLines.{lines_written_laws, lines_forms, lines_laws}
use Rattle.mpc_grammar.specs.PlantGrammar.{UsesAll}
use Rattle.mpc_theorem.proofs.TreeLines.{lines_planes, lines_written_tree, lines_tree}

-- the last line
abbrev end_line : List (List ℕ)
end_line = codes "end" ∷ []

lines_written : (v : Plant) (here : Cursor) (x : Parts) (behind : Cursor) → (written v).Reads here x behind → HasLines here (written_lines x.laws x.tree ++ end_line) behind
lines_written v here x behind (laws, (b, (l, (tree, (c, (t, (u, (d, (w, g))))))))) =
    subst (λ (y : Parts). HasLines here (written_lines y.laws y.tree ++ end_line) behind) (sym g.0)
    (lines_given here d behind _
    (lines_then here (written_lines laws tree) c end_line d
    (lines_then here (laws_lines law_lines laws) b (tree_lines split_line tree) c (lines_written_laws v here laws b l) (lines_written_tree v (length laws) b tree c t))
    (lines_plain (IsWord (codes "end")) (λ y. codes "end") (λ text y h. h) c u d w)) g.1)

module _ (fractions : OneFractions) (integers : OneIntegers) where
  lines_named : (v : Plant) (here : Cursor) (x : Parts) (behind : Cursor) → (named v).Reads here x behind → HasLines here (named_lines x.laws x.tree ++ end_line) behind
  lines_named v here x behind (fs, (b, (f, (ns, (c, (l, (ps, (d, (p, (nodes, (e, (t, (u, (j, (w, g))))))))))))))) =
      let laws = map (law_named v fs) ns in
      let tree = map (node_of (plane_named ps)) nodes in
      let forms = lines_forms fractions v here fs b f in
      let planes = lines_planes integers v (length fs) (used_by ns) c ps d p in
      let of_laws = lines_laws v fs forms.1 b ns c l p.1.1.0.1.1.0.all_used in
      let of_tree = lines_tree v (length ns) ps planes.1 d nodes e t w.1.1.0.all_used in
      let parts_lines : List (List ℕ) → List (List ℕ) → List (List ℕ) =
      λ all some. (counted (codes "forms") all ++ laws_lines (named_law_lines all) laws) ++ (counted (codes "planes") some ++ tree_lines (named_split_line some) tree) in
      subst (λ (y : Parts). HasLines here (named_lines y.laws y.tree ++ end_line) behind) (sym g.0)
      (lines_given here j behind _
      (lines_then here (named_lines laws tree) e end_line j
      (lines_are here e (parts_lines (map form_line fs) (map plane_line ps)) (named_lines laws tree) (λ i. parts_lines (sym of_laws.0 i) (sym of_tree.0 i))
      (lines_then here (counted (codes "forms") (map form_line fs) ++ laws_lines (named_law_lines (map form_line fs)) laws) c _ e
      (lines_then here (counted (codes "forms") (map form_line fs)) b _ c forms.0 of_laws.1) (lines_then c (counted (codes "planes") (map plane_line ps)) d _ e planes.0 of_tree.1)))
      (lines_plain (UsesAll (length ps) (planes_used nodes) (IsWord (codes "end"))) (λ y. codes "end") (λ text y h. h.stated) e u j w)) g.1)

  lines_all : (version : Version) (v : Plant) (here : Cursor) (x : Parts) (behind : Cursor) → (behind_plant version v).Reads here x behind → HasLines here (lines_behind version x.laws x.tree ++ end_line) behind
  lines_all One v here x behind h = lines_written v here x behind h
  lines_all Two v here x behind h = lines_written v here x behind h
  lines_all Three v here x behind h = lines_named v here x behind h

  its_plant : (version : Version) (v : Plant) (here : Cursor) (x : Parts) (behind : Cursor) → (behind_plant version v).Reads here x behind → x.plant ≡ v
  its_plant One v here x behind (laws, (b, (l, (tree, (c, (t, (u, (d, (w, g))))))))) = ap (λ (y : Parts). y.plant) g.0
  its_plant Two v here x behind (laws, (b, (l, (tree, (c, (t, (u, (d, (w, g))))))))) = ap (λ (y : Parts). y.plant) g.0
  its_plant Three v here x behind (fs, (b, (f, (ns, (c, (l, (ps, (d, (p, (nodes, (e, (t, (u, (j, (w, g))))))))))))))) = ap (λ (y : Parts). y.plant) g.0

  spelled_text : (text : List ℕ) (version : Version) (x : Parts) → Spells text version x → text ≡ file_text version x
  spelled_text text version x s =
      let v : Plant = s.lines.0 in
      let between : Cursor = s.lines.1.0 in
      let end : Cursor = record { rest = []; number = s.number } in
      let first : List (List ℕ) = count_line (codes "mpc") (number_of version) ∷ [] in
      let behind : HasLines between (lines_behind version x.laws x.tree ++ end_line) end = lines_all version v between x end s.lines.1.1.1 in
      let plant_part : HasLines s.behind_first (plant_lines version x.plant) between =
      subst (λ p. HasLines s.behind_first (plant_lines version p) between) (sym (its_plant version v between x end s.lines.1.1.1)) (lines_plant version s.behind_first v between s.lines.1.1.0) in
      let all = lines_then (start text) first s.behind_first _ end (lines_plain IsVersion (λ w. count_line (codes "mpc") (number_of w)) (λ line w h. h) (start text) version s.behind_first s.first)
      (lines_then s.behind_first (plant_lines version x.plant) between _ end plant_part behind) in
      all.text_is ∙ append-nil (file_text version x)

  pub spelled_is_file : StatedCanBe → SpelledIsFile
  spelled_is_file can text version x small s = record { stated = can text version x small s; text_is = spelled_text text version x s }

  pub file_is_spelled : EachText → FileIsSpelled
  file_is_spelled each text version x few f =
      let found = each version x few f.stated in
      subst (λ t. Spells t version x) (spelled_text found.0 version x found.1 ∙ sym f.text_is) found.1
