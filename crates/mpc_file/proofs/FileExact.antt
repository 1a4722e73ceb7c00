-- A controller's file is read in one way.
use Rattle.std.proofs.Common.{◌≡◌, ℕ, ◌^◌, ◌<◌, ◌≤◌, inl, inr, List, [], ◌++◌, length, codes, refl, sym, ap, ◌∙◌, arith}
use Rattle.mpc_plant.specs.declared.plants.Plant.{Plant}
use Rattle.mpc_controller.specs.Parts.{Parts}
use Rattle.mpc_grammar.specs.declared.versions.Version.{Version}
use Rattle.mpc_grammar.specs.declared.versions.Version.TheVariants.{One, Two, Three}
use Rattle.mpc_grammar.specs.Versions.{number_of}
use Rattle.mpc_grammar.specs.Reading.{Cursor, one_line, ◌>>=◌}
use Rattle.mpc_grammar.specs.PlantGrammar.{plain_rule, plant, UsesAll}
use Rattle.mpc_grammar.specs.LawGrammar.{used_by}
use Rattle.mpc_grammar.specs.TreeGrammar.{planes_used, IsWord}
use Rattle.mpc_grammar.specs.FileGrammar.{IsVersion, parts_with, written, parts_named, named, behind_plant, start, Spells, whole_file}
use Rattle.mpc_grammar.specs.TextTheorems.{OneVersion, OneController, SpelledNeverFails, OneLine, OneReason, NoPrefix}
use Rattle.mpc_file.proofs.Exactness.{IsExactAt, CutTheorems, exact_give, exact_both}
use Rattle.mpc_grammar.specs.LineTheorems.{WordTheorems}
use Rattle.mpc_file.proofs.LineNumbers.{without, one_count}
use Rattle.mpc_file.proofs.Runs.{reach, run_line}
use Rattle.mpc_file.proofs.PlantExact.{exact_plain, exact_plant}
use Rattle.mpc_file.proofs.LawExact.{exact_written_laws, exact_forms, exact_named_laws, written_laws_few, named_laws_few, forms_few}
use Rattle.mpc_file.proofs.TreeExact.{exact_written_tree, exact_planes, exact_named_tree, exact_word, planes_few}
use Rattle.mpc_file.proofs.FileRuns.{run_plant, run_written_laws, run_forms, run_named_laws, run_planes, run_file}

number_low : (version : Version) → number_of version ≤ 3
number_low One = omega arith
number_low Two = omega arith
number_low Three = omega arith

one_version_number : (v w : Version) → number_of v ≡ number_of w → v ≡ w
one_version_number One One e = refl
one_version_number One Two e = absurd (omega (arith, e))
one_version_number One Three e = absurd (omega (arith, e))
one_version_number Two One e = absurd (omega (arith, e))
one_version_number Two Two e = refl
one_version_number Two Three e = absurd (omega (arith, e))
one_version_number Three One e = absurd (omega (arith, e))
one_version_number Three Two e = absurd (omega (arith, e))
one_version_number Three Three e = refl

module _ (cuts : CutTheorems) (laws : WordTheorems) where
  exact_written : (plant : Plant) (here : Cursor) → reach here ≤ 2 ^ 65 → IsExactAt (written plant) here
  exact_written plant here near =
      exact_both _ _ here (exact_written_laws cuts laws plant here)
      (λ ls at h.
      let short : reach at ≤ reach here = (run_written_laws plant).shorter here ls at h in
      exact_both _ _ at (exact_written_tree cuts laws plant (length ls) (written_laws_few plant here at ls h) at (omega arith))
      (λ tree to k. exact_both _ _ to (exact_word cuts laws (codes "end") to) (λ u end l. exact_give (parts_with plant ls tree) end)))

  exact_named : (plant : Plant) (here : Cursor) → reach here ≤ 2 ^ 65 → IsExactAt (named plant) here
  exact_named plant here near =
      exact_both _ _ here (exact_forms cuts laws plant here)
      (λ fs behind_forms h.
      let a : reach behind_forms ≤ reach here = (run_forms plant).shorter here fs behind_forms h in
      exact_both _ _ behind_forms (exact_named_laws cuts laws plant fs (forms_few plant here behind_forms fs h) behind_forms)
      (λ ls behind_laws k.
      let b : reach behind_laws ≤ reach behind_forms = (run_named_laws plant fs).shorter behind_forms ls behind_laws k in
      exact_both _ _ behind_laws (exact_planes cuts laws plant (length fs) (used_by ls) behind_laws)
      (λ ps behind_planes l.
      let c : reach behind_planes ≤ reach behind_laws = (run_planes plant (length fs) (used_by ls)).shorter behind_laws ps behind_planes l in
      exact_both _ _ behind_planes
      (exact_named_tree cuts laws plant (length ls) (named_laws_few plant fs behind_forms behind_laws ls k) ps (planes_few plant (length fs) (used_by ls) behind_laws behind_planes ps l) behind_planes (omega arith))
      (λ ns behind_tree m.
      exact_both _ _ behind_tree (exact_plain cuts laws (UsesAll (length ps) (planes_used ns) (IsWord (codes "end"))) (λ text x y p q. refl) behind_tree)
      (λ u end q. exact_give (parts_named plant fs ls ps ns) end)))))

  exact_behind_plant : (version : Version) (plant : Plant) (here : Cursor) → reach here ≤ 2 ^ 65 → IsExactAt (behind_plant version plant) here
  exact_behind_plant One plant here near = exact_written plant here near
  exact_behind_plant Two plant here near = exact_written plant here near
  exact_behind_plant Three plant here near = exact_named plant here near

  exact_in_version : (version : Version) (here : Cursor) → reach here ≤ 2 ^ 65 → IsExactAt (plant version >>= behind_plant version) here
  exact_in_version version here near =
      exact_both _ _ here (exact_plant cuts laws version here)
      (λ p at h. let short : reach at ≤ reach here = (run_plant version).shorter here p at h in exact_behind_plant version p at (omega arith))

  same_version : (line : List ℕ) (v w : Version) → IsVersion line v → IsVersion line w → v ≡ w
  same_version line v w h k =
      let low : number_of v ≤ 3 = number_low v in
      let high : number_of w ≤ 3 = number_low w in
      one_version_number v w (one_count laws (codes "mpc") (number_of v) (number_of w) (without 32 (codes "mpc") refl) (omega arith) (omega arith) (sym h ∙ k))

  exact_version : (here : Cursor) → IsExactAt (one_line (plain_rule IsVersion)) here
  exact_version here = exact_plain cuts laws IsVersion same_version here

  exact_file : (here : Cursor) → reach here ≤ 2 ^ 65 → IsExactAt whole_file here
  exact_file here near =
      exact_both _ _ here (exact_version here)
      (λ v at h. let short : reach at ≤ reach here = (run_line (plain_rule IsVersion)).shorter here v at h in exact_in_version v at (omega arith))

  -- ---- texts
  exact_text : (bytes : List ℕ) → length bytes < 2 ^ 64 → IsExactAt whole_file (start bytes)
  exact_text bytes h = exact_file (start bytes) (omega arith)

  read_of : (bytes : List ℕ) (version : Version) (x : Parts) → (h : Spells bytes version x) → whole_file.Reads (start bytes) x (record { rest = []; number = h.number })
  read_of bytes version x h = (version, (h.behind_first, (h.first, h.lines)))

  pub one_version : OneVersion
  one_version bytes version other x y small h k = (exact_version (start bytes)).one_value version other h.behind_first k.behind_first h.first k.first

  pub one_controller : OneController
  one_controller bytes version other x y small h k =
      (exact_text bytes small).one_value x y (record { rest = []; number = h.number }) (record { rest = []; number = k.number }) (read_of bytes version x h) (read_of bytes other y k)

  pub spelled_never_fails : SpelledNeverFails
  spelled_never_fails bytes version x kind number small h (inl fails) =
      (exact_text bytes small).no_failure x (record { rest = []; number = h.number }) kind number (read_of bytes version x h) fails
  spelled_never_fails bytes version x kind number small h (inr (e, (y, (behind, (reads, some, f))))) =
      some (ap (λ (c : Cursor). c.rest) ((exact_text bytes small).one_place y x behind (record { rest = []; number = h.number }) reads (read_of bytes version x h)))

  pub one_line_fails : OneLine
  one_line_fails bytes kind other number place small (inl h) (inl k) = (exact_text bytes small).one_number kind other number place h k
  one_line_fails bytes kind other number place small (inl h) (inr (e, (y, (behind, (reads, some, f))))) = absurd ((exact_text bytes small).no_failure y behind kind number reads h)
  one_line_fails bytes kind other number place small (inr (e, (x, (behind, (reads, some, f))))) (inl k) = absurd ((exact_text bytes small).no_failure x behind other place reads k)
  one_line_fails bytes kind other number place small (inr (e, (x, (behind, (reads, some, f))))) (inr (g, (y, (beyond, (takes, more, h))))) =
      f ∙ ap (λ (c : Cursor). c.number) ((exact_text bytes small).one_place x y behind beyond reads takes) ∙ sym h

  pub one_reason : OneReason
  one_reason bytes kind other number place small (inl h) (inl k) = (exact_text bytes small).one_kind kind other number place h k
  one_reason bytes kind other number place small (inl h) (inr (e, (y, (behind, (reads, some, f))))) = absurd ((exact_text bytes small).no_failure y behind kind number reads h)
  one_reason bytes kind other number place small (inr (e, (x, (behind, (reads, some, f))))) (inl k) = absurd ((exact_text bytes small).no_failure x behind other place reads k)
  one_reason bytes kind other number place small (inr (e, h)) (inr (f, k)) = e ∙ sym f

  -- ---- more bytes behind a text
  pub no_prefix : NoPrefix
  no_prefix bytes more version other x y small h k =
      ap (λ (c : Cursor). c.rest)
      ((exact_text (bytes ++ more) small).one_place x y (record { rest = more; number = h.number }) (record { rest = []; number = k.number })
      (run_file.extends more (start bytes) x (record { rest = []; number = h.number }) (read_of bytes version x h)) (read_of (bytes ++ more) other y k))
