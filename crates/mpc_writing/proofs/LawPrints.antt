-- The lines of forms and of laws that name them are read as the laws.
use Rattle.std.proofs.Common.{◌≡◌, ℕ, ◌+◌, ◌*◌, ◌^◌, ◌<◌, ◌≤◌, cond, nat_lt, List, [], ◌∷◌, ◌++◌, length, map, take, get_or, refl, sym, ◌∙◌, ap, subst, arith, length-append}
use Rattle.std.specs.Prelude.{All, Contains, fold, slice_index_or, codes, decimal}
use Rattle.std.specs.List.{flat_map, AllZip}
use Rattle.std.proofs.lemmas.List.{get_or-map, get_or-take, length-map}
use Rattle.std.proofs.lemmas.List.{length-take}
use Rattle.std.proofs.lemmas.List.Elements.{All-nil, All-cons, All-head, All-tail, All-map, All-weaker}
use Rattle.std.proofs.Math.ListN.{get_or-append}
use Rattle.std.proofs.Math.Seq.{get_or-append_seam}
use Rattle.mpc_exact.specs.Rational.{ℚ}
use Rattle.mpc_sets.specs.RowSet.{IsSetOfRows, RisesWithin}
use Rattle.mpc_plant.specs.declared.plants.Plant.{Plant}
use Rattle.mpc_rows.specs.declared.laws.Law.{Law}
use Rattle.mpc_controller.specs.Parts.{limits_of, row_count, IsLawFor}
use Rattle.mpc_controller.specs.Bounds.{FormFits, LawFits}
use Rattle.mpc_words.specs.Words.{IsWithout, line}
use Rattle.mpc_grammar.specs.Reading.{one_line, give, ◌>>=◌}
use Rattle.mpc_grammar.specs.Lines.{count_line}
use Rattle.mpc_grammar.specs.PlantGrammar.{AllFit, plain_rule, IsNumber, AreNumbers, StatesNew}
use Rattle.mpc_grammar.specs.LawGrammar.{unknowns, IsLawLine, law_count, forms, NameForms, used_behind, form_named, AreFormNumbers, named_moves_rule, named_mults, NamedLaw, used_by, named_law, named_laws, law_named}
use Rattle.mpc_grammar.specs.LineTheorems.{WordTheorems}
use Rattle.mpc_writing.specs.Writing.{Prints, ended, text_of_lines}
use Rattle.mpc_writing.specs.Names.{AreDifferent}
use Rattle.mpc_writing.specs.FormNames.{form_line, HasWidth, LawHasWidth, mults_text, law_text, IsLawNamed, InOrder, rows_in, forms_text, laws_text}
use Rattle.mpc_writing.proofs.PrintLemmas.{prints_line, prints_plain, prints_give, prints_both, prints_end, prints_as, prints_counted, in_list}
use Rattle.mpc_writing.proofs.WithoutLemmas.{line_without, count_without, count_line_without, fractions_line_without}
use Rattle.mpc_writing.proofs.PlantPrints.{each_ended}

named_small : (all used : ℕ) (ks : List ℕ) → all < 10 ^ 18 → NameForms all used ks → All (λ k. k < 2 ^ 64) ks
named_small all used [] few h = All-nil (λ k. k < 2 ^ 64)
named_small all used (k ∷ ks) few h = let within = h.1 in All-cons (λ j. j < 2 ^ 64) k ks (omega arith) (named_small all (cond (nat_lt used k) k used) ks few h.3)

pub rises_small : (low high : ℕ) (set : List ℕ) → high < 2 ^ 64 → RisesWithin low high set → All (λ k. k < 2 ^ 64) set
rises_small low high [] few h = All-nil (λ k. k < 2 ^ 64)
rises_small low high (i ∷ set) few h = let within = h.1 in All-cons (λ j. j < 2 ^ 64) i set (omega arith) (rises_small i high set few h.2)

-- ---- forms
pub different_items : {X : Type 0} (f : X → List ℕ) (xs : List X) → AreDifferent (map f xs) → (before : List X) (x : X) (after : List X) → xs ≡ before ++ x ∷ after → ¬ Contains before x
different_items f xs different before x after whole among =
    let k : ℕ = among.0 in
    let inside : k < length before = among.1 in
    let size : length before < length xs = omega (arith, simp length-append at (ap length whole)) in
    let lines : length (map f xs) ≡ length xs = length-map xs f in
    let place : length before < length (map f xs) = omega arith in
    let early : get_or xs k x ≡ x = ap (λ l. get_or l k x) whole ∙ get_or-append before (x ∷ after) x k inside ∙ among.2 in
    let here : get_or xs (length before) x ≡ x = ap (λ l. get_or l (length before) x) whole ∙ get_or-append_seam before x after x in
    different (length before) place k inside
    (get_or-map f xs k x [] (omega arith) ∙ ap f (early ∙ sym here) ∙ sym (get_or-map f xs (length before) x [] (omega arith)))

-- ---- a law
pub record IsGoodNamed (plant : Plant) (fs : List (List ℚ)) (n : NamedLaw) : Type 0 where
  pub set_of_rows : IsSetOfRows (row_count plant) n.set
  pub few : length n.set ≤ unknowns plant
  pub moves_size : length n.moves ≡ unknowns plant
  pub mults_size : length n.mults ≡ length n.set
  pub bounds : All (λ k. FormFits (limits_of plant) (form_named fs k)) (take plant.p n.moves)

-- ---- all laws
abbrev used_step : ℕ → NamedLaw → ℕ
used_step used law = used_behind (used_behind used law.moves) law.mults

in_order_at : (all used : ℕ) (before : List NamedLaw) (n : NamedLaw) (after : List NamedLaw) → InOrder all used (before ++ n ∷ after) → NameForms all (fold used_step used before) n.moves × NameForms all (used_behind (fold used_step used before) n.moves) n.mults
in_order_at all used [] n after h = (h.0, h.1)
in_order_at all used (b ∷ before) n after h = in_order_at all (used_step used b) before n after h.2

-- ---- from the laws that are named
from_take : (xs : List ℕ) (p i d : ℕ) → i < p → i < length xs → get_or (take p xs) i d ≡ get_or xs i d
from_take xs p i d below inside = get_or-take p xs i d below

in_take : (xs : List ℕ) (p i : ℕ) → i < length (take p xs) → (i < p) × (i < length xs)
in_take xs p i h = let size = length-take p xs in (omega arith, omega arith)

good_named : (plant : Plant) (fs : List (List ℚ)) (n : NamedLaw) (law : Law) → IsLawNamed fs n law → IsLawFor plant law → LawFits plant law → IsGoodNamed plant fs n
good_named plant fs n law is for fits =
    record {
      set_of_rows = subst (IsSetOfRows (row_count plant)) (sym is.set) for.set_of_rows;
      few = subst (λ set. length set ≤ unknowns plant) (sym is.set) for.few;
      moves_size = sym (length-map n.moves (form_named fs)) ∙ ap length is.moves ∙ for.moves_shape.rows_are;
      mults_size = sym (length-map n.mults (form_named fs)) ∙ ap length is.mults ∙ for.mults_shape.rows_are ∙ ap length (sym is.set);
      bounds = λ i d h. let (below, inside) = in_take n.moves plant.p i h in
          subst (FormFits (limits_of plant))
          (ap (λ rows. slice_index_or rows i []) (sym is.moves) ∙ get_or-map (form_named fs) n.moves i d [] inside ∙ ap (form_named fs) (sym (from_take n.moves plant.p i d below inside)))
          (fits i below);
    }

pub all_good : (plant : Plant) (fs : List (List ℚ)) (named : List NamedLaw) (laws : List Law) → AllZip (IsLawNamed fs) named laws → All (IsLawFor plant) laws → All (LawFits plant) laws → All (IsGoodNamed plant fs) named
all_good plant fs [] laws zip for fits = All-nil (IsGoodNamed plant fs)
all_good plant fs (n ∷ named) [] zip for fits = absurd zip
all_good plant fs (n ∷ named) (law ∷ laws) zip for fits =
    All-cons (IsGoodNamed plant fs) n named (good_named plant fs n law zip.0 (All-head (IsLawFor plant) law laws for) (All-head (LawFits plant) law laws fits))
    (all_good plant fs named laws zip.1 (All-tail (IsLawFor plant) law laws for) (All-tail (LawFits plant) law laws fits))

law_same : (plant : Plant) (fs : List (List ℚ)) (n : NamedLaw) (law : Law) → IsLawNamed fs n law → IsLawFor plant law → law_named plant fs n ≡ law
law_same plant fs n law is for =
    let moves : plant.n + 1 ≡ law.moves.columns = sym for.moves_shape.columns_are in
    let mults : plant.n + 1 ≡ law.mults.columns = sym for.mults_shape.columns_are in
    λ i. record { set = is.set i; moves = record { rows = is.moves i; columns = moves i }; mults = record { rows = is.mults i; columns = mults i } }

pub laws_same : (plant : Plant) (fs : List (List ℚ)) (named : List NamedLaw) (laws : List Law) → AllZip (IsLawNamed fs) named laws → All (IsLawFor plant) laws → map (law_named plant fs) named ≡ laws
laws_same plant fs [] [] zip for = refl
laws_same plant fs [] (law ∷ laws) zip for = absurd zip
laws_same plant fs (n ∷ named) [] zip for = absurd zip
laws_same plant fs (n ∷ named) (law ∷ laws) zip for = λ i. law_same plant fs n law zip.0 (All-head (IsLawFor plant) law laws for) i ∷ laws_same plant fs named laws zip.1 (All-tail (IsLawFor plant) law laws for) i

-- ---- counts and widths
pub rows_few : (plant : Plant) (laws : List Law) → unknowns plant ≤ 6 → All (IsLawFor plant) laws → rows_in laws ≤ 12 * length laws
rows_few plant [] few for = omega arith
rows_few plant (law ∷ laws) few for =
    let here = All-head (IsLawFor plant) law laws for in
    let rest = rows_few plant laws few (All-tail (IsLawFor plant) law laws for) in
    let set = here.few in
    let moves : length law.moves.rows ≡ plant.p * plant.horizon = here.moves_shape.rows_are in
    let mults : length law.mults.rows ≡ length law.set = here.mults_shape.rows_are in
    omega arith

pub law_width : (plant : Plant) (law : Law) → IsLawFor plant law → LawHasWidth (plant.n + 1) law
law_width plant law is =
    (subst (λ n. All (HasWidth n) law.moves.rows) is.moves_shape.columns_are is.moves_shape.rectangular, subst (λ n. All (HasWidth n) law.mults.rows) is.mults_shape.columns_are is.mults_shape.rectangular)

pub law_widths : (plant : Plant) (laws : List Law) → All (IsLawFor plant) laws → All (LawHasWidth (plant.n + 1)) laws
law_widths plant laws for = All-weaker (IsLawFor plant) (LawHasWidth (plant.n + 1)) (law_width plant) laws for

module _ (words : WordTheorems) where
  -- ---- numbers in lines
  pub numbers_without : (ks : List ℕ) → All (λ k. k < 2 ^ 64) ks → All (IsWithout 10) (map decimal ks)
  numbers_without ks small = All-map (IsWithout 10) decimal ks (All-weaker (λ k. k < 2 ^ 64) (λ k. IsWithout 10 (decimal k)) (count_without words) ks small)

  form_prints : (n : ℕ) (before : List (List ℚ)) (form : List ℚ) → ¬ Contains before form → AllFit form → length form ≡ n + 1 → Prints (one_line (plain_rule (StatesNew before (AreNumbers (codes "form") (n + 1))))) form (ended (form_line form))
  form_prints n before form new fits size = prints_plain (StatesNew before (AreNumbers (codes "form") (n + 1))) form (form_line form) (fractions_line_without words (codes "form") form refl fits) (record { stated = record { spelled = refl; size = size; fits = fits }; new_one = new })

  pub forms_print : (plant : Plant) (fs : List (List ℚ)) → AreDifferent (map form_line fs) → All AllFit fs → All (HasWidth (plant.n + 1)) fs → length fs < 10 ^ 18 → Prints (forms plant) fs (forms_text fs)
  forms_print plant fs different fits widths few =
      prints_both (one_line (plain_rule (IsNumber (codes "forms") (λ number. number < 10 ^ 18)))) _ (length fs) fs (ended (count_line (codes "forms") (length fs))) (text_of_lines (map form_line fs))
      (prints_plain (IsNumber (codes "forms") (λ number. number < 10 ^ 18)) (length fs) (count_line (codes "forms") (length fs)) (count_line_without words (codes "forms") (length fs) refl (omega arith)) (record { spelled = refl; allowed = few }))
      (prints_as _ fs (flat_map (λ form. ended (form_line form)) fs) (text_of_lines (map form_line fs)) (each_ended form_line fs)
      (prints_counted (λ before. one_line (plain_rule (StatesNew before (AreNumbers (codes "form") (plant.n + 1))))) (length fs) (λ form. ended (form_line form)) fs refl
      (λ before form after whole. form_prints plant.n before form (different_items form_line fs different before form after whole)
      (in_list AllFit before form after (subst (All AllFit) whole fits)) (in_list (HasWidth (plant.n + 1)) before form after (subst (All (HasWidth (plant.n + 1))) whole widths)))))

  mults_print : (fs : List (List ℚ)) (used : ℕ) (set ls : List ℕ) → length fs < 10 ^ 18 → length ls ≡ length set → NameForms (length fs) used ls → Prints (named_mults fs used set) ls (mults_text ls)
  mults_print fs used [] [] few size order = prints_give []
  mults_print fs used [] (l ∷ ls) few size order = absurd (omega arith)
  mults_print fs used (i ∷ set) [] few size order = absurd (omega arith)
  mults_print fs used (i ∷ set) (l ∷ ls) few size order =
      prints_plain (AreFormNumbers (codes "mult") (length fs) used (length (i ∷ set))) (l ∷ ls) (line (codes "mult") (map decimal (l ∷ ls)))
      (line_without (codes "mult") (map decimal (l ∷ ls)) refl (numbers_without (l ∷ ls) (named_small (length fs) used (l ∷ ls) few order))) (record { spelled = refl; size = size; name_forms = order })

  law_prints : (plant : Plant) (fs : List (List ℚ)) (used : ℕ) (n : NamedLaw) → row_count plant < 2 ^ 64 → length fs < 10 ^ 18 → IsGoodNamed plant fs n → NameForms (length fs) used n.moves → NameForms (length fs) (used_behind used n.moves) n.mults
      → Prints (named_law plant fs used) n (law_text n)
  law_prints plant fs used n rows few good moves mults =
      prints_both (one_line (plain_rule (IsLawLine plant))) (λ set. one_line (named_moves_rule plant fs used) >>= λ zs. named_mults fs (used_behind used zs) set >>= λ ls. give (record { set = set; moves = zs; mults = ls })) n.set n
      (ended (line (codes "law") (map decimal n.set))) (ended (line (codes "move") (map decimal n.moves)) ++ mults_text n.mults)
      (prints_plain (IsLawLine plant) n.set (line (codes "law") (map decimal n.set)) (line_without (codes "law") (map decimal n.set) refl (numbers_without n.set (rises_small 0 (row_count plant) n.set rows good.set_of_rows.rises)))
      (record { spelled = refl; set_of_rows = good.set_of_rows; few = good.few }))
      (prints_both (one_line (named_moves_rule plant fs used)) (λ zs. named_mults fs (used_behind used zs) n.set >>= λ ls. give (record { set = n.set; moves = zs; mults = ls })) n.moves n
      (ended (line (codes "move") (map decimal n.moves))) (mults_text n.mults)
      (prints_line (named_moves_rule plant fs used) n.moves (line (codes "move") (map decimal n.moves)) (line_without (codes "move") (map decimal n.moves) refl (numbers_without n.moves (named_small (length fs) used n.moves few moves)))
      (record { spelled = refl; size = good.moves_size; name_forms = moves }) (λ over. over good.bounds))
      (prints_end (named_mults fs (used_behind used n.moves) n.set) (λ ls. give (record { set = n.set; moves = n.moves; mults = ls })) n.mults n (mults_text n.mults)
      (mults_print fs (used_behind used n.moves) n.set n.mults few good.mults_size mults) (prints_give n)))

  pub laws_print : (plant : Plant) (fs : List (List ℚ)) (named : List NamedLaw) → row_count plant < 2 ^ 64 → length fs < 10 ^ 18 → length named ≤ 4598479 → All (IsGoodNamed plant fs) named → InOrder (length fs) 0 named → Prints (named_laws plant fs) named (laws_text named)
  laws_print plant fs named rows few count good order =
      prints_both law_count _ (length named) named (ended (count_line (codes "laws") (length named))) (flat_map law_text named)
      (prints_plain (IsNumber (codes "laws") (λ number. number ≤ 4598479)) (length named) (count_line (codes "laws") (length named)) (count_line_without words (codes "laws") (length named) refl (omega arith)) (record { spelled = refl; allowed = count }))
      (prints_counted (λ (before : List NamedLaw). named_law plant fs (used_by before)) (length named) law_text named refl
      (λ before n after whole.
      let at = in_order_at (length fs) 0 before n after (subst (InOrder (length fs) 0) whole order) in
      law_prints plant fs (used_by before) n rows few (in_list (IsGoodNamed plant fs) before n after (subst (All (IsGoodNamed plant fs)) whole good)) at.0 at.1))
