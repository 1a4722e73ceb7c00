-- The lines of forms and of the laws that name them, which tell the forms that the laws use.
use Rattle.std.proofs.Common.{◌+◌, ◌<◌, ◌^◌, ◌≡◌, ℕ, ◌-◌, ◌≤◌, nat_lt, cond, List, [], ◌∷◌, ◌++◌, map, fold, length, take, refl, sym, ap, subst, ◌∙◌, arith, codes, decimal}
use Rattle.std.specs.List.{flat_map}
use Rattle.std.proofs.lemmas.List.{map-append, length-map, get_or-map, take_all}
use Rattle.std.proofs.lemmas.List.Concat.{flat_map_single}
use Rattle.std.proofs.lemmas.List.Sums.{fold-append}
use Rattle.mpc_exact.specs.Rational.{ℚ}
use Rattle.mpc_plant.specs.declared.plants.Plant.{Plant}
use Rattle.mpc_rows.specs.declared.laws.Law.{Law}
use Rattle.mpc_words.specs.Words.{line}
use Rattle.mpc_grammar.specs.Reading.{Cursor, one_line}
use Rattle.mpc_grammar.specs.Lines.{count_line, fractions_line}
use Rattle.mpc_grammar.specs.PlantGrammar.{AllFit, plain_rule, AreNumbers, IsNumber, StatesNew}
use Rattle.mpc_grammar.specs.LawGrammar.{unknowns, IsLawLine, move_rule, written_law, written_laws, forms, NameForms, used_behind, form_named, AreFormNumbers, named_moves_rule, named_mults, NamedLaw, used_by, named_law, named_laws, law_named}
use Rattle.mpc_writing.specs.FormNames.{form_line}
use Rattle.mpc_grammar.specs.LineTheorems.{OneFractions}
use Rattle.mpc_theorem.specs.ControllerFile.{with_line, different, number_in, counted, law_lines, forms_of, names_line, mult_lines, named_law_lines, laws_lines}
use Rattle.mpc_theorem.proofs.Numbered.{line_at, AreDifferent, all_named, behind_few, number_named}
use Rattle.mpc_theorem.proofs.Walks.{HasLines, lines_none, lines_one, lines_plain, lines_then, lines_are, lines_items, lines_named, different_items, so_many_items, lines_so_many}
use Rattle.mpc_theorem.proofs.PlantLines.{lines_given}

pub flat_map-map : {X Y Z : Type 0} (f : Y → List Z) (g : X → Y) (xs : List X) → flat_map f (map g xs) ≡ flat_map (λ x. f (g x)) xs
flat_map-map f g [] = refl
flat_map-map f g (x ∷ xs) = ap (λ l. f (g x) ++ l) (flat_map-map f g xs)

-- ---- the forms
pub lines_forms : OneFractions → (v : Plant) (here : Cursor) (fs : List (List ℚ)) (behind : Cursor) → (forms v).Reads here fs behind → HasLines here (counted (codes "forms") (map form_line fs)) behind × AreDifferent (map form_line fs)
lines_forms one v here fs behind (count, (b, (first, reads))) =
    let item = λ (before : List (List ℚ)). one_line (plain_rule (StatesNew before (AreNumbers (codes "form") (v.n + 1)))) in
    let asks = λ (before : List (List ℚ)). nat_lt (length before) count in
    let size : count ≡ length (map form_line fs) = sym (so_many_items item count b fs behind reads) ∙ sym (length-map fs form_line) in
    let text : HasLines b (flat_map (λ form. form_line form ∷ []) fs) behind =
    lines_items item asks (λ form. form_line form ∷ []) (λ before c x d h. lines_plain (StatesNew before (AreNumbers (codes "form") (v.n + 1))) form_line (λ l y k. k.stated.spelled) c x d h) b fs behind reads.0 in (
      lines_are here behind (count_line (codes "forms") count ∷ flat_map (λ form. form_line form ∷ []) fs) (counted (codes "forms") (map form_line fs))
          (λ i. count_line (codes "forms") (size i) ∷ flat_map_single form_line fs i)
          (lines_then here (count_line (codes "forms") count ∷ []) b _ behind (lines_plain (IsNumber (codes "forms") (λ number. number < 10 ^ 18)) (count_line (codes "forms")) (λ l x h. h.spelled) here count b first) text),
      (different_items item asks form_line AllFit (λ x y f g e. one (codes "form") x y f g e) (λ before c x d h. (h.1.1.0.stated.fits, h.1.1.0.new_one)) b fs behind reads.0).1,
    )

-- ---- laws whose forms are written out
lines_written_law : (v : Plant) (here : Cursor) (law : Law) (behind : Cursor) → (written_law v).Reads here law behind → HasLines here (law_lines law) behind
lines_written_law v here law behind (set, (b, (s, (zs, (c, (m, (ls, (d, (l, (e, at)))))))))) =
    subst (λ x. HasLines here (law_lines x) behind) (sym e)
    (lines_given here d behind _
    (lines_then here (line (codes "law") (map decimal set) ∷ []) b _ d (lines_plain (IsLawLine v) (λ x. line (codes "law") (map decimal x)) (λ t x h. h.spelled) here set b s)
    (lines_then b (map (fractions_line (codes "move")) zs) c (map (fractions_line (codes "mult")) ls) d
    (lines_are b c (flat_map (λ form. fractions_line (codes "move") form ∷ []) zs) (map (fractions_line (codes "move")) zs) (flat_map_single (fractions_line (codes "move")) zs)
    (lines_items (λ (before : List (List ℚ)). one_line (move_rule v (length before))) (λ (before : List (List ℚ)). nat_lt (length before) (unknowns v)) (λ form. fractions_line (codes "move") form ∷ [])
    (λ before f x g h. lines_one (move_rule v (length before)) (fractions_line (codes "move")) (λ t y k. k.spelled) f x g h) b zs c m.0))
    (lines_so_many (length set) (plain_rule (AreNumbers (codes "mult") (v.n + 1))) (fractions_line (codes "mult")) (λ t y k. k.spelled) c ls d l))) at)

pub lines_written_laws : (v : Plant) (here : Cursor) (laws : List Law) (behind : Cursor) → (written_laws v).Reads here laws behind → HasLines here (laws_lines law_lines laws) behind
lines_written_laws v here laws behind (count, (b, (s, reads))) =
    let item = λ (before : List Law). written_law v in
    let size : count ≡ length laws = sym (so_many_items item count b laws behind reads) in
    lines_are here behind (count_line (codes "laws") count ∷ flat_map law_lines laws) (laws_lines law_lines laws) (λ i. count_line (codes "laws") (size i) ∷ flat_map law_lines laws)
    (lines_then here (count_line (codes "laws") count ∷ []) b _ behind (lines_plain (IsNumber (codes "laws") (λ number. number ≤ 4598479)) (count_line (codes "laws")) (λ t x h. h.spelled) here count b s)
    (lines_items item (λ (before : List Law). nat_lt (length before) count) law_lines (λ before c x d h. lines_written_law v c x d h) b laws behind reads.0))

-- ---- laws whose forms are named
module _ (v : Plant) (fs : List (List ℚ)) (differ : AreDifferent (map form_line fs)) where
  abbrev all : List (List ℕ)
  all = map form_line fs

  all_size : length all ≡ length fs
  all_size = length-map fs form_line

  named_line : (k : ℕ) → 1 ≤ k → k ≤ length fs → form_line (form_named fs k) ≡ line_at all (k - 1)
  named_line k from within = sym (get_or-map form_line fs (k - 1) [] [] (omega (arith, from, within)))

  named_lines : (used : ℕ) (ks : List ℕ) → NameForms (length fs) used ks → map form_line (map (form_named fs) ks) ≡ map (λ k. line_at all (k - 1)) ks
  named_lines used [] h = refl
  named_lines used (k ∷ ks) h = λ i. named_line k h.0 h.1 i ∷ named_lines (cond (nat_lt used k) k used) ks h.3 i

  numbers : (used : ℕ) (ks : List ℕ) → NameForms (length fs) used ks → map decimal ks ≡ map (λ form. decimal (number_in all (form_line form))) (map (form_named fs) ks)
  numbers used [] h = refl
  numbers used (k ∷ ks) h =
      let same : k ≡ number_in all (form_line (form_named fs k)) = sym (ap (number_in all) (named_line k h.0 h.1) ∙ number_named all differ k h.0 (subst (λ n. k ≤ n) (sym all_size) h.1)) in
      λ i. decimal (same i) ∷ numbers (cond (nat_lt used k) k used) ks h.3 i

  names : (name : List ℕ) (used count : ℕ) (text : List ℕ) (ks : List ℕ) → AreFormNumbers name (length fs) used count text ks → text ≡ names_line name all (map (form_named fs) ks)
  names name used count text ks h = h.spelled ∙ ap (line name) (numbers used ks h.name_forms)

  mults_named : (used : ℕ) (set : List ℕ) (here : Cursor) (ls : List ℕ) (behind : Cursor) → (named_mults fs used set).Reads here ls behind → NameForms (length fs) used ls
  mults_named used [] here ls behind h = subst (NameForms (length fs) used) (sym h.0) tt
  mults_named used (i ∷ set) here ls behind h = h.1.1.0.name_forms

  lines_mults : (used : ℕ) (set : List ℕ) (here : Cursor) (ls : List ℕ) (behind : Cursor) → (named_mults fs used set).Reads here ls behind → HasLines here (mult_lines all (map (form_named fs) ls)) behind
  lines_mults used [] here ls behind h = subst (λ (ks : List ℕ). HasLines here (mult_lines all (map (form_named fs) ks)) behind) (sym h.0) (lines_none here behind h.1)
  lines_mults used (i ∷ set) here [] behind h = let size : 0 ≡ length (i ∷ set) = h.1.1.0.size in absurd (omega (arith, size))
  lines_mults used (i ∷ set) here (k ∷ ks) behind h =
      lines_plain (AreFormNumbers (codes "mult") (length fs) used (length (i ∷ set))) (λ js. names_line (codes "mult") all (map (form_named fs) js)) (names (codes "mult") used (length (i ∷ set))) here (k ∷ ks) behind h

  lines_law : (used : ℕ) (here : Cursor) (n : NamedLaw) (behind : Cursor) → (named_law v fs used).Reads here n behind → HasLines here (named_law_lines all (law_named v fs n)) behind
  lines_law used here n behind (set, (b, (s, (zs, (c, (m, (ls, (d, (l, (e, at)))))))))) =
      subst (λ x. HasLines here (named_law_lines all (law_named v fs x)) behind) (sym e)
      (lines_given here d behind _
      (lines_then here (line (codes "law") (map decimal set) ∷ []) b _ d (lines_plain (IsLawLine v) (λ x. line (codes "law") (map decimal x)) (λ t x h. h.spelled) here set b s)
      (lines_then b (names_line (codes "move") all (map (form_named fs) zs) ∷ []) c _ d
      (lines_one (named_moves_rule v fs used) (λ js. names_line (codes "move") all (map (form_named fs) js)) (names (codes "move") used (unknowns v)) b zs c m)
      (lines_mults (used_behind used zs) set c ls d l))) at)

  law_forms : (used : ℕ) (here : Cursor) (n : NamedLaw) (behind : Cursor) → used ≤ length all → (named_law v fs used).Reads here n behind
      → (fold with_line (take used all) (map form_line (map (form_named fs) n.moves ++ map (form_named fs) n.mults)) ≡ take (used_behind (used_behind used n.moves) n.mults) all) × (used_behind (used_behind used n.moves) n.mults ≤ length all)
  law_forms used here n behind few (set, (b, (s, (zs, (c, (m, (ls, (d, (l, (e, at)))))))))) =
      subst (λ (x : NamedLaw). (fold with_line (take used all) (map form_line (map (form_named fs) x.moves ++ map (form_named fs) x.mults)) ≡ take (used_behind (used_behind used x.moves) x.mults) all) × (used_behind (used_behind used x.moves) x.mults ≤ length all)) (sym e)
      (let moves_in = m.1.1.0.name_forms in
      let mults_in = mults_named (used_behind used zs) set c ls d l in
      let moves_all : NameForms (length all) used zs = subst (λ a. NameForms a used zs) (sym all_size) moves_in in
      let mults_all : NameForms (length all) (used_behind used zs) ls = subst (λ a. NameForms a (used_behind used zs) ls) (sym all_size) mults_in in
      let then_few = behind_few all differ used zs few moves_all in (
        ap (fold with_line (take used all)) (map-append form_line (map (form_named fs) zs) (map (form_named fs) ls) ∙ (λ i. named_lines used zs moves_in i ++ named_lines (used_behind used zs) ls mults_in i))
            ∙ fold-append with_line (take used all) (map (λ k. line_at all (k - 1)) zs) (map (λ k. line_at all (k - 1)) ls)
            ∙ ap (λ x. fold with_line x (map (λ k. line_at all (k - 1)) ls)) (all_named all differ used zs few moves_all)
            ∙ all_named all differ (used_behind used zs) ls then_few mults_all,
        behind_few all differ (used_behind used zs) ls then_few mults_all,
      ))

  used_push : (before : List NamedLaw) (n : NamedLaw) → used_by (before ++ n ∷ []) ≡ used_behind (used_behind (used_by before) n.moves) n.mults
  used_push before n = fold-append (λ used law. used_behind (used_behind used law.moves) law.mults) 0 before (n ∷ [])

  -- where all forms are used
  pub lines_laws : (here : Cursor) (ns : List NamedLaw) (behind : Cursor) → (named_laws v fs).Reads here ns behind → used_by ns ≡ length fs
      → (forms_of (map (law_named v fs) ns) ≡ all) × HasLines here (laws_lines (named_law_lines all) (map (law_named v fs) ns)) behind
  lines_laws here ns behind (count, (b, (s, reads))) used =
      let item = λ (before : List NamedLaw). named_law v fs (used_by before) in
      let asks = λ (before : List NamedLaw). nat_lt (length before) count in
      let size : count ≡ length (map (law_named v fs) ns) = sym (so_many_items item count b ns behind reads) ∙ sym (length-map ns (law_named v fs)) in
      let rows = λ (n : NamedLaw). map form_line (map (form_named fs) n.moves ++ map (form_named fs) n.mults) in
      let told = lines_named item asks all used_by rows refl
      (λ before c n d few h. let this = law_forms (used_by before) c n d few h in
      (this.0 ∙ ap (λ k. take k all) (sym (used_push before n)), subst (λ k. k ≤ length all) (sym (used_push before n)) this.1)) b ns behind reads.0 in (
        ap different (flat_map-map (λ (law : Law). map form_line (law.moves.rows ++ law.mults.rows)) (law_named v fs) ns) ∙ told.0 ∙ take_all (used_by ns) all (omega (arith, used, all_size)),
        lines_are here behind (count_line (codes "laws") count ∷ flat_map (λ n. named_law_lines all (law_named v fs n)) ns) _
            (λ i. count_line (codes "laws") (size i) ∷ sym (flat_map-map (named_law_lines all) (law_named v fs) ns) i)
            (lines_then here (count_line (codes "laws") count ∷ []) b _ behind (lines_plain (IsNumber (codes "laws") (λ number. number ≤ 4598479)) (count_line (codes "laws")) (λ t x h. h.spelled) here count b s)
            (lines_items item asks (λ n. named_law_lines all (law_named v fs n)) (λ before c n d h. lines_law (used_by before) c n d h) b ns behind reads.0)),
      )
