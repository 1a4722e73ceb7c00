-- Forms of which no two are equal, and laws that name forms.
use Rattle.std.proofs.Common.{◌≡◌, ℕ, ◌+◌, ◌<◌, ◌≤◌, ◌⊎◌, ◌↔◌, List, [], ◌∷◌, ◌++◌, length, take, map, codes, ltb, Option, Some, None, MatchOption, Result, Ok, Err, inl, inr, refl, sym, ap, ◌∙◌, subst, arith, ◌^◌}
use Rattle.std.specs.Prelude.{All, Contains}
use Rattle.std.specs.Result.{IsErrAnd}
use Rattle.std.proofs.lemmas.List.{map-append, length-map}
use Rattle.std.proofs.lemmas.List.Sums.{fold-append}
use Rattle.std.proofs.lemmas.List.Elements.{All-nil, All-take, Contains-append_left, Contains-push, Contains-push_cases}
use Rattle.mpc_exact.specs.Rational.{ℚ}
use Rattle.mpc_space.specs.Matrix.{RationalMatrix}
use Rattle.mpc_plant.specs.declared.plants.Plant.{Plant}
use Rattle.mpc_rows.specs.declared.laws.Law.{Law}
use Rattle.mpc_controller.specs.Parts.{limits_of}
use Rattle.mpc_grammar.specs.Reading.{Cursor, ReadsItems, one_line, Outcome}
use Rattle.mpc_grammar.specs.PlantGrammar.{AllFit, plain_rule, AreNumbers, StatesNew}
use Rattle.mpc_grammar.specs.Lines.{fractions_line}
use Rattle.mpc_grammar.specs.LawGrammar.{unknowns, IsLawLine, NameForms, AreFormNumbers, named_moves_rule, named_mults, form_named, NamedLaw, used_by, used_behind, named_law, law_named, law_count}
use Rattle.mpc_law_lines.specs.FormLists.{matrix_with, NamesAll, HasLinesOf, IsReadLaw, ReadsLaw, AreReadLaws, ReadsLaws}
use Rattle.mpc_grammar.specs.declared.errors.FileError.{FileError}
use Rattle.mpc_grammar.specs.declared.errors.FileError.TheVariants.{Bad, NoMemory}
use Rattle.mpc_grammar.specs.Outcomes.{at_some, asks_no_more, all_items}
use Rattle.mpc_grammar.specs.LineTheorems.{OneFractions}
use Rattle.mpc_law_lines.proofs.FormLemmas.{at_none, named_all, no_items, further, further_error, one_longer}

-- ---- forms of which no two are equal
module _ (n : ℕ) (known : List (List ℕ)) (before : List (List ℚ)) (has : HasLinesOf known before) (text : List ℕ) where
  pub is_new : (form : List ℚ) → AreNumbers (codes "form") (n + 1) text form → ¬ Contains known text → StatesNew before (AreNumbers (codes "form") (n + 1)) text form
  is_new form is new = record { stated = is; new_one = λ c. new (subst (Contains known) (sym is.spelled) ((has form is.fits).1 c)) }

  pub is_old : Contains known text → (form : List ℚ) → ¬ StatesNew before (AreNumbers (codes "form") (n + 1)) text form
  is_old c form new = new.new_one ((has form new.stated.fits).0 (subst (Contains known) new.stated.spelled c))

  pub is_none : ((form : List ℚ) → ¬ AreNumbers (codes "form") (n + 1) text form) → (form : List ℚ) → ¬ StatesNew before (AreNumbers (codes "form") (n + 1)) text form
  is_none none form new = none form new.stated

  module _ (one : OneFractions) (more : List (List ℕ)) (added : (other : List ℕ) → Contains more other ↔ (Contains known other ⊎ (other ≡ text))) (form : List ℚ) (is : AreNumbers (codes "form") (n + 1) text form) where
    to_forms : (other : List ℚ) → AllFit other → Contains known (fractions_line (codes "form") other) ⊎ (fractions_line (codes "form") other ≡ text) → Contains (before ++ form ∷ []) other
    to_forms other fits (inl c) = Contains-append_left before (form ∷ []) other ((has other fits).0 c)
    to_forms other fits (inr e) = subst (Contains (before ++ form ∷ [])) (one (codes "form") form other is.fits fits (sym (e ∙ is.spelled))) (Contains-push before form)

    to_lines : (other : List ℚ) → AllFit other → Contains before other ⊎ (form ≡ other) → Contains known (fractions_line (codes "form") other) ⊎ (fractions_line (codes "form") other ≡ text)
    to_lines other fits (inl c) = inl ((has other fits).1 c)
    to_lines other fits (inr e) = inr (ap (fractions_line (codes "form")) (sym e) ∙ sym is.spelled)

    pub one_more_known : HasLinesOf more (before ++ form ∷ [])
    one_more_known other fits = ((λ c. to_forms other fits ((added (fractions_line (codes "form") other)).0 c)), (λ c. (added (fractions_line (codes "form") other)).1 (to_lines other fits (Contains-push_cases before form other c))))

none_known : (form : List ℚ) → Contains [] (fractions_line (codes "form") form) ↔ Contains [] form
none_known form = ((λ c. absurd (omega (arith, c.1))), (λ c. absurd (omega (arith, c.1))))

pub known_start : (known : List (List ℕ)) (fs : List (List ℚ)) → known ≡ [] → fs ≡ [] → HasLinesOf known fs
known_start known fs e f form fits = subst (λ ls. Contains ls (fractions_line (codes "form") form) ↔ Contains fs form) (sym e) (subst (λ xs. Contains [] (fractions_line (codes "form") form) ↔ Contains xs form) (sym f) (none_known form))

pub forms_sizes : (plant : Plant) (count : ℕ) (here behind : Cursor) (fs : List (List ℚ)) → ReadsItems (List ℚ) (λ (before : List (List ℚ)). one_line (plain_rule (StatesNew before (AreNumbers (codes "form") (plant.n + 1))))) (λ (before : List (List ℚ)). ltb (length before) count) here fs behind
    → All (λ form. length form ≡ plant.n + 1) fs
forms_sizes plant count here behind fs h =
    all_items (List ℚ) (λ (before : List (List ℚ)). one_line (plain_rule (StatesNew before (AreNumbers (codes "form") (plant.n + 1))))) (λ (before : List (List ℚ)). ltb (length before) count) (λ form. length form ≡ plant.n + 1) (λ before b x c more reads. reads.1.1.0.stated.size) here fs behind h

-- ---- laws that name forms
pub record IsReadSoFar (plant : Plant) (fs : List (List ℚ)) (count : ℕ) (here between : Cursor) (laws : List Law) (used counter : ℕ) : Type 0 where
  pub named : List NamedLaw
  pub so_far : ReadsItems NamedLaw (λ (before : List NamedLaw). named_law plant fs (used_by before)) (λ (before : List NamedLaw). ltb (length before) count) here named between
  pub so_many : length named ≡ counter
  pub laws_are : laws ≡ map (law_named plant fs) named
  pub used_is : used ≡ used_by named

module _ (plant : Plant) (fs : List (List ℚ)) (count : ℕ) (here : Cursor) where
  pub none_read_yet : (laws : List Law) → laws ≡ [] → IsReadSoFar plant fs count here here laws 0 0
  none_read_yet laws e = record {
    named = [];
    so_far = no_items (λ (before : List NamedLaw). named_law plant fs (used_by before)) count here [] refl;
    so_many = refl;
    laws_are = e;
    used_is = refl;
  }

  used_more : (named : List NamedLaw) (x : NamedLaw) → used_by (named ++ x ∷ []) ≡ used_behind (used_behind (used_by named) x.moves) x.mults
  used_more named x = fold-append (λ used law. used_behind (used_behind used law.moves) law.mults) 0 named (x ∷ [])

  pub one_law_more : (between behind : Cursor) (laws more : List Law) (law : Law) (used then_used counter : ℕ) → IsReadSoFar plant fs count here between laws used counter → counter < count → IsReadLaw plant fs used between behind law then_used → more ≡ laws ++ law ∷ []
      → IsReadSoFar plant fs count here behind more then_used (counter + 1)
  one_law_more between behind laws more law used then_used counter before some is pushed = record {
    named = before.named ++ is.named ∷ [];
    so_far = further (λ (before : List NamedLaw). named_law plant fs (used_by before)) count here between behind before.named (before.named ++ is.named ∷ []) is.named counter before.so_far before.so_many some
        (subst (λ u. (named_law plant fs u).Reads between is.named behind) before.used_is is.reads) refl;
    so_many = one_longer before.named (before.named ++ is.named ∷ []) is.named counter refl before.so_many;
    laws_are = pushed ∙ (λ i. before.laws_are i ++ is.law_is i ∷ []) ∙ sym (map-append (law_named plant fs) before.named (is.named ∷ []));
    used_is = is.used_is ∙ ap (λ u. used_behind (used_behind u is.named.moves) is.named.mults) before.used_is ∙ sym (used_more before.named is.named);
  }

  pub law_error : (between behind end : Cursor) (laws : List Law) (used counter : ℕ) (error : FileError) → IsReadSoFar plant fs count here between laws used counter → counter < count → ReadsLaw plant fs used between behind (Err error)
      → (start : Cursor) → law_count.Reads start count here → ReadsLaws plant fs start end (Err error)
  law_error between behind end laws used counter (Bad kind number) before some h start counted =
      inr (count, (here, (counted, further_error (λ (before : List NamedLaw). named_law plant fs (used_by before)) count here between behind end before.named counter (Bad kind number) before.so_far before.so_many some (subst (λ u. (named_law plant fs u).Fails between kind number) before.used_is h))))
  law_error between behind end laws used counter NoMemory before some h start counted = tt

-- ---- the numbers of a law's lines
pub first_named : (all used p : ℕ) (numbers slice : List ℕ) → slice ≡ numbers → NameForms all used numbers → NamesAll all (take p slice)
first_named all used p numbers slice e h =
    All-take (λ k. (1 ≤ k) × (k ≤ all)) p slice (subst (NamesAll all) (sym e) (named_all all used numbers h))

pub as_many_counts : (plant : Plant) (counts : List ℕ) (fs : List (List ℚ)) → counts ≡ limits_of plant → All (λ form. length form ≡ plant.n + 1) fs → All (λ form. length form ≡ length counts + 1) fs
as_many_counts plant counts fs e h =
    let size : length counts ≡ plant.n = ap length e ∙ length-map plant.grid (λ axis. axis.count) ∙ plant.is_plant.grid_size in
    subst (λ n. All (λ form. length form ≡ n + 1) fs) (sym size) h

module _ (name text : List ℕ) (all used count : ℕ) (fs : List (List ℚ)) (found : Option (List ℕ)) (e : all ≡ length fs) (h : MatchOption found ((numbers : List ℕ) → ¬ AreFormNumbers name all used count text numbers) (λ numbers. AreFormNumbers name all used count text numbers)) where
  pub are_read : (numbers : List ℕ) → found ≡ Some numbers → AreFormNumbers name (length fs) used count text numbers
  are_read numbers is =
      subst (λ a. AreFormNumbers name a used count text numbers) e (at_some ((s : List ℕ) → ¬ AreFormNumbers name all used count text s) (λ s. AreFormNumbers name all used count text s) found numbers is h)

  pub none_are_read : found ≡ None → (numbers : List ℕ) → ¬ AreFormNumbers name (length fs) used count text numbers
  none_are_read is numbers are =
      at_none ((s : List ℕ) → ¬ AreFormNumbers name all used count text s) (λ s. AreFormNumbers name all used count text s) found is h numbers (subst (λ a. AreFormNumbers name a used count text numbers) (sym e) are)

-- ---- one law
module _ (plant : Plant) (fs : List (List ℚ)) where
  pub named_by_moves : (used : ℕ) (here behind : Cursor) (zs slice : List ℕ) → slice ≡ zs → (one_line (named_moves_rule plant fs used)).Reads here zs behind → NamesAll (length fs) slice
  named_by_moves used here behind zs slice e h = subst (NamesAll (length fs)) (sym e) (named_all (length fs) used zs h.1.1.0.name_forms)

  pub moves_short : (used : ℕ) (here behind : Cursor) (zs slice : List ℕ) → slice ≡ zs → (one_line (named_moves_rule plant fs used)).Reads here zs behind → length slice < 2 ^ 32
  moves_short used here behind zs slice e h =
      let size : length slice ≡ unknowns plant = ap length e ∙ h.1.1.0.size in
      omega (arith, size, plant.is_plant.moves_few)

  named_by_numbers : (used : ℕ) (here behind : Cursor) (set ls : List ℕ) → (named_mults fs used set).Reads here ls behind → NamesAll (length fs) ls
  named_by_numbers used here behind [] ls h = subst (NamesAll (length fs)) (sym h.0) (All-nil (λ k. (1 ≤ k) × (k ≤ length fs)))
  named_by_numbers used here behind (i ∷ set) ls h = named_all (length fs) used ls h.1.1.0.name_forms

  pub named_by_mults : (used : ℕ) (here behind : Cursor) (set ls slice : List ℕ) → slice ≡ ls → (named_mults fs used set).Reads here ls behind → NamesAll (length fs) slice
  named_by_mults used here behind set ls slice e h = subst (NamesAll (length fs)) (sym e) (named_by_numbers used here behind set ls h)

  as_many : (used : ℕ) (here behind : Cursor) (set ls : List ℕ) → (named_mults fs used set).Reads here ls behind → length ls ≡ length set
  as_many used here behind [] ls h = ap length h.0
  as_many used here behind (i ∷ set) ls h = h.1.1.0.size

  pub mults_short : (used : ℕ) (start here behind : Cursor) (set ls slice : List ℕ) → slice ≡ ls → (one_line (plain_rule (IsLawLine plant))).Reads start set here → (between : Cursor) → (named_mults fs used set).Reads between ls behind → length slice < 2 ^ 32
  mults_short used start here behind set ls slice e first between h =
      let size : length slice ≡ length set = ap length e ∙ as_many used between behind set ls h in
      let few : length set ≤ unknowns plant = first.1.1.0.few in
      omega (arith, size, few, plant.is_plant.moves_few)

  pub law_passed_on : (used : ℕ) (here end : Cursor) (r : Result (Law × ℕ) FileError) (error : FileError) → IsErrAnd r (λ e. e ≡ error) → ReadsLaw plant fs used here end (Err error) → ReadsLaw plant fs used here end r
  law_passed_on used here end (Ok x) error e h = absurd e
  law_passed_on used here end (Err told) error e h = subst (λ x. ReadsLaw plant fs used here end (Err x)) (sym e) h

  pub laws_passed_on : (here end : Cursor) (r : Result (List Law × ℕ) FileError) (error : FileError) → IsErrAnd r (λ e. e ≡ error) → ReadsLaws plant fs here end (Err error) → ReadsLaws plant fs here end r
  laws_passed_on here end (Ok x) error e h = absurd e
  laws_passed_on here end (Err told) error e h = subst (λ x. ReadsLaws plant fs here end (Err x)) (sym e) h

  pub law_count_error : (here between end : Cursor) (error : FileError) → Outcome law_count here between (Err error) → ReadsLaws plant fs here end (Err error)
  law_count_error here between end (Bad kind number) h = inl h
  law_count_error here between end NoMemory h = tt

  pub laws_read : (start here between : Cursor) (count : ℕ) (laws : List Law) (used counter : ℕ) → law_count.Reads start count here → IsReadSoFar plant fs count here between laws used counter → count ≤ counter → AreReadLaws plant fs start between laws used
  laws_read start here between count laws used counter counted before enough = record {
    named = before.named;
    reads = (count, (here, (counted, (before.so_far, asks_no_more before.named count (omega (arith, before.so_many, enough))))));
    laws_are = before.laws_are;
    used_is = before.used_is;
  }

  pub set_error : (used : ℕ) (here between end : Cursor) (error : FileError) → Outcome (one_line (plain_rule (IsLawLine plant))) here between (Err error) → ReadsLaw plant fs used here end (Err error)
  set_error used here between end (Bad kind number) h = inl h
  set_error used here between end NoMemory h = tt

  module _ (used : ℕ) (here between : Cursor) (members : List ℕ) (first : (one_line (plain_rule (IsLawLine plant))).Reads here members between) where
    pub named_moves_error : (behind end : Cursor) (error : FileError) → Outcome (one_line (named_moves_rule plant fs used)) between behind (Err error) → ReadsLaw plant fs used here end (Err error)
    named_moves_error behind end (Bad kind number) h = inr (members, (between, (first, inl h)))
    named_moves_error behind end NoMemory h = tt

    module _ (beyond : Cursor) (zs slice : List ℕ) (then_used : ℕ) (second : (one_line (named_moves_rule plant fs used)).Reads between zs beyond) (same : slice ≡ zs) (used_is : then_used ≡ used_behind used slice) where
      now_used : then_used ≡ used_behind used zs
      now_used = used_is ∙ ap (used_behind used) same

      pub named_mults_error : (behind end : Cursor) (error : FileError) → Outcome (named_mults fs then_used members) beyond behind (Err error) → ReadsLaw plant fs used here end (Err error)
      named_mults_error behind end (Bad kind number) h = inr (members, (between, (first, inr (zs, (beyond, (second, inl (subst (λ u. (named_mults fs u members).Fails beyond kind number) now_used h)))))))
      named_mults_error behind end NoMemory h = tt

      pub one_law_read : (behind : Cursor) (ls others moves_slice mults_slice : List ℕ) (at_last : ℕ) (m l : RationalMatrix) → (named_mults fs then_used members).Reads beyond ls behind → others ≡ ls → at_last ≡ used_behind then_used others
          → moves_slice ≡ zs → m ≡ matrix_with (map (form_named fs) moves_slice) (plant.n + 1) → mults_slice ≡ ls → l ≡ matrix_with (map (form_named fs) mults_slice) (plant.n + 1)
          → IsReadLaw plant fs used here behind (record { set = members; moves = m; mults = l }) at_last
      one_law_read behind ls others moves_slice mults_slice at_last m l third same_others last_is same_moves m_is same_mults l_is =
          let moves_are : m ≡ matrix_with (map (form_named fs) zs) (plant.n + 1) = m_is ∙ ap (λ ks. matrix_with (map (form_named fs) ks) (plant.n + 1)) same_moves in
          let mults_are : l ≡ matrix_with (map (form_named fs) ls) (plant.n + 1) = l_is ∙ ap (λ ks. matrix_with (map (form_named fs) ks) (plant.n + 1)) same_mults in
          record {
            named = record { set = members; moves = zs; mults = ls };
            reads = (members, (between, (first, (zs, (beyond, (second, (ls, (behind, (subst (λ u. (named_mults fs u members).Reads beyond ls behind) now_used third, (refl, refl))))))))));
            law_is = λ i. record { set = members; moves = moves_are i; mults = mults_are i };
            used_is = last_is ∙ (λ i. used_behind (now_used i) (same_others i));
          }
