-- Forms that are named by their numbers: one row more, one law more.
use Rattle.std.proofs.Common.{◌≡◌, ℕ, ◌+◌, ◌-◌, ◌≤◌, ◌⊎◌, inl, inr, cond, nat_lt, List, [], ◌∷◌, ◌++◌, length, map, refl, sym, ◌∙◌, ap, subst, append_assoc, arith, length-append}
use Rattle.std.specs.Prelude.{All, fold, codes, decimal}
use Rattle.std.specs.List.{flat_map, AllZip}
use Rattle.std.proofs.lemmas.List.{append-nil, map-append, length-map}
use Rattle.std.proofs.lemmas.List.Elements.{All-nil, All-cons, All-head, All-tail, All-push}
use Rattle.std.proofs.Math.ListN.{get_or-append}
use Rattle.mpc_exact.specs.Rational.{ℚ}
use Rattle.mpc_rows.specs.declared.laws.Law.{Law}
use Rattle.mpc_words.specs.Words.{line, behind_blanks}
use Rattle.mpc_grammar.specs.PlantGrammar.{AllFit}
use Rattle.mpc_grammar.specs.LawGrammar.{NameForms, used_behind, form_named, NamedLaw}
use Rattle.mpc_grammar.specs.Lines.{count_line}
use Rattle.mpc_grammar.specs.LineTheorems.{OneFractions}
use Rattle.mpc_writing.specs.Writing.{ended, text_of_lines}
use Rattle.mpc_writing.specs.Names.{AreNames, IsNamed}
use Rattle.mpc_writing.specs.FormNames.{form_line, HasWidth, LawHasWidth, AreForms, AreNumbered, mults_text, law_text, IsLawNamed, InOrder, IsLawNumbered, rows_in, AreLawsNumbered, IsTableWritten}
use Rattle.mpc_writing.specs.declared.names.Names.{Names}
use Rattle.mpc_writing.proofs.GrownTexts.{mapped-push, pieces-push}
use Rattle.mpc_writing.proofs.StepLemmas.{IsItemStep, item_step}

-- ---- numbers in order
name_more : (all used k : ℕ) (ks : List ℕ) → NameForms all used ks → 1 ≤ k → k ≤ all → k ≤ used_behind used ks + 1 → NameForms all used (ks ++ k ∷ [])
name_more all used k [] h one most next = (one, most, next, tt)
name_more all used k (j ∷ ks) h one most next = (h.0, h.1, h.2, name_more all (cond (nat_lt used j) j used) k ks h.3 one most next)

used_more : (used k : ℕ) (ks : List ℕ) → used_behind used (ks ++ k ∷ []) ≡ cond (nat_lt (used_behind used ks) k) k (used_behind used ks)
used_more used k [] = refl
used_more used k (j ∷ ks) = used_more (cond (nat_lt used j) j used) k ks

name_wider : (all wide used : ℕ) (ks : List ℕ) → all ≤ wide → NameForms all used ks → NameForms wide used ks
name_wider all wide used [] most h = tt
name_wider all wide used (k ∷ ks) most h = let within = h.1 in (h.0, omega arith, h.2, name_wider all wide (cond (nat_lt used k) k used) ks most h.3)

named_front : (fs more : List (List ℚ)) (k : ℕ) → 1 ≤ k → k ≤ length fs → form_named (fs ++ more) k ≡ form_named fs k
named_front fs more k one most = get_or-append fs more [] (k - 1) (omega arith)

all_front : (fs more : List (List ℚ)) (used : ℕ) (ks : List ℕ) → NameForms (length fs) used ks → map (form_named (fs ++ more)) ks ≡ map (form_named fs) ks
all_front fs more used [] h = refl
all_front fs more used (k ∷ ks) h = λ i. named_front fs more k h.0 h.1 i ∷ all_front fs more (cond (nat_lt used k) k used) ks h.3 i

-- ---- rows
pub numbered_none : (forms : List (List ℚ)) (old : List ℕ) (names : List (List ℕ) → Type 0) → AreForms names forms → AreNumbered forms [] old old names
numbered_none forms old names are =
    record { behind = []; all = forms; all_are = sym (append-nil forms); numbers = []; forms_are = are; rows_are = refl; text = sym (append-nil old); in_order = tt; used = refl; few = omega arith; widths = λ n h r. h }

all_but_last : {X : Type 0} (P : X → Type 0) (xs : List X) (x : X) → All P (xs ++ x ∷ []) → All P xs × P x
all_but_last P [] x h = (All-nil P, All-head P x [] h)
all_but_last P (y ∷ xs) x h = let rest = all_but_last P xs x (All-tail P y (xs ++ x ∷ []) h) in (All-cons P y xs (All-head P y (xs ++ x ∷ []) h) rest.0, rest.1)

none_or_last : {X : Type 0} (P : X → Type 0) (xs more : List X) (x : X) → (more ≡ []) ⊎ (more ≡ x ∷ []) → All P xs → P x → All P (xs ++ more)
none_or_last P xs more x which h here =
    elim which [
      | inl none ↦ subst (λ m. All P (xs ++ m)) (sym none) (subst (All P) (sym (append-nil xs)) h)
      | inr last ↦ subst (λ m. All P (xs ++ m)) (sym last) (All-push P xs x h here)
    ]

pub numbered_more : OneFractions → (forms rows : List (List ℚ)) (row : List ℚ) (k : ℕ) (old mid new : List ℕ) (names next : List (List ℕ) → Type 0) → AllFit row → (n : AreNumbered forms rows old mid names) → IsNamed (map form_line n.all) (form_line row) k next
    → new ≡ mid ++ 32 ∷ decimal k → AreNumbered forms (rows ++ row ∷ []) old new next
numbered_more one forms rows row k old mid new names next fits n named added =
    let step : IsItemStep form_line AllFit [] n.all row k next = item_step form_line AllFit [] (one (codes "form")) n.all row k next n.forms_are.fit fits named in
    let size : length (n.all ++ step.more) ≡ length n.all + length step.more = length-append n.all step.more in
    let used : used_behind (length forms) n.numbers ≡ length n.all = n.used in
    let near : k ≤ length n.all + 1 = step.in_order in
    let few : length n.all ≤ length forms + length rows = n.few in
    let one_more : length (n.all ++ step.more) ≤ length n.all + 1 = step.few in
    record {
      behind = n.behind ++ step.more;
      all = n.all ++ step.more;
      all_are = ap (λ t. t ++ step.more) n.all_are ∙ append_assoc forms n.behind step.more;
      numbers = n.numbers ++ k ∷ [];
      forms_are = record { names_are = step.names_are; fit = step.good };
      rows_are = map-append (form_named (n.all ++ step.more)) n.numbers (k ∷ []) ∙ ap (λ t. t ++ form_named (n.all ++ step.more) k ∷ []) (all_front n.all step.more (length forms) n.numbers n.in_order ∙ n.rows_are) ∙ ap (λ r. rows ++ r ∷ []) step.item_is;
      text = added ∙ ap (λ t. t ++ 32 ∷ decimal k) n.text ∙ append_assoc old (behind_blanks (map decimal n.numbers)) (32 ∷ decimal k) ∙ ap (λ t. old ++ t) (sym (mapped-push (λ word. 32 ∷ word) decimal n.numbers k));
      in_order = name_more (length (n.all ++ step.more)) (length forms) k n.numbers (name_wider (length n.all) (length (n.all ++ step.more)) (length forms) n.numbers (omega arith) n.in_order) step.from_one step.most (omega arith);
      used = used_more (length forms) k n.numbers ∙ ap (λ u. cond (nat_lt u k) k u) n.used ∙ sym step.used;
      few = simp length-append (omega arith);
      widths = λ w h r. let parts = all_but_last (HasWidth w) rows row r in none_or_last (HasWidth w) n.all step.more row step.more_is (n.widths w h parts.0) parts.1;
    }

-- ---- laws
text_three : (t0 t1 t2 t3 t4 a name words : List ℕ) → t1 ≡ t0 ++ a → t2 ≡ t1 ++ name → t3 ≡ t2 ++ words → t4 ≡ t3 ++ codes "\n" → t4 ≡ t0 ++ (a ++ ((name ++ words) ++ codes "\n"))
text_three t0 t1 t2 t3 t4 a name words h1 h2 h3 h4 =
    h4 ∙ ap (λ t. t ++ codes "\n") (h3 ∙ ap (λ t. t ++ words) (h2 ∙ ap (λ t. t ++ name) h1)) ∙ regroup t0 a name words (codes "\n")
  where
    regroup : (t0 a name words feed : List ℕ) → (((t0 ++ a) ++ name) ++ words) ++ feed ≡ t0 ++ (a ++ ((name ++ words) ++ feed))
    regroup t0 a name words feed = simp append_assoc

some_mults : (ks : List ℕ) → 1 ≤ length ks → mults_text ks ≡ ended (line (codes "mult") (map decimal ks))
some_mults [] h = absurd (omega arith)
some_mults (k ∷ ks) h = refl

size_of_numbers : (fs : List (List ℚ)) (ks : List ℕ) (rows : List (List ℚ)) → map (form_named fs) ks ≡ rows → length ks ≡ length rows
size_of_numbers fs ks rows e = sym (length-map ks (form_named fs)) ∙ ap length e

pub law_without : (forms : List (List ℚ)) (law : Law) (t0 t1 t2 t3 t4 : List ℕ) (names : List (List ℕ) → Type 0) → t1 ≡ t0 ++ ended (line (codes "law") (map decimal law.set)) → t2 ≡ t1 ++ codes "move" → AreNumbered forms law.moves.rows t2 t3 names → t4 ≡ t3 ++ codes "\n"
    → law.mults.rows ≡ [] → IsLawNumbered forms law t0 t4 names
law_without forms law t0 t1 t2 t3 t4 names set name n feed none =
    let few = n.few in
    record {
      behind = n.behind;
      all = n.all;
      all_are = n.all_are;
      named = record { set = law.set; moves = n.numbers; mults = [] };
      forms_are = n.forms_are;
      law_is = record { set = refl; moves = n.rows_are; mults = sym none };
      text = text_three t0 t1 t2 t3 t4 (ended (line (codes "law") (map decimal law.set))) (codes "move") (behind_blanks (map decimal n.numbers)) set name n.text feed
          ∙ ap (λ t. t0 ++ (ended (line (codes "law") (map decimal law.set)) ++ t)) (sym (append-nil (ended (line (codes "move") (map decimal n.numbers)))));
      moves_in_order = n.in_order;
      mults_in_order = tt;
      used = n.used;
      few = omega arith;
      widths = λ w h l. n.widths w h l.0;
    }

pub law_with_mults : (forms : List (List ℚ)) (law : Law) (t0 t1 t2 t3 t4 t5 t6 t7 : List ℕ) (names next : List (List ℕ) → Type 0) → t1 ≡ t0 ++ ended (line (codes "law") (map decimal law.set)) → t2 ≡ t1 ++ codes "move" → (n : AreNumbered forms law.moves.rows t2 t3 names) → t4 ≡ t3 ++ codes "\n"
    → t5 ≡ t4 ++ codes "mult" → AreNumbered n.all law.mults.rows t5 t6 next → t7 ≡ t6 ++ codes "\n" → 1 ≤ length law.mults.rows → IsLawNumbered forms law t0 t7 next
law_with_mults forms law t0 t1 t2 t3 t4 t5 t6 t7 names next set name n feed mult m last some =
    let few : length n.all ≤ length forms + length law.moves.rows = n.few in
    let few_mults : length m.all ≤ length n.all + length law.mults.rows = m.few in
    let size : length m.all ≡ length n.all + length m.behind = ap length m.all_are ∙ length-append n.all m.behind in
    let count : length m.numbers ≡ length law.mults.rows = size_of_numbers m.all m.numbers law.mults.rows m.rows_are in
    let before : t4 ≡ t0 ++ (ended (line (codes "law") (map decimal law.set)) ++ ended (line (codes "move") (map decimal n.numbers))) =
    text_three t0 t1 t2 t3 t4 (ended (line (codes "law") (map decimal law.set))) (codes "move") (behind_blanks (map decimal n.numbers)) set name n.text feed in
    let whole : t7 ≡ t0 ++ ((ended (line (codes "law") (map decimal law.set)) ++ ended (line (codes "move") (map decimal n.numbers))) ++ ended (line (codes "mult") (map decimal m.numbers))) =
    text_three t0 t4 t5 t6 t7 (ended (line (codes "law") (map decimal law.set)) ++ ended (line (codes "move") (map decimal n.numbers))) (codes "mult") (behind_blanks (map decimal m.numbers)) before mult m.text last in
    record {
      behind = n.behind ++ m.behind;
      all = m.all;
      all_are = m.all_are ∙ ap (λ t. t ++ m.behind) n.all_are ∙ append_assoc forms n.behind m.behind;
      named = record { set = law.set; moves = n.numbers; mults = m.numbers };
      forms_are = m.forms_are;
      law_is = record {
        set = refl;
        moves = ap (λ fs. map (form_named fs) n.numbers) m.all_are ∙ all_front n.all m.behind (length forms) n.numbers n.in_order ∙ n.rows_are;
        mults = m.rows_are;
      };
      text = whole ∙ ap (λ t. t0 ++ t) (append_assoc (ended (line (codes "law") (map decimal law.set))) (ended (line (codes "move") (map decimal n.numbers))) (ended (line (codes "mult") (map decimal m.numbers)))
          ∙ ap (λ t. ended (line (codes "law") (map decimal law.set)) ++ (ended (line (codes "move") (map decimal n.numbers)) ++ t)) (sym (some_mults m.numbers (omega arith))));
      moves_in_order = name_wider (length n.all) (length m.all) (length forms) n.numbers (omega arith) n.in_order;
      mults_in_order = subst (λ u. NameForms (length m.all) u m.numbers) (sym n.used) m.in_order;
      used = ap (λ u. used_behind u m.numbers) n.used ∙ m.used;
      few = omega arith;
      widths = λ w h l. m.widths w (n.widths w h l.0) l.1;
    }

-- ---- all laws
in_order_wider : (all wide used : ℕ) (laws : List NamedLaw) → all ≤ wide → InOrder all used laws → InOrder wide used laws
in_order_wider all wide used [] most h = tt
in_order_wider all wide used (law ∷ laws) most h =
    (name_wider all wide used law.moves most h.0, name_wider all wide (used_behind used law.moves) law.mults most h.1, in_order_wider all wide (used_behind (used_behind used law.moves) law.mults) laws most h.2)

abbrev used_step : ℕ → NamedLaw → ℕ
used_step used law = used_behind (used_behind used law.moves) law.mults

in_order_more : (all used : ℕ) (laws : List NamedLaw) (law : NamedLaw) → InOrder all used laws → NameForms all (fold used_step used laws) law.moves → NameForms all (used_behind (fold used_step used laws) law.moves) law.mults → InOrder all used (laws ++ law ∷ [])
in_order_more all used [] law h moves mults = (moves, mults, tt)
in_order_more all used (l ∷ laws) law h moves mults = (h.0, h.1, in_order_more all (used_step used l) laws law h.2 moves mults)

fold_more : (used : ℕ) (laws : List NamedLaw) (law : NamedLaw) → fold used_step used (laws ++ law ∷ []) ≡ used_step (fold used_step used laws) law
fold_more used [] law = refl
fold_more used (l ∷ laws) law = fold_more (used_step used l) laws law

law_front : (fs more : List (List ℚ)) (used : ℕ) (named : NamedLaw) (law : Law) → NameForms (length fs) used named.moves → NameForms (length fs) (used_behind used named.moves) named.mults → IsLawNamed fs named law → IsLawNamed (fs ++ more) named law
law_front fs more used named law moves mults is =
    record { set = is.set; moves = all_front fs more used named.moves moves ∙ is.moves; mults = all_front fs more (used_behind used named.moves) named.mults mults ∙ is.mults }

laws_front : (fs more : List (List ℚ)) (used : ℕ) (named : List NamedLaw) (laws : List Law) → InOrder (length fs) used named → AllZip (IsLawNamed fs) named laws → AllZip (IsLawNamed (fs ++ more)) named laws
laws_front fs more used [] [] h are = tt
laws_front fs more used [] (law ∷ laws) h are = are
laws_front fs more used (n ∷ named) [] h are = are
laws_front fs more used (n ∷ named) (law ∷ laws) h are = (law_front fs more used n law h.0 h.1 are.0, laws_front fs more (used_step used n) named laws h.2 are.1)

zip_push : {A B : Type 0} (R : A → B → Type 0) (xs : List A) (ys : List B) (x : A) (y : B) → AllZip R xs ys → R x y → AllZip R (xs ++ x ∷ []) (ys ++ y ∷ [])
zip_push R [] [] x y h r = (r, tt)
zip_push R [] (b ∷ ys) x y h r = absurd h
zip_push R (a ∷ xs) [] x y h r = absurd h
zip_push R (a ∷ xs) (b ∷ ys) x y h r = (h.0, zip_push R xs ys x y h.1 r)

rows_in_more : (laws : List Law) (law : Law) → rows_in (laws ++ law ∷ []) ≡ rows_in laws + (length law.moves.rows + length law.mults.rows)
rows_in_more [] law = omega arith
rows_in_more (l ∷ laws) law = let more = rows_in_more laws law in omega arith

pub laws_none : (old : List ℕ) (names : List (List ℕ) → Type 0) → AreForms names [] → AreLawsNumbered [] old old names
laws_none old names are = record { forms = []; named = []; forms_are = are; laws_are = tt; text = sym (append-nil old); in_order = tt; used = refl; few = omega arith; widths = λ w h. All-nil (HasWidth w) }

pub laws_more : (laws : List Law) (law : Law) (old mid new : List ℕ) (names next : List (List ℕ) → Type 0) → (a : AreLawsNumbered laws old mid names) → IsLawNumbered a.forms law mid new next → AreLawsNumbered (laws ++ law ∷ []) old new next
laws_more laws law old mid new names next a l =
    let size : length l.all ≡ length a.forms + length l.behind = ap length l.all_are ∙ length-append a.forms l.behind in
    let few : length a.forms ≤ rows_in laws = a.few in
    let few_law : length l.all ≤ length a.forms + (length law.moves.rows + length law.mults.rows) = l.few in
    let rows : rows_in (laws ++ law ∷ []) ≡ rows_in laws + (length law.moves.rows + length law.mults.rows) = rows_in_more laws law in
    record {
      forms = l.all;
      named = a.named ++ l.named ∷ [];
      forms_are = l.forms_are;
      laws_are = zip_push (IsLawNamed l.all) a.named laws l.named law (subst (λ fs. AllZip (IsLawNamed fs) a.named laws) (sym l.all_are) (laws_front a.forms l.behind 0 a.named laws a.in_order a.laws_are)) l.law_is;
      text = l.text ∙ ap (λ t. t ++ law_text l.named) a.text ∙ append_assoc old (flat_map law_text a.named) (law_text l.named) ∙ ap (λ t. old ++ t) (sym (pieces-push law_text a.named l.named));
      in_order = in_order_more (length l.all) 0 a.named l.named (in_order_wider (length a.forms) (length l.all) 0 a.named (omega arith) a.in_order)
          (subst (λ u. NameForms (length l.all) u l.named.moves) (sym a.used) l.moves_in_order) (subst (λ u. NameForms (length l.all) (used_behind u l.named.moves) l.named.mults) (sym a.used) l.mults_in_order);
      used = fold_more 0 a.named l.named ∙ ap (λ u. used_step u l.named) a.used ∙ l.used;
      few = omega arith;
      widths = λ w h. let parts = all_but_last (LawHasWidth w) laws law h in l.widths w (a.widths w parts.0) parts.1;
    }

pub no_rows : (rows : List (List ℚ)) → length rows ≡ 0 → rows ≡ []
no_rows [] e = refl
no_rows (row ∷ rows) e = absurd (omega arith)

pub no_forms : (names : List (List ℕ) → Type 0) → names [] → AreForms names []
no_forms names are = record { names_are = are; fit = All-nil AllFit }

pub same_size : {A B : Type 0} (R : A → B → Type 0) (xs : List A) (ys : List B) → AllZip R xs ys → length xs ≡ length ys
same_size R [] [] h = refl
same_size R [] (y ∷ ys) h = absurd h
same_size R (x ∷ xs) [] h = absurd h
same_size R (x ∷ xs) (y ∷ ys) h = let rest = same_size R xs ys h.1 in omega arith

text_four : (t0 t1 t2 t3 t4 a b c d : List ℕ) → t1 ≡ t0 ++ a → t2 ≡ t1 ++ b → t3 ≡ t2 ++ c → t4 ≡ t3 ++ d → t4 ≡ t0 ++ ((a ++ b) ++ (c ++ d))
text_four t0 t1 t2 t3 t4 a b c d h1 h2 h3 h4 = h4 ∙ ap (λ t. t ++ d) (h3 ∙ ap (λ t. t ++ c) (h2 ∙ ap (λ t. t ++ b) h1)) ∙ regroup t0 a b c d
  where
    regroup : (t0 a b c d : List ℕ) → (((t0 ++ a) ++ b) ++ c) ++ d ≡ t0 ++ ((a ++ b) ++ (c ++ d))
    regroup t0 a b c d = simp append_assoc

pub table_written : (laws : List Law) (t0 t1 t2 t3 t4 text names_text : List ℕ) (count : ℕ) (names : Names) → AreLawsNumbered laws [] text (AreNames names) → ((lines : List (List ℕ)) → AreNames names lines → count ≡ length lines) → names_text ≡ names.text.items
    → t1 ≡ t0 ++ ended (count_line (codes "forms") count) → t2 ≡ t1 ++ names_text → t3 ≡ t2 ++ ended (count_line (codes "laws") (length laws)) → t4 ≡ t3 ++ text → IsTableWritten laws t0 t4
table_written laws t0 t1 t2 t3 t4 text names_text count names a counted names_are h1 h2 h3 h4 =
    let are : AreNames names (map form_line a.forms) = a.forms_are.names_are in
    let forms_count : count ≡ length a.forms = counted (map form_line a.forms) are ∙ length-map a.forms form_line in
    let laws_count : length laws ≡ length a.named = sym (same_size (IsLawNamed a.forms) a.named laws a.laws_are) in
    record {
      forms = a.forms;
      named = a.named;
      fit = a.forms_are.fit;
      different = are.different;
      laws_are = a.laws_are;
      in_order = a.in_order;
      used = a.used;
      few = a.few;
      widths = a.widths;
      text = text_four t0 t1 t2 t3 t4 (ended (count_line (codes "forms") (length a.forms))) (text_of_lines (map form_line a.forms)) (ended (count_line (codes "laws") (length a.named))) (flat_map law_text a.named)
          (h1 ∙ ap (λ n. t0 ++ ended (count_line (codes "forms") n)) forms_count) (h2 ∙ ap (λ t. t1 ++ t) (names_are ∙ are.text)) (h3 ∙ ap (λ n. t2 ++ ended (count_line (codes "laws") n)) laws_count) (h4 ∙ ap (λ t. t3 ++ t) a.text);
    }
