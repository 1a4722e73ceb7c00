-- Different lines that numbers name in the order of their first use, all of them, are the different ones of the lines that are named.
use Rattle.std.proofs.Common.{◌≡◌, ◌≢◌, ℕ, zero, suc, ◌+◌, ◌-◌, ◌<◌, ◌≤◌, ⊎_elim, Bool, true, false, nat_lt, cond, List, [], ◌∷◌, ◌++◌, map, fold, length, get_or, take, refl, sym, ap, ◌∙◌, arith, le-ltb, lt-ltb, get_or-take}
use Rattle.std.specs.Prelude.{bytes_eq, ◌||◌}
use Rattle.std.specs.List.{list_any}
use Rattle.std.proofs.lemmas.Bool.{cases_lt, cond-true, cond-false, or_left, or_right, false_from_ne_true}
use Rattle.std.proofs.lemmas.List.{take_more, length-take-le}
use Rattle.std.proofs.lemmas.Slice.Eq.{bytes_eq-Decides}
use Rattle.mpc_grammar.specs.LawGrammar.{NameForms, used_behind}
use Rattle.mpc_theorem.specs.ControllerFile.{with_line, number_in}

abbrev pub line_at : List (List ℕ) → ℕ → List ℕ
line_at lines i = get_or lines i []

-- no line equals one before it
abbrev pub AreDifferent : List (List ℕ) → Type 0
AreDifferent lines = (i j : ℕ) → i < j → j < length lines → line_at lines i ≢ line_at lines j

equal : (xs ys : List ℕ) → xs ≡ ys → bytes_eq xs ys ≡ true
equal xs ys e = (bytes_eq-Decides xs ys).1 e

unequal : (xs ys : List ℕ) → xs ≢ ys → bytes_eq xs ys ≡ false
unequal xs ys ne = false_from_ne_true (bytes_eq xs ys) (λ e. ne ((bytes_eq-Decides xs ys).0 e))

-- ---- a line's number
pub number_found : (lines : List (List ℕ)) → AreDifferent lines → (i : ℕ) → i < length lines → number_in lines (line_at lines i) ≡ i + 1
number_found [] differ i h = absurd (omega (arith, h))
number_found (first ∷ others) differ zero h = cond-true (bytes_eq first first) 1 (number_in others first + 1) (equal first first refl)
number_found (first ∷ others) differ (suc i) h =
    let text : List ℕ = line_at others i in
    let other : text ≢ first = λ e. differ 0 (suc i) (omega arith) h (sym e) in
    let there : number_in others text ≡ i + 1 = number_found others (λ a b l k. differ (suc a) (suc b) (omega (arith, l)) (omega (arith, k))) i (omega (arith, h)) in
    cond-false (bytes_eq text first) 1 (number_in others text + 1) (unequal text first other) ∙ omega (arith, there)

-- ---- whether a line is among others
any_at : (text : List ℕ) (lines : List (List ℕ)) (i : ℕ) → i < length lines → line_at lines i ≡ text → list_any (bytes_eq text) lines ≡ true
any_at text [] i h e = absurd (omega (arith, h))
any_at text (first ∷ others) zero h e = or_left (bytes_eq text first) (list_any (bytes_eq text) others) (equal text first (sym e))
any_at text (first ∷ others) (suc i) h e = or_right (bytes_eq text first) (list_any (bytes_eq text) others) (any_at text others i (omega (arith, h)) e)

none_at : (text : List ℕ) (lines : List (List ℕ)) → ((i : ℕ) → i < length lines → line_at lines i ≢ text) → list_any (bytes_eq text) lines ≡ false
none_at text [] ne = refl
none_at text (first ∷ others) ne =
    ap (λ b. b || list_any (bytes_eq text) others) (unequal text first (λ e. ne 0 (omega arith) (sym e))) ∙ none_at text others (λ i h. ne (suc i) (omega (arith, h)))

-- ---- lines that are named in the order of their first use
module _ (lines : List (List ℕ)) (differ : AreDifferent lines) where
  one_kept : (used i : ℕ) → used ≤ length lines → i < used → with_line (take used lines) (line_at lines i) ≡ take used lines
  one_kept used i few h =
      let text : List ℕ = line_at lines i in
      let size : length (take used lines) ≡ used = length-take-le used lines few in
      cond-true (list_any (bytes_eq text) (take used lines)) (take used lines) (take used lines ++ text ∷ []) (any_at text (take used lines) i (omega (arith, size, h)) (get_or-take used lines i [] h))

  one_new : (used : ℕ) → used < length lines → with_line (take used lines) (line_at lines used) ≡ take (used + 1) lines
  one_new used h =
      let text : List ℕ = line_at lines used in
      let size : length (take used lines) ≡ used = length-take-le used lines (omega (arith, h)) in
      cond-false (list_any (bytes_eq text) (take used lines)) (take used lines) (take used lines ++ text ∷ [])
      (none_at text (take used lines) (λ i l e. let low : i < used = omega (arith, l, length-take-le used lines (omega (arith, h))) in differ i used low h (sym (get_or-take used lines i [] low) ∙ e)))
      ∙ sym (take_more lines used [] h)

  -- one more number, at most the next one
  pub one_named : (used k : ℕ) → used ≤ length lines → 1 ≤ k → k ≤ length lines → k ≤ used + 1 → with_line (take used lines) (line_at lines (k - 1)) ≡ take (cond (nat_lt used k) k used) lines
  one_named used k few from within next = ⊎_elim
      (λ l. let at : k - 1 ≡ used = omega (arith, l, next) in
      let to : used + 1 ≡ k = omega (arith, l, next) in
      ap (λ i. with_line (take used lines) (line_at lines i)) at ∙ one_new used (omega (arith, l, within)) ∙ ap (λ n. take n lines) (to ∙ sym (cond-true (nat_lt used k) k used (lt-ltb used k l))))
      (λ l. one_kept used (k - 1) few (omega (arith, l, from)) ∙ ap (λ n. take n lines) (sym (cond-false (nat_lt used k) k used (le-ltb used k l))))
      (cases_lt used k)

  pub used_few : (used k : ℕ) → used ≤ length lines → k ≤ length lines → cond (nat_lt used k) k used ≤ length lines
  used_few used k few within = by (nat_lt used k)
    where
      by : (b : Bool) → cond b k used ≤ length lines
      by true = within
      by false = few

  pub behind_few : (used : ℕ) (ks : List ℕ) → used ≤ length lines → NameForms (length lines) used ks → used_behind used ks ≤ length lines
  behind_few used [] few names = few
  behind_few used (k ∷ ks) few names = behind_few (cond (nat_lt used k) k used) ks (used_few used k few names.1) names.3

  pub all_named : (used : ℕ) (ks : List ℕ) → used ≤ length lines → NameForms (length lines) used ks → fold with_line (take used lines) (map (λ k. line_at lines (k - 1)) ks) ≡ take (used_behind used ks) lines
  all_named used [] few names = refl
  all_named used (k ∷ ks) few names =
      ap (λ before. fold with_line before (map (λ j. line_at lines (j - 1)) ks)) (one_named used k few names.0 names.1 names.2)
      ∙ all_named (cond (nat_lt used k) k used) ks (used_few used k few names.1) names.3

  pub number_named : (k : ℕ) → 1 ≤ k → k ≤ length lines → number_in lines (line_at lines (k - 1)) ≡ k
  number_named k from within = number_found lines differ (k - 1) (omega (arith, from, within)) ∙ omega (arith, from)
