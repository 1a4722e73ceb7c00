-- The pairs of a certificate are read one after another.
use Rattle.std.proofs.Common.{◌≡◌, ◌≢◌, ℕ, ◌^◌, ◌<◌, ◌≤◌, ◌==◌, true, false, List, [], ◌∷◌, ◌++◌, length, get_or, take, drop, ◌-◌, All, ℤ, pos, negsuc, unsigned_abs, to_z, of_z, refl, sym, ap, ◌∙◌, subst, arith, append_assoc, append-nil, codes, Option, Some, None, MatchOption, Result, Ok, Err, IfOk}
use lib.Signed.{le_z, lt_z}
use Rattle.std.specs.Int.{w128}
use Rattle.std.proofs.lemmas.Int.{ints}
use Rattle.std.proofs.lemmas.Bool.Decides.{nat_tests}
use Rattle.std.proofs.lemmas.List.{take_all}
use Rattle.std.proofs.lemmas.List.Elements.{All-nil, All-head, All-tail, All-push, All-weaker}
use Rattle.mpc_exact.specs.Rational.{ℚ, int}
use Rattle.mpc_exact.proofs.Denominator.{whole_of_denom}
use Rattle.mpc_space.proofs.Words.{read_back, read_natural}
use Rattle.mpc_rows.specs.Certificates.{RisesFrom}
use Rattle.mpc_controller.specs.Certificates.{IsCertOver}
use Rattle.mpc_grammar.specs.Fractions.{whole_numer, same_natural}
use Rattle.mpc_law_lines.proofs.CertLines.{fractions_of_pairs, cert_is_fractions, pairs_fit, multipliers_fit}
use Rattle.mpc_grammar.specs.Lines.{fractions_line}
use Rattle.mpc_grammar.specs.PlantGrammar.{AllFit}
use Rattle.mpc_grammar.specs.Spelling.{AreFractions}
use Rattle.mpc_grammar.specs.LineTheorems.{OneFractions}
use Rattle.mpc_grammar.specs.TreeGrammar.{IsCertLine}

-- ---- a position
above : (z : ℤ) (last : ℕ) → le_z z (pos last) ≡ false → (z ≡ pos (unsigned_abs z)) × (last < unsigned_abs z)
above (pos n) last e = (refl, grind (arith, ints))
above (negsuc n) last e = absurd (cc)

up_to : (n rows : ℕ) → lt_z (pos rows) (pos n) ≡ false → n ≤ rows
up_to n rows e = grind (arith, ints)

module _ (x : ℚ) (num : ℤ) (num_is : num ≡ x.numer) (small : unsigned_abs x.numer < 2 ^ 127) where
  abbrev bits : ℤ
  bits = to_z w128 (of_z w128 num)

  as_read : bits ≡ x.numer
  as_read = ap (λ z. to_z w128 (of_z w128 z)) num_is ∙ read_back x.numer small

  natural_bits : (f : ℤ) (n : ℕ) → f ≡ pos n → n < 2 ^ 64 → to_z w128 (of_z w128 f) ≡ pos n
  natural_bits f n e h = ap (λ z. to_z w128 (of_z w128 z)) e ∙ read_natural n (omega arith)

  module _ (last rows : ℕ) (low high : ℤ) (low_is : low ≡ pos last) (high_is : high ≡ pos rows) (last_fits : last < 2 ^ 64) (rows_fit : rows < 2 ^ 64) where
    pub position_is : x.denom ≡ 1 → le_z bits (to_z w128 (of_z w128 low)) ≡ false → lt_z (to_z w128 (of_z w128 high)) bits ≡ false
        → (x ≡ int (pos (unsigned_abs bits))) × (last < unsigned_abs bits) × (unsigned_abs bits ≤ rows)
    position_is whole over under =
        let up = above bits last (ap (le_z bits) (sym (natural_bits low last low_is last_fits)) ∙ over) in
        let not_under : lt_z (pos rows) (pos (unsigned_abs bits)) ≡ false = (λ i. lt_z (sym (natural_bits high rows high_is rows_fit) i) (sym up.0 i)) ∙ under in
        (sym (whole_of_denom x whole) ∙ ap int (sym as_read ∙ up.0), up.1, up_to (unsigned_abs bits) rows not_under)

    pub too_low : (k : ℕ) → x ≡ int (pos k) → last < k → ¬ (le_z bits (to_z w128 (of_z w128 low)) ≡ true)
    too_low k e h t =
        let here : bits ≡ pos k = as_read ∙ ap (λ y. y.numer) e ∙ whole_numer (pos k) in
        let test : le_z (pos k) (pos last) ≡ true = (λ i. le_z (sym here i) (sym (natural_bits low last low_is last_fits) i)) ∙ t in
        grind (arith, ints)

    pub too_high : (k : ℕ) → x ≡ int (pos k) → k ≤ rows → ¬ (lt_z (to_z w128 (of_z w128 high)) bits ≡ true)
    too_high k e h t =
        let here : bits ≡ pos k = as_read ∙ ap (λ y. y.numer) e ∙ whole_numer (pos k) in
        let test : lt_z (pos rows) (pos k) ≡ true = (λ i. lt_z (sym (natural_bits high rows high_is rows_fit) i) (sym here i)) ∙ t in
        grind (arith, ints)

-- ---- the pairs
abbrev pub IsUpTo : ℕ → (ℕ × ℚ) → Type 0
IsUpTo rows entry = entry.0 ≤ rows

-- these pairs are read, the last of this position, and these fractions are left
pub record PairsSoFar (rows : ℕ) (parts left : List ℚ) (cert : List (ℕ × ℚ)) (last : ℕ) : Type 0 where
  pub joined : parts ≡ fractions_of_pairs cert ++ left
  pub extends : (entries : List (ℕ × ℚ)) → RisesFrom last entries → RisesFrom 0 (cert ++ entries)
  pub continues : (entries : List (ℕ × ℚ)) → RisesFrom 0 (cert ++ entries) → RisesFrom last entries
  pub within : All (IsUpTo rows) cert

pub no_pair : (rows : ℕ) (parts : List ℚ) (cert : List (ℕ × ℚ)) → cert ≡ [] → PairsSoFar rows parts parts cert 0
no_pair rows parts cert e = subst (λ c. PairsSoFar rows parts parts c 0) (sym e) (record { joined = refl; extends = λ entries h. h; continues = λ entries h. h; within = All-nil (IsUpTo rows) })

pairs_push : (cert : List (ℕ × ℚ)) (n : ℕ) (x : ℚ) (left : List ℚ) → fractions_of_pairs (cert ++ (n, x) ∷ []) ++ left ≡ fractions_of_pairs cert ++ (int (pos n) ∷ x ∷ left)
pairs_push [] n x left = refl
pairs_push ((m, y) ∷ cert) n x left = ap (λ t. int (pos m) ∷ y ∷ t) (pairs_push cert n x left)

pub pair_more : (rows : ℕ) (parts left : List ℚ) (cert more : List (ℕ × ℚ)) (last : ℕ) → PairsSoFar rows parts left cert last → (p x : ℚ) (rest : List ℚ) (n : ℕ) → left ≡ p ∷ x ∷ rest → p ≡ int (pos n) → last < n → n ≤ rows → x ≢ int (pos 0)
    → more ≡ cert ++ (n, x) ∷ [] → PairsSoFar rows parts rest more n
pair_more rows parts left cert more last s p x rest n at e low high some m =
    subst (λ c. PairsSoFar rows parts rest c n) (sym m)
    (record {
      joined = s.joined ∙ ap (λ t. fractions_of_pairs cert ++ t) (at ∙ ap (λ q. q ∷ x ∷ rest) e) ∙ sym (pairs_push cert n x rest);
      extends = λ entries h. subst (RisesFrom 0) (sym (append_assoc cert ((n, x) ∷ []) entries)) (s.extends ((n, x) ∷ entries) (low, some, h));
      continues = λ entries h. (s.continues ((n, x) ∷ entries) (subst (RisesFrom 0) (append_assoc cert ((n, x) ∷ []) entries) h)).2;
      within = All-push (IsUpTo rows) cert (n, x) s.within high;
    })

pub pair_rises : (rows : ℕ) (parts left : List ℚ) (cert : List (ℕ × ℚ)) (last : ℕ) → PairsSoFar rows parts left cert last → (n : ℕ) (x : ℚ) → last < n → x ≢ int (pos 0) → RisesFrom 0 (cert ++ (n, x) ∷ [])
pair_rises rows parts left cert last s n x low some = s.extends ((n, x) ∷ []) (low, some, tt)

-- nothing is left
module _ (rows : ℕ) (parts left : List ℚ) (cert : List (ℕ × ℚ)) (last : ℕ) (s : PairsSoFar rows parts left cert last) where
  pub all_pairs : left ≡ [] → parts ≡ fractions_of_pairs cert
  all_pairs e = s.joined ∙ ap (λ t. fractions_of_pairs cert ++ t) e ∙ append-nil (fractions_of_pairs cert)

  pub cert_over : IsCertOver rows cert
  cert_over = record { is_cert = record { rises = subst (RisesFrom 0) (append-nil cert) (s.extends [] tt) }; within = s.within }

  -- any certificate that the fractions are begins with what is read
  behind : (some : List (ℕ × ℚ)) (c : List (ℕ × ℚ)) (back : List ℚ) → fractions_of_pairs some ++ back ≡ fractions_of_pairs c → (d : List (ℕ × ℚ)) × ((c ≡ some ++ d) × (back ≡ fractions_of_pairs d))
  behind [] c back e = (c, (refl, e))
  behind ((n, x) ∷ some) [] back e = absurd (cc)
  behind ((n, x) ∷ some) ((m, y) ∷ c) back e =
      let front : int (pos n) ≡ int (pos m) = cc in
      let multiplier : x ≡ y = cc in
      let rest : fractions_of_pairs some ++ back ≡ fractions_of_pairs c = cc in
      let d = behind some c back rest in
      let place : n ≡ m = same_natural n m front in
      (d.0, ((λ i. (sym place i, sym multiplier i) ∷ d.1.0 i), d.1.1))

  All-back : (P : (ℕ × ℚ) → Type 0) (xs ys : List (ℕ × ℚ)) → All P (xs ++ ys) → All P ys
  All-back P [] ys h = h
  All-back P (x ∷ xs) ys h = All-back P xs ys (All-tail P x (xs ++ ys) h)

  module _ (c : List (ℕ × ℚ)) (is : IsCertOver rows c) (e : parts ≡ fractions_of_pairs c) where
    abbrev back : List (ℕ × ℚ)
    back = (behind cert c left (sym s.joined ∙ e)).0

    left_is : left ≡ fractions_of_pairs back
    left_is = (behind cert c left (sym s.joined ∙ e)).1.1

    back_rises : RisesFrom last back
    back_rises = s.continues back (subst (RisesFrom 0) (behind cert c left (sym s.joined ∙ e)).1.0 is.is_cert.rises)

    back_within : All (IsUpTo rows) back
    back_within = All-back (IsUpTo rows) cert back (subst (All (IsUpTo rows)) (behind cert c left (sym s.joined ∙ e)).1.0 is.within)

    next_by : (d : List (ℕ × ℚ)) → left ≡ fractions_of_pairs d → RisesFrom last d → All (IsUpTo rows) d → (p x : ℚ) (rest : List ℚ) → left ≡ p ∷ x ∷ rest → (n : ℕ) × ((p ≡ int (pos n)) × (last < n) × (n ≤ rows) × (x ≢ int (pos 0)))
    next_by [] f rises within p x rest at = absurd (cc)
    next_by ((n, y) ∷ d) f rises within p x rest at =
        let front : p ≡ int (pos n) = cc in
        let multiplier : x ≡ y = cc in
        (n, (front, rises.0, All-head (IsUpTo rows) (n, y) d within, subst (λ z. z ≢ int (pos 0)) (sym multiplier) rises.1))

    next : (p x : ℚ) (rest : List ℚ) → left ≡ p ∷ x ∷ rest → (n : ℕ) × ((p ≡ int (pos n)) × (last < n) × (n ≤ rows) × (x ≢ int (pos 0)))
    next p x rest at = next_by back left_is back_rises back_within p x rest at

    short_by : (d : List (ℕ × ℚ)) → left ≡ fractions_of_pairs d → length left < 2 → left ≡ []
    short_by [] f h = f
    short_by ((n, y) ∷ d) f h = let l : length left ≡ length (int (pos n) ∷ y ∷ fractions_of_pairs d) = ap length f in absurd (omega arith)

    short : length left < 2 → left ≡ []
    short h = short_by back left_is h

  -- the next fraction is no position
  pub refused_position : (p x : ℚ) (rest : List ℚ) → left ≡ p ∷ x ∷ rest → ((k : ℕ) → last < k → k ≤ rows → p ≢ int (pos k)) → (c : List (ℕ × ℚ)) → IsCertOver rows c → parts ≢ fractions_of_pairs c
  refused_position p x rest at none c is e = let n = next c is e p x rest at in none n.0 n.1.1 n.1.2 n.1.0

  -- the multiplier is 0
  pub refused_zero : (p x : ℚ) (rest : List ℚ) → left ≡ p ∷ x ∷ rest → x ≡ int (pos 0) → (c : List (ℕ × ℚ)) → IsCertOver rows c → parts ≢ fractions_of_pairs c
  refused_zero p x rest at zero c is e = (next c is e p x rest at).1.3 zero

  -- one fraction is left
  pub refused_one : length left < 2 → left ≢ [] → (c : List (ℕ × ℚ)) → IsCertOver rows c → parts ≢ fractions_of_pairs c
  refused_one h some c is e = some (short c is e h)

-- at least two entries, and those behind them
abbrev pub behind_two : {X : Type 0} → List X → List X
behind_two xs = take (length xs - 2) (drop 2 xs)

pub two_first : {X : Type 0} (xs : List X) (p x : X) → 2 ≤ length xs → p ≡ get_or xs 0 p → x ≡ get_or xs 1 x → xs ≡ p ∷ x ∷ behind_two xs
two_first [] p x h e f = absurd (omega arith)
two_first (y ∷ []) p x h e f = absurd (omega arith)
two_first (y ∷ z ∷ ys) p x h e f =
    let enough : length ys ≤ length (y ∷ z ∷ ys) - 2 = omega arith in
    λ i. sym e i ∷ sym f i ∷ sym (take_all (length (y ∷ z ∷ ys) - 2) ys enough) i

pub fewer_behind : {X : Type 0} (xs : List X) (p x : X) → xs ≡ p ∷ x ∷ behind_two xs → length (behind_two xs) < length xs
fewer_behind xs p x e = let l : length xs ≡ length (p ∷ x ∷ behind_two xs) = ap length e in omega (arith, l)

zero_if : (n : ℕ) → true ≡ (n == 0) → n ≡ 0
zero_if n e = grind (arith, nat_tests)

pub is_empty : {X : Type 0} (xs : List X) → true ≡ (length xs == 0) → xs ≡ []
is_empty [] e = refl
is_empty (x ∷ xs) e = let none : length (x ∷ xs) ≡ 0 = zero_if (length (x ∷ xs)) e in absurd (omega arith)

pub not_empty : {X : Type 0} (xs : List X) → false ≡ (length xs == 0) → xs ≢ []
not_empty [] e h = cc
not_empty (x ∷ xs) e h = cc

-- ---- a line
placed : (rows : ℕ) → rows < 2 ^ 64 → (entry : ℕ × ℚ) → entry.0 ≤ rows → entry.0 < 2 ^ 127
placed rows h (n, x) l = omega arith

-- a certificate's line is a line of fractions
as_fractions : (rows : ℕ) → rows < 2 ^ 64 → (text : List ℕ) (c : List (ℕ × ℚ)) → IsCertLine rows text c → AreFractions (codes "cert") text (fractions_of_pairs c)
as_fractions rows h text c is = record { spelled = is.spelled ∙ cert_is_fractions c; fits = pairs_fit c (All-weaker (IsUpTo rows) (λ entry. entry.0 < 2 ^ 127) (placed rows h) c is.cert_is.within) is.fits }

pub no_fractions : (rows : ℕ) → rows < 2 ^ 64 → (text : List ℕ) → ((xs : List ℚ) → ¬ AreFractions (codes "cert") text xs) → (c : List (ℕ × ℚ)) → ¬ IsCertLine rows text c
no_fractions rows h text none c is = none (fractions_of_pairs c) (as_fractions rows h text c is)

pub cert_found : {E : Type 0} → OneFractions → (rows : ℕ) → rows < 2 ^ 64 → (text : List ℕ) (xs ys : List ℚ) → ys ≡ xs → AreFractions (codes "cert") text xs → (r : Result (Option (List (ℕ × ℚ))) E)
    → IfOk r (λ found. MatchOption found ((c : List (ℕ × ℚ)) → IsCertOver rows c → ys ≢ fractions_of_pairs c) (λ c. IsCertOver rows c))
    → IfOk r (λ found. MatchOption found (Unit {0}) (λ c. ys ≡ fractions_of_pairs c))
    → IfOk r (λ found. MatchOption found ((c : List (ℕ × ℚ)) → ¬ IsCertLine rows text c) (λ c. IsCertLine rows text c))
cert_found one rows h text xs ys e are (Ok None) none same = λ c is.
    let fractions = as_fractions rows h text c is in
    none c is.cert_is (e ∙ one (codes "cert") xs (fractions_of_pairs c) are.fits fractions.fits (sym are.spelled ∙ fractions.spelled))
cert_found one rows h text xs ys e are (Ok (Some c)) is same =
    record {
      spelled = are.spelled ∙ ap (fractions_line (codes "cert")) (sym e ∙ same) ∙ sym (cert_is_fractions c);
      cert_is = is;
      fits = multipliers_fit c (subst AllFit (sym e ∙ same) are.fits);
    }
cert_found one rows h text xs ys e are (Err error) is same = tt
