-- When a text is read as a number.
use Rattle.std.proofs.Common.{◌≡◌, ◌≢◌, ◌==◌, ℕ, suc, ◌+◌, ◌*◌, ◌^◌, pos, List, [], ◌∷◌, ◌++◌, length, take, drop, codes, Bool, true, false, cond, not, true≢false, ◌&&◌, nat_lt, nat_le, Option, Some, None, option_map, option_and_then, refl, sym, ◌∙◌, ap, subst, arith}
use Rattle.std.specs.List.{list_all, position_or_len}
use Rattle.std.specs.Char.{is_ascii_digit}
use Rattle.std.proofs.lemmas.Bool.Decides.{Decides-eqb, nat_tests}
use Rattle.std.proofs.lemmas.List.{append-nil}
use Rattle.mpc_exact.specs.Rational.{ℚ, int, frac, neg_ℚ}
use Rattle.mpc_plant.specs.Decimals.{decimal_value, is_numeral, numeral, parted, ratio, unsigned_at_point, unsigned_at_stroke, unsigned_number, text_number}
use Rattle.mpc_theorem.specs.PlantNumbers.{IsNumeral, IsUnsigned, whole, ratio as ratio_text, decimal, IsSpelled, plain, minus}

-- ---- a text parted at a byte
abbrev cut : List ℕ → Option ℕ → Option (List ℕ × List ℕ)
cut text o = option_map (λ k. (take k text, drop (k + 1) text)) o

abbrev with_first : ℕ → Option (List ℕ × List ℕ) → Option (List ℕ × List ℕ)
with_first x None = None
with_first x (Some p) = Some (x ∷ p.0, p.1)

first_inside : (n : ℕ) → nat_lt 0 (suc n) ≡ true
first_inside n = grind (arith, nat_tests)

parted_here : (x b : ℕ) (rest : List ℕ) → (x == b) ≡ true → parted b (x ∷ rest) ≡ Some ([], rest)
parted_here x b rest e =
    ap (λ t. cut (x ∷ rest) (cond (nat_lt (cond (not t) (1 + position_or_len (λ c. c == b) rest) 0) (suc (length rest))) (Some (cond (not t) (1 + position_or_len (λ c. c == b) rest) 0)) None)) e
    ∙ ap (λ t. cut (x ∷ rest) (cond t (Some 0) None)) (first_inside (length rest))

further : (x k : ℕ) (rest : List ℕ) (inside : Bool) → cut (x ∷ rest) (cond inside (Some (1 + k)) None) ≡ with_first x (cut rest (cond inside (Some k) None))
further x k rest true = λ i. Some (take (one i) (x ∷ rest), drop (two i) (x ∷ rest))
  where
    one : 1 + k ≡ suc k
    one = omega arith

    two : 1 + k + 1 ≡ suc (k + 1)
    two = omega arith
further x k rest false = refl

further_inside : (k n : ℕ) → nat_lt (1 + k) (suc n) ≡ nat_lt k n
further_inside k n = grind (arith, nat_tests)

parted_later : (x b : ℕ) (rest : List ℕ) → (x == b) ≡ false → parted b (x ∷ rest) ≡ with_first x (parted b rest)
parted_later x b rest e =
    let n = position_or_len (λ c. c == b) rest in
    ap (λ t. cut (x ∷ rest) (cond (nat_lt (cond (not t) (1 + n) 0) (suc (length rest))) (Some (cond (not t) (1 + n) 0)) None)) e
    ∙ ap (λ t. cut (x ∷ rest) (cond t (Some (1 + n)) None)) (further_inside n (length rest))
    ∙ further x n rest (nat_lt n (length rest))

-- digits, at a byte that is none
digit_other : (b x : ℕ) → is_ascii_digit b ≡ false → is_ascii_digit x ≡ true → (x == b) ≡ false
digit_other b x none is = by (x == b) refl
  where
    by : (t : Bool) → (x == b) ≡ t → t ≡ false
    by true e = absurd (let same : is_ascii_digit x ≡ is_ascii_digit b = ap is_ascii_digit ((Decides-eqb x b).0 e) in true≢false (sym is ∙ same ∙ none))
    by false e = refl

and_parts : (a b : Bool) → (a && b) ≡ true → (a ≡ true) × (b ≡ true)
and_parts true b e = (refl, e)
and_parts false b e = absurd (true≢false (sym e))

some_is : {A : Type 0} (x y : A) → ◌≡◌ {A = Option A} (Some x) (Some y) → x ≡ y
some_is x y e = cc

digits_of : (x : ℕ) (xs : List ℕ) → list_all is_ascii_digit (x ∷ xs) ≡ true → (is_ascii_digit x ≡ true) × (list_all is_ascii_digit xs ≡ true)
digits_of x xs e = and_parts (is_ascii_digit x) (list_all is_ascii_digit xs) e

module _ (b : ℕ) (none : is_ascii_digit b ≡ false) where
  parted_none : (xs : List ℕ) → list_all is_ascii_digit xs ≡ true → parted b xs ≡ None
  parted_none [] e = refl
  parted_none (x ∷ xs) e = let ds = digits_of x xs e in parted_later x b xs (digit_other b x none ds.0) ∙ ap (with_first x) (parted_none xs ds.1)

  parted_behind : (xs : List ℕ) (c : ℕ) (ys : List ℕ) → list_all is_ascii_digit xs ≡ true → (c == b) ≡ true → parted b (xs ++ c ∷ ys) ≡ Some (xs, ys)
  parted_behind [] c ys e h = parted_here c b ys h
  parted_behind (x ∷ xs) c ys e h = let ds = digits_of x xs e in parted_later x b (xs ++ c ∷ ys) (digit_other b x none ds.0) ∙ ap (with_first x) (parted_behind xs c ys ds.1 h)

  -- another byte among digits
  parted_past : (xs : List ℕ) (c : ℕ) (ys : List ℕ) → list_all is_ascii_digit xs ≡ true → (c == b) ≡ false → list_all is_ascii_digit ys ≡ true → parted b (xs ++ c ∷ ys) ≡ None
  parted_past [] c ys e h k = parted_later c b ys h ∙ ap (with_first c) (parted_none ys k)
  parted_past (x ∷ xs) c ys e h k = let ds = digits_of x xs e in parted_later x b (xs ++ c ∷ ys) (digit_other b x none ds.0) ∙ ap (with_first x) (parted_past xs c ys ds.1 h k)

parted_read : (b : ℕ) (text : List ℕ) (parts : List ℕ × List ℕ) → parted b text ≡ Some parts → text ≡ parts.0 ++ b ∷ parts.1
parted_read b [] parts e = absurd cc
parted_read b (x ∷ rest) parts e = by (x == b) refl (parted b rest) refl (λ p h. parted_read b rest p h)
  where
    by : (t : Bool) → (x == b) ≡ t → (o : Option (List ℕ × List ℕ)) → parted b rest ≡ o → ((p : List ℕ × List ℕ) → parted b rest ≡ Some p → rest ≡ p.0 ++ b ∷ p.1) → x ∷ rest ≡ parts.0 ++ b ∷ parts.1
    by true h o is rec =
        let same : ◌≡◌ {A = List ℕ × List ℕ} ([], rest) parts = some_is ([], rest) parts (sym (parted_here x b rest h) ∙ e) in
        ap (λ c. c ∷ rest) ((Decides-eqb x b).0 h) ∙ ap (λ p. p.0 ++ b ∷ p.1) same
    by false h None is rec = absurd (let gone : None ≡ Some parts = sym (parted_later x b rest h ∙ ap (with_first x) is) ∙ e in cc)
    by false h (Some p) is rec =
        let same : ◌≡◌ {A = List ℕ × List ℕ} (x ∷ p.0, p.1) parts = some_is (x ∷ p.0, p.1) parts (sym (parted_later x b rest h ∙ ap (with_first x) is) ∙ e) in
        ap (λ l. x ∷ l) (rec p is) ∙ ap (λ p. p.0 ++ b ∷ p.1) same

-- ---- numerals
numeral_digits : (text : List ℕ) → is_numeral text ≡ true → list_all is_ascii_digit text ≡ true
numeral_digits text e = (and_parts (nat_lt 0 (length text) && nat_le (length text) 18) (list_all is_ascii_digit text) e).1

numeral_read : (text : List ℕ) (n : ℕ) → numeral text ≡ Some n → IsNumeral n text
numeral_read text n e = by (is_numeral text) refl e
  where
    by : (b : Bool) → is_numeral text ≡ b → cond b (Some (decimal_value text)) None ≡ Some n → IsNumeral n text
    by true is e = record { digits = is; value_is = some_is (decimal_value text) n e }
    by false is e = absurd cc

numeral_ok : (text : List ℕ) (n : ℕ) → IsNumeral n text → numeral text ≡ Some n
numeral_ok text n is = ap (λ b. cond b (Some (decimal_value text)) None) is.digits ∙ ap Some is.value_is

-- ---- values that may be missing
both_some : {A B : Type 0} (o : Option A) (f : A → Option B) (y : B) → option_and_then f o ≡ Some y → (x : A) × (o ≡ Some x) × (f x ≡ Some y)
both_some None f y e = absurd cc
both_some (Some x) f y e = (x, refl, e)

mapped_some : {A B : Type 0} (o : Option A) (f : A → B) (y : B) → option_map f o ≡ Some y → (x : A) × (o ≡ Some x) × (y ≡ f x)
mapped_some None f y e = absurd cc
mapped_some (Some x) f y e = (x, refl, sym (some_is (f x) y e))

-- ---- without a sign
ratio_read : (d e : ℕ) (x : ℚ) → ratio d e ≡ Some x → (e ≢ 0) × (x ≡ frac (pos d) e)
ratio_read d e x is = by (e == 0) refl is
  where
    by : (b : Bool) → (e == 0) ≡ b → cond b None (Some (frac (pos d) e)) ≡ Some x → (e ≢ 0) × (x ≡ frac (pos d) e)
    by true none is = absurd cc
    by false some is = (λ z. true≢false (sym ((Decides-eqb e 0).1 z) ∙ some), sym (some_is (frac (pos d) e) x is))

ratio_ok : (d e : ℕ) → e ≢ 0 → ratio d e ≡ Some (frac (pos d) e)
ratio_ok d e h = ap (λ b. cond b None (Some (frac (pos d) e))) (by (e == 0) refl)
  where
    by : (b : Bool) → (e == 0) ≡ b → b ≡ false
    by true is = absurd (h ((Decides-eqb e 0).0 is))
    by false is = refl

spelled : {x y : ℚ} {text other : List ℕ} → x ≡ y → text ≡ other → IsUnsigned y other → IsUnsigned x text
spelled {x = x} {y = y} {text = text} e f h = subst (λ z. IsUnsigned z text) (sym e) (subst (λ t. IsUnsigned y t) (sym f) h)

unsigned_read : (text : List ℕ) (x : ℚ) → unsigned_number text ≡ Some x → IsUnsigned x text
unsigned_read text x e = at_stroke (parted 47 text) refl e
  where
    at_point : (o : Option (List ℕ × List ℕ)) → parted 46 text ≡ o → unsigned_at_point text o ≡ Some x → IsUnsigned x text
    at_point None is e =
        let n = mapped_some (numeral text) (λ n. int (pos n)) x e in
        subst (λ y. IsUnsigned y text) (sym n.2) (whole n.0 text (numeral_read text n.0 n.1))
    at_point (Some p) is e =
        let d = both_some (numeral p.0) (λ i. option_map (λ f. frac (pos (i * 10 ^ length p.1 + f)) (10 ^ length p.1)) (numeral p.1)) x e in
        let f = mapped_some (numeral p.1) (λ f. frac (pos (d.0 * 10 ^ length p.1 + f)) (10 ^ length p.1)) x d.2 in
        spelled f.2 (parted_read 46 text p is) (decimal d.0 f.0 p.0 p.1 (numeral_read p.0 d.0 d.1) (numeral_read p.1 f.0 f.1))

    at_stroke : (o : Option (List ℕ × List ℕ)) → parted 47 text ≡ o → unsigned_at_stroke text o ≡ Some x → IsUnsigned x text
    at_stroke None is e = at_point (parted 46 text) refl e
    at_stroke (Some p) is e =
        let d = both_some (numeral p.0) (λ n. option_and_then (ratio n) (numeral p.1)) x e in
        let u = both_some (numeral p.1) (ratio d.0) x d.2 in
        let q = ratio_read d.0 u.0 x u.2 in
        spelled q.1 (parted_read 47 text p is) (ratio_text d.0 u.0 p.0 p.1 (numeral_read p.0 d.0 d.1) (numeral_read p.1 u.0 u.1) q.0)

unsigned_ok : (x : ℚ) (text : List ℕ) → IsUnsigned x text → unsigned_number text ≡ Some x
unsigned_ok _ _ (whole d text n) =
    let ds = numeral_digits text n.digits in
    ap (unsigned_at_stroke text) (parted_none 47 refl text ds) ∙ ap (unsigned_at_point text) (parted_none 46 refl text ds) ∙ ap (option_map (λ n. int (pos n))) (numeral_ok text d n)
unsigned_ok _ _ (ratio_text d e over under n m some) =
    ap (unsigned_at_stroke (over ++ 47 ∷ under)) (parted_behind 47 refl over 47 under (numeral_digits over n.digits) refl)
    ∙ ap (option_and_then (λ n. option_and_then (ratio n) (numeral under))) (numeral_ok over d n) ∙ ap (option_and_then (ratio d)) (numeral_ok under e m) ∙ ratio_ok d e some
unsigned_ok _ _ (decimal d e before behind n m) =
    let one = numeral_digits before n.digits in
    let two = numeral_digits behind m.digits in
    ap (unsigned_at_stroke (before ++ 46 ∷ behind)) (parted_past 47 refl before 46 behind one refl two)
    ∙ ap (unsigned_at_point (before ++ 46 ∷ behind)) (parted_behind 46 refl before 46 behind one refl)
    ∙ ap (option_and_then (λ i. option_map (λ f. frac (pos (i * 10 ^ length behind + f)) (10 ^ length behind)) (numeral behind))) (numeral_ok before d n)
    ∙ ap (option_map (λ f. frac (pos (d * 10 ^ length behind + f)) (10 ^ length behind))) (numeral_ok behind e m)

-- ---- with one
pub spelled_read : (text : List ℕ) (x : ℚ) → text_number text ≡ Some x → IsSpelled x text
spelled_read [] x e = absurd cc
spelled_read (c ∷ text) x e = by (c == 45) refl e
  where
    by : (b : Bool) → (c == 45) ≡ b → cond b (option_map neg_ℚ (unsigned_number text)) (unsigned_number (c ∷ text)) ≡ Some x → IsSpelled x (c ∷ text)
    by true is e =
        let n = mapped_some (unsigned_number text) neg_ℚ x e in
        subst (λ y. IsSpelled y (c ∷ text)) (sym n.2) (subst (λ b. IsSpelled (neg_ℚ n.0) (b ∷ text)) (sym ((Decides-eqb c 45).0 is)) (minus n.0 text (unsigned_read text n.0 n.1)))
    by false is e = plain x (c ∷ text) (unsigned_read (c ∷ text) x e)

-- a text of digits and what is behind them begins with a digit
begun : (y : ℚ) (text : List ℕ) (rest : List ℕ) → is_numeral text ≡ true → unsigned_number (text ++ rest) ≡ Some y → text_number (text ++ rest) ≡ Some y
begun y [] rest e h = absurd cc
begun y (c ∷ text) rest e h = ap (λ b. cond b (option_map neg_ℚ (unsigned_number (text ++ rest))) (unsigned_number (c ∷ text ++ rest))) (digit_other 45 c refl (digits_of c text (numeral_digits (c ∷ text) e)).0) ∙ h

plain_ok : (x : ℚ) (text : List ℕ) → IsUnsigned x text → text_number text ≡ Some x
plain_ok _ _ (whole d text n) = subst (λ t. text_number t ≡ Some (int (pos d))) (append-nil text) (begun (int (pos d)) text [] n.digits (subst (λ t. unsigned_number t ≡ Some (int (pos d))) (sym (append-nil text)) (unsigned_ok _ text (whole d text n))))
plain_ok _ _ (ratio_text d e over under n m some) = begun (frac (pos d) e) over (codes "/" ++ under) n.digits (unsigned_ok _ _ (ratio_text d e over under n m some))
plain_ok _ _ (decimal d e before behind n m) = begun _ before (codes "." ++ behind) n.digits (unsigned_ok _ _ (decimal d e before behind n m))

pub spelled_ok : (x : ℚ) (text : List ℕ) → IsSpelled x text → text_number text ≡ Some x
spelled_ok _ _ (plain x text is) = plain_ok x text is
spelled_ok _ _ (minus x text is) = ap (option_map neg_ℚ) (unsigned_ok x text is)
