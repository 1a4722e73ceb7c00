-- A line of numbers tells them, since each is spelled by a word of its own.
use Rattle.std.proofs.Common.{◌≡◌, ℕ, ◌^◌, ◌<◌, false, ◌==◌, ℤ, unsigned_abs, List, [], ◌∷◌, map, refl, arith}
use Rattle.std.specs.Prelude.{All}
use Rattle.std.specs.Fmt.{signed_decimal}
use Rattle.std.proofs.lemmas.List.{append_cancel_left}
use Rattle.std.proofs.lemmas.List.Elements.{All-nil, All-cons, All-head, All-tail}
use Rattle.mpc_exact.specs.Rational.{ℚ}
use Rattle.mpc_frac.specs.Fits.{FitsFrac}
use Rattle.mpc_frac.specs.Text.{text_of as fraction_text}
use Rattle.mpc_words.specs.Words.{IsWithout, IsLineOf, IsWord, line, behind_blanks}
use Rattle.mpc_grammar.specs.LineTheorems.{OneFractions, OneIntegers}

abbrev pub OneListOfWords : Type 0
OneListOfWords = (text first other : List ℕ) (words others : List (List ℕ)) → IsLineOf text first words → IsLineOf text other others → words ≡ others

module _ {X : Type 0} (spell : X → List ℕ) (Fits : X → Type 0) (word : (x : X) → Fits x → IsWord (spell x)) (one : (x y : X) → Fits x → Fits y → spell x ≡ spell y → x ≡ y) where
  whole : (xs : List X) → All Fits xs → All (IsWithout 32) (map spell xs)
  whole [] h = All-nil (IsWithout 32)
  whole (x ∷ xs) h = All-cons (IsWithout 32) (spell x) (map spell xs) (word x (All-head Fits x xs h)).no_blank (whole xs (All-tail Fits x xs h))

  same_things : (xs ys : List X) → All Fits xs → All Fits ys → map spell xs ≡ map spell ys → xs ≡ ys
  same_things [] [] h k e = refl
  same_things [] (y ∷ ys) h k e = absurd (cc)
  same_things (x ∷ xs) [] h k e = absurd (cc)
  same_things (x ∷ xs) (y ∷ ys) h k e =
      let a : spell x ≡ spell y = cc in
      let b : map spell xs ≡ map spell ys = cc in
      let f : x ≡ y = one x y (All-head Fits x xs h) (All-head Fits y ys k) a in
      let g : xs ≡ ys = same_things xs ys (All-tail Fits x xs h) (All-tail Fits y ys k) b in
      λ i. f i ∷ g i

  pub same_list : OneListOfWords → (name : List ℕ) (xs ys : List X) → All Fits xs → All Fits ys → line name (map spell xs) ≡ line name (map spell ys) → xs ≡ ys
  same_list one_list name xs ys h k e =
      let text : List ℕ = behind_blanks (map spell xs) in
      let none : IsWithout 32 [] = All-nil (λ c. (c == 32) ≡ false) in
      same_things xs ys h k
      (one_list text [] [] (map spell xs) (map spell ys) (record { joined = refl; first_whole = none; words_whole = whole xs h })
      (record { joined = append_cancel_left name text (behind_blanks (map spell ys)) e; first_whole = none; words_whole = whole ys k }))

pub one_fractions : OneListOfWords → ((x : ℚ) → FitsFrac x → IsWord (fraction_text x)) → ((x y : ℚ) → FitsFrac x → FitsFrac y → fraction_text x ≡ fraction_text y → x ≡ y) → OneFractions
one_fractions one_list word one = same_list fraction_text FitsFrac word one one_list

IsSmall : ℤ → Type 0
IsSmall z = unsigned_abs z < 2 ^ 127

pub one_integers : OneListOfWords → ((z : ℤ) → unsigned_abs z < 10 ^ 64 → IsWord (signed_decimal z)) → ((y z : ℤ) → unsigned_abs y < 10 ^ 64 → unsigned_abs z < 10 ^ 64 → signed_decimal y ≡ signed_decimal z → y ≡ z) → OneIntegers
unfolding IsSmall
one_integers one_list word one = same_list signed_decimal IsSmall (λ z h. word z (omega (arith, h))) (λ y z h k. one y z (omega (arith, h)) (omega (arith, k))) one_list
