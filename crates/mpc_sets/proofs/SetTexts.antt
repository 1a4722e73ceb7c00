-- The text of a set, member by member.
use Rattle.std.proofs.Common.{◌≡◌, ℕ, ◌+◌, ◌/◌, ◌%◌, ◌<◌, ◌≤◌, List, [], ◌∷◌, ◌++◌, length, get_or, take, map, refl, sym, ap, ◌∙◌, arith, append_assoc}
use Rattle.std.proofs.lemmas.Fmt.{decimal_digit, decimal_step}
use Rattle.std.proofs.lemmas.List.{take_more, take_all, map-append, length-map, length-take}
use Rattle.std.specs.Fmt.{decimal}
use Rattle.std.specs.List.{join_with_byte}
use Rattle.mpc_sets.specs.SetText.{set_text}

pub decimal_of_two : (n : ℕ) → 10 ≤ n → n ≤ 60 → decimal n ≡ (48 + n / 10) ∷ (48 + n % 10) ∷ []
decimal_of_two n p q = decimal_step n p (omega arith) ∙ ap (λ ds. ds ++ (48 + n % 10) ∷ []) (decimal_digit (n / 10) (omega arith))

pub decimal_of_one : (n : ℕ) → n < 10 → decimal n ≡ (48 + n % 10) ∷ []
decimal_of_one n p = let same : n ≡ n % 10 = omega arith in decimal_digit n p ∙ ap (λ d. (48 + d) ∷ []) same

joined_more : (xs : List (List ℕ)) (x : List ℕ) → 0 < length xs → join_with_byte 44 (xs ++ x ∷ []) ≡ join_with_byte 44 xs ++ 44 ∷ x
joined_more [] x p = absurd (omega arith)
joined_more (a ∷ []) x p = refl
joined_more (a ∷ b ∷ xs) x p = ap (λ u. a ++ 44 ∷ u) (joined_more (b ∷ xs) x (omega arith)) ∙ sym (append_assoc a (44 ∷ join_with_byte 44 (b ∷ xs)) (44 ∷ x))

-- the first members of a set as they are written
pub first_members : List ℕ → ℕ → List ℕ
first_members s k = join_with_byte 44 (map decimal (take k s))

-- the text from the brace to the first k members
pub record HoldsMembers (s : List ℕ) (k : ℕ) (old text : List ℕ) : Type 0 where
  pub is : text ≡ old ++ 123 ∷ first_members s k

pub members_none : (s old text : List ℕ) → text ≡ old ++ 123 ∷ [] → HoldsMembers s 0 old text
unfolding first_members
members_none s old text e = record { is = e }

taken_more : (s : List ℕ) (k : ℕ) → k < length s → map decimal (take (k + 1) s) ≡ map decimal (take k s) ++ decimal (get_or s k 0) ∷ []
taken_more s k p = ap (map decimal) (take_more s k 0 p) ∙ map-append decimal (take k s) (get_or s k 0 ∷ [])

pub members_first : (s old before text : List ℕ) (j row : ℕ) → HoldsMembers s 0 old before → text ≡ before ++ decimal row → row ≡ get_or s 0 0 → 0 < length s → j ≡ 1 → HoldsMembers s j old text
unfolding first_members
members_first s old before text j row h e g p f = record { is = e ∙ ap (λ u. u ++ decimal row) h.is ∙ append_assoc old (123 ∷ []) (decimal row) ∙ ap (λ u. old ++ 123 ∷ u) (ap decimal g ∙ sym (ap (join_with_byte 44) (taken_more s 0 p))) ∙ ap (λ i. old ++ 123 ∷ first_members s i) (sym f) }

pub members_later : (s old before middle text : List ℕ) (k j row : ℕ) → HoldsMembers s k old before → middle ≡ before ++ 44 ∷ [] → text ≡ middle ++ decimal row → row ≡ get_or s k 0 → 0 < k → k < length s → j ≡ k + 1 → HoldsMembers s j old text
unfolding first_members
members_later s old before middle text k j row h m e g some p f = record {
  is = e ∙ ap (λ u. u ++ decimal row) (m ∙ ap (λ u. u ++ 44 ∷ []) h.is) ∙ regroup old (first_members s k) (decimal row)
      ∙ ap (λ u. old ++ 123 ∷ u) (ap (λ i. first_members s k ++ 44 ∷ decimal i) g ∙ sym (ap (join_with_byte 44) (taken_more s k p) ∙ joined_more (map decimal (take k s)) (decimal (get_or s k 0)) long))
      ∙ ap (λ i. old ++ 123 ∷ first_members s i) (sym f);
}
  where
    regroup : (a b c : List ℕ) → ((a ++ 123 ∷ b) ++ 44 ∷ []) ++ c ≡ a ++ 123 ∷ (b ++ 44 ∷ c)
    regroup a b c = append_assoc (a ++ 123 ∷ b) (44 ∷ []) c ∙ append_assoc a (123 ∷ b) (44 ∷ c)

    long : 0 < length (map decimal (take k s))
    long = simp (length-map, length-take) (omega arith)

pub members_all : (s old before text : List ℕ) (k : ℕ) → HoldsMembers s k old before → length s ≤ k → text ≡ before ++ 125 ∷ [] → text ≡ old ++ set_text s
unfolding first_members
members_all s old before text k h p e = e ∙ ap (λ u. u ++ 125 ∷ []) (h.is ∙ ap (λ u. old ++ 123 ∷ join_with_byte 44 (map decimal u)) (take_all k s p)) ∙ append_assoc old (123 ∷ join_with_byte 44 (map decimal s)) (125 ∷ [])
