-- Lines whose words behind the first spell things of one kind, each in one spelling of its own.
use Rattle.std.proofs.Common.{◌≡◌, ◌≢◌, ℕ, ◌+◌, ◌<◌, false, eqb, List, [], ◌∷◌, ◌++◌, length, map, Option, Some, None, MatchOption, IfSome, Bor, ℤ, unsigned_abs, ◌^◌, decimal, to_z, of_z, refl, sym, ap, ◌∙◌, subst, arith, append_assoc, append-nil}
use Rattle.std.proofs.lemmas.Grind.{flat_map-append}
use Rattle.std.proofs.lemmas.List.{map-append, append_cancel_left}
use Rattle.std.specs.List.{All}
use Rattle.std.proofs.lemmas.List.Elements.{All-nil, All-cons, All-head, All-tail, All-append, All-push, All-map, All-weaker}
use Rattle.std.specs.Fmt.{signed_decimal}
use Rattle.std.specs.Int.{w128}
use Rattle.std.proofs.lemmas.Int.{fits_signed_from_abs, to_z-of_z}
use Rattle.mpc_words.specs.Numerals.{numeral}
use Rattle.mpc_words.specs.Spelled.{SpellsNatural, PrintsNatural}
use Rattle.mpc_words.specs.declared.naturals.Natural.{Natural}
use Rattle.mpc_words.specs.declared.naturals.Natural.TheVariants.{Small, Large, Misspelled}
use Rattle.mpc_grammar.specs.Spelling.{IsOneNumber, IsOneCount}
use Rattle.mpc_words.specs.Words.{IsWithout, IsCutAt, IsLineOf, IsWord, line, behind_blanks, words_of}

-- ---- what holds of every line
abbrev pub PartsLaw : Type 0
PartsLaw = (text first : List ℕ) (words : List (List ℕ)) → IsLineOf text first words → words_of text ≡ first ∷ words

abbrev pub SomeWordsLaw : Type 0
SomeWordsLaw = (text : List ℕ) → (first : List ℕ) × ((words : List (List ℕ)) × IsLineOf text first words)

-- one word more at the end
pub line_push : (first : List ℕ) (words : List (List ℕ)) (word : List ℕ) → line first (words ++ word ∷ []) ≡ line first words ++ 32 ∷ word
line_push first words word =
    ap (λ t. first ++ t) (flat_map-append (λ w. 32 ∷ w) words (word ∷ []) ∙ ap (λ t. behind_blanks words ++ t) (append-nil (32 ∷ word)))
    ∙ sym (append_assoc first (behind_blanks words) (32 ∷ word))

behind_nothing : (words : List (List ℕ)) → All (IsWithout 32) words → (text : List ℕ) → text ≡ behind_blanks words → IsLineOf text [] words
behind_nothing words whole text e = record { joined = e; first_whole = All-nil (λ c. eqb c 32 ≡ false); words_whole = whole }

-- words without blanks are told apart by the line
module _ (parts : PartsLaw) where
  same_parts : (text : List ℕ) (us vs : List (List ℕ)) → IsLineOf text [] us → IsLineOf text [] vs → us ≡ vs
  same_parts text us vs h k = let e = sym (parts text [] us h) ∙ parts text [] vs k in cc

  pub same_words : (first : List ℕ) (us vs : List (List ℕ)) → All (IsWithout 32) us → All (IsWithout 32) vs → line first us ≡ line first vs → us ≡ vs
  same_words first us vs h k e =
      same_parts (behind_blanks us) us vs (behind_nothing us h (behind_blanks us) refl) (behind_nothing vs k (behind_blanks us) (append_cancel_left first (behind_blanks us) (behind_blanks vs) e))

-- ---- what stands behind the name of a line
module _ (text name rest : List ℕ) (e : text ≡ name ++ rest) where
  pub name_alone : length rest ≡ 0 → text ≡ name
  name_alone h = e ∙ nothing rest h
    where
      nothing : (xs : List ℕ) → length xs ≡ 0 → name ++ xs ≡ name
      nothing [] none = append-nil name
      nothing (x ∷ xs) none = absurd (omega arith)

  begins_with : (c : ℕ) (cs : List ℕ) (words : List (List ℕ)) → c ∷ cs ≡ behind_blanks words → c ≡ 32
  begins_with c cs [] h = cc
  begins_with c cs (word ∷ words) h = cc

  pub no_blank : (c : ℕ) (cs : List ℕ) → rest ≡ c ∷ cs → c ≢ 32 → (words : List (List ℕ)) → text ≢ line name words
  no_blank c cs at other words h =
      other (begins_with c cs words (sym at ∙ append_cancel_left name rest (behind_blanks words) (sym e ∙ h)))

-- ---- lines of things that are spelled so
-- The things that were read, and what is left: nothing, or what stands behind a blank.
pub record IsReadTo {X : Type 0} (spell : X → List ℕ) (Fits : X → Type 0) (name text : List ℕ) (rest : Option (Bor (List ℕ))) (read : List X) : Type 0 where
  pub text_is : MatchOption rest (text ≡ line name (map spell read)) (λ r. text ≡ line name (map spell read) ++ 32 ∷ r.now)
  pub fits : All Fits read

-- how many bytes are left
abbrev pub left : Option (Bor (List ℕ)) → ℕ
left None = 0
left (Some rest) = length rest.now + 1

pub less_left : (rest behind : Option (Bor (List ℕ))) (words : Bor (List ℕ)) → rest ≡ Some words → IfSome behind (λ r. length r.now < length words.now) → left behind < left rest
less_left rest behind words e h = subst (λ r. left behind < left r) (sym e) (less behind h)
  where
    less : (b : Option (Bor (List ℕ))) → IfSome b (λ r. length r.now < length words.now) → left b < length words.now + 1
    less None k = omega arith
    less (Some r) k = omega arith

pub has_first : (text word : List ℕ) (behind : Option (Bor (List ℕ))) → MatchOption behind (words_of text ≡ word ∷ []) (λ r. words_of text ≡ word ∷ words_of r.now) → (others : List (List ℕ)) × (words_of text ≡ word ∷ others)
has_first text word None h = ([], h)
has_first text word (Some r) h = (words_of r.now, h)

module _ {X : Type 0} (spell : X → List ℕ) (Fits : X → Type 0) where
  -- ---- the words are read one after another
  pub start_read : (name text : List ℕ) (rest : Option (Bor (List ℕ))) → MatchOption rest (text ≡ name) (λ r. text ≡ name ++ 32 ∷ r.now) → IsReadTo spell Fits name text rest []
  start_read name text None h = record { text_is = h ∙ sym (append-nil name); fits = All-nil Fits }
  start_read name text (Some r) h = record { text_is = h ∙ ap (λ t. t ++ 32 ∷ r.now) (sym (append-nil name)); fits = All-nil Fits }

  one_more_is : (name : List ℕ) (read : List X) (x : X) → line name (map spell (read ++ x ∷ [])) ≡ line name (map spell read) ++ 32 ∷ spell x
  one_more_is name read x = ap (line name) (map-append spell read (x ∷ [])) ∙ line_push name (map spell read) (spell x)

  text_behind : (name text words word : List ℕ) (read : List X) (x : X) (behind : Option (Bor (List ℕ))) → word ≡ spell x → text ≡ line name (map spell read) ++ 32 ∷ words
      → MatchOption behind (IsWithout 32 words × (words ≡ word)) (λ r. IsCutAt 32 words word r.now)
      → MatchOption behind (text ≡ line name (map spell (read ++ x ∷ []))) (λ r. text ≡ line name (map spell (read ++ x ∷ [])) ++ 32 ∷ r.now)
  text_behind name text words word read x None s e h = e ∙ ap (λ w. line name (map spell read) ++ 32 ∷ w) (h.1 ∙ s) ∙ sym (one_more_is name read x)
  text_behind name text words word read x (Some r) s e h =
      e ∙ ap (λ w. line name (map spell read) ++ 32 ∷ w) (h.joined ∙ ap (λ w. w ++ 32 ∷ r.now) s) ∙ sym (append_assoc (line name (map spell read)) (32 ∷ spell x) (32 ∷ r.now))
      ∙ ap (λ t. t ++ 32 ∷ r.now) (sym (one_more_is name read x))

  module _ (name text : List ℕ) (rest : Option (Bor (List ℕ))) (read : List X) (at : IsReadTo spell Fits name text rest read) where
    pub all_words : rest ≡ None → text ≡ line name (map spell read)
    all_words e = subst (λ r. MatchOption r (text ≡ line name (map spell read)) (λ r. text ≡ line name (map spell read) ++ 32 ∷ r.now)) e at.text_is

    pub words_left : (words : Bor (List ℕ)) → rest ≡ Some words → text ≡ line name (map spell read) ++ 32 ∷ words.now
    words_left words e = subst (λ r. MatchOption r (text ≡ line name (map spell read)) (λ r. text ≡ line name (map spell read) ++ 32 ∷ r.now)) e at.text_is

    pub more_words : (words : Bor (List ℕ)) (word : List ℕ) (behind : Option (Bor (List ℕ))) (x : X) (more : List X) → rest ≡ Some words → MatchOption behind (IsWithout 32 words.now × (words.now ≡ word)) (λ r. IsCutAt 32 words.now word r.now)
        → word ≡ spell x → Fits x → more ≡ read ++ x ∷ [] → IsReadTo spell Fits name text behind more
    more_words words word behind x more e cut s fit m =
        subst (IsReadTo spell Fits name text behind) (sym m) (record { text_is = text_behind name text words.now word read x behind s (words_left words e) cut; fits = All-push Fits read x at.fits fit })

  -- ---- the words tell the things
  module _ (word_of : (x : X) → Fits x → IsWord (spell x)) where
    spelled_whole : (xs : List X) → All Fits xs → All (IsWithout 32) (map spell xs)
    spelled_whole xs h = All-map (IsWithout 32) spell xs (All-weaker Fits (λ x. IsWithout 32 (spell x)) (λ x f. (word_of x f).no_blank) xs h)

    -- a word among those of things is that of one of them
    among : (us : List (List ℕ)) (word : List ℕ) (more : List (List ℕ)) (xs : List X) → All Fits xs → us ++ word ∷ more ≡ map spell xs → (x : X) × ((word ≡ spell x) × Fits x)
    among [] word more [] h e = absurd (cc)
    among [] word more (x ∷ xs) h e = let same : word ≡ spell x = cc in (x, (same, All-head Fits x xs h))
    among (u ∷ us) word more [] h e = absurd (cc)
    among (u ∷ us) word more (x ∷ xs) h e = let same : us ++ word ∷ more ≡ map spell xs = cc in among us word more xs (All-tail Fits x xs h) same

    module _ (parts : PartsLaw) where
      -- a line with a word that spells nothing is none of these lines
      pub no_such_line : SomeWordsLaw → (name text words word : List ℕ) (others : List (List ℕ)) (read : List X) → text ≡ line name (map spell read) ++ 32 ∷ words → All Fits read → words_of words ≡ word ∷ others → ((x : X) → Fits x → word ≢ spell x)
          → (xs : List X) → All Fits xs → text ≢ line name (map spell xs)
      no_such_line some_words name text words word others read at fits first none xs fit e =
          let parts_of : IsLineOf words (some_words words).0 (some_words words).1.0 = (some_words words).1.1 in
          let head : (some_words words).0 ∷ (some_words words).1.0 ≡ word ∷ others = sym (parts words _ _ parts_of) ∙ first in
          let tail : behind_blanks (map spell read) ++ 32 ∷ words ≡ behind_blanks (map spell xs) =
          append_cancel_left name (behind_blanks (map spell read) ++ 32 ∷ words) (behind_blanks (map spell xs)) (sym (append_assoc name (behind_blanks (map spell read)) (32 ∷ words)) ∙ sym at ∙ e) in
          let joined : behind_blanks (map spell read) ++ 32 ∷ words ≡ behind_blanks (map spell read ++ (some_words words).0 ∷ (some_words words).1.0) =
          ap (λ t. behind_blanks (map spell read) ++ 32 ∷ t) parts_of.joined ∙ sym (flat_map-append (λ w. 32 ∷ w) (map spell read) ((some_words words).0 ∷ (some_words words).1.0)) in
          let whole : All (IsWithout 32) (map spell read ++ (some_words words).0 ∷ (some_words words).1.0) =
          All-append (IsWithout 32) (map spell read) ((some_words words).0 ∷ (some_words words).1.0) (spelled_whole read fits) (All-cons (IsWithout 32) (some_words words).0 (some_words words).1.0 parts_of.first_whole parts_of.words_whole) in
          let same : map spell read ++ (some_words words).0 ∷ (some_words words).1.0 ≡ map spell xs =
          same_parts parts (behind_blanks (map spell read) ++ 32 ∷ words) (map spell read ++ (some_words words).0 ∷ (some_words words).1.0) (map spell xs)
          (behind_nothing _ whole _ joined) (behind_nothing (map spell xs) (spelled_whole xs fit) _ tail) in
          let found = among (map spell read) (some_words words).0 (some_words words).1.0 xs fit same in
          let here : word ≡ (some_words words).0 = cc in
          none found.0 found.1.1 (here ∙ found.1.0)

      -- what a reader that meets such a word knows
      pub refused : SomeWordsLaw → (name text : List ℕ) (rest : Option (Bor (List ℕ))) (read : List X) → IsReadTo spell Fits name text rest read → (words : Bor (List ℕ)) (word : List ℕ) (behind : Option (Bor (List ℕ))) → rest ≡ Some words
          → MatchOption behind (words_of words.now ≡ word ∷ []) (λ r. words_of words.now ≡ word ∷ words_of r.now) → ((x : X) → Fits x → word ≢ spell x) → (xs : List X) → All Fits xs → text ≢ line name (map spell xs)
      refused some_words name text rest read at words word behind e first none =
          let head = has_first words.now word behind first in
          no_such_line some_words name text words.now word head.0 read (words_left name text rest read at words e) at.fits head.1 none

      module _ (one : (x y : X) → Fits x → Fits y → spell x ≡ spell y → x ≡ y) where
        same_things : (xs ys : List X) → All Fits xs → All Fits ys → map spell xs ≡ map spell ys → xs ≡ ys
        same_things [] [] h k e = refl
        same_things [] (y ∷ ys) h k e = cc
        same_things (x ∷ xs) [] h k e = cc
        same_things (x ∷ xs) (y ∷ ys) h k e =
            let first : spell x ≡ spell y = cc in
            let others : map spell xs ≡ map spell ys = cc in
            let same = one x y (All-head Fits x xs h) (All-head Fits y ys k) first in
            let rest = same_things xs ys (All-tail Fits x xs h) (All-tail Fits y ys k) others in
            cc

        -- a line is that of one list of things
        pub one_list_of : (name : List ℕ) (xs ys : List X) → All Fits xs → All Fits ys → line name (map spell xs) ≡ line name (map spell ys) → xs ≡ ys
        one_list_of name xs ys h k e = same_things xs ys h k (same_words parts name (map spell xs) (map spell ys) (spelled_whole xs h) (spelled_whole ys k) e)

-- ---- whole numbers
abbrev pub IsSmall : ℤ → Type 0
IsSmall z = unsigned_abs z < 2 ^ 127

-- it fits 128 bits
pub small_same : (z : ℤ) (read more : List ℤ) → IsSmall z → more ≡ read ++ to_z w128 (of_z w128 z) ∷ [] → more ≡ read ++ z ∷ []
small_same z read more small e = e ∙ ap (λ y. read ++ y ∷ []) (to_z-of_z w128 z (fits_signed_from_abs w128 z small))

pub small_word : ((z : ℤ) → unsigned_abs z < 10 ^ 64 → IsWord (signed_decimal z)) → (z : ℤ) → IsSmall z → IsWord (signed_decimal z)
small_word word_of z h = word_of z (omega arith)

-- ---- one number
-- behind the name and a blank stands a word, or the line is the name alone
pub behind_name : (name text word other : List ℕ) → text ≡ name ++ 32 ∷ word → text ≡ line name (other ∷ []) → word ≡ other
behind_name name text word other e h =
    let same : 32 ∷ word ≡ 32 ∷ (other ++ []) = append_cancel_left name (32 ∷ word) (behind_blanks (other ∷ [])) (sym e ∙ h) in
    let nothing = append-nil other in
    cc

pub one_word : (name text word other : List ℕ) → text ≡ name ++ 32 ∷ word → word ≡ other → text ≡ line name (other ∷ [])
one_word name text word other e h = e ∙ ap (λ w. name ++ 32 ∷ w) (h ∙ sym (append-nil other))

pub number_read : (name text word : List ℕ) (n : Natural) → text ≡ name ++ 32 ∷ word → SpellsNatural word n → IsOneNumber name text n
number_read name text word (Small n) e s = (one_word name text word (numeral n) e s.spelled, s.below)
number_read name text word Large e s = (s.number, (one_word name text word (numeral s.number) e s.spelled, s.at_least))
number_read name text word Misspelled e s = λ n h. s n (behind_name name text word (numeral n) e h)

pub count_read : (name text word : List ℕ) (n : Natural) → text ≡ name ++ 32 ∷ word → PrintsNatural word n → IsOneCount name text n
count_read name text word (Small n) e s = one_word name text word (decimal n) e s
count_read name text word Large e s = λ n small h. s n small (behind_name name text word (decimal n) e h)
count_read name text word Misspelled e s = λ n small h. s n small (behind_name name text word (decimal n) e h)
