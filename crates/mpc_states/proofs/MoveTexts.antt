-- The texts of moves, with one blank between two.
use Rattle.std.proofs.Common.{◌≡◌, ℕ, zero, suc, ◌+◌, ◌<◌, Bool, true, false, eqb, List, [], ◌∷◌, ◌++◌, length, get_or, take, map, refl, sym, ◌∙◌, ap, subst, arith, append_assoc}
use Rattle.std.specs.Prelude.{MatchBool}
use Rattle.std.specs.List.{join_with_byte}
use Rattle.std.proofs.lemmas.List.{take_more, append-nil, length-map, get_or-map}
use Rattle.std.proofs.lemmas.Bool.Decides.{nat_tests}
use Rattle.mpc_exact.specs.Rational.{ℚ}
use Rattle.mpc_frac.specs.Text.{text_of}

join_more : (c : ℕ) (x : List ℕ) (xs : List (List ℕ)) (y : List ℕ) → join_with_byte c ((x ∷ xs) ++ y ∷ []) ≡ join_with_byte c (x ∷ xs) ++ (c ∷ y)
join_more c x [] y = refl
join_more c x (z ∷ zs) y = ap (λ r. x ++ (c ∷ r)) (join_more c z zs y) ∙ sym (append_assoc x (c ∷ join_with_byte c (z ∷ zs)) (c ∷ y))

pub join_first : (c : ℕ) (xs : List (List ℕ)) (d : List ℕ) → 0 < length xs → join_with_byte c (take 1 xs) ≡ get_or xs 0 d
join_first c [] d h = absurd (omega arith)
join_first c (x ∷ xs) d h = refl

pub join_next : (c : ℕ) (xs : List (List ℕ)) (i : ℕ) (d : List ℕ) → 0 < i → i < length xs → join_with_byte c (take (i + 1) xs) ≡ join_with_byte c (take i xs) ++ (c ∷ get_or xs i d)
join_next c xs i d some l = ap (join_with_byte c) (take_more xs i d l) ∙ by i xs some l
  where
    by : (i : ℕ) (xs : List (List ℕ)) → 0 < i → i < length xs → join_with_byte c (take i xs ++ get_or xs i d ∷ []) ≡ join_with_byte c (take i xs) ++ (c ∷ get_or xs i d)
    by zero xs some l = absurd (omega arith)
    by (suc i) [] some l = absurd (omega arith)
    by (suc i) (x ∷ xs) some l = join_more c x (take i xs) (get_or xs i d)

pub first_text : (xs : List (List ℕ)) (d old text after v : List ℕ) → 0 < length xs → text ≡ old ++ join_with_byte 32 (take 0 xs) → after ≡ text ++ v → v ≡ get_or xs 0 d → after ≡ old ++ join_with_byte 32 (take 1 xs)
first_text xs d old text after v some e f g = f ∙ (λ i. e i ++ g i) ∙ (λ i. append-nil old i ++ sym (join_first 32 xs d some) i)

pub next_text : (xs : List (List ℕ)) (i : ℕ) (d old text middle after v : List ℕ) → 0 < i → i < length xs → text ≡ old ++ join_with_byte 32 (take i xs) → middle ≡ text ++ 32 ∷ [] → after ≡ middle ++ v → v ≡ get_or xs i d
    → after ≡ old ++ join_with_byte 32 (take (i + 1) xs)
next_text xs i d old text middle after v some l e m f g =
    f ∙ ap (λ t. t ++ v) m ∙ append_assoc text (32 ∷ []) v ∙ (λ z. e z ++ (32 ∷ g z)) ∙ append_assoc old (join_with_byte 32 (take i xs)) (32 ∷ get_or xs i d)
    ∙ ap (λ t. old ++ t) (sym (join_next 32 xs i d some l))

-- one more move
text_at : (xs : List ℚ) (i : ℕ) (x : ℚ) (d : List ℕ) → i < length xs → x ≡ get_or xs i x → text_of x ≡ get_or (map text_of xs) i d
text_at xs i x d l e = ap text_of e ∙ sym (get_or-map text_of xs i x d l)

moves_by : (b : Bool) (xs : List ℚ) (i : ℕ) (old text new : List ℕ) (v : ℚ) → eqb i 0 ≡ b → i < length xs → v ≡ get_or xs i v → text ≡ old ++ join_with_byte 32 (take i (map text_of xs))
    → MatchBool b (new ≡ text ++ text_of v) (new ≡ text ++ 32 ∷ text_of v) → new ≡ old ++ join_with_byte 32 (take (i + 1) (map text_of xs))
moves_by true xs i old text new v test lt is before added =
    let none : i ≡ 0 = grind (arith, nat_tests) in
    let texts = map text_of xs in
    let first : text ≡ old ++ join_with_byte 32 (take 0 texts) = subst (λ k. text ≡ old ++ join_with_byte 32 (take k texts)) none before in
    let here : text_of v ≡ get_or texts 0 old = text_at xs i v old lt is ∙ ap (λ k. get_or texts k old) none in
    subst (λ k. new ≡ old ++ join_with_byte 32 (take (k + 1) texts)) (sym none) (first_text texts old old text new (text_of v) (omega (arith, length-map xs text_of)) first added here)
moves_by false xs i old text new v test lt is before added =
    let some : 0 < i = grind (arith, nat_tests) in
    let texts = map text_of xs in
    next_text texts i old old text (text ++ 32 ∷ []) new (text_of v) some (omega (arith, length-map xs text_of)) before refl (added ∙ sym (append_assoc text (32 ∷ []) (text_of v))) (text_at xs i v old lt is)

pub moves_next : (xs : List ℚ) (i : ℕ) (old text new : List ℕ) (v : ℚ) → i < length xs → v ≡ get_or xs i v → text ≡ old ++ join_with_byte 32 (take i (map text_of xs))
    → MatchBool (eqb i 0) (new ≡ text ++ text_of v) (new ≡ text ++ 32 ∷ text_of v) → new ≡ old ++ join_with_byte 32 (take (i + 1) (map text_of xs))
moves_next xs i old text new v lt is before added = moves_by (eqb i 0) xs i old text new v refl lt is before added
