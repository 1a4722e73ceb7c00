-- Texts that grow by one piece for each element of a list.
use Rattle.std.proofs.Common.{◌≡◌, ℕ, ◌+◌, ◌<◌, List, [], ◌∷◌, ◌++◌, length, get_or, take, map, Some, sym, ◌∙◌, ap, subst, append_assoc}
use Rattle.std.specs.Prelude.{slice_get, All}
use Rattle.std.specs.List.{flat_map}
use Rattle.std.proofs.lemmas.List.{take_more, map-append, append-nil}
use Rattle.std.proofs.lemmas.List.Concat.{flat_map-append}
use Rattle.std.proofs.lemmas.List.Elements.{All-more}
use Rattle.std.proofs.lemmas.Option.{slice_get_within, get_or_from_slice_get}
use Rattle.mpc_exact.specs.Rational.{ℚ}
use Rattle.mpc_frac.specs.Text.{text_of as fraction_text}
use Rattle.mpc_words.specs.Words.{behind_blanks}
use Rattle.mpc_writing.specs.Writing.{ended, text_of_lines}

-- a text that has the piece of one more element, where such a piece is what an element adds
grown : {X : Type 0} (text : List X → List ℕ) (piece : X → List ℕ) → ((xs : List X) (x : X) → text (xs ++ x ∷ []) ≡ text xs ++ piece x)
    → (xs : List X) (i : ℕ) (x d : X) (start old new : List ℕ) → i < length xs → x ≡ get_or xs i d → old ≡ start ++ text (take i xs) → new ≡ old ++ piece x → new ≡ start ++ text (take (i + 1) xs)
grown text piece more xs i x d start old new inside is before after =
    after ∙ ap (λ t. t ++ piece x) before ∙ append_assoc start (text (take i xs)) (piece x)
    ∙ ap (λ t. start ++ t) (sym (more (take i xs) x) ∙ ap (λ y. text (take i xs ++ y ∷ [])) is ∙ ap text (sym (take_more xs i d inside)))

pub mapped-push : {X Y : Type 0} (h : Y → List ℕ) (g : X → Y) (xs : List X) (x : X) → flat_map h (map g (xs ++ x ∷ [])) ≡ flat_map h (map g xs) ++ h (g x)
mapped-push h g xs x = ap (flat_map h) (map-append g xs (x ∷ [])) ∙ flat_map-append h (map g xs) (g x ∷ []) ∙ ap (λ t. flat_map h (map g xs) ++ t) (append-nil (h (g x)))

spread-push : {X Y : Type 0} (h : Y → List ℕ) (g : X → List Y) (xs : List X) (x : X) → flat_map h (flat_map g (xs ++ x ∷ [])) ≡ flat_map h (flat_map g xs) ++ flat_map h (g x)
spread-push h g xs x = ap (flat_map h) (flat_map-append g xs (x ∷ []) ∙ ap (λ t. flat_map g xs ++ t) (append-nil (g x))) ∙ flat_map-append h (flat_map g xs) (g x)

-- an element for each of which there is one word or one line
pub mapped_next : {X Y : Type 0} (h : Y → List ℕ) (g : X → Y) (xs : List X) (i : ℕ) (x d : X) (start old new : List ℕ)
    → i < length xs → x ≡ get_or xs i d → old ≡ start ++ flat_map h (map g (take i xs)) → new ≡ old ++ h (g x) → new ≡ start ++ flat_map h (map g (take (i + 1) xs))
mapped_next h g = grown (λ xs. flat_map h (map g xs)) (λ x. h (g x)) (mapped-push h g)

-- an element for each of which there are several
pub spread_next : {X Y : Type 0} (h : Y → List ℕ) (g : X → List Y) (xs : List X) (i : ℕ) (x d : X) (start old new : List ℕ)
    → i < length xs → x ≡ get_or xs i d → old ≡ start ++ flat_map h (flat_map g (take i xs)) → new ≡ old ++ flat_map h (g x) → new ≡ start ++ flat_map h (flat_map g (take (i + 1) xs))
spread_next h g = grown (λ xs. flat_map h (flat_map g xs)) (λ x. flat_map h (g x)) (spread-push h g)

-- the same, where the element was read by its place
pub mapped_at : {X Y : Type 0} (h : Y → List ℕ) (g : X → Y) (xs : List X) (i : ℕ) (x : X) (start old new : List ℕ)
    → slice_get xs i ≡ Some x → old ≡ start ++ flat_map h (map g (take i xs)) → new ≡ old ++ h (g x) → new ≡ start ++ flat_map h (map g (take (i + 1) xs))
mapped_at h g xs i x start old new at = mapped_next h g xs i x x start old new (slice_get_within xs i x at) (sym (get_or_from_slice_get xs i x x at))

pub spread_at : {X Y : Type 0} (h : Y → List ℕ) (g : X → List Y) (xs : List X) (i : ℕ) (x : X) (start old new : List ℕ)
    → slice_get xs i ≡ Some x → old ≡ start ++ flat_map h (flat_map g (take i xs)) → new ≡ old ++ flat_map h (g x) → new ≡ start ++ flat_map h (flat_map g (take (i + 1) xs))
spread_at h g xs i x start old new at = spread_next h g xs i x x start old new (slice_get_within xs i x at) (sym (get_or_from_slice_get xs i x x at))

-- the words of one more row
entries-push : (rows : List (List ℚ)) (row : List ℚ) → behind_blanks (map fraction_text (flat_map (λ r. r) (rows ++ row ∷ []))) ≡ behind_blanks (map fraction_text (flat_map (λ r. r) rows)) ++ behind_blanks (map fraction_text row)
entries-push rows row =
    let joined : flat_map (λ r. r) (rows ++ row ∷ []) ≡ flat_map (λ r. r) rows ++ row = flat_map-append (λ r. r) rows (row ∷ []) ∙ ap (λ t. flat_map (λ r. r) rows ++ t) (append-nil row) in
    ap (λ t. behind_blanks (map fraction_text t)) joined ∙ ap behind_blanks (map-append fraction_text (flat_map (λ r. r) rows) row) ∙ flat_map-append (λ word. 32 ∷ word) (map fraction_text (flat_map (λ r. r) rows)) (map fraction_text row)

pub entries_next : (rows : List (List ℚ)) (i : ℕ) (row d : List ℚ) (start old new : List ℕ) → i < length rows → row ≡ get_or rows i d
    → old ≡ start ++ behind_blanks (map fraction_text (flat_map (λ r. r) (take i rows))) → new ≡ old ++ behind_blanks (map fraction_text row) → new ≡ start ++ behind_blanks (map fraction_text (flat_map (λ r. r) (take (i + 1) rows)))
entries_next = grown (λ rows. behind_blanks (map fraction_text (flat_map (λ r. r) rows))) (λ row. behind_blanks (map fraction_text row)) entries-push

-- a text of pieces
pub pieces-push : {X : Type 0} (g : X → List ℕ) (xs : List X) (x : X) → flat_map g (xs ++ x ∷ []) ≡ flat_map g xs ++ g x
pieces-push g xs x = flat_map-append g xs (x ∷ []) ∙ ap (λ t. flat_map g xs ++ t) (append-nil (g x))

pub pieces_at : {X : Type 0} (g : X → List ℕ) (xs : List X) (i : ℕ) (x : X) (start old new : List ℕ)
    → slice_get xs i ≡ Some x → old ≡ start ++ flat_map g (take i xs) → new ≡ old ++ g x → new ≡ start ++ flat_map g (take (i + 1) xs)
pieces_at g xs i x start old new at = grown (flat_map g) g (pieces-push g) xs i x x start old new (slice_get_within xs i x at) (sym (get_or_from_slice_get xs i x x at))

-- ---- what holds of one element more
pub all_next : {X : Type 0} (P : X → Type 0) (xs : List X) (i : ℕ) (x d : X) → i < length xs → x ≡ get_or xs i d → All P (take i xs) → P x → All P (take (i + 1) xs)
all_next P xs i x d inside is before here = All-more P xs i d inside before (subst P is here)

pub all_at : {X : Type 0} (P : X → Type 0) (xs : List X) (i : ℕ) (x : X) → slice_get xs i ≡ Some x → All P (take i xs) → P x → All P (take (i + 1) xs)
all_at P xs i x at = all_next P xs i x x (slice_get_within xs i x at) (sym (get_or_from_slice_get xs i x x at))

-- ---- some words or lines behind others
pub joined : {Y : Type 0} (h : Y → List ℕ) (xs ys : List Y) (start old new : List ℕ) → old ≡ start ++ flat_map h xs → new ≡ old ++ flat_map h ys → new ≡ start ++ flat_map h (xs ++ ys)
joined h xs ys start old new before after =
    after ∙ ap (λ t. t ++ flat_map h ys) before ∙ append_assoc start (flat_map h xs) (flat_map h ys) ∙ ap (λ t. start ++ t) (sym (flat_map-append h xs ys))

-- ---- a line and four blocks of lines behind it
pub line_and_blocks : (first : List ℕ) (b c d e : List (List ℕ)) (t0 t1 t2 t3 t4 t5 : List ℕ) → t1 ≡ t0 ++ ended first → t2 ≡ t1 ++ text_of_lines b → t3 ≡ t2 ++ text_of_lines c → t4 ≡ t3 ++ text_of_lines d → t5 ≡ t4 ++ text_of_lines e → t5 ≡ t0 ++ text_of_lines (first ∷ (b ++ c ++ d ++ e))
line_and_blocks first b c d e t0 t1 t2 t3 t4 t5 h1 h2 h3 h4 h5 =
    let one : t1 ≡ t0 ++ text_of_lines (first ∷ []) = h1 ∙ ap (λ t. t0 ++ t) (sym (append-nil (ended first))) in
    let two : t2 ≡ t0 ++ text_of_lines (first ∷ b) = joined ended (first ∷ []) b t0 t1 t2 one h2 in
    let three : t3 ≡ t0 ++ text_of_lines (first ∷ (b ++ c)) = joined ended (first ∷ b) c t0 t2 t3 two h3 in
    let four : t4 ≡ t0 ++ text_of_lines (first ∷ (b ++ c ++ d)) = joined ended (first ∷ (b ++ c)) d t0 t3 t4 three h4 in
    joined ended (first ∷ (b ++ c ++ d)) e t0 t4 t5 four h5
