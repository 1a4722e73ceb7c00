use Rattle.std.proofs.Common.{◌≡◌, Bool, true, false, ◌||◌, List, ℕ, [], ◌∷◌, ◌++◌, length, drop, take, eqb, sym, ◌∙◌, ap}
use Rattle.std.specs.Prelude.{bytes_eq}
use Rattle.std.specs.Cmp.Lexicographic.{pointwise}
use Rattle.std.proofs.lemmas.List.{append-nil}
use Rattle.mpc_words.proofs.WholeLineLemmas.{prefix_same, prefix_other}
use Rattle.mpc_words.proofs.whole_lines.is_line.Goals as goal

same : (line word : List ℕ) → bytes_eq line (word ++ []) ≡ bytes_eq line word
same line word = ap (bytes_eq line) (append-nil word)

-- a line that begins with the word is compared by its end
by_end : (line word end : List ℕ) → pointwise eqb (take (length word) line) word ≡ true → end ≡ drop (length word) line
    → (bytes_eq end [] || bytes_eq end (13 ∷ [])) ≡ (bytes_eq line word || bytes_eq line (word ++ 13 ∷ []))
by_end line word end h e =
    let first : bytes_eq end [] ≡ bytes_eq line word = ap (λ t. bytes_eq t []) e ∙ sym (prefix_same line word [] h) ∙ same line word in
    let second : bytes_eq end (13 ∷ []) ≡ bytes_eq line (word ++ 13 ∷ []) = ap (λ t. bytes_eq t (13 ∷ [])) e ∙ sym (prefix_same line word (13 ∷ []) h) in
    λ i. first i || second i

either : (a b t : Bool) → a ≡ t → (a || b) ≡ (t || b)
either a b t e = λ i. e i || b

-- a comparison with a text that is known
compared : (r t : Bool) (end text known : List ℕ) → r ≡ bytes_eq end text → text ≡ known → r ≡ t → bytes_eq end known ≡ t
compared r t end text known h e k = ap (bytes_eq end) (sym e) ∙ sym h ∙ k

pub returns-then-eq : goal.returns-then-eq
returns-then-eq c =
    let e = c.in-Some.ensures.cases in
    let all = by_end c.args.line.now c.args.word.now c.in-Some.end.now e.0 e.1 in
    let yes : bytes_eq c.in-Some.end.now [] ≡ true = compared c.eq.result true _ _ [] c.eq.ensures c.as_slice.ensures c.if-eq.true in
    c.if-eq.true ∙ sym (either (bytes_eq c.in-Some.end.now []) (bytes_eq c.in-Some.end.now (13 ∷ [])) true yes) ∙ all

pub returns-else-eq : goal.returns-else-eq
returns-else-eq c =
    let e = c.in-Some.ensures.cases in
    let all = by_end c.args.line.now c.args.word.now c.in-Some.end.now e.0 e.1 in
    let no : bytes_eq c.in-Some.end.now [] ≡ false = compared c.eq.result false _ _ [] c.eq.ensures c.as_slice.ensures c.if-eq.false in
    c.eq-else-eq.ensures ∙ ap (bytes_eq c.in-Some.end.now) c.as_slice-else-eq.ensures ∙ sym (either (bytes_eq c.in-Some.end.now []) (bytes_eq c.in-Some.end.now (13 ∷ [])) false no) ∙ all

pub returns-in-None : goal.returns-in-None
returns-in-None c =
    let no = c.in-None.ensures.cases in
    λ i. (sym (prefix_other c.args.line.now c.args.word.now [] no) ∙ same c.args.line.now c.args.word.now) i || sym (prefix_other c.args.line.now c.args.word.now (13 ∷ []) no) i
