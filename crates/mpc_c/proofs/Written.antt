-- Moves that are written place by place.
use Rattle.std.proofs.Common.{◌≡◌, ℕ, suc, ◌<◌, ◌≤◌, pos, List, [], ◌∷◌, length, get_or, take, map, refl, sym, ◌∙◌, ap, subst, arith}
use Rattle.std.proofs.lemmas.List.{get_or-map, get_or-take, length-map, length-take-le}
use Rattle.mpc_exact.specs.Rational.{ℚ, int}
use Rattle.mpc_block.specs.declared.replies.Move.{Move}
use Rattle.mpc_c.specs.Fractions.{Ratio, ratio_of, lowest, no_move}

same_map : (moves : List Move) (found : List Ratio) (e : Ratio) → length moves ≡ length found → ((k : ℕ) → k < length moves → ratio_of (get_or moves k no_move) ≡ get_or found k e) → map ratio_of moves ≡ found
same_map [] [] e size at = refl
same_map [] (y ∷ ys) e size at = absurd (omega (arith, size))
same_map (x ∷ xs) [] e size at = absurd (omega (arith, size))
same_map (x ∷ xs) (y ∷ ys) e size at = λ i. at 0 (omega arith) i ∷ same_map xs ys e (omega (arith, size)) (λ k l. at (suc k) (omega (arith, l))) i

pub numbers_written : (moves : List Move) (numbers : List ℚ) (n : ℕ) → length moves ≡ n → n ≤ length numbers → ((k : ℕ) (e : ℚ) → k < length moves → ratio_of (get_or moves k no_move) ≡ lowest (get_or numbers k e)) → map ratio_of moves ≡ map lowest (take n numbers)
numbers_written moves numbers n size enough at =
    let front = take n numbers in
    let front_size : length front ≡ n = length-take-le n numbers enough in
    same_map moves (map lowest front) (lowest (int (pos 0))) (size ∙ sym (length-map front lowest ∙ front_size))
    (λ k l.
    let below : k < n = subst (λ m. k < m) size l in
    at k (int (pos 0)) l ∙ sym (get_or-map lowest front k (int (pos 0)) (lowest (int (pos 0))) (subst (λ m. k < m) (sym front_size) below) ∙ ap lowest (get_or-take n numbers k (int (pos 0)) below)))
