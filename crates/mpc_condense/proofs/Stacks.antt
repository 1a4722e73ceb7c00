-- Sequences of moves, and their moves one after the other.
use Rattle.std.proofs.Common.{◌≡◌, ℕ, zero, suc, ◌*◌, List, [], ◌∷◌, ◌++◌, length, take, drop, refl, sym, ◌∙◌, ap, arith}
use Rattle.std.specs.List.{AllByRecursion}
use Rattle.std.proofs.lemmas.List.{length-append, length-take-le, length-drop, take-append-drop}
use Rattle.std.proofs.Math.Seq.{take-append_seam, drop-append_seam}
use Rattle.mpc_exact.specs.Rational.{ℚ}
use Rattle.mpc_linear.specs.Grid.{rows_of}
use Rattle.mpc_condense.specs.Condensed.{stacked}

-- each has p entries
abbrev pub AllWide : ℕ → List (List ℚ) → Type 0
AllWide p v = AllByRecursion (λ u. length u ≡ p) v

pub stacked_length : (p : ℕ) (v : List (List ℚ)) → AllWide p v → length (stacked v) ≡ length v * p
stacked_length p [] h = omega arith
stacked_length p (u ∷ v) h = length-append u (stacked v) ∙ omega (arith, h.0, stacked_length p v h.1)

nothing : (xs : List ℚ) → length xs ≡ 0 → [] ≡ xs
nothing [] e = refl
nothing (x ∷ xs) e = absurd (omega arith)

rest_length : (n p : ℕ) (xs : List ℚ) → length xs ≡ suc n * p → length (drop p xs) ≡ n * p
rest_length n p xs e = length-drop p xs ∙ omega arith

front_length : (n p : ℕ) (xs : List ℚ) → length xs ≡ suc n * p → length (take p xs) ≡ p
front_length n p xs e = length-take-le p xs (omega arith)

-- a list cut into moves
pub cut_stacked : (n p : ℕ) (xs : List ℚ) → length xs ≡ n * p → stacked (rows_of n p xs) ≡ xs
cut_stacked zero p xs e = nothing xs (e ∙ omega arith)
cut_stacked (suc n) p xs e = ap (λ r. take p xs ++ r) (cut_stacked n p (drop p xs) (rest_length n p xs e)) ∙ take-append-drop p xs

pub cut_wide : (n p : ℕ) (xs : List ℚ) → length xs ≡ n * p → AllWide p (rows_of n p xs)
cut_wide zero p xs e = tt
cut_wide (suc n) p xs e = (front_length n p xs e, cut_wide n p (drop p xs) (rest_length n p xs e))

pub cut_length : (n p : ℕ) (xs : List ℚ) → length (rows_of n p xs) ≡ n
cut_length zero p xs = refl
cut_length (suc n) p xs = ap suc (cut_length n p (drop p xs))

-- and back
pub stacked_cut : (p : ℕ) (v : List (List ℚ)) → AllWide p v → rows_of (length v) p (stacked v) ≡ v
stacked_cut p [] h = refl
stacked_cut p (u ∷ v) h =
    let first : take p (u ++ stacked v) ≡ u = ap (λ k. take k (u ++ stacked v)) (sym h.0) ∙ take-append_seam u (stacked v) in
    let rest : drop p (u ++ stacked v) ≡ stacked v = ap (λ k. drop k (u ++ stacked v)) (sym h.0) ∙ drop-append_seam u (stacked v) in
    λ i. first i ∷ (ap (rows_of (length v) p) rest ∙ stacked_cut p v h.1) i

pub stacked_apart : (p : ℕ) (v w : List (List ℚ)) → AllWide p v → AllWide p w → length v ≡ length w → stacked v ≡ stacked w → v ≡ w
stacked_apart p v w h k e same = sym (stacked_cut p v h) ∙ (λ i. rows_of (e i) p (same i)) ∙ stacked_cut p w k
