-- Rows that are written entry by entry, and the rows of a box by their places.
use Rattle.std.proofs.Common.{◌≡◌, ℕ, zero, suc, ◌+◌, ◌-◌, ◌<◌, ◌≤◌, cond, nat_lt, false, List, [], ◌∷◌, ◌++◌, length, get_or, map, take, drop, ℤ, pos, negsuc, refl, sym, ◌∙◌, ap, subst, arith, Result, IfOk}
use Rattle.std.specs.List.{range_with_len}
use Rattle.std.proofs.lemmas.List.{append_assoc, take_more}
use Rattle.std.proofs.Math.Seq.{take-length}
use Rattle.std.proofs.lemmas.List.FromFn.{map-range_with_len_more}
use Rattle.mpc_exact.specs.Rational.{ℚ, int, neg_ℚ, ◌*ℚ◌}
use Rattle.mpc_exact.proofs.RationalRing.{reads, by_ring}
use Rattle.mpc_space.specs.Vector.{vec_scale, listed}
use Rattle.mpc_rows.specs.declared.systems.Row.{Row}
use Rattle.mpc_rows.specs.LinearSystem.{no_row}
use Rattle.mpc_rows.specs.SetRuns.{axis, box_from, box_rows}

-- ---- entries
abbrev pub axis_at : ℕ → ℚ → ℕ → ℚ
axis_at i x j = cond (nat_lt i j) (int (pos 0)) (cond (nat_lt j i) (int (pos 0)) x)

pub listed_more : (f : ℕ → ℚ) (j : ℕ) (xs ys : List ℚ) (x : ℚ) → xs ≡ listed j f → ys ≡ xs ++ x ∷ [] → x ≡ f j → ys ≡ listed (j + 1) f
listed_more f j xs ys x e h k = h ∙ (λ i. e i ++ (k i ∷ [])) ∙ sym (map-range_with_len_more f 0 j j (omega arith))

minus : (x : ℚ) → int (negsuc 0) *ℚ x ≡ neg_ℚ x
minus x = by_ring (x ∷ []) (search reads depth 30) (search reads depth 30) tt

negatives-append : (xs : List ℚ) (x : ℚ) → vec_scale (int (negsuc 0)) (xs ++ x ∷ []) ≡ vec_scale (int (negsuc 0)) xs ++ neg_ℚ x ∷ []
negatives-append [] x = λ t. minus x t ∷ []
negatives-append (y ∷ xs) x = ap (λ ys. (int (negsuc 0) *ℚ y) ∷ ys) (negatives-append xs x)

pub negatives_more : (xs : List ℚ) (i : ℕ) (x : ℚ) → i < length xs → x ≡ get_or xs i x → vec_scale (int (negsuc 0)) (take (i + 1) xs) ≡ vec_scale (int (negsuc 0)) (take i xs) ++ neg_ℚ x ∷ []
negatives_more xs i x h e = ap (vec_scale (int (negsuc 0))) (take_more xs i x h) ∙ negatives-append (take i xs) (get_or xs i x) ∙ ap (λ y. vec_scale (int (negsuc 0)) (take i xs) ++ neg_ℚ y ∷ []) (sym e)

pub pushed : {A : Type 0} (old before new xs ys : List A) (x : A) → before ≡ old ++ xs → new ≡ before ++ x ∷ [] → ys ≡ xs ++ x ∷ [] → new ≡ old ++ ys
pushed old before new xs ys x e h k = h ∙ ap (λ zs. zs ++ (x ∷ [])) e ∙ append_assoc old xs (x ∷ []) ∙ ap (λ zs. old ++ zs) (sym k)

map-append_one : (f : ℤ → ℚ) (zs : List ℤ) (z : ℤ) → map f (zs ++ z ∷ []) ≡ map f zs ++ f z ∷ []
map-append_one f [] z = refl
map-append_one f (y ∷ zs) z = ap (λ ys. f y ∷ ys) (map-append_one f zs z)

pub wholes_more : (zs : List ℤ) (i : ℕ) (d : ℤ) (x : ℚ) → i < length zs → x ≡ int (get_or zs i d) → map int (take (i + 1) zs) ≡ map int (take i zs) ++ x ∷ []
wholes_more zs i d x h e = ap (map int) (take_more zs i d h) ∙ map-append_one int (take i zs) (get_or zs i d) ∙ ap (λ y. map int (take i zs) ++ y ∷ []) (sym e)

pub negated_more : (zs : List ℤ) (i : ℕ) (d : ℤ) (x : ℚ) → i < length zs → x ≡ neg_ℚ (int (get_or zs i d)) → vec_scale (int (negsuc 0)) (map int (take (i + 1) zs)) ≡ vec_scale (int (negsuc 0)) (map int (take i zs)) ++ x ∷ []
negated_more zs i d x h e =
    ap (vec_scale (int (negsuc 0))) (wholes_more zs i d (int (get_or zs i d)) h refl) ∙ negatives-append (map int (take i zs)) (int (get_or zs i d)) ∙ ap (λ y. vec_scale (int (negsuc 0)) (map int (take i zs)) ++ y ∷ []) (sym e)

-- ---- the rows of the program
pub rest_taken : (xs : List ℚ) → take (length xs - 1) (drop 1 xs) ≡ drop 1 xs
rest_taken [] = refl
rest_taken (x ∷ xs) = ap (λ k. take k xs) (omega arith) ∙ take-length xs

pub joint_more : (f : ℕ → Row) (i : ℕ) → 1 ≤ i → map f (range_with_len 1 (i + 1 - 1)) ≡ map f (range_with_len 1 (i - 1)) ++ f i ∷ []
joint_more f i h =
    let e : i + 1 - 1 ≡ i - 1 + 1 = omega arith in
    ap (λ k. map f (range_with_len 1 k)) e ∙ map-range_with_len_more f 1 (i - 1) i (omega arith)

-- ---- the rows of a box
abbrev pub lower : ℕ → ℕ → Row
lower width i = record { a = axis width i (int (negsuc 0)); b = int (pos 0); strict = false }

abbrev pub upper : ℕ → ℕ → ℕ → Row
upper width i count = record { a = axis width i (int (pos 1)); b = int (pos count); strict = false }

box_lower : (width i : ℕ) (counts : List ℕ) (k : ℕ) → k < length counts → get_or (box_from width i counts) (k + k) no_row ≡ lower width (i + k)
box_lower width i [] k h = absurd (omega arith)
box_lower width i (count ∷ counts) zero h = let e : i ≡ i + 0 = omega arith in ap (lower width) e
box_lower width i (count ∷ counts) (suc k) h =
    let two : suc k + suc k ≡ suc (suc (k + k)) = omega arith in
    let e : suc i + k ≡ i + suc k = omega arith in
    ap (λ n. get_or (box_from width i (count ∷ counts)) n no_row) two ∙ box_lower width (suc i) counts k (omega arith) ∙ ap (lower width) e

box_upper : (width i : ℕ) (counts : List ℕ) (k : ℕ) → k < length counts → get_or (box_from width i counts) (suc (k + k)) no_row ≡ upper width (i + k) (get_or counts k 0)
box_upper width i [] k h = absurd (omega arith)
box_upper width i (count ∷ counts) zero h = let e : i ≡ i + 0 = omega arith in ap (λ j. upper width j count) e
box_upper width i (count ∷ counts) (suc k) h =
    let two : suc (suc k + suc k) ≡ suc (suc (suc (k + k))) = omega arith in
    let e : suc i + k ≡ i + suc k = omega arith in
    ap (λ n. get_or (box_from width i (count ∷ counts)) n no_row) two ∙ box_upper width (suc i) counts k (omega arith) ∙ ap (λ j. upper width j (get_or counts k 0)) e

pub lower_at : (width : ℕ) (counts : List ℕ) (i place : ℕ) → i < length counts → place ≡ i + i → lower width i ≡ get_or (box_rows width counts) place no_row
lower_at width counts i place h e = sym (ap (λ n. get_or (box_rows width counts) n no_row) e ∙ box_lower width 0 counts i h ∙ ap (lower width) (omega arith))

pub upper_at : (width : ℕ) (counts : List ℕ) (i place : ℕ) → i < length counts → place ≡ suc (i + i) → upper width i (get_or counts i 0) ≡ get_or (box_rows width counts) place no_row
upper_at width counts i place h e =
    sym (ap (λ n. get_or (box_rows width counts) n no_row) e ∙ box_upper width 0 counts i h ∙ ap (λ j. upper width j (get_or counts i 0)) (omega arith))

-- ---- values of results
pub same_value : {E : Type 0} (r : Result Row E) (x y : Row) → x ≡ y → IfOk r (λ z. z ≡ x) → IfOk r (λ z. z ≡ y)
same_value r x y e h = subst (λ v. IfOk r (λ z. z ≡ v)) e h
