-- The rows of a box hold at the points of the box.
use Rattle.std.proofs.Common.{◌≡◌, ℕ, suc, ◌+◌, ◌<◌, ◌≤◌, nat_lt, cond, List, [], ◌∷◌, ◌++◌, length, pos, negsuc, false, sym, ◌∙◌, ap, subst, arith, ◌⊎◌, inl, inr, All, ◌↔◌, zero-lt-suc}
use Rattle.std.specs.List.{AllByRecursion}
use Rattle.std.proofs.lemmas.List.Elements.{All-from_recursion, recursion_from_All}
use Rattle.std.proofs.lemmas.List.{get_or_append_left}
use Rattle.std.proofs.lemmas.Bool.{cond-true, cond-false, lt-ltb, le-ltb, cases_order}
use Rattle.mpc_exact.specs.Rational.{ℚ, int, ◌*ℚ◌, ◌≤ℚ◌}
use Rattle.mpc_exact.proofs.RationalRing.{reads, by_ring}
use Rattle.mpc_exact.proofs.Linear.{linear_le, claims, none, le}
use Rattle.mpc_space.specs.Vector.{coordinate, dot}
use Rattle.mpc_space.specs.Total.{unit}
use Rattle.mpc_space.proofs.Total.{total-same, total-unit, unit-same, unit-other}
use Rattle.mpc_space.proofs.Entries.{coordinate-listed, length-listed, dot-total_within}
use Rattle.mpc_rows.specs.declared.systems.Row.{Row}
use Rattle.mpc_rows.specs.LinearSystem.{MeetsRow}
use Rattle.mpc_rows.specs.ActiveSets.{IsInBox}
use Rattle.mpc_rows.specs.SetRuns.{axis, box_from, box_rows}

-- ---- a row on one unknown
axis_entry : (i j : ℕ) (x : ℚ) → cond (nat_lt i j) (int (pos 0)) (cond (nat_lt j i) (int (pos 0)) x) ≡ unit i j *ℚ x
axis_entry i j x = by (cases_order i j)
  where
    none_of : int (pos 0) ≡ int (pos 0) *ℚ x
    none_of = by_ring (x ∷ []) (search reads depth 30) (search reads depth 30) tt

    by : (i ≡ j) ⊎ ((i < j) ⊎ (j < i)) → cond (nat_lt i j) (int (pos 0)) (cond (nat_lt j i) (int (pos 0)) x) ≡ unit i j *ℚ x
    by (inl e) =
        cond-false (nat_lt i j) (int (pos 0)) (cond (nat_lt j i) (int (pos 0)) x) (le-ltb i j (omega arith))
        ∙ cond-false (nat_lt j i) (int (pos 0)) x (le-ltb j i (omega arith))
        ∙ by_ring (x ∷ []) (search reads depth 30) (search reads depth 30) tt ∙ ap (λ u. u *ℚ x) (sym (unit-same i j e))
    by (inr (inl h)) =
        cond-true (nat_lt i j) (int (pos 0)) (cond (nat_lt j i) (int (pos 0)) x) (lt-ltb i j h) ∙ none_of ∙ ap (λ u. u *ℚ x) (sym (unit-other i j (λ e. omega arith)))
    by (inr (inr h)) =
        cond-false (nat_lt i j) (int (pos 0)) (cond (nat_lt j i) (int (pos 0)) x) (le-ltb i j (omega arith))
        ∙ cond-true (nat_lt j i) (int (pos 0)) x (lt-ltb j i h) ∙ none_of ∙ ap (λ u. u *ℚ x) (sym (unit-other i j (λ e. omega arith)))

abbrev entry_at : ℕ → ℚ → ℕ → ℚ
entry_at i x j = cond (nat_lt i j) (int (pos 0)) (cond (nat_lt j i) (int (pos 0)) x)

pub dot-axis : (width i : ℕ) (x : ℚ) (v : List ℚ) → i < width → dot (axis width i x) v ≡ x *ℚ coordinate v i
dot-axis width i x v h =
    dot-total_within width (axis width i x) v (omega (arith, length-listed width (entry_at i x)))
    ∙ total-same width (λ j. coordinate (axis width i x) j *ℚ coordinate v j) (λ j. unit i j *ℚ (x *ℚ coordinate v j))
    (λ j l. ap (λ u. u *ℚ coordinate v j) (coordinate-listed width (entry_at i x) j l ∙ axis_entry i j x) ∙ regroup (unit i j) x (coordinate v j))
    ∙ total-unit width i (λ j. x *ℚ coordinate v j) h
  where
    regroup : (u x y : ℚ) → (u *ℚ x) *ℚ y ≡ u *ℚ (x *ℚ y)
    regroup u x y = by_ring (u ∷ x ∷ y ∷ []) (search reads depth 30) (search reads depth 30) tt

-- ---- the two rows of a count
abbrev low_row : ℕ → ℕ → Row
low_row width i = record { a = axis width i (int (negsuc 0)); b = int (pos 0); strict = false }

abbrev high_row : ℕ → ℕ → ℕ → Row
high_row width i count = record { a = axis width i (int (pos 1)); b = int (pos count); strict = false }

module _ (width i count : ℕ) (v : List ℚ) (x : ℚ) (h : i < width) (e : coordinate v i ≡ x) where
  low_is : dot (axis width i (int (negsuc 0))) v ≡ int (negsuc 0) *ℚ x
  low_is = dot-axis width i (int (negsuc 0)) v h ∙ ap (λ u. int (negsuc 0) *ℚ u) e

  high_is : dot (axis width i (int (pos 1))) v ≡ int (pos 1) *ℚ x
  high_is = dot-axis width i (int (pos 1)) v h ∙ ap (λ u. int (pos 1) *ℚ u) e

  low_meets : int (pos 0) ≤ℚ x → MeetsRow v (low_row width i)
  low_meets k = subst (λ u. u ≤ℚ int (pos 0)) (sym low_is) (linear_le (x ∷ []) (le k none) (search claims depth 40) tt)

  low_says : MeetsRow v (low_row width i) → int (pos 0) ≤ℚ x
  low_says k = negative (subst (λ u. u ≤ℚ int (pos 0)) low_is k)
    where
      negative : (int (negsuc 0) *ℚ x) ≤ℚ int (pos 0) → int (pos 0) ≤ℚ x
      negative k = linear_le (x ∷ []) (le k none) (search claims depth 40) tt

  high_meets : x ≤ℚ int (pos count) → MeetsRow v (high_row width i count)
  high_meets k = subst (λ u. u ≤ℚ int (pos count)) (sym high_is) (bounded (int (pos count)) k)
    where
      bounded : (b : ℚ) → x ≤ℚ b → (int (pos 1) *ℚ x) ≤ℚ b
      bounded b k = linear_le (x ∷ b ∷ []) (le k none) (search claims depth 40) tt

  high_says : MeetsRow v (high_row width i count) → x ≤ℚ int (pos count)
  high_says k = bounded (int (pos count)) (subst (λ u. u ≤ℚ int (pos count)) high_is k)
    where
      bounded : (b : ℚ) → (int (pos 1) *ℚ x) ≤ℚ b → x ≤ℚ b
      bounded b k = linear_le (x ∷ b ∷ []) (le k none) (search claims depth 40) tt

-- ---- all rows of the box, for a vector that has the point's entries from place i on
abbrev Stands : List ℚ → ℕ → List ℚ → Type 0
Stands v i ts = (k j : ℕ) → k ≡ i + j → j < length ts → coordinate v k ≡ coordinate ts j

meets_from : (width : ℕ) (v : List ℚ) (counts : List ℕ) (i : ℕ) (ts : List ℚ) → length ts ≡ length counts → i + length counts ≤ width → Stands v i ts → IsInBox counts ts → AllByRecursion (MeetsRow v) (box_from width i counts)
meets_from width v [] i ts e l same h = tt
meets_from width v (count ∷ counts) i [] e l same h = absurd h
meets_from width v (count ∷ counts) i (t ∷ ts) e l same h =
    let here : coordinate v i ≡ t = same i 0 (omega arith) (zero-lt-suc (length ts)) in
    let within : i < width = omega arith in (
      low_meets width i count v t within here h.0,
      (
        high_meets width i count v t within here h.1,
        meets_from width v counts (suc i) ts (omega arith) (omega arith) (λ k j f m. same k (suc j) (omega arith) (omega arith)) h.2,
      ),
    )

says_from : (width : ℕ) (v : List ℚ) (counts : List ℕ) (i : ℕ) (ts : List ℚ) → length ts ≡ length counts → i + length counts ≤ width → Stands v i ts → AllByRecursion (MeetsRow v) (box_from width i counts) → IsInBox counts ts
says_from width v [] i [] e l same h = tt
says_from width v [] i (t ∷ ts) e l same h = absurd (omega arith)
says_from width v (count ∷ counts) i [] e l same h = absurd (omega arith)
says_from width v (count ∷ counts) i (t ∷ ts) e l same h =
    let here : coordinate v i ≡ t = same i 0 (omega arith) (zero-lt-suc (length ts)) in
    let within : i < width = omega arith in (
      low_says width i count v t within here h.0,
      high_says width i count v t within here h.1.0,
      says_from width v counts (suc i) ts (omega arith) (omega arith) (λ k j f m. same k (suc j) (omega arith) (omega arith)) h.1.1,
    )

stands_first : (t rest : List ℚ) → Stands (t ++ rest) 0 t
stands_first t rest k j e h = ap (coordinate (t ++ rest)) (omega arith) ∙ get_or_append_left t rest (int (pos 0)) j h

pub box_meets : (counts : List ℕ) (t rest : List ℚ) → length t ≡ length counts → IsInBox counts t ↔ All (MeetsRow (t ++ rest)) (box_rows (length counts + length rest) counts)
box_meets counts t rest e = (
  λ h. All-from_recursion (MeetsRow (t ++ rest)) (box_rows (length counts + length rest) counts)
      (meets_from (length counts + length rest) (t ++ rest) counts 0 t e (omega arith) (stands_first t rest) h),
  λ h. says_from (length counts + length rest) (t ++ rest) counts 0 t e (omega arith) (stands_first t rest)
      (recursion_from_All (MeetsRow (t ++ rest)) (box_rows (length counts + length rest) counts) h),
)
