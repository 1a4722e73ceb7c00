-- Which points meet the rows of a target.
use Rattle.std.proofs.Common.{◌≡◌, ℕ, zero, suc, ◌+◌, ◌<◌, ◌≤◌, Bool, true, false, List, [], ◌∷◌, ◌++◌, length, get_or, take, pos, negsuc, refl, sym, ◌∙◌, ap, subst, arith, ◌↔◌, map, All}
use Rattle.std.specs.List.{AllByRecursion}
use Rattle.std.proofs.lemmas.List.Elements.{All-from_recursion, recursion_from_All}
use Rattle.mpc_exact.specs.Rational.{ℚ, int, ◌+ℚ◌, ◌-ℚ◌, ◌*ℚ◌, ◌<ℚ◌, neg_ℚ}
use Rattle.mpc_exact.proofs.RationalRing.{reads, by_ring}
use Rattle.mpc_exact.proofs.Linear.{linear_le, linear_lt, claims, none, le, lt}
use Rattle.mpc_space.specs.Vector.{coordinate, column, dot, listed, later_entries, vec_scale, mat_vec, vec_mat}
use Rattle.mpc_space.proofs.Vector.{dot_comm, dot-scale}
use Rattle.mpc_space.proofs.Matrix.{coordinate-vec_mat, dot-vec_mat, coordinate-column}
use Rattle.mpc_space.proofs.Entries.{coordinate-listed, dot_same, length-listed, length-scale}
use Rattle.mpc_space.proofs.Outcomes.{below_next}
use Rattle.std.proofs.lemmas.List.{take_more, get_or_default}
use Rattle.std.proofs.Math.Seq.{take-length}
use Rattle.std.proofs.lemmas.List.FromFn.{map-range_with_len_more}
use Rattle.std.proofs.Common.{zero-add}
use Rattle.mpc_linear.specs.Dot.{DotFits}
use Rattle.mpc_rows.specs.declared.systems.Row.{Row}
use Rattle.mpc_rows.specs.LinearSystem.{IsWithin, MeetsRow}
use Rattle.mpc_rows.specs.ActiveSets.{extended}
use Rattle.mpc_recur.specs.Forms.{low_row, high_row, substituted_sides, substituted}

-- ---- below and above a coordinate
low_meets : (c : ℚ) (cs t : List ℚ) → MeetsRow t (low_row (c ∷ cs)) ↔ (dot (c ∷ cs) (extended t) <ℚ int (pos 0))
low_meets c cs t = (there c (dot cs t), back c (dot cs t))
  where
    there : (c d : ℚ) → d <ℚ neg_ℚ c → (c *ℚ int (pos 1) +ℚ d) <ℚ int (pos 0)
    there c d h = linear_lt (c ∷ d ∷ []) (lt h none) (search claims depth 40) tt

    back : (c d : ℚ) → (c *ℚ int (pos 1) +ℚ d) <ℚ int (pos 0) → d <ℚ neg_ℚ c
    back c d h = linear_lt (c ∷ d ∷ []) (lt h none) (search claims depth 40) tt

pub low_points : (form t : List ℚ) (n : ℕ) → length form ≡ n + 1 → MeetsRow t (low_row form) ↔ (dot form (extended t) <ℚ int (pos 0))
low_points [] t n e = absurd (omega arith)
low_points (c ∷ cs) t n e = low_meets c cs t

high_meets : (c : ℚ) (cs t : List ℚ) (count : ℕ) → MeetsRow t (high_row (c ∷ cs) count) ↔ (int (pos count) <ℚ dot (c ∷ cs) (extended t))
high_meets c cs t count =
    let turned = dot-scale (int (negsuc 0)) cs t in (
      λ h. there c (dot cs t) (int (pos count)) (subst (λ d. d <ℚ (c -ℚ int (pos count))) turned h),
      λ h. subst (λ d. d <ℚ (c -ℚ int (pos count))) (sym turned) (back c (dot cs t) (int (pos count)) h),
    )
  where
    there : (c d k : ℚ) → (int (negsuc 0) *ℚ d) <ℚ (c -ℚ k) → k <ℚ (c *ℚ int (pos 1) +ℚ d)
    there c d k h = linear_lt (c ∷ d ∷ k ∷ []) (lt h none) (search claims depth 40) tt

    back : (c d k : ℚ) → k <ℚ (c *ℚ int (pos 1) +ℚ d) → (int (negsuc 0) *ℚ d) <ℚ (c -ℚ k)
    back c d k h = linear_lt (c ∷ d ∷ k ∷ []) (lt h none) (search claims depth 40) tt

pub high_points : (form t : List ℚ) (n count : ℕ) → length form ≡ n + 1 → MeetsRow t (high_row form count) ↔ (int (pos count) <ℚ dot form (extended t))
high_points [] t n count e = absurd (omega arith)
high_points (c ∷ cs) t n count e = high_meets c cs t count

-- ---- rows with forms in place of the coordinates
within_there : (s : Bool) (c d b : ℚ) → IsWithin s d (b -ℚ c) → IsWithin s (int (pos 1) *ℚ c +ℚ d) b
within_there true c d b h = linear_lt (c ∷ d ∷ b ∷ []) (lt h none) (search claims depth 40) tt
within_there false c d b h = linear_le (c ∷ d ∷ b ∷ []) (le h none) (search claims depth 40) tt

within_back : (s : Bool) (c d b : ℚ) → IsWithin s (int (pos 1) *ℚ c +ℚ d) b → IsWithin s d (b -ℚ c)
within_back true c d b h = linear_lt (c ∷ d ∷ b ∷ []) (lt h none) (search claims depth 40) tt
within_back false c d b h = linear_le (c ∷ d ∷ b ∷ []) (le h none) (search claims depth 40) tt

module _ (n : ℕ) (forms : List (List ℚ)) (t : List ℚ) (size : length t ≡ n) where
  abbrev entries : List ℚ → List ℚ
  entries a = dot a (column forms 0) ∷ listed n (λ j. dot a (column forms (j + 1)))

  entry_there : (a : List ℚ) (j : ℕ) → j < n + 1 → coordinate (vec_mat a forms) j ≡ coordinate (entries a) j
  entry_there a zero h = coordinate-vec_mat a forms 0
  entry_there a (suc j) h =
      let next : suc j ≡ j + 1 = omega arith in
      coordinate-vec_mat a forms (suc j) ∙ ap (λ k. dot a (column forms k)) next ∙ sym (coordinate-listed n (λ j. dot a (column forms (j + 1))) j (omega arith))

  substituted_value : (a : List ℚ) → dot a (mat_vec forms (extended t)) ≡ int (pos 1) *ℚ dot a (column forms 0) +ℚ dot (listed n (λ j. dot a (column forms (j + 1)))) t
  substituted_value a =
      dot_comm a (mat_vec forms (extended t)) ∙ dot-vec_mat forms (extended t) a
      ∙ dot_same (extended t) (vec_mat a forms) (entries a) (λ j h. entry_there a j (omega (arith, size)))
      ∙ ap (λ d. int (pos 1) *ℚ dot a (column forms 0) +ℚ d) (dot_comm t (listed n (λ j. dot a (column forms (j + 1)))))

  substituted_meets : (r : Row) → MeetsRow t (substituted n forms r) ↔ MeetsRow (mat_vec forms (extended t)) r
  substituted_meets r =
      let c = dot r.a (column forms 0) in
      let d = dot (listed n (λ j. dot r.a (column forms (j + 1)))) t in (
        λ h. subst (λ x. IsWithin r.strict x r.b) (sym (substituted_value r.a)) (within_there r.strict c d r.b h),
        λ h. within_back r.strict c d r.b (subst (λ x. IsWithin r.strict x r.b) (substituted_value r.a) h),
      )

  rows_there : (rows : List Row) → AllByRecursion (MeetsRow t) (map (substituted n forms) rows) → AllByRecursion (MeetsRow (mat_vec forms (extended t))) rows
  rows_there [] h = tt
  rows_there (r ∷ rows) h = ((substituted_meets r).0 h.0, rows_there rows h.1)

  rows_back : (rows : List Row) → AllByRecursion (MeetsRow (mat_vec forms (extended t))) rows → AllByRecursion (MeetsRow t) (map (substituted n forms) rows)
  rows_back [] h = tt
  rows_back (r ∷ rows) h = ((substituted_meets r).1 h.0, rows_back rows h.1)

  pub substituted_points : (rows : List Row) → All (MeetsRow t) (map (substituted n forms) rows) ↔ All (MeetsRow (mat_vec forms (extended t))) rows
  substituted_points rows = (
    λ h. All-from_recursion (MeetsRow (mat_vec forms (extended t))) rows (rows_there rows (recursion_from_All (MeetsRow t) (map (substituted n forms) rows) h)),
    λ h. All-from_recursion (MeetsRow t) (map (substituted n forms) rows) (rows_back rows (recursion_from_All (MeetsRow (mat_vec forms (extended t))) rows h)),
  )

-- ---- coefficients one after another
later-append : (xs : List ℚ) (x : ℚ) → 1 ≤ length xs → later_entries (xs ++ x ∷ []) ≡ later_entries xs ++ x ∷ []
later-append [] x h = absurd (omega arith)
later-append (y ∷ xs) x h = refl

pub sides_none : (form sides : List ℚ) → 1 ≤ length form → sides ≡ [] → sides ≡ later_entries (take 1 form)
sides_none [] sides h e = absurd (omega arith)
sides_none (x ∷ form) sides h e = e

length_taken : (xs : List ℚ) (j : ℕ) → 1 ≤ j → 1 ≤ length xs → 1 ≤ length (take j xs)
length_taken [] j h l = absurd (omega arith)
length_taken (x ∷ xs) zero h l = absurd (omega arith)
length_taken (x ∷ xs) (suc j) h l = omega arith

pub sides_more : (form sides new : List ℚ) (j : ℕ) (x : ℚ) → 1 ≤ j → j < length form → sides ≡ later_entries (take j form) → new ≡ sides ++ x ∷ [] → x ≡ coordinate form j → new ≡ later_entries (take (j + 1) form)
sides_more form sides new j x h l so e ex =
    e ∙ (λ i. so i ++ ex i ∷ []) ∙ sym (ap later_entries (take_more form j (int (pos 0)) l) ∙ later-append (take j form) (coordinate form j) (length_taken form j h (omega arith)))

pub sides_done : (form sides : List ℚ) (j : ℕ) → j ≡ length form → sides ≡ later_entries (take j form) → sides ≡ later_entries form
sides_done form sides j e so = so ∙ ap later_entries (ap (λ n. take n form) e ∙ take-length form)

minus : (x : ℚ) → neg_ℚ x ≡ int (negsuc 0) *ℚ x
minus x = by_ring (x ∷ []) (search reads depth 30) (search reads depth 30) tt

scale-append : (xs : List ℚ) (x : ℚ) → vec_scale (int (negsuc 0)) (xs ++ x ∷ []) ≡ vec_scale (int (negsuc 0)) xs ++ (int (negsuc 0) *ℚ x) ∷ []
scale-append [] x = refl
scale-append (y ∷ xs) x = ap (λ ys. (int (negsuc 0) *ℚ y) ∷ ys) (scale-append xs x)

pub negatives_none : (form sides : List ℚ) → 1 ≤ length form → sides ≡ [] → sides ≡ vec_scale (int (negsuc 0)) (later_entries (take 1 form))
negatives_none [] sides h e = absurd (omega arith)
negatives_none (x ∷ form) sides h e = e

pub negatives_more : (form sides new : List ℚ) (j : ℕ) (x y : ℚ) → 1 ≤ j → j < length form → sides ≡ vec_scale (int (negsuc 0)) (later_entries (take j form)) → new ≡ sides ++ y ∷ [] → y ≡ neg_ℚ x → x ≡ coordinate form j
    → new ≡ vec_scale (int (negsuc 0)) (later_entries (take (j + 1) form))
negatives_more form sides new j x y h l so e ey ex =
    e ∙ (λ i. so i ++ (ey ∙ ap neg_ℚ ex ∙ minus (coordinate form j)) i ∷ []) ∙ sym (scale-append (later_entries (take j form)) (coordinate form j))
    ∙ sym (ap (λ xs. vec_scale (int (negsuc 0)) (later_entries xs)) (take_more form j (int (pos 0)) l) ∙ ap (vec_scale (int (negsuc 0))) (later-append (take j form) (coordinate form j) (length_taken form j h (omega arith))))

pub negatives_done : (form sides : List ℚ) (j : ℕ) → j ≡ length form → sides ≡ vec_scale (int (negsuc 0)) (later_entries (take j form)) → sides ≡ vec_scale (int (negsuc 0)) (later_entries form)
negatives_done form sides j e so = so ∙ ap (λ xs. vec_scale (int (negsuc 0)) (later_entries xs)) (ap (λ n. take n form) e ∙ take-length form)

pub record SubstitutedSo (forms : List (List ℚ)) (a : List ℚ) (j : ℕ) (sides : List ℚ) : Type 0 where
  pub entries : sides ≡ substituted_sides j forms a
  pub fits : (k : ℕ) → k < j → DotFits a (column forms (k + 1))

pub substituted_none : (forms : List (List ℚ)) (a sides : List ℚ) → sides ≡ [] → SubstitutedSo forms a 0 sides
substituted_none forms a sides e = record { entries = e; fits = λ k h. absurd (omega arith) }

pub substituted_more : (forms : List (List ℚ)) (a sides new : List ℚ) (j : ℕ) (x : ℚ) → SubstitutedSo forms a j sides → new ≡ sides ++ x ∷ [] → x ≡ dot a (column forms (j + 1)) → DotFits a (column forms (j + 1)) → SubstitutedSo forms a (j + 1) new
substituted_more forms a sides new j x so e ex f = record {
  entries = e ∙ (λ i. so.entries i ++ ex i ∷ []) ∙ sym (map-range_with_len_more (λ k. dot a (column forms (k + 1))) 0 j j (zero-add j));
  fits = below_next (λ k. DotFits a (column forms (k + 1))) j so.fits f;
}

-- ---- sizes
later_size : (form : List ℚ) (n : ℕ) → length form ≡ n + 1 → length (later_entries form) ≡ n
later_size [] n e = absurd (omega arith)
later_size (x ∷ form) n e = omega arith

pub low_size : (form : List ℚ) (n : ℕ) → length form ≡ n + 1 → length (low_row form).a ≡ n
low_size form n e = later_size form n e

pub high_size : (form : List ℚ) (count n : ℕ) → length form ≡ n + 1 → length (high_row form count).a ≡ n
high_size form count n e = length-scale (int (negsuc 0)) (later_entries form) ∙ later_size form n e

pub substituted_size : (n : ℕ) (forms : List (List ℚ)) (r : Row) → length (substituted n forms r).a ≡ n
substituted_size n forms r = length-listed n (λ j. dot r.a (column forms (j + 1)))

-- ---- what is read
pub entry_read : (xs : List ℚ) (k : ℕ) (x : ℚ) → k < length xs → x ≡ get_or xs k x → x ≡ coordinate xs k
entry_read xs k x h e = e ∙ get_or_default xs k x (int (pos 0)) h

pub form_entry : (forms : List (List ℚ)) (k j : ℕ) (form : List ℚ) (x : ℚ) → k < length forms → form ≡ get_or forms k form → x ≡ coordinate form j → x ≡ coordinate (column forms j) k
form_entry forms k j form x h e ex = ex ∙ ap (λ f. coordinate f j) (e ∙ get_or_default forms k form [] h) ∙ sym (coordinate-column forms k j)
