-- The place of a row among the members of a set.
use Rattle.std.proofs.Common.{◌≡◌, ℕ, zero, suc, ◌+◌, ◌<◌, ◌≤◌, ◌||◌, true, false, eqb, List, [], ◌∷◌, length, get_or, refl, sym, ◌∙◌, ap, arith, eq-eqb, ne_eqb, zero-lt-suc, ◌⊎◌, inl, inr}
use Rattle.std.proofs.lemmas.Bool.{cond-true, cond-false, cases_eq}
use Rattle.mpc_sets.specs.RowSet.{RisesWithin}
use Rattle.mpc_rows.specs.LawRows.{is_member, place_of}

-- none of the first k members is the row
abbrev pub NotBefore : List ℕ → ℕ → ℕ → Type 0
NotBefore s i k = (j : ℕ) → j < k → get_or s j 0 ≡ i → ⊥

member_here : (i j : ℕ) (s : List ℕ) → i ≡ j → is_member i (j ∷ s) ≡ true
member_here i j s e = ap (λ b. b || is_member i s) (eq-eqb i j e)

member_later : (i j : ℕ) (s : List ℕ) → (i ≡ j → ⊥) → is_member i (j ∷ s) ≡ is_member i s
member_later i j s n = ap (λ b. b || is_member i s) (ne_eqb i j n)

place_here : (i j : ℕ) (s : List ℕ) → i ≡ j → place_of i (j ∷ s) ≡ 0
place_here i j s e = cond-true (eqb i j) 0 (suc (place_of i s)) (eq-eqb i j e)

place_later : (i j : ℕ) (s : List ℕ) → (i ≡ j → ⊥) → place_of i (j ∷ s) ≡ suc (place_of i s)
place_later i j s n = cond-false (eqb i j) 0 (suc (place_of i s)) (ne_eqb i j n)

pub place_found : (s : List ℕ) (i k : ℕ) → k < length s → get_or s k 0 ≡ i → NotBefore s i k → (is_member i s ≡ true) × (k ≡ place_of i s)
place_found [] i k h e n = absurd (omega arith)
place_found (j ∷ s) i zero h e n = (member_here i j s (sym e), sym (place_here i j s (sym e)))
place_found (j ∷ s) i (suc k) h e n =
    let other : i ≡ j → ⊥ = λ f. n 0 (zero-lt-suc k) (sym f) in
    let rest = place_found s i k (omega arith) e (λ m l. n (suc m) (omega arith)) in
    (member_later i j s other ∙ rest.0, ap suc rest.1 ∙ sym (place_later i j s other))

pub place_none : (s : List ℕ) (i : ℕ) → NotBefore s i (length s) → is_member i s ≡ false
place_none [] i n = refl
place_none (j ∷ s) i n = member_later i j s (λ f. n 0 (zero-lt-suc (length s)) (sym f)) ∙ place_none s i (λ m l. n (suc m) (omega arith))

-- ---- a member's place
pub member_place : (s : List ℕ) (i : ℕ) → is_member i s ≡ true → (place_of i s < length s) × (get_or s (place_of i s) 0 ≡ i)
member_place [] i e = absurd (false_true e)
  where
    false_true : false ≡ true → ⊥
    false_true e = cc
member_place (j ∷ s) i e = by (cases_eq i j) (member_place s i)
  where
    by : (i ≡ j) ⊎ (i ≡ j → ⊥) → (is_member i s ≡ true → (place_of i s < length s) × (get_or s (place_of i s) 0 ≡ i)) → (place_of i (j ∷ s) < length (j ∷ s)) × (get_or (j ∷ s) (place_of i (j ∷ s)) 0 ≡ i)
    by (inl f) ih = rw (place_here i j s f) (zero-lt-suc (length s), sym f)
    by (inr f) ih =
        let rest = ih (sym (member_later i j s f) ∙ e) in
        let below : place_of i s < length s = rest.0 in
        rw (place_later i j s f) (omega arith, rest.1)

above : (low high : ℕ) (s : List ℕ) (k : ℕ) → RisesWithin low high s → k < length s → (low < get_or s k 0) × (get_or s k 0 ≤ high)
above low high [] k r h = absurd (omega arith)
above low high (j ∷ s) zero r h = (r.0, r.1)
above low high (j ∷ s) (suc k) r h = let rest = above j high s k r.2 (omega arith) in (let a : j < get_or s k 0 = rest.0 in let b : low < j = r.0 in omega arith, rest.1)

-- the member at a place is a row of the program, and that place is its own
pub place_of-member : (low high : ℕ) (s : List ℕ) (k : ℕ) → RisesWithin low high s → k < length s → (is_member (get_or s k 0) s ≡ true) × (k ≡ place_of (get_or s k 0) s)
place_of-member low high s k r h = place_found s (get_or s k 0) k h refl (apart low high s k r h)
  where
    apart : (low high : ℕ) (s : List ℕ) (k : ℕ) → RisesWithin low high s → k < length s → NotBefore s (get_or s k 0) k
    apart low high [] k r h j l e = absurd (omega arith)
    apart low high (x ∷ s) zero r h j l e = absurd (omega arith)
    apart low high (x ∷ s) (suc k) r h zero l e = let later : x < get_or s k 0 = (above x high s k r.2 (omega arith)).0 in absurd (omega arith)
    apart low high (x ∷ s) (suc k) r h (suc j) l e = apart x high s k r.2 (omega arith) j (omega arith) e

pub member_bounds : (high : ℕ) (s : List ℕ) (k : ℕ) → RisesWithin 0 high s → k < length s → (1 ≤ get_or s k 0) × (get_or s k 0 ≤ high)
member_bounds high s k r h = let b = above 0 high s k r h in (let l : 0 < get_or s k 0 = b.0 in omega arith, b.1)
