-- Comparing masks compares the sets of rows.
use Rattle.std.proofs.Common.{◌≡◌, ℕ, suc, zero, ◌+◌, ◌/◌, ◌%◌, ◌^◌, ◌<◌, Bool, true, false, ◌==◌, List, [], ◌∷◌, length, refl, sym, ap, ◌∙◌, inl, inr, arith, nat_eq, bit_and, bit_xor}
use Rattle.std.proofs.lemmas.Bool.{eq-eqb, eqb-true, eqb-false, cases_lt, lt-ltb}
use Rattle.std.proofs.lemmas.Nat.{xor_lt}
use Rattle.std.proofs.lemmas.Nat.Bits.{shr_and_one, bit_at_lowest, bit_at-suc, bit_at-lt, bit_at_above, bit_at_xor, bit_at-trailing_zeros, bit_at-zero, same_from_bits}
use Rattle.std.specs.Int.{bit_at, trailing_zeros, w64}
use Rattle.std.specs.Ordering.{nat_cmp, ordering_then, ordering_reverse}
use Rattle.std.specs.Cmp.{nat_cmp_total, tied_itself, both_ways}
use Rattle.std.specs.Cmp.Lexicographic.{slice_cmp, pointwise, nat_list_cmp_total}
use Rattle.std.specs.declared.cmp.Ordering.TheVariants.{Less, Equal, Greater}
use Rattle.mpc_sets.specs.RowSet.{RisesWithin}
use Rattle.mpc_sets.specs.SetMask.{ones_from, members_of, mask_of, IsMask, mask_of-members_of}
use Rattle.mpc_sets.specs.SetOrder.{pointwise-same, pointwise_true}
use Rattle.mpc_sets.proofs.Masks.{ones_from-rises, taken, skipped}

-- `==` of masks is `==` of sets
pub nat_eq-masks : (m n : ℕ) (s t : List ℕ) → IsMask m → IsMask n → members_of m ≡ s → members_of n ≡ t → nat_eq m n ≡ pointwise nat_eq s t
nat_eq-masks m n s t h k e f = both_ways (nat_eq m n) (pointwise nat_eq s t)
    (λ g. pointwise-same s t (sym e ∙ ap members_of (eqb-true m n g) ∙ f))
    (λ g. eq-eqb m n (sym (mask_of-members_of m h) ∙ ap mask_of (e ∙ pointwise_true s t g ∙ sym f) ∙ mask_of-members_of n k))

less_numbers : (i j : ℕ) → i < j → nat_cmp i j ≡ Less
less_numbers i j h = rw (lt-ltb i j h)

below_all : (first high : ℕ) (s t : List ℕ) → RisesWithin first high t → suc (length s) ≡ length t → slice_cmp nat_cmp (first ∷ s) t ≡ Less
below_all first high s [] r e = absurd (omega arith)
below_all first high s (j ∷ t) r e = rw (less_numbers first j r.0)

begins_first : (first high : ℕ) (s t u v : List ℕ) → u ≡ first ∷ s → v ≡ t → RisesWithin first high t → length u ≡ length v → slice_cmp nat_cmp u v ≡ Less
begins_first first high s t u v e f r long = rw (e, f) (below_all first high s t r (sym (ap length e) ∙ long ∙ ap length f))

begins_alike : (first : ℕ) (s t u v : List ℕ) → u ≡ first ∷ s → v ≡ first ∷ t → (length s ≡ length t → slice_cmp nat_cmp s t ≡ Less) → length u ≡ length v → slice_cmp nat_cmp u v ≡ Less
begins_alike first s t u v e f h long =
    let same : suc (length s) ≡ suc (length t) = sym (ap length e) ∙ long ∙ ap length f in
    rw (e, f) (ap (λ o. ordering_then o (slice_cmp nat_cmp s t)) (tied_itself nat_cmp_total first) ∙ h (omega arith))

begins_later : (s t u v : List ℕ) → u ≡ s → v ≡ t → (length s ≡ length t → slice_cmp nat_cmp s t ≡ Less) → length u ≡ length v → slice_cmp nat_cmp u v ≡ Less
begins_later s t u v e f h long = rw (e, f) (h (sym (ap length e) ∙ long ∙ ap length f))

-- the ones of a and of b are alike up to bit t, which only a has
first_difference : (d first a b t : ℕ) → t < d → ((i : ℕ) → i < t → bit_at a i ≡ bit_at b i) → bit_at a t ≡ 1 → bit_at b t ≡ 0
    → length (ones_from d first a) ≡ length (ones_from d first b) → slice_cmp nat_cmp (ones_from d first a) (ones_from d first b) ≡ Less
first_difference zero first a b t p same one none long = absurd (omega arith)
first_difference (suc d) first a b zero p same one none long =
    begins_first first (first + d) (ones_from d (suc first) (a / 2)) (ones_from d (suc first) (b / 2)) (ones_from (suc d) first a) (ones_from (suc d) first b)
    (taken d first a (sym (bit_at_lowest a) ∙ one)) (skipped d first b (b / 2) (sym (bit_at_lowest b) ∙ none) refl)
    (ones_from-rises d first (suc first) (first + d) (b / 2) (omega arith) (omega arith)) long
first_difference (suc d) first a b (suc t) p same one none long =
    by (b % 2 == 1) refl (first_difference d (suc first) (a / 2) (b / 2) t (omega arith) (λ i q. sym (bit_at-suc a i) ∙ same (suc i) (omega arith) ∙ bit_at-suc b i) (sym (bit_at-suc a t) ∙ one) (sym (bit_at-suc b t) ∙ none))
  where
    lowest : a % 2 ≡ b % 2
    lowest = sym (bit_at_lowest a) ∙ same 0 (omega arith) ∙ bit_at_lowest b

    by : (r : Bool) → (b % 2 == 1) ≡ r → (length (ones_from d (suc first) (a / 2)) ≡ length (ones_from d (suc first) (b / 2)) → slice_cmp nat_cmp (ones_from d (suc first) (a / 2)) (ones_from d (suc first) (b / 2)) ≡ Less)
        → slice_cmp nat_cmp (ones_from (suc d) first a) (ones_from (suc d) first b) ≡ Less
    by true e ih =
        let odd = eqb-true _ _ e in
        begins_alike first (ones_from d (suc first) (a / 2)) (ones_from d (suc first) (b / 2)) (ones_from (suc d) first a) (ones_from (suc d) first b) (taken d first a (lowest ∙ odd)) (taken d first b odd) ih long
    by false e ih =
        let not_one = eqb-false _ _ e in
        let even : b % 2 ≡ 0 = omega arith in
        begins_later (ones_from d (suc first) (a / 2)) (ones_from d (suc first) (b / 2)) (ones_from (suc d) first a) (ones_from (suc d) first b) (skipped d first a (a / 2) (lowest ∙ even) refl) (skipped d first b (b / 2) even refl) ih long

-- the lowest bit in which two masks differ
pub record DifferFirstAt (a b t : ℕ) : Type 0 where
  pub within : t < 61
  pub alike : (i : ℕ) → i < t → bit_at a i ≡ bit_at b i
  pub differ : (bit_at a t + bit_at b t) % 2 ≡ 1

alike_bits : (x y : ℕ) → x < 2 → y < 2 → (x + y) % 2 ≡ 0 → x ≡ y
alike_bits x y p q e = omega arith

pub differ_first_at : (a b : ℕ) → IsMask a → IsMask b → (bit_xor a b ≡ 0 → ⊥) → DifferFirstAt a b (trailing_zeros w64 (bit_xor a b))
differ_first_at a b h k some =
    let fits = xor_lt 61 a b h.fits k.fits in
    let (below, one, none_below) = bit_at-trailing_zeros w64 (bit_xor a b) (omega arith) (omega arith) in
    record {
      within = elim (cases_lt (trailing_zeros w64 (bit_xor a b)) 61) [ inl p ↦ p | inr q ↦ absurd (apart _ one (bit_at_above (bit_xor a b) 61 (trailing_zeros w64 (bit_xor a b)) fits q)) ];
      alike = λ i p. alike_bits (bit_at a i) (bit_at b i) (bit_at-lt a i) (bit_at-lt b i) (sym (bit_at_xor a b i) ∙ none_below i p);
      differ = sym (bit_at_xor a b (trailing_zeros w64 (bit_xor a b))) ∙ one;
    }
  where
    apart : (x : ℕ) → x ≡ 1 → x ≡ 0 → ⊥
    apart x e f = omega arith

module _ (a b t : ℕ) (s u : List ℕ) (e : members_of a ≡ s) (f : members_of b ≡ u) (long : length s ≡ length u) where
  same_length : length (members_of a) ≡ length (members_of b)
  same_length = ap length e ∙ long ∙ sym (ap length f)

  pub slice_cmp-less : DifferFirstAt a b t → bit_and (a / 2 ^ t) 1 ≡ 1 → slice_cmp nat_cmp s u ≡ Less
  unfolding members_of
  slice_cmp-less d g =
      let one = sym (shr_and_one a t) ∙ g in
      sym (λ i. slice_cmp nat_cmp (e i) (f i)) ∙ first_difference 61 0 a b t d.within d.alike one (omega (arith, d.differ, bit_at-lt b t)) same_length

  pub slice_cmp-greater : DifferFirstAt a b t → (bit_and (a / 2 ^ t) 1 ≡ 1 → ⊥) → slice_cmp nat_cmp s u ≡ Greater
  unfolding members_of
  slice_cmp-greater d g =
      let none : bit_at a t ≡ 0 = omega (arith, bit_at-lt a t, shr_and_one a t) in
      nat_list_cmp_total.antisymm s u ∙ ap ordering_reverse (sym (λ i. slice_cmp nat_cmp (f i) (e i)) ∙ first_difference 61 0 b a t d.within (λ i p. sym (d.alike i p)) (omega (arith, d.differ, bit_at-lt b t)) none (sym same_length))

pub same_from_xor : (a b : ℕ) → bit_xor a b ≡ 0 → a ≡ b
same_from_xor a b e = same_from_bits a b (λ i. alike_bits (bit_at a i) (bit_at b i) (bit_at-lt a i) (bit_at-lt b i) (sym (bit_at_xor a b i) ∙ ap (λ n. bit_at n i) e ∙ bit_at-zero i))

pub slice_cmp-equal : (a b : ℕ) (s u : List ℕ) → members_of a ≡ s → members_of b ≡ u → bit_xor a b ≡ 0 → slice_cmp nat_cmp s u ≡ Equal
slice_cmp-equal a b s u e f g = ap (slice_cmp nat_cmp s) (sym f ∙ ap members_of (sym (same_from_xor a b g)) ∙ e) ∙ tied_itself nat_list_cmp_total s
