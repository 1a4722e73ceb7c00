-- What the mask of a set says of its members.
use Rattle.std.proofs.Common.{◌≡◌, ℕ, suc, zero, ◌+◌, ◌-◌, ◌*◌, ◌/◌, ◌%◌, ◌^◌, ◌<◌, ◌≤◌, ◌⊎◌, Bool, true, false, cond, ◌==◌, List, [], ◌∷◌, ◌++◌, length, Contains, get_or, refl, sym, ap, ◌∙◌, subst, inl, inr, arith, drop, drop-drop, get_or-drop, add-zero, length-drop, ◌↔◌, IsTrue, nat_eq, bit_and, bit_or, count_ones}
use Rattle.std.proofs.lemmas.Bool.{eq-eqb, eqb-true, eqb-false, cases_eq, cases_lt}
use Rattle.std.proofs.lemmas.Nat.{or_lt, one_shl, and_le_l, pow_pos, pow_below, leading_top, shr_below, le-div}
use Rattle.std.proofs.lemmas.Nat.Bits.{shr_and_one, bit_at_lowest, bit_at-suc, bit_at_above, bit_at_set_same, bit_at_set_other, bit_at_clear_same, bit_at_clear_other, bit_at-trailing_zeros}
use Rattle.std.proofs.Math.Nat.{pow-suc}
use Rattle.std.specs.Int.{bit_at, bit_not, trailing_zeros, w64}
use lib.Bits.{and_step, and_shr, and_self}
use lib.Count.{ones, ones_step, count_leading_zeros}
use Rattle.mpc_sets.specs.RowSet.{Among, RisesWithin, IsSetOfRows, with_row, without_row}
use Rattle.mpc_sets.specs.SetMask.{ones_from, members_of, IsMask}
use Rattle.mpc_sets.proofs.RowSets.{head_least, greatest_last, length-rises, Among_at, Contains-from_among, Among-from_contains, Among_within, same_members, Among-with_row, Among-with_row_cases, RisesWithin-with_row, Among-without_row, Among-without_row_cases, RisesWithin-without_row}

-- ---- the ones of a number rise
pub ones_from-rises : (d low first high n : ℕ) → low < first → first + d ≤ high + 1 → RisesWithin low high (ones_from d first n)
unfolding ones_from
ones_from-rises zero low first high n p q = tt
ones_from-rises (suc d) low first high n p q =
    elim (n % 2 == 1) as (λ b. RisesWithin low high (cond b (first ∷ ones_from d (suc first) (n / 2)) (ones_from d (suc first) (n / 2)))) [
      | true ↦ (p, omega arith, ones_from-rises d first (suc first) high (n / 2) (omega arith) (omega arith))
      | false ↦ ones_from-rises d low (suc first) high (n / 2) (omega arith) (omega arith)
    ]

even_step : (d first n : ℕ) → n % 2 ≡ 0 → ones_from (suc d) first n ≡ ones_from d (suc first) (n / 2)
unfolding ones_from
even_step d first n e = rw e

pub members_of-is_set : (n : ℕ) → IsMask n → IsSetOfRows 60 (members_of n)
unfolding members_of
members_of-is_set n h = record { rises = rw (even_step 60 0 n h.from_one) (ones_from-rises 60 0 1 60 (n / 2) (omega arith) (omega arith)) }

-- ---- a row is a member where its bit is set
Among-ones_from : (d first n k : ℕ) → k < d → bit_at n k ≡ 1 → Among (first + k) (ones_from d first n)
unfolding ones_from
Among-ones_from zero first n k p h = absurd (omega arith)
Among-ones_from (suc d) first n zero p h = let one : n % 2 ≡ 1 = sym (bit_at_lowest n) ∙ h in rw one (inl (omega arith))
Among-ones_from (suc d) first n (suc k) p h =
    let later : Among (first + suc k) (ones_from d (suc first) (n / 2)) = rw (← shifted first k) (Among-ones_from d (suc first) (n / 2) k (omega arith) (sym (bit_at-suc n k) ∙ h)) in
    elim (n % 2 == 1) as (λ b. Among (first + suc k) (cond b (first ∷ ones_from d (suc first) (n / 2)) (ones_from d (suc first) (n / 2)))) [ true ↦ inr later | false ↦ later ]
  where
    shifted : (first k : ℕ) → suc first + k ≡ first + suc k
    shifted first k = omega arith

bit_of_among : (d first n i : ℕ) → Among i (ones_from d first n) → (k : ℕ) × (i ≡ first + k) × (k < d) × (bit_at n k ≡ 1)
unfolding ones_from
bit_of_among zero first n i h = absurd h
bit_of_among (suc d) first n i h = by (n % 2 == 1) refl h (bit_of_among d (suc first) (n / 2) i)
  where
    later : ((k : ℕ) × (i ≡ suc first + k) × (k < d) × (bit_at (n / 2) k ≡ 1)) → (k : ℕ) × (i ≡ first + k) × (k < suc d) × (bit_at n k ≡ 1)
    later (k, e, p, b) = (suc k, omega arith, omega arith, bit_at-suc n k ∙ b)

    by : (b : Bool) → (n % 2 == 1) ≡ b → Among i (cond b (first ∷ ones_from d (suc first) (n / 2)) (ones_from d (suc first) (n / 2)))
        → (Among i (ones_from d (suc first) (n / 2)) → (k : ℕ) × (i ≡ suc first + k) × (k < d) × (bit_at (n / 2) k ≡ 1)) → (k : ℕ) × (i ≡ first + k) × (k < suc d) × (bit_at n k ≡ 1)
    by true e (inl f) ih = (0, omega arith, omega arith, bit_at_lowest n ∙ eqb-true _ _ e)
    by true e (inr a) ih = later (ih a)
    by false e a ih = later (ih a)

pub Among-members_of : (n i : ℕ) → i ≤ 60 → bit_at n i ≡ 1 → Among i (members_of n)
unfolding members_of
Among-members_of n i p h = rw (← start i) (Among-ones_from 61 0 n i (omega arith) h)
  where
    start : (i : ℕ) → 0 + i ≡ i
    start i = omega arith

pub bit_of_member : (n i : ℕ) → Among i (members_of n) → bit_at n i ≡ 1
unfolding members_of
bit_of_member n i h = let (k, e, p, b) = bit_of_among 61 0 n i h in rw (same i k e) b
  where
    same : (i k : ℕ) → i ≡ 0 + k → i ≡ k
    same i k e = omega arith

-- ---- one bit set or cleared
below_61 : (i : ℕ) → i ≤ 60 → 2 ^ i < 2 ^ 61
below_61 i p = pow_below i 61 (omega arith)

module _ (n i : ℕ) (h : IsMask n) (p : 1 ≤ i) (q : i ≤ 60) where
  pub IsMask-set : IsMask (bit_or n (1 * 2 ^ i % 2 ^ 64))
  IsMask-set = record {
    fits = rw (one_shl i 64 (omega arith)) (or_lt 61 n (2 ^ i) h.fits (below_61 i q));
    from_one = sym (bit_at_lowest (bit_or n (1 * 2 ^ i % 2 ^ 64))) ∙ bit_at_set_other w64 n i (omega arith) 0 (λ e. omega arith) ∙ bit_at_lowest n ∙ h.from_one;
  }

  pub members_of-set : members_of (bit_or n (1 * 2 ^ i % 2 ^ 64)) ≡ with_row i (members_of n)
  members_of-set =
      let new = members_of-is_set (bit_or n (1 * 2 ^ i % 2 ^ 64)) IsMask-set in
      let old = members_of-is_set n h in
      same_members 0 60 _ _ new.rises (RisesWithin-with_row i 0 60 (members_of n) (omega arith) q old.rises) into out
    where
      into : (k : ℕ) → Among k (members_of (bit_or n (1 * 2 ^ i % 2 ^ 64))) → Among k (with_row i (members_of n))
      into k a =
          let w = Among_within 0 60 k _ (members_of-is_set (bit_or n (1 * 2 ^ i % 2 ^ 64)) IsMask-set).rises a in
          Among-with_row i k (members_of n) (elim (cases_eq k i) [
            | inl e ↦ inl e
            | inr f ↦ inr (Among-members_of n k w.1 (sym (bit_at_set_other w64 n i (omega arith) k f) ∙ bit_of_member _ k a))
          ])

      out : (k : ℕ) → Among k (with_row i (members_of n)) → Among k (members_of (bit_or n (1 * 2 ^ i % 2 ^ 64)))
      out k a =
          let w = Among_within 0 60 k _ (RisesWithin-with_row i 0 60 (members_of n) (omega arith) q (members_of-is_set n h).rises) a in
          elim (cases_eq k i) [
            | inl e ↦ Among-members_of _ k w.1 (ap (λ j. bit_at (bit_or n (1 * 2 ^ i % 2 ^ 64)) j) e ∙ bit_at_set_same w64 n i (omega arith))
            | inr f ↦ Among-members_of _ k w.1 (bit_at_set_other w64 n i (omega arith) k f ∙ bit_of_member n k (elim (Among-with_row_cases i k (members_of n) a) [ inl e ↦ absurd (f e) | inr b ↦ b ]))
          ]

  pub IsMask-cleared : IsMask (bit_and n (bit_not w64 (1 * 2 ^ i % 2 ^ 64)))
  IsMask-cleared = record {
    fits = omega (arith, h.fits, and_le_l n (bit_not w64 (1 * 2 ^ i % 2 ^ 64)));
    from_one = sym (bit_at_lowest (bit_and n (bit_not w64 (1 * 2 ^ i % 2 ^ 64)))) ∙ bit_at_clear_other w64 n i (omega arith) 0 (omega arith) (λ e. omega arith) ∙ bit_at_lowest n ∙ h.from_one;
  }

  pub members_of-cleared : members_of (bit_and n (bit_not w64 (1 * 2 ^ i % 2 ^ 64))) ≡ without_row i (members_of n)
  members_of-cleared = same_members 0 60 _ _ (members_of-is_set _ IsMask-cleared).rises (RisesWithin-without_row i 0 60 (members_of n) (members_of-is_set n h).rises) into out
    where
      into : (k : ℕ) → Among k (members_of (bit_and n (bit_not w64 (1 * 2 ^ i % 2 ^ 64)))) → Among k (without_row i (members_of n))
      into k a =
          let w = Among_within 0 60 k _ (members_of-is_set _ IsMask-cleared).rises a in
          elim (cases_eq k i) [
            | inl e ↦ absurd (apart _ (bit_of_member _ k a) (ap (λ j. bit_at (bit_and n (bit_not w64 (1 * 2 ^ i % 2 ^ 64))) j) e ∙ bit_at_clear_same w64 n i (omega arith)))
            | inr f ↦ Among-without_row i k (members_of n) f (Among-members_of n k w.1 (sym (bit_at_clear_other w64 n i (omega arith) k (omega (arith, w)) f) ∙ bit_of_member _ k a))
          ]
        where
          apart : (b : ℕ) → b ≡ 1 → b ≡ 0 → ⊥
          apart b e f = omega arith

      out : (k : ℕ) → Among k (without_row i (members_of n)) → Among k (members_of (bit_and n (bit_not w64 (1 * 2 ^ i % 2 ^ 64))))
      out k a =
          let r = Among-without_row_cases i k (members_of n) a in
          let w = Among_within 0 60 k _ (members_of-is_set n h).rises r.1 in
          Among-members_of _ k w.1 (bit_at_clear_other w64 n i (omega arith) k (omega (arith, w)) r.0 ∙ bit_of_member n k r.1)

-- ---- the number of members
pub length-ones_from : (d first n : ℕ) → n < 2 ^ d → length (ones_from d first n) ≡ count_ones n
unfolding ones_from ones
length-ones_from zero first n h = let none : n ≡ 0 = omega arith in sym (ap count_ones none)
length-ones_from (suc d) first n h = by (n % 2 == 1) refl (length-ones_from d (suc first) (n / 2) (omega (arith, pow-suc 2 d))) ∙ sym (ones_step n)
  where
    by : (b : Bool) → (n % 2 == 1) ≡ b → length (ones_from d (suc first) (n / 2)) ≡ count_ones (n / 2) → length (cond b (first ∷ ones_from d (suc first) (n / 2)) (ones_from d (suc first) (n / 2))) ≡ n % 2 + count_ones (n / 2)
    by true e h = let one = eqb-true _ _ e in omega arith
    by false e h = let none = eqb-false _ _ e in omega arith

pub length-members_of : (n : ℕ) → IsMask n → count_ones n ≡ length (members_of n)
unfolding members_of
length-members_of n h = sym (length-ones_from 61 0 n h.fits)

pub members_of-none : members_of 0 ≡ []
unfolding members_of ones_from
members_of-none = refl

-- the test `mask >> i & 1 == 1`
pub bit_tells_member : (n i : ℕ) (s : List ℕ) → i ≤ 60 → members_of n ≡ s → IsTrue (nat_eq (bit_and (n / 2 ^ i) 1) 1) ↔ Contains s i
bit_tells_member n i s p e = (
  λ t. Contains-from_among i s (subst (Among i) e (Among-members_of n i p (sym (shr_and_one n i) ∙ eqb-true _ _ t))),
  λ h. eq-eqb _ _ (shr_and_one n i ∙ bit_of_member n i (subst (Among i) (sym e) (Among-from_contains i s h))),
)

-- ---- the members from the lowest on
-- a mask of the members of s but the first k
pub record IsRestOf (rest k : ℕ) (s : List ℕ) : Type 0 where
  pub is_mask : IsMask rest
  pub members : members_of rest ≡ drop k s

halves_at_one : (n : ℕ) → n % 2 ≡ 1 → ((n - 1) / 2 ≡ n / 2) × ((n - 1) % 2 ≡ 0)
halves_at_one n e = (omega arith, omega arith)

halves_at_zero : (n : ℕ) → 0 < n → n % 2 ≡ 0 → ((n - 1) / 2 ≡ n / 2 - 1) × ((n - 1) % 2 ≡ 1) × (0 < n / 2)
halves_at_zero n p e = (omega arith, omega arith, omega arith)

and_half : (a b : ℕ) → bit_and a b / 2 ≡ bit_and (a / 2) (b / 2)
and_half a b = and_shr a b 1

and_lowest : (a b : ℕ) → a % 2 ≡ 0 ⊎ b % 2 ≡ 0 → bit_and a b % 2 ≡ 0
and_lowest a b h = let step = and_step a b in elim h [ inl e ↦ omega (arith, step) | inr e ↦ omega (arith, step) ]

pub skipped : (d first m h : ℕ) → m % 2 ≡ 0 → m / 2 ≡ h → ones_from (suc d) first m ≡ ones_from d (suc first) h
unfolding ones_from
skipped d first m h e f = rw e (ap (ones_from d (suc first)) f)

pub taken : (d first n : ℕ) → n % 2 ≡ 1 → ones_from (suc d) first n ≡ first ∷ ones_from d (suc first) (n / 2)
unfolding ones_from
taken d first n e = rw e

-- n & (n - 1) lacks the lowest one of n
ones_from-cleared : (d first n : ℕ) → 0 < n → ones_from d first (bit_and n (n - 1)) ≡ drop 1 (ones_from d first n)
unfolding ones_from
ones_from-cleared zero first n some = refl
ones_from-cleared (suc d) first n some = by (n % 2 == 1) refl (ones_from-cleared d (suc first) (n / 2))
  where
    by : (b : Bool) → (n % 2 == 1) ≡ b → (0 < n / 2 → ones_from d (suc first) (bit_and (n / 2) (n / 2 - 1)) ≡ drop 1 (ones_from d (suc first) (n / 2))) → ones_from (suc d) first (bit_and n (n - 1)) ≡ drop 1 (ones_from (suc d) first n)
    by true e ih =
        let one = eqb-true _ _ e in
        let half = halves_at_one n one in
        skipped d first (bit_and n (n - 1)) (n / 2) (and_lowest n (n - 1) (inr half.1)) (and_half n (n - 1) ∙ ap (bit_and (n / 2)) half.0 ∙ and_self (n / 2)) ∙ sym (ap (drop 1) (taken d first n one))
    by false e ih =
        let not_one = eqb-false _ _ e in
        let none : n % 2 ≡ 0 = omega arith in
        let half = halves_at_zero n some none in
        skipped d first (bit_and n (n - 1)) (bit_and (n / 2) (n / 2 - 1)) (and_lowest n (n - 1) (inl none)) (and_half n (n - 1) ∙ ap (bit_and (n / 2)) half.0)
        ∙ ih half.2 ∙ sym (ap (drop 1) (skipped d first n (n / 2) none refl))

pub IsMask-cleared_lowest : (n : ℕ) → IsMask n → IsMask (bit_and n (n - 1))
IsMask-cleared_lowest n h = record { fits = omega (arith, h.fits, and_le_l n (n - 1)); from_one = and_lowest n (n - 1) (inl h.from_one) }

members_of-cleared_lowest : (n : ℕ) → 0 < n → members_of (bit_and n (n - 1)) ≡ drop 1 (members_of n)
unfolding members_of
members_of-cleared_lowest n some = ones_from-cleared 61 0 n some

least_member : (n : ℕ) → IsMask n → 0 < n → Among (trailing_zeros w64 n) (members_of n) × ((i : ℕ) → Among i (members_of n) → trailing_zeros w64 n ≤ i)
least_member n h some =
    let (below, one, none_below) = bit_at-trailing_zeros w64 n some (omega (arith, h.fits)) in
    (Among-members_of n (trailing_zeros w64 n) (elim (cases_lt 60 (trailing_zeros w64 n)) [ inl p ↦ absurd (apart _ one (bit_at_above n 61 (trailing_zeros w64 n) h.fits (omega arith))) | inr q ↦ q ]) one, λ i a. elim (cases_lt i (trailing_zeros w64 n)) [ inl p ↦ absurd (apart _ (bit_of_member n i a) (none_below i p)) | inr q ↦ q ])
  where
    apart : (b : ℕ) → b ≡ 1 → b ≡ 0 → ⊥
    apart b e f = omega arith

module _ (rest k : ℕ) (s : List ℕ) (h : IsRestOf rest k s) where
  pub some_left : k < length s → 1 ≤ rest
  some_left p =
      elim (cases_eq rest 0) [
        | inl e ↦ absurd (left_none (ap length (sym h.members ∙ ap members_of e ∙ members_of-none)) (length-drop k s))
        | inr f ↦ omega arith
      ]
    where
      left_none : length (drop k s) ≡ 0 → length (drop k s) ≡ length s - k → ⊥
      left_none a b = omega arith

  pub IsRestOf-next : k < length s → IsRestOf (bit_and rest (rest - 1)) (k + 1) s
  IsRestOf-next p = record {
    is_mask = IsMask-cleared_lowest rest h.is_mask;
    members = members_of-cleared_lowest rest (some_left p) ∙ ap (drop 1) h.members ∙ drop-drop 1 k s;
  }

  -- the place of its lowest one
  pub lowest_left : k < length s → trailing_zeros w64 rest ≡ get_or s k 0
  lowest_left p =
      let least = least_member rest h.is_mask (some_left p) in
      sym (head_least (trailing_zeros w64 rest) 0 60 (members_of rest) 0 (members_of-is_set rest h.is_mask).rises least.0 least.1)
      ∙ ap (λ u. get_or u 0 0) h.members ∙ get_or-drop k s 0 0 ∙ ap (λ j. get_or s j 0) (add-zero k)

pub IsRestOf-start : (n : ℕ) (s : List ℕ) → IsMask n → members_of n ≡ s → IsRestOf n 0 s
IsRestOf-start n s h e = record { is_mask = h; members = e }

-- ---- the greatest member
top_bit : (a j : ℕ) → 2 ^ j ≤ a → a < 2 ^ suc j → bit_at a j ≡ 1
top_bit a j low high =
    let below : a / 2 ^ j < 2 ^ 1 = shr_below a 1 j (subst (λ n. a < 2 ^ n) (one_more j) high) in
    let above : 1 ≤ a / 2 ^ j = le-div 1 a (2 ^ j) (pow_pos j) (omega arith) in
    let one : a / 2 ^ j ≡ 1 = omega arith in
    ap (λ n. n % 2) one
  where
    one_more : (j : ℕ) → suc j ≡ 1 + j
    one_more j = omega arith

pub record IsGreatest (t : ℕ) (s : List ℕ) : Type 0 where
  pub member : Among t s
  pub most : (i : ℕ) → Among i s → i ≤ t

pub greatest_member : (n : ℕ) → IsMask n → 0 < n → (count_leading_zeros 64 n ≤ 63) × IsGreatest (63 - count_leading_zeros 64 n) (members_of n)
greatest_member n h some = by (leading_top 64 n some (omega (arith, h.fits)))
  where
    apart : (b : ℕ) → b ≡ 1 → b ≡ 0 → ⊥
    apart b e f = omega arith

    by : (j : ℕ) × (count_leading_zeros 64 n + suc j ≡ 64) × (2 ^ j ≤ n) × (n < 2 ^ suc j) → (count_leading_zeros 64 n ≤ 63) × IsGreatest (63 - count_leading_zeros 64 n) (members_of n)
    by (j, e, low, high) =
        let place : j ≡ 63 - count_leading_zeros 64 n = omega arith in
        let one = top_bit n j low high in
        let within : j ≤ 60 = elim (cases_lt 60 j) [ inl p ↦ absurd (apart _ one (bit_at_above n 61 j h.fits (omega arith))) | inr q ↦ q ] in (
          omega arith,
          subst (λ t. IsGreatest t (members_of n)) place (record {
            member = Among-members_of n j within one;
            most = λ i a. elim (cases_lt j i) [ inl p ↦ absurd (apart _ (bit_of_member n i a) (bit_at_above n (suc j) i high (omega arith))) | inr q ↦ q ];
          }),
        )

module _ (n : ℕ) (s : List ℕ) (h : IsMask n) (e : members_of n ≡ s) (some : 0 < length s) where
  greatest_of : (count_leading_zeros 64 n ≤ 63) × IsGreatest (63 - count_leading_zeros 64 n) (members_of n)
  greatest_of = greatest_member n h (some_left n 0 s (IsRestOf-start n s h e) some)

  pub leading_within : count_leading_zeros 64 n ≤ 63
  leading_within = greatest_of.0

  pub last_is : s ≡ without_row (63 - count_leading_zeros 64 n) s ++ (63 - count_leading_zeros 64 n) ∷ []
  last_is = subst (λ u. u ≡ without_row (63 - count_leading_zeros 64 n) u ++ (63 - count_leading_zeros 64 n) ∷ []) e
      (greatest_last (63 - count_leading_zeros 64 n) 0 60 (members_of n) (members_of-is_set n h).rises greatest_of.1.member greatest_of.1.most)

  pub last_within : (1 ≤ 63 - count_leading_zeros 64 n) × (63 - count_leading_zeros 64 n ≤ 60)
  last_within = let w = Among_within 0 60 (63 - count_leading_zeros 64 n) (members_of n) (members_of-is_set n h).rises greatest_of.1.member in (omega arith, w.1)

pub length_within : (s : List ℕ) → IsSetOfRows 60 s → length s ≤ 60
length_within s h = omega (arith, length-rises 0 60 s (omega arith) h.rises)

pub member_within : (s : List ℕ) (k : ℕ) → IsSetOfRows 60 s → k < length s → (1 ≤ get_or s k 0) × (get_or s k 0 ≤ 60)
member_within s k h p = let w = Among_within 0 60 (get_or s k 0) s h.rises (Among_at s k p) in (omega arith, w.1)
