-- No basis stands at two positions of a least-number run.
use Rattle.std.proofs.Common.{◌≡◌, ℕ, suc, ◌<◌, ◌≤◌, true, false, pos, negsuc, [], ◌∷◌, sym, ◌∙◌, ap, subst, subst₂, arith, ◌⊎◌, inl, inr, ⊎_elim, le-ltb}
use Rattle.std.proofs.lemmas.Bool.{cases_eq, cases_lt, cases_Bool, both_ways}
use Rattle.mpc_exact.specs.Rational.{ℚ, int, ◌+ℚ◌, ◌-ℚ◌, ◌*ℚ◌, neg_ℚ, ◌≤ℚ◌}
use Rattle.mpc_exact.proofs.RationalRing.{reads, by_ring}
use Rattle.mpc_exact.proofs.RationalOrder.{IsNonneg, gap, by_le, ≤ℚ_refl}
use Rattle.mpc_space.specs.Total.{total}
use Rattle.mpc_exact.specs.Pair.{Pair, IsAtMost}
use Rattle.mpc_rows.specs.LinearSystem.{LinearSystem}
use Rattle.mpc_rows.specs.Run.{Position, count, is_unknown, bound, value, position, GoesOn, OneBasis}
use Rattle.mpc_space.proofs.Total.{total-same, total-add, total-scale}
use Rattle.mpc_exact.proofs.Pair.{IsPairPositive, IsPairNonneg, pair_positive_add, pair_positive_weak, pair_nonneg_of_zero, pair_positive_scale, pair_nonneg_scale, pair_nonneg_zero, below_gap, at_most_gap, pair_conflict}
use Rattle.mpc_space.proofs.Total.{pair_total_positive}
use Rattle.mpc_runs.proofs.TableauRows.{Meets, row_value}
use Rattle.mpc_runs.proofs.Turn.{Goes, Leaves}
use Rattle.mpc_runs.proofs.Crossing.{Rises, Falls, Greatest, rises_around, falls_around, greatest}
use Rattle.mpc_runs.proofs.Positions.{tableau, rows_across, firsts, seconds, firsts_meet, seconds_meet, value_rest, rest_side, left_at, entered_at, basic_at, goes_at, after_left, after_entered, rise_entered, fall_left}

-- ---- over numbers alone
turn_signs : (c a b : ℚ) → neg_ℚ c *ℚ (b -ℚ a) ≡ c *ℚ (a -ℚ b)
turn_signs c a b = by_ring (c ∷ a ∷ b ∷ []) (search reads depth 30) (search reads depth 30) tt

negated : (c : ℚ) → c ≤ℚ int (pos 0) → IsNonneg (neg_ℚ c)
negated c h = by_le (c ∷ []) (gap h) (search reads depth 30) (search reads depth 30) tt

-- a coefficient at most 0, and a value that doesn't grow
falling_term : (c a b d e : ℚ) → c ≤ℚ int (pos 0) → IsPairNonneg (b -ℚ a) (e -ℚ d) → IsPairNonneg (c *ℚ (a -ℚ b)) (c *ℚ (d -ℚ e))
falling_term c a b d e h k = subst₂ (λ u v. IsPairNonneg u v) (turn_signs c a b) (turn_signs c d e) (pair_nonneg_scale (neg_ℚ c) (b -ℚ a) (e -ℚ d) (negated c h) k)

term_gap : (c a b : ℚ) → c *ℚ (a -ℚ b) ≡ c *ℚ a +ℚ int (negsuc 0) *ℚ (c *ℚ b)
term_gap c a b = by_ring (c ∷ a ∷ b ∷ []) (search reads depth 30) (search reads depth 30) tt

minus_one : (a b : ℚ) → a +ℚ int (negsuc 0) *ℚ b ≡ a -ℚ b
minus_one a b = by_ring (a ∷ b ∷ []) (search reads depth 30) (search reads depth 30) tt

-- the row of i at the difference of two solutions
row_gap : (n : ℕ) (p : Position) (x y : ℕ → ℚ) → Meets n p x → Meets n p y → (i : ℕ) → i < n → total n (λ z. p.coefficient i z *ℚ (x z -ℚ y z)) ≡ x i -ℚ y i
row_gap n p x y h k i b =
    total-same n (λ z. p.coefficient i z *ℚ (x z -ℚ y z)) (λ z. p.coefficient i z *ℚ x z +ℚ int (negsuc 0) *ℚ (p.coefficient i z *ℚ y z)) (λ z l. term_gap (p.coefficient i z) (x z) (y z))
    ∙ total-add n (λ z. p.coefficient i z *ℚ x z) (λ z. int (negsuc 0) *ℚ (p.coefficient i z *ℚ y z))
    ∙ ap (λ u. row_value n p x i +ℚ u) (total-scale n (int (negsuc 0)) (λ z. p.coefficient i z *ℚ y z))
    ∙ (λ j. sym (h.at i b) j +ℚ int (negsuc 0) *ℚ sym (k.at i b) j)
    ∙ minus_one (x i) (y i)

-- (q - p) + (p - b) + (b - q) = 0
round_trip : (p q b : ℚ) → (q -ℚ p) +ℚ ((p -ℚ b) +ℚ (b -ℚ q)) ≡ int (pos 0)
round_trip p q b = by_ring (p ∷ q ∷ b ∷ []) (search reads depth 30) (search reads depth 30) tt

no_round_trip : (p q b p' q' b' : ℚ) → IsPairPositive (q -ℚ p) (q' -ℚ p') → IsPairPositive (p -ℚ b) (p' -ℚ b') → IsPairNonneg (b -ℚ q) (b' -ℚ q') → ⊥
no_round_trip p q b p' q' b' h k m =
    pair_conflict ((q -ℚ p) +ℚ ((p -ℚ b) +ℚ (b -ℚ q))) ((q' -ℚ p') +ℚ ((p' -ℚ b') +ℚ (b' -ℚ q')))
    (pair_positive_add (q -ℚ p) (q' -ℚ p') ((p -ℚ b) +ℚ (b -ℚ q)) ((p' -ℚ b') +ℚ (b' -ℚ q')) h
    (pair_positive_weak _ _ (pair_positive_add (p -ℚ b) (p' -ℚ b') (b -ℚ q) (b' -ℚ q') k m)))
    (round_trip p q b) (round_trip p' q' b')

at_most_same : {p q : Pair} → p ≡ q → IsAtMost p q
at_most_same {p} {q} e = record { at_most = inr (ap (λ (z : Pair). z.first) e, subst (λ (z : Pair). p.second ≤ℚ z.second) e (≤ℚ_refl p.second)) }

-- the difference of two pairs
abbrev GapNonneg : Pair → Pair → Type 0
GapNonneg p q = IsPairNonneg (q.first -ℚ p.first) (q.second -ℚ p.second)

abbrev GapPositive : Pair → Pair → Type 0
GapPositive p q = IsPairPositive (q.first -ℚ p.first) (q.second -ℚ p.second)

zero_gap : (a : ℚ) → int (pos 0) ≡ a -ℚ a
zero_gap a = by_ring (a ∷ []) (search reads depth 30) (search reads depth 30) tt

gap_same : {p q : Pair} → p ≡ q → GapNonneg p q
gap_same {p} {q} e = subst (λ (z : Pair). GapNonneg p z) e (subst₂ (λ u v. IsPairNonneg u v) (zero_gap p.first) (zero_gap p.second) pair_nonneg_of_zero)

-- ---- one basis at two positions i and j of a run
module _ (s : LinearSystem) (i j : ℕ) (below : i < j) (goes : (k : ℕ) → k < j → GoesOn s k) (one : OneBasis s i j) where
  -- the variable of greatest number that enters, and the position where it does
  last : Greatest (entered_at s) i j
  last = greatest (entered_at s) i j below

  into : ℕ
  into = last.at

  into_before : into < j
  unfolding into
  into_before = last.to

  r : ℕ
  r = entered_at s into

  l : ℕ
  l = left_at s into

  at_into : Goes s (position s into) l r
  unfolding l r
  at_into = goes_at s into (goes into into_before)

  r_below : r < count s
  r_below = at_into.below

  l_below : l < count s
  l_below = at_into.leaves.below

  -- what enters between i and j has a number of at most r
  entered_most : (x : ℕ) → Rises (basic_at s x) i j → x ≤ r
  unfolding r into
  entered_most x w = subst (λ z. z ≤ r) (rise_entered s w.at (goes w.at w.to) x w.before w.after) (last.most w.at w.from w.to)

  -- r leaves at some position
  falls : Falls (basic_at s r) i j
  unfolding l r into
  falls =
      falls_around (basic_at s r) i j into (suc into) last.from (let h : last.at < j = last.to in omega arith) (let h : i ≤ last.at = last.from in omega arith) last.to (one.same r r_below)
      at_into.eligible.free (after_entered s into (goes into into_before))

  out : ℕ
  out = falls.at

  out_before : out < j
  unfolding out
  out_before = falls.to

  r_left : left_at s out ≡ r
  unfolding out
  r_left = fall_left s out (goes out out_before) r falls.before falls.after

  at_out : Leaves s (position s out) r
  at_out = subst (λ z. Leaves s (position s out) z) r_left (goes_at s out (goes out out_before)).leaves

  -- l has a lesser number
  l_most : l ≤ r
  unfolding l r into
  l_most =
      entered_most l (rises_around (basic_at s l) i j (suc into) into (let h : i ≤ last.at = last.from in omega arith) last.to last.from (let h : last.at < j = last.to in omega arith) (one.same l l_below)
      (after_left s into (goes into into_before)) at_into.leaves.violated.basic)

  l_less : l < r
  l_less =
      let h : l ≤ r = l_most in
      ⊎_elim
      (λ e. absurd (both_ways (basic_at s r into) at_into.eligible.free (subst (λ z. basic_at s z into ≡ true) e at_into.leaves.violated.basic)))
      (λ n. omega arith)
      (cases_eq l r)

  p : ℕ → Pair
  p y = value s (position s into) y

  q : ℕ → Pair
  q y = value s (position s out) y

  side_known : (y : ℕ) → s.width ≤ y → is_unknown s y ≡ false
  side_known y h = le-ltb y s.width h

  -- each s of a lesser number than r is at most its bound where r leaves
  kept : (y : ℕ) → y < r → s.width ≤ y → IsAtMost (q y) (bound s y)
  unfolding q
  kept y h k = by (cases_Bool (basic_at s y out))
    where
      by : (basic_at s y out ≡ true) ⊎ (basic_at s y out ≡ false) → IsAtMost (value s (position s out) y) (bound s y)
      by (inl b) = at_out.kept y h k b
      by (inr b) = at_most_same (value_rest s out y (let m : r < count s = r_below in omega arith) b ∙ rest_side s y (side_known y k))

  coefficient : ℕ → ℚ
  coefficient y = (position s into).coefficient l y

  -- where y is nonbasic, it stands at its bound where r enters
  stands_p : (y : ℕ) → y < count s → s.width ≤ y → basic_at s y into ≡ false → p y ≡ bound s y
  unfolding p
  stands_p y h k b = value_rest s into y h b ∙ rest_side s y (side_known y k)

  -- one of a greater number than r stays
  stays : (y : ℕ) → y < count s → r < y → basic_at s y into ≡ false → basic_at s y out ≡ false
  unfolding into out
  stays y h k b = by (cases_Bool (basic_at s y out))
    where
      by : (basic_at s y out ≡ true) ⊎ (basic_at s y out ≡ false) → basic_at s y out ≡ false
      by (inl t) =
          let m : y ≤ r = entered_most y (rises_around (basic_at s y) i j into out last.from (let h : last.at < j = last.to in omega arith) falls.from (let h : falls.at < j = falls.to in omega arith) (one.same y h) b t) in
          absurd (omega arith)
      by (inr f) = f

  r_side : s.width ≤ r
  r_side = at_out.violated.side

  Term : ℕ → Type 0
  Term y = IsPairNonneg (coefficient y *ℚ ((q y).first -ℚ (p y).first)) (coefficient y *ℚ ((q y).second -ℚ (p y).second))

  -- at r itself
  r_grows : GapPositive (p r) (q r)
  unfolding q
  r_grows = subst (λ z. GapPositive z (q r)) (sym (stands_p r r_below r_side at_into.eligible.free)) (below_gap at_out.violated.above)

  r_term : IsPairPositive (coefficient r *ℚ ((q r).first -ℚ (p r).first)) (coefficient r *ℚ ((q r).second -ℚ (p r).second))
  unfolding coefficient
  r_term = pair_positive_scale (coefficient r) _ _ (at_into.eligible.positive r_side) r_grows

  basic_term : (y : ℕ) → basic_at s y into ≡ true → Term y
  unfolding coefficient Term
  basic_term y b = pair_nonneg_zero (coefficient y) _ _ ((tableau s into).empty l y b)

  unknown_term : (y : ℕ) → y < s.width → basic_at s y into ≡ false → Term y
  unfolding coefficient Term
  unknown_term y h b = pair_nonneg_zero (coefficient y) _ _ (at_into.before.unknown y (let k : s.width ≤ r = r_side in omega arith) h b)

  lesser_term : (y : ℕ) → y < count s → y < r → s.width ≤ y → basic_at s y into ≡ false → Term y
  unfolding coefficient Term
  lesser_term y n h k b =
      falling_term (coefficient y) (q y).first (p y).first (q y).second (p y).second (at_into.before.side y h k b)
      (subst (λ z. GapNonneg (q y) z) (sym (stands_p y n k b)) (at_most_gap (kept y h k)))

  greater_term : (y : ℕ) → y < count s → r < y → basic_at s y into ≡ false → Term y
  unfolding coefficient Term p q
  greater_term y n h b =
      let k : s.width ≤ r = r_side in
      let w : s.width ≤ y = omega arith in
      let e : p y ≡ q y = stands_p y n w b ∙ sym (value_rest s out y n (stays y n h b) ∙ rest_side s y (side_known y w)) in
      subst (λ (z : Pair). IsPairNonneg (coefficient y *ℚ (z.first -ℚ (p y).first)) (coefficient y *ℚ (z.second -ℚ (p y).second))) e
      (subst₂ (λ u v. IsPairNonneg u v) (times_gap (coefficient y) (p y).first) (times_gap (coefficient y) (p y).second) pair_nonneg_of_zero)
    where
      times_gap : (c a : ℚ) → int (pos 0) ≡ c *ℚ (a -ℚ a)
      times_gap c a = by_ring (c ∷ a ∷ []) (search reads depth 30) (search reads depth 30) tt

  r_weak : Term r
  unfolding Term
  r_weak = pair_positive_weak _ _ r_term

  term_cases : (y : ℕ) → y < count s → (basic_at s y into ≡ true) ⊎ (basic_at s y into ≡ false) → (y < s.width) ⊎ (s.width ≤ y) → (y < r) ⊎ (r ≤ y) → (y ≡ r) ⊎ (y ≡ r → ⊥) → Term y
  term_cases y n (inl b) d e f = basic_term y b
  term_cases y n (inr b) (inl d) e f = unknown_term y d b
  term_cases y n (inr b) (inr d) (inl e) f = lesser_term y n e d b
  term_cases y n (inr b) (inr d) (inr e) (inl f) = subst (λ z. Term z) (sym f) r_weak
  term_cases y n (inr b) (inr d) (inr e) (inr f) = greater_term y n (omega arith) b

  term : (y : ℕ) → y < count s → Term y
  term y n = term_cases y n (cases_Bool (basic_at s y into)) (cases_lt y s.width) (cases_lt y r) (cases_eq y r)

  -- so the value of l grows
  l_grows : GapPositive (p l) (q l)
  unfolding p q coefficient Term
  l_grows =
      subst₂ (λ u v. IsPairPositive u v)
      (row_gap (count s) (position s into) (firsts s (position s out)) (firsts s (position s into)) (rows_across s out into _ (firsts_meet s out)) (firsts_meet s into) l l_below)
      (row_gap (count s) (position s into) (seconds s (position s out)) (seconds s (position s into)) (rows_across s out into _ (seconds_meet s out)) (seconds_meet s into) l l_below)
      (pair_total_positive (count s) r (λ y. coefficient y *ℚ ((q y).first -ℚ (p y).first)) (λ y. coefficient y *ℚ ((q y).second -ℚ (p y).second)) r_below term r_term)

  -- but l is above its bound where r enters, and at most its bound where r leaves
  no_cycle : ⊥
  unfolding p
  no_cycle =
      no_round_trip (p l).first (q l).first (bound s l).first (p l).second (q l).second (bound s l).second l_grows
      (below_gap at_into.leaves.violated.above) (at_most_gap (kept l l_less at_into.leaves.violated.side))

-- the theorem
pub no_basis_twice : (s : LinearSystem) (i j : ℕ) → i < j → ((k : ℕ) → k < j → GoesOn s k) → OneBasis s i j → ⊥
no_basis_twice s i j h g o = no_cycle s i j h g o
