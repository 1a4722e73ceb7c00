-- A system with further rows behind its own runs as the shorter one does, up to the last position of that one.
use Rattle.std.proofs.Common.{◌≡◌, ℕ, zero, suc, ◌+◌, ◌-◌, ◌<◌, ◌≤◌, Bool, true, false, cond, not, ◌&&◌, eqb, List, length, get_or, Option, Some, None, pos, negsuc, [], ◌∷◌, refl, sym, ◌∙◌, ap, subst, arith, ◌⊎◌, inl, inr, lt-ltb, le-ltb, add-zero, add-suc, length-append}
use Rattle.std.proofs.lemmas.Bool.{cases_lt}
use Rattle.std.proofs.lemmas.List.{get_or_append_left, get_or-append-add}
use Rattle.mpc_exact.specs.Rational.{ℚ, int, ◌+ℚ◌, ◌*ℚ◌, ◌/ℚ◌, neg_ℚ, inv_ℚ, lt_ℚ}
use Rattle.mpc_exact.specs.Pair.{Pair, is_below}
use Rattle.mpc_exact.proofs.RationalRing.{reads, by_ring}
use Rattle.mpc_space.specs.Total.{total, unit}
use Rattle.mpc_space.specs.Vector.{coordinate}
use Rattle.mpc_space.proofs.Total.{total-same, total-zeros, total-split}
use Rattle.mpc_rows.specs.declared.systems.Row.{Row}
use Rattle.mpc_rows.specs.Least.{least, or_at}
use Rattle.mpc_rows.specs.LinearSystem.{LinearSystem, height, row_at, no_row, entry}
use Rattle.mpc_rows.specs.Run.{Position, IsTableau, has_point, count, is_unknown, is_zero, bound, rest, value, may_leave, may_enter, turn, turn_at, turn_from, pivot, entering_row, other_row, opening}
use Rattle.mpc_beginnings.specs.Beginnings.{lengthened, Agrees}
use Rattle.mpc_runs.proofs.LeastLemmas.{LeastIs, least-is}
use Rattle.mpc_runs.proofs.TableauRows.{opening_row, opening_rest, opening_known}
use Rattle.mpc_runs.proofs.Read.{rest_unknown, rest_bound}
use Rattle.mpc_runs.proofs.Outside.{IsBounded}

-- ---- the least number that passes, over a longer range
least-suc : (f : ℕ → Bool) (n : ℕ) → least f (suc n) ≡ or_at (least f n) (f n) n
unfolding least
least-suc f n = refl

pub least_same : (f g : ℕ → Bool) (n : ℕ) → ((k : ℕ) → k < n → f k ≡ g k) → least f n ≡ least g n
unfolding least
least_same f g zero h = refl
least_same f g (suc n) h = λ i. or_at (least_same f g n (λ k l. h k (omega arith)) i) (h n (omega arith) i) n

pub least_more : (f : ℕ → Bool) (n m x : ℕ) → least f n ≡ Some x → least f (n + m) ≡ Some x
least_more f n zero x h = ap (least f) (add-zero n) ∙ h
least_more f n (suc m) x h = ap (least f) (add-suc n m) ∙ least-suc f (n + m) ∙ ap (λ o. or_at o (f (n + m)) (n + m)) (least_more f n m x h)

or_false : (o : Option ℕ) (b : Bool) (n : ℕ) → b ≡ false → or_at o b n ≡ o
or_false (Some x) b n h = refl
or_false None b n h = ap (λ c. cond c (Some n) None) h

pub least_padded : (f : ℕ → Bool) (n m : ℕ) → ((k : ℕ) → n ≤ k → f k ≡ false) → least f (n + m) ≡ least f n
least_padded f n zero h = ap (least f) (add-zero n)
least_padded f n (suc m) h = ap (least f) (add-suc n m) ∙ least-suc f (n + m) ∙ or_false (least f (n + m)) (f (n + m)) (n + m) (h (n + m) (omega arith)) ∙ least_padded f n m h

-- ---- the longer system
bound_of : Row → Pair
bound_of r = record { first = r.b; second = cond r.strict (int (negsuc 0)) (int (pos 0)) }

module _ (s : LinearSystem) (more : List Row) where
  pub count_more : count (lengthened s more) ≡ count s + length more
  count_more = omega (arith, length-append s.rows more)

  pub row_below : (i : ℕ) → i < height s → row_at (lengthened s more) i ≡ row_at s i
  row_below i h = get_or_append_left s.rows more no_row i h

  pub row_above : (i : ℕ) → row_at (lengthened s more) (height s + i) ≡ get_or more i no_row
  row_above i = get_or-append-add s.rows more i no_row

  pub entry_below : (i j : ℕ) → i < height s → entry (lengthened s more) i j ≡ entry s i j
  unfolding entry
  entry_below i j h = ap (λ (r : Row). coordinate r.a j) (row_below i h)

  pub bound_below : (x : ℕ) → s.width ≤ x → x < count s → bound (lengthened s more) x ≡ bound s x
  unfolding bound bound_of
  bound_below x h k = ap bound_of (row_below (x - s.width) (omega arith))

  pub rest_below : (x : ℕ) → x < count s → rest (lengthened s more) x ≡ rest s x
  rest_below x h = by (cases_lt x s.width)
    where
      by : (x < s.width) ⊎ (s.width ≤ x) → rest (lengthened s more) x ≡ rest s x
      by (inl l) = rest_unknown (lengthened s more) x (lt-ltb x s.width l) ∙ sym (rest_unknown s x (lt-ltb x s.width l))
      by (inr l) = rest_bound (lengthened s more) x (le-ltb x s.width l) ∙ bound_below x l h ∙ sym (rest_bound s x (le-ltb x s.width l))

  -- ---- the opening
  opening_rows : (x y : ℕ) → x < count s → (x < s.width) ⊎ (s.width ≤ x) → (y < s.width) ⊎ (s.width ≤ y) → (opening (lengthened s more)).coefficient x y ≡ (opening s).coefficient x y
  opening_rows x y h (inl k) d = opening_known (lengthened s more) x y (lt-ltb x s.width k) ∙ sym (opening_known s x y (lt-ltb x s.width k))
  opening_rows x y h (inr k) (inl d) =
      opening_row (lengthened s more) x y (le-ltb x s.width k) (lt-ltb y s.width d)
      ∙ entry_below (x - s.width) y (omega arith)
      ∙ sym (opening_row s x y (le-ltb x s.width k) (lt-ltb y s.width d))
  opening_rows x y h (inr k) (inr d) = opening_rest (lengthened s more) x y (le-ltb x s.width k) (le-ltb y s.width d) ∙ sym (opening_rest s x y (le-ltb x s.width k) (le-ltb y s.width d))

  opening_basics : (x : ℕ) → (opening (lengthened s more)).is_basic x ≡ (opening s).is_basic x
  unfolding opening
  opening_basics x = refl

  pub opening_agrees : Agrees (count s) (opening s) (opening (lengthened s more))
  opening_agrees = record { basic = opening_basics; rows = λ x y h. opening_rows x y h (cases_lt x s.width) (cases_lt y s.width) }

-- ---- a pivot
module _ (n : ℕ) (p q : Position) (a : Agrees n p q) (l e : ℕ) (below : l < n) where
  pub entering_agrees : (y : ℕ) → entering_row q l e y ≡ entering_row p l e y
  unfolding entering_row
  entering_agrees y = λ i. cond (eqb y l) (inv_ℚ (a.rows l e below i)) (cond (eqb y e) (int (pos 0)) (neg_ℚ (a.rows l y below i) /ℚ a.rows l e below i))

  other_agrees : (x y : ℕ) → x < n → other_row q l e x y ≡ other_row p l e x y
  unfolding other_row
  other_agrees x y h =
      λ i.
      cond (eqb y e) (int (pos 0)) (cond (eqb y l) (a.rows x e h i *ℚ entering_agrees l i) (a.rows x y h i +ℚ a.rows x e h i *ℚ entering_agrees y i))

  pivot_basics : (x : ℕ) → (pivot q l e).is_basic x ≡ (pivot p l e).is_basic x
  unfolding pivot
  pivot_basics x = ap (λ b. cond (eqb x l) false (cond (eqb x e) true b)) (a.basic x)

  pivot_rows : (x y : ℕ) → x < n → (pivot q l e).coefficient x y ≡ (pivot p l e).coefficient x y
  unfolding pivot
  pivot_rows x y h = λ i. cond (eqb x l) (unit l y) (cond (eqb x e) (entering_agrees y i) (other_agrees x y h i))

  pub pivot_agrees : Agrees n (pivot p l e) (pivot q l e)
  pivot_agrees = record { basic = pivot_basics; rows = pivot_rows }

-- ---- a turn
padded_zero : (x : ℚ) → x +ℚ int (pos 0) ≡ x
padded_zero x = by_ring (x ∷ []) (search reads depth 30) (search reads depth 30) tt

zero_times : (x : ℚ) → int (pos 0) *ℚ x ≡ int (pos 0)
zero_times x = by_ring (x ∷ []) (search reads depth 30) (search reads depth 30) tt

module _ (s : LinearSystem) (more : List Row) (p q : Position) (b : IsBounded (count s) p) (t : IsTableau q) (a : Agrees (count s) p q) where
  -- a further side is basic, and has no column
  pub appended_basic : (x : ℕ) → count s ≤ x → q.is_basic x ≡ true
  appended_basic x h = a.basic x ∙ b.basic x h

  pub appended_empty : (x y : ℕ) → count s ≤ y → q.coefficient x y ≡ int (pos 0)
  appended_empty x y h = t.empty x y (appended_basic y h)

  pub total_agrees : (c c' f f' : ℕ → ℚ) → ((y : ℕ) → y < count s → c' y ≡ c y) → ((y : ℕ) → count s ≤ y → c' y ≡ int (pos 0)) → ((y : ℕ) → y < count s → f' y ≡ f y) → total (count (lengthened s more)) (λ y. c' y *ℚ f' y) ≡ total (count s) (λ y. c y *ℚ f y)
  total_agrees c c' f f' e z g =
      ap (λ m. total m (λ y. c' y *ℚ f' y)) (count_more s more)
      ∙ total-split (count s) (length more) (λ y. c' y *ℚ f' y)
      ∙ (λ i.
      total-same (count s) (λ y. c' y *ℚ f' y) (λ y. c y *ℚ f y) (λ y h j. e y h j *ℚ g y h j) i
      +ℚ total-zeros (length more) (λ y. c' (count s + y) *ℚ f' (count s + y)) (λ y h. ap (λ u. u *ℚ f' (count s + y)) (z (count s + y) (omega arith)) ∙ zero_times (f' (count s + y))) i)
      ∙ padded_zero (total (count s) (λ y. c y *ℚ f y))

  pub value_agrees : (x : ℕ) → x < count s → value (lengthened s more) q x ≡ value s p x
  unfolding value
  value_agrees x h = λ i. record {
    first = total_agrees (p.coefficient x) (q.coefficient x) (λ y. (rest s y).first) (λ y. (rest (lengthened s more) y).first) (λ y k. a.rows x y h) (appended_empty x) (λ y k. ap (λ (r : Pair). r.first) (rest_below s more y k)) i;
    second = total_agrees (p.coefficient x) (q.coefficient x) (λ y. (rest s y).second) (λ y. (rest (lengthened s more) y).second) (λ y k. a.rows x y h) (appended_empty x) (λ y k. ap (λ (r : Pair). r.second) (rest_below s more y k)) i;
  }

  leave_cases : (x : ℕ) → x < count s → (x < s.width) ⊎ (s.width ≤ x) → may_leave (lengthened s more) q x ≡ may_leave s p x
  unfolding may_leave
  leave_cases x h (inl k) =
      ap (λ u. not u && (q.is_basic x && is_below (bound (lengthened s more) x) (value (lengthened s more) q x))) (lt-ltb x s.width k)
      ∙ sym (ap (λ u. not u && (p.is_basic x && is_below (bound s x) (value s p x))) (lt-ltb x s.width k))
  leave_cases x h (inr k) = λ i. not (is_unknown s x) && (a.basic x i && is_below (bound_below s more x k h i) (value_agrees x h i))

  pub leave_agrees : (x : ℕ) → x < count s → may_leave (lengthened s more) q x ≡ may_leave s p x
  leave_agrees x h = leave_cases x h (cases_lt x s.width)

  pub enter_agrees : (l y : ℕ) → l < count s → may_enter (lengthened s more) q l y ≡ may_enter s p l y
  unfolding may_enter
  enter_agrees l y h = λ i. not (a.basic y i) && cond (is_unknown s y) (not (is_zero (a.rows l y h i))) (lt_ℚ (int (pos 0)) (a.rows l y h i))

  enter_past : (l y : ℕ) → count s ≤ y → may_enter s p l y ≡ false
  unfolding may_enter
  enter_past l y h = ap (λ u. not u && cond (is_unknown s y) (not (is_zero (p.coefficient l y))) (lt_ℚ (int (pos 0)) (p.coefficient l y))) (b.basic y h)

  -- the same variable enters, and the same leaves if any does that both have
  pub entering_same : (l : ℕ) → l < count s → least (may_enter (lengthened s more) q l) (count (lengthened s more)) ≡ least (may_enter s p l) (count s)
  entering_same l h =
      least_same (may_enter (lengthened s more) q l) (may_enter s p l) (count (lengthened s more)) (λ y k. enter_agrees l y h)
      ∙ ap (least (may_enter s p l)) (count_more s more)
      ∙ least_padded (may_enter s p l) (count s) (length more) (enter_past l)

  pub leaving_same : (l : ℕ) → least (may_leave s p) (count s) ≡ Some l → least (may_leave (lengthened s more) q) (count (lengthened s more)) ≡ Some l
  leaving_same l h =
      ap (least (may_leave (lengthened s more) q)) (count_more s more)
      ∙ least_more (may_leave (lengthened s more) q) (count s) (length more) l (least_same (may_leave (lengthened s more) q) (may_leave s p) (count s) leave_agrees ∙ h)

  turn_cases : (o : Option ℕ) → least (may_leave s p) (count s) ≡ o → (turn s p ≡ has_point → ⊥) → turn (lengthened s more) q ≡ turn s p
  unfolding turn
  turn_cases None e h = absurd (h (ap (turn_from (λ l. least (may_enter s p l) (count s))) e))
  turn_cases (Some l) e h =
      ap (turn_from (λ l. least (may_enter (lengthened s more) q l) (count (lengthened s more)))) (leaving_same l e)
      ∙ ap (turn_at l) (entering_same l (subst (LeastIs (may_leave s p) (count s)) e (least-is (may_leave s p) (count s))).below)
      ∙ sym (ap (turn_from (λ l. least (may_enter s p l) (count s))) e)

  pub turn_agrees : (turn s p ≡ has_point → ⊥) → turn (lengthened s more) q ≡ turn s p
  turn_agrees = turn_cases (least (may_leave s p) (count s)) refl
