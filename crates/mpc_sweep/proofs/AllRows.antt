-- The rows after a sweep, one by one.
use Rattle.std.proofs.Common.{◌≡◌, ℕ, suc, ◌+◌, ◌-◌, ◌*◌, ◌<◌, ◌≤◌, ◌++◌, List, length, take, ℤ, pos, unsigned_abs, sym, ◌∙◌, ap, subst, arith, ◌⊎◌, inl, inr, mul-le-mul_right, IfOk, Result, Ok, Err}
use Rattle.std.specs.List.{between}
use Rattle.std.proofs.lemmas.Bool.{cases_eq, cases_lt}
use Rattle.std.proofs.lemmas.List.{get_or_past, get_or_append_left, get_or-append_right, get_or-take, length-take-le}
use Rattle.std.proofs.Math.Nat.{suc-mul}
use Rattle.mpc_scaled.specs.Scaled.{whole_at, whole_cell, IsSmall}
use Rattle.mpc_sweep.specs.Steps.{IsNumber, AreWritten, AreRows}
use Rattle.mpc_sweep.proofs.OneNumber.{cell_of_row}
use borrow.Rule.Slice.PartMut.{put_mid, post_of}

pub if_ok : {A E : Type 0} (r : Result A E) (P Q : A → Type 0) → IfOk r P → ((a : A) → P a → Q a) → IfOk r Q
if_ok (Ok a) P Q h f = f a h
if_ok (Err e) P Q h f = tt

-- ---- where rows stand
pub row_below : (w j k first c : ℕ) → j < k → c < first + w → j * w + c < k * w + first
row_below w j k first c h l = let m : suc j * w ≤ k * w = mul-le-mul_right w h in omega arith

-- a row ends within so many rows, where w columns are told behind others
pub row_within : (w first i rows : ℕ) → i < rows → i * w + (first + w) ≤ first + rows * w
row_within w first i rows h = let m : suc i * w ≤ rows * w = mul-le-mul_right w h in omega arith

-- a place in the next row
part_below : (told i first columns n : ℕ) → first + told ≡ columns → i * told ≤ n → n < first + (i + 1) * told → n - i * told < columns
part_below told i first columns n e b h = let one : i + 1 ≡ suc i = omega arith in let m : (i + 1) * told ≡ i * told + told = ap (λ u. u * told) one ∙ suc-mul i told in omega arith

-- ---- the part of a list that is one row
module _ (xs ys : List ℤ) (a k : ℕ) (inside : a ≤ length xs) where
  front_size : length (take a xs) ≡ a
  front_size = length-take-le a xs inside

  pub put_before : (n : ℕ) → n < a → whole_at (put_mid a k xs ys) n ≡ whole_at xs n
  put_before n h = get_or_append_left (take a xs) (ys ++ post_of a k xs) (pos 0) n (let e = front_size in omega arith) ∙ get_or-take a xs n (pos 0) h

  pub put_there : (n : ℕ) → a ≤ n → n - a < length ys → whole_at (put_mid a k xs ys) n ≡ whole_at ys (n - a)
  put_there n h l = get_or-append_right (take a xs) (ys ++ post_of a k xs) a n (pos 0) front_size h ∙ get_or_append_left ys (post_of a k xs) (pos 0) (n - a) l

-- ---- the rows
-- no row yet: small numbers before them
pub no_rows : (most width den taken : ℕ) (v : List ℤ) (p first told : ℕ) (new : List ℤ) → ((k : ℕ) → k < first → unsigned_abs (whole_at new k) ≤ most) → AreRows most width den taken v p first told 0 new
no_rows most width den taken v p first told new h = record {
  numbers = λ i j l m n. absurd (omega arith);
  small = λ k l. h k (omega arith);
}

-- one row more
module _ (most width den taken : ℕ) (v : List ℤ) (p first told columns i k : ℕ) (now ys : List ℤ) (h : AreRows most width den taken v p first told i now) (size : length ys ≡ columns) (sum : first + told ≡ columns) (inside : i * told + columns ≤ length now)
    (w : AreWritten most first columns (IsNumber width den taken v p i) (between (i * told) (i * told + columns) now) ys) where
  abbrev new : List ℤ
  new = put_mid (i * told) k now ys

  start_in : i * told ≤ length now
  start_in = omega arith

  kept : (n : ℕ) → n < i * told + first → whole_at new n ≡ whole_at now n
  kept n l = by (cases_lt n (i * told))
    where
      by : (n < i * told) ⊎ (i * told ≤ n) → whole_at new n ≡ whole_at now n
      by (inl m) = put_before now ys (i * told) k start_in n m
      by (inr m) =
          let e : i * told + (n - i * told) ≡ n = omega arith in
          put_there now ys (i * told) k start_in n m (omega arith) ∙ w.kept (n - i * told) (omega arith)
          ∙ cell_of_row now (i * told) columns (n - i * told) (omega arith) ∙ ap (whole_at now) e

  there : (j : ℕ) → j < columns → whole_cell told new i j ≡ whole_at ys j
  there j l =
      let e : i * told + j - i * told ≡ j = omega arith in
      put_there now ys (i * told) k start_in (i * told + j) (omega arith) (omega arith) ∙ ap (whole_at ys) e

  pub row_more : AreRows most width den taken v p first told (i + 1) new
  row_more = record {
    numbers = λ r j l m n. number r j l m n (cases_eq r i);
    small = λ n l. small n l (cases_lt n (i * told + first));
  }
    where
      number : (r j : ℕ) → r < i + 1 → first ≤ j → j < first + told → (r ≡ i) ⊎ (r ≡ i → ⊥) → IsNumber width den taken v p r j (whole_cell told new r j)
      number r j l m n (inl e) =
          subst (λ u. IsNumber width den taken v p u j (whole_cell told new u j)) (sym e) (subst (IsNumber width den taken v p i j) (sym (there j (omega arith))) (w.numbers j m (omega arith)))
      number r j l m n (inr e) =
          let b : r < i = omega arith in
          let q : r * told + j < i * told + first = row_below told r i first j b n in
          subst (IsNumber width den taken v p r j) (sym (kept (r * told + j) q)) (h.numbers r j b m n)

      small : (n : ℕ) → n < first + (i + 1) * told → (n < i * told + first) ⊎ (i * told + first ≤ n) → unsigned_abs (whole_at new n) ≤ most
      small n l (inl m) = subst (λ z. unsigned_abs z ≤ most) (sym (kept n m)) (h.small n (omega arith))
      small n l (inr m) =
          let q : n - i * told < columns = part_below told i first columns n sum (omega arith) l in
          subst (λ z. unsigned_abs z ≤ most) (sym (put_there now ys (i * told) k start_in n (omega arith) (omega arith))) (w.small (n - i * told) (omega arith) q)

-- ---- all rows
module _ (most width den taken : ℕ) (v : List ℤ) (p first told count : ℕ) (new : List ℤ) (h : AreRows most width den taken v p first told count new) where
  pub rows_small : length new ≡ first + count * told → IsSmall most new
  rows_small size = record { each = λ k. by k (cases_lt k (length new)) }
    where
      by : (k : ℕ) → (k < length new) ⊎ (length new ≤ k) → unsigned_abs (whole_at new k) ≤ most
      by k (inl l) = h.small k (omega arith)
      by k (inr l) = subst (λ z. unsigned_abs z ≤ most) (sym (get_or_past new k (pos 0) l)) (omega arith)

  pub rows_within : (bound : ℕ) → IsSmall bound new → AreRows bound width den taken v p first told count new
  rows_within bound small = record { numbers = h.numbers; small = λ k l. small.each k }
