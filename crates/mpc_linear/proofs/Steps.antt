-- The steps of one column, entry by entry.
use Rattle.std.proofs.Common.{◌≡◌, ◌≢◌, ℕ, ◌+◌, ◌*◌, ◌<◌, ◌≤◌, List, [], ◌∷◌, length, get_or, set, pos, refl, sym, ◌∙◌, ap, subst, subst₂, arith, ◌⊎◌, inl, inr, ⊎_elim, get_or-set_same, get_or-set_other, length-set}
use Rattle.std.specs.List.{swap}
use Rattle.std.proofs.lemmas.Bool.{cases_eq}
use Rattle.std.proofs.lemmas.List.{get_or_default}
use Rattle.mpc_exact.specs.Rational.{ℚ, int, ◌*ℚ◌, ◌-ℚ◌, ◌/ℚ◌, neg_ℚ}
use Rattle.mpc_exact.proofs.RationalRing.{reads, by_ring}
use Rattle.mpc_frac.specs.Fits.{FitsFrac, FitsSum}
use Rattle.mpc_linear.specs.Dot.{TakenFits}
use Rattle.mpc_linear.specs.Elimination.{Table, exchanged_row, exchanged, reduced, ColumnFits}
use Rattle.mpc_linear.specs.Stored.{stored, SameFrom, IsDivided, QuotientsFit, IsTaken, RowTakenFits, IsCleared, RowsTakenFit}
use Rattle.mpc_linear.proofs.Reduction.{row-first, row-second, row-other, row-below, exchanged-at, reduced-pivot, reduced-other}
use Rattle.mpc_linear.proofs.Places.{same_row, same_column, place_below, written_there, written_else}

-- ---- two entries change places
module _ (x : ℚ) (ys : List ℚ) (a b k : ℕ) (d : ℚ) (ha : a < length (x ∷ ys)) (hb : b < length (x ∷ ys)) where
  abbrev xs : List ℚ
  xs = x ∷ ys

  abbrev once : List ℚ
  once = set xs a (get_or xs b x)

  b_once : b < length once
  b_once = subst (λ n. b < n) (sym (length-set xs a (get_or xs b x))) hb

  swap_by : (k ≡ b) ⊎ (k ≡ b → ⊥) → (k ≡ a) ⊎ (k ≡ a → ⊥) → get_or (set once b (get_or xs a x)) k d ≡ get_or xs (exchanged_row a b k) d
  swap_by (inl e) q =
      ap (λ m. get_or (set once b (get_or xs a x)) m d) e ∙ get_or-set_same once b (get_or xs a x) d b_once ∙ get_or_default xs a x d ha
      ∙ ap (λ m. get_or xs m d) (sym (ap (exchanged_row a b) e ∙ row-second a b))
  swap_by (inr e) (inl q) =
      get_or-set_other once b k (get_or xs a x) d e ∙ ap (λ m. get_or once m d) q ∙ get_or-set_same xs a (get_or xs b x) d ha ∙ get_or_default xs b x d hb
      ∙ ap (λ m. get_or xs m d) (sym (ap (exchanged_row a b) q ∙ row-first a b))
  swap_by (inr e) (inr q) =
      get_or-set_other once b k (get_or xs a x) d e ∙ get_or-set_other xs a k (get_or xs b x) d q ∙ ap (λ m. get_or xs m d) (sym (row-other a b k q e))

swap_at : (xs : List ℚ) (a b k : ℕ) (d : ℚ) → a < length xs → b < length xs → get_or (swap xs a b) k d ≡ get_or xs (exchanged_row a b k) d
swap_at [] a b k d ha hb = absurd (omega arith)
swap_at (x ∷ ys) a b k d ha hb = swap_by x ys a b k d ha hb (cases_eq k b) (cases_eq k a)

row_place : (w c p i j : ℕ) → j < w → exchanged_row (c * w + j) (p * w + j) (i * w + j) ≡ exchanged_row c p i * w + j
row_place w c p i j hj = by (cases_eq i c) (cases_eq i p)
  where
    by : (i ≡ c) ⊎ (i ≡ c → ⊥) → (i ≡ p) ⊎ (i ≡ p → ⊥) → exchanged_row (c * w + j) (p * w + j) (i * w + j) ≡ exchanged_row c p i * w + j
    by (inl e) q =
        ap (λ r. exchanged_row (c * w + j) (p * w + j) (r * w + j)) e ∙ row-first (c * w + j) (p * w + j) ∙ ap (λ r. r * w + j) (sym (ap (exchanged_row c p) e ∙ row-first c p))
    by (inr e) (inl q) =
        ap (λ r. exchanged_row (c * w + j) (p * w + j) (r * w + j)) q ∙ row-second (c * w + j) (p * w + j) ∙ ap (λ r. r * w + j) (sym (ap (exchanged_row c p) q ∙ row-second c p))
    by (inr e) (inr q) =
        row-other (c * w + j) (p * w + j) (i * w + j) (λ h. e (same_row w i j c j hj hj h)) (λ h. q (same_row w i j p j hj hj h)) ∙ ap (λ r. r * w + j) (sym (row-other c p i e q))

-- rows c and p have changed places in the columns from c to j
pub record Exchanging (n w c p j : ℕ) (t s : Table) : Type 0 where
  pub done : (i k : ℕ) → i < n → c ≤ k → k < j → s i k ≡ exchanged c p t i k
  pub rest : (i k : ℕ) → i < n → j ≤ k → k < w → s i k ≡ t i k

module _ (n w c p j : ℕ) (t : Table) (xs : List ℚ) (size : length xs ≡ n * w) (hc : c < n) (hp : p < n) (hj : j < w) (g : Exchanging n w c p j t (stored w xs)) where
  at_c : c * w + j < length xs
  at_c = subst (λ m. c * w + j < m) (sym size) (place_below n w c j hc hj)

  at_p : p * w + j < length xs
  at_p = subst (λ m. p * w + j < m) (sym size) (place_below n w p j hp hj)

  here : (i : ℕ) → i < n → stored w (swap xs (c * w + j) (p * w + j)) i j ≡ exchanged c p t i j
  here i hi =
      swap_at xs (c * w + j) (p * w + j) (i * w + j) (int (pos 0)) at_c at_p ∙ ap (λ m. get_or xs m (int (pos 0))) (row_place w c p i j hj)
      ∙ g.rest (exchanged_row c p i) j (row-below n c p i hc hp hi) (omega arith) hj ∙ sym (exchanged-at c p t i j)

  elsewhere : (i k : ℕ) → k < w → k ≢ j → stored w (swap xs (c * w + j) (p * w + j)) i k ≡ stored w xs i k
  elsewhere i k hk e =
      swap_at xs (c * w + j) (p * w + j) (i * w + k) (int (pos 0)) at_c at_p
      ∙ ap (λ m. get_or xs m (int (pos 0))) (row-other (c * w + j) (p * w + j) (i * w + k) (λ h. e (same_column w i k c j hk hj h)) (λ h. e (same_column w i k p j hk hj h)))

  pub exchanging_more : Exchanging n w c p (j + 1) t (stored w (swap xs (c * w + j) (p * w + j)))
  exchanging_more = record {
    done = λ i k hi l m. ⊎_elim
        (λ q. subst (λ k. stored w (swap xs (c * w + j) (p * w + j)) i k ≡ exchanged c p t i k) (sym q) (here i hi))
        (λ q. elsewhere i k (omega arith) q ∙ g.done i k hi l (omega arith))
        (cases_eq k j);
    rest = λ i k hi l m. elsewhere i k m (λ q. omega arith) ∙ g.rest i k hi (omega arith) m;
  }

-- ---- row c divided in the columns behind c and before j
pub record Dividing (n w c j : ℕ) (t s : Table) : Type 0 where
  pub done : (k : ℕ) → c < k → k < j → s c k ≡ t c k /ℚ t c c
  pub fits : (k : ℕ) → c < k → k < j → FitsFrac (t c k /ℚ t c c)
  pub rest : (k : ℕ) → j ≤ k → k < w → s c k ≡ t c k
  pub front : (i k : ℕ) → i < n → k ≤ c → s i k ≡ t i k
  pub others : (i k : ℕ) → i < n → i ≢ c → k < w → s i k ≡ t i k

module _ (n w c j : ℕ) (t : Table) (xs : List ℚ) (size : length xs ≡ n * w) (hc : c < n) (hj : j < w) (above : c < j) (g : Dividing n w c j t (stored w xs)) (v : ℚ) where
  pub dividing_more : v ≡ t c j /ℚ t c c → FitsFrac (t c j /ℚ t c c) → Dividing n w c (j + 1) t (stored w (set xs (c * w + j) v))
  dividing_more e f = record {
    done = λ k l m. ⊎_elim
        (λ q. subst (λ k. stored w (set xs (c * w + j) v) c k ≡ t c k /ℚ t c c) (sym q) (written_there n w xs size c j v hc hj ∙ e))
        (λ q. written_else n w xs size c j v hc hj c k (omega arith) (λ r s. q s) ∙ g.done k l (omega arith))
        (cases_eq k j);
    fits = λ k l m. ⊎_elim (λ q. subst (λ k. FitsFrac (t c k /ℚ t c c)) (sym q) f) (λ q. g.fits k l (omega arith)) (cases_eq k j);
    rest = λ k l m. written_else n w xs size c j v hc hj c k m (λ r s. omega arith) ∙ g.rest k (omega arith) m;
    front = λ i k hi m. written_else n w xs size c j v hc hj i k (omega arith) (λ r s. omega arith) ∙ g.front i k hi m;
    others = λ i k hi h m. written_else n w xs size c j v hc hj i k m (λ r s. h r) ∙ g.others i k hi h m;
  }

-- ---- row c taken away from row i in the columns behind c and before j
pub record Taking (n w c i j : ℕ) (t s : Table) : Type 0 where
  pub done : (k : ℕ) → c < k → k < j → s i k ≡ t i k -ℚ t i c *ℚ t c k
  pub fits : (k : ℕ) → c < k → k < j → TakenFits (t i k) (t i c) (t c k)
  pub rest : (k : ℕ) → j ≤ k → k < w → s i k ≡ t i k
  pub front : (l k : ℕ) → l < n → k ≤ c → s l k ≡ t l k
  pub others : (l k : ℕ) → l < n → l ≢ i → k < w → s l k ≡ t l k

module _ (n w c i j : ℕ) (t : Table) (xs : List ℚ) (size : length xs ≡ n * w) (hi : i < n) (hj : j < w) (above : c < j) (g : Taking n w c i j t (stored w xs)) (v : ℚ) where
  pub taking_more : v ≡ t i j -ℚ t i c *ℚ t c j → TakenFits (t i j) (t i c) (t c j) → Taking n w c i (j + 1) t (stored w (set xs (i * w + j) v))
  taking_more e f = record {
    done = λ k l m. ⊎_elim
        (λ q. subst (λ k. stored w (set xs (i * w + j) v) i k ≡ t i k -ℚ t i c *ℚ t c k) (sym q) (written_there n w xs size i j v hi hj ∙ e))
        (λ q. written_else n w xs size i j v hi hj i k (omega arith) (λ r s. q s) ∙ g.done k l (omega arith))
        (cases_eq k j);
    fits = λ k l m. ⊎_elim (λ q. subst (λ k. TakenFits (t i k) (t i c) (t c k)) (sym q) f) (λ q. g.fits k l (omega arith)) (cases_eq k j);
    rest = λ k l m. written_else n w xs size i j v hi hj i k m (λ r s. omega arith) ∙ g.rest k (omega arith) m;
    front = λ l k hl m. written_else n w xs size i j v hi hj l k (omega arith) (λ r s. omega arith) ∙ g.front l k hl m;
    others = λ l k hl h m. written_else n w xs size i j v hi hj l k m (λ r s. h r) ∙ g.others l k hl h m;
  }

still : (x y z : ℚ) → y ≡ int (pos 0) → x ≡ x -ℚ y *ℚ z
still x y z e = by_ring (x ∷ z ∷ []) (search reads depth 30) (search reads depth 30) tt ∙ ap (λ u. x -ℚ u *ℚ z) (sym e)

pub taken_nothing : (n w c i : ℕ) (t : Table) → t i c ≡ int (pos 0) → IsTaken n w c i t t
taken_nothing n w c i t e = record { row = λ j l m. still (t i j) (t i c) (t c j) e; front = λ k j l m. refl; others = λ k j l m h. refl }

-- ---- the rows before row i cleared
pub record Clearing (n w c i : ℕ) (t s : Table) : Type 0 where
  pub done : (k l : ℕ) → k < i → k < n → k ≢ c → c < l → l < w → s k l ≡ t k l -ℚ t k c *ℚ t c l
  pub fits : (k : ℕ) → k < i → k ≢ c → RowTakenFits w c k t
  pub rest : (k l : ℕ) → i ≤ k → k < n → l < w → s k l ≡ t k l
  pub pivot : (l : ℕ) → l < w → s c l ≡ t c l

pub clearing_none : (n w c : ℕ) (t : Table) → Clearing n w c 0 t t
clearing_none n w c t = record { done = λ k l h. absurd (omega arith); fits = λ k h. absurd (omega arith); rest = λ k l h m j. refl; pivot = λ l h. refl }

module _ (n w c i : ℕ) (t s r : Table) (hi : i < n) (hc : c < n) (hw : c < w) (apart : i ≢ c) (g : Clearing n w c i t s) where
  taken_same : RowTakenFits w c i s → RowTakenFits w c i t
  taken_same f some j l m =
      subst₂ (λ x y. TakenFits x y (t c j)) (g.rest i j (omega arith) hi m) (g.rest i c (omega arith) hi hw)
      (subst (λ z. TakenFits (s i j) (s i c) z) (g.pivot j m) (f (λ e. some (sym (g.rest i c (omega arith) hi hw) ∙ e)) j l m))

  taken_back : RowTakenFits w c i t → RowTakenFits w c i s
  taken_back f some j l m =
      subst₂ (λ x y. TakenFits x y (s c j)) (sym (g.rest i j (omega arith) hi m)) (sym (g.rest i c (omega arith) hi hw))
      (subst (λ z. TakenFits (t i j) (t i c) z) (sym (g.pivot j m)) (f (λ e. some (g.rest i c (omega arith) hi hw ∙ e)) j l m))

  pub clearing_more : IsTaken n w c i s r → RowTakenFits w c i s → Clearing n w c (i + 1) t r
  clearing_more k f = record {
    done = λ a l h m q b d. ⊎_elim
        (λ e. subst (λ a. r a l ≡ t a l -ℚ t a c *ℚ t c l) (sym e)
        (k.row l b d ∙ (λ x. g.rest i l (omega arith) hi d x -ℚ g.rest i c (omega arith) hi hw x *ℚ g.pivot l d x)))
        (λ e. k.others a l m e d ∙ g.done a l (omega arith) m q b d)
        (cases_eq a i);
    fits = λ a h q. ⊎_elim (λ e. subst (λ a. RowTakenFits w c a t) (sym e) (taken_same f)) (λ e. g.fits a (omega arith) q) (cases_eq a i);
    rest = λ a l h m d. k.others a l m (λ e. omega arith) d ∙ g.rest a l (omega arith) m d;
    pivot = λ l d. k.others c l hc (λ e. apart (sym e)) d ∙ g.pivot l d;
  }

  pub clearing_wide : (RowTakenFits w c i s → ⊥) → RowsTakenFit n w c t → ⊥
  clearing_wide h f = h (taken_back (f i hi apart))

pub clearing_all : (n w c i : ℕ) (t s : Table) → n ≤ i → Clearing n w c i t s → IsCleared n w c t s
clearing_all n w c i t s h g = record { rows = λ k l m. g.done k l (omega arith) m; pivot = g.pivot }

-- ---- the whole column
module _ (n w c : ℕ) (e t₁ t₂ t₃ : Table) (hc : c < n) (hw : c < w) (x : SameFrom n w c t₁ e) (d : IsDivided n w c t₁ t₂) where
  quotient_is : (j : ℕ) → c ≤ j → j < w → t₁ c j /ℚ t₁ c c ≡ e c j /ℚ e c c
  quotient_is j l m = λ i. x c j hc l m i /ℚ x c c hc (omega arith) hw i

  divided_is : (j : ℕ) → c < j → j < w → t₂ c j ≡ e c j /ℚ e c c
  divided_is j l m = d.pivot j l m ∙ quotient_is j (omega arith) m

  other_is : (i j : ℕ) → i < n → i ≢ c → c ≤ j → j < w → t₂ i j ≡ e i j
  other_is i j hi q l m = d.others i j hi q m ∙ x i j hi l m

  pub column_same : IsCleared n w c t₂ t₃ → SameFrom n w (c + 1) t₃ (reduced c e)
  column_same k i j hi l m = ⊎_elim
      (λ q. subst (λ i. t₃ i j ≡ reduced c e i j) (sym q) (k.pivot j m ∙ divided_is j (omega arith) m ∙ sym (reduced-pivot c e c j refl)))
      (λ q.
      k.rows i j hi q (omega arith) m
      ∙ (λ y. other_is i j hi q (omega arith) m y -ℚ other_is i c hi q (omega arith) hw y *ℚ divided_is j (omega arith) m y)
      ∙ sym (reduced-other c e i j q))
      (cases_eq i c)

  pub column_fits : QuotientsFit w c t₁ → RowsTakenFit n w c t₂ → ColumnFits n w c e
  column_fits a b = record {
    quotients = λ j l m. subst FitsFrac (quotient_is j (omega arith) m) (a j l m);
    products = λ i j hi q some l m.
        subst₂ (λ u v. FitsFrac (u *ℚ v)) (other_is i c hi q (omega arith) hw) (divided_is j l m) (b i hi q (λ z. some (sym (other_is i c hi q (omega arith) hw) ∙ z)) j l m).product;
    differences = λ i j hi q some l m.
        subst₂ (λ u v. FitsSum u (neg_ℚ v)) (other_is i j hi q (omega arith) m) (λ y. other_is i c hi q (omega arith) hw y *ℚ divided_is j l m y)
        (b i hi q (λ z. some (sym (other_is i c hi q (omega arith) hw) ∙ z)) j l m).difference;
  }

  pub rows_from : ColumnFits n w c e → RowsTakenFit n w c t₂
  rows_from f i hi q some j l m = record {
    product = subst₂ (λ u v. FitsFrac (u *ℚ v)) (sym (other_is i c hi q (omega arith) hw)) (sym (divided_is j l m)) (f.products i j hi q (λ z. some (other_is i c hi q (omega arith) hw ∙ z)) l m);
    difference =
        subst₂ (λ u v. FitsSum u (neg_ℚ v)) (sym (other_is i j hi q (omega arith) m)) (λ y. sym (other_is i c hi q (omega arith) hw) y *ℚ sym (divided_is j l m) y)
        (f.differences i j hi q (λ z. some (other_is i c hi q (omega arith) hw ∙ z)) l m);
  }
