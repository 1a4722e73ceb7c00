-- A run that ends with a point: its pairs meet the system at every small enough positive d.
use Rattle.std.proofs.Common.{◌≡◌, ℕ, zero, suc, ◌+◌, ◌<◌, Bool, true, false, cond, pos, negsuc, [], ◌∷◌, sym, ◌∙◌, ap, subst, subst₂, arith, ◌⊎◌, inl, inr, lit<}
use Rattle.std.proofs.lemmas.Bool.{cases_eq, cases_Bool}
use Rattle.mpc_exact.specs.Rational.{ℚ, int, ◌+ℚ◌, ◌-ℚ◌, ◌*ℚ◌, inv_ℚ, ◌≤ℚ◌, ◌<ℚ◌}
use Rattle.mpc_exact.proofs.Rational.{*ℚ_inv}
use Rattle.mpc_exact.proofs.RationalRing.{reads, by_ring, by_equation}
use Rattle.mpc_exact.proofs.RationalOrder.{IsPositive, positive_int, positive-mul, nonneg-mul, positive-add, gap, strict_gap, by_le, by_lt, le_or_lt, ≤ℚ_of_<, ≤ℚ_refl, <ℚ_irrefl, <ℚ-≤ℚ_trans, inv_positive}
use Rattle.mpc_exact.specs.Pair.{Pair, IsAtMost}
use Rattle.mpc_rows.specs.LinearSystem.{LinearSystem, row_at, height, entry, IsWithin}
use Rattle.mpc_rows.specs.NumberedSystems.{left_side, IsPairPointBy, pair_at}
use Rattle.mpc_rows.specs.Run.{has_point, bound, value, turn, position}
use Rattle.mpc_space.proofs.Total.{total-same, total-add, total-scale}
use Rattle.mpc_runs.proofs.Turn.{TurnIs, turn-at}
use Rattle.mpc_runs.proofs.LeftSides.{bound-first, bound-second, side_value, is_side}
use Rattle.mpc_runs.proofs.Positions.{same_rows, firsts, seconds, firsts_meet, seconds_meet, value_rest, rest_side}

-- ---- one row: f + d g stays at most b for small d
pub record Small (strict : Bool) (f g b : ℚ) : Type 0 where
  pub reach : ℚ
  pub some : IsPositive reach
  pub met : (d : ℚ) → IsPositive d → d <ℚ reach → IsWithin strict (f +ℚ d *ℚ g) b

met_by : (strict : Bool) (x b : ℚ) → x <ℚ b → IsWithin strict x b
met_by true x b h = h
met_by false x b h = ≤ℚ_of_< h

falling : (f g b d : ℚ) → f <ℚ b → g ≤ℚ int (pos 0) → IsPositive d → (f +ℚ d *ℚ g) <ℚ b
falling f g b d h k p = by_lt (f ∷ g ∷ b ∷ d ∷ []) (positive-add (strict_gap h) (nonneg-mul (≤ℚ_of_< p) (gap k))) (search reads depth 30) (search reads depth 30) tt

positive_some : (g : ℚ) → IsPositive g → g ≡ int (pos 0) → ⊥
positive_some g h e = <ℚ_irrefl (subst (λ z. IsPositive z) e h)

-- d < (b - f) i, where g i = 1
rising : (f g b d i : ℚ) → IsPositive g → g *ℚ i ≡ int (pos 1) → d <ℚ ((b -ℚ f) *ℚ i) → (f +ℚ d *ℚ g) <ℚ b
rising f g b d i p e h = scaled f g b d i e (positive-mul p (strict_gap h))
  where
    scaled : (f g b d i : ℚ) → g *ℚ i ≡ int (pos 1) → IsPositive (g *ℚ ((b -ℚ f) *ℚ i -ℚ d)) → (f +ℚ d *ℚ g) <ℚ b
    scaled f g b d i e h =
        let same : g *ℚ ((b -ℚ f) *ℚ i -ℚ d) ≡ b -ℚ (f +ℚ d *ℚ g) = by_equation (b -ℚ f) e (by_ring (f ∷ g ∷ b ∷ d ∷ i ∷ []) (search reads depth 30) (search reads depth 30) tt) in
        by_lt (f ∷ g ∷ b ∷ d ∷ []) (subst (λ z. IsPositive z) same h) (search reads depth 30) (search reads depth 30) tt

inside : (strict : Bool) (f g b : ℚ) → f <ℚ b → (g ≤ℚ int (pos 0)) ⊎ (int (pos 0) <ℚ g) → Small strict f g b
inside strict f g b h (inl k) = record { reach = int (pos 1); some = positive_int 1 (lit< tt); met = λ d p l. met_by strict (f +ℚ d *ℚ g) b (falling f g b d h k p) }
inside strict f g b h (inr k) = record {
  reach = (b -ℚ f) *ℚ inv_ℚ g;
  some = positive-mul (strict_gap h) (inv_positive k);
  met = λ d p l. met_by strict (f +ℚ d *ℚ g) b (rising f g b d (inv_ℚ g) k (*ℚ_inv g (positive_some g k)) l);
}

on_border : (strict : Bool) (f g b d : ℚ) → f ≡ b → g ≤ℚ cond strict (int (negsuc 0)) (int (pos 0)) → IsPositive d → IsWithin strict (f +ℚ d *ℚ g) b
on_border true f g b d e k p =
    subst (λ z. (f +ℚ d *ℚ g) <ℚ z) e (by_lt (f ∷ g ∷ d ∷ []) (positive-add p (nonneg-mul (≤ℚ_of_< p) (gap k))) (search reads depth 30) (search reads depth 30) tt)
on_border false f g b d e k p =
    subst (λ z. (f +ℚ d *ℚ g) ≤ℚ z) e (by_le (f ∷ g ∷ d ∷ []) (nonneg-mul (≤ℚ_of_< p) (gap k)) (search reads depth 30) (search reads depth 30) tt)

small : (strict : Bool) (f g b : ℚ) → (f <ℚ b) ⊎ ((f ≡ b) × (g ≤ℚ cond strict (int (negsuc 0)) (int (pos 0)))) → Small strict f g b
small strict f g b (inl h) = inside strict f g b h (le_or_lt g (int (pos 0)))
small strict f g b (inr h) = record { reach = int (pos 1); some = positive_int 1 (lit< tt); met = λ d p l. on_border strict f g b d h.0 h.1 p }

-- ---- all rows
record AllSmall (s : LinearSystem) (f g : ℕ → ℚ) (n : ℕ) : Type 0 where
  reach : ℚ
  some : IsPositive reach
  met : (d : ℚ) → IsPositive d → d <ℚ reach → (i : ℕ) → i < n → IsWithin (row_at s i).strict (f i +ℚ d *ℚ g i) (row_at s i).b

both_small : (s : LinearSystem) (f g : ℕ → ℚ) (n : ℕ) → AllSmall s f g n → Small (row_at s n).strict (f n) (g n) (row_at s n).b → AllSmall s f g (suc n)
both_small s f g n a b = by (le_or_lt a.reach b.reach)
  where
    met_cases : (d : ℚ) → IsPositive d → d <ℚ a.reach → d <ℚ b.reach → (i : ℕ) → i < suc n → (i ≡ n) ⊎ (i ≡ n → ⊥) → IsWithin (row_at s i).strict (f i +ℚ d *ℚ g i) (row_at s i).b
    met_cases d p h k i l (inl e) = subst (λ z. IsWithin (row_at s z).strict (f z +ℚ d *ℚ g z) (row_at s z).b) (sym e) (b.met d p k)
    met_cases d p h k i l (inr e) = a.met d p h i (omega arith)

    by : (a.reach ≤ℚ b.reach) ⊎ (b.reach <ℚ a.reach) → AllSmall s f g (suc n)
    by (inl h) = record { reach = a.reach; some = a.some; met = λ d p l i m. met_cases d p l (<ℚ-≤ℚ_trans l h) i m (cases_eq i n) }
    by (inr h) = record { reach = b.reach; some = b.some; met = λ d p l i m. met_cases d p (<ℚ-≤ℚ_trans l (≤ℚ_of_< h)) l i m (cases_eq i n) }

all_small : (s : LinearSystem) (f g : ℕ → ℚ) (n : ℕ) → ((i : ℕ) → i < n → Small (row_at s i).strict (f i) (g i) (row_at s i).b) → AllSmall s f g n
all_small s f g zero h = record { reach = int (pos 1); some = positive_int 1 (lit< tt); met = λ d p l i m. absurd (omega arith) }
all_small s f g (suc n) h = both_small s f g n (all_small s f g n (λ i l. h i (omega arith))) (h n (omega arith))

-- the left side at q + d r
split_term : (a x d y : ℚ) → a *ℚ (x +ℚ d *ℚ y) ≡ a *ℚ x +ℚ d *ℚ (a *ℚ y)
split_term a x d y = by_ring (a ∷ x ∷ d ∷ y ∷ []) (search reads depth 30) (search reads depth 30) tt

pub left_side-pair : (s : LinearSystem) (i : ℕ) (p : ℕ → Pair) (d : ℚ) → left_side s i (pair_at p d) ≡ left_side s i (λ j. (p j).first) +ℚ d *ℚ left_side s i (λ j. (p j).second)
left_side-pair s i p d =
    total-same s.width (λ j. entry s i j *ℚ pair_at p d j) (λ j. entry s i j *ℚ (p j).first +ℚ d *ℚ (entry s i j *ℚ (p j).second)) (λ j h. split_term (entry s i j) (p j).first d (p j).second)
    ∙ total-add s.width (λ j. entry s i j *ℚ (p j).first) (λ j. d *ℚ (entry s i j *ℚ (p j).second))
    ∙ ap (λ u. left_side s i (λ j. (p j).first) +ℚ u) (total-scale s.width d (λ j. entry s i j *ℚ (p j).second))

-- pairs whose left sides are at most the bounds
pub pair_point : (s : LinearSystem) (p : ℕ → Pair) → ((i : ℕ) → i < height s → IsAtMost (record { first = left_side s i (λ j. (p j).first); second = left_side s i (λ j. (p j).second) }) (bound s (s.width + i))) → IsPairPointBy s p
pair_point s p h =
    let f : ℕ → ℚ = λ i. left_side s i (λ j. (p j).first) in
    let g : ℕ → ℚ = λ i. left_side s i (λ j. (p j).second) in
    let a : AllSmall s f g (height s) = all_small s f g (height s) (λ i l. small (row_at s i).strict (f i) (g i) (row_at s i).b (row s i (f i) (g i) (h i l))) in
    record { reach = a.reach; some = a.some; meets = λ d q l. record { meets = λ i m. subst (λ u. IsWithin (row_at s i).strict u (row_at s i).b) (sym (left_side-pair s i p d)) (a.met d q l i m) } }
  where
    row : (s : LinearSystem) (i : ℕ) (f g : ℚ) → IsAtMost (record { first = f; second = g }) (bound s (s.width + i)) → (f <ℚ (row_at s i).b) ⊎ ((f ≡ (row_at s i).b) × (g ≤ℚ cond (row_at s i).strict (int (negsuc 0)) (int (pos 0))))
    row s i f g h = subst₂ (λ u v. (f <ℚ u) ⊎ ((f ≡ u) × (g ≤ℚ v))) (bound-first s i) (bound-second s i) h.at_most

at_most_same : {p q : Pair} → p ≡ q → IsAtMost p q
at_most_same {p} {q} e = record { at_most = inr (ap (λ (z : Pair). z.first) e, subst (λ (z : Pair). p.second ≤ℚ z.second) e (≤ℚ_refl p.second)) }

-- at an end with a point, every s is at most its bound
sides_kept : (s : LinearSystem) (k : ℕ) → TurnIs s (position s k) has_point → (i : ℕ) → i < height s → IsAtMost (value s (position s k) (s.width + i)) (bound s (s.width + i))
sides_kept s k t i h = by (cases_Bool ((position s k).is_basic (s.width + i)))
  where
    by : ((position s k).is_basic (s.width + i) ≡ true) ⊎ ((position s k).is_basic (s.width + i) ≡ false) → IsAtMost (value s (position s k) (s.width + i)) (bound s (s.width + i))
    by (inl b) = t (s.width + i) (omega arith) (omega arith) b
    by (inr b) = at_most_same (value_rest s k (s.width + i) (omega arith) b ∙ rest_side s (s.width + i) (is_side s i))

-- the theorem
pub point_right : (s : LinearSystem) (k : ℕ) → turn s (position s k) ≡ has_point → IsPairPointBy s (value s (position s k))
point_right s k e =
    pair_point s (value s (position s k)) (λ i h.
    subst₂ (λ u v. IsAtMost (record { first = u; second = v }) (bound s (s.width + i)))
    (side_value s (firsts s (position s k)) ((same_rows s k).back (firsts s (position s k)) (firsts_meet s k)) i h)
    (side_value s (seconds s (position s k)) ((same_rows s k).back (seconds s (position s k)) (seconds_meet s k)) i h)
    (sides_kept s k (turn-at s (position s k) has_point e) i h))
