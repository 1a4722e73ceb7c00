-- Sums that may wrap on the way.
use Rattle.std.proofs.Common.{rules, ◌≡◌, ℕ, zero, suc, ◌+◌, ◌*◌, ◌%◌, ◌^◌, ◌<◌, ◌≤◌, ℤ, pos, ◌+ℤ◌, ◌*ℤ◌, FitsSigned, to_z, of_z, unsigned_abs, Bool, true, false, List, [], ◌∷◌, length, get_or, drop, refl, sym, ◌∙◌, ap, subst, arith, add-one, drop-cons}
use Rattle.std.specs.Prelude.{IsTrue, ◌↔◌, ◌≤ℤ◌, T}
use Rattle.std.specs.Int.Signed.{le_z, le_z_yes}
use Rattle.std.specs.Int.{int_wrap, w64, w128}
use Rattle.std.proofs.lemmas.Int.{ints, wraps, to_z-of_z, unsigned_abs-mul, fits_signed_from_abs, int_wrap_fits, wrapping_add-bits, int_wrap-add_left, int_wrap-add_right, int_wrap-mul_right}
use mir.Syntax.{Width as Bits}
use Rattle.mpc_controller.specs.Bounds.{reach}
use Rattle.mpc_table.specs.Forms.{weighed}
use Rattle.mpc_block.specs.declared.lines.Width.{Width}
use Rattle.mpc_block.specs.declared.lines.Width.TheVariants.{Short, Wide}
use Rattle.mpc_block.specs.Words.{number_at, entries}
use Rattle.mpc_block.specs.Sums.{greatest, KeepsWithin}

-- ---- one product more
pub short_wrapped : (sum a b : ℤ) → FitsSigned w64 sum → FitsSigned w64 a → FitsSigned w64 b → to_z w64 ((of_z w64 sum + of_z w64 a * of_z w64 b % 18446744073709551616) % 18446744073709551616) ≡ int_wrap w64 (sum +ℤ a *ℤ b)
short_wrapped sum a b f g h = search (rules, wraps, wrapping_add-bits w64)

pub wide_wrapped : (sum a b : ℤ) → FitsSigned w128 sum → FitsSigned w128 a → FitsSigned w128 b → to_z w128 ((of_z w128 sum + of_z w128 a * of_z w128 b % 340282366920938463463374607431768211456) % 340282366920938463463374607431768211456) ≡ int_wrap w128 (sum +ℤ a *ℤ b)
wide_wrapped sum a b f g h = search (rules, wraps, wrapping_add-bits w128)

-- a count is its own word modulo 2^64
count_wraps : (count : ℕ) → count < 2 ^ 64 → to_z w64 count ≡ int_wrap w64 (pos count)
unfolding int_wrap
count_wraps count h = let e : count ≡ count % 2 ^ 64 = omega arith in ap (to_z w64) e

pub by_count : (sum a : ℤ) (count : ℕ) → count < 2 ^ 64 → int_wrap w64 (sum +ℤ a *ℤ to_z w64 count) ≡ int_wrap w64 (sum +ℤ a *ℤ pos count)
by_count sum a count h =
    sym (int_wrap-add_right w64 sum (a *ℤ to_z w64 count))
    ∙ ap (λ z. int_wrap w64 (sum +ℤ z)) (ap (λ c. int_wrap w64 (a *ℤ c)) (count_wraps count h) ∙ int_wrap-mul_right w64 a (pos count))
    ∙ int_wrap-add_right w64 sum (a *ℤ pos count)

next_drop : {A : Type 0} (xs : List A) (i : ℕ) (d : A) → i < length xs → drop i xs ≡ get_or xs i d ∷ drop (i + 1) xs
next_drop xs i d h = rw (add-one, drop-cons xs i d) refl

assoc : (sum p w : ℤ) → sum +ℤ p +ℤ w ≡ sum +ℤ (p +ℤ w)
assoc sum p w = omega (arith, ints)

pub wrap_step : (bits : Bits) (ks : List ℤ) (ts : List ℕ) (i : ℕ) (sum next total : ℤ) → i < length ks → i < length ts → int_wrap bits (sum +ℤ weighed (drop i ks) (drop i ts)) ≡ total
    → next ≡ int_wrap bits (sum +ℤ (get_or ks i (pos 0) *ℤ pos (get_or ts i 0))) → int_wrap bits (next +ℤ weighed (drop (i + 1) ks) (drop (i + 1) ts)) ≡ total
wrap_step bits ks ts i sum next total h k before is =
    let p = get_or ks i (pos 0) *ℤ pos (get_or ts i 0) in
    let rest = weighed (drop (i + 1) ks) (drop (i + 1) ts) in
    let more : p +ℤ rest ≡ weighed (drop i ks) (drop i ts) = λ z. weighed (sym (next_drop ks i (pos 0) h) z) (sym (next_drop ts i 0 k) z) in
    ap (λ n. int_wrap bits (n +ℤ rest)) is ∙ int_wrap-add_left bits (sum +ℤ p) rest ∙ ap (int_wrap bits) (assoc sum p rest ∙ ap (λ z. sum +ℤ z) more) ∙ before

nothing_left : (ks : List ℤ) → weighed ks [] ≡ pos 0
nothing_left [] = refl
nothing_left (k ∷ ks) = refl

none_more : (z : ℤ) → z +ℤ pos 0 ≡ z
none_more z = omega (arith, ints)

none_before : (z : ℤ) → pos 0 +ℤ z ≡ z
none_before z = omega (arith, ints)

dropped : (i : ℕ) (ts : List ℕ) → length ts ≤ i → drop i ts ≡ []
dropped zero [] h = refl
dropped (suc i) [] h = refl
dropped zero (t ∷ ts) h = absurd (omega arith)
dropped (suc i) (t ∷ ts) h = dropped i ts (omega arith)

pub wrap_end : (bits : Bits) (ks : List ℤ) (ts : List ℕ) (i : ℕ) (sum total : ℤ) → length ts ≤ i → FitsSigned bits sum → int_wrap bits (sum +ℤ weighed (drop i ks) (drop i ts)) ≡ total → sum ≡ total
wrap_end bits ks ts i sum total end fits before =
    sym (int_wrap_fits bits sum fits) ∙ ap (int_wrap bits) (sym (none_more sum) ∙ ap (λ z. sum +ℤ z) (sym (ap (weighed (drop i ks)) (dropped i ts end) ∙ nothing_left (drop i ks)))) ∙ before

pub wrap_start : (bits : Bits) (ks : List ℤ) (ts : List ℕ) → int_wrap bits (pos 0 +ℤ weighed ks ts) ≡ int_wrap bits (weighed ks ts)
wrap_start bits ks ts = ap (int_wrap bits) (none_before (weighed ks ts))

-- ---- the entries of a line
pub entry_is : (width : Width) (line : List ℕ) (i : ℕ) → i < 4 → get_or (entries width line) i (pos 0) ≡ number_at width line (2 + i)
entry_is width line zero h = refl
entry_is width line (suc zero) h = refl
entry_is width line (suc (suc zero)) h = refl
entry_is width line (suc (suc (suc zero))) h = refl
entry_is width line (suc (suc (suc (suc i)))) h = absurd (omega arith)

-- ---- sums within their reach
pub abs_weighed : (ks : List ℤ) (ts : List ℕ) → unsigned_abs (weighed ks ts) ≤ reach ks ts
abs_weighed [] ts = omega arith
abs_weighed (k ∷ ks) [] = omega arith
abs_weighed (k ∷ ks) (t ∷ ts) =
    let size : unsigned_abs (k *ℤ pos t) ≡ unsigned_abs k * t = unsigned_abs-mul k (pos t) in
    let sum : unsigned_abs (k *ℤ pos t +ℤ weighed ks ts) ≤ unsigned_abs (k *ℤ pos t) + unsigned_abs (weighed ks ts) = two (k *ℤ pos t) (weighed ks ts) in
    omega (arith, size, sum, abs_weighed ks ts)
  where
    two : (x y : ℤ) → unsigned_abs (x +ℤ y) ≤ unsigned_abs x + unsigned_abs y
    two x y = omega (arith, ints)

-- ---- what a comparison says of a row that keeps within its words
compared : (bits : Bits) (sum bound w b : ℤ) → FitsSigned bits sum → FitsSigned bits bound → sum ≡ w → bound ≡ b → IsTrue (le_z (to_z bits (of_z bits sum)) (to_z bits (of_z bits bound))) ↔ (w ≤ℤ b)
compared bits sum bound w b f g sum_is bound_is =
    let s : to_z bits (of_z bits sum) ≡ w = to_z-of_z bits sum f ∙ sum_is in
    let t : to_z bits (of_z bits bound) ≡ b = to_z-of_z bits bound g ∙ bound_is in
    (λ h. le_z_yes (subst T (sym ((λ i. le_z (sym s i) (sym t i)) ∙ h)) tt), λ h. (λ i. le_z (s i) (t i)) ∙ said (le_z w b) h.le)
  where
    said : (a : Bool) → T a → a ≡ true
    said true h = refl
    said false h = absurd h

within : (line counts : List ℕ) (width : Width) → KeepsWithin width line counts → unsigned_abs (weighed (entries width line) counts) < greatest width
within line counts width h = omega (arith, h, abs_weighed (entries width line) counts)

pub short_holds : (width : Width) (line counts : List ℕ) (sum bound : ℤ) → width ≡ Short → FitsSigned w64 sum → FitsSigned w64 bound → sum ≡ int_wrap w64 (pos 0 +ℤ weighed (entries Short line) counts) → bound ≡ number_at Short line 1
    → KeepsWithin width line counts → IsTrue (le_z (to_z w64 (of_z w64 sum)) (to_z w64 (of_z w64 bound))) ↔ (weighed (entries width line) counts ≤ℤ number_at width line 1)
short_holds Short line counts sum bound e f g sum_is bound_is keeps =
    compared w64 sum bound _ _ f g (sum_is ∙ wrap_start w64 (entries Short line) counts ∙ int_wrap_fits w64 (weighed (entries Short line) counts) (fits_signed_from_abs w64 _ (within line counts Short keeps))) bound_is
short_holds Wide line counts sum bound e f g sum_is bound_is keeps = absurd cc

pub wide_holds : (width : Width) (line counts : List ℕ) (sum bound : ℤ) → width ≡ Wide → FitsSigned w128 sum → FitsSigned w128 bound → sum ≡ int_wrap w128 (pos 0 +ℤ weighed (entries Wide line) counts) → bound ≡ number_at Wide line 1
    → KeepsWithin width line counts → IsTrue (le_z (to_z w128 (of_z w128 sum)) (to_z w128 (of_z w128 bound))) ↔ (weighed (entries width line) counts ≤ℤ number_at width line 1)
wide_holds Wide line counts sum bound e f g sum_is bound_is keeps =
    compared w128 sum bound _ _ f g (sum_is ∙ wrap_start w128 (entries Wide line) counts ∙ int_wrap_fits w128 (weighed (entries Wide line) counts) (fits_signed_from_abs w128 _ (within line counts Wide keeps))) bound_is
wide_holds Short line counts sum bound e f g sum_is bound_is keeps = absurd cc
