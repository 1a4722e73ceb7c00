use Rattle.std.proofs.Common.{◌≡◌, ◌&&◌, Bool, pos, sym, ◌∙◌, ap, Decides, int_eq}
use Rattle.std.specs.Cmp.{booleans_Decides}
use Rattle.std.proofs.lemmas.Bool.Decides.{Decides-and, Decides-int_eq}
use Rattle.std.proofs.lemmas.Slice.Eq.{slice_eq-Decides}
use Rattle.mpc_exact.specs.Rational.{ℚ, same_parts}
use Rattle.mpc_rows.specs.declared.systems.Row.{Row}
use Rattle.mpc_tree.proofs.runs.is_same.Goals as goal
use Rattle.mpc_tree.proofs.runs.is_same.Goals.{then-one-other, else-one-other}

abbrev same_numbers : ℚ → ℚ → Bool
same_numbers x y = int_eq x.numer y.numer && int_eq (pos x.denom) (pos y.denom)

numbers_decide : (x y : ℚ) → Decides (same_numbers x y) (x ≡ y)
numbers_decide x y =
    let both = Decides-and (int_eq x.numer y.numer) (int_eq (pos x.denom) (pos y.denom)) (Decides-int_eq x.numer y.numer) (Decides-int_eq (pos x.denom) (pos y.denom)) in
    (λ t. let parts = both.0 t in same_parts x y parts.0 (cc), λ e. both.1 (ap (λ (z : ℚ). z.numer) e, ap (λ (z : ℚ). pos z.denom) e))

same_row : (one other : Row) → one.strict ≡ other.strict → one.b ≡ other.b → one.a ≡ other.a → one ≡ other
same_row one other s b a = λ i. record { a = a i; b = b i; strict = s i }

pub returns-then-eq : goal.returns-then-eq
returns-then-eq c t = elim c.if-one-other.branch [
  | then-one-other w ↦
      let strict = (booleans_Decides c.args.one.now.strict c.args.other.now.strict).0 w.if-one-other.true in
      let b = (numbers_decide c.args.one.now.b c.args.other.now.b).0 (sym w.eq.ensures ∙ sym w.value-is ∙ c.if-eq.true) in
      let a = (slice_eq-Decides numbers_decide c.as_slice.result.now c.as_slice-then-eq.result.now c.eq-then-eq.result c.eq-then-eq.ensures).0 t in
      same_row c.args.one.now c.args.other.now strict b (sym c.as_slice.ensures ∙ a ∙ c.as_slice-then-eq.ensures)
  | else-one-other w ↦ absurd (cc)
]
