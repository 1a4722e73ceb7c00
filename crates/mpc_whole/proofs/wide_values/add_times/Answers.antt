use Rattle.std.proofs.Common.{[], ◌∷◌, ◌≡◌, ℤ, pos, ◌+ℤ◌, ◌*ℤ◌, length, sym, ◌∙◌, ap, to_z}
use Rattle.std.specs.Int.{w64}
use Rattle.std.proofs.lemmas.Int.{to_z-of_z}
use Rattle.mpc_exact.proofs.IntRing.{int_reads, by_ring_ℤ}
use Rattle.mpc_scaled.specs.Scaled.{whole_at, whole_cell}
use Rattle.mpc_whole.proofs.wide_values.add_times.Goals as goal

none_added : (x y : ℤ) → x ≡ x +ℤ (y *ℤ pos 0)
none_added x y = by_ring_ℤ (x ∷ y ∷ []) (search int_reads depth 30) (search int_reads depth 30) tt

pub returns-then-factor-eq0 : goal.returns-then-factor-eq0
returns-then-factor-eq0 c = λ j h.
    let zero : c.args.factor ≡ pos 0 = sym (to_z-of_z w64 c.args.factor c.ranges.factor) ∙ ap (to_z w64) c.if-factor-eq0.true in
    let cell = whole_cell (length c.args.list.now) c.args.numbers.now j c.args.column in
    none_added (whole_at c.args.list.now j) cell ∙ ap (λ u. whole_at c.args.list.now j +ℤ (cell *ℤ u)) (sym zero)
