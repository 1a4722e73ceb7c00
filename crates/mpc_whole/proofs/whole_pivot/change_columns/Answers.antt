use Rattle.std.proofs.Common.{sym, ◌∙◌, ap, ◌≡◌, ◌≤◌, ◌<◌, ◌+◌, ◌*ℤ◌, ◌+ℤ◌, neg_ℤ, pos, get_or, length, arith, to_z, of_z, subst, unsigned_abs, inr, le_trans, le_refl}
use Rattle.std.specs.Int.{w64}
use Rattle.mpc_whole.specs.Changes.{IsChangedBy}
use Rattle.mpc_scaled.specs.Scaled.{whole_at}
use Rattle.mpc_runs.proofs.WholeWidths.{read_small}
use Rattle.mpc_runs.proofs.WholeLists.{set_small, set_bound}
use Rattle.mpc_whole.proofs.RowParts.{part_done, part_kept}
use Rattle.mpc_whole.proofs.whole_pivot.change_columns.Goals as goal

pub loop-column-preserved : goal.loop-column-preserved
loop-column-preserved c =
    let g = c.args.change in
    let x = c.args.row.now in
    let v = c.loop-column.numbers in
    let j = c.loop-column.column in
    let k = c.args.from + j in
    let z = to_z w64 (of_z w64 c.in_ok-new.new) in
    let b : k < length v = (let l : length v ≡ length c.args.numbers.now = c.loop-column.auto.numbers in let s = c.requires.inside in omega arith) in
    let back : z ≡ c.in_ok-new.new = read_small _ (le_trans c.in_ok-new.ensures.small c.requires.change.most_small) in
    let old : to_z w64 (of_z w64 (get_or v k (pos 0))) ≡ whole_at c.args.numbers.now k = read_small _ (le_trans (c.loop-column.invariant.small.each k) c.requires.change.most_small) ∙ c.loop-column.invariant.kept k (inr (le_refl k)) in
    let factor : to_z w64 (of_z w64 g.factor) ≡ g.factor = read_small _ (le_trans c.requires.change.factor_small c.requires.change.most_small) in
    let y : to_z w64 (of_z w64 (get_or x j (pos 0))) ≡ whole_at x j = read_small _ (c.requires.row_small.each j) in
    let is : IsChangedBy g (whole_at c.args.numbers.now k) (whole_at x j) z = ap (λ u. u *ℤ pos g.by.den) back ∙ c.in_ok-new.ensures.value ∙ (λ i. (old i *ℤ pos g.size) +ℤ neg_ℤ (factor i *ℤ y i)) in
    record {
      behind = (let e = c.loop-column.invariant.behind in omega arith);
      done = part_done g c.args.from c.args.first j c.args.numbers.now v x z b c.loop-column.invariant.done is;
      kept = part_kept c.args.from c.args.first j c.args.numbers.now v z b c.loop-column.invariant.behind c.loop-column.invariant.kept;
      small = set_small v k z b g.most c.loop-column.invariant.small (subst (λ u. unsigned_abs u ≤ g.most) (sym back) c.in_ok-new.ensures.small);
      own = λ q h. set_bound v k z b c.loop-column.own c.max-own.result c.loop-column.invariant.own (let e = c.max-own.ensures in omega arith) (let e = c.max-own.ensures in let f = c.unsigned_abs.ensures.value in omega arith) q (omega arith);
    }
