use Rattle.std.proofs.Common.{◌≡◌, ℕ, ◌+◌, ◌*◌, ◌<◌, ◌≤◌, ◌^◌, [], ◌∷◌, ◌++◌, length, get_or, pos, false, neg_ℤ, unsigned_abs, to_z, of_z, sym, ◌∙◌, ap, subst, refl, le_refl, arith}
use Rattle.std.specs.Int.{w64}
use Rattle.std.proofs.lemmas.List.{get_or_read}
use Rattle.mpc_exact.specs.Rational.{frac}
use Rattle.mpc_space.specs.Vector.{coordinate}
use Rattle.mpc_rows.specs.SetRuns.{turned}
use Rattle.mpc_scaled.specs.Scaled.{whole_at}
use Rattle.mpc_scaled.specs.WholeSystems.{row_scale, kept_row}
use Rattle.mpc_scaled.proofs.TurnedWhole.{turned_entry, turned_side}
use Rattle.mpc_scaled.proofs.Small.{abs-negated}
use Rattle.mpc_scaled.proofs.Small.{read_small}
use Rattle.mpc_scaled.proofs.WholeSystems.{behind_listed, kept_whole}
use Rattle.std.proofs.lemmas.Result.{err_from_is_err_and}
use Rattle.mpc_scaled.proofs.systems.add_turned.Goals as goal

pub returns-clause-added : goal.returns-clause-added
returns-clause-added c _ =
    let l = c.args.lists.now in
    let o = c.requires.lists in
    let i = c.args.row in
    let k = row_scale l i in
    let z = to_z w64 (of_z w64 c.negative-side.result) in
    let stored : c.index.result.now ≡ whole_at l.b.items i = get_or_read l.b.items i c.index.result.now c.requires.row c.index.ensures (pos 0) in
    let tiny : unsigned_abs c.index.result.now ≤ 2 ^ 62 = subst (λ u. unsigned_abs u ≤ 2 ^ 62) (sym stored) (o.sides_small.each i) in
    let value : z ≡ neg_ℤ (whole_at l.b.items i) = read_small c.negative-side.result c.negative-side.ensures.small ∙ c.negative-side.ensures.value ∙ ap neg_ℤ (read_small c.index.result.now tiny ∙ stored) in
    let inside : l.width + i < length l.scales.items = (let e = o.scales_size in let r = c.requires.row in omega arith) in
    let scale : c.index-scale.result.now ≡ k = get_or_read l.scales.items (l.width + i) c.index-scale.result.now inside c.index-scale.ensures 0 in
    let there : i < length l.strict.items = (let e = o.strict_size in let r = c.requires.row in omega arith) in
    let strict : c.index-is_strict.result.now ≡ get_or l.strict.items i false = get_or_read l.strict.items i c.index-is_strict.result.now there c.index-is_strict.ensures false in
    let some : 0 < k = o.some (l.width + i) inside in
    let size = λ (m : ℕ) (s : unsigned_abs (whole_at l.b.items i) ≤ m). subst (λ u. u ≤ m) (sym (ap unsigned_abs value ∙ abs-negated (whole_at l.b.items i))) s in
    record {
      side = z;
      scale = k;
      some = some;
      small = o.small (l.width + i);
      value = turned_side l i some ∙ ap (λ u. frac u k) (sym value);
      side_small = size (2 ^ 62) (o.sides_small.each i);
      entries = behind_listed l.a.items c.add_negatives.new.coefficients.items l.width k (λ j. frac (neg_ℤ (whole_at l.a.items (i * l.width + j))) k) (coordinate (turned (kept_row l i)).a) l.most_entry (turned_entry l i some) (c.in_ok-add_negatives.ensures.behind k l.most_entry o.entries);
      sides = c.in_ok-add_ends.ensures.sides;
      scales = c.in_ok-add_ends.ensures.scales ∙ ap (λ u. l.scales.items ++ u ∷ []) scale;
      strict = c.in_ok-add_ends.ensures.strict ∙ ap (λ b. l.strict.items ++ b ∷ []) strict;
      side_bound = size l.most_side (o.sides.each i);
      scale_bound = o.scales (l.width + i);
    }

pub returns-in_err-add_negatives : goal.returns-in_err-add_negatives
returns-in_err-add_negatives c =
    let p = err_from_is_err_and c.from_residual.result c.from_residual.ensures.1 in
    rw p.1 (record { kept = record { width = refl; entries = c.add_negatives.ensures.kept; sides = kept_whole _; scales = kept_whole _; strict = kept_whole _; most_entry = le_refl _; most_side = le_refl _; most_scale = le_refl _ }; added = tt })

pub returns-in_err-add_ends : goal.returns-in_err-add_ends
returns-in_err-add_ends c =
    let p = err_from_is_err_and c.from_residual-in_err-add_ends.result c.from_residual-in_err-add_ends.ensures.1 in
    rw p.1 (record { kept = record { width = refl; entries = c.add_negatives.ensures.kept; sides = c.add_ends.ensures.sides_kept; scales = c.add_ends.ensures.scales_kept; strict = c.add_ends.ensures.strict_kept; most_entry = le_refl _; most_side = le_refl _; most_scale = le_refl _ }; added = tt })
