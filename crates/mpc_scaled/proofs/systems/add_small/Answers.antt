use Rattle.std.proofs.Common.{◌≡◌, ◌++◌, ◌∷◌, [], ◌∙◌, ap, arith, refl, le_refl, unsigned_abs, to_z, of_z, lit<}
use Rattle.std.specs.Int.{w64}
use Rattle.mpc_rows.specs.LawRows.{whole_row}
use Rattle.mpc_space.specs.Vector.{coordinate}
use Rattle.mpc_scaled.proofs.Small.{read_small}
use Rattle.mpc_scaled.proofs.WholeSystems.{behind_as, kept_whole, kept_as, kept_behind}
use Rattle.mpc_scaled.proofs.WholeAppended.{behind_both}
use Rattle.std.proofs.lemmas.Result.{err_from_is_err_and}
use Rattle.mpc_scaled.proofs.systems.add_small.Goals as goal

pub returns-clause-added : goal.returns-clause-added
returns-clause-added c =
    let l = c.args.lists.now in
    let entries = c.args.entries.now in
    let z = c.args.side in
    let read : to_z w64 (of_z w64 z) ≡ z = read_small z c.requires.side_small in
    let u : c.unsigned_abs.result ≡ unsigned_abs z = c.unsigned_abs.ensures.value ∙ ap unsigned_abs read in
    let m = c.max-lists-2.ensures in
    record {
      side = z;
      scale = 1;
      some = lit< tt;
      small = (omega arith);
      value = refl;
      side_small = c.requires.side_small;
      entries = behind_as l.a.items c.extend_from_slice.new.self.items _ l.width 1 _ (coordinate (whole_row (record { a = entries; b = z })).a) c.max-lists.result c.requires.width (λ j. refl)
          (behind_both l.a.items entries c.extend_from_slice.new.self.items l.most_entry c.greatest.result c.max-lists.result c.in_ok-extend_from_slice.ensures.items c.requires.lists.entries c.greatest.ensures c.max-lists.ensures c.requires.entries_small z);
      sides = c.in_ok-add_ends.ensures.sides ∙ ap (λ v. l.b.items ++ v ∷ []) read;
      scales = c.in_ok-add_ends.ensures.scales;
      strict = c.in_ok-add_ends.ensures.strict;
      side_bound = (omega arith);
      scale_bound = c.requires.lists.some_scale;
    }

pub returns-in_err-extend_from_slice : goal.returns-in_err-extend_from_slice
returns-in_err-extend_from_slice c =
    let p = err_from_is_err_and c.from_residual.result c.from_residual.ensures.1 in
    rw p.1 (record { kept = record { width = refl; entries = kept_as _ _ c.in_err-extend_from_slice.ensures.items; sides = kept_whole _; scales = kept_whole _; strict = kept_whole _; most_entry = le_refl _; most_side = le_refl _; most_scale = le_refl _ }; added = tt })

pub returns-in_err-add_ends : goal.returns-in_err-add_ends
returns-in_err-add_ends c =
    let p = err_from_is_err_and c.from_residual-in_err-add_ends.result c.from_residual-in_err-add_ends.ensures.1 in
    rw p.1 (record { kept = record { width = refl; entries = kept_behind _ _ _ c.in_ok-extend_from_slice.ensures.items; sides = c.add_ends.ensures.sides_kept; scales = c.add_ends.ensures.scales_kept; strict = c.add_ends.ensures.strict_kept; most_entry = le_refl _; most_side = le_refl _; most_scale = le_refl _ }; added = tt })
